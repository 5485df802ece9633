-- Over a whole history no number is credited twice, and each packet is credited, outstanding or expired.
use Rattle.std.proofs.Common.{◌≡◌, ◌≢◌, ℕ, suc, ◌+◌, Result, Ok, Err, List, [], ◌∷◌, length, map, All, AllPairs, refl, sym, ◌∙◌, ap, arith, length-append}
use Rattle.std.proofs.lemmas.List.Elements.{All-nil, All-cons, All-head, All-tail, All-append}
use Rattle.std.proofs.lemmas.Grind.{flat_map-append}
use Rattle.twcc_report.specs.declared.fault.ReportFault.{ReportFault}
use Rattle.twcc_report.specs.Spelling.{Feedback}
use Rattle.twcc_report.specs.Reading.{read_of}
use Rattle.twcc_report.specs.FewStatuses.{few_statuses}
use Rattle.sent_history.specs.Events.{packets, packet_in, reports, report_in}
use Rattle.sent_history.specs.Crediting.{account, outstanding}
use Rattle.sent_history.specs.Balance.{HasFewStatuses, expired}
use Rattle.sent_history.specs.Laws.{credited_once, packets_balance}
use Rattle.pacer.specs.declared.sent.Sent.{Sent}
use Rattle.send_core.specs.declared.call.Call.{Call}
use Rattle.send_core.specs.declared.call.Call.TheVariants as call_kind
use Rattle.send_core.specs.declared.call.Reply.{Reply}
use Rattle.send_core.specs.declared.call.Reply.TheVariants as reply_kind
use Rattle.send_core.specs.declared.call.Entry.{Entry}
use Rattle.send_core.specs.History.{sent, sent_by}
use Rattle.send_core.specs.Reports.{added_of, reported_of, events, events_by}
use Rattle.send_laws.specs.Credits.{HasBytes, BringsBytes, AreByteReports}

-- ---- what an entry adds to packets and reports

few-read : (o : Result Feedback ReportFault) → ((report : Feedback) → o ≡ Ok report → HasFewStatuses report) → All HasFewStatuses (reports (reported_of o))
few-read (Err fault) few = All-nil HasFewStatuses
few-read (Ok report) few = All-cons HasFewStatuses report [] (few report refl) (All-nil HasFewStatuses)

no-reports : (moment : ℕ) (rs : List Sent) → reports (map (added_of moment) rs) ≡ []
no-reports moment [] = refl
no-reports moment (r ∷ rs) = no-reports moment rs

few-by : (call : Call) (given : Reply) → BringsBytes call → All HasFewStatuses (reports (events_by call given))
few-by call (reply_kind.Paced moment records) all = rw (no-reports moment records.items) (All-nil HasFewStatuses)
few-by (call_kind.Report at bytes) (reply_kind.Credited moment judged signal m acked rates shares) all = few-read (read_of bytes.items) (few_statuses bytes.items all)
few-by call given all = All-nil HasFewStatuses

pub few-reports : (history : List Entry) → AreByteReports history → All HasFewStatuses (reports (events history))
few-reports [] all = All-nil HasFewStatuses
few-reports (e ∷ rest) all =
    rw (flat_map-append report_in (events_by e.call e.reply) (events rest))
    (All-append HasFewStatuses (reports (events_by e.call e.reply)) (reports (events rest)) (few-by e.call e.reply (All-head HasBytes e rest all)) (few-reports rest (All-tail HasBytes e rest all)))

packets-added : (moment : ℕ) (rs : List Sent) → length (packets (map (added_of moment) rs)) ≡ length rs
packets-added moment [] = refl
packets-added moment (r ∷ rs) = ap suc (packets-added moment rs)

none-read : (o : Result Feedback ReportFault) → length (packets (reported_of o)) ≡ 0
none-read (Err fault) = refl
none-read (Ok report) = refl

packets-by : (call : Call) (given : Reply) → length (packets (events_by call given)) ≡ length (sent_by given)
packets-by call (reply_kind.Paced moment records) = packets-added moment records.items
packets-by (call_kind.Report at bytes) (reply_kind.Credited moment judged signal m acked rates shares) = none-read (read_of bytes.items)
packets-by (call_kind.Enqueue at class wire) (reply_kind.Credited moment judged signal m acked rates shares) = refl
packets-by (call_kind.Pace at) (reply_kind.Credited moment judged signal m acked rates shares) = refl
packets-by (call_kind.Configure at change) (reply_kind.Credited moment judged signal m acked rates shares) = refl
packets-by call (reply_kind.Accepted moment index) = refl
packets-by call (reply_kind.Configured moment rates shares) = refl
packets-by call (reply_kind.Refused moment cause) = refl

pub packets-sent : (history : List Entry) → length (packets (events history)) ≡ length (sent history)
packets-sent [] = refl
packets-sent (e ∷ rest) =
    rw (flat_map-append packet_in (events_by e.call e.reply) (events rest))
    (omega (
      arith,
      length-append (packets (events_by e.call e.reply)) (packets (events rest)),
      length-append (sent_by e.reply) (sent rest),
      packets-by e.call e.reply,
      packets-sent rest,
    ))

pub none-twice : (history : List Entry) → AreByteReports history → AllPairs (λ (m n : ℕ). m ≢ n) (account (events history)).credited
none-twice history all = credited_once (events history) (few-reports history all)

pub balanced : (history : List Entry) → AreByteReports history
    → length (sent history) ≡ length (account (events history)).credited + outstanding (events history) + expired (events history)
balanced history all = sym (packets-sent history) ∙ packets_balance (events history) (few-reports history all)
