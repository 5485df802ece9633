-- A report credits exactly the outstanding packets that it names received.
use Rattle.std.proofs.Common.{◌≡◌, ◌↔◌, ℕ, ◌≤◌, Bool, true, false, cond, nat_lt, List, ◌∷◌, ◌++◌, map, Contains, refl, ◌∙◌, ap}
use Rattle.std.specs.Prelude.{Result, Ok}
use Rattle.std.proofs.lemmas.Bool.{le-ltb}
use Rattle.gcc_units.specs.declared.limits.TheConstants.{GREATEST_MOMENT}
use Rattle.twcc_report.specs.declared.fault.ReportFault.{ReportFault}
use Rattle.twcc_report.specs.Spelling.{Feedback}
use Rattle.twcc_report.specs.Reading.{read_of}
use Rattle.sent_history.specs.Crediting.{account, judged, credits_in}
use Rattle.sent_history.specs.Balance.{IsOutstanding, IsNamedReceived}
use Rattle.sent_history.specs.Laws.{credits_exact}
use Rattle.send_core.specs.declared.call.Call.{Call}
use Rattle.send_core.specs.declared.call.Call.TheVariants.{Enqueue, Pace, Report, Configure}
use Rattle.send_core.specs.declared.call.Reply.TheVariants.{Refused}
use Rattle.send_core.specs.declared.call.Cause.TheVariants as cause
use Rattle.send_core.specs.declared.call.Entry.{Entry}
use Rattle.send_core.specs.History.{at_of, later, now}
use Rattle.send_core.specs.Reports.{events}
use Rattle.send_core.specs.Reply.{reported, reply_in_time, reply, IsAnswered}
use Rattle.send_laws.specs.Credits.{Brings, credits, number_of}
use Rattle.send_laws.proofs.Sending.{answered-reply}

credits-read : (h : List Entry) (m : ℕ) (report : Feedback) (o : Result Feedback ReportFault) → o ≡ Ok report
    → credits (reported h m o) ≡ credits_in (judged (events h) report)
credits-read h m report o is = rw is refl

credits-in_time : (h : List Entry) (m : ℕ) (c : Call) (report : Feedback) → Brings c report
    → credits (reply_in_time h m c) ≡ credits_in (judged (events h) report)
credits-in_time h m (Enqueue at class wire) report brings = absurd brings
credits-in_time h m (Pace at) report brings = absurd brings
credits-in_time h m (Report at bytes) report brings = credits-read h m report (read_of bytes.items) brings
credits-in_time h m (Configure at change) report brings = absurd brings

credits-are : (h : List Entry) (c : Call) (report : Feedback) → Brings c report → at_of c ≤ GREATEST_MOMENT
    → credits (reply h c) ≡ credits_in (judged (events h) report)
credits-are h c report brings le = by_time (nat_lt GREATEST_MOMENT (at_of c)) (le-ltb GREATEST_MOMENT (at_of c) le)
  where
    by_time : (b : Bool) → b ≡ false → credits (cond b (Refused (now h) cause.MomentTooLarge) (reply_in_time h (later (now h) c) c)) ≡ credits_in (judged (events h) report)
    by_time true e = absurd cc
    by_time false e = credits-in_time h (later (now h) c) c report brings

pub credited-exactly : (before rest : List Entry) (e : Entry) (report : Feedback) (n : ℕ) → IsAnswered (before ++ e ∷ rest)
    → Brings e.call report → at_of e.call ≤ GREATEST_MOMENT
    → Contains (map number_of (credits e.reply)) n ↔ (IsOutstanding (account (events before)) n × IsNamedReceived (account (events before)) report n)
credited-exactly before rest e report n legal brings le =
    let is : credits e.reply ≡ credits_in (judged (events before) report) =
    ap credits (answered-reply before rest e legal) ∙ credits-are before e.call report brings le in
    rw is (credits_exact (account (events before)) report n)
