-- A live sender that stood for a history stands for it with one more entry.
use Rattle.std.proofs.Common.{◌≡◌, ℕ, ◌+◌, ◌==◌, Bool, true, false, cond, nat_lt, Option, None, Some, Result, Ok, Err, List, [], ◌∷◌, ◌++◌, length, map, All, refl, sym, ◌∙◌, ap, subst, arith, length-append, eqb-true}
use Rattle.std.specs.Option.{option_map}
use Rattle.std.proofs.lemmas.List.{append-nil}
use Rattle.std.proofs.lemmas.Bool.{eq-eqb}
use Rattle.std.proofs.lemmas.Grind.{flat_map-append}
use Rattle.gcc_units.specs.Listed.{Listed}
use Rattle.gcc_units.specs.declared.class.Class.{Class}
use Rattle.sent_history.specs.Events.{report_in, reports}
use Rattle.gcc_units.specs.declared.limits.TheConstants.{GREATEST_MOMENT}
use Rattle.twcc_report.specs.declared.fault.ReportFault.{ReportFault}
use Rattle.twcc_report.specs.Reading.{read_of}
use Rattle.twcc_report.specs.Spelling.{Feedback}
use Rattle.pacer.specs.declared.sent.Sent.{Sent}
use Rattle.pacer.specs.Pace.{NamesBelow, names, unsent}
use Rattle.pacer.proofs.Records.{unsent-none}
use Rattle.send_core.specs.declared.call.Call.{Call}
use Rattle.send_core.specs.declared.call.Call.TheVariants as call_kind
use Rattle.send_core.specs.declared.call.Cause.TheVariants as cause_kind
use Rattle.send_core.specs.declared.call.Change.{Change}
use Rattle.send_core.specs.declared.call.Reply.{Reply}
use Rattle.send_core.specs.declared.call.Reply.TheVariants as reply_kind
use Rattle.send_core.specs.declared.call.Entry.{Entry}
use Rattle.send_core.specs.History.{AcceptedPacket, entry, now, later, accepted_by, accepted, ticket_of, tickets_from, sent, sent_by, waiting}
use Rattle.send_core.specs.Reports.{added_of, reported_of, events_by, events}
use Rattle.send_core.specs.Reply.{reported, reply_in_time, reply}
use Rattle.send_core.specs.Stands.{Steps}
use Rattle.send_core.proofs.Legality.{each-push}
use Rattle.send_core.proofs.Pushes.{accepted-push, events-push, waiting-below, waiting-push}
use Rattle.send_core.proofs.Standing.{stands-push}
use Rattle.live_sender.specs.Held.{Held, bytes_in, kept, under}
use Rattle.live_sender.specs.Replies.{is_accepted, is_judged}
use Rattle.live_sender.specs.Live.{bytes_among, Live, StandsFor}
use Rattle.live_sender.specs.Sums.{sums_of}
use Rattle.live_sender.proofs.Among.{bytes-unsent, bytes-accepted, bytes-next}

-- the parts, the bytes, the count of reports and the sums together
pub live-push : (h : List Entry) (before after : Live) (caller : ℕ) (call : Call) (given : Reply) → StandsFor before h → Steps call given before.parts after.parts → given ≡ reply h call
    → ((k : ℕ) → under after.packets k ≡ bytes_among (waiting (h ++ entry caller call given ∷ [])) (accepted (h ++ entry caller call given ∷ [])) k)
    → after.judged ≡ before.judged + length (reports (events_by call given))
    → after.sums ≡ sums_of (h ++ entry caller call given ∷ [])
    → StandsFor after (h ++ entry caller call given ∷ [])
live-push h before after caller call given s steps is packets judged sums =
    let e : Entry = entry caller call given in
    let all : length (reports (events (h ++ e ∷ []))) ≡ length (reports (events h)) + length (reports (events_by call given)) =
    ap (λ es. length (reports es)) (events-push h e)
    ∙ (ap (length {A = Feedback}) (flat_map-append report_in (events h) (events_by call given)) ∙ length-append (reports (events h)) (reports (events_by call given))) in
    record {
      parts = stands-push h before.parts after.parts caller call given s.parts steps is;
      answered = each-push (λ front (x : Entry). x.reply ≡ reply front x.call) h e s.answered is;
      packets = packets;
      judged = judged ∙ (ap (λ n. n + length (reports (events_by call given))) s.judged ∙ sym all);
      sums = sums;
    }

-- ---- how many reports were judged

reports-added : (moment : ℕ) (records : List Sent) → reports (map (added_of moment) records) ≡ []
reports-added moment [] = refl
reports-added moment (r ∷ rs) = reports-added moment rs

-- a pace judges none
pub judged-paced : (at : ℕ) (given : Reply) → length (reports (events_by (call_kind.Pace at) given)) ≡ 0
judged-paced at (reply_kind.Paced moment records) = ap (length {A = Feedback}) (reports-added moment records.items)
judged-paced at (reply_kind.Accepted moment index) = refl
judged-paced at (reply_kind.Credited moment judged signal m acked rates shares) = refl
judged-paced at (reply_kind.Configured moment rates shares) = refl
judged-paced at (reply_kind.Refused moment cause) = refl

-- ---- which bytes are kept

-- the bytes of what was sent are not kept any more
pub bytes-paced : (h : List Entry) (before : Live) (after : Held) (caller at : ℕ) (given : Reply) → StandsFor before h
    → ((k : ℕ) → kept after k ≡ cond (names k (sent_by given)) None (kept before.packets k))
    → (k : ℕ) → under after k ≡ bytes_among (waiting (h ++ entry caller (call_kind.Pace at) given ∷ [])) (accepted (h ++ entry caller (call_kind.Pace at) given ∷ [])) k
bytes-paced h before after caller at given s frees k =
    let e : Entry = entry caller (call_kind.Pace at) given in
    let none : accepted_by (call_kind.Pace at) given ≡ [] = refl in
    let waits : waiting (h ++ e ∷ []) ≡ unsent (sent_by given) (waiting h) =
    waiting-push h e s.parts.laws.known ∙ ap (unsent (sent_by given)) (append-nil (waiting h)) in
    let accepts : accepted (h ++ e ∷ []) ≡ accepted h = accepted-push h e ∙ append-nil (accepted h) in
    ap (option_map bytes_in) (frees k)
    ∙ (mapped (names k (sent_by given)) (kept before.packets k)
    ∙ (ap (cond (names k (sent_by given)) None) (s.packets k)
    ∙ sym (ap (λ ts. bytes_among ts (accepted (h ++ e ∷ [])) k) waits
    ∙ (ap (λ ps. bytes_among (unsent (sent_by given) (waiting h)) ps k) accepts
    ∙ bytes-unsent (sent_by given) (waiting h) (accepted h) k))))
  where
    mapped : (b : Bool) (o : Option (Listed ℕ)) → option_map bytes_in (cond b None o) ≡ cond b None (option_map bytes_in o)
    mapped true o = refl
    mapped false o = refl

-- where nothing is accepted and nothing leaves, the same bytes are kept
pub bytes-same : (h : List Entry) (e : Entry) → All (NamesBelow (length (accepted h))) (sent h) → accepted_by e.call e.reply ≡ [] → sent_by e.reply ≡ []
    → (k : ℕ) → bytes_among (waiting h) (accepted h) k ≡ bytes_among (waiting (h ++ e ∷ [])) (accepted (h ++ e ∷ [])) k
bytes-same h e known accepts sends k =
    let waits : waiting (h ++ e ∷ []) ≡ waiting h =
    waiting-push h e known
    ∙ (ap (λ rs. unsent rs (waiting h ++ tickets_from (length (accepted h)) (accepted_by e.call e.reply))) sends
    ∙ (unsent-none (waiting h ++ tickets_from (length (accepted h)) (accepted_by e.call e.reply))
    ∙ (ap (λ ps. waiting h ++ tickets_from (length (accepted h)) ps) accepts ∙ append-nil (waiting h)))) in
    let same : accepted (h ++ e ∷ []) ≡ accepted h = accepted-push h e ∙ (ap (λ ps. accepted h ++ ps) accepts ∙ append-nil (accepted h)) in
    sym (ap (λ ts. bytes_among ts (accepted (h ++ e ∷ [])) k) waits ∙ ap (λ ps. bytes_among (waiting h) ps k) same)

-- the bytes of a packet are kept where it was accepted
pub bytes-enqueued : (h : List Entry) (before : Live) (after : Held) (caller at : ℕ) (class : Class) (wire : Listed ℕ) (given : Reply) → StandsFor before h → sent_by given ≡ []
    → ((k : ℕ) → kept after k ≡ cond (length (accepted h) == k) (cond (is_accepted given) (Some wire) None) (kept before.packets k))
    → (k : ℕ) → under after k ≡ bytes_among (waiting (h ++ entry caller (call_kind.Enqueue at class wire) given ∷ [])) (accepted (h ++ entry caller (call_kind.Enqueue at class wire) given ∷ [])) k
bytes-enqueued h before after caller at class wire given s sends keeps k = by_reply given sends (keeps k)
  where
    -- not accepted
    was : (g : Reply) → accepted_by (call_kind.Enqueue at class wire) g ≡ [] → sent_by g ≡ [] → kept after k ≡ cond (length (accepted h) == k) None (kept before.packets k)
        → under after k ≡ bytes_among (waiting (h ++ entry caller (call_kind.Enqueue at class wire) g ∷ [])) (accepted (h ++ entry caller (call_kind.Enqueue at class wire) g ∷ [])) k
    was g accepts none is =
        ap (option_map bytes_in) is
        ∙ (by_test (length (accepted h) == k) refl
        ∙ bytes-same h (entry caller (call_kind.Enqueue at class wire) g) s.parts.laws.known accepts none k)
      where
        by_test : (b : Bool) → (length (accepted h) == k) ≡ b → option_map bytes_in (cond b None (kept before.packets k)) ≡ bytes_among (waiting h) (accepted h) k
        by_test true e = sym (subst (λ n. bytes_among (waiting h) (accepted h) n ≡ None) (eqb-true (length (accepted h)) k e) (bytes-next (waiting h) (accepted h) (waiting-below h)))
        by_test false e = s.packets k

    by_reply : (g : Reply) → sent_by g ≡ [] → kept after k ≡ cond (length (accepted h) == k) (cond (is_accepted g) (Some wire) None) (kept before.packets k)
        → under after k ≡ bytes_among (waiting (h ++ entry caller (call_kind.Enqueue at class wire) g ∷ [])) (accepted (h ++ entry caller (call_kind.Enqueue at class wire) g ∷ [])) k
    by_reply (reply_kind.Accepted moment index) none is =
        let p : AcceptedPacket = record { class = class; wire = wire.items; moment = moment } in
        let e : Entry = entry caller (call_kind.Enqueue at class wire) (reply_kind.Accepted moment index) in
        let waits : waiting (h ++ e ∷ []) ≡ waiting h ++ ticket_of (length (accepted h)) p ∷ [] =
        waiting-push h e s.parts.laws.known ∙ unsent-none (waiting h ++ ticket_of (length (accepted h)) p ∷ []) in
        ap (option_map bytes_in) is
        ∙ (mapped (length (accepted h) == k) (kept before.packets k)
        ∙ (ap (cond (length (accepted h) == k) (Some wire.items)) (s.packets k)
        ∙ sym (ap (λ ts. bytes_among ts (accepted (h ++ e ∷ [])) k) waits
        ∙ (ap (λ ps. bytes_among (waiting h ++ ticket_of (length (accepted h)) p ∷ []) ps k) (accepted-push h e)
        ∙ bytes-accepted (waiting h) (ticket_of (length (accepted h)) p) (accepted h) p k refl (waiting-below h)))))
      where
        mapped : (b : Bool) (o : Option (Listed ℕ)) → option_map bytes_in (cond b (Some wire) o) ≡ cond b (Some wire.items) (option_map bytes_in o)
        mapped true o = refl
        mapped false o = refl
    by_reply (reply_kind.Paced moment records) none is = was (reply_kind.Paced moment records) refl none is
    by_reply (reply_kind.Credited moment judged signal m acked rates shares) none is = was (reply_kind.Credited moment judged signal m acked rates shares) refl none is
    by_reply (reply_kind.Configured moment rates shares) none is = was (reply_kind.Configured moment rates shares) refl none is
    by_reply (reply_kind.Refused moment cause) none is = was (reply_kind.Refused moment cause) refl none is

-- the bytes that were kept are kept
pub bytes-stay : (h : List Entry) (before : Live) (caller : ℕ) (call : Call) (given : Reply) → StandsFor before h → accepted_by call given ≡ [] → sent_by given ≡ []
    → (k : ℕ) → under before.packets k ≡ bytes_among (waiting (h ++ entry caller call given ∷ [])) (accepted (h ++ entry caller call given ∷ [])) k
bytes-stay h before caller call given s accepts sends k = s.packets k ∙ bytes-same h (entry caller call given) s.parts.laws.known accepts sends k

-- ---- which calls judge a report

pub plus-none : (m n : ℕ) → n ≡ 0 → m ≡ m + n
plus-none m n e = omega (arith, e)

-- a packet that is to be sent judges none
pub judged-enqueued : (at : ℕ) (class : Class) (wire : Listed ℕ) (given : Reply) → sent_by given ≡ [] → length (reports (events_by (call_kind.Enqueue at class wire) given)) ≡ 0
judged-enqueued at class wire (reply_kind.Paced moment records) none = ap (λ rs. length (reports (map (added_of moment) rs))) none
judged-enqueued at class wire (reply_kind.Accepted moment index) none = refl
judged-enqueued at class wire (reply_kind.Credited moment judged signal m acked rates shares) none = refl
judged-enqueued at class wire (reply_kind.Configured moment rates shares) none = refl
judged-enqueued at class wire (reply_kind.Refused moment cause) none = refl

-- nor does a change
pub judged-configured : (at : ℕ) (change : Change) (given : Reply) → sent_by given ≡ [] → length (reports (events_by (call_kind.Configure at change) given)) ≡ 0
judged-configured at change (reply_kind.Paced moment records) none = ap (λ rs. length (reports (map (added_of moment) rs))) none
judged-configured at change (reply_kind.Accepted moment index) none = refl
judged-configured at change (reply_kind.Credited moment judged signal m acked rates shares) none = refl
judged-configured at change (reply_kind.Configured moment rates shares) none = refl
judged-configured at change (reply_kind.Refused moment cause) none = refl

-- a report is judged where the reply says so
pub judged-reported : (h : List Entry) (at : ℕ) (bytes : Listed ℕ) (given : Reply) → given ≡ reply h (call_kind.Report at bytes)
    → length (reports (events_by (call_kind.Report at bytes) given)) ≡ cond (is_judged given) 1 0
judged-reported h at bytes given is =
    subst (λ (g : Reply). length (reports (events_by (call_kind.Report at bytes) g)) ≡ cond (is_judged g) 1 0) (sym is) (by_time (nat_lt GREATEST_MOMENT at))
  where
    moment : ℕ
    moment = later (now h) (call_kind.Report at bytes)

    by_read : (o : Result Feedback ReportFault) → read_of bytes.items ≡ o
        → length (reports (events_by (call_kind.Report at bytes) (reported h moment o))) ≡ cond (is_judged (reported h moment o)) 1 0
    by_read (Err fault) e = refl
    by_read (Ok report) e = ap (λ o. length (reports (reported_of o))) e

    by_time : (b : Bool) → length (reports (events_by (call_kind.Report at bytes) (cond b (reply_kind.Refused (now h) cause_kind.MomentTooLarge) (reply_in_time h moment (call_kind.Report at bytes)))))
        ≡ cond (is_judged (cond b (reply_kind.Refused (now h) cause_kind.MomentTooLarge) (reply_in_time h moment (call_kind.Report at bytes)))) 1 0
    by_time true = refl
    by_time false = by_read (read_of bytes.items) refl

-- ---- a packet that is kept before its call

pub same-packet : (n : ℕ) (x wire : Listed ℕ) (o rest : Option (Listed ℕ)) → Some x ≡ o → o ≡ cond (n == n) (Some wire) rest → x ≡ wire
same-packet n x wire o rest is keeps =
    let both : Some x ≡ Some wire = is ∙ (keeps ∙ ap (λ b. cond b (Some wire) rest) (eq-eqb n n refl)) in
    cc

pub kept-only_if : (a e : Bool) (o p : Option (Listed ℕ)) (wire : Listed ℕ) → o ≡ cond e (Some wire) p → cond a o (cond e None o) ≡ cond e (cond a (Some wire) None) p
kept-only_if true true o p wire h = h
kept-only_if true false o p wire h = h
kept-only_if false true o p wire h = refl
kept-only_if false false o p wire h = h
