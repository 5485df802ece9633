-- What one more entry adds to the sums of a history, and how great they are at the most.
use Rattle.std.proofs.Common.{◌≡◌, ℕ, suc, ◌+◌, ◌*◌, ◌<◌, ◌≤◌, ◌^◌, Bool, true, false, cond, min, count_by, sum_by, nat_lt, Result, Ok, Err, List, [], ◌∷◌, ◌++◌, length, map, fold, All, refl, sym, ◌∙◌, ap, subst, arith, length-append, append_assoc}
use Rattle.std.proofs.lemmas.List.{append-nil, get_or_append_left}
use Rattle.std.proofs.lemmas.List.Elements.{All-nil, All-cons, All-head, All-tail, All-append}
use Rattle.std.proofs.lemmas.List.Sums.{sum_by-append, sum_by-cons}
use Rattle.std.proofs.lemmas.Bool.Decides.{nat_tests}
use Rattle.std.proofs.lemmas.Grind.{flat_map-append}
use Rattle.gcc_units.specs.Listed.{Listed}
use Rattle.gcc_units.specs.declared.class.Class.{Class}
use Rattle.gcc_units.specs.declared.limits.TheConstants.{GREATEST_MOMENT, GREATEST_PACKET, MOST_REPORTS, MOST_SENDS, MOST_STATUSES}
use Rattle.gcc_units.specs.declared.shared_types.Credit.{Credit}
use Rattle.twcc_report.specs.declared.fault.ReportFault.{ReportFault}
use Rattle.twcc_report.specs.Reading.{read_of}
use Rattle.twcc_report.specs.Spelling.{Feedback}
use Rattle.sent_history.specs.declared.slot.Outgoing.{Outgoing}
use Rattle.sent_history.specs.Balance.{HasFewStatuses}
use Rattle.sent_history.specs.Events.{Event, added, reported, packet_in, report_in, packets, reports}
use Rattle.sent_history.specs.Crediting.{Account, start, after, account, judged, missing_numbers, verdicts}
use Rattle.sent_history.specs.Laws.{missing_few, credited_few}
use Rattle.sent_history.specs.Pushes.{account-push}
use Rattle.pacer.specs.declared.sent.Sent.{Sent}
use Rattle.pacer.specs.Course.{IsSmallRecord}
use Rattle.send_core.specs.declared.call.Call.{Call}
use Rattle.send_core.specs.declared.call.Call.TheVariants as call_kind
use Rattle.send_core.specs.declared.call.Cause.TheVariants as cause_kind
use Rattle.send_core.specs.declared.call.Change.{Change}
use Rattle.send_core.specs.declared.call.Reply.{Reply}
use Rattle.send_core.specs.declared.call.Reply.TheVariants as reply_kind
use Rattle.send_core.specs.declared.call.Entry.{Entry}
use Rattle.send_core.specs.declared.parts.Parts.{Parts}
use Rattle.send_core.specs.declared.counts.TheConstants.{MOST_SENT}
use Rattle.send_core.specs.History.{entry, now, later, sent, sent_by}
use Rattle.send_core.specs.Reports.{outgoing_of, added_of, reported_of, events_by, events}
use Rattle.send_core.specs.Reply.{reply_in_time, reply}
use Rattle.send_core.specs.Reply as replies
use Rattle.send_core.specs.Settled.{credits_by}
use Rattle.send_core.specs.Stands.{Laws, MayGrow, Steps}
use Rattle.send_core.specs.Stands as core
use Rattle.send_core.proofs.LawsKept.{Adds, adds}
use Rattle.send_core.proofs.Pushes.{events-push, sent-push}
use Rattle.send_core.proofs.Recorded.{packets-added}
use Rattle.send_core.proofs.Standing.{stands-push}
use Rattle.live_sender.specs.declared.sums.SentTotals.{SentTotals}
use Rattle.live_sender.specs.declared.sums.Sums.{Sums}
use Rattle.live_sender.specs.declared.sums.TheConstants.{MOST_COUNTED}
use Rattle.live_sender.specs.Live.{Live, StandsFor, is_exhausted}
use Rattle.live_sender.specs.Replies.{is_refused, missing_by}
use Rattle.live_sender.specs.Sums.{totals_of, credited, missing, refused, sums_of, MayCount}

-- ---- what is reported missing

abbrev missed_in : List Event → ℕ
missed_in es = length (account es).missed

-- packets that are sent are not missing
missed-added : (moment : ℕ) (es : List Event) (rs : List Sent) → missed_in (es ++ map (added_of moment) rs) ≡ missed_in es
missed-added moment es [] = ap missed_in (append-nil es)
missed-added moment es (r ∷ rs) =
    ap missed_in (sym (append_assoc es (added_of moment r ∷ []) (map (added_of moment) rs)))
    ∙ (missed-added moment (es ++ added_of moment r ∷ []) rs
    ∙ ap (λ (a : Account). length a.missed) (account-push es (added_of moment r)))

missed-reported : (es : List Event) (report : Feedback) → missed_in (es ++ reported report ∷ []) ≡ missed_in es + length (missing_numbers (judged es report))
missed-reported es report =
    ap (λ (a : Account). length a.missed) (account-push es (reported report)) ∙ length-append (account es).missed (missing_numbers (judged es report))

missed-none : (es : List Event) → missed_in (es ++ []) ≡ missed_in es + 0
missed-none es = ap missed_in (append-nil es) ∙ sym (plus-zero (missed_in es))
  where
    plus-zero : (n : ℕ) → n + 0 ≡ n
    plus-zero n = omega arith

-- a pace reports none missing
pub missing-paced : (h : List Entry) (at : ℕ) (given : Reply) → given ≡ reply h (call_kind.Pace at)
    → missed_in (events h ++ events_by (call_kind.Pace at) given) ≡ missed_in (events h) + missing_by given
missing-paced h at given is =
    subst (λ (g : Reply). missed_in (events h ++ events_by (call_kind.Pace at) g) ≡ missed_in (events h) + missing_by g) (sym is) (by_time (nat_lt GREATEST_MOMENT at))
  where
    moment : ℕ
    moment = later (now h) (call_kind.Pace at)

    plus-zero : (m n : ℕ) → m ≡ n → m ≡ n + 0
    plus-zero m n e = omega (arith, e)

    by_time : (b : Bool) → missed_in (events h ++ events_by (call_kind.Pace at) (cond b (reply_kind.Refused (now h) cause_kind.MomentTooLarge) (reply_in_time h moment (call_kind.Pace at))))
        ≡ missed_in (events h) + missing_by (cond b (reply_kind.Refused (now h) cause_kind.MomentTooLarge) (reply_in_time h moment (call_kind.Pace at)))
    by_time true = missed-none (events h)
    by_time false = plus-zero _ _ (missed-added moment (events h) (sent_by (reply_in_time h moment (call_kind.Pace at))))

-- a report as many as its reply says
pub missing-judged : (h : List Entry) (at : ℕ) (bytes : Listed ℕ) (given : Reply) → given ≡ reply h (call_kind.Report at bytes)
    → missed_in (events h ++ events_by (call_kind.Report at bytes) given) ≡ missed_in (events h) + missing_by given
missing-judged h at bytes given is =
    subst (λ (g : Reply). missed_in (events h ++ events_by (call_kind.Report at bytes) g) ≡ missed_in (events h) + missing_by g) (sym is) (by_time (nat_lt GREATEST_MOMENT at))
  where
    moment : ℕ
    moment = later (now h) (call_kind.Report at bytes)

    by_read : (o : Result Feedback ReportFault) → read_of bytes.items ≡ o
        → missed_in (events h ++ events_by (call_kind.Report at bytes) (replies.reported h moment o)) ≡ missed_in (events h) + missing_by (replies.reported h moment o)
    by_read (Err fault) e = missed-none (events h)
    by_read (Ok report) e = ap (λ o. missed_in (events h ++ reported_of o)) e ∙ missed-reported (events h) report

    by_time : (b : Bool) → missed_in (events h ++ events_by (call_kind.Report at bytes) (cond b (reply_kind.Refused (now h) cause_kind.MomentTooLarge) (reply_in_time h moment (call_kind.Report at bytes))))
        ≡ missed_in (events h) + missing_by (cond b (reply_kind.Refused (now h) cause_kind.MomentTooLarge) (reply_in_time h moment (call_kind.Report at bytes)))
    by_time true = missed-none (events h)
    by_time false = by_read (read_of bytes.items) refl

-- each report names only so many
missed-from : (a : Account) (es : List Event) → All HasFewStatuses (reports es) → length (fold after a es).missed ≤ length a.missed + MOST_STATUSES * length (reports es)
missed-from a [] few = omega arith
missed-from a (added p ∷ es) few = missed-from (after a (added p)) es few
missed-from a (reported report ∷ es) few =
    let here : length report.statuses ≤ MOST_STATUSES = All-head HasFewStatuses report (reports es) few in
    let more : length (missing_numbers (verdicts a report)) ≤ length report.statuses = missing_few a report in
    let all : length (after a (reported report)).missed ≡ length a.missed + length (missing_numbers (verdicts a report)) = length-append a.missed (missing_numbers (verdicts a report)) in
    let rest : length (fold after (after a (reported report)) es).missed ≤ length (after a (reported report)).missed + MOST_STATUSES * length (reports es) =
    missed-from (after a (reported report)) es (All-tail HasFewStatuses report (reports es) few) in
    omega (arith, here, more, all, rest)

missed-few : (es : List Event) → All HasFewStatuses (reports es) → missed_in es ≤ MOST_STATUSES * length (reports es)
unfolding account
missed-few es few =
    let h : length (fold after start es).missed ≤ 0 + MOST_STATUSES * length (reports es) = missed-from start es few in
    omega (arith, h)

-- ---- what was sent is small

abbrev IsSmallPacket : Outgoing → Type 0
IsSmallPacket p = p.size ≤ GREATEST_PACKET

All-front : {X : Type 0} (P : X → Type 0) (xs ys : List X) → All P (xs ++ ys) → All P xs
All-front P xs ys all = λ k d l. subst P (get_or_append_left xs ys d k l) (all k d (omega (arith, length-append xs ys)))

All-back : {X : Type 0} (P : X → Type 0) (xs ys : List X) → All P (xs ++ ys) → All P ys
All-back P [] ys all = all
All-back P (x ∷ xs) ys all = All-back P xs ys (All-tail P x (xs ++ ys) all)

small-added : (moment : ℕ) (rs : List Sent) → All IsSmallPacket (map (outgoing_of moment) rs) → All IsSmallRecord rs
small-added moment [] all = All-nil IsSmallRecord
small-added moment (r ∷ rs) all =
    All-cons IsSmallRecord r rs (All-head IsSmallPacket (outgoing_of moment r) (map (outgoing_of moment) rs) all)
    (small-added moment rs (All-tail IsSmallPacket (outgoing_of moment r) (map (outgoing_of moment) rs) all))

small-by : (call : Call) (given : Reply) → All IsSmallPacket (packets (events_by call given)) → All IsSmallRecord (sent_by given)
small-by call (reply_kind.Paced moment records) all = small-added moment records.items (subst (λ ps. All IsSmallPacket ps) (packets-added moment records.items) all)
small-by call (reply_kind.Accepted moment index) all = All-nil IsSmallRecord
small-by call (reply_kind.Credited moment judged signal m acked rates shares) all = All-nil IsSmallRecord
small-by call (reply_kind.Configured moment rates shares) all = All-nil IsSmallRecord
small-by call (reply_kind.Refused moment cause) all = All-nil IsSmallRecord

small-each : (h : List Entry) → All IsSmallPacket (packets (events h)) → All IsSmallRecord (sent h)
small-each [] all = All-nil IsSmallRecord
small-each (e ∷ es) all =
    let parts : All IsSmallPacket (packets (events_by e.call e.reply) ++ packets (events es)) =
    subst (λ ps. All IsSmallPacket ps) (flat_map-append packet_in (events_by e.call e.reply) (events es)) all in
    All-append IsSmallRecord (sent_by e.reply) (sent es)
    (small-by e.call e.reply (All-front IsSmallPacket (packets (events_by e.call e.reply)) (packets (events es)) parts))
    (small-each es (All-back IsSmallPacket (packets (events_by e.call e.reply)) (packets (events es)) parts))

small-sent : (h : List Entry) → Laws h → All IsSmallRecord (sent h)
small-sent h laws = small-each h (λ k d l. (laws.outgoing k d l).size)

-- ---- the sums

same-sums : (a b : SentTotals) (c d m n k l : ℕ) → a ≡ b → c ≡ d → m ≡ n → k ≡ l
    → ◌≡◌ {A = Sums} (record { sent = a; credited = c; missing = m; refused = k }) (record { sent = b; credited = d; missing = n; refused = l })
same-sums a b c d m n k l e f g h = cc

-- those of no call
pub sums-first : (s : Sums) → s.sent ≡ totals_of [] → s.credited ≡ 0 → s.missing ≡ 0 → s.refused ≡ 0 → s ≡ sums_of []
unfolding account
sums-first s e f g h = same-sums s.sent (totals_of []) s.credited 0 s.missing 0 s.refused 0 e f g h

-- one more call, perhaps refused
refused-push : (h : List Entry) (e : Entry) → refused (h ++ e ∷ []) ≡ min MOST_COUNTED (refused h + cond (is_refused e.reply) 1 0)
refused-push h e =
    let one : Entry → ℕ = λ (x : Entry). cond (is_refused x.reply) 1 0 in
    at-most MOST_COUNTED (count_by (λ (x : Entry). is_refused x.reply) (h ++ e ∷ [])) (count_by (λ (x : Entry). is_refused x.reply) h) (cond (is_refused e.reply) 1 0)
    (sum_by-append one h (e ∷ []) ∙ ap (λ n. sum_by one h + n) (alone one e))
  where
    at-most : (most all before one : ℕ) → all ≡ before + one → min most all ≡ min most (min most before + one)
    at-most most all before one is = omega (arith, is)

    alone : (f : Entry → ℕ) (x : Entry) → sum_by f (x ∷ []) ≡ f x
    alone f x = omega (arith, sum_by-cons f x [])

-- where nothing is sent and no report is judged
pub sums-note : (h : List Entry) (before new : Sums) (e : Entry) → before ≡ sums_of h → sent_by e.reply ≡ [] → events_by e.call e.reply ≡ []
    → new ≡ record before { refused = min MOST_COUNTED (before.refused + cond (is_refused e.reply) 1 0) } → new ≡ sums_of (h ++ e ∷ [])
sums-note h before new e is sends none notes =
    notes
    ∙ (ap (λ (s : Sums). record s { refused = min MOST_COUNTED (s.refused + cond (is_refused e.reply) 1 0) }) is
    ∙ sym (same-sums _ _ _ _ _ _ _ _
    (ap totals_of (sent-push h e ∙ (ap (λ rs. sent h ++ rs) sends ∙ append-nil (sent h))))
    (ap (λ es. length (account es).credited) events_are)
    (ap missed_in events_are)
    (refused-push h e)))
  where
    events_are : events (h ++ e ∷ []) ≡ events h
    events_are = events-push h e ∙ (ap (λ es. events h ++ es) none ∙ append-nil (events h))

-- a packet that is to be sent adds no event
pub none-enqueued : (at : ℕ) (class : Class) (wire : Listed ℕ) (given : Reply) → sent_by given ≡ [] → events_by (call_kind.Enqueue at class wire) given ≡ []
none-enqueued at class wire (reply_kind.Paced moment records) none = ap (map (added_of moment)) none
none-enqueued at class wire (reply_kind.Accepted moment index) none = refl
none-enqueued at class wire (reply_kind.Credited moment judged signal m acked rates shares) none = refl
none-enqueued at class wire (reply_kind.Configured moment rates shares) none = refl
none-enqueued at class wire (reply_kind.Refused moment cause) none = refl

-- nor does a change
pub none-configured : (at : ℕ) (change : Change) (given : Reply) → sent_by given ≡ [] → events_by (call_kind.Configure at change) given ≡ []
none-configured at change (reply_kind.Paced moment records) none = ap (map (added_of moment)) none
none-configured at change (reply_kind.Accepted moment index) none = refl
none-configured at change (reply_kind.Credited moment judged signal m acked rates shares) none = refl
none-configured at change (reply_kind.Configured moment rates shares) none = refl
none-configured at change (reply_kind.Refused moment cause) none = refl

length-numbers : (cs : List Credit) → length (map (λ (c : Credit). c.number) cs) ≡ length cs
length-numbers [] = refl
length-numbers (c ∷ cs) = ap suc (length-numbers cs)

credited-push : (h : List Entry) (call : Call) (given : Reply) → Adds h call given → length (account (events h ++ events_by call given)).credited ≡ credited h + length (credits_by given)
credited-push h call given a =
    ap (length {A = ℕ}) a.credited
    ∙ (length-append (account (events h)).credited (map (λ (c : Credit). c.number) (credits_by given)) ∙ ap (λ n. credited h + n) (length-numbers (credits_by given)))

-- with one reply more
pub sums-push : (h : List Entry) (before new : Sums) (caller : ℕ) (call : Call) (given : Reply) → before ≡ sums_of h → Adds h call given
    → missed_in (events h ++ events_by call given) ≡ missed_in (events h) + missing_by given
    → ((rs : List Sent) → before.sent ≡ totals_of rs → new.sent ≡ totals_of (rs ++ sent_by given))
    → new.credited ≡ before.credited + length (credits_by given) → new.missing ≡ before.missing + missing_by given
    → new.refused ≡ min MOST_COUNTED (before.refused + cond (is_refused given) 1 0)
    → new ≡ sums_of (h ++ entry caller call given ∷ [])
sums-push h before new caller call given is a misses sends credits adds_missing refuses =
    same-sums _ _ _ _ _ _ _ _
    (sends (sent h) (ap (λ (s : Sums). s.sent) is) ∙ ap totals_of (sym (sent-push h (entry caller call given))))
    (credits ∙ (ap (λ (s : Sums). s.credited + length (credits_by given)) is
    ∙ (sym (credited-push h call given a) ∙ ap (λ es. length (account es).credited) (sym (events-push h (entry caller call given))))))
    (adds_missing ∙ (ap (λ (s : Sums). s.missing + missing_by given) is
    ∙ (sym misses ∙ ap missed_in (sym (events-push h (entry caller call given))))))
    (refuses ∙ (ap (λ (s : Sums). min MOST_COUNTED (s.refused + cond (is_refused given) 1 0)) is ∙ sym (refused-push h (entry caller call given))))

-- ---- they fit

pub may-grow : (h : List Entry) → is_exhausted h ≡ false → MayGrow h
may-grow h none = record { few_sent = grind (arith, nat_tests); few_judged = grind (arith, nat_tests); few_accepted = grind (arith, nat_tests) }

pub judged-fits : (h : List Entry) (judged one : ℕ) (b : Bool) → MayGrow h → judged ≡ length (reports (events h)) → one ≡ cond b 1 0 → judged + one < 2 ^ 32
judged-fits h judged one b grows counted is =
    let few : length (reports (events h)) < MOST_REPORTS = grows.few_judged in
    let most : cond b 1 0 ≤ 1 = at-most b in
    omega (arith, few, most, counted, is)
  where
    at-most : (c : Bool) → cond c 1 0 ≤ 1
    at-most true = omega arith
    at-most false = omega arith

pub record Fit (s : Sums) (given : Reply) : Type 0 where
  pub sent : MayCount s.sent (sent_by given)
  pub credited : s.credited + length (credits_by given) < 2 ^ 64
  pub missing : s.missing + missing_by given < 2 ^ 64

pub sums-fit : (h : List Entry) (live : Live) (q : Parts) (call : Call) (given : Reply) → StandsFor live h → MayGrow h → Steps call given live.parts q → given ≡ reply h call
    → missed_in (events h ++ events_by call given) ≡ missed_in (events h) + missing_by given → Fit live.sums given
sums-fit h live q call given s grows steps is misses =
    let e : Entry = entry 0 call given in
    let a : Adds h call given = adds h call given s.parts.laws is in
    let next : core.StandsFor q (h ++ e ∷ []) = stands-push h live.parts q 0 call given s.parts steps is in
    let few : length (sent h) + MOST_SENDS ≤ MOST_SENT = grows.few_sent in
    let few_sends : length (sent_by given) ≤ MOST_SENDS = a.few in
    let sent_all : length (sent (h ++ e ∷ [])) ≡ length (sent h) + length (sent_by given) = ap (length {A = Sent}) (sent-push h e) ∙ length-append (sent h) (sent_by given) in
    let credited_all : credited (h ++ e ∷ []) ≡ credited h + length (credits_by given) = ap (λ es. length (account es).credited) (events-push h e) ∙ credited-push h call given a in
    let credited_least : credited (h ++ e ∷ []) ≤ length (packets (events (h ++ e ∷ []))) = credited_few (events (h ++ e ∷ [])) next.more.few_statuses in
    let number : length (packets (events (h ++ e ∷ []))) ≡ length (sent (h ++ e ∷ [])) = next.laws.number in
    let missing_all : missing (h ++ e ∷ []) ≡ missing h + missing_by given = ap missed_in (events-push h e) ∙ misses in
    let missing_least : missing (h ++ e ∷ []) ≤ MOST_STATUSES * length (reports (events (h ++ e ∷ []))) = missed-few (events (h ++ e ∷ [])) next.more.few_statuses in
    let judged_all : length (reports (events (h ++ e ∷ []))) ≡ length (reports (events h)) + length (reports (events_by call given)) = reports-all h e in
    let judged_few : length (reports (events h)) < MOST_REPORTS = grows.few_judged in
    let judged_one : length (reports (events_by call given)) ≤ 1 = a.few_reports in
    record {
      sent = record {
        before = sent h;
        are = ap (λ (x : Sums). x.sent) s.sums;
        small_before = small-sent h s.parts.laws;
        small = a.small_sends;
        few = omega (arith, few, few_sends);
      };
      credited = subst (λ n. n + length (credits_by given) < 2 ^ 64) (sym (ap (λ (x : Sums). x.credited) s.sums)) (omega (arith, sent_all, credited_all, credited_least, number, few, few_sends));
      missing = subst (λ n. n + missing_by given < 2 ^ 64) (sym (ap (λ (x : Sums). x.missing) s.sums)) (omega (arith, missing_all, missing_least, judged_all, judged_few, judged_one));
    }
  where
    reports-all : (h : List Entry) (e : Entry) → length (reports (events (h ++ e ∷ []))) ≡ length (reports (events h)) + length (reports (events_by e.call e.reply))
    reports-all h e =
        ap (λ es. length (reports es)) (events-push h e)
        ∙ (ap (length {A = Feedback}) (flat_map-append report_in (events h) (events_by e.call e.reply)) ∙ length-append (reports (events h)) (reports (events_by e.call e.reply)))
