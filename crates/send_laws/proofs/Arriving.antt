-- The credits of a legal history are few, and each is in its ranges.
use Rattle.std.proofs.Common.{◌≡◌, ℕ, zero, suc, ℤ, pos, neg_ℤ, ◌+◌, ◌*◌, ◌<◌, ◌≤◌, ◌≤ℤ◌, ◌+ℤ◌, Bool, true, false, cond, nat_lt, Result, Ok, Err, Option, None, Some, List, [], ◌∷◌, ◌++◌, length, length-append, map, take, fold, All, get_or, refl, sym, ◌∙◌, ap, subst, append_assoc, arith}
use Rattle.std.specs.List.{enumerate_from, AllByRecursion}
use Rattle.std.proofs.lemmas.Int.{ints}
use Rattle.std.proofs.lemmas.List.{append-nil, length-map, length-take}
use Rattle.std.proofs.lemmas.List.Elements.{All-nil, All-cons, All-head, All-tail, All-append}
use Rattle.gcc_units.specs.declared.limits.TheConstants.{GREATEST_MOMENT, JOURNAL_ARRIVAL, MOST_ENTRIES, JOURNAL_PACKETS, MOST_WAITING}
use Rattle.gcc_units.specs.declared.shared_types.Credit.{Credit}
use Rattle.gcc_units.specs.Unwrapping.{unwrapped}
use Rattle.rtp_wire.specs.declared.packet.WireFault.{WireFault}
use Rattle.rtp_wire.specs.Place.{place_of}
use Rattle.packet_groups.specs.Kept.{IsOfJournal}
use Rattle.twcc_report.specs.declared.fault.ReportFault.{ReportFault}
use Rattle.twcc_report.specs.declared.report.Status.{Status}
use Rattle.twcc_report.specs.declared.report.Status.TheVariants.{NotReceived, Small, Large}
use Rattle.twcc_report.specs.Spelling.{Feedback, Fits, StatusFits}
use Rattle.twcc_report.specs.Checks.{IsByChecks}
use Rattle.twcc_report.specs.FewStatuses.{few_statuses}
use Rattle.twcc_report.specs.Reading.{read_of}
use Rattle.sent_history.specs.declared.slot.Outgoing.{Outgoing}
use Rattle.sent_history.specs.Events.{Event, reported, packets, reports}
use Rattle.sent_history.specs.Crediting.{Account, account, delta_of, total_delta, arrival, has, credit_for, verdict_on, kept_packet, verdict_if, verdict, verdict_at, number_at, judged, credit_in, credits_in, IsOfPacket}
use Rattle.sent_history.specs.Laws.{judged_of_packets}
use Rattle.sent_history.specs.Pushes.{account-push, reported_more}
use Rattle.sent_history.proofs.Accounts.{IsNear, reference_near}
use Rattle.probe_clusters.specs.Deeds.{rates}
use Rattle.send_core.specs.declared.call.Call.{Call}
use Rattle.send_core.specs.declared.call.Call.TheVariants.{Enqueue, Pace, Report, Configure}
use Rattle.send_core.specs.declared.call.Reply.TheVariants.{Accepted, Refused}
use Rattle.send_core.specs.declared.call.Cause.TheVariants as cause
use Rattle.send_core.specs.declared.call.Entry.{Entry}
use Rattle.send_core.specs.History.{at_of, later, now, accepted, waiting}
use Rattle.send_core.specs.Settings.{fault_of}
use Rattle.send_core.specs.Reports.{events, cluster_deeds}
use Rattle.send_core.specs.Reply.{extension_id, enqueued, reported as reported_reply, configured, standing, reply_in_time, reply, IsAnswered, IsLegal}
use Rattle.send_core.specs.Stands.{IsOutgoing, Laws, MoreLaws}
use Rattle.send_core.proofs.Judging.{All-slice_get}
use Rattle.send_core.proofs.LawsKept.{ReadsFew, has_few, laws-first, more-first, laws-push, more-push}
use Rattle.send_laws.specs.Credits.{Brings, BringsBytes, HasBytes, AreByteReports, credits, number_of, credited_numbers}
use Rattle.send_laws.specs.InRange.{all_credits}
use Rattle.send_laws.proofs.Sending.{answered-reply}
use Rattle.send_laws.proofs.Remaining.{told-balanced}

-- ---- the laws of a legal history

reads-few : (c : Call) → BringsBytes c → ReadsFew c
reads-few (Enqueue at class wire) bytes = tt
reads-few (Pace at) bytes = tt
reads-few (Report at bytes) all = few_statuses bytes.items all
reads-few (Configure at change) bytes = tt

abbrev HasLaws : List Entry → Type 0
HasLaws h = Laws h × MoreLaws h

laws-next : (before rest : List Entry) (e : Entry) → IsAnswered (before ++ e ∷ rest) → HasBytes e → HasLaws before → HasLaws (before ++ e ∷ [])
laws-next before rest e legal bytes laws =
    let few = has_few e.call e.reply (reads-few e.call bytes) in
    let is = answered-reply before rest e legal in
    (laws-push before e.caller e.call e.reply laws.0 laws.1 few is, more-push before e.caller e.call e.reply laws.0 laws.1 few is)

laws-rest : (before rest : List Entry) → IsAnswered (before ++ rest) → AreByteReports rest → HasLaws before → HasLaws (before ++ rest)
laws-rest before [] legal bytes laws = subst HasLaws (sym (append-nil before)) laws
laws-rest before (e ∷ rest) legal bytes laws =
    subst HasLaws (append_assoc before (e ∷ []) rest)
    (laws-rest (before ++ e ∷ []) rest (subst IsAnswered (sym (append_assoc before (e ∷ []) rest)) legal) (All-tail HasBytes e rest bytes)
    (laws-next before rest e legal (All-head HasBytes e rest bytes) laws))

laws-of : (h : List Entry) → IsAnswered h → AreByteReports h → Laws h
laws-of h legal bytes = (laws-rest [] h legal bytes (laws-first, more-first)).0

-- ---- arrivals

delta-near : (s : Status) → StatusFits s → IsNear 32768 (delta_of s)
delta-near NotReceived fits = record { low = omega (arith, ints); high = omega (arith, ints) }
delta-near (Small d) fits = record { low = omega (arith, ints); high = omega (arith, ints, fits) }
delta-near (Large d) fits = record { low = omega (arith, ints, fits); high = omega (arith, ints, fits) }

total-near : (n : ℕ) (z : ℤ) (ss : List Status) → IsNear n z → AllByRecursion StatusFits ss
    → IsNear (n + 32768 * length ss) (fold (λ (y : ℤ) (s : Status). y +ℤ delta_of s) z ss)
total-near n z [] near fit = record { low = omega (arith, ints, near.low); high = omega (arith, ints, near.high) }
total-near n z (s ∷ ss) near fit =
    let d : IsNear 32768 (delta_of s) = delta-near s fit.0 in
    let next : IsNear (n + 32768) (z +ℤ delta_of s) = record { low = omega (arith, ints, near.low, d.low); high = omega (arith, ints, near.high, d.high) } in
    let all : IsNear (n + 32768 + 32768 * length ss) (fold (λ (y : ℤ) (s : Status). y +ℤ delta_of s) (z +ℤ delta_of s) ss) =
    total-near (n + 32768) (z +ℤ delta_of s) ss next fit.1 in
    record { low = omega (arith, ints, all.low); high = omega (arith, ints, all.high) }

take-fit : (k : ℕ) (ss : List Status) → AllByRecursion StatusFits ss → AllByRecursion StatusFits (take k ss)
take-fit zero ss fit = tt
take-fit (suc k) [] fit = tt
take-fit (suc k) (s ∷ ss) fit = (fit.0, take-fit k ss fit.1)

total-first : (k : ℕ) (ss : List Status) → length ss < 65536 → AllByRecursion StatusFits ss → IsNear 2147483648 (total_delta (take k ss))
total-first k ss few fit =
    let near : IsNear (0 + 32768 * length (take k ss)) (total_delta (take k ss)) =
    total-near 0 (pos 0) (take k ss) (record { low = omega (arith, ints); high = omega (arith, ints) }) (take-fit k ss fit) in
    let short : length (take k ss) < 65536 = omega (arith, length-take k ss) in
    record { low = omega (arith, ints, near.low); high = omega (arith, ints, near.high) }

-- an arrival of which nothing but its range is known
record IsInRange (z : ℤ) : Type 0 where
  low : neg_ℤ JOURNAL_ARRIVAL ≤ℤ z
  high : z ≤ℤ JOURNAL_ARRIVAL

record ArrivesNear (c : Credit) : Type 0 where
  low : neg_ℤ JOURNAL_ARRIVAL ≤ℤ c.arrival
  high : c.arrival ≤ℤ JOURNAL_ARRIVAL

arrival-near : (es : List Event) (report : Feedback) (k : ℕ) → length (reports es) < MOST_ENTRIES → Fits report
    → IsInRange (arrival (unwrapped (account es).reference report.reference) report.statuses k)
arrival-near es report k few fits =
    let more : length (reports (es ++ reported report ∷ [])) ≡ length (reports es) + 1 = ap length (reported_more es report) ∙ length-append (reports es) (report ∷ []) in
    let same : (account (es ++ reported report ∷ [])).reference ≡ unwrapped (account es).reference report.reference = ap (λ (a : Account). a.reference) (account-push es (reported report)) in
    let near : IsNear (8388608 * length (reports (es ++ reported report ∷ []))) (unwrapped (account es).reference report.reference) =
    subst (IsNear (8388608 * length (reports (es ++ reported report ∷ [])))) same (reference_near (es ++ reported report ∷ [])) in
    let total : IsNear 2147483648 (total_delta (take (k + 1) report.statuses)) = total-first (k + 1) report.statuses fits.few fits.statuses in
    record { low = omega (arith, ints, near.low, total.low, more, few); high = omega (arith, ints, near.high, total.high, more, few) }

on-range : (credited missed : Bool) (n : ℕ) (p : Outgoing) (s : Status) (z : ℤ) → IsInRange z → All ArrivesNear (credit_in (verdict_on credited missed n p s z))
unfolding verdict_on
on-range true missed n p s z range = All-nil ArrivesNear
on-range false true n p NotReceived z range = All-nil ArrivesNear
on-range false false n p NotReceived z range = All-nil ArrivesNear
on-range false missed n p (Small d) z range = All-cons ArrivesNear (credit_for n p z) [] (record { low = range.low; high = range.high }) (All-nil ArrivesNear)
on-range false missed n p (Large d) z range = All-cons ArrivesNear (credit_for n p z) [] (record { low = range.low; high = range.high }) (All-nil ArrivesNear)

one-range : (a : Account) (s : Status) (o : Option ℕ) (z : ℤ) → IsInRange z → All ArrivesNear (credit_in (verdict a s o z))
unfolding verdict
one-range a s None z range = All-nil ArrivesNear
one-range a s (Some n) z range = by_kept (kept_packet a.packets n)
  where
    by_kept : (o : Option Outgoing) → All ArrivesNear (credit_in (verdict_if a n s z o))
    by_kept None = All-nil ArrivesNear
    by_kept (Some p) = on-range (has a.credited n) (has a.missed n) n p s z range

all-range : (a : Account) (report : Feedback) → ((k : ℕ) → IsInRange (arrival (unwrapped a.reference report.reference) report.statuses k))
    → (k : ℕ) (ss : List Status) → All ArrivesNear (credits_in (map (verdict_at a report) (enumerate_from k ss)))
all-range a report range k [] = All-nil ArrivesNear
all-range a report range k (s ∷ ss) =
    All-append ArrivesNear (credit_in (verdict_at a report (k, s))) (credits_in (map (verdict_at a report) (enumerate_from (k + 1) ss)))
    (one-range a s (number_at a report.base k) (arrival (unwrapped a.reference report.reference) report.statuses k) (range k))
    (all-range a report range (k + 1) ss)

-- ---- the credits of one report

sent-within : (moment planned : ℕ) (ps : List Outgoing) (c : Credit) → moment ≤ GREATEST_MOMENT → All (IsOutgoing moment planned) ps → IsOfPacket ps c → c.sent_at ≤ GREATEST_MOMENT
sent-within moment planned ps c early all of =
    let o : IsOutgoing moment planned (record { sent_at = c.sent_at; size = c.size; cluster = c.cluster }) =
    All-slice_get (IsOutgoing moment planned) ps c.number (record { sent_at = c.sent_at; size = c.size; cluster = c.cluster }) all of in
    omega (arith, o.sent)

judged-within : (h : List Entry) (report : Feedback) → Laws h → length h < MOST_ENTRIES → Fits report → All IsOfJournal (credits_in (judged (events h) report))
judged-within h report laws short fits =
    let few : length (reports (events h)) < MOST_ENTRIES = omega (arith, laws.few_reports) in
    let arrives : All ArrivesNear (credits_in (judged (events h) report)) =
    all-range (account (events h)) report (λ k. arrival-near (events h) report k few fits) 0 report.statuses in
    let of : All (IsOfPacket (packets (events h))) (credits_in (judged (events h) report)) = judged_of_packets (events h) report in
    λ k d below.
    let range = arrives k d below in
    record {
      sent_at = sent-within (now h) (length (rates (cluster_deeds h))) (packets (events h)) (get_or (credits_in (judged (events h) report)) k d) laws.in_time laws.outgoing (of k d below);
      low = range.low;
      high = range.high;
    }

-- ---- what holds of no credits and of those of each report holds of what each call credits

credits-in_time : (P : List Credit → Type 0) (h : List Entry) (m : ℕ) (c : Call) → P [] → ((report : Feedback) → Brings c report → P (credits_in (judged (events h) report)))
    → P (credits (reply_in_time h m c))
credits-in_time P h m (Enqueue at class wire) none some = by_place (place_of (extension_id h) wire.items)
  where
    by_test : (b : Bool) → P (credits (cond b (Accepted m (length (accepted h))) (Refused m (cause.QueueFull MOST_WAITING))))
    by_test true = none
    by_test false = none

    by_place : (o : Result ℕ WireFault) → P (credits (enqueued h m o))
    by_place (Err fault) = none
    by_place (Ok place) = by_test (nat_lt (length (waiting h)) MOST_WAITING)
credits-in_time P h m (Pace at) none some = none
credits-in_time P h m (Report at bytes) none some = by_read (read_of bytes.items) refl
  where
    by_read : (o : Result Feedback ReportFault) → read_of bytes.items ≡ o → P (credits (reported_reply h m o))
    by_read (Err fault) is = none
    by_read (Ok report) is = some report is
credits-in_time P h m (Configure at change) none some = by_check (fault_of (standing h) change)
  where
    by_check : (o : Option ℕ) → P (credits (configured h m change o))
    by_check None = none
    by_check (Some check) = none

credits-by : (P : List Credit → Type 0) (h : List Entry) (c : Call) → P [] → ((report : Feedback) → Brings c report → P (credits_in (judged (events h) report)))
    → P (credits (reply h c))
credits-by P h c none some = by_time (nat_lt GREATEST_MOMENT (at_of c))
  where
    by_time : (b : Bool) → P (credits (cond b (Refused (now h) cause.MomentTooLarge) (reply_in_time h (later (now h) c) c)))
    by_time true = none
    by_time false = credits-in_time P h (later (now h) c) c none some

-- ---- all credits

-- what reading gives has its fields in their ranges
abbrev pub ReadsWithin : Type 0
ReadsWithin = (bytes : List ℕ) → All (λ (b : ℕ). b < 256) bytes → IsByChecks bytes

brought-fits : ReadsWithin → (c : Call) (report : Feedback) → BringsBytes c → Brings c report → Fits report
brought-fits reads (Enqueue at class wire) report bytes brings = absurd brings
brought-fits reads (Pace at) report bytes brings = absurd brings
brought-fits reads (Report at bytes) report all brings = (((reads bytes.items all).reports report).0 brings).0
brought-fits reads (Configure at change) report bytes brings = absurd brings

within-rest : ReadsWithin → (before rest : List Entry) → IsLegal (before ++ rest) → HasLaws before → AreByteReports rest → All IsOfJournal (all_credits rest)
within-rest reads before [] legal laws bytes = All-nil IsOfJournal
within-rest reads before (e ∷ rest) legal laws bytes =
    let first : HasBytes e = All-head HasBytes e rest bytes in
    let short : length before < MOST_ENTRIES = omega (arith, legal.short, length-append before (e ∷ rest)) in
    let here : All IsOfJournal (credits (reply before e.call)) =
    credits-by (All IsOfJournal) before e.call (All-nil IsOfJournal)
    (λ report brings. judged-within before report laws.0 short (brought-fits reads e.call report first brings)) in
    All-append IsOfJournal (credits e.reply) (all_credits rest) (subst (λ r. All IsOfJournal (credits r)) (sym (answered-reply before rest e legal.each)) here)
    (within-rest reads (before ++ e ∷ []) rest (subst IsLegal (sym (append_assoc before (e ∷ []) rest)) legal) (laws-next before rest e legal.each first laws) (All-tail HasBytes e rest bytes))

pub all-within : ReadsWithin → (h : List Entry) → IsLegal h → AreByteReports h → All IsOfJournal (all_credits h)
all-within reads h legal bytes = within-rest reads [] h legal (laws-first, more-first) bytes

as-many : (h : List Entry) → length (all_credits h) ≡ length (credited_numbers h)
as-many [] = refl
as-many (e ∷ rest) =
    omega (
      arith,
      length-append (credits e.reply) (all_credits rest),
      length-append (map number_of (credits e.reply)) (credited_numbers rest),
      length-map (credits e.reply) number_of,
      as-many rest,
    )

pub all-few : (h : List Entry) → IsLegal h → AreByteReports h → length (all_credits h) ≤ JOURNAL_PACKETS
all-few h legal bytes =
    let laws : Laws h = laws-of h legal.each bytes in
    omega (arith, as-many h, told-balanced h legal.each bytes, laws.few, legal.short)
