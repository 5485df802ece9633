-- What follows of the words of `Crediting`: whom a report credits, that no number is credited twice, and where all packets stay.
use Rattle.std.proofs.Common.{◌≡◌, ◌≢◌, ◌↔◌, ℕ, ℤ, zero, suc, ◌+◌, ◌-◌, ◌%◌, ◌<◌, ◌≤◌, ◌==◌, Bool, true, false, not, ◌||◌, cond, inl, inr, List, [], ◌∷◌, ◌++◌, map, length, get_or, slice_get, Option, Some, None, All, AllPairs, Contains, count_by, fold, refl, ap, sym, ◌∙◌, subst, arith, length-append}
use Rattle.std.specs.List.{enumerate_from, range_with_len}
use Rattle.std.proofs.lemmas.Bool.{cases_Bool, cases_lt, cases_eq, lt-ltb, le-ltb, lt-leb, le-leb, eqb-true, eqb-false, eq-eqb, ne_eqb}
use Rattle.std.proofs.lemmas.Option.{same_Some, slice_get_within, slice_get_cases}
use Rattle.std.proofs.lemmas.List.{length-map, map-append}
use Rattle.std.proofs.lemmas.List.Elements.{All-nil, All-cons, All-head, All-tail, All-append, All-weaker, All-map, All-contains, Contains-append_left, Contains-append_right}
use Rattle.std.proofs.lemmas.List.Folds.{list_any_none}
use Rattle.std.proofs.lemmas.List.FromFn.{length-enumerate_from, length-range_with_len}
use Rattle.std.proofs.lemmas.List.Kept.{AllPairs-cons}
use Rattle.std.proofs.lemmas.List.Sums.{sum_by-cons}
use Rattle.gcc_units.specs.Unwrapping.{named_number, unwrapped}
use Rattle.gcc_units.specs.declared.limits.TheConstants.{KEPT_PACKETS}
use Rattle.gcc_units.specs.declared.shared_types.Credit.{Credit}
use Rattle.twcc_report.specs.Spelling.{Feedback}
use Rattle.twcc_report.specs.declared.report.Status.{Status}
use Rattle.twcc_report.specs.declared.report.Status.TheVariants.{NotReceived, Small, Large}
use Rattle.sent_history.specs.declared.slot.Outgoing.{Outgoing}
use Rattle.sent_history.specs.declared.slot.Verdict.{Verdict}
use Rattle.sent_history.specs.declared.slot.Verdict.TheVariants.{Received, Missing, Unknown, Repeated}
use Rattle.sent_history.specs.Events.{Event, added, reported, packets, reports}
use Rattle.sent_history.specs.Crediting.{Account, start, has, is_received, credit_for, verdict_on, kept_packet, verdict_if, verdict, number_at, arrival, verdict_at, verdicts, credit_in, is_unknown, is_repeated, credits_in, missing_numbers, IsOfPacket, after, account, judged, is_outstanding, outstanding}
use Rattle.sent_history.specs.Balance.{HasFewStatuses, IsOutstanding, IsNamedReceived, is_expired, expired}
use Rattle.sent_history.specs.Pushes.{account_packets}

-- ---- which packets are kept

pub kept_packet-near : (sent : List Outgoing) (n : ℕ) → length sent ≤ n + KEPT_PACKETS → kept_packet sent n ≡ slice_get sent n
unfolding kept_packet
kept_packet-near sent n le = rw (le-ltb (n + KEPT_PACKETS) (length sent) le) refl

pub kept_packet-past : (sent : List Outgoing) (n : ℕ) → n + KEPT_PACKETS < length sent → kept_packet sent n ≡ None
unfolding kept_packet
kept_packet-past sent n lt = rw (lt-ltb (n + KEPT_PACKETS) (length sent) lt) refl

-- a kept packet is one of the last
record IsKept (sent : List Outgoing) (n : ℕ) (p : Outgoing) : Type 0 where
  packet : slice_get sent n ≡ Some p
  near : length sent ≤ n + KEPT_PACKETS

is_kept : (sent : List Outgoing) (n : ℕ) (p : Outgoing) → kept_packet sent n ≡ Some p → IsKept sent n p
is_kept sent n p e = elim (cases_lt (n + KEPT_PACKETS) (length sent)) [
  | inl lt ↦ let none : kept_packet sent n ≡ None = kept_packet-past sent n lt in cc
  | inr le ↦ record { packet = sym (kept_packet-near sent n le) ∙ e; near = le }
]

outstanding_from : (a : Account) (n : ℕ) → length a.packets ≤ n + KEPT_PACKETS → has a.credited n ≡ false → is_outstanding a n ≡ true
outstanding_from a n near fresh = rw (le-leb (length a.packets) (n + KEPT_PACKETS) near, fresh) refl

-- ---- what a status credits

-- the status credits this by the number that its place names
record IsBy (a : Account) (base place : ℕ) (status : Status) (c : Credit) : Type 0 where
  named : number_at a base place ≡ Some c.number
  received : is_received status ≡ true
  near : length a.packets ≤ c.number + KEPT_PACKETS
  fresh : has a.credited c.number ≡ false
  packet : IsOfPacket a.packets c

by_on : (a : Account) (base place n : ℕ) (p : Outgoing) (credited missed : Bool) (status : Status) (arrived : ℤ)
    → number_at a base place ≡ Some n → IsKept a.packets n p → has a.credited n ≡ credited
    → All (IsBy a base place status) (credit_in (verdict_on credited missed n p status arrived))
unfolding verdict_on
by_on a base place n p true missed status arrived named kept is = All-nil (IsBy a base place status)
by_on a base place n p false true NotReceived arrived named kept is = All-nil (IsBy a base place NotReceived)
by_on a base place n p false false NotReceived arrived named kept is = All-nil (IsBy a base place NotReceived)
by_on a base place n p false missed (Small d) arrived named kept is =
    All-cons (IsBy a base place (Small d)) (credit_for n p arrived) []
    (record { named = named; received = refl; near = kept.near; fresh = is; packet = kept.packet })
    (All-nil (IsBy a base place (Small d)))
by_on a base place n p false missed (Large d) arrived named kept is =
    All-cons (IsBy a base place (Large d)) (credit_for n p arrived) []
    (record { named = named; received = refl; near = kept.near; fresh = is; packet = kept.packet })
    (All-nil (IsBy a base place (Large d)))

by_if : (a : Account) (base place n : ℕ) (status : Status) (arrived : ℤ) (o : Option Outgoing) → number_at a base place ≡ Some n
    → kept_packet a.packets n ≡ o → All (IsBy a base place status) (credit_in (verdict_if a n status arrived o))
by_if a base place n status arrived None named e = All-nil (IsBy a base place status)
by_if a base place n status arrived (Some p) named e =
    by_on a base place n p (has a.credited n) (has a.missed n) status arrived named (is_kept a.packets n p e) refl

by_of : (a : Account) (base place : ℕ) (status : Status) (arrived : ℤ) (o : Option ℕ) → number_at a base place ≡ o
    → All (IsBy a base place status) (credit_in (verdict a status o arrived))
unfolding verdict
by_of a base place status arrived None e = All-nil (IsBy a base place status)
by_of a base place status arrived (Some n) e = by_if a base place n status arrived (kept_packet a.packets n) e refl

by_place : (a : Account) (report : Feedback) (placed : ℕ × Status) → All (IsBy a report.base placed.0 placed.1) (credit_in (verdict_at a report placed))
by_place a report placed =
    by_of a report.base placed.0 placed.1 (arrival (unwrapped a.reference report.reference) report.statuses placed.0) (number_at a report.base placed.0) refl

-- ---- what a report credits

-- the credit is by one of these statuses, the first of which has its place
record IsAmong (a : Account) (base first : ℕ) (statuses : List Status) (c : Credit) : Type 0 where
  place : ℕ
  status : Status
  stands : slice_get statuses place ≡ Some status
  by : IsBy a base (first + place) status c

among_first : (a : Account) (base first : ℕ) (status : Status) (statuses : List Status) (c : Credit) → IsBy a base first status c
    → IsAmong a base first (status ∷ statuses) c
among_first a base first status statuses c by =
    let e : first ≡ first + 0 = omega arith in
    record { place = 0; status = status; stands = refl; by = subst (λ (k : ℕ). IsBy a base k status c) e by }

among_later : (a : Account) (base first : ℕ) (status : Status) (statuses : List Status) (c : Credit) → IsAmong a base (first + 1) statuses c
    → IsAmong a base first (status ∷ statuses) c
among_later a base first status statuses c h =
    let e : first + 1 + h.place ≡ first + suc h.place = omega arith in
    record { place = suc h.place; status = h.status; stands = h.stands; by = subst (λ (k : ℕ). IsBy a base k h.status c) e h.by }

among : (a : Account) (report : Feedback) (first : ℕ) (statuses : List Status)
    → All (IsAmong a report.base first statuses) (credits_in (map (verdict_at a report) (enumerate_from first statuses)))
among a report first [] = All-nil (IsAmong a report.base first [])
among a report first (status ∷ statuses) =
    let here : List Credit = credit_in (verdict_at a report (first, status)) in
    let later : List Credit = credits_in (map (verdict_at a report) (enumerate_from (first + 1) statuses)) in
    All-append (IsAmong a report.base first (status ∷ statuses)) here later
    (All-weaker (IsBy a report.base first status) (IsAmong a report.base first (status ∷ statuses)) (among_first a report.base first status statuses) here (by_place a report (first, status)))
    (All-weaker (IsAmong a report.base (first + 1) statuses) (IsAmong a report.base first (status ∷ statuses)) (among_later a report.base first status statuses) later
    (among a report (first + 1) statuses))

all_among : (a : Account) (report : Feedback) → All (IsAmong a report.base 0 report.statuses) (credits_in (verdicts a report))
all_among a report = among a report 0 report.statuses

is_outstanding_among : (a : Account) (base first : ℕ) (statuses : List Status) (c : Credit) → IsAmong a base first statuses c → IsOutstanding a c.number
is_outstanding_among a base first statuses c h =
    record { sent = slice_get_within a.packets c.number _ h.by.packet; outstanding = outstanding_from a c.number h.by.near h.by.fresh }

is_named_among : (a : Account) (report : Feedback) (c : Credit) → IsAmong a report.base 0 report.statuses c → IsNamedReceived a report c.number
is_named_among a report c h =
    let e : 0 + h.place ≡ h.place = omega arith in
    record {
      place = h.place;
      status = h.status;
      there = h.stands;
      named = subst (λ (k : ℕ). number_at a report.base k ≡ Some c.number) e h.by.named;
      received = h.by.received;
    }

-- each credit of a report names an outstanding number
pub credits_outstanding : (a : Account) (report : Feedback) → All (λ (c : Credit). IsOutstanding a c.number) (credits_in (verdicts a report))
credits_outstanding a report =
    All-weaker (IsAmong a report.base 0 report.statuses) (λ (c : Credit). IsOutstanding a c.number) (is_outstanding_among a report.base 0 report.statuses)
    (credits_in (verdicts a report)) (all_among a report)

-- none of them was credited before
pub credits_fresh : (a : Account) (report : Feedback) → All (λ (c : Credit). has a.credited c.number ≡ false) (credits_in (verdicts a report))
credits_fresh a report =
    All-weaker (IsAmong a report.base 0 report.statuses) (λ (c : Credit). has a.credited c.number ≡ false) (λ c h. h.by.fresh)
    (credits_in (verdicts a report)) (all_among a report)

-- each tells of the packet of its number
pub credits_of_packets : (a : Account) (report : Feedback) → All (IsOfPacket a.packets) (credits_in (verdicts a report))
credits_of_packets a report =
    All-weaker (IsAmong a report.base 0 report.statuses) (IsOfPacket a.packets) (λ c h. h.by.packet) (credits_in (verdicts a report)) (all_among a report)

-- the same, said of the packets that were added
pub judged_of_packets : (events : List Event) (report : Feedback) → All (IsOfPacket (packets events)) (credits_in (judged events report))
judged_of_packets events report =
    subst (λ (sent : List Outgoing). All (IsOfPacket sent) (credits_in (judged events report))) (account_packets events) (credits_of_packets (account events) report)

-- a received status names each of them
pub credits_named : (a : Account) (report : Feedback) → All (λ (c : Credit). IsNamedReceived a report c.number) (credits_in (verdicts a report))
credits_named a report =
    All-weaker (IsAmong a report.base 0 report.statuses) (λ (c : Credit). IsNamedReceived a report c.number) (is_named_among a report)
    (credits_in (verdicts a report)) (all_among a report)

-- ---- no two credits of a report are of one packet

named_low : (sent low n : ℕ) → low < 65536 → named_number sent low ≡ Some n → n % 65536 ≡ low
named_low sent low n small e = elim (cases_lt low sent) [
  | inl lt ↦ let m : ℕ = sent - 1 - (sent - 1 - low) % 65536 in
      let is : named_number sent low ≡ Some m = rw (lt-ltb low sent lt) refl in
      let same : m ≡ n = same_Some m n (sym is ∙ e) in
      omega (arith, same)
  | inr le ↦ let is : named_number sent low ≡ None = rw (le-ltb low sent le) refl in cc
]

places_apart : (a : Account) (base j k n : ℕ) → j < k → k < j + 65536 → number_at a base j ≡ Some n → number_at a base k ≡ Some n → ⊥
places_apart a base j k n lt near e f =
    let low : n % 65536 ≡ (base + j) % 65536 = named_low (length a.packets) ((base + j) % 65536) n (omega arith) e in
    let high : n % 65536 ≡ (base + k) % 65536 = named_low (length a.packets) ((base + k) % 65536) n (omega arith) f in
    omega (arith, low, high)

abbrev Differ : Credit → Credit → Type 0
Differ c d = c.number ≢ d.number

differs_later : (a : Account) (base first : ℕ) (status : Status) (statuses : List Status) (c d : Credit) → first + 1 + length statuses ≤ first + 65536
    → IsBy a base first status c → IsAmong a base (first + 1) statuses d → Differ c d
differs_later a base first status statuses c d few by h e =
    let inside : h.place < length statuses = slice_get_within statuses h.place h.status h.stands in
    places_apart a base first (first + 1 + h.place) c.number (omega arith) (omega arith) by.named (h.by.named ∙ ap Some (sym e))

differ_more : (a : Account) (base first : ℕ) (status : Status) (statuses : List Status) (v : Verdict) (later : List Credit)
    → first + 1 + length statuses ≤ first + 65536 → All (IsBy a base first status) (credit_in v) → All (IsAmong a base (first + 1) statuses) later
    → AllPairs Differ later → AllPairs Differ (credit_in v ++ later)
differ_more a base first status statuses (Received c) later few here more pairs =
    AllPairs-cons Differ c later
    (All-weaker (IsAmong a base (first + 1) statuses) (Differ c)
    (λ d h. differs_later a base first status statuses c d few (All-head (IsBy a base first status) c [] here) h) later more)
    pairs
differ_more a base first status statuses (Missing n) later few here more pairs = pairs
differ_more a base first status statuses Unknown later few here more pairs = pairs
differ_more a base first status statuses Repeated later few here more pairs = pairs

differ_from : (a : Account) (report : Feedback) (first : ℕ) (statuses : List Status) → length statuses ≤ 65536
    → AllPairs Differ (credits_in (map (verdict_at a report) (enumerate_from first statuses)))
differ_from a report first [] few = λ i j d lt within. absurd (omega arith)
differ_from a report first (status ∷ statuses) few =
    differ_more a report.base first status statuses (verdict_at a report (first, status))
    (credits_in (map (verdict_at a report) (enumerate_from (first + 1) statuses)))
    (omega arith) (by_place a report (first, status)) (among a report (first + 1) statuses)
    (differ_from a report (first + 1) statuses (omega arith))

-- the credits of one report are of different packets
pub credits_differ : (a : Account) (report : Feedback) → HasFewStatuses report
    → AllPairs (λ (c d : Credit). c.number ≢ d.number) (credits_in (verdicts a report))
credits_differ a report few = differ_from a report 0 report.statuses (omega arith)

-- ---- a report credits all outstanding packets that it names received

outstanding_near : (a : Account) (n : ℕ) → is_outstanding a n ≡ true → length a.packets ≤ n + KEPT_PACKETS
outstanding_near a n e = elim (cases_lt (n + KEPT_PACKETS) (length a.packets)) [
  | inl lt ↦ let f : is_outstanding a n ≡ false = rw (lt-leb (length a.packets) (n + KEPT_PACKETS) lt) refl in cc
  | inr le ↦ le
]

outstanding_fresh : (a : Account) (n : ℕ) → is_outstanding a n ≡ true → has a.credited n ≡ false
outstanding_fresh a n e = elim (cases_Bool (has a.credited n)) [
  | inl old ↦ let f : is_outstanding a n ≡ false = rw (old, le-leb (length a.packets) (n + KEPT_PACKETS) (outstanding_near a n e)) refl in cc
  | inr fresh ↦ fresh
]

-- of a packet that is kept and was not credited, a received status makes a credit
credit_on : (n : ℕ) (p : Outgoing) (missed : Bool) (status : Status) (arrived : ℤ) → is_received status ≡ true
    → credit_in (verdict_on false missed n p status arrived) ≡ credit_for n p arrived ∷ []
unfolding verdict_on
credit_on n p missed NotReceived arrived e = cc
credit_on n p missed (Small d) arrived e = refl
credit_on n p missed (Large d) arrived e = refl

credit_if : (a : Account) (n : ℕ) (p : Outgoing) (status : Status) (arrived : ℤ) → kept_packet a.packets n ≡ Some p → has a.credited n ≡ false
    → is_received status ≡ true → credit_in (verdict a status (Some n) arrived) ≡ credit_for n p arrived ∷ []
unfolding verdict
credit_if a n p status arrived kept fresh received = rw (kept, fresh) (credit_on n p (has a.missed n) status arrived received)

abbrev number_of : Credit → ℕ
number_of c = c.number

credit_at : (a : Account) (report : Feedback) (place n : ℕ) (status : Status) → number_at a report.base place ≡ Some n → IsOutstanding a n
    → is_received status ≡ true → Contains (map number_of (credit_in (verdict_at a report (place, status)))) n
credit_at a report place n status named out received = elim ((slice_get_cases a.packets n).1) [
  | inl found ↦ let p : Outgoing = found.0 in
      let arrived : ℤ = arrival (unwrapped a.reference report.reference) report.statuses place in
      let kept : kept_packet a.packets n ≡ Some p = kept_packet-near a.packets n (outstanding_near a n out.outstanding) ∙ found.2 in
      let one : credit_in (verdict_at a report (place, status)) ≡ credit_for n p arrived ∷ [] =
      ap (λ (o : Option ℕ). credit_in (verdict a status o arrived)) named ∙ credit_if a n p status arrived kept (outstanding_fresh a n out.outstanding) received in
      rw one (0, omega arith, refl)
  | inr past ↦ absurd (omega (arith, out.sent, past.0))
]

credits_from : (a : Account) (report : Feedback) (first : ℕ) (statuses : List Status) (place n : ℕ) (status : Status) → slice_get statuses place ≡ Some status
    → number_at a report.base (first + place) ≡ Some n → IsOutstanding a n → is_received status ≡ true
    → Contains (map number_of (credits_in (map (verdict_at a report) (enumerate_from first statuses)))) n
credits_from a report first [] place n status stands named out received = cc
credits_from a report first (s ∷ statuses) zero n status stands named out received =
    let here : List Credit = credit_in (verdict_at a report (first, s)) in
    let later : List Credit = credits_in (map (verdict_at a report) (enumerate_from (first + 1) statuses)) in
    let same : s ≡ status = same_Some s status stands in
    let e : first + 0 ≡ first = omega arith in
    let one : Contains (map number_of here) n =
    credit_at a report first n s (subst (λ (k : ℕ). number_at a report.base k ≡ Some n) e named) out (ap is_received same ∙ received) in
    rw (map-append number_of here later) (Contains-append_left (map number_of here) (map number_of later) n one)
credits_from a report first (s ∷ statuses) (suc place) n status stands named out received =
    let here : List Credit = credit_in (verdict_at a report (first, s)) in
    let later : List Credit = credits_in (map (verdict_at a report) (enumerate_from (first + 1) statuses)) in
    let e : first + suc place ≡ first + 1 + place = omega arith in
    let more : Contains (map number_of later) n =
    credits_from a report (first + 1) statuses place n status stands (subst (λ (k : ℕ). number_at a report.base k ≡ Some n) e named) out received in
    rw (map-append number_of here later) (Contains-append_right (map number_of here) (map number_of later) n more)

-- the numbers of a report's credits are just those that are outstanding and that it names received
pub credits_exact : (a : Account) (report : Feedback) (n : ℕ)
    → Contains (map (λ (c : Credit). c.number) (credits_in (verdicts a report))) n ↔ (IsOutstanding a n × IsNamedReceived a report n)
credits_exact a report n = (
  λ h. (
    All-contains (IsOutstanding a) _ n (All-map (IsOutstanding a) number_of (credits_in (verdicts a report)) (credits_outstanding a report)) h,
    All-contains (IsNamedReceived a report) _ n (All-map (IsNamedReceived a report) number_of (credits_in (verdicts a report)) (credits_named a report)) h,
  ),
  λ h. let named = h.1 in
      let e : named.place ≡ 0 + named.place = omega arith in
      credits_from a report 0 report.statuses named.place n named.status named.there
      (subst (λ (k : ℕ). number_at a report.base k ≡ Some n) e named.named) h.0 named.received,
)

-- ---- each status is judged once

-- each verdict is one of the four kinds
pub verdicts_counted : (vs : List Verdict) → length (credits_in vs) + length (missing_numbers vs) + count_by is_unknown vs + count_by is_repeated vs ≡ length vs
verdicts_counted [] = refl
verdicts_counted (v ∷ vs) =
    let unknown : count_by is_unknown (v ∷ vs) ≡ cond (is_unknown v) 1 0 + count_by is_unknown vs = sum_by-cons (λ (x : Verdict). cond (is_unknown x) 1 0) v vs in
    let repeated : count_by is_repeated (v ∷ vs) ≡ cond (is_repeated v) 1 0 + count_by is_repeated vs = sum_by-cons (λ (x : Verdict). cond (is_repeated x) 1 0) v vs in
    rw (unknown, repeated) (one v vs (count_by is_unknown vs) (count_by is_repeated vs) (verdicts_counted vs))
  where
    one : (v : Verdict) (vs : List Verdict) (u r : ℕ) → length (credits_in vs) + length (missing_numbers vs) + u + r ≡ length vs
        → length (credits_in (v ∷ vs)) + length (missing_numbers (v ∷ vs)) + (cond (is_unknown v) 1 0 + u) + (cond (is_repeated v) 1 0 + r) ≡ length (v ∷ vs)
    one (Received c) vs u r e = omega (arith, e)
    one (Missing n) vs u r e = omega (arith, e)
    one Unknown vs u r e = omega (arith, e)
    one Repeated vs u r e = omega (arith, e)

length_verdicts : (a : Account) (report : Feedback) → length (verdicts a report) ≡ length report.statuses
length_verdicts a report = length-map (enumerate_from 0 report.statuses) (verdict_at a report) ∙ length-enumerate_from 0 report.statuses

-- each status is credited, missing, unknown or repeated
pub statuses_counted : (a : Account) (report : Feedback)
    → length (credits_in (verdicts a report)) + length (missing_numbers (verdicts a report)) + count_by is_unknown (verdicts a report) + count_by is_repeated (verdicts a report)
    ≡ length report.statuses
statuses_counted a report = verdicts_counted (verdicts a report) ∙ length_verdicts a report

-- no more credits, and no more missing, than statuses
pub credits_few : (a : Account) (report : Feedback) → length (credits_in (verdicts a report)) ≤ length report.statuses
credits_few a report = omega (arith, statuses_counted a report)

pub missing_few : (a : Account) (report : Feedback) → length (missing_numbers (verdicts a report)) ≤ length report.statuses
missing_few a report = omega (arith, statuses_counted a report)

-- ---- no number is credited twice

AllPairs-head : {X : Type 0} (R : X → X → Type 0) (x : X) (xs : List X) → AllPairs R (x ∷ xs) → All (R x) xs
AllPairs-head R x xs pairs = λ k d l. pairs 0 (suc k) d (omega arith) (omega arith)

AllPairs-tail : {X : Type 0} (R : X → X → Type 0) (x : X) (xs : List X) → AllPairs R (x ∷ xs) → AllPairs R xs
AllPairs-tail R x xs pairs = λ i j d l m. pairs (suc i) (suc j) d (omega arith) (omega arith)

abbrev Other : ℕ → ℕ → Type 0
Other m n = m ≢ n

numbers_differ : (cs : List Credit) → AllPairs Differ cs → AllPairs Other (map number_of cs)
numbers_differ [] pairs = λ i j d lt within. absurd (omega arith)
numbers_differ (c ∷ cs) pairs =
    AllPairs-cons Other c.number (map number_of cs) (All-map (Other c.number) number_of cs (AllPairs-head Differ c cs pairs))
    (numbers_differ cs (AllPairs-tail Differ c cs pairs))

differ_append : (xs ys : List ℕ) → AllPairs Other xs → AllPairs Other ys → All (λ m. All (Other m) ys) xs → AllPairs Other (xs ++ ys)
differ_append [] ys left right across = right
differ_append (x ∷ xs) ys left right across =
    AllPairs-cons Other x (xs ++ ys)
    (All-append (Other x) xs ys (AllPairs-head Other x xs left) (All-head (λ m. All (Other m) ys) x xs across))
    (differ_append xs ys (AllPairs-tail Other x xs left) right (All-tail (λ m. All (Other m) ys) x xs across))

left_false : (b c : Bool) → (b || c) ≡ false → b ≡ false
left_false false c e = refl
left_false true c e = e

right_false : (b c : Bool) → (b || c) ≡ false → c ≡ false
right_false false c e = e
right_false true c e = cc

not_among : (xs : List ℕ) (n : ℕ) → has xs n ≡ false → All (λ m. m ≢ n) xs
not_among [] n e = All-nil (λ m. m ≢ n)
not_among (x ∷ xs) n e =
    All-cons (λ m. m ≢ n) x xs (eqb-false x n (left_false (x == n) (has xs n) e)) (not_among xs n (right_false (x == n) (has xs n) e))

across_from : (xs ys : List ℕ) → All (λ n. has xs n ≡ false) ys → All (λ m. All (Other m) ys) xs
across_from xs ys fresh = λ k d l. λ j e m. not_among xs (get_or ys j e) (fresh j e m) k d l

once_after : (a : Account) (report : Feedback) → HasFewStatuses report → AllPairs Other a.credited → AllPairs Other (after a (reported report)).credited
once_after a report few once =
    let credits : List Credit = credits_in (verdicts a report) in
    differ_append a.credited (map number_of credits) once (numbers_differ credits (credits_differ a report few))
    (across_from a.credited (map number_of credits) (All-map (λ n. has a.credited n ≡ false) number_of credits (credits_fresh a report)))

once_from : (a : Account) (events : List Event) → All HasFewStatuses (reports events) → AllPairs Other a.credited → AllPairs Other (fold after a events).credited
once_from a [] few once = once
once_from a (added p ∷ events) few once = once_from (after a (added p)) events few once
once_from a (reported report ∷ events) few once =
    once_from (after a (reported report)) events (All-tail HasFewStatuses report (reports events) few)
    (once_after a report (All-head HasFewStatuses report (reports events) few) once)

-- over all reports no number is credited twice
pub credited_once : (events : List Event) → All HasFewStatuses (reports events) → AllPairs (λ (m n : ℕ). m ≢ n) (account events).credited
unfolding account
credited_once events few = once_from start events few (λ i j d lt within. absurd (omega arith))

-- ---- credited numbers are of packets that were sent

sent_from : (a : Account) (events : List Event) → All (λ n. n < length a.packets) a.credited → All (λ n. n < length (fold after a events).packets) (fold after a events).credited
sent_from a [] all = all
sent_from a (added p ∷ events) all =
    sent_from (after a (added p)) events (λ k d l. let was : get_or a.credited k d < length a.packets = all k d l in omega (arith, was, length-append a.packets (p ∷ [])))
sent_from a (reported report ∷ events) all =
    let credits : List Credit = credits_in (verdicts a report) in
    sent_from (after a (reported report)) events
    (All-append (λ n. n < length a.packets) a.credited (map number_of credits) all
    (All-map (λ n. n < length a.packets) number_of credits
    (All-weaker (λ (c : Credit). IsOutstanding a c.number) (λ (c : Credit). c.number < length a.packets) (λ c h. h.sent) credits (credits_outstanding a report))))

sent_all : (events : List Event) → All (λ n. n < length (account events).packets) (account events).credited
unfolding account
sent_all events = sent_from start events (All-nil (λ n. n < 0))

-- the same, said of the packets that were added
pub credited_sent : (events : List Event) → All (λ (n : ℕ). n < length (packets events)) (account events).credited
credited_sent events = subst (λ (sent : List Outgoing). All (λ n. n < length sent) (account events).credited) (account_packets events) (sent_all events)

-- ---- each packet is credited, outstanding or expired

abbrev bit : Bool → ℕ
bit b = cond b 1 0

count_cons : (p : ℕ → Bool) (n : ℕ) (ns : List ℕ) → count_by p (n ∷ ns) ≡ bit (p n) + count_by p ns
count_cons p n ns = sum_by-cons (λ (m : ℕ). bit (p m)) n ns

count_none : (p : ℕ → Bool) (n from : ℕ) → ((m : ℕ) → from ≤ m → p m ≡ false) → count_by p (range_with_len from n) ≡ 0
count_none p zero from none = refl
count_none p (suc n) from none =
    let here : bit (p from) ≡ 0 = ap bit (none from (omega arith)) in
    omega (arith, count_cons p from (range_with_len (from + 1) n), here, count_none p n (from + 1) (λ m le. none m (omega arith)))

count_one : (x n from : ℕ) → from ≤ x → x < from + n → count_by (λ m. x == m) (range_with_len from n) ≡ 1
count_one x zero from low high = absurd (omega arith)
count_one x (suc n) from low high = elim (cases_eq x from) [
  | inl same ↦ let here : bit (x == from) ≡ 1 = ap bit (eq-eqb x from same) in
      omega (
        arith,
        count_cons (λ m. x == m) from (range_with_len (from + 1) n),
        here,
        count_none (λ m. x == m) n (from + 1) (λ m le. ne_eqb x m (λ e. omega arith)),
      )
  | inr other ↦ let here : bit (x == from) ≡ 0 = ap bit (ne_eqb x from other) in
      let above : from + 1 ≤ x = omega arith in
      omega (arith, count_cons (λ m. x == m) from (range_with_len (from + 1) n), here, count_one x n (from + 1) above (omega arith))
]

either : (b c : Bool) → (b ≡ true → c ≡ false) → bit (b || c) ≡ bit b + bit c
either false false h = refl
either false true h = refl
either true c h = ap (λ d. 1 + bit d) (sym (h refl))

count_either : (p q : ℕ → Bool) (ns : List ℕ) → ((n : ℕ) → p n ≡ true → q n ≡ false) → count_by (λ n. p n || q n) ns ≡ count_by p ns + count_by q ns
count_either p q [] apart = refl
count_either p q (n ∷ ns) apart =
    omega (arith, count_cons (λ m. p m || q m) n ns, count_cons p n ns, count_cons q n ns, either (p n) (q n) (apart n), count_either p q ns apart)

-- of numbers below n, no two the same, a count up to n finds each
count_has : (xs : List ℕ) (n : ℕ) → AllPairs Other xs → All (λ m. m < n) xs → count_by (has xs) (range_with_len 0 n) ≡ length xs
count_has [] n once below = count_none (has []) n 0 (λ m le. refl)
count_has (x ∷ xs) n once below =
    let others : has xs x ≡ false =
    list_any_none (λ m. m == x) xs
    (All-weaker (Other x) (λ m. (m == x) ≡ false) (λ m h. ne_eqb m x (λ e. h (sym e))) xs (AllPairs-head Other x xs once)) in
    let split : count_by (has (x ∷ xs)) (range_with_len 0 n) ≡ count_by (λ m. x == m) (range_with_len 0 n) + count_by (has xs) (range_with_len 0 n) =
    count_either (λ m. x == m) (has xs) (range_with_len 0 n) (λ m e. ap (has xs) (sym (eqb-true x m e)) ∙ others) in
    let inside : x < n = All-head (λ m. m < n) x xs below in
    omega (arith, split, count_one x n 0 (omega arith) (omega (arith, inside)), count_has xs n (AllPairs-tail Other x xs once) (All-tail (λ m. m < n) x xs below))

-- a number is in just one of the three
in_one : (a : Account) (n : ℕ) → bit (has a.credited n) + bit (is_outstanding a n) + bit (is_expired a n) ≡ 1
in_one a n = elim (cases_lt (n + KEPT_PACKETS) (length a.packets)) [
  | inl lt ↦ rw (lt-leb (length a.packets) (n + KEPT_PACKETS) lt, lt-ltb (n + KEPT_PACKETS) (length a.packets) lt) (one (has a.credited n))
  | inr le ↦ rw (le-leb (length a.packets) (n + KEPT_PACKETS) le, le-ltb (n + KEPT_PACKETS) (length a.packets) le) (other (has a.credited n))
]
  where
    one : (b : Bool) → bit b + 0 + bit (not b) ≡ 1
    one true = refl
    one false = refl

    other : (b : Bool) → bit b + bit (not b) + 0 ≡ 1
    other true = refl
    other false = refl

count_all : (a : Account) (ns : List ℕ) → count_by (has a.credited) ns + count_by (is_outstanding a) ns + count_by (is_expired a) ns ≡ length ns
count_all a [] = refl
count_all a (n ∷ ns) =
    omega (arith, count_cons (has a.credited) n ns, count_cons (is_outstanding a) n ns, count_cons (is_expired a) n ns, in_one a n, count_all a ns)

-- each packet that was sent is credited, outstanding or expired
pub packets_balance : (events : List Event) → All HasFewStatuses (reports events)
    → length (packets events) ≡ length (account events).credited + outstanding events + expired events
packets_balance events few =
    let sent : ℕ = length (packets events) in
    omega (
      arith,
      count_all (account events) (range_with_len 0 sent),
      length-range_with_len 0 sent,
      count_has (account events).credited sent (credited_once events few) (credited_sent events),
    )

-- no more are credited than were sent
pub credited_few : (events : List Event) → All HasFewStatuses (reports events) → length (account events).credited ≤ length (packets events)
credited_few events few = omega (arith, packets_balance events few)
