-- What a report credits that goes on where the ones before it end: each packet that it says was received, with its arrival.
use Rattle.std.proofs.Common.{◌≡◌, ℕ, ℤ, pos, ◌+ℤ◌, ◌-ℤ◌, ◌*ℤ◌, ◌+◌, ◌-◌, ◌%◌, ◌<◌, ◌≤◌, Bool, true, false, nat_lt, inl, inr, Option, Some, None, List, [], ◌∷◌, ◌++◌, length, take, map, All, refl, sym, ◌∙◌, ap, ap₂, subst, append_assoc, arith, length-append}
use Rattle.std.specs.Prelude.{◌==◌}
use Rattle.std.specs.Int.{int_rem_euclid}
use Rattle.std.specs.List.{enumerate_from}
use Rattle.std.proofs.Math.Seq.{take-append-add}
use Rattle.std.proofs.lemmas.Int.{ints}
use Rattle.std.proofs.lemmas.Bool.Decides.{nat_tests}
use Rattle.std.proofs.lemmas.Option.{slice_get_cases}
use Rattle.std.proofs.lemmas.List.{map-append}
use Rattle.std.proofs.lemmas.List.Sums.{fold-append}
use Rattle.std.proofs.lemmas.List.Folds.{list_any_none}
use Rattle.std.proofs.lemmas.List.Elements.{All-nil, All-cons, All-head, All-tail, All-append, All-weaker}
use Rattle.gcc_units.specs.Unwrapping.{named_number, signed24, unwrapped}
use Rattle.gcc_units.specs.declared.limits.TheConstants.{KEPT_PACKETS}
use Rattle.gcc_units.specs.declared.shared_types.Credit.{Credit}
use Rattle.twcc_report.specs.Spelling.{Feedback}
use Rattle.twcc_report.specs.declared.report.Status.{Status}
use Rattle.twcc_report.specs.declared.report.Status.TheVariants.{NotReceived, Small, Large}
use Rattle.sent_history.specs.declared.slot.Outgoing.{Outgoing}
use Rattle.sent_history.specs.Crediting.{Account, has, delta_of, total_delta, arrival, verdict_on, kept_packet, verdict, number_at, verdict_at, verdicts, credit_in, credits_in}
use Rattle.sent_history.specs.Laws.{kept_packet-near}
use Rattle.link_path.specs.Told.{time_in, times_in, told}
use Rattle.link_loop.specs.ClosedLoop.{pair_of, received_from}

-- ---- who was received

pub received-append : (number : ℕ) (xs ys : List (Option ℤ)) → received_from number (xs ++ ys) ≡ received_from number xs ++ received_from (number + length xs) ys
received-append number [] ys = let e : number + 0 ≡ number = omega arith in rw e refl
received-append number (None ∷ xs) ys =
    let e : number + 1 + length xs ≡ number + length (None ∷ xs) = omega arith in
    received-append (number + 1) xs ys ∙ ap (λ n. received_from (number + 1) xs ++ received_from n ys) e
received-append number (Some time ∷ xs) ys =
    let e : number + 1 + length xs ≡ number + length (Some time ∷ xs) = omega arith in
    ap (λ (ps : List (ℕ × ℤ)). (number, time) ∷ ps) (received-append (number + 1) xs ys ∙ ap (λ n. received_from (number + 1) xs ++ received_from n ys) e)

abbrev IsPairBelow : ℕ → ℕ × ℤ → Type 0
IsPairBelow limit p = p.0 < limit

received-below : (number : ℕ) (times : List (Option ℤ)) → All (IsPairBelow (number + length times)) (received_from number times)
received-below number [] = All-nil (IsPairBelow (number + 0))
received-below number (None ∷ times) =
    let e : number + 1 + length times ≡ number + length (None ∷ times) = omega arith in
    subst (λ n. All (IsPairBelow n) (received_from (number + 1) times)) e (received-below (number + 1) times)
received-below number (Some time ∷ times) =
    let e : number + 1 + length times ≡ number + length (Some time ∷ times) = omega arith in
    All-cons (IsPairBelow (number + length (Some time ∷ times))) (number, time) (received_from (number + 1) times) (omega arith)
    (subst (λ n. All (IsPairBelow n) (received_from (number + 1) times)) e (received-below (number + 1) times))

abbrev IsBelow : ℕ → ℕ → Type 0
IsBelow limit number = number < limit

numbers-below : (limit : ℕ) (cs : List Credit) → All (IsPairBelow limit) (map pair_of cs) → All (IsBelow limit) (map (λ (c : Credit). c.number) cs)
numbers-below limit [] all = All-nil (IsBelow limit)
numbers-below limit (c ∷ cs) all =
    All-cons (IsBelow limit) c.number (map (λ (d : Credit). d.number) cs) (All-head (IsPairBelow limit) (pair_of c) (map pair_of cs) all)
    (numbers-below limit cs (All-tail (IsPairBelow limit) (pair_of c) (map pair_of cs) all))

-- ---- one status

named : (sent j : ℕ) → j < sent → sent ≤ KEPT_PACKETS → named_number sent (j % 65536) ≡ Some j
named sent j inside few =
    let low : j % 65536 ≡ j = omega (arith, inside, few) in
    let t : nat_lt j sent ≡ true = grind (arith, nat_tests, inside) in
    let e : sent - 1 - (sent - 1 - j) % 65536 ≡ j = omega (arith, inside, few) in
    rw (low, t) (ap (λ n. Some n) e)

named-at : (a : Account) (before k base : ℕ) → base ≡ before % 65536 → before + k < length a.packets → length a.packets ≤ KEPT_PACKETS → number_at a base k ≡ Some (before + k)
named-at a before k base is inside few =
    let low : (base + k) % 65536 ≡ (before + k) % 65536 = omega (arith, is, inside, few) in
    ap (named_number (length a.packets)) low ∙ named (length a.packets) (before + k) inside few

fresh : (numbers : List ℕ) (limit n : ℕ) → All (IsBelow limit) numbers → limit ≤ n → has numbers n ≡ false
fresh numbers limit n below h = list_any_none (λ m. m == n) numbers (All-weaker (IsBelow limit) (λ m. (m == n) ≡ false) (λ m lt. other m lt) numbers below)
  where
    other : (m : ℕ) → m < limit → (m == n) ≡ false
    other m lt = grind (arith, nat_tests, lt, h)

pairs-on : (n : ℕ) (p : Outgoing) (missed : Bool) (status : Status) (time arrived : ℤ) → arrived ≡ (time +ℤ delta_of status)
    → map pair_of (credit_in (verdict_on false missed n p status arrived)) ≡ received_from n (time_in time status ∷ [])
unfolding verdict_on
pairs-on n p true NotReceived time arrived e = refl
pairs-on n p false NotReceived time arrived e = refl
pairs-on n p missed (Small d) time arrived e = ap (λ z. (n, z) ∷ []) e
pairs-on n p missed (Large d) time arrived e = ap (λ z. (n, z) ∷ []) e

pairs-of : (a : Account) (n : ℕ) (status : Status) (time arrived : ℤ) → n < length a.packets → length a.packets ≤ KEPT_PACKETS → has a.credited n ≡ false
    → arrived ≡ (time +ℤ delta_of status) → map pair_of (credit_in (verdict a status (Some n) arrived)) ≡ received_from n (time_in time status ∷ [])
unfolding verdict
pairs-of a n status time arrived inside few none e = elim ((slice_get_cases a.packets n).1) [
  | inl found ↦ let kept : kept_packet a.packets n ≡ Some found.0 = kept_packet-near a.packets n (omega (arith, few)) ∙ found.2 in
      rw (kept, none) (pairs-on n found.0 (has a.missed n) status time arrived e)
  | inr past ↦ absurd (omega (arith, inside, past.0))
]

-- ---- all statuses

sum-behind : (x y z : ℤ) → (x +ℤ (y +ℤ z)) ≡ ((x +ℤ y) +ℤ z)
sum-behind x y z = omega (arith, ints)

sum-nothing : (x : ℤ) → (x +ℤ pos 0) ≡ x
sum-nothing x = omega (arith, ints)

-- the arrival at a place is the last one before it with the delta of its status
arrival-behind : (reference : ℤ) (front : List Status) (status : Status) (ss : List Status) (k : ℕ) (time : ℤ) → k ≡ length front
    → time ≡ ((pos 256 *ℤ reference) +ℤ total_delta front) → arrival reference (front ++ status ∷ ss) k ≡ (time +ℤ delta_of status)
arrival-behind reference front status ss k time k_is time_is =
    let up_to : take (k + 1) (front ++ status ∷ ss) ≡ front ++ status ∷ [] =
    ap (λ n. take (n + 1) (front ++ status ∷ ss)) k_is ∙ take-append-add front (status ∷ ss) 1 in
    let total : total_delta (front ++ status ∷ []) ≡ (total_delta front +ℤ delta_of status) =
    fold-append (λ (z : ℤ) (s : Status). z +ℤ delta_of s) (pos 0) front (status ∷ []) in
    ap (λ (xs : List Status). (pos 256 *ℤ reference) +ℤ total_delta xs) up_to
    ∙ ap (λ z. (pos 256 *ℤ reference) +ℤ z) total
    ∙ sum-behind (pos 256 *ℤ reference) (total_delta front) (delta_of status)
    ∙ ap (λ z. z +ℤ delta_of status) (sym time_is)

joined : (n next : ℕ) (status : Status) (time : ℤ) (ss : List Status) → next ≡ n + 1
    → received_from n (time_in time status ∷ []) ++ received_from next (times_in (time +ℤ delta_of status) ss) ≡ received_from n (times_in time (status ∷ ss))
joined n next NotReceived time ss is = ap₂ (λ m z. received_from m (times_in z ss)) is (sum-nothing time)
joined n next (Small d) time ss is = ap (λ m. (n, time +ℤ pos d) ∷ received_from m (times_in (time +ℤ pos d) ss)) is
joined n next (Large d) time ss is = ap (λ m. (n, time +ℤ d) ∷ received_from m (times_in (time +ℤ d) ss)) is

-- No more packets were sent than are kept, those of the report are among them, and none of these was credited; the report's reference is as it is told.
pub record GoesOn (a : Account) (before : ℕ) (report : Feedback) : Type 0 where
  pub base : report.base ≡ before % 65536
  pub room : before + length report.statuses ≤ length a.packets
  pub few : length a.packets ≤ KEPT_PACKETS
  pub below : All (λ n. n < before) a.credited
  pub reference : unwrapped a.reference report.reference ≡ report.reference

pairs-from : (a : Account) (before : ℕ) (report : Feedback) → GoesOn a before report → (front ss : List Status) (k : ℕ) (time : ℤ)
    → report.statuses ≡ front ++ ss → k ≡ length front → time ≡ ((pos 256 *ℤ report.reference) +ℤ total_delta front)
    → map pair_of (credits_in (map (verdict_at a report) (enumerate_from k ss))) ≡ received_from (before + k) (times_in time ss)
pairs-from a before report on front [] k time all k_is time_is = refl
pairs-from a before report on front (status ∷ ss) k time all k_is time_is =
    let z : ℤ = arrival (unwrapped a.reference report.reference) report.statuses k in
    let arrived : z ≡ (time +ℤ delta_of status) =
    ap (λ r. arrival r report.statuses k) on.reference ∙ ap (λ (xs : List Status). arrival report.reference xs k) all
    ∙ arrival-behind report.reference front status ss k time k_is time_is in
    let long : length report.statuses ≡ length front + length (status ∷ ss) = ap length all ∙ length-append front (status ∷ ss) in
    let inside : before + k < length a.packets = omega (arith, on.room, long, k_is) in
    let one : map pair_of (credit_in (verdict_at a report (k, status))) ≡ received_from (before + k) (time_in time status ∷ []) =
    ap (λ (o : Option ℕ). map pair_of (credit_in (verdict a status o z))) (named-at a before k report.base on.base inside on.few)
    ∙ pairs-of a (before + k) status time z inside on.few (fresh a.credited before (before + k) on.below (omega arith)) arrived in
    let total : (time +ℤ delta_of status) ≡ ((pos 256 *ℤ report.reference) +ℤ total_delta (front ++ status ∷ [])) =
    ap (λ y. y +ℤ delta_of status) time_is ∙ sym (sum-behind (pos 256 *ℤ report.reference) (total_delta front) (delta_of status))
    ∙ ap (λ y. (pos 256 *ℤ report.reference) +ℤ y) (sym (fold-append (λ (y : ℤ) (s : Status). y +ℤ delta_of s) (pos 0) front (status ∷ []))) in
    let more : map pair_of (credits_in (map (verdict_at a report) (enumerate_from (k + 1) ss))) ≡ received_from (before + (k + 1)) (times_in (time +ℤ delta_of status) ss) =
    pairs-from a before report on (front ++ status ∷ []) ss (k + 1) (time +ℤ delta_of status) (all ∙ sym (append_assoc front (status ∷ []) ss))
    (omega (arith, k_is, length-append front (status ∷ []))) total in
    map-append pair_of (credit_in (verdict_at a report (k, status))) (credits_in (map (verdict_at a report) (enumerate_from (k + 1) ss)))
    ∙ ap₂ (λ (xs ys : List (ℕ × ℤ)). xs ++ ys) one more
    ∙ joined (before + k) (before + (k + 1)) status time ss (omega arith)

-- each status that says received is credited, and no other
pub pairs-are : (a : Account) (before : ℕ) (report : Feedback) → GoesOn a before report → map pair_of (credits_in (verdicts a report)) ≡ received_from before (told report)
pairs-are a before report on =
    let none : before + 0 ≡ before = omega arith in
    pairs-from a before report on [] report.statuses 0 (pos 256 *ℤ report.reference) refl refl (sym (sum-nothing (pos 256 *ℤ report.reference)))
    ∙ ap (λ n. received_from n (told report)) none

-- all that is credited then is below the number behind the report
pub still-below : (a : Account) (before after : ℕ) (report : Feedback) → GoesOn a before report → before + length (told report) ≡ after
    → All (λ n. n < after) (a.credited ++ map (λ (c : Credit). c.number) (credits_in (verdicts a report)))
still-below a before after report on is =
    let cs : List Credit = credits_in (verdicts a report) in
    let pairs : All (IsPairBelow (before + length (told report))) (map pair_of cs) =
    subst (All (IsPairBelow (before + length (told report)))) (sym (pairs-are a before report on)) (received-below before (told report)) in
    let new : All (IsBelow after) (map (λ (c : Credit). c.number) cs) = subst (λ n. All (IsBelow n) (map (λ (c : Credit). c.number) cs)) is (numbers-below (before + length (told report)) cs pairs) in
    All-append (IsBelow after) a.credited (map (λ (c : Credit). c.number) cs) (All-weaker (IsBelow before) (IsBelow after) (λ n lt. omega (arith, lt, is)) a.credited on.below) new

-- ---- references

-- from 0 to 2^23 - 1
pub record IsSmall (z : ℤ) : Type 0 where
  pub value : ℕ
  pub is : z ≡ pos value
  pub small : value < 8388608

near : (last low : ℕ) → last < 8388608 → low < 8388608 → unwrapped (pos last) (pos low) ≡ pos low
near last low last_small low_small =
    let n : ℕ = low + 8388608 - last in
    let up : ((pos low -ℤ pos last) +ℤ pos 8388608) ≡ pos n = omega (arith, ints, last_small) in
    let rest : n % 16777216 ≡ n = omega (arith, last_small, low_small) in
    let signed : signed24 (pos low -ℤ pos last) ≡ (pos n -ℤ pos 8388608) =
    ap (λ z. int_rem_euclid z (pos 16777216) -ℤ pos 8388608) up ∙ ap (λ m. pos m -ℤ pos 8388608) rest in
    ap (λ z. pos last +ℤ z) signed ∙ omega (arith, ints, last_small)

pub unwrapped-small : (last low : ℤ) → IsSmall last → IsSmall low → unwrapped last low ≡ low
unwrapped-small last low a b = ap₂ unwrapped a.is b.is ∙ near a.value b.value a.small b.small ∙ sym b.is
