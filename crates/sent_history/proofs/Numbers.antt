-- What one status adds to the numbers credited, and to those judged missing.
use Rattle.std.proofs.Common.{◌≡◌, ℕ, ℤ, ◌-◌, ◌%◌, ◌≤◌, Bool, true, false, not, ◌&&◌, ◌||◌, ◌==◌, inl, inr, List, ◌∷◌, ◌++◌, map, Option, Some, None, refl, ap, ◌∙◌, arith}
use Rattle.std.proofs.lemmas.Bool.{cases_lt, lt-ltb, le-ltb, eq-eqb, ne_eqb, eqb-true}
use Rattle.std.proofs.lemmas.List.{map-append}
use Rattle.std.proofs.lemmas.List.Folds.{list_any-append}
use Rattle.gcc_units.specs.Unwrapping.{named_number}
use Rattle.gcc_units.specs.declared.shared_types.Credit.{Credit}
use Rattle.twcc_report.specs.declared.report.Status.{Status}
use Rattle.twcc_report.specs.declared.report.Status.TheVariants.{NotReceived, Small, Large}
use Rattle.sent_history.specs.declared.slot.Outgoing.{Outgoing}
use Rattle.sent_history.specs.declared.slot.Verdict.{Verdict}
use Rattle.sent_history.specs.Crediting.{Account, has, is_received, verdict_on, verdict_if, verdict, kept_packet, credit_in, missing_in, credits_in, missing_numbers}
use Rattle.sent_history.specs.Judging.{is_number}

abbrev pub numbers : List Credit → List ℕ
numbers credits = map (λ (c : Credit). c.number) credits

-- whether the verdict credits packet n, and whether it judges it missing
abbrev pub credits_it : Verdict → ℕ → Bool
credits_it v n = has (numbers (credit_in v)) n

abbrev pub misses_it : Verdict → ℕ → Bool
misses_it v n = has (missing_in v) n

-- ---- a list of numbers

pub or_false : (b : Bool) → (b || false) ≡ b
or_false true = refl
or_false false = refl

pub has_more : (xs ys : List ℕ) (n : ℕ) → has (xs ++ ys) n ≡ (has xs n || has ys n)
has_more xs ys n = list_any-append (λ m. m == n) xs ys

pub credits_more : (v : Verdict) (vs : List Verdict) (n : ℕ) → has (numbers (credits_in (v ∷ vs))) n ≡ (credits_it v n || has (numbers (credits_in vs)) n)
credits_more v vs n =
    ap (λ (xs : List ℕ). has xs n) (map-append (λ (c : Credit). c.number) (credit_in v) (credits_in vs)) ∙ has_more (numbers (credit_in v)) (numbers (credits_in vs)) n

pub misses_more : (v : Verdict) (vs : List Verdict) (n : ℕ) → has (missing_numbers (v ∷ vs)) n ≡ (misses_it v n || has (missing_numbers vs) n)
misses_more v vs n = has_more (missing_in v) (missing_numbers vs) n

-- ---- a status that names another number

others_on : (c s : Bool) (m : ℕ) (p : Outgoing) (status : Status) (arrived : ℤ) (n : ℕ) → (m == n) ≡ false
    → (credits_it (verdict_on c s m p status arrived) n ≡ false) × (misses_it (verdict_on c s m p status arrived) n ≡ false)
unfolding verdict_on
others_on true s m p status arrived n e = (refl, refl)
others_on false true m p NotReceived arrived n e = (refl, refl)
others_on false false m p NotReceived arrived n e = (refl, ap (λ b. b || false) e)
others_on false s m p (Small d) arrived n e = (ap (λ b. b || false) e, refl)
others_on false s m p (Large d) arrived n e = (ap (λ b. b || false) e, refl)

others_if : (a : Account) (m : ℕ) (status : Status) (arrived : ℤ) (o : Option Outgoing) (n : ℕ) → (m == n) ≡ false
    → (credits_it (verdict_if a m status arrived o) n ≡ false) × (misses_it (verdict_if a m status arrived o) n ≡ false)
others_if a m status arrived None n e = (refl, refl)
others_if a m status arrived (Some p) n e = others_on (has a.credited m) (has a.missed m) m p status arrived n e

pub others : (a : Account) (status : Status) (o : Option ℕ) (arrived : ℤ) (n : ℕ) → is_number o n ≡ false
    → (credits_it (verdict a status o arrived) n ≡ false) × (misses_it (verdict a status o arrived) n ≡ false)
unfolding verdict
others a status None arrived n e = (refl, refl)
others a status (Some m) arrived n e = others_if a m status arrived (kept_packet a.packets m) n e

-- ---- a status that names it

own_on : (c s : Bool) (n : ℕ) (p : Outgoing) (status : Status) (arrived : ℤ)
    → (credits_it (verdict_on c s n p status arrived) n ≡ (not c && is_received status))
    × (misses_it (verdict_on c s n p status arrived) n ≡ (not c && (not (is_received status) && not s)))
unfolding verdict_on
own_on true s n p status arrived = (refl, refl)
own_on false true n p NotReceived arrived = (refl, refl)
own_on false false n p NotReceived arrived = (refl, ap (λ b. b || false) (eq-eqb n n refl))
own_on false s n p (Small d) arrived = (ap (λ b. b || false) (eq-eqb n n refl), refl)
own_on false s n p (Large d) arrived = (ap (λ b. b || false) (eq-eqb n n refl), refl)

own_if : (a : Account) (status : Status) (arrived : ℤ) (n : ℕ) (p : Outgoing) (o : Option Outgoing) → o ≡ Some p
    → (credits_it (verdict_if a n status arrived o) n ≡ (not (has a.credited n) && is_received status))
    × (misses_it (verdict_if a n status arrived o) n ≡ (not (has a.credited n) && (not (is_received status) && not (has a.missed n))))
own_if a status arrived n p o e = rw e (own_on (has a.credited n) (has a.missed n) n p status arrived)

own_of : (a : Account) (status : Status) (arrived : ℤ) (n : ℕ) (p : Outgoing) → kept_packet a.packets n ≡ Some p
    → (credits_it (verdict a status (Some n) arrived) n ≡ (not (has a.credited n) && is_received status))
    × (misses_it (verdict a status (Some n) arrived) n ≡ (not (has a.credited n) && (not (is_received status) && not (has a.missed n))))
unfolding verdict
own_of a status arrived n p e = own_if a status arrived n p (kept_packet a.packets n) e

names_it : (o : Option ℕ) (n : ℕ) → is_number o n ≡ true → o ≡ Some n
names_it None n e = cc
names_it (Some m) n e = ap Some (eqb-true m n e)

pub own : (a : Account) (status : Status) (o : Option ℕ) (arrived : ℤ) (n : ℕ) (p : Outgoing) → is_number o n ≡ true → kept_packet a.packets n ≡ Some p
    → (credits_it (verdict a status o arrived) n ≡ (not (has a.credited n) && is_received status))
    × (misses_it (verdict a status o arrived) n ≡ (not (has a.credited n) && (not (is_received status) && not (has a.missed n))))
own a status o arrived n p named kept = rw (names_it o n named) (own_of a status arrived n p kept)

-- ---- no status names a packet that is still to be sent

pub named_below : (sent low n : ℕ) → sent ≤ n → is_number (named_number sent low) n ≡ false
named_below sent low n ahead = elim (cases_lt low sent) [
  | inl lt ↦ rw (lt-ltb low sent lt) (ne_eqb (sent - 1 - (sent - 1 - low) % 65536) n (λ e. omega arith))
  | inr le ↦ rw (le-ltb low sent le) refl
]
