-- A number that is read is the one that is spelled so, and what is spelled so is read.
use Rattle.std.proofs.Common.{◌≡◌, ℕ, ◌+◌, ◌-◌, ◌*◌, ◌^◌, ◌<◌, ◌≤◌, Bool, true, false, cond, ◌&&◌, eqb, ltb, List, [], ◌∷◌, length, get_or, Option, Some, None, refl, sym, ap, ◌∙◌, arith, inl, inr, lit<}
use Rattle.std.proofs.Math.Dec.{leb}
use Rattle.std.specs.Int.{IsInRange}
use Rattle.std.specs.Fmt.{decimal}
use Rattle.std.proofs.lemmas.Bool.{and_parts, and_from, ltb-true, leb-true, lt-ltb, le-leb, eqb-false, ne_eqb, cases_lt}
use Rattle.std.proofs.lemmas.Fmt.{decimal-digits_value, digits_decimal, digits_value-decimal, decimal_nonempty, first_decimal, decimal_digit}
use Rattle.std.proofs.lemmas.Str.Parse.{IsNumeralModel, numerals_by_fold}
use Rattle.call_trace.specs.Fields.{is_digit, value_after, number_of}
use Rattle.call_trace.proofs.Lines.{Lacks}

abbrev pub AreDigits : List ℕ → Type 0
AreDigits [] = Unit {0}
AreDigits (c ∷ cs) = IsInRange 48 57 c × AreDigits cs

-- the number that digits give behind those of another one
abbrev pub read_on : ℕ → List ℕ → ℕ
read_on n [] = n
read_on n (c ∷ cs) = read_on (n * 10 + (c - 48)) cs

own : IsNumeralModel AreDigits (read_on 0)
own = numerals_by_fold AreDigits (record { empty = tt; parts = λ c cs h. (h.0, h.1); more = λ c cs h hs. (h, hs) }) read_on (record { empty = λ n. refl; more = λ n c cs h. refl })

guard : (b : Bool) (o : Option ℕ) (v : ℕ) → cond b o None ≡ Some v → (b ≡ true) × (o ≡ Some v)
guard true o v e = (refl, e)
guard false o v e = absurd cc

guard_not : (b : Bool) (o : Option ℕ) (v : ℕ) → cond b None o ≡ Some v → (b ≡ false) × (o ≡ Some v)
guard_not true o v e = absurd cc
guard_not false o v e = (refl, e)

some_is : (x y : ℕ) → Some x ≡ Some y → x ≡ y
some_is x y e = cc

value_digits : (n : ℕ) (ds : List ℕ) (v : ℕ) → value_after n ds ≡ Some v → n < 2 ^ 64 → AreDigits ds × (read_on n ds ≡ v) × (v < 2 ^ 64)
value_digits n [] v e small = let is = some_is n v e in (tt, is, omega arith)
value_digits n (d ∷ ds) v e small =
    let g = guard (is_digit d && ltb (n * 10 + (d - 48)) (2 ^ 64)) (value_after (n * 10 + (d - 48)) ds) v e in
    let t = and_parts (is_digit d) (ltb (n * 10 + (d - 48)) (2 ^ 64)) g.0 in
    let r = and_parts (leb 48 d) (leb d 57) t.0 in
    let more = value_digits (n * 10 + (d - 48)) ds v g.1 (ltb-true (n * 10 + (d - 48)) (2 ^ 64) t.1) in
    (((leb-true 48 d r.0, leb-true d 57 r.1), more.0), more.1, more.2)

read_on_grows : (n : ℕ) (ds : List ℕ) → n ≤ read_on n ds
read_on_grows n [] = omega arith
read_on_grows n (d ∷ ds) = omega (arith, read_on_grows (n * 10 + (d - 48)) ds)

value_again : (n : ℕ) (ds : List ℕ) → AreDigits ds → read_on n ds < 2 ^ 64 → value_after n ds ≡ Some (read_on n ds)
value_again n [] digits small = refl
value_again n (d ∷ ds) digits small =
    let below : n * 10 + (d - 48) < 2 ^ 64 = omega (arith, read_on_grows (n * 10 + (d - 48)) ds) in
    let test : (is_digit d && ltb (n * 10 + (d - 48)) (2 ^ 64)) ≡ true = and_from (is_digit d) (ltb (n * 10 + (d - 48)) (2 ^ 64)) (and_from (leb 48 d) (leb d 57) (le-leb 48 d digits.0.0) (le-leb d 57 digits.0.1)) (lt-ltb (n * 10 + (d - 48)) (2 ^ 64) below) in
    rw test (value_again (n * 10 + (d - 48)) ds digits.1 small)

digits_spell : (ds : List ℕ) (n : ℕ) → AreDigits ds → read_on 0 ds ≡ n → n < 2 ^ 64 → 0 < length ds → (get_or ds 0 0 ≡ 48 → length ds ≡ 1) → (ds ≡ decimal n) × (n < 2 ^ 64)
digits_spell ds n digits is small some lead =
    let back = decimal-digits_value own ds digits some lead (rw is small) in
    (sym (rw is at back), small)

pub number_spells : (text : List ℕ) (n : ℕ) → number_of text ≡ Some n → (text ≡ decimal n) × (n < 2 ^ 64)
number_spells [] n e = absurd cc
number_spells (d ∷ []) n e =
    let v = value_digits 0 (d ∷ []) n e (lit< tt) in
    digits_spell (d ∷ []) n v.0 v.1 v.2 (omega arith) (λ _. refl)
number_spells (d ∷ c ∷ ds) n e =
    let g = guard_not (eqb d 48) (value_after 0 (d ∷ c ∷ ds)) n e in
    let v = value_digits 0 (d ∷ c ∷ ds) n g.1 (lit< tt) in
    digits_spell (d ∷ c ∷ ds) n v.0 v.1 v.2 (omega arith) (λ leads. absurd (eqb-false d 48 g.0 leads))

number_again : (ds : List ℕ) → AreDigits ds → 0 < length ds → (get_or ds 0 0 ≡ 48 → length ds ≡ 1) → read_on 0 ds < 2 ^ 64 → number_of ds ≡ Some (read_on 0 ds)
number_again [] digits some lead small = absurd (omega arith)
number_again (d ∷ []) digits some lead small = value_again 0 (d ∷ []) digits small
number_again (d ∷ c ∷ ds) digits some lead small =
    let other : eqb d 48 ≡ false = ne_eqb d 48 (λ leads. absurd (omega (arith, lead leads))) in
    rw other (value_again 0 (d ∷ c ∷ ds) digits small)

leading : (n : ℕ) → n < 2 ^ 64 → get_or (decimal n) 0 0 ≡ 48 → length (decimal n) ≡ 1
leading n small is =
    elim (cases_lt 0 n) [
      | inl some ↦ absurd (omega (arith, first_decimal n some small))
      | inr none ↦ ap length (decimal_digit n (omega arith))
    ]

pub number_of-decimal : (n : ℕ) → n < 2 ^ 64 → number_of (decimal n) ≡ Some n
number_of-decimal n small =
    let value : read_on 0 (decimal n) ≡ n = digits_value-decimal own n small in
    let again = number_again (decimal n) (digits_decimal own n small) (decimal_nonempty n small) (leading n small) (rw value small) in
    again ∙ ap (λ (v : ℕ). Some v) value

Lacks-digits : (mark : ℕ) (ds : List ℕ) → mark < 48 → AreDigits ds → Lacks mark ds
Lacks-digits mark [] low digits = tt
Lacks-digits mark (d ∷ ds) low digits = (ne_eqb d mark (λ e. absurd (omega (arith, digits.0.0))), Lacks-digits mark ds low digits.1)

pub Lacks-decimal : (mark n : ℕ) → mark < 48 → n < 2 ^ 64 → Lacks mark (decimal n)
Lacks-decimal mark n low small = Lacks-digits mark (decimal n) low (digits_decimal own n small)
