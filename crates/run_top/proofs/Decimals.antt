-- The reader of numbers gives the value of the digits, and just where there is no leading zero.
use Rattle.std.proofs.Common.{◌≡◌, ℕ, ◌^◌, ◌<◌, List, length, get_or, Some, inl, inr, refl, sym, ap, subst, ◌∙◌, arith}
use Rattle.std.specs.Fmt.{decimal}
use Rattle.std.specs.Str.Parse.{AllDigits, digits_value}
use Rattle.std.proofs.lemmas.Bool.{cases_lt}
use Rattle.std.proofs.lemmas.Fmt.{decimal_is_IsNumeral, decimal-digits_value, first_decimal, decimal_digit}
use Rattle.std.proofs.lemmas.Str.Parse.{IsNumeralModel}
use Rattle.call_trace.specs.Fields.{number_of}
use Rattle.run_top.specs.Asking.{IsNumberText}
use Rattle.call_trace.proofs.Numbers.{number_spells, number_of-decimal}

digits_are : IsNumeralModel (AllDigits 10) (digits_value 10)
digits_are = record { to = λ ds h. h; from = λ ds h. h; same = λ ds h. refl }

leading : (n : ℕ) → n < 2 ^ 64 → get_or (decimal n) 0 0 ≡ 48 → length (decimal n) ≡ 1
leading n small is =
    elim (cases_lt 0 n) [
      | inl some ↦ absurd (omega (arith, first_decimal n some small))
      | inr none ↦ ap length (decimal_digit n (omega arith))
    ]

pub number_is : (text : List ℕ) (n : ℕ) → number_of text ≡ Some n → IsNumberText text n
number_is text n e =
    let spelled = number_spells text n e in
    let numeral = decimal_is_IsNumeral n spelled.1 in
    subst (λ t. IsNumberText t n) (sym spelled.0)
    (record { digits = numeral.0; no_leading_zero = leading n spelled.1; value = numeral.1; fits = spelled.1 })

pub is_number : (text : List ℕ) (n : ℕ) → IsNumberText text n → number_of text ≡ Some n
is_number text n is =
    let small : digits_value 10 text < 2 ^ 64 = subst (λ v. v < 2 ^ 64) (sym is.value) is.fits in
    let back : decimal (digits_value 10 text) ≡ text = decimal-digits_value digits_are text is.digits.1 is.digits.0 is.no_leading_zero small in
    subst (λ t. number_of t ≡ Some n) (ap decimal (sym is.value) ∙ back) (number_of-decimal n is.fits)
