use Rattle.std.proofs.Common.{◌≡◌, Bool, true, false, refl, sym, arith}
use Rattle.std.proofs.lemmas.List.Sums.{position_or_len_is}
use Rattle.call_trace.specs.Fields.{is_byte}
use Rattle.call_trace.proofs.fields.find.Goals as goal

not_true : (b : Bool) → (b ≡ true → ⊥) → b ≡ false
not_true true not = absurd (not refl)
not_true false not = refl

pub returns-in-Some-clause-place : goal.returns-in-Some-clause-place
returns-in-Some-clause-place c =
    let first = c.in-Some.ensures in
    sym (position_or_len_is (is_byte c.args.byte) c.args.bytes.now c.in-Some.place 0 (omega (arith, first.0.high)) (λ k lt. not_true _ (first.0.before k (omega arith) lt)) (λ _. first.1))

pub returns-in-None-clause-place : goal.returns-in-None-clause-place
returns-in-None-clause-place c =
    sym (position_or_len_is (is_byte c.args.byte) c.args.bytes.now _ 0 (omega arith) (λ k lt. not_true _ (c.in-None.ensures k (omega arith) lt)) (λ lt. absurd (omega arith)))
