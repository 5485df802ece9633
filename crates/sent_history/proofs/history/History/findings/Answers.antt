use Rattle.std.proofs.Common.{◌≡◌, pos, ◌*ℤ◌, List, refl, ap, sym, ◌∙◌, subst, arith, to_z, of_z, w32, w64}
use Rattle.std.proofs.lemmas.Int.{ints}
use Rattle.gcc_units.specs.Listed.{bare}
use Rattle.gcc_units.specs.Unwrapping.{unwrapped}
use Rattle.twcc_report.specs.Spelling.{Feedback, view}
use Rattle.sent_history.specs.declared.slot.Verdict.{Verdict}
use Rattle.sent_history.specs.Kept.{Kept, Keeps}
use Rattle.sent_history.specs.Crediting.{account, findings}
use Rattle.sent_history.proofs.Accounts.{IsNear, last_near, next_near}
use Rattle.sent_history.proofs.Slots.{judged_are}
use Rattle.sent_history.proofs.history.History.findings.Goals as goal

pub unwrap24-reference-requires-clause-last_low : goal.unwrap24-reference-requires-clause-last_low
unwrap24-reference-requires-clause-last_low c =
    let near : IsNear 9007199254740992 c.self.inside.reference =
    last_near c.args.self.now c.self.inside.reference (ap (λ (k : Kept). k.reference) c.self.view_is) c.requires.room in
    omega (arith, ints, near.low, near.high)

pub unwrap24-reference-requires-clause-last_high : goal.unwrap24-reference-requires-clause-last_high
unwrap24-reference-requires-clause-last_high c =
    let near : IsNear 9007199254740992 c.self.inside.reference =
    last_near c.args.self.now c.self.inside.reference (ap (λ (k : Kept). k.reference) c.self.view_is) c.requires.room in
    omega (arith, ints, near.low, near.high)

pub overflow_mul-reference : goal.overflow_mul-reference
overflow_mul-reference c =
    let near : IsNear 9007199263129600 c.unwrap24-reference.result =
    next_near c.args.self.now c.self.inside.reference _ c.unwrap24-reference.result (ap (λ (k : Kept). k.reference) c.self.view_is) c.requires.room c.unwrap24-reference.ensures.nearest in
    omega (arith, ints, near.low, near.high)

pub findings_of-requires-clause-low : goal.findings_of-requires-clause-low
findings_of-requires-clause-low c =
    let near : IsNear 9007199263129600 c.unwrap24-reference.result =
    next_near c.args.self.now c.self.inside.reference _ c.unwrap24-reference.result (ap (λ (k : Kept). k.reference) c.self.view_is) c.requires.room c.unwrap24-reference.ensures.nearest in
    omega (arith, ints, near.low, near.high)

pub findings_of-requires-clause-high : goal.findings_of-requires-clause-high
findings_of-requires-clause-high c =
    let near : IsNear 9007199263129600 c.unwrap24-reference.result =
    next_near c.args.self.now c.self.inside.reference _ c.unwrap24-reference.result (ap (λ (k : Kept). k.reference) c.self.view_is) c.requires.room c.unwrap24-reference.ensures.nearest in
    omega (arith, ints, near.low, near.high)

pub returns : goal.returns
returns c = λ events stands.
    let h : Kept = record { sent = c.self.inside.sent; slots = c.self.inside.slots; reference = c.self.inside.reference } in
    let keep : Keeps h (account events) = subst (λ (k : Kept). Keeps k (account events)) (sym c.self.view_is) stands in
    let last : IsNear 9007199254740992 c.self.inside.reference =
    last_near c.args.self.now c.self.inside.reference (ap (λ (k : Kept). k.reference) c.self.view_is) c.requires.room in
    let near : IsNear 9007199263129600 c.unwrap24-reference.result =
    next_near c.args.self.now c.self.inside.reference _ c.unwrap24-reference.result (ap (λ (k : Kept). k.reference) c.self.view_is) c.requires.room c.unwrap24-reference.ensures.nearest in
    let report : Feedback = view c.args.report.now in
    let is_last : to_z w64 (of_z w64 c.self.inside.reference) ≡ c.self.inside.reference = omega (arith, ints, last.low, last.high) in
    let is_low : to_z w32 (of_z w32 report.reference) ≡ report.reference = omega (arith, ints, c.requires.low, c.requires.high) in
    let value : c.unwrap24-reference.result ≡ unwrapped h.reference report.reference =
    c.unwrap24-reference.ensures.value ∙ ap (λ z. unwrapped z (to_z w32 (of_z w32 report.reference))) is_last ∙ ap (λ z. unwrapped h.reference z) is_low in
    let product : to_z w64 (of_z w64 (pos 256 *ℤ to_z w64 (of_z w64 c.unwrap24-reference.result))) ≡ (pos 256 *ℤ c.unwrap24-reference.result) =
    omega (arith, ints, near.low, near.high) in
    c.in_ok-found.ensures
    ∙ ap (λ (vs : List Verdict). bare (findings vs)) (judged_are h (account events) report h.slots (to_z w64 (of_z w64 (pos 256 *ℤ to_z w64 (of_z w64 c.unwrap24-reference.result)))) c.as_slice-statuses.result.now
    (omega arith) keep refl (product ∙ ap (λ z. pos 256 *ℤ z) value) c.as_slice-statuses.ensures.items)
