use Rattle.std.proofs.Common.{◌≡◌, ◌+◌, ◌+ℤ◌, ◌∷◌, [], ◌++◌, List, ap, sym, ◌∙◌, arith, to_z, of_z, w64, ℤ}
use Rattle.std.proofs.lemmas.Int.{ints}
use Rattle.gcc_units.specs.Listed.{Listed, bare}
use Rattle.sent_history.specs.declared.finding.Finding.{Finding}
use Rattle.sent_history.specs.declared.slot.Verdict.{Verdict}
use Rattle.sent_history.specs.Crediting.{finding_in}
use Rattle.sent_history.specs.Judging.{slot_verdict}
use Rattle.sent_history.proofs.Findings.{findings-push, goes_on}
use Rattle.sent_history.proofs.finding.findings_of.Goals as goal

pub loop-status-preserved : goal.loop-status-preserved
loop-status-preserved c =
    let so_far = c.loop-status.invariant.0 in
    let before : List Verdict = so_far.0 in
    let v : Verdict = c.verdict_at.result in
    let arrived : ℤ = to_z w64 c.loop-status.arrival-bits in
    let then : ℤ = to_z w64 (of_z w64 (arrived +ℤ to_z w64 (of_z w64 c.delta_of-arrival.result))) in
    let d : to_z w64 (of_z w64 c.delta_of-arrival.result) ≡ c.delta_of-arrival.result = omega (arith, ints, c.delta_of-arrival.ensures.low, c.delta_of-arrival.ensures.high) in
    let sum : then ≡ (arrived +ℤ c.delta_of-arrival.result) =
    omega (arith, ints, d, c.delta_of-arrival.ensures.low, c.delta_of-arrival.ensures.high, c.loop-status.invariant.1, c.loop-status.invariant.2, c.requires.few, c.loop-status-test.true) in
    let is : c.note.new.found ≡ bare (c.loop-status.found.items ++ finding_in v) = c.in_ok-note.ensures so_far.2 in (
      (
        before ++ v ∷ [],
        ap (λ (n : Listed Finding). n.items) is ∙ ap (λ (xs : List Finding). xs ++ finding_in v) so_far.1 ∙ sym (findings-push before v),
        ap (λ (n : Listed Finding). n.spare) is,
        goes_on (slot_verdict c.args.slots.now c.args.sent) c.args.sent c.loop-status.low arrived then c.args.statuses.now c.loop-status.status-index before v _
            c.loop-status-test.true c.verdict_at.ensures (sum ∙ ap (λ z. arrived +ℤ z) c.delta_of-arrival.ensures.value) so_far.3,
      ),
      omega (arith, ints),
      omega (arith, ints),
    )
