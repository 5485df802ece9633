use Rattle.std.proofs.Common.{◌+◌, ◌∷◌, [], ◌++◌, List, take, get_or, sym, ◌∙◌, ap, arith, append_assoc}
use Rattle.std.proofs.lemmas.List.{take_more}
use Rattle.gcc_units.specs.Listed.{Listed}
use Rattle.sent_history.specs.declared.finding.Finding.{Finding}
use Rattle.capi.proofs.feedback.append.Goals as goal

pub put-requires : goal.put-requires
put-requires c = omega (arith, c.loop-finding.invariant.1, c.loop-finding-test.true)

pub loop-finding-preserved : goal.loop-finding-preserved
loop-finding-preserved c =
    let old : List Finding = c.args.findings.now.items in
    let more : List Finding = c.args.more.now in
    let i = c.loop-finding.finding-index in (
      ap (λ (l : Listed Finding). l.items) c.put.ensures
          ∙ ap (λ (xs : List Finding). xs ++ get_or more i _ ∷ []) c.loop-finding.invariant.0
          ∙ append_assoc old (take i more) (get_or more i _ ∷ [])
          ∙ ap (λ (xs : List Finding). old ++ xs) (sym (take_more more i _ c.loop-finding-test.true)),
      omega (arith, ap (λ (l : Listed Finding). l.spare) c.put.ensures, c.loop-finding.invariant.1, c.loop-finding-test.true),
    )
