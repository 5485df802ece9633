use Rattle.std.proofs.Common.{◌++◌, sym, ap, ◌∙◌}
use Rattle.resending.specs.NackText.{nack_text}
use Rattle.resending.proofs.NackLines.{lines-next}
use Rattle.resending.proofs.text.nack_lines.Goals as goal

pub loop-k-preserved : goal.loop-k-preserved
loop-k-preserved c =
    c.in_ok-push_nack.ensures
    ∙ (ap (λ xs. xs ++ nack_text c.loop-k.k c.in-Some.line.now) c.loop-k.invariant ∙ sym (lines-next c.args.nacks.now.items c.loop-k.k c.in-Some.line.now (sym c.in-Some.ensures)))
