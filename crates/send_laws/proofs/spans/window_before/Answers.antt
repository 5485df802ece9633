use Rattle.std.proofs.Common.{◌≡◌, ◌*◌, ◌≤◌, take, ◌∙◌, ap, arith}
use Rattle.std.proofs.lemmas.Int.{ints}
use Rattle.pace_budget.specs.declared.bucket.TheConstants.{GREATEST_WINDOW}
use Rattle.pacer.specs.declared.pacing.Tally.{Tally}
use Rattle.send_core.specs.Levels.{window}
use Rattle.send_laws.specs.Budgets.{rate_in}
use Rattle.send_laws.proofs.Spanning.{answered-take}
use Rattle.send_laws.proofs.Summing.{product-fits, product-is, widened}
use Rattle.send_laws.proofs.Windows.{window-in_range}
use Rattle.send_laws.proofs.spans.window_before.Goals as goal

pub overflow_cast-result : goal.overflow_cast-result
overflow_cast-result c =
    let held : c.from-2.result ≡ window (take c.args.i c.args.journal.now.items) = c.from-2.ensures ∙ ap (λ (t : Tally). t.window) c.tally_at-tally.ensures in
    let short : window (take c.args.i c.args.journal.now.items) ≤ GREATEST_WINDOW = window-in_range (take c.args.i c.args.journal.now.items) (answered-take c.args.i c.args.journal.now.items c.requires.legal.each) in
    omega (arith, ints, product-fits c.from.result c.from-2.result (omega arith) (omega arith))

pub returns : goal.returns
returns c =
    let held : c.from-2.result ≡ window (take c.args.i c.args.journal.now.items) = c.from-2.ensures ∙ ap (λ (t : Tally). t.window) c.tally_at-tally.ensures in
    let short : window (take c.args.i c.args.journal.now.items) ≤ GREATEST_WINDOW = window-in_range (take c.args.i c.args.journal.now.items) (answered-take c.args.i c.args.journal.now.items c.requires.legal.each) in
    widened (c.from.result * c.from-2.result) _ (product-fits c.from.result c.from-2.result (omega arith) (omega arith))
    (product-is c.from.result c.from-2.result _ _ (c.from.ensures ∙ (c.rate.ensures ∙ ap (λ (t : Tally). rate_in c.args.budget t) c.tally_at-tally.ensures)) held)
