use Rattle.std.proofs.Common.{◌≡◌, ◌≤◌, ℕ, ◌+◌, List, take, length, sym, ◌∙◌, ap, subst, arith}
use Rattle.std.proofs.Math.Seq.{take-length}
use Rattle.send_core.specs.declared.call.Entry.{Entry}
use Rattle.estimator.specs.Est.{estimate}
use Rattle.send_core.specs.Estimates.{est}
use Rattle.run_top.proofs.Rates.{Estimated, estimated-none, estimated-next}
use Rattle.run_top.proofs.told.estimates.Goals as goal

pub loop-k-init : goal.loop-k-init
loop-k-init c = estimated-none c.args.journal.now.items

pub loop-k-preserved : goal.loop-k-preserved
loop-k-preserved c =
    subst (λ (t : ℕ × ℕ). Estimated c.args.journal.now.items (c.loop-k.k + 1) t.0 t.1) (sym c.told_after-told.ensures)
    (estimated-next c.args.journal.now.items c.loop-k.k c.in-Some.entry.now c.loop-k.told c.requires (sym c.in-Some.ensures) c.loop-k.invariant)

-- after the loop all entries were looked at
whole : (items : List Entry) (k n : ℕ) → n ≡ length items → k ≤ n → n ≤ k → take k items ≡ items
whole items k n long most least = let e : k ≡ length items = omega (arith, long, most, least) in ap (λ j. take j items) e ∙ take-length items

pub returns-clause-delay : goal.returns-clause-delay
returns-clause-delay c =
    sym c.loop-k.invariant.delay_is
    ∙ ap (λ (h : List Entry). (estimate (est h)).delay) (whole c.args.journal.now.items c.loop-k.k c.len-k-end.result c.len-k-end.ensures c.loop-k.auto.k-end c.loop-k-test.false)

pub returns-clause-loss : goal.returns-clause-loss
returns-clause-loss c =
    sym c.loop-k.invariant.loss_is
    ∙ ap (λ (h : List Entry). (estimate (est h)).loss) (whole c.args.journal.now.items c.loop-k.k c.len-k-end.result c.len-k-end.ensures c.loop-k.auto.k-end c.loop-k-test.false)
