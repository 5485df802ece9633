use Rattle.std.proofs.Common.{◌+◌, ◌≤◌, All, get_or, sym, subst}
use Rattle.std.specs.List.Sorted.{IsNonDecreasing}
use Rattle.std.proofs.lemmas.List.Sorted.{IsNonDecreasingBy-drop}
use Rattle.allocator.proofs.Ids.{rest_above}
use Rattle.allocator.proofs.checks.all_differ.Goals as goal

pub stands_again-requires-clause-order : goal.stands_again-requires-clause-order
stands_again-requires-clause-order c =
    subst (All (λ x. get_or c.args.ids.now c.loop-i.i 0 ≤ x)) (sym c.split_at.ensures.back) (rest_above c.args.ids.now c.loop-i.i c.requires c.loop-i-test.true)

pub stands_again-requires-clause-rising : goal.stands_again-requires-clause-rising
stands_again-requires-clause-rising c =
    subst IsNonDecreasing (sym c.split_at.ensures.back) (IsNonDecreasingBy-drop (λ x. x) (c.loop-i.i + 1) c.args.ids.now c.requires)
