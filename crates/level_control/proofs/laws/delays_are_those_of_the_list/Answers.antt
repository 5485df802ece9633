use Rattle.std.proofs.Common.{subst, Option}
use Rattle.level_control.specs.declared.state.Delays.{Delays}
use Rattle.level_control.specs.Given.{after_all, seen}
use Rattle.level_control.specs.AsLists.{IsBaseOf}
use Rattle.level_control.proofs.laws.delays_are_those_of_the_list.Goals as goal
use Rattle.level_control.proofs.Bases.{HasBase, base-lasts, base_of}
use Rattle.level_control.proofs.Floors.{HasChange, change-lasts, change-is, HasFloor, KeepsFloor, floor-lasts, floor-is}
use Rattle.level_control.proofs.Turns.{all_lasts}

pub returns-clause-base : goal.returns-clause-base
returns-clause-base c start given k is =
    let has : HasBase (after_all start given).delays (after_all start given).drain (seen start given) = all_lasts HasBase base-lasts start given in
    subst (λ (o : Option Delays). IsBaseOf (seen start given) (base_of o)) is has.base

pub returns-clause-change : goal.returns-clause-change
returns-clause-change c start given k is =
    change-is (seen start given) k (subst (λ (o : Option Delays). HasChange o (after_all start given).drain (seen start given)) is (all_lasts HasChange change-lasts start given))

pub returns-clause-floor : goal.returns-clause-floor
returns-clause-floor c start given k earlier last is order split =
    let kept : KeepsFloor (seen start given) k = subst (λ (o : Option Delays). HasFloor o (after_all start given).drain (seen start given)) is (all_lasts HasFloor floor-lasts start given) order in
    floor-is (seen start given) earlier last k kept split
