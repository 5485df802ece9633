use Rattle.std.proofs.Common.{◌≡◌, ◌∙◌, ap, neg_ℤ, to_z, of_z, arith}
use Rattle.std.specs.Int.{w64, w128, int_min, int_max}
use Rattle.std.proofs.lemmas.Int.{ints}
use Rattle.gcc_units.specs.declared.limits.TheConstants.{GREATEST_DELAY}
use Rattle.packet_groups.proofs.Bounds.{delay_is}
use Rattle.packet_groups.proofs.step.delay.Goals as goal

whole : (c : goal.After-clamp) → to_z w64 (of_z w64 (to_z w128 (of_z w128 c.clamp.result))) ≡ c.clamp.result
whole c = omega (arith, ints)

pub returns-clause-value : goal.returns-clause-value
returns-clause-value c =
    whole c
    ∙ c.clamp.ensures.value
    ∙ ap (λ z. int_max (neg_ℤ GREATEST_DELAY) (int_min z GREATEST_DELAY)) (delay_is c.args.send_gap c.args.arrival_gap (omega arith) c.ranges.arrival_gap)
