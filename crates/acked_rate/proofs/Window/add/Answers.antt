use Rattle.std.proofs.Common.{arith, ◌≡◌, ◌∙◌, ap, ◌+◌, ◌-◌, Option, sum, to_z, of_z}
use Rattle.std.specs.Int.{w64}
use Rattle.std.proofs.lemmas.Int.{ints}
use Rattle.acked_rate.specs.declared.sums.Span.{Span}
use Rattle.acked_rate.specs.Received.{Add, widened}
use Rattle.acked_rate.specs.Ring.{first_in, steps_to, timed}
use Rattle.acked_rate.specs.Kept.{Kept}
use Rattle.acked_rate.proofs.Windows.{add-above, add-keeps, add-stands}
use Rattle.acked_rate.proofs.Window.add.Goals as goal

pub overflow_add-self : goal.overflow_add-self
overflow_add-self c =
    omega (arith, c.self.invariant.total, c.self.invariant.few, c.advance.ensures.gone, c.take_in.ensures.most)

pub invariant_of-self : goal.invariant_of-self
invariant_of-self c =
    let x : Add = record { arrival = c.args.arrival; size = c.args.size } in
    let arrival_is : to_z w64 (of_z w64 c.args.arrival) ≡ c.args.arrival = omega (arith, ints) in
    let newest_is : to_z w64 (of_z w64 c.widened-span.result.newest) ≡ c.widened-span.result.newest = omega (arith, ints) in
    let span_is : c.widened-span.result ≡ widened c.self.inside.span c.args.arrival = rw arrival_is at c.widened-span.ensures in
    let steps_is : c.steps_to.result ≡ steps_to c.self.inside.span c.widened-span.result.newest = rw newest_is at c.steps_to.ensures in
    let known : c.self.inside.span ≡ c.args.self.now.span = ap (λ (k : Kept). k.span) c.self.view_is in
    let total : c.self.inside.total - c.advance.result + c.take_in.result ≡ sum c.take_in.new.ring.items =
    omega (arith, c.self.invariant.total, c.advance.ensures.gone, c.take_in.ensures.added) in
    add-keeps c.args.self.now c.self.inside.span x c.widened-span.result c.take_in.new.ring (c.self.inside.total - c.advance.result + c.take_in.result)
    c.take_in.ensures.full total c.self.invariant.span c.requires.few c.requires.within known span_is
    (add-above c.args.self.now c.self.inside.span c.self.inside.sums.items c.advance.new.ring.items c.take_in.new.ring.items c.steps_to.result x c.widened-span.result
    c.self.view_is c.self.invariant.filled span_is steps_is c.advance.ensures.items (rw (newest_is, arrival_is) at c.take_in.ensures.above))

pub returns : goal.returns
returns c adds stands =
    let x : Add = record { arrival = c.args.arrival; size = c.args.size } in
    let arrival_is : to_z w64 (of_z w64 c.args.arrival) ≡ c.args.arrival = omega (arith, ints) in
    let newest_is : to_z w64 (of_z w64 c.widened-span.result.newest) ≡ c.widened-span.result.newest = omega (arith, ints) in
    let span_is : c.widened-span.result ≡ widened c.self.inside.span c.args.arrival = rw arrival_is at c.widened-span.ensures in
    let steps_is : c.steps_to.result ≡ steps_to c.self.inside.span c.widened-span.result.newest = rw newest_is at c.steps_to.ensures in
    let known : c.self.inside.span ≡ c.args.self.now.span = ap (λ (k : Kept). k.span) c.self.view_is in
    add-stands c.args.self.now adds x c.widened-span.result (timed (first_in c.widened-span.result.newest) c.take_in.new.ring.items) stands
    (span_is ∙ ap (λ (k : Option Span). widened k c.args.arrival) known)
    (add-above c.args.self.now c.self.inside.span c.self.inside.sums.items c.advance.new.ring.items c.take_in.new.ring.items c.steps_to.result x c.widened-span.result
    c.self.view_is c.self.invariant.filled span_is steps_is c.advance.ensures.items (rw (newest_is, arrival_is) at c.take_in.ensures.above))
