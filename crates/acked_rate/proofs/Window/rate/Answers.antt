use Rattle.std.proofs.Common.{arith, ◌≡◌, ◌∙◌, ◌-ℤ◌, Some, ap, to_z, of_z, min, ◌*◌}
use Rattle.std.specs.Int.{w64}
use Rattle.std.proofs.lemmas.Int.{ints}
use Rattle.gcc_units.specs.declared.limits.TheConstants.{GREATEST_RATE}
use Rattle.acked_rate.specs.declared.TheConstants.{RATE_OF_BYTE}
use Rattle.acked_rate.specs.Kept.{IsSpan}
use Rattle.acked_rate.proofs.Windows.{short-rate, full-rate, stands-at}
use Rattle.acked_rate.proofs.Window.rate.Goals as goal

pub overflow_sub-span : goal.overflow_sub-span
overflow_sub-span c =
    let was = c.in_ok-span.was in
    let s : IsSpan c.in_ok-span.span = c.self.invariant.span c.in_ok-span.span was in
    omega (arith, ints, s.low, s.order, s.high)

pub returns-then-span-lt-WINDOW-clause-value : goal.returns-then-span-lt-WINDOW-clause-value
returns-then-span-lt-WINDOW-clause-value c adds stands =
    let was = c.in_ok-span.was in
    let s : IsSpan c.in_ok-span.span = c.self.invariant.span c.in_ok-span.span was in
    let gap_is : to_z w64 (of_z w64 (to_z w64 (of_z w64 c.in_ok-span.span.newest) -ℤ to_z w64 (of_z w64 c.in_ok-span.span.oldest))) ≡ c.in_ok-span.span.newest -ℤ c.in_ok-span.span.oldest =
    omega (arith, ints, s.low, s.order, s.high) in
    short-rate c.in_ok-span.span _ adds (stands-at c.args.self.now c.self.inside.span c.self.inside.sums.items c.in_ok-span.span adds c.self.view_is was stands) (rw gap_is at c.if-span-lt-WINDOW.true)

pub returns-clause-value : goal.returns-clause-value
returns-clause-value c adds stands =
    let was = c.in_ok-span.was in
    let s : IsSpan c.in_ok-span.span = c.self.invariant.span c.in_ok-span.span was in
    let gap_is : to_z w64 (of_z w64 (to_z w64 (of_z w64 c.in_ok-span.span.newest) -ℤ to_z w64 (of_z w64 c.in_ok-span.span.oldest))) ≡ c.in_ok-span.span.newest -ℤ c.in_ok-span.span.oldest =
    omega (arith, ints, s.low, s.order, s.high) in
    ap Some (c.min.ensures ∙ ap (λ n. min (RATE_OF_BYTE * n) GREATEST_RATE) c.self.invariant.total)
    ∙ full-rate c.in_ok-span.span c.self.inside.sums.items adds (stands-at c.args.self.now c.self.inside.span c.self.inside.sums.items c.in_ok-span.span adds c.self.view_is was stands) (rw gap_is at c.if-span-lt-WINDOW.false)
