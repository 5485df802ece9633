use Rattle.std.proofs.Common.{◌≡◌, ◌+◌, length}
use Rattle.gcc_units.specs.declared.limits.TheConstants.{MOST_SENDS}
use Rattle.pacer.specs.Course.{standing, IsFit}
use Rattle.pacer.proofs.PaceLoop.{IsUnderWay}
use Rattle.pacer.proofs.course.run.Given as goal

abbrev pub invariant-loop-number : goal.invariant-loop-number
invariant-loop-number l =
    IsUnderWay l.fn.terms (standing l.fn.course l.fn.clusters.items l.fn.first) (standing l.course l.clusters.items l.number) l.out.items
    × IsFit l.fn.terms l.course
    × (l.number-end ≡ l.fn.first + MOST_SENDS)
    × (l.number ≡ l.fn.first + length l.out.items)
    × (l.out.spare + length l.out.items ≡ l.fn.out.spare)
    × (l.clusters.spare ≡ l.fn.clusters.spare)
