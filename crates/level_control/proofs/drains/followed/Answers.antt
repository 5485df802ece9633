use Rattle.std.proofs.Common.{rules}
use Rattle.level_control.proofs.drains.followed.Goals as goal

pub returns-then-shown-drain-clause-value : goal.returns-then-shown-drain-clause-value
returns-then-shown-drain-clause-value c = rw (c.deepened.ensures.value, c.with_low-low.ensures.value) (search rules)

pub returns-then-above-ge-FALL-clause-value : goal.returns-then-above-ge-FALL-clause-value
returns-then-above-ge-FALL-clause-value c = rw (c.fallen.ensures.value, c.with_low-low.ensures.value) (search rules)

pub returns-else-above-ge-FALL-clause-value : goal.returns-else-above-ge-FALL-clause-value
returns-else-above-ge-FALL-clause-value c = rw c.with_low-low.ensures.value (search rules)
