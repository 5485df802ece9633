use Rattle.std.proofs.Common.{arith, sym, ◌∙◌}
use Rattle.level_control.proofs.report.with_delay.Goals as goal

pub returns-clause-apart : goal.returns-clause-apart
returns-clause-apart c cut x is = omega (arith, c.asks_cut.ensures.apart cut x is, c.shown-shown.ensures.now)

pub returns-clause-until : goal.returns-clause-until
returns-clause-until c cut x is =
    omega (arith, c.with_shown.ensures.until (sym c.asks_cut.ensures.value ∙ cut) x is, c.shown-shown.ensures.now, c.shown-shown.ensures.round_trip)
