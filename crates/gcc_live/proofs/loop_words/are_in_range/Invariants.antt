use Rattle.std.proofs.Common.{All, take}
use Rattle.live_loop.specs.Plans.{IsStep}
use Rattle.gcc_live.proofs.loop_words.are_in_range.Given as goal

abbrev pub invariant-loop-step : goal.invariant-loop-step
invariant-loop-step l = All IsStep (take l.step-index l.steps)
