use Rattle.std.proofs.Common.{◌≡◌, take}
use Rattle.std.specs.Option.{ForSome}
use Rattle.level_control.specs.Delays.{IsDelay}
use Rattle.steered_sender.specs.Measures.{least_delay}
use Rattle.steered_sender.proofs.measuring.least_delay.Given as goal

-- the least of the delays so far
abbrev pub invariant-loop-credit : goal.invariant-loop-credit
invariant-loop-credit l = record {
  value : l.least ≡ least_delay (take l.credit-index l.received);
  range : ForSome l.least IsDelay;
}
