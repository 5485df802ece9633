use Rattle.std.proofs.Common.{◌≡◌, ◌++◌, List, take}
use Rattle.nack_rtx.specs.Resending.{Event}
use Rattle.nack_rtx.specs.Keeping.{StandsFor}
use Rattle.resending.specs.Serving.{kept_among}
use Rattle.resending.proofs.keeping.keep_all.Given as goal

abbrev pub invariant-loop-k : goal.invariant-loop-k
invariant-loop-k l = record {
  settings : l.resender.settings ≡ l.fn.resender.settings;
  kept : (events : List Event) → StandsFor l.fn.resender events → StandsFor l.resender (events ++ kept_among (take l.k l.wires.items) (take l.k l.sent.items));
}
