use Rattle.std.proofs.Common.{◌≡◌}
use Rattle.nack_rtx.specs.Running.{adding}
use Rattle.nack_rtx.proofs.Naming.{names_to}
use Rattle.nack_rtx.proofs.reading.add_pair.Given as goal

abbrev pub invariant-loop-i : goal.invariant-loop-i
invariant-loop-i l = l.named ≡ adding l.fn.named (names_to l.own l.bits l.i)
