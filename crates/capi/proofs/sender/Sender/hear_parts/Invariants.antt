use Rattle.std.proofs.Common.{◌≡◌, map}
use Rattle.rtcp_compound.specs.Compound.{part_of}
use Rattle.capi.specs.Hearing.{AreHeard}
use Rattle.capi.proofs.sender.Sender.hear_parts.Given as goal

abbrev pub invariant-loop-part : goal.invariant-loop-part
invariant-loop-part l = AreHeard l.fn.self.steered l.self.steered l.self.findings l.at l.heard (map (part_of l.rtcp) l.yielded) × (l.self.kept ≡ l.fn.self.kept)
