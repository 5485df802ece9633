use Rattle.std.proofs.Common.{rules}
use Rattle.rtp_wire.proofs.Pieces.{length-pieces}
use Rattle.rtp_wire.proofs.wires.WireList.len.Goals as goal

pub returns : goal.returns
returns c = rw (← c.self.view_is, length-pieces 0 c.self.inside.ends.items c.self.inside.bytes.items) (search rules)
