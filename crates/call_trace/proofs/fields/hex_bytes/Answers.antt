use Rattle.std.proofs.Common.{arith}
use Rattle.hex.proofs.HexLemmas.{decode_of-ok}
use Rattle.call_trace.proofs.fields.hex_bytes.Goals as goal

pub from_vec-requires : goal.from_vec-requires
from_vec-requires c = omega (arith, (decode_of-ok c.args.text.now c.in-Ok.bytes.items c.in-Ok.ensures.ok).2)
