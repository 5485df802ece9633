use Rattle.hex.proofs.HexLemmas.{decode_of-encode_lower}
use Rattle.call_trace.proofs.WrittenLists.{each_byte}
use Rattle.call_trace.proofs.writing.hex_text.Goals as goal

pub returns-clause-reads_back : goal.returns-clause-reads_back
returns-clause-reads_back c = decode_of-encode_lower c.args.bytes.now (each_byte c.args.bytes.now c.type_inv.bytes)
