use Rattle.std.proofs.Common.{◌<◌, ◌^◌, arith}
use Rattle.call_trace.proofs.Spelling.{report_spelled, reads_items}
use Rattle.call_trace.proofs.writing.report_text.Goals as goal

pub returns-clause-spells : goal.returns-clause-spells
returns-clause-spells c =
    let small : c.args.at < 2 ^ 64 = omega arith in
    report_spelled c.args.actor c.args.at c.args.bytes.now small c.requires (reads_items _ _ c.as_slice.ensures.items c.in_ok-hex.ensures.reads_back)
