use Rattle.std.proofs.Common.{◌<◌, ◌^◌, arith}
use Rattle.call_trace.proofs.Spelling.{pace_spelled}
use Rattle.call_trace.proofs.writing.pace_text.Goals as goal

pub returns-clause-spells : goal.returns-clause-spells
returns-clause-spells c =
    let small : c.args.at < 2 ^ 64 = omega arith in
    pace_spelled c.args.actor c.args.at small
