use Rattle.std.proofs.Common.{◌<◌, ◌^◌, arith}
use Rattle.call_trace.proofs.Spelling.{configure_spelled}
use Rattle.call_trace.proofs.writing.configure_text.Goals as goal

pub returns-clause-spells : goal.returns-clause-spells
returns-clause-spells c =
    let small : c.args.at < 2 ^ 64 = omega arith in
    configure_spelled c.args.actor c.args.at c.args.change.now small c.in_ok-json.ensures.spells c.in_ok-json.ensures.feedless
