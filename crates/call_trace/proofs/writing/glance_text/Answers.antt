use Rattle.call_trace.proofs.Spelling.{glance_spelled}
use Rattle.call_trace.proofs.writing.glance_text.Goals as goal

pub returns-clause-spells : goal.returns-clause-spells
returns-clause-spells c =
    glance_spelled c.args.actor
