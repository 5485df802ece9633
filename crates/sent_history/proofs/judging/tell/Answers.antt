use Rattle.std.proofs.Common.{arith}
use Rattle.sent_history.specs.Judging.{settled}
use Rattle.sent_history.proofs.Telling.{told_few}
use Rattle.sent_history.proofs.judging.tell.Goals as goal

pub overflow_add-judged : goal.overflow_add-judged
overflow_add-judged c = omega (arith, (told_few (settled c.args.judged.now) c.requires.few.0 c.requires.few.1).missing)
