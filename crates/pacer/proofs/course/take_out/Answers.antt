use Rattle.std.proofs.Common.{◌≡◌, sym, None}
use Rattle.pacer.proofs.Records.{unsent-no_index}
use Rattle.pacer.proofs.Taking.{taken, none-of}
use Rattle.pacer.proofs.course.take_out.Goals as goal

pub returns-then-is_some : goal.returns-then-is_some
returns-then-is_some c = taken c.args.sent c.args.queues.now c.pop.new.self c.requires c.pop.ensures.rest

pub returns-else-is_some : goal.returns-else-is_some
returns-else-is_some c =
    let none : c.args.sent.index ≡ None = none-of c.args.sent.index c.is_some.result c.is_some.ensures c.if-is_some.false in
    sym (unsent-no_index c.args.sent none c.args.queues.now)
