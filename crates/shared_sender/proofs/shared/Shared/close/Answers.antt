use Rattle.std.proofs.Common.{List, sym, subst}
use Rattle.std.specs.List.{All}
use Rattle.send_core.specs.declared.call.Entry.{Entry}
use Rattle.turn_lock.specs.Rule.{BeginsWith}
use Rattle.shared_sender.specs.Served.{answers_of}
use Rattle.shared_sender.proofs.shared.Shared.close.Goals as goal

pub returns-in-Ok-clause-seen : goal.returns-in-Ok-clause-seen
returns-in-Ok-clause-seen c =
    subst (λ (h : List Entry). All (λ seat. BeginsWith (answers_of h) seat.seen) c.args.seats.items) (sym c.into_sender.ensures) c.in-Ok.ensures.seen
