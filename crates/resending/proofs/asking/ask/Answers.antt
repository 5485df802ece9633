use Rattle.std.proofs.Common.{subst}
use Rattle.shared_sender.specs.Served.{Refuses}
use Rattle.resending.proofs.Lone.{answered_alone, full_alone, alone_before, as_many}
use Rattle.resending.proofs.asking.ask.Goals as goal

pub returns-in-Ok-clause-as_many : goal.returns-in-Ok-clause-as_many
returns-in-Ok-clause-as_many g c = as_many c.args.seat.now c.call.new.seat c.args.call c.in-Ok.answer c.in-Ok.ensures.answered

pub returns-in-Ok-clause-answered : goal.returns-in-Ok-clause-answered
returns-in-Ok-clause-answered g c alone =
    answered_alone c.args.seat.now c.call.new.seat c.args.call c.in-Ok.answer c.requires.number c.requires.own c.call.ensures.legal c.in-Ok.ensures.answered alone

pub returns-in-Err-JournalFull-default-clause-stopped : goal.returns-in-Err-JournalFull-default-clause-stopped
returns-in-Err-JournalFull-default-clause-stopped g c alone =
    let e = c.in-Err-JournalFull-default in
    record {
      before = alone_before c.args.seat.now c.call.new.seat c.requires.own e.ensures.unadded c.call.ensures.seen alone;
      cause = full_alone c.args.seat.now c.call.new.seat c.args.call c.requires.own e.ensures.unadded c.call.ensures.seen
          (subst (Refuses c.call.new.seat.seen c.args.call) e.field-0-0-is e.ensures.refused) alone;
    }

pub returns-in-Err-NoMemory-default-clause-stopped : goal.returns-in-Err-NoMemory-default-clause-stopped
returns-in-Err-NoMemory-default-clause-stopped g c alone = record {
  before = alone_before c.args.seat.now c.call.new.seat c.requires.own c.in-Err-NoMemory-default.ensures.unadded c.call.ensures.seen alone;
  cause = tt;
}
