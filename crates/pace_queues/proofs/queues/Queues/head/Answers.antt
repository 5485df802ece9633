use Rattle.std.proofs.Common.{sym}
use Rattle.pace_queues.proofs.Waiting.{next-is_least, next-is_none}
use Rattle.pace_queues.proofs.Rings.{next-is_first}
use Rattle.pace_queues.proofs.Changes.{list-is}
use Rattle.pace_queues.proofs.queues.Queues.head.Goals as goal

pub returns-clause-first : goal.returns-clause-first
returns-clause-first c =
    let r = c.self.invariant in
    rw (
      ← c.self.view_is,
      list-is c.self.inside r,
      c.or-2.ensures,
      c.or.ensures,
      c.copied-audio.ensures,
      c.front.ensures,
      c.copied-retransmission.ensures,
      c.front-2.ensures,
      c.copied.ensures,
      c.front-3.ensures,
      r.first_is,
      r.second_is,
      r.third_is,
    )
    (sym (next-is_first r.waiting r.rising))

pub returns-clause-least : goal.returns-clause-least
returns-clause-least c = rw (returns-clause-first c) (next-is_least c.args.self.now)

pub returns-clause-none : goal.returns-clause-none
returns-clause-none c = rw (returns-clause-first c) (next-is_none c.args.self.now)
