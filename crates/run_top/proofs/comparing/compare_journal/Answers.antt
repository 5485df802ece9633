use Rattle.std.proofs.Common.{take, sym}
use Rattle.send_laws.specs.InRange.{all_credits}
use Rattle.run_top.proofs.OneMore.{range-next, so_far-next}
use Rattle.run_top.proofs.comparing.compare_journal.Goals as goal

pub take_reply-requires : goal.take_reply-requires
take_reply-requires c = (
  all_credits (take c.loop-k.k c.args.journal.now.items),
  c.loop-k.invariant,
  range-next c.args.journal.now.items c.loop-k.k c.in-Some.entry.now (sym c.in-Some.ensures) c.requires,
)

pub loop-k-preserved : goal.loop-k-preserved
loop-k-preserved c =
    so_far-next _ c.args.journal.now.items c.loop-k.k c.in-Some.entry.now (sym c.in-Some.ensures)
    (c.in_ok-take_reply.ensures (all_credits (take c.loop-k.k c.args.journal.now.items)) c.loop-k.invariant)
