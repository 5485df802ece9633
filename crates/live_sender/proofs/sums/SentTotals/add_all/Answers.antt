use Rattle.live_sender.proofs.Counting.{may-count, totals-next, totals-all}
use Rattle.live_sender.proofs.sums.SentTotals.add_all.Goals as goal

pub add-requires : goal.add-requires
add-requires c =
    may-count c.args.self.now c.loop-sent.self c.args.records.now c.loop-sent.sent-index _ c.requires c.loop-sent-test.true (c.loop-sent.invariant c.requires.before c.requires.are)

pub loop-sent-preserved : goal.loop-sent-preserved
loop-sent-preserved c =
    totals-next c.args.self.now c.loop-sent.self c.add.new.self c.args.records.now c.loop-sent.sent-index _ c.loop-sent-test.true c.loop-sent.invariant c.add.ensures

pub returns : goal.returns
returns c = totals-all c.args.self.now c.loop-sent.self c.args.records.now c.loop-sent.sent-index c.loop-sent-test.false c.loop-sent.invariant
