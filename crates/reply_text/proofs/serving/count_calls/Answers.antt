use Rattle.std.proofs.Common.{take, arith, length-take}
use Rattle.reply_text.proofs.Exact.{one_call, few_calls}
use Rattle.reply_text.proofs.NextLines.{calls_more}
use Rattle.reply_text.proofs.serving.count_calls.Goals as goal

pub overflow_add-count : goal.overflow_add-count
overflow_add-count c =
    let low = few_calls (take c.loop-line.line-index c.args.lines.now) in
    omega (arith, low, length-take c.loop-line.line-index c.args.lines.now, one_call c.line-item.result.action, c.count_call-count.ensures, c.loop-line.invariant)

pub loop-line-preserved : goal.loop-line-preserved
loop-line-preserved c =
    let more = calls_more c.args.lines.now c.loop-line.line-index c.line-item.result (omega (arith, c.loop-line-test.true)) c.line-item.is in
    omega (arith, more, c.count_call-count.ensures, c.loop-line.invariant)
