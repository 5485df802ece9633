use Rattle.std.proofs.Common.{◌≡◌, ◌≤◌, ◌*◌, sum_by, length, arith, ◌∙◌, ap, max}
use Rattle.pacer.specs.declared.force.TheConstants.{LEAST_DRAIN_TIME}
use Rattle.gcc_units.specs.declared.limits.TheConstants.{GREATEST_PACKET}
use Rattle.pace_queues.specs.Waiting.{size_of}
use Rattle.pacer.proofs.Draining.{moments-few, bytes-few, drain-is}
use Rattle.pacer.proofs.force.drain.Goals as goal

pub average-waited-requires-clause-sum : goal.average-waited-requires-clause-sum
average-waited-requires-clause-sum c =
    let many : c.len-count.result * c.args.moment ≡ length c.args.queues.now * c.args.moment = ap (λ n. n * c.args.moment) c.len-count.ensures.len in
    omega (arith, many, moments-few c.args.moment c.args.queues.now c.requires.due, c.accepted_sum.ensures)

pub overflow_mul-bytes : goal.overflow_mul-bytes
overflow_mul-bytes c =
    let few : sum_by size_of c.args.queues.now ≤ GREATEST_PACKET * length c.args.queues.now = bytes-few c.args.moment c.args.queues.now c.requires.due in
    omega (arith, few, c.bytes.ensures, c.len-count.ensures.len, c.len-count.ensures.most)

pub ceiling-requires-clause-fits : goal.ceiling-requires-clause-fits
ceiling-requires-clause-fits c =
    let few : sum_by size_of c.args.queues.now ≤ GREATEST_PACKET * length c.args.queues.now = bytes-few c.args.moment c.args.queues.now c.requires.due in
    omega (arith, few, c.bytes.ensures, c.len-count.ensures.len, c.len-count.ensures.most, c.max-time.ensures, c.saturating_sub.ensures)

pub returns : goal.returns
returns c =
    c.ceiling.ensures
    ∙ drain-is c.args.moment c.args.queues.now c.len-count.result c.accepted_sum.result c.bytes.result c.average-waited.result c.max-time.result
    c.requires.due c.len-count.ensures.len c.if-count-eq0.false c.accepted_sum.ensures c.bytes.ensures c.average-waited.ensures
    (c.max-time.ensures ∙ ap (λ n. max LEAST_DRAIN_TIME n) c.saturating_sub.ensures)
