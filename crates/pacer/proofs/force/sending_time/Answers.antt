use Rattle.std.proofs.Common.{◌≤◌, ◌*◌, sum_by, length, arith}
use Rattle.gcc_units.specs.declared.limits.TheConstants.{GREATEST_PACKET}
use Rattle.pace_queues.specs.Waiting.{size_of}
use Rattle.pacer.proofs.Draining.{bytes-few}
use Rattle.pacer.proofs.force.sending_time.Goals as goal

pub overflow_mul-bytes : goal.overflow_mul-bytes
overflow_mul-bytes c =
    let few : sum_by size_of c.args.queues.now ≤ GREATEST_PACKET * length c.args.queues.now = bytes-few c.args.moment c.args.queues.now c.requires.due in
    omega (arith, few, c.bytes.ensures, c.len-few.ensures.len, c.len-few.ensures.most)
