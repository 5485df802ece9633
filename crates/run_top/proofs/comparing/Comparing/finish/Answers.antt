use Rattle.run_top.proofs.OneMore.{ended}
use Rattle.run_top.proofs.comparing.Comparing.finish.Goals as goal

pub returns : goal.returns
returns c credits so_far = ended c.args.self credits _ _ so_far (c.count-count.ensures _ so_far.beside) c.in_ok-write.ensures.bytes
