use Rattle.std.proofs.Common.{refl}
use Rattle.live_sender.proofs.Summing.{sums-first}
use Rattle.live_sender.proofs.sums.Sums.none.Goals as goal

pub returns : goal.returns
returns c = sums-first _ c.none.ensures refl refl refl
