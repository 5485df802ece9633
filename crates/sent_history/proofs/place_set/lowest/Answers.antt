use Rattle.std.proofs.Common.{refl}
use Rattle.sent_history.proofs.Bits.{none_behind, lowest_behind}
use Rattle.sent_history.proofs.place_set.lowest.Goals as goal

pub returns-then-behind-eq0-clause-none : goal.returns-then-behind-eq0-clause-none
returns-then-behind-eq0-clause-none c = λ i le lt. none_behind c.args.word c.args.from _ i refl c.if-behind-eq0.true le

pub returns-clause-some : goal.returns-clause-some
returns-clause-some c = lowest_behind c.args.word c.args.from _ c.ranges.word.fits refl c.if-behind-eq0.false
