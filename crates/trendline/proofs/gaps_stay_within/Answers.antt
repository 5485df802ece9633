use Rattle.trendline.proofs.Gaps.{gaps_stay_within}
use Rattle.trendline.proofs.gaps_stay_within.Goals as goal

pub returns : goal.returns
returns c = gaps_stay_within c.samples_stay_few.ensures.few
