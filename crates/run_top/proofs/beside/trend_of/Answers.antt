use Rattle.run_top.proofs.SideBySide.{trend-whole}
use Rattle.run_top.proofs.beside.trend_of.Goals as goal

pub returns : goal.returns
returns c = trend-whole c.args.count c.min-gain.result c.args.slope c.unwrap_or.result c.requires.low c.requires.high c.min-gain.ensures c.unwrap_or.ensures
