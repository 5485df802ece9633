use Rattle.std.proofs.Common.{◌-◌, arith}
use Rattle.allocator.proofs.Walk.{line_fits, line_above}
use Rattle.allocator.proofs.line.Line.level_within.Goals as goal

pub returns-clause-fits : goal.returns-clause-fits
returns-clause-fits c =
    λ h. line_fits c.args.self.rise c.args.self.fall (c.args.self.rise - c.args.self.fall) c.args.self.constant c.args.total
    (c.args.total - c.args.self.constant) c.min.result (omega arith) (omega arith) (omega arith) (omega arith)

pub returns-clause-greatest : goal.returns-clause-greatest
returns-clause-greatest c =
    λ m h l. line_above c.args.self.rise c.args.self.fall (c.args.self.rise - c.args.self.fall) c.args.self.constant c.args.total
    (c.args.total - c.args.self.constant) m (omega arith) (omega arith) (omega arith) (omega arith)
