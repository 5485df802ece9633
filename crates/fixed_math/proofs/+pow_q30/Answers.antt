use Rattle.std.proofs.Common.{sym, arith}
use Rattle.fixed_math.proofs.Powers.{by_halving}
use Rattle.fixed_math.proofs.+pow_q30.Goals as goal

pub returns-then-n-eq0-clause-value : goal.returns-then-n-eq0-clause-value
returns-then-n-eq0-clause-value t c = rw (c.if-n-eq0.true) (sym (by_halving c.args.factor).none)

pub returns-then-n-eq1-clause-value : goal.returns-then-n-eq1-clause-value
returns-then-n-eq1-clause-value t c = rw (c.pow_q30.ensures.value) (sym ((by_halving c.args.factor).odd c.args.n c.if-n-eq1.true))

pub returns-else-n-eq1-clause-value : goal.returns-else-n-eq1-clause-value
returns-else-n-eq1-clause-value t c =
    rw (c.pow_q30-half.ensures.value) (sym ((by_halving c.args.factor).even c.args.n (omega arith) (omega arith)))
