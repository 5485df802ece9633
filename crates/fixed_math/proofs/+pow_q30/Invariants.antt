use Rattle.fixed_math.proofs.+pow_q30.Given as goal

abbrev pub decreases-pow_q30 : goal.decreases-pow_q30
decreases-pow_q30 l = l.n
