use Rattle.std.proofs.Common.{subst, sym}
use Rattle.estimator.specs.Est.{set_est}
use Rattle.estimator.specs.Kept.{Values, StandsFor}
use Rattle.estimator.proofs.Taking.{stands_set}
use Rattle.estimator.proofs.Estimator.set.Goals as goal

pub returns-clause-answer : goal.returns-clause-answer
returns-clause-answer c e stands =
    let Stands : Values → Type 0 = λ v. StandsFor v e in
    c.current.ensures.value (set_est e c.args.start c.args.bounds)
    (stands_set _ e c.args.start c.args.bounds _ _ (subst Stands (sym c.self.view_is) stands) c.set.ensures.state c.set-2.ensures.state c.set-2.ensures.stands)
