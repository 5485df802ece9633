use Rattle.std.proofs.Common.{◌++◌, refl}
use Rattle.send_core.specs.Settings.{start_plans}
use Rattle.send_laws.proofs.Finding.{planned-change}
use Rattle.send_laws.proofs.plans.with_change.Goals as goal
use Rattle.send_laws.proofs.plans.with_change.Goals.{then-so_far, else-so_far}

pub returns-else-so_far-2-clause-planned : goal.returns-else-so_far-2-clause-planned
returns-else-so_far-2-clause-planned c = λ rs h.
    planned-change c.args.id rs c.args.so_far.started c.if-so_far.first c.args.change.now.start c.args.change.now.probe c.with_probe-planned.result _ c.if-so_far-2.false
    (elim c.if-so_far.branch [ then-so_far w ↦ absurd (cc (w.if-so_far.true, c.if-so_far-2.false)) | else-so_far w ↦ w.first-is ])
    (c.with_probe-planned.ensures.planned (rs ++ start_plans c.if-so_far.first) (c.with_start.ensures.planned rs h)) refl refl
