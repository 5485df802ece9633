use Rattle.std.proofs.Common.{◌∙◌, sym}
use Rattle.gcc_units.specs.declared.limits.TheConstants.{MOST_SENDS}
use Rattle.pacer.proofs.Sends.{paced-few}
use Rattle.pacer.specs.State.{terms, standing}
use Rattle.pacer.proofs.Taking.{none-of}
use Rattle.pacer.proofs.Room.{closed-low, closed-few}
use Rattle.pacer.proofs.pacer.Pacer.most_sends.Goals as goal

pub returns-then-is_open-clause-covers : goal.returns-then-is_open-clause-covers
returns-then-is_open-clause-covers c =
    λ first. paced-few MOST_SENDS (terms c.args.self.now) (standing c.args.self.now c.args.clusters.now.items first)

pub returns-clause-covers : goal.returns-clause-covers
returns-clause-covers c =
    λ first.
    rw (← c.self.view_is, c.min.ensures, c.len.ensures.len)
    (closed-few _ _ (record {
      no_probe = sym c.due.ensures.value ∙ none-of c.due.result c.is_some.result c.is_some.ensures c.if-is_some.false;
      no_padding = closed-low c.is_open.result _ c.is_open.ensures c.if-is_open.false;
    }))
