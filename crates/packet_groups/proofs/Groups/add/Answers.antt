use Rattle.std.proofs.Common.{◌≡◌, ◌∙◌, ap}
use Rattle.packet_groups.specs.declared.step.State.{State}
use Rattle.packet_groups.specs.Kept.{after}
use Rattle.packet_groups.proofs.Placing.{grows}
use Rattle.packet_groups.proofs.Groups.add.Goals as goal

step : (c : goal.After-state-2-1) → c.after-sample.result ≡ after c.args.self.now c.args.credit.now
step c = c.after-sample.ensures.value ∙ ap (λ (s : State). after s c.args.credit.now) c.self.view_is

pub returns-clause-stands : goal.returns-clause-stands
returns-clause-stands c credits stands = rw (step c) ((grows c.args.self.now credits c.args.credit.now stands).stands)

pub returns-clause-sample : goal.returns-clause-sample
returns-clause-sample c credits stands = rw (step c) ((grows c.args.self.now credits c.args.credit.now stands).sample)
