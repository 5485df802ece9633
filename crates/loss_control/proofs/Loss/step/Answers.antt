use Rattle.std.proofs.Common.{◌<◌, ◌^◌, arith}
use Rattle.loss_control.proofs.Gathering.{after-stands, counts-few}
use Rattle.loss_control.proofs.Loss.step.Goals as goal

pub after-self-inside-requires-clause-few : goal.after-self-inside-requires-clause-few
after-self-inside-requires-clause-few c =
    let low : (c.args.self.now.received < 2 ^ 46) × (c.args.self.now.missing < 2 ^ 46) = counts-few c.args.self.now c.requires.few in
    rw c.self.view_is (omega arith)

pub returns-clause-stands : goal.returns-clause-stands
returns-clause-stands c reports stands =
    rw (c.after-self-inside.ensures.value, c.self.view_is)
    (after-stands c.args.self.now (record { received = c.args.received; missing = c.args.missing }) c.args.now c.args.bounds reports stands)
