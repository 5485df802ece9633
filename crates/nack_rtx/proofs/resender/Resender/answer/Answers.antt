use Rattle.std.proofs.Common.{ap}
use Rattle.nack_rtx.specs.Held.{Held}
use Rattle.nack_rtx.specs.Keeping.{with_counts}
use Rattle.nack_rtx.specs.Resending.{account}
use Rattle.nack_rtx.proofs.Working.{tells, stands_after}
use Rattle.nack_rtx.proofs.resender.Resender.answer.Goals as goal

pub returns-clause-told : goal.returns-clause-told
returns-clause-told c = λ events stands.
    tells c.args.self.now c.in_ok-counts.field-0 c.settle.new.self c.args.self.now.settings c.args.nack.now.media (account c.args.self.now.settings events) c.args.nack.now.lost.items
    (c.in_ok-counts.ensures (account c.args.self.now.settings events) stands) c.settle.ensures

pub returns-clause-stands : goal.returns-clause-stands
returns-clause-stands c = λ events stands.
    stands_after c.args.self.now _ c.in_ok-counts.field-0 c.args.nack.now.media c.args.nack.now.lost.items events
    (c.in_ok-counts.ensures (account c.args.self.now.settings events) stands)
    (ap (λ (h : Held). with_counts h c.in_ok-counts.field-0.counts c.in_ok-counts.field-0.resends) c.self.view_is)
