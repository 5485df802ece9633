use Rattle.std.proofs.Common.{arith}
use Rattle.packet_groups.specs.Groups.{samples}
use Rattle.estimator.specs.Signals.{steps}
use Rattle.estimator.proofs.Signalling.{gap_fits, follow_sample, signals_sample}
use Rattle.estimator.proofs.hearing.take_credit.Goals as goal

pub take_sample-requires-clause-room : goal.take_sample-requires-clause-room
take_sample-requires-clause-room c =
    let r = c.requires.room in (
      steps (samples r.before),
      r.follow.detector,
      omega (arith, r.greatest, gap_fits r.before c.args.credit.now c.in_ok-sample.sample r.moment c.samples_stay_few.ensures.short (c.in_ok-sample.ensures.sample r.before r.follow.groups) r.earlier r.sent),
    )

pub returns-clause-follow : goal.returns-clause-follow
returns-clause-follow c before follow =
    follow_sample before c.args.credit.now c.in_ok-sample.sample _ _ _ follow (c.in_ok-sample.ensures.sample before follow.groups) _ _ _
    (c.add.ensures.stands before follow.groups) c.take_sample.ensures.filter c.take_sample.ensures.detector

pub returns-clause-signal : goal.returns-clause-signal
returns-clause-signal c before follow =
    signals_sample before c.args.credit.now c.in_ok-sample.sample _ _ _ follow (c.in_ok-sample.ensures.sample before follow.groups) _ c.take_sample.ensures.signal
