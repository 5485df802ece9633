use Rattle.pacer.specs.Course.{standing}
use Rattle.pacer.proofs.Ruled.{rule-is, size-small, probe-due}
use Rattle.pacer.proofs.Carrying.{fit-after, lowered-by, probed}
use Rattle.pacer.proofs.course.carry_out.Goals as goal

pub take_out-requires : goal.take_out-requires
take_out-requires c = (rule-is c.args.terms (standing c.args.course.now c.args.clusters.now.items c.args.number) c.args.sent c.requires.ruled).index

pub spend-requires-clause-size : goal.spend-requires-clause-size
spend-requires-clause-size c =
    size-small (standing c.args.course.now c.args.clusters.now.items c.args.number) c.args.sent c.requires.fit.small
    (rule-is c.args.terms (standing c.args.course.now c.args.clusters.now.items c.args.number) c.args.sent c.requires.ruled).size

pub spend_soft-requires-clause-size : goal.spend_soft-requires-clause-size
spend_soft-requires-clause-size c =
    size-small (standing c.args.course.now c.args.clusters.now.items c.args.number) c.args.sent c.requires.fit.small
    (rule-is c.args.terms (standing c.args.course.now c.args.clusters.now.items c.args.number) c.args.sent c.requires.ruled).size

pub spend_probe-requires-clause-size : goal.spend_probe-requires-clause-size
spend_probe-requires-clause-size c =
    size-small (standing c.args.course.now c.args.clusters.now.items c.args.number) c.args.sent c.requires.fit.small
    (rule-is c.args.terms (standing c.args.course.now c.args.clusters.now.items c.args.number) c.args.sent c.requires.ruled).size

pub sent-requires-clause-size : goal.sent-requires-clause-size
sent-requires-clause-size c =
    size-small (standing c.args.course.now c.args.clusters.now.items c.args.number) c.args.sent c.requires.fit.small
    (rule-is c.args.terms (standing c.args.course.now c.args.clusters.now.items c.args.number) c.args.sent c.requires.ruled).size

pub returns-in-Audio-clause-fit : goal.returns-in-Audio-clause-fit
returns-in-Audio-clause-fit c = fit-after c.args.terms c.args.course.now _ c.args.sent c.requires.fit c.take_out.ensures

pub returns-in-Media-clause-fit : goal.returns-in-Media-clause-fit
returns-in-Media-clause-fit c = fit-after c.args.terms c.args.course.now _ c.args.sent c.requires.fit c.take_out.ensures

pub returns-in-Probe-clause-fit : goal.returns-in-Probe-clause-fit
returns-in-Probe-clause-fit c = fit-after c.args.terms c.args.course.now _ c.args.sent c.requires.fit c.take_out.ensures

pub returns-in-Padding-clause-fit : goal.returns-in-Padding-clause-fit
returns-in-Padding-clause-fit c = fit-after c.args.terms c.args.course.now _ c.args.sent c.requires.fit c.take_out.ensures

pub returns-in-Probe-clause-stands : goal.returns-in-Probe-clause-stands
returns-in-Probe-clause-stands c =
    λ ds s. probed c.args.terms.moment c.args.sent c.in-Probe.field-0 _ ds c.in-Probe.is _ (probe-due c.args.terms (standing c.args.course.now c.args.clusters.now.items c.args.number) c.args.sent c.in-Probe.field-0 c.requires.ruled c.in-Probe.is) (c.sent.ensures.stands ds s)

pub returns-in-Media-clause-lowered : goal.returns-in-Media-clause-lowered
returns-in-Media-clause-lowered c =
    λ sends low. lowered-by c.args.sent.size sends _ _
    (size-small (standing c.args.course.now c.args.clusters.now.items c.args.number) c.args.sent c.requires.fit.small
    (rule-is c.args.terms (standing c.args.course.now c.args.clusters.now.items c.args.number) c.args.sent c.requires.ruled).size)
    c.spend.ensures.level low

pub returns-in-Probe-clause-lowered : goal.returns-in-Probe-clause-lowered
returns-in-Probe-clause-lowered c =
    λ sends low. lowered-by c.args.sent.size sends _ _
    (size-small (standing c.args.course.now c.args.clusters.now.items c.args.number) c.args.sent c.requires.fit.small
    (rule-is c.args.terms (standing c.args.course.now c.args.clusters.now.items c.args.number) c.args.sent c.requires.ruled).size)
    c.spend_probe.ensures.level low
