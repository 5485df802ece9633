-- What can be done.
use Rattle.live_loop.specs.Plans.{IsPlan}
use Rattle.gcc_live.specs.declared.words.Job.{Job}
use Rattle.gcc_live.specs.declared.words.Job.TheVariants as job

-- a run in a closed loop has a plan that a run may have
abbrev pub CanBeDone : Job → Type 0
CanBeDone (job.Made senders calls seed) = Unit {0}
CanBeDone job.Against = Unit {0}
CanBeDone (job.Loop asked) = IsPlan asked.plan
CanBeDone job.Level = Unit {0}
