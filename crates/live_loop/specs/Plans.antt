-- What a run may be asked for.
use Rattle.std.specs.Prelude.{◌≤◌, All}
use Rattle.steered_sender.specs.Standing.{IsControl}
use Rattle.live_loop.specs.declared.plan.Plan.{Plan}
use Rattle.live_loop.specs.declared.plan.Step.{Step}
use Rattle.live_loop.specs.declared.plan.TheConstants.{LEAST_LINE_RATE, GREATEST_LINE_RATE, MOST_WAIT, MOST_SECONDS, ALL_PACKETS}

-- a rate that a line may have
pub record IsStep (s : Step) : Type 0 where
  pub least : LEAST_LINE_RATE ≤ s.rate
  pub greatest : s.rate ≤ GREATEST_LINE_RATE

pub record IsPlan (p : Plan) : Type 0 where
  pub least : LEAST_LINE_RATE ≤ p.rate
  pub greatest : p.rate ≤ GREATEST_LINE_RATE
  pub queue : p.queue ≤ MOST_WAIT
  pub delay : p.delay ≤ MOST_WAIT
  pub seconds : p.seconds ≤ MOST_SECONDS
  pub steps : All IsStep p.steps.items
  pub loss : p.loss ≤ ALL_PACKETS
  pub control : IsControl p.control
  pub jitter : p.jitter ≤ MOST_WAIT
