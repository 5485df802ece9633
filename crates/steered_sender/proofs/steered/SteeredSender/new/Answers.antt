use Rattle.std.proofs.Common.{[]}
use Rattle.steered_sender.specs.Steered.{with_wanted}
use Rattle.steered_sender.specs.Standing.{wanted_of}
use Rattle.steered_sender.proofs.steered.SteeredSender.new.Goals as goal

pub invariant_of-result : goal.invariant_of-result
invariant_of-result c = (
  with_wanted [] (wanted_of c.steering_of-steering.result),
  record {
    sender = c.in-Ok.ensures.sender [] c.in_ok-sender.ensures.stands;
    steering = c.in-Ok.ensures.steering [] c.in_ok-sender.ensures.stands c.steering_of-steering.ensures.stands;
  },
)
