use Rattle.std.proofs.Common.{ℕ, sym, ◌∙◌, ap}
use Rattle.steered_sender.specs.Steered.{begun}
use Rattle.steered_sender.specs.Standing.{first_wanted}
use Rattle.steered_sender.proofs.steered.steering_of.Goals as goal

pub returns-in-Level-clause-wanted : goal.returns-in-Level-clause-wanted
returns-in-Level-clause-wanted c =
    c.new.ensures.stands.wanted ∙ (ap (λ (n : ℕ). (begun n).wanted) c.new.ensures.start ∙ ap first_wanted (sym c.in-Level.is))
