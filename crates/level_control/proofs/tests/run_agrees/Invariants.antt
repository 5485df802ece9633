use Rattle.std.specs.Prelude.{◌≤◌}
use Rattle.std.specs.Option.{ForSome}
use Rattle.gcc_units.specs.declared.limits.TheConstants.{GREATEST_MOMENT}
use Rattle.level_control.specs.declared.state.State.{State}
use Rattle.level_control.specs.Rule.{Gathers}
use Rattle.std.specs.Prelude.{ℕ}
use Rattle.level_control.proofs.tests.run_agrees.Given as goal

-- so many reports were given, the last one at this moment
pub record WasGiven (control : State) (n last : ℕ) : Type 0 where
  pub moment : last ≤ GREATEST_MOMENT
  pub order : ForSome control.last (λ moment. moment ≤ last)
  pub gathers : Gathers n control

abbrev pub invariant-loop-row : goal.invariant-loop-row
invariant-loop-row g l = WasGiven l.control l.row-index l.last
