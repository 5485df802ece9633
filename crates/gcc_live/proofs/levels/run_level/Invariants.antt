use Rattle.std.specs.Prelude.{ℕ, ◌≤◌}
use Rattle.std.specs.Option.{ForSome}
use Rattle.level_control.specs.declared.state.State.{State}
use Rattle.level_control.specs.Rule.{Gathers}
use Rattle.gcc_live.proofs.levels.run_level.Given as goal

-- so many reports were given, the last one at this moment
pub record WasGiven (control : State) (n last : ℕ) : Type 0 where
  pub order : ForSome control.last (λ moment. moment ≤ last)
  pub gathers : Gathers n control

abbrev pub invariant-loop-number : goal.invariant-loop-number
invariant-loop-number l = WasGiven l.told.control l.number l.told.last
