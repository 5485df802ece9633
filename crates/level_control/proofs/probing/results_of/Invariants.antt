use Rattle.std.proofs.Common.{◌≡◌, None, fold, take}
use Rattle.gcc_units.specs.Rates.{IsInBounds}
use Rattle.level_control.specs.Probing.{with_result}
use Rattle.gcc_units.specs.declared.shared_types.Bounds.{Bounds}
use Rattle.level_control.specs.declared.probing.Taken.{Taken}
use Rattle.level_control.proofs.probing.results_of.Given as goal

-- the results so far were taken
pub record HoldsSoFar (taken wanted : Taken) (bounds : Bounds) : Type 0 where
  pub value : taken ≡ wanted
  pub within : IsInBounds bounds taken.rate

abbrev pub invariant-loop-probe : goal.invariant-loop-probe
invariant-loop-probe l =
    HoldsSoFar l.taken (fold (with_result l.bounds) (record { rate = l.fn.state.rate; next = None }) (take l.probe-index l.results)) l.bounds
