use Rattle.std.specs.Prelude.{All}
use Rattle.level_control.specs.Probing.{IsProbed}
use Rattle.gcc_live.proofs.levels.results.Given as goal

abbrev pub invariant-loop : goal.invariant-loop
invariant-loop l = All IsProbed l.found.items
