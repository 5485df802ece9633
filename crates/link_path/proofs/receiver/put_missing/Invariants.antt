use Rattle.std.proofs.Common.{ℕ, ◌++◌, List, Option, None, replicate}
use Rattle.link_path.specs.Division.{Told}
use Rattle.link_path.specs.Building.{IsBuilt}
use Rattle.link_path.proofs.receiver.put_missing.Given as goal

abbrev pub invariant-loop-i : goal.invariant-loop-i
invariant-loop-i l = (told : Told) (numbers : List (Option ℕ)) → IsBuilt l.fn.building told numbers → IsBuilt l.building told (numbers ++ replicate l._i None)
