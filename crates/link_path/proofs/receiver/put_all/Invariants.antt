use Rattle.std.proofs.Common.{◌≡◌, ℕ, ◌++◌, List, Option, take}
use Rattle.link_path.specs.Division.{Told}
use Rattle.link_path.specs.Building.{IsBuilt}
use Rattle.link_path.specs.Receiver.{heard, next_from}
use Rattle.link_path.proofs.receiver.put_all.Given as goal

abbrev pub invariant-loop-arrival : goal.invariant-loop-arrival
invariant-loop-arrival l = record {
  built : (told : Told) (numbers : List (Option ℕ)) → IsBuilt l.fn.building told numbers → IsBuilt l.building told (numbers ++ heard l.fn.from (take l.arrival-index l.taken));
  next : l.next ≡ next_from l.fn.from (take l.arrival-index l.taken);
}
