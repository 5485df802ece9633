use Rattle.std.proofs.Common.{◌≡◌, ◌+◌, ◌++◌, take, drop}
use Rattle.link_path.proofs.line.move_out.Given as goal

abbrev pub invariant-loop-i : goal.invariant-loop-i
invariant-loop-i l = record {
  inside : l.inside.items ≡ drop l._i l.fn.inside.items;
  arrivals : l.arrivals.items ≡ l.fn.arrivals.items ++ take l._i l.fn.inside.items;
  room : l.arrivals.spare + l._i ≡ l.fn.arrivals.spare;
}
