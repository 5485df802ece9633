use Rattle.std.proofs.Common.{◌≡◌, ◌+◌, ◌-◌, ◌≤◌, length, drop}
use Rattle.std.specs.List.{prefix_len}
use Rattle.link_path.specs.Link.{has_arrived}
use Rattle.link_path.proofs.line.count_arrived.Given as goal

abbrev pub invariant-loop-arrival : goal.invariant-loop-arrival
invariant-loop-arrival l = record {
  inside : l.count ≤ length l.inside.items;
  front : l.count + prefix_len (has_arrived l.now) (drop l.count l.inside.items) ≡ prefix_len (has_arrived l.now) l.inside.items;
}

abbrev pub decreases-loop-arrival : goal.decreases-loop-arrival
decreases-loop-arrival l = length l.inside.items - l.count
