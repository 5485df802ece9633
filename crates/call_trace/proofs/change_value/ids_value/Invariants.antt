use Rattle.std.proofs.Common.{◌≡◌, map, take}
use Rattle.serde_json.specs.View.{view}
use Rattle.call_trace.specs.Written.{whole_json}
use Rattle.call_trace.proofs.change_value.ids_value.Given as goal

abbrev pub invariant-loop-id : goal.invariant-loop-id
invariant-loop-id l = map view l.list.items ≡ map whole_json (take l.id-index l.ids)
