use Rattle.std.proofs.Common.{◌≡◌}
use Rattle.serde_json.specs.View.{members_view}
use Rattle.call_trace.specs.Settings.{stream_keys, all_among}
use Rattle.call_trace.proofs.change.stream_keys_only.Given as goal

abbrev pub invariant-loop-key : goal.invariant-loop-key
invariant-loop-key l = all_among stream_keys (members_view l.fn.map.entries) ≡ all_among stream_keys (members_view l.key-iterator)
