use Rattle.std.proofs.Common.{◌≡◌}
use Rattle.serde_json.specs.View.{members_view}
use Rattle.call_trace.specs.Settings.{setting_keys, all_among}
use Rattle.call_trace.proofs.change.settings_only.Given as goal

abbrev pub invariant-loop-key : goal.invariant-loop-key
invariant-loop-key l = all_among setting_keys (members_view l.fn.map.entries) ≡ all_among setting_keys (members_view l.key-iterator)
