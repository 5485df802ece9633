use Rattle.std.proofs.Common.{◌≡◌, ◌++◌, []}
use Rattle.std.specs.String.{string_bytes}
use Rattle.std.specs.List.{flat_map, range_with_len}
use Rattle.reply_text.specs.Text.{glance_lines}
use Rattle.run_top.specs.Replay.{of_actor}
use Rattle.gcc_live.proofs.telling.push_actors.Given as goal

abbrev pub invariant-loop-actor : goal.invariant-loop-actor
invariant-loop-actor l = string_bytes l.text ≡ string_bytes l.fn.text ++ glance_lines [] (flat_map (of_actor l.glances) (range_with_len 0 l.actor))
