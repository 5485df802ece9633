use Rattle.std.proofs.Common.{◌≡◌, ◌≤◌, ◌++◌, List, length, take}
use Rattle.std.specs.String.{string_bytes}
use Rattle.reply_text.specs.declared.seen.Seen.{Seen}
use Rattle.reply_text.specs.Text.{glances_by, glance_lines}
use Rattle.run_top.specs.Replay.{of_actor}
use Rattle.gcc_live.proofs.telling.push_actor.Given as goal

abbrev pub invariant-loop-seen : goal.invariant-loop-seen
invariant-loop-seen l =
    (l.number ≡ length (of_actor (take l.seen-index l.glances) l.actor))
    × (l.number ≤ l.seen-index)
    × ((before : List Seen) → glances_by l.actor before ≡ 0 → string_bytes l.text ≡ string_bytes l.fn.text ++ glance_lines before (of_actor (take l.seen-index l.glances) l.actor))
