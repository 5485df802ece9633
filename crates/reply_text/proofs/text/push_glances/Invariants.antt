use Rattle.std.proofs.Common.{◌≡◌, ◌++◌, ℕ, take, [], unwrap_or}
use Rattle.std.specs.String.{string_bytes}
use Rattle.std.specs.BTreeMap.{get}
use Rattle.std.specs.Ordering.{nat_cmp}
use Rattle.reply_text.specs.Text.{glances_by, glance_lines}
use Rattle.reply_text.proofs.text.push_glances.Given as goal

abbrev pub invariant-loop-seen : goal.invariant-loop-seen
invariant-loop-seen l =
    (string_bytes l.text ≡ string_bytes l.fn.text ++ glance_lines [] (take l.seen-index l.glances))
    × ((a : ℕ) → unwrap_or (get nat_cmp l.counts a) 0 ≡ glances_by a (take l.seen-index l.glances))
