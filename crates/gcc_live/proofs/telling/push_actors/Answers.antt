use Rattle.std.proofs.Common.{◌++◌, [], sym, ◌∙◌, ap, append_assoc, List, ℕ, arith}
use Rattle.std.specs.String.{string_bytes}
use Rattle.std.specs.List.{flat_map, range_with_len}
use Rattle.reply_text.specs.declared.seen.Seen.{Seen}
use Rattle.reply_text.specs.Text.{glance_lines}
use Rattle.run_top.specs.Replay.{of_actor}
use Rattle.gcc_live.proofs.Glances.{by-lower, lines-actor}
use Rattle.gcc_live.proofs.telling.push_actors.Goals as goal

pub loop-actor-preserved : goal.loop-actor-preserved
loop-actor-preserved c =
    let xs : List Seen = c.args.glances.now in
    let n : ℕ = c.loop-actor.actor in
    let before : List Seen = flat_map (of_actor xs) (range_with_len 0 n) in
    c.in_ok-push_actor.ensures before (by-lower n n xs (omega arith))
    ∙ (ap (λ t. t ++ glance_lines before (of_actor xs n)) c.loop-actor.invariant
    ∙ (append_assoc (string_bytes c.args.text.now) (glance_lines [] before) (glance_lines before (of_actor xs n))
    ∙ ap (λ ys. string_bytes c.args.text.now ++ ys) (sym (lines-actor xs n))))
