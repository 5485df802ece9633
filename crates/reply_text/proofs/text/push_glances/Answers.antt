use Rattle.std.proofs.Common.{◌≡◌, ℕ, ◌+◌, List, [], ◌∷◌, ◌++◌, take, sym, ◌∙◌, ap, append_assoc, cond, get_or, ◌==◌}
use Rattle.std.specs.String.{string_bytes}
use Rattle.reply_text.specs.declared.seen.Seen.{Seen}
use Rattle.reply_text.specs.Text.{glances_by, glance_line, glance_lines}
use Rattle.reply_text.proofs.OneMore.{take-next, get-there, glance_lines-push, glances_by-push}
use Rattle.reply_text.proofs.text.push_glances.Goals as goal

pub loop-seen-preserved : goal.loop-seen-preserved
loop-seen-preserved c =
    let seen : Seen = get_or c.args.glances.now c.loop-seen.seen-index (record { actor = 0; calls = 0; target = 0 }) in
    let before : List Seen = take c.loop-seen.seen-index c.args.glances.now in
    let next : take (c.loop-seen.seen-index + 1) c.args.glances.now ≡ before ++ seen ∷ [] =
    take-next c.args.glances.now c.loop-seen.seen-index seen
    (get-there c.args.glances.now c.loop-seen.seen-index (record { actor = 0; calls = 0; target = 0 }) c.loop-seen-test.true) in
    let number : c.in_ok-number.number ≡ glances_by seen.actor before = c.in_ok-number.ensures.number ∙ c.loop-seen.invariant.1 seen.actor in
    let line : List ℕ = glance_line (glances_by seen.actor before) seen in (
      c.in_ok-push_glance.ensures
          ∙ (ap (λ n. string_bytes c.loop-seen.text ++ glance_line n seen) number
          ∙ (ap (λ xs. xs ++ line) c.loop-seen.invariant.0
          ∙ (append_assoc (string_bytes c.args.text.now) (glance_lines [] before) line
          ∙ ap (λ ys. string_bytes c.args.text.now ++ ys) (sym (ap (glance_lines []) next ∙ glance_lines-push [] before seen))))),
      λ a. c.in_ok-number.ensures.counted a
          ∙ (ap (λ n. n + cond (seen.actor == a) 1 0) (c.loop-seen.invariant.1 a)
          ∙ sym (ap (glances_by a) next ∙ glances_by-push a before seen)),
    )
