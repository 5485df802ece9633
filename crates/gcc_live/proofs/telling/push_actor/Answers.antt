use Rattle.std.proofs.Common.{◌≡◌, ◌+◌, ◌++◌, ◌==◌, ℕ, List, Some, true, false, length, take, slice_get, get_or, sym, ◌∙◌, ap, arith}
use Rattle.std.specs.String.{string_bytes}
use Rattle.std.proofs.lemmas.Bool.{eq-eqb, ne_eqb}
use Rattle.reply_text.specs.declared.seen.Seen.{Seen}
use Rattle.reply_text.specs.Text.{glance_lines}
use Rattle.reply_text.proofs.OneMore.{get-there}
use Rattle.run_top.specs.Replay.{of_actor}
use Rattle.gcc_live.proofs.Glances.{own-no, told-own, count-own}
use Rattle.gcc_live.proofs.telling.push_actor.Goals as goal
use Rattle.gcc_live.proofs.telling.push_actor.Goals.{then-seen-actor+in_ok-push_glance, else-seen-actor}

pub overflow_add-number : goal.overflow_add-number
overflow_add-number c = omega arith

pub loop-seen-preserved : goal.loop-seen-preserved
loop-seen-preserved c =
    let xs : List Seen = c.args.glances.now in
    let k : ℕ = c.loop-seen.seen-index in
    let a : ℕ = c.args.actor in
    let x : Seen = get_or xs k (record { actor = 0; calls = 0; target = 0 }) in
    let is : slice_get xs k ≡ Some x = get-there xs k (record { actor = 0; calls = 0; target = 0 }) c.loop-seen-test.true in
    elim c.if-seen-actor.branch [
      | then-seen-actor+in_ok-push_glance w ↦
          let theirs : (x.actor == a) ≡ true = eq-eqb x.actor a w.if-seen-actor.true in (
            w.number-is ∙ count-own xs k a c.loop-seen.number x is theirs c.loop-seen.invariant.0,
            omega (arith, w.number-is, c.loop-seen.invariant.1),
            λ before none. ap string_bytes w.text-is
                ∙ told-own (string_bytes c.args.text.now) (string_bytes c.loop-seen.text) (string_bytes w.push_glance.new.text) before xs k a c.loop-seen.number x is theirs c.loop-seen.invariant.0
                (c.loop-seen.invariant.2 before none) none w.in_ok-push_glance.ensures,
          )
      | else-seen-actor w ↦
          let others : (x.actor == a) ≡ false = ne_eqb x.actor a w.if-seen-actor.false in
          let same : of_actor (take (k + 1) xs) a ≡ of_actor (take k xs) a = own-no xs k a x is others in (
            w.number-is ∙ (c.loop-seen.invariant.0 ∙ ap length (sym same)),
            omega (arith, w.number-is, c.loop-seen.invariant.1),
            λ before none. ap string_bytes w.text-is ∙ (c.loop-seen.invariant.2 before none ∙ ap (λ own. string_bytes c.args.text.now ++ glance_lines before own) (sym same)),
          )
    ]
