use Rattle.std.proofs.Common.{◌≡◌, ◌≤◌, ◌+◌, ◌++◌, [], ◌∷◌, length, length-append, sym, ◌∙◌, ap, arith}
use Rattle.gcc_units.specs.Listed.{Listed}
use Rattle.call_trace.specs.Ordered.{served}
use Rattle.call_trace.proofs.Ordered.{ordered-nil}
use Rattle.reply_text.specs.declared.seen.Seen.{Seen}
use Rattle.run_top.specs.Replay.{looked, seen_from}
use Rattle.run_top.proofs.Serving.{ordered-more, seen_from-push, served-few}
use Rattle.run_top.proofs.replay.serve_lines.Goals as goal

pub loop-line-init : goal.loop-line-init
loop-line-init c =
    let none : c.in_ok-sender.sender ≡ [] = c.in_ok-sender.ensures in
    (none ∙ sym ordered-nil, ap (λ (s : Listed Seen). s.items) c.new-seen.ensures, rw none (omega arith))

pub loop-line-preserved : goal.loop-line-preserved
loop-line-preserved c =
    let now : c.serve_line.new.sender ≡ served c.loop-line.sender (c.in-Some.line ∷ []) = c.in_ok-serve_line.ensures.served in
    let few : length (served c.loop-line.sender (c.in-Some.line ∷ [])) ≤ length c.loop-line.sender + 1 = served-few c.loop-line.sender c.in-Some.line in
    let same : length c.serve_line.new.sender ≡ length (served c.loop-line.sender (c.in-Some.line ∷ [])) = ap length now in
    let longer : length (c.loop-line.yielded ++ c.in-Some.line ∷ []) ≡ length c.loop-line.yielded + 1 = length-append c.loop-line.yielded (c.in-Some.line ∷ []) in (
      now ∙ (ap (λ h. served h (c.in-Some.line ∷ [])) c.loop-line.invariant.0 ∙ ordered-more c.loop-line.yielded c.in-Some.line),
      c.in_ok-serve_line.ensures.seen
          ∙ (ap (λ gs. gs ++ looked c.loop-line.sender c.in-Some.line.actor c.in-Some.line.action) c.loop-line.invariant.1
          ∙ (ap (λ h. seen_from [] c.loop-line.yielded ++ looked h c.in-Some.line.actor c.in-Some.line.action) c.loop-line.invariant.0
          ∙ sym (seen_from-push [] c.loop-line.yielded c.in-Some.line))),
      omega (arith, c.loop-line.invariant.2),
    )
