use Rattle.std.proofs.Common.{ℕ, ◌≡◌, ◌+◌, List, [], ◌∷◌, ◌++◌, length, sym, ◌∙◌, ap, subst, arith, length-append}
use Rattle.live_sender.specs.Live.{StandsFor}
use Rattle.call_trace.specs.declared.trace.Line.{Line}
use Rattle.call_trace.specs.Ordered.{ordered}
use Rattle.call_trace.proofs.Ordered.{ordered-nil}
use Rattle.gcc_live.specs.Summing.{bytes_of}
use Rattle.gcc_live.proofs.made.serve_all.Goals as goal

pub loop-line-init : goal.loop-line-init
loop-line-init c = (subst (StandsFor c.in_ok-sender.sender) (sym ordered-nil) c.in_ok-sender.ensures.stands, ap bytes_of (sym ordered-nil), omega arith)

pub loop-line-preserved : goal.loop-line-preserved
loop-line-preserved c =
    let xs : List Line = c.loop-line.yielded in
    let x : Line = c.in-Some.line in
    let stands : StandsFor c.loop-line.sender (ordered xs) = c.loop-line.invariant.0 in
    let more : bytes_of (ordered (xs ++ x ∷ [])) ≡ bytes_of (ordered xs) + c.in_ok-left.left = c.in_ok-left.ensures.bytes xs stands in (
      c.in_ok-left.ensures.stands xs stands,
      ap (λ n. n + c.in_ok-left.left) c.loop-line.invariant.1 ∙ sym more,
      omega (arith, c.in_ok-left.ensures.few, c.loop-line.invariant.2, length-append xs (x ∷ [])),
    )
