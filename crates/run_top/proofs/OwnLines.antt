-- The count of own lines in a line.
use Rattle.std.proofs.Common.{◌≡◌, ◌≢◌, ℕ, ◌+◌, cond, eq-eqb, ne_eqb, [], ◌∷◌, ap}
use Rattle.call_trace.specs.declared.trace.Line.{Line}
use Rattle.run_top.specs.OwnLines.{own_lines}

pub own_line : (actor : ℕ) (line : Line) → line.actor ≡ actor → own_lines actor (line ∷ []) ≡ 1
own_line actor line own = ap (λ b. 0 + cond b 1 0) (eq-eqb line.actor actor own)

pub other_line : (actor : ℕ) (line : Line) → line.actor ≢ actor → own_lines actor (line ∷ []) ≡ 0
other_line actor line other = ap (λ b. 0 + cond b 1 0) (ne_eqb line.actor actor other)
