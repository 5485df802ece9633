-- Reading lines of action one after the other, as a loop does.
use Rattle.std.proofs.Common.{◌≡◌, ℕ, ◌+◌, ◌≤◌, ◌<◌, true, false, List, [], ◌∷◌, ◌++◌, Result, Ok, Err, refl, sym, ap, ◌∙◌, append_assoc}
use Rattle.std.proofs.lemmas.Bool.{lt-ltb, le-ltb}
use Rattle.std.proofs.lemmas.List.{append-nil}
use Rattle.call_trace.specs.declared.fault.TheConstants.{TOO_MANY_LINES, NO_END}
use Rattle.call_trace.specs.declared.fault.Bad.{Bad}
use Rattle.call_trace.specs.declared.fault.Bad.TheVariants as bad
use Rattle.call_trace.specs.declared.fault.TraceFault.{TraceFault}
use Rattle.call_trace.specs.declared.trace.Line.{Line}
use Rattle.call_trace.specs.Fields.{lines_of}
use Rattle.call_trace.specs.Steps.{◌>>=◌, Fails}
use Rattle.call_trace.specs.Reading.{FailsTrace, located, fault, action_at, is_end, Actions, actions_at}

-- what the lines read so far and the others give together
abbrev pub with_front : List Line → Result Actions TraceFault → Result Actions TraceFault
with_front front read = read >>= λ others. Ok (record { lines = front ++ others.lines; after = others.after })

-- the lines of these bytes give what all give, and the same stands behind the last line
pub record IsReading (most actors k : ℕ) (front : List Line) (bytes rest : List ℕ) (all : Result Actions TraceFault) : Type 0 where
  pub read : with_front front (actions_at most actors k (lines_of bytes).whole) ≡ all
  pub behind : (lines_of bytes).rest ≡ rest

pub record HasLine (bytes line more : List ℕ) : Type 0 where
  pub cut : lines_of bytes ≡ record { whole = line ∷ (lines_of more).whole; rest = (lines_of more).rest }

regroup : (front : List Line) (first : Line) (read : Result Actions TraceFault)
    → with_front front (read >>= λ others. Ok (record { lines = first ∷ others.lines; after = others.after })) ≡ with_front (front ++ first ∷ []) read
regroup front first (Ok others) = ap (λ (ls : List Line). Ok (let made : Actions = record { lines = ls; after = others.after } in made)) (sym (append_assoc front (first ∷ []) others.lines))
regroup front first (Err f) = refl

nothing : (read : Result Actions TraceFault) → with_front [] read ≡ read
nothing (Ok others) = refl
nothing (Err f) = refl

pub begins : (most actors : ℕ) (bytes : List ℕ) → IsReading most actors 2 [] bytes (lines_of bytes).rest (actions_at most actors 2 (lines_of bytes).whole)
begins most actors bytes = record { read = nothing (actions_at most actors 2 (lines_of bytes).whole); behind = refl }

pub no_more : (most actors k : ℕ) (front : List Line) (bytes rest : List ℕ) (all : Result Actions TraceFault) → IsReading most actors k front bytes rest all → lines_of bytes ≡ record { whole = []; rest = bytes }
    → all ≡ Err (fault k NO_END)
unfolding actions_at
no_more most actors k front bytes rest all s none = sym (rw none at s.read)

module _ (most actors k : ℕ) (front : List Line) (bytes line more rest : List ℕ) (all : Result Actions TraceFault) (s : IsReading most actors k front bytes rest all) (has : HasLine bytes line more) where
  so : with_front front (actions_at most actors k (line ∷ (lines_of more).whole)) ≡ all
  so = rw has.cut at s.read

  pub behind_line : (lines_of more).rest ≡ rest
  behind_line = rw has.cut at s.behind

  pub ends : is_end line ≡ true → all ≡ Ok (record { lines = front; after = (lines_of more).whole })
  unfolding actions_at
  ends end = sym (rw end at so) ∙ ap (λ (ls : List Line). Ok (let made : Actions = record { lines = ls; after = (lines_of more).whole } in made)) (append-nil front)

  pub too_many : is_end line ≡ false → most + 1 < k → all ≡ Err (fault k TOO_MANY_LINES)
  unfolding actions_at
  too_many end high = sym (rw (end, lt-ltb (most + 1) k high) at so)

  pub bad_line : (b : Bad) → is_end line ≡ false → k ≤ most + 1 → Fails b (action_at actors line) → FailsTrace (located k b) all
  unfolding actions_at
  bad_line bad.Memory end low is = tt
  bad_line (bad.Reason r) end low is = sym (rw (end, le-ltb (most + 1) k low, is) at so)

  pub good_line : (first : Line) (new : List Line) → is_end line ≡ false → k ≤ most + 1 → action_at actors line ≡ Ok first → new ≡ front ++ first ∷ [] → IsReading most actors (k + 1) new more rest all
  unfolding actions_at
  good_line first new end low is grown = record {
    read = rw grown (sym (regroup front first (actions_at most actors (k + 1) (lines_of more).whole)) ∙ (rw (end, le-ltb (most + 1) k low, is) at so));
    behind = behind_line;
  }
