-- A trace that bytes begin with, and what stands behind it.
use Rattle.std.proofs.Common.{◌≡◌, ℕ, ◌+◌, ◌-◌, ◌<◌, ◌≤◌, List, [], ◌∷◌, ◌++◌, length, take, Result, Ok, Err, refl, sym, ap, subst, ◌∙◌, arith, length-append}
use Rattle.std.proofs.lemmas.List.{take_at}
use Rattle.std.specs.List.{All}
use Rattle.call_trace.specs.declared.fault.TheConstants.{BEHIND_END}
use Rattle.call_trace.specs.declared.fault.TraceFault.{TraceFault}
use Rattle.call_trace.specs.Plain.{Plain, settled, FitsLine}
use Rattle.call_trace.specs.Fields.{Cut, lines_of}
use Rattle.call_trace.specs.Steps.{◌>>=◌}
use Rattle.call_trace.specs.Reading.{fault, Front, front_at, alone, trace_at, joined, counted_at}
use Rattle.call_trace.specs.Grammar.{IsTrace}
use Rattle.call_trace.specs.Faults.{IsFrontFault}
use Rattle.call_trace.proofs.Cutting.{lines_join}
use Rattle.call_trace.proofs.StepsTaken.{bind_ok, ok_is}
use Rattle.call_trace.proofs.Whole.{IsReadFront, front_found, front_spelled}
use Rattle.call_trace.proofs.Again.{front_again, spelled_lines}
use Rattle.call_trace.proofs.Faulty.{front_fault, front_fault_again}

abbrev front_of : Plain → List (List ℕ) → Front
front_of trace after = record { trace = trace; after = after }

-- ---- what stands behind the trace

-- bytes behind the trace are lines or a rest
alone_none : (trace : Plain) (behind : List ℕ) → length behind ≡ 0 → alone trace (lines_of behind).whole (lines_of behind).rest ≡ Ok trace
unfolding lines_of
alone_none trace [] none = refl
alone_none trace (b ∷ behind) none = absurd (omega arith)

alone_err : (trace : Plain) (lines : List (List ℕ)) (rest : List ℕ) → 0 < length (joined lines rest) → alone trace lines rest ≡ Err (fault (length trace.lines + 3) BEHIND_END)
alone_err trace [] [] some = absurd (omega arith)
alone_err trace (line ∷ lines) rest some = refl
alone_err trace [] (b ∷ rest) some = refl

pub whole_trace : (most : ℕ) (bytes behind : List ℕ) (trace : Plain) → front_at most bytes ≡ Ok (front_of trace (lines_of behind).whole) → (lines_of behind).rest ≡ (lines_of bytes).rest → length behind ≡ 0
    → trace_at most bytes ≡ Ok trace
whole_trace most bytes behind trace read rest none = rw (read, ← rest) (alone_none trace behind none)

pub bytes_behind : (most : ℕ) (bytes behind : List ℕ) (trace : Plain) → front_at most bytes ≡ Ok (front_of trace (lines_of behind).whole) → (lines_of behind).rest ≡ (lines_of bytes).rest → 0 < length behind
    → trace_at most bytes ≡ Err (fault (length trace.lines + 3) BEHIND_END)
bytes_behind most bytes behind trace read rest some =
    let more : 0 < length (joined (lines_of behind).whole (lines_of behind).rest) = rw (lines_join behind) at some in
    rw (read, ← rest) (alone_err trace (lines_of behind).whole (lines_of behind).rest more)

-- ---- how many bytes it has

pub counts : (most : ℕ) (bytes behind : List ℕ) (trace : Plain) → front_at most bytes ≡ Ok (front_of trace (lines_of behind).whole) → (lines_of behind).rest ≡ (lines_of bytes).rest
    → counted_at most bytes ≡ Ok (trace, length bytes - length behind)
counts most bytes behind trace read rest =
    let same : joined (lines_of behind).whole (lines_of bytes).rest ≡ behind = ap (joined (lines_of behind).whole) (sym rest) ∙ sym (lines_join behind) in
    rw read (ap (λ (b : List ℕ). Ok (trace, length bytes - length b)) same)

pub record IsCounted (most : ℕ) (bytes : List ℕ) (trace : Plain) (n : ℕ) : Type 0 where
  pub spelled : IsTrace (take n bytes) trace
  pub within : n ≤ length bytes
  pub settled : trace ≡ settled trace
  pub few : length trace.lines ≤ most
  pub fits : All (FitsLine trace.actors) trace.lines

front_taken : (front back bytes : List ℕ) → bytes ≡ front ++ back → (take (length bytes - length back) bytes ≡ front) × (length bytes - length back ≡ length front)
front_taken front back bytes is =
    let count : length bytes - length back ≡ length front = omega (arith, ap length is, length-append front back) in
    (ap (take (length bytes - length back)) is ∙ take_at front back (length bytes - length back) (sym count), count)

pub counted_found : (most : ℕ) (bytes : List ℕ) (trace : Plain) (n : ℕ) → counted_at most bytes ≡ Ok (trace, n) → IsCounted most bytes trace n
counted_found most bytes trace n e =
    let a = bind_ok (front_at most bytes) (λ front. Ok (front.trace, length bytes - length (joined front.after (lines_of bytes).rest))) (trace, n) e in
    let pair = ok_is (a.0.trace, length bytes - length (joined a.0.after (lines_of bytes).rest)) (trace, n) a.2 in
    let trace-is : a.0.trace ≡ trace = ap (λ (p : Plain × ℕ). p.0) pair in
    let count-is : length bytes - length (joined a.0.after (lines_of bytes).rest) ≡ n = ap (λ (p : Plain × ℕ). p.1) pair in
    let read : IsReadFront most (lines_of bytes).whole trace a.0.after = subst (λ (t : Plain). IsReadFront most (lines_of bytes).whole t a.0.after) trace-is (front_found most (lines_of bytes).whole a.0 a.1) in
    let s = front_spelled most bytes trace a.0.after read in
    let t = front_taken s.0 (joined a.0.after (lines_of bytes).rest) bytes s.2 in
    let taken : take n bytes ≡ s.0 = ap (λ (m : ℕ). take m bytes) (sym count-is) ∙ t.0 in
    record {
      spelled = subst (λ (x : List ℕ). IsTrace x trace) (sym taken) s.1;
      within = omega (arith, count-is);
      settled = read.settled;
      few = read.few;
      fits = read.fits;
    }

pub counted_again : (most : ℕ) (bytes front back : List ℕ) (trace : Plain) → bytes ≡ front ++ back → IsTrace front trace → length trace.lines ≤ most → counted_at most bytes ≡ Ok (settled trace, length front)
counted_again most bytes front back trace is spelled few =
    let read : front_at most bytes ≡ Ok (front_of (settled trace) (lines_of back).whole) = ap (front_at most) is ∙ front_again most front back trace spelled few in
    let rest : (lines_of back).rest ≡ (lines_of bytes).rest = sym (ap (λ (b : List ℕ). (lines_of b).rest) is ∙ ap (λ (c : Cut). c.rest) (spelled_lines front back trace spelled)) in
    counts most bytes back (settled trace) read rest ∙ ap (λ (n : ℕ). Ok (settled trace, n)) (front_taken front back bytes is).1

counted_err : (most : ℕ) (bytes : List ℕ) (f : TraceFault) (read : Result Front TraceFault) → front_at most bytes ≡ read
    → (read >>= λ front. Ok (let p : Plain × ℕ = (front.trace, length bytes - length (joined front.after (lines_of bytes).rest)) in p)) ≡ Err f → front_at most bytes ≡ Err f
counted_err most bytes f (Ok front) is e = absurd cc
counted_err most bytes f (Err g) is e = (let same : g ≡ f = cc in is ∙ ap (λ h. Err h) same)

pub counted_fault : (most : ℕ) (bytes : List ℕ) (f : TraceFault) → counted_at most bytes ≡ Err f → IsFrontFault most bytes f
counted_fault most bytes f e = front_fault most bytes f (counted_err most bytes f (front_at most bytes) refl e)

pub counted_fault_again : (most : ℕ) (bytes : List ℕ) (f : TraceFault) → IsFrontFault most bytes f → counted_at most bytes ≡ Err f
counted_fault_again most bytes f is = rw (front_fault_again most bytes f is) refl
