-- Bytes are a trace or have one first fault, and a line is an action or has one first bad field.
use Rattle.std.proofs.Common.{◌≡◌, ◌⊎◌, ℕ, ◌^◌, ◌≤◌, List, ◌++◌, length, take, drop, Result, Ok, Err, refl, sym, ap, ◌∙◌, arith, inl, inr}
use Rattle.std.proofs.lemmas.List.{take-append-drop, length-take}
use Rattle.std.specs.Prelude.{◌↔◌}
use Rattle.gcc_units.specs.declared.limits.TheConstants.{MOST_ACTORS}
use Rattle.call_trace.specs.declared.fault.TraceFault.{TraceFault}
use Rattle.call_trace.specs.declared.trace.Line.{Line}
use Rattle.call_trace.specs.Plain.{Plain, settled}
use Rattle.call_trace.specs.Fields.{lines_of}
use Rattle.call_trace.specs.Reading.{action_at, Front, front_at, trace_at, counted_at, joined}
use Rattle.call_trace.specs.Grammar.{IsLine, IsTrace}
use Rattle.call_trace.specs.Faults.{IsBadLine, IsFirstFault, IsFrontFault, HasTrace, HasFirstFault, HasFront, HasFrontFault}
use Rattle.call_trace.proofs.Found.{action_found}
use Rattle.call_trace.proofs.Whole.{trace_found, front_found, front_spelled}
use Rattle.call_trace.proofs.Again.{action_again, trace_again}
use Rattle.call_trace.proofs.BadLines.{action_fails}
use Rattle.call_trace.proofs.Faulty.{fault_found, fault_again, front_fault, front_fault_again}
use Rattle.call_trace.proofs.Fronts.{counted_found, counted_again, counted_fault, counted_fault_again}

-- ---- reading gives one answer

one_err : {A E : Type 0} (read : Result A E) (a b : E) → read ≡ Err a → read ≡ Err b → a ≡ b
one_err read a b is other = let same = sym is ∙ other in cc

not_both : {A E : Type 0} (read : Result A E) (x : A) (d : E) → read ≡ Ok x → read ≡ Err d → ⊥
not_both read x d ok err = let same = sym ok ∙ err in cc

-- ---- lines

line_read : (actors : ℕ) (text : List ℕ) (read : Result Line ℕ) → actors ≤ 2 ^ 32 → action_at actors text ≡ read → ((line : Line) × IsLine actors text line) ⊎ ((reason : ℕ) × IsBadLine actors text reason)
line_read actors text (Ok line) few is = inl (line, (action_found actors text line few is).spelled)
line_read actors text (Err reason) few is = inr (reason, (action_fails actors text few).found reason is)

pub line_or_bad : (actors : ℕ) (text : List ℕ) → actors ≤ MOST_ACTORS → ((line : Line) × IsLine actors text line) ⊎ ((reason : ℕ) × IsBadLine actors text reason)
line_or_bad actors text few = line_read actors text (action_at actors text) (omega arith) refl

pub line_not_bad : (actors : ℕ) (text : List ℕ) (line : Line) (reason : ℕ) → actors ≤ MOST_ACTORS → IsLine actors text line → IsBadLine actors text reason → ⊥
line_not_bad actors text line reason few is bad =
    let small : actors ≤ 2 ^ 32 = omega arith in
    not_both (action_at actors text) _ reason (action_again actors text line small is) ((action_fails actors text small).again reason bad)

pub one_reason : (actors : ℕ) (text : List ℕ) (a b : ℕ) → actors ≤ MOST_ACTORS → IsBadLine actors text a → IsBadLine actors text b → a ≡ b
one_reason actors text a b few is other =
    let small : actors ≤ 2 ^ 32 = omega arith in
    one_err (action_at actors text) a b ((action_fails actors text small).again a is) ((action_fails actors text small).again b other)

-- ---- traces

trace_read : (most : ℕ) (bytes : List ℕ) (read : Result Plain TraceFault) → trace_at most bytes ≡ read → HasTrace most bytes ⊎ HasFirstFault most bytes
trace_read most bytes (Ok trace) is = (let f = trace_found most bytes trace is in inl (record { trace = trace; spelled = f.spelled; few = f.few }))
trace_read most bytes (Err fault) is = inr (record { found = fault; first = fault_found most bytes fault is })

pub trace_or_fault : (most : ℕ) (bytes : List ℕ) → HasTrace most bytes ⊎ HasFirstFault most bytes
trace_or_fault most bytes = trace_read most bytes (trace_at most bytes) refl

pub trace_no_fault : (most : ℕ) (bytes : List ℕ) → HasTrace most bytes → HasFirstFault most bytes → ⊥
trace_no_fault most bytes t f = not_both (trace_at most bytes) _ f.found (trace_again most bytes t.trace t.spelled t.few) (fault_again most bytes f.found f.first)

pub one_fault : (most : ℕ) (bytes : List ℕ) (a b : TraceFault) → IsFirstFault most bytes a → IsFirstFault most bytes b → a ≡ b
one_fault most bytes a b is other = one_err (trace_at most bytes) a b (fault_again most bytes a is) (fault_again most bytes b other)

pub reads_trace : (most : ℕ) (bytes : List ℕ) (trace : Plain) → (trace_at most bytes ≡ Ok trace) ↔ (IsTrace bytes trace × (trace ≡ settled trace) × (length trace.lines ≤ most))
reads_trace most bytes trace = (
  (λ is. let f = trace_found most bytes trace is in (f.spelled, f.settled, f.few)),
  (λ h. trace_again most bytes trace h.0 h.2 ∙ ap (λ (t : Plain). Ok t) (sym h.1)),
)

pub reads_fault : (most : ℕ) (bytes : List ℕ) (fault : TraceFault) → (trace_at most bytes ≡ Err fault) ↔ IsFirstFault most bytes fault
reads_fault most bytes fault = (fault_found most bytes fault, fault_again most bytes fault)

-- ---- traces at the front

front_read : (most : ℕ) (bytes : List ℕ) (read : Result Front TraceFault) → front_at most bytes ≡ read → HasFront most bytes ⊎ HasFrontFault most bytes
front_read most bytes (Ok front) is =
    let f = front_found most (lines_of bytes).whole front is in
    let s = front_spelled most bytes front.trace front.after f in
    inl (record { front = s.0; back = joined front.after (lines_of bytes).rest; split = s.2; trace = front.trace; spelled = s.1; few = f.few })
front_read most bytes (Err fault) is = inr (record { found = fault; first = front_fault most bytes fault is })

pub front_or_fault : (most : ℕ) (bytes : List ℕ) → HasFront most bytes ⊎ HasFrontFault most bytes
front_or_fault most bytes = front_read most bytes (front_at most bytes) refl

pub front_no_fault : (most : ℕ) (bytes : List ℕ) → HasFront most bytes → HasFrontFault most bytes → ⊥
front_no_fault most bytes t f =
    not_both (counted_at most bytes) _ f.found (counted_again most bytes t.front t.back t.trace t.split t.spelled t.few) (counted_fault_again most bytes f.found f.first)

pub one_front_fault : (most : ℕ) (bytes : List ℕ) (a b : TraceFault) → IsFrontFault most bytes a → IsFrontFault most bytes b → a ≡ b
one_front_fault most bytes a b is other = one_err (front_at most bytes) a b (front_fault_again most bytes a is) (front_fault_again most bytes b other)

front_taken_again : (most : ℕ) (bytes : List ℕ) (trace : Plain) (count : ℕ) → IsTrace (take count bytes) trace → count ≤ length bytes → trace ≡ settled trace → length trace.lines ≤ most → counted_at most bytes ≡ Ok (trace, count)
front_taken_again most bytes trace count spelled within settles few =
    let long : length (take count bytes) ≡ count = omega (arith, length-take count bytes, within) in
    counted_again most bytes (take count bytes) (drop count bytes) trace (sym (take-append-drop count bytes)) spelled few
    ∙ (ap (λ (t : Plain). Ok (t, length (take count bytes))) (sym settles) ∙ ap (λ (n : ℕ). Ok (trace, n)) long)

pub reads_front : (most : ℕ) (bytes : List ℕ) (trace : Plain) (count : ℕ) → (counted_at most bytes ≡ Ok (trace, count)) ↔ (IsTrace (take count bytes) trace × (count ≤ length bytes) × (trace ≡ settled trace) × (length trace.lines ≤ most))
reads_front most bytes trace count = (
  (λ is. let f = counted_found most bytes trace count is in (f.spelled, f.within, f.settled, f.few)),
  (λ h. front_taken_again most bytes trace count h.0 h.1 h.2 h.3),
)

pub reads_front_fault : (most : ℕ) (bytes : List ℕ) (fault : TraceFault) → (counted_at most bytes ≡ Err fault) ↔ IsFrontFault most bytes fault
reads_front_fault most bytes fault = (counted_fault most bytes fault, counted_fault_again most bytes fault)
