-- Whole traces: what is read is spelled so.
use Rattle.std.proofs.Common.{◌≡◌, ℕ, ◌+◌, ◌^◌, ◌<◌, ◌≤◌, true, ltb, ◌&&◌, List, [], ◌∷◌, ◌++◌, length, take, drop, map, Result, Ok, Err, refl, sym, ap, subst, ◌∙◌, append_assoc, arith, inl, inr}
use Rattle.std.proofs.Math.Dec.{leb}
use Rattle.std.specs.Prelude.{codes, nat_eq}
use Rattle.std.specs.List.{flat_map, AllZip, All, AllByRecursion}
use Rattle.std.specs.Fmt.{decimal}
use Rattle.std.specs.Cmp.Lexicographic.{pointwise, same_text}
use Rattle.std.proofs.lemmas.Bool.{cases_Bool, ltb-false, leb-true, and_parts}
use Rattle.std.proofs.lemmas.List.{append-nil, take-append-drop}
use Rattle.std.proofs.lemmas.List.Elements.{All-from_recursion, recursion_from_All}
use Rattle.gcc_units.specs.declared.limits.TheConstants.{MOST_ACTORS}
use Rattle.call_trace.specs.declared.fault.TheConstants.{NO_HEADER}
use Rattle.call_trace.specs.declared.trace.Line.{Line}
use Rattle.call_trace.specs.Plain.{Plain, settled_line, settled, FitsLine}
use Rattle.call_trace.specs.Fields.{IsLineText, fed, lines_of, number_of}
use Rattle.call_trace.specs.Steps.{◌>>=◌, or_reason}
use Rattle.call_trace.specs.Reading.{action_at, at_line, is_end, Actions, actions_at, title, from_one, header_at, Front, lines_at, front_at, alone, trace_at}
use Rattle.call_trace.specs.Grammar.{IsLine, header, IsTrace}
use Rattle.call_trace.proofs.Cutting.{lines_cut}
use Rattle.call_trace.proofs.Numbers.{number_spells}
use Rattle.call_trace.proofs.StepsTaken.{bind_ok, ok_is, or_reason_ok, guard_ok}
use Rattle.call_trace.proofs.Found.{IsRead, action_found}

-- ---- the end

pub is_end_text : (line : List ℕ) → is_end line ≡ true → line ≡ codes "end"
is_end_text line is = same_text line (codes "end") (sym is)

-- ---- lines of action

-- which lines these are, of a trace with so many lines at most, and which stand behind them
pub record AreRead (most actors k : ℕ) (whole : List (List ℕ)) (read : List Line) (after : List (List ℕ)) : Type 0 where
  pub texts : List (List ℕ)
  pub actions : AllZip (IsLine actors) texts read
  pub ends : whole ≡ texts ++ codes "end" ∷ after
  pub settled : read ≡ map settled_line read
  pub fits : AllByRecursion (FitsLine actors) read
  pub few : length read + k ≤ most + 2

at_line_ok : {A : Type 0} (k : ℕ) (r : Result A ℕ) (x : A) → at_line k r ≡ Ok x → r ≡ Ok x
at_line_ok k (Ok y) x e = ap (λ z. Ok z) (ok_is y x e)
at_line_ok k (Err d) x e = absurd cc

and_more : (most actors k : ℕ) (line : List ℕ) (lines : List (List ℕ)) (first : Line) (others : List Line) (after : List (List ℕ)) → IsRead actors line first → AreRead most actors (k + 1) lines others after
    → AreRead most actors k (line ∷ lines) (first ∷ others) after
and_more most actors k line lines first others after one more = record {
  texts = line ∷ more.texts;
  actions = (one.spelled, more.actions);
  ends = ap (λ (ls : List (List ℕ)). line ∷ ls) more.ends;
  settled = cc (one.settled, more.settled);
  fits = (record { actor = one.spelled.0; bytes = one.bytes }, more.fits);
  few = omega (arith, more.few);
}

pub actions_found : (most actors k : ℕ) (whole : List (List ℕ)) (read : Actions) → actors ≤ 2 ^ 32 → k ≤ most + 2 → actions_at most actors k whole ≡ Ok read → AreRead most actors k whole read.lines read.after
unfolding actions_at
actions_found most actors k [] read few low e = absurd cc
actions_found most actors k (line ∷ lines) read few low e =
    elim (cases_Bool (is_end line)) [
      | inl is ↦
          let made : Actions = record { lines = []; after = lines } in
          let all : AreRead most actors k (line ∷ lines) [] lines = record {
            texts = [];
            actions = tt;
            ends = rw (is_end_text line is) refl;
            settled = refl;
            fits = tt;
            few = omega arith;
          } in
          subst (λ (r : Actions). AreRead most actors k (line ∷ lines) r.lines r.after) {x = made} (ok_is made read (rw is at e)) all
      | inr other ↦
          let inside = rw other at e in
          elim (cases_Bool (ltb (most + 1) k)) [
            | inl high ↦ absurd (let wrong = rw high at inside in cc)
            | inr fits ↦
                let going = rw fits at inside in
                let a =
                bind_ok (at_line k (action_at actors line))
                (λ first. actions_at most actors (k + 1) lines >>= λ others. Ok (let made : Actions = record { lines = first ∷ others.lines; after = others.after } in made)) read going in
                let b = bind_ok (actions_at most actors (k + 1) lines) (λ others. Ok (let made : Actions = record { lines = a.0 ∷ others.lines; after = others.after } in made)) read a.2 in
                let one = action_found actors line a.0 few (at_line_ok k (action_at actors line) a.0 a.1) in
                let room = ltb-false (most + 1) k fits in
                let more = actions_found most actors (k + 1) lines b.0 few (omega arith) b.1 in
                let made : Actions = record { lines = a.0 ∷ b.0.lines; after = b.0.after } in
                subst (λ (r : Actions). AreRead most actors k (line ∷ lines) r.lines r.after) {x = made} (ok_is made read b.2) (and_more most actors k line lines a.0 b.0.lines b.0.after one more)
          ]
    ]

-- ---- headers

titled : (line : List ℕ) → pointwise nat_eq (take (length title) line) title ≡ true → line ≡ title ++ drop (length title) line
titled line is = sym (take-append-drop (length title) line) ∙ ap (λ (t : List ℕ). t ++ drop (length title) line) (same_text (take (length title) line) title (sym is))

from_one_ok : (n m : ℕ) → from_one n ≡ Ok m → (n ≡ m) × (1 ≤ n) × (n ≤ MOST_ACTORS)
from_one_ok n m e =
    let g = guard_ok (leb 1 n && leb n MOST_ACTORS) n m NO_HEADER e in
    let t = and_parts (leb 1 n) (leb n MOST_ACTORS) g.0 in
    (g.1, leb-true 1 n t.0, leb-true n MOST_ACTORS t.1)

pub header_found : (line : List ℕ) (actors : ℕ) → header_at line ≡ Ok actors → (line ≡ header actors) × (0 < actors) × (actors ≤ MOST_ACTORS)
unfolding header_at
header_found line actors e =
    elim (cases_Bool (pointwise nat_eq (take (length title) line) title)) [
      | inl is ↦
          let inside : or_reason NO_HEADER (number_of (drop (length title) line)) >>= from_one ≡ Ok actors = rw is at e in
          let b = bind_ok (or_reason NO_HEADER (number_of (drop (length title) line))) from_one actors inside in
          let text = number_spells (drop (length title) line) b.0 (or_reason_ok NO_HEADER (number_of (drop (length title) line)) b.0 b.1) in
          let f = from_one_ok b.0 actors b.2 in
          (titled line is ∙ ap (λ (t : List ℕ). title ++ t) (text.0 ∙ ap decimal f.0), omega arith, omega arith)
      | inr other ↦ absurd (let wrong = rw other at e in cc)
    ]

-- ---- traces

-- a trace of at most so many lines, and the lines behind it
pub record IsReadFront (most : ℕ) (lines : List (List ℕ)) (trace : Plain) (after : List (List ℕ)) : Type 0 where
  pub some_actor : 0 < trace.actors
  pub few_actors : trace.actors ≤ MOST_ACTORS
  pub texts : List (List ℕ)
  pub actions : AllZip (IsLine trace.actors) texts trace.lines
  pub whole : lines ≡ header trace.actors ∷ (texts ++ codes "end" ∷ after)
  pub settled : trace ≡ settled trace
  pub few : length trace.lines ≤ most
  pub fits : All (FitsLine trace.actors) trace.lines

pub front_found : (most : ℕ) (whole : List (List ℕ)) (front : Front) → lines_at most whole ≡ Ok front → IsReadFront most whole front.trace front.after
unfolding lines_at
front_found most [] front e = absurd cc
front_found most (line ∷ lines) front e =
    let a =
    bind_ok (at_line 1 (header_at line))
    (λ actors. actions_at most actors 2 lines >>= λ read. Ok (let made : Front = record { trace = record { actors = actors; lines = read.lines }; after = read.after } in made)) front e in
    let b = bind_ok (actions_at most a.0 2 lines) (λ read. Ok (let made : Front = record { trace = record { actors = a.0; lines = read.lines }; after = read.after } in made)) front a.2 in
    let head = header_found line a.0 (at_line_ok 1 (header_at line) a.0 a.1) in
    let read = actions_found most a.0 2 lines b.0 (omega arith) (omega arith) b.1 in
    let trace : Plain = record { actors = a.0; lines = b.0.lines } in
    let made : Front = record { trace = trace; after = b.0.after } in
    let all : IsReadFront most (line ∷ lines) trace b.0.after = record {
      some_actor = head.1;
      few_actors = head.2;
      texts = read.texts;
      actions = read.actions;
      whole = ap (λ (l : List ℕ). l ∷ lines) head.0 ∙ ap (λ (ls : List (List ℕ)). header a.0 ∷ ls) read.ends;
      settled = ap (λ (ls : List Line). let t : Plain = record { actors = a.0; lines = ls } in t) read.settled;
      few = omega (arith, read.few);
      fits = All-from_recursion (FitsLine a.0) b.0.lines read.fits;
    } in
    subst (λ (f : Front). IsReadFront most (line ∷ lines) f.trace f.after) {x = made} (ok_is made front b.2) all

front_lines : (texts more : List (List ℕ)) → AllByRecursion IsLineText (texts ++ more) → AllByRecursion IsLineText texts
front_lines [] more all = tt
front_lines (text ∷ texts) more all = (all.0, front_lines texts more all.1)

flat_map_fed : (texts after : List (List ℕ)) (rest : List ℕ) → flat_map fed (texts ++ codes "end" ∷ after) ++ rest ≡ (flat_map fed texts ++ fed (codes "end")) ++ (flat_map fed after ++ rest)
flat_map_fed [] after rest = append_assoc (fed (codes "end")) (flat_map fed after) rest
flat_map_fed (text ∷ texts) after rest =
    append_assoc (fed text) (flat_map fed (texts ++ codes "end" ∷ after)) rest ∙ ap (λ (t : List ℕ). fed text ++ t) (flat_map_fed texts after rest)
    ∙ sym (append_assoc (fed text) (flat_map fed texts ++ fed (codes "end")) (flat_map fed after ++ rest))
    ∙ ap (λ (t : List ℕ). t ++ (flat_map fed after ++ rest)) (sym (append_assoc (fed text) (flat_map fed texts) (fed (codes "end"))))

-- the bytes up to the line feed of the line `end` spell the trace
pub front_spelled : (most : ℕ) (bytes : List ℕ) (trace : Plain) (after : List (List ℕ)) → IsReadFront most (lines_of bytes).whole trace after
    → (front : List ℕ) × IsTrace front trace × (bytes ≡ front ++ (flat_map fed after ++ (lines_of bytes).rest))
front_spelled most bytes trace after read =
    let cut = lines_cut bytes in
    let head = fed (header trace.actors) in
    let back = flat_map fed after ++ (lines_of bytes).rest in
    let front : List ℕ = head ++ (flat_map fed read.texts ++ fed (codes "end")) in
    let lines = recursion_from_All IsLineText (header trace.actors ∷ (read.texts ++ codes "end" ∷ after)) (rw read.whole at cut.whole) in
    let spelled : IsTrace front trace = record {
      some_actor = read.some_actor;
      few_actors = read.few_actors;
      texts = read.texts;
      feedless = All-from_recursion IsLineText read.texts (front_lines read.texts (codes "end" ∷ after) lines.1);
      actions = read.actions;
      spelled = refl;
    } in
    let joined : bytes ≡ flat_map fed (header trace.actors ∷ (read.texts ++ codes "end" ∷ after)) ++ (lines_of bytes).rest = rw read.whole at cut.joined in
    let grouped : bytes ≡ front ++ back =
    joined ∙ append_assoc head (flat_map fed (read.texts ++ codes "end" ∷ after)) (lines_of bytes).rest ∙ ap (λ (t : List ℕ). head ++ t) (flat_map_fed read.texts after (lines_of bytes).rest)
    ∙ sym (append_assoc head (flat_map fed read.texts ++ fed (codes "end")) back) in
    (front, spelled, grouped)

pub record IsReadTrace (most : ℕ) (bytes : List ℕ) (trace : Plain) : Type 0 where
  pub spelled : IsTrace bytes trace
  pub settled : trace ≡ settled trace
  pub few : length trace.lines ≤ most
  pub fits : All (FitsLine trace.actors) trace.lines

alone_found : (trace made : Plain) (after : List (List ℕ)) (rest : List ℕ) → alone made after rest ≡ Ok trace → (after ≡ []) × (rest ≡ []) × (made ≡ trace)
alone_found trace made [] [] e = (refl, refl, ok_is made trace e)
alone_found trace made (line ∷ lines) rest e = absurd cc
alone_found trace made [] (b ∷ rest) e = absurd cc

nothing_after : (front : List ℕ) (after : List (List ℕ)) (rest : List ℕ) → after ≡ [] → rest ≡ [] → front ++ (flat_map fed after ++ rest) ≡ front
nothing_after front after rest none-after none-rest = rw (none-after, none-rest) (append-nil front)

pub trace_found : (most : ℕ) (bytes : List ℕ) (trace : Plain) → trace_at most bytes ≡ Ok trace → IsReadTrace most bytes trace
trace_found most bytes trace e =
    let a = bind_ok (front_at most bytes) (λ front. alone front.trace front.after (lines_of bytes).rest) trace e in
    let b = alone_found trace a.0.trace a.0.after (lines_of bytes).rest a.2 in
    let read : IsReadFront most (lines_of bytes).whole trace a.0.after = subst (λ (t : Plain). IsReadFront most (lines_of bytes).whole t a.0.after) b.2 (front_found most (lines_of bytes).whole a.0 a.1) in
    let s = front_spelled most bytes trace a.0.after read in
    let same : bytes ≡ s.0 = s.2 ∙ nothing_after s.0 a.0.after (lines_of bytes).rest b.0 b.1 in
    record { spelled = subst (λ (t : List ℕ). IsTrace t trace) (sym same) s.1; settled = read.settled; few = read.few; fits = read.fits }
