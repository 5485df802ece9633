-- Reading fails exactly with the first fault of the bytes.
use Rattle.std.proofs.Common.{◌≡◌, ℕ, ◌+◌, ◌^◌, ◌<◌, ◌≤◌, Bool, true, false, cond, ltb, List, [], ◌∷◌, ◌++◌, length, map, Result, Ok, Err, Option, Some, None, ◌&&◌, take, drop, refl, sym, ap, ◌∙◌, append_assoc, arith, inl, inr, length-append}
use Rattle.std.proofs.lemmas.List.{length-map}
use Rattle.std.proofs.Math.Dec.{leb}
use Rattle.std.specs.Prelude.{◌⊎◌, ◌≢◌, codes, nat_eq}
use Rattle.std.specs.List.{AllZip}
use Rattle.std.specs.Cmp.Lexicographic.{pointwise}
use Rattle.std.proofs.lemmas.Bool.{cases_Bool, lt-ltb, le-ltb, ltb-true, ltb-false, false_from_ne_true}
use Rattle.gcc_units.specs.declared.limits.TheConstants.{MOST_ACTORS}
use Rattle.call_trace.specs.declared.fault.TheConstants.{NO_HEADER, TOO_MANY_LINES, NO_END, BEHIND_END}
use Rattle.call_trace.specs.declared.fault.TraceFault.{TraceFault}
use Rattle.call_trace.specs.declared.trace.Line.{Line}
use Rattle.call_trace.specs.Plain.{Plain, settled_line}
use Rattle.call_trace.specs.Settings.{IsNoChange, no_object, wrong_key, wrong_value}
use Rattle.call_trace.specs.Fields.{field, behind, lines_of, number_of}
use Rattle.call_trace.specs.Steps.{◌>>=◌, or_reason}
use Rattle.call_trace.specs.Reading.{fault, action_at, at_line, is_end, Actions, actions_at, title, from_one, header_at, Front, lines_at, front_at, alone, trace_at}
use Rattle.call_trace.specs.Grammar.{IsLine, header}
use Rattle.call_trace.specs.Faults.{Kind, actor, moment, class, hex, json, kinds_of, IsReason, IsFirstBad, IsBadOf, IsHeader, Begins, IsFirstFault, IsFrontFault, no_line, no_header, bad_line, too_many, no_end, behind_end}
use Rattle.call_trace.proofs.StepsTaken.{ok_is}
use Rattle.call_trace.proofs.Found.{action_found}
use Rattle.call_trace.proofs.Whole.{is_end_text, header_found, front_found}
use Rattle.call_trace.proofs.Again.{header_again, with_lines, with_lines-err, actions_before, actions_whole, trace_lines, length-zip}
use Rattle.call_trace.proofs.BadLines.{action_fails}

err_is : {A E : Type 0} (d e : E) (r : Result A E) → r ≡ Err d → r ≡ Err e → d ≡ e
err_is d e r one other = let same = sym one ∙ other in cc

-- a step failed, or the next one did
bind_err : {A B E : Type 0} (r : Result A E) (f : A → Result B E) (d : E) → (r >>= f) ≡ Err d → (r ≡ Err d) ⊎ ((x : A) × (r ≡ Ok x) × (f x ≡ Err d))
bind_err (Ok x) f d e = inr (x, refl, e)
bind_err (Err c) f d e = inl (let same : c ≡ d = cc in ap (λ q. Err q) same)

at_line_err : {A : Type 0} (k : ℕ) (r : Result A ℕ) (f : TraceFault) → at_line k r ≡ Err f → (reason : ℕ) × (r ≡ Err reason) × (f ≡ fault k reason)
at_line_err k (Ok x) f e = absurd cc
at_line_err k (Err reason) f e = (reason, refl, cc)

at_line_ok : {A : Type 0} (k : ℕ) (r : Result A ℕ) (x : A) → at_line k r ≡ Ok x → r ≡ Ok x
at_line_ok k (Ok y) x e = ap (λ z. Ok z) (ok_is y x e)
at_line_ok k (Err d) x e = absurd cc

-- ---- headers

header_test_err : (b : Bool) (n r : ℕ) → cond b (Ok n) (Err NO_HEADER) ≡ Err r → r ≡ NO_HEADER
header_test_err true n r e = absurd cc
header_test_err false n r e = cc

number_err : (o : Option ℕ) (r : ℕ) → (or_reason NO_HEADER o >>= from_one) ≡ Err r → r ≡ NO_HEADER
number_err None r e = cc
number_err (Some n) r e = header_test_err (leb 1 n && leb n MOST_ACTORS) n r e

begun_err : (b : Bool) (o : Option ℕ) (r : ℕ) → cond b (or_reason NO_HEADER o >>= from_one) (Err NO_HEADER) ≡ Err r → r ≡ NO_HEADER
begun_err true o r e = number_err o r e
begun_err false o r e = cc

header_err : (line : List ℕ) (r : ℕ) → header_at line ≡ Err r → r ≡ NO_HEADER
unfolding header_at
header_err line r e = begun_err (pointwise nat_eq (take (length title) line) title) (number_of (drop (length title) line)) r e

header_not : (line : List ℕ) (read : Result ℕ ℕ) → header_at line ≡ read → ¬ IsHeader line → header_at line ≡ Err NO_HEADER
header_not line (Ok n) is bad = let f = header_found line n is in absurd (bad (n, f.1, f.2, f.0))
header_not line (Err r) is bad = is ∙ ap (λ q. Err q) (header_err line r is)

-- ---- lines of action

alone_err : (trace : Plain) (after : List (List ℕ)) (rest : List ℕ) (f : TraceFault) → alone trace after rest ≡ Err f → (0 < length after + length rest) × (f ≡ fault (length trace.lines + 3) BEHIND_END)
alone_err trace [] [] f e = absurd cc
alone_err trace (line ∷ lines) rest f e = (omega arith, cc)
alone_err trace [] (b ∷ rest) f e = (omega arith, cc)

alone_again : (trace : Plain) (after : List (List ℕ)) (rest : List ℕ) → 0 < length after + length rest → alone trace after rest ≡ Err (fault (length trace.lines + 3) BEHIND_END)
alone_again trace [] [] some = absurd (omega arith)
alone_again trace (line ∷ lines) rest some = refl
alone_again trace [] (b ∷ rest) some = refl

other_text : (line : List ℕ) → is_end line ≡ false → line ≢ codes "end"
other_text line other is = let wrong = rw is at other in cc

is_other : (line : List ℕ) → line ≢ codes "end" → is_end line ≡ false
is_other line other = false_from_ne_true (is_end line) (λ is. other (is_end_text line is))

AllZip-push : (actors : ℕ) (texts : List (List ℕ)) (lines : List Line) (text : List ℕ) (line : Line) → AllZip (IsLine actors) texts lines → IsLine actors text line → AllZip (IsLine actors) (texts ++ text ∷ []) (lines ++ line ∷ [])
AllZip-push actors [] [] text line h one = (one, tt)
AllZip-push actors [] (l ∷ lines) text line h one = absurd h
AllZip-push actors (t ∷ texts) [] text line h one = absurd h
AllZip-push actors (t ∷ texts) (l ∷ lines) text line h one = (h.0, AllZip-push actors texts lines text line h.1 one)

begins_more : (most : ℕ) (bytes : List ℕ) (actors : ℕ) (before : List (List ℕ)) (text : List ℕ) (after : List (List ℕ)) (line : Line) → Begins most bytes actors before (text ∷ after) → length before < most → IsLine actors text line
    → Begins most bytes actors (before ++ text ∷ []) after
begins_more most bytes actors before text after line b room one = record {
  some_actor = b.some_actor;
  few_actors = b.few_actors;
  whole = b.whole ∙ ap (λ (ls : List (List ℕ)). header actors ∷ ls) (sym (append_assoc before (text ∷ []) after));
  actions = (b.actions.0 ++ line ∷ [], AllZip-push actors before b.actions.0 text line b.actions.1 one);
  few = omega (arith, length-append before (text ∷ []));
}

-- ---- the reasons of the lines up to the end

no_change_other : (text : List ℕ) (reason : ℕ) → IsNoChange text reason → reason ≢ BEHIND_END
no_change_other text reason (no_object none is) e = omega (arith, is, e)
no_change_other text reason (wrong_key ms object bad is) e = omega (arith, is, e)
no_change_other text reason (wrong_value ms key d object fine found bad is) e = omega (arith, is, e)

reason_other : (kind : Kind) (text : List ℕ) (reason : ℕ) → IsReason kind text reason → reason ≢ BEHIND_END
reason_other actor text reason is e = omega (arith, is, e)
reason_other moment text reason is e = omega (arith, is, e)
reason_other class text reason is e = omega (arith, is, e)
reason_other hex text reason is e = omega (arith, is, e)
reason_other json text reason is e = no_change_other text reason is e

first_bad_other : (actors : ℕ) (kinds : List Kind) (text : List ℕ) (reason : ℕ) → IsFirstBad actors kinds text reason → reason ≢ BEHIND_END
first_bad_other actors [] text reason bad = absurd bad
first_bad_other actors (kind ∷ []) text reason bad = reason_other kind text reason bad.1
first_bad_other actors (kind ∷ next ∷ kinds) text reason bad =
    elim bad [ inl first ↦ reason_other kind (field text) reason first.1 | inr later ↦ first_bad_other actors (next ∷ kinds) (behind text) reason later.1 ]

bad_of_other : (actors : ℕ) (kinds : Option (List Kind)) (text : List ℕ) (reason : ℕ) → IsBadOf actors kinds text reason → reason ≢ BEHIND_END
bad_of_other actors None text reason is = λ e. omega (arith, is, e)
bad_of_other actors (Some kinds) text reason bad = first_bad_other actors kinds text reason bad

at_front : (most : ℕ) (bytes : List ℕ) (f : TraceFault) (k reason : ℕ) → IsFirstFault most bytes f → f ≡ fault k reason → reason ≢ BEHIND_END → IsFrontFault most bytes f
at_front most bytes f k reason first is other = (first, λ e. other (sym (ap (λ (g : TraceFault). g.reason) is) ∙ e))

no_end_other : NO_END ≢ BEHIND_END
no_end_other e = omega (arith, e)

too_many_other : TOO_MANY_LINES ≢ BEHIND_END
too_many_other e = omega (arith, e)

no_header_other : NO_HEADER ≢ BEHIND_END
no_header_other e = omega (arith, e)

-- ---- the first fault is found

actions_fault : (most : ℕ) (bytes : List ℕ) (actors k : ℕ) (before whole : List (List ℕ)) (f : TraceFault) → Begins most bytes actors before whole → k ≡ length before + 2 → actions_at most actors k whole ≡ Err f
    → IsFrontFault most bytes f
unfolding actions_at
actions_fault most bytes actors k before [] f b is e =
    let same : f ≡ fault k NO_END = cc in
    at_front most bytes f k NO_END (no_end actors before b (same ∙ ap (λ j. fault j NO_END) is)) same no_end_other
actions_fault most bytes actors k before (line ∷ lines) f b is e =
    elim (cases_Bool (is_end line)) [
      | inl last ↦ absurd (let wrong = rw last at e in cc)
      | inr other ↦
          let inside = rw other at e in
          elim (cases_Bool (ltb (most + 1) k)) [
            | inl high ↦
                let over = ltb-true (most + 1) k high in
                let same : f ≡ fault k TOO_MANY_LINES = (let wrong = rw high at inside in cc) in
                let full : length before ≡ most = omega (arith, b.few) in
                let line_is : k ≡ most + 2 = omega arith in
                at_front most bytes f k TOO_MANY_LINES (too_many actors before line lines b (other_text line other) full (same ∙ ap (λ j. fault j TOO_MANY_LINES) line_is)) same too_many_other
            | inr fits ↦
                let going = rw fits at inside in
                let room : length before < most = (let below = ltb-false (most + 1) k fits in omega arith) in
                let few : actors ≤ 2 ^ 32 = omega (arith, b.few_actors) in
                elim (bind_err (at_line k (action_at actors line)) (λ first. actions_at most actors (k + 1) lines >>= λ others. Ok (let made : Actions = record { lines = first ∷ others.lines; after = others.after } in made)) f going) [
                  | inl failed ↦
                      let r = at_line_err k (action_at actors line) f failed in
                      let bad = (action_fails actors line few).found r.0 r.1 in
                      at_front most bytes f k r.0 (bad_line actors before line lines r.0 b (other_text line other) room bad (r.2 ∙ ap (λ j. fault j r.0) is)) r.2
                      (bad_of_other actors (kinds_of (field line)) (behind line) r.0 bad)
                  | inr went ↦
                      let one = action_found actors line went.0 few (at_line_ok k (action_at actors line) went.0 went.1) in
                      elim (bind_err (actions_at most actors (k + 1) lines) (λ others. Ok (let made : Actions = record { lines = went.0 ∷ others.lines; after = others.after } in made)) f went.2) [
                        | inl failed ↦
                            let next : k + 1 ≡ length (before ++ line ∷ []) + 2 = omega (arith, length-append before (line ∷ [])) in
                            actions_fault most bytes actors (k + 1) (before ++ line ∷ []) lines f (begins_more most bytes actors before line lines went.0 b room one.spelled) next failed
                        | inr never ↦ absurd (let wrong = never.2 in cc)
                      ]
                ]
          ]
    ]

found_in : (most : ℕ) (bytes : List ℕ) (whole : List (List ℕ)) (f : TraceFault) → (lines_of bytes).whole ≡ whole → lines_at most whole ≡ Err f → IsFrontFault most bytes f
unfolding lines_at
found_in most bytes [] f is e = (let same : f ≡ fault 1 NO_END = cc in at_front most bytes f 1 NO_END (no_line is same) same no_end_other)
found_in most bytes (line ∷ lines) f is e =
    elim (
    bind_err (at_line 1 (header_at line))
    (λ actors. actions_at most actors 2 lines >>= λ read. Ok (let made : Front = record { trace = record { actors = actors; lines = read.lines }; after = read.after } in made)) f e) [
      | inl failed ↦
          let r = at_line_err 1 (header_at line) f failed in
          let same : f ≡ fault 1 NO_HEADER = r.2 ∙ ap (λ j. fault 1 j) (header_err line r.0 r.1) in
          at_front most bytes f 1 NO_HEADER (no_header line lines is (λ good. let again = ap header_at good.3 ∙ header_again good.0 good.1 good.2 in let wrong = sym r.1 ∙ again in cc) same) same no_header_other
      | inr went ↦
          let head = header_found line went.0 (at_line_ok 1 (header_at line) went.0 went.1) in
          elim (bind_err (actions_at most went.0 2 lines) (λ read. Ok (let made : Front = record { trace = record { actors = went.0; lines = read.lines }; after = read.after } in made)) f went.2) [
            | inl failed ↦
                let begins : Begins most bytes went.0 [] lines = record {
                  some_actor = head.1;
                  few_actors = head.2;
                  whole = is ∙ ap (λ (l : List ℕ). l ∷ lines) head.0;
                  actions = ([], tt);
                  few = omega arith;
                } in
                actions_fault most bytes went.0 2 [] lines f begins (omega arith) failed
            | inr never ↦ absurd (let wrong = never.2 in cc)
          ]
    ]

pub front_fault : (most : ℕ) (bytes : List ℕ) (f : TraceFault) → front_at most bytes ≡ Err f → IsFrontFault most bytes f
front_fault most bytes f e = found_in most bytes (lines_of bytes).whole f refl e

pub fault_found : (most : ℕ) (bytes : List ℕ) (f : TraceFault) → trace_at most bytes ≡ Err f → IsFirstFault most bytes f
fault_found most bytes f e =
    elim (bind_err (front_at most bytes) (λ front. alone front.trace front.after (lines_of bytes).rest) f e) [
      | inl failed ↦ (front_fault most bytes f failed).0
      | inr went ↦
          let read = front_found most (lines_of bytes).whole went.0 went.1 in
          let trace = went.0.trace in
          let count = length-zip (IsLine trace.actors) read.texts trace.lines read.actions in
          let r = alone_err trace went.0.after (lines_of bytes).rest f went.2 in
          let begins : Begins most bytes trace.actors read.texts (codes "end" ∷ went.0.after) = record {
            some_actor = read.some_actor;
            few_actors = read.few_actors;
            whole = read.whole;
            actions = (trace.lines, read.actions);
            few = omega (arith, read.few);
          } in
          behind_end trace.actors read.texts went.0.after begins r.0 (r.1 ∙ ap (λ n. fault (n + 3) BEHIND_END) (sym count))
    ]

-- ---- a first fault is what is read

-- behind a header and lines of action, the fault is that of the lines behind them
begun_fault : (most : ℕ) (bytes : List ℕ) (actors : ℕ) (before after : List (List ℕ)) (f : TraceFault) → Begins most bytes actors before after → actions_at most actors (length before + 2) after ≡ Err f
    → front_at most bytes ≡ Err f
unfolding lines_at
begun_fault most bytes actors before after f b e =
    let few : actors ≤ 2 ^ 32 = omega (arith, b.few_actors) in
    let position : 2 + length before ≡ length before + 2 = omega arith in
    let limit : length before + 2 ≤ most + 2 = omega (arith, b.few) in
    let read : actions_at most actors 2 (before ++ after) ≡ Err f =
    actions_before most actors 2 (length before + 2) before after b.actions.0 few b.actions.1 position limit ∙ ap (with_lines (map settled_line b.actions.0)) e ∙ with_lines-err (map settled_line b.actions.0) f in
    rw b.whole (rw (header_again actors b.some_actor b.few_actors, read) refl)

-- the first line behind the lines of action
next_bad : (most actors k reason : ℕ) (line : List ℕ) (after : List (List ℕ)) → is_end line ≡ false → k ≤ most + 1 → action_at actors line ≡ Err reason → actions_at most actors k (line ∷ after) ≡ Err (fault k reason)
unfolding actions_at
next_bad most actors k reason line after other low bad = rw (other, le-ltb (most + 1) k low, bad) refl

next_many : (most actors k : ℕ) (line : List ℕ) (after : List (List ℕ)) → is_end line ≡ false → most + 1 < k → actions_at most actors k (line ∷ after) ≡ Err (fault k TOO_MANY_LINES)
unfolding actions_at
next_many most actors k line after other high = rw (other, lt-ltb (most + 1) k high) refl

next_none : (most actors k : ℕ) → actions_at most actors k [] ≡ Err (fault k NO_END)
unfolding actions_at
next_none most actors k = refl

none_read : (most : ℕ) → lines_at most [] ≡ Err (fault 1 NO_END)
unfolding lines_at
none_read most = refl

header_refused : (most : ℕ) (line : List ℕ) (lines : List (List ℕ)) → header_at line ≡ Err NO_HEADER → lines_at most (line ∷ lines) ≡ Err (fault 1 NO_HEADER)
unfolding lines_at
header_refused most line lines bad = rw bad refl

-- a trace, and bytes behind it
begun_whole : (most : ℕ) (bytes : List ℕ) (actors : ℕ) (before after : List (List ℕ)) → Begins most bytes actors before (codes "end" ∷ after) → 0 < length after + length (lines_of bytes).rest
    → trace_at most bytes ≡ Err (fault (length before + 3) BEHIND_END)
begun_whole most bytes actors before after b some =
    let few : actors ≤ 2 ^ 32 = omega (arith, b.few_actors) in
    let lines = map settled_line b.actions.0 in
    let trace : Plain = record { actors = actors; lines = lines } in
    let made : Actions = record { lines = lines; after = after } in
    let read : front_at most bytes ≡ Ok (record { trace = trace; after = after }) =
    rw b.whole (trace_lines most actors (header actors) (before ++ codes "end" ∷ after) made (header_again actors b.some_actor b.few_actors) (actions_whole most actors before after b.actions.0 few b.actions.1 b.few)) in
    let count : length lines ≡ length before = length-map b.actions.0 settled_line ∙ sym (length-zip (IsLine actors) before b.actions.0 b.actions.1) in
    rw read (alone_again trace after (lines_of bytes).rest some ∙ ap (λ n. Err (fault (n + 3) BEHIND_END)) count)

-- a fault of the lines up to the end, or bytes behind it
either_fault : (most : ℕ) (bytes : List ℕ) (f : TraceFault) → IsFirstFault most bytes f → (front_at most bytes ≡ Err f) ⊎ ((trace_at most bytes ≡ Err f) × (f.reason ≡ BEHIND_END))
either_fault most bytes f (no_line whole is) = inl (rw (whole, is) (none_read most))
either_fault most bytes f (no_header line lines whole bad is) = inl (rw (whole, is) (header_refused most line lines (header_not line (header_at line) refl bad)))
either_fault most bytes f (bad_line actors before line after reason b other room bad is) =
    let few : actors ≤ 2 ^ 32 = omega (arith, b.few_actors) in
    inl (
    begun_fault most bytes actors before (line ∷ after) f b
    (next_bad most actors (length before + 2) reason line after (is_other line other) (omega arith) ((action_fails actors line few).again reason bad) ∙ ap (λ g. Err g) (sym is)))
either_fault most bytes f (too_many actors before line after b other full is) =
    let position : length before + 2 ≡ most + 2 = omega arith in
    inl (
    begun_fault most bytes actors before (line ∷ after) f b
    (next_many most actors (length before + 2) line after (is_other line other) (omega arith) ∙ ap (λ j. Err (fault j TOO_MANY_LINES)) position ∙ ap (λ g. Err g) (sym is)))
either_fault most bytes f (no_end actors before b is) = inl (begun_fault most bytes actors before [] f b (next_none most actors (length before + 2) ∙ ap (λ g. Err g) (sym is)))
either_fault most bytes f (behind_end actors before after b some is) = inr (begun_whole most bytes actors before after b some ∙ ap (λ g. Err g) (sym is), ap (λ (g : TraceFault). g.reason) is)

pub front_fault_again : (most : ℕ) (bytes : List ℕ) (f : TraceFault) → IsFrontFault most bytes f → front_at most bytes ≡ Err f
front_fault_again most bytes f is = elim (either_fault most bytes f is.0) [ inl front ↦ front | inr later ↦ absurd (is.1 later.1) ]

pub fault_again : (most : ℕ) (bytes : List ℕ) (f : TraceFault) → IsFirstFault most bytes f → trace_at most bytes ≡ Err f
fault_again most bytes f is = elim (either_fault most bytes f is) [ inl front ↦ rw front refl | inr later ↦ later.0 ]
