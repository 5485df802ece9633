-- An actor's glances, one line after another.
use Rattle.std.proofs.Common.{◌≡◌, ℕ, suc, zero, ◌+◌, ◌<◌, ◌≤◌, true, false, cond, eqb, List, [], ◌∷◌, ◌++◌, length, take, drop, get_or, slice_get, Some, refl, sym, ◌∙◌, ap, subst, arith, append_assoc, length-append, inl, inr}
use Rattle.std.specs.Prelude.{◌⊎◌}
use Rattle.std.proofs.lemmas.Bool.{cases_Bool, eq-eqb}
use Rattle.std.proofs.lemmas.Grind.{flat_map-append}
use Rattle.std.proofs.lemmas.List.{append-nil, take_at, take-append-drop, take_all}
use Rattle.std.proofs.lemmas.List.Sums.{fold-append}
use Rattle.std.proofs.lemmas.Option.{same_Some, slice_get_read, slice_get_within}
use Rattle.send_core.specs.declared.call.Call.{Call}
use Rattle.send_core.specs.declared.call.Entry.{Entry}
use Rattle.send_core.proofs.Legality.{each-push}
use Rattle.call_trace.specs.declared.trace.Line.{Line}
use Rattle.call_trace.specs.Merge.{asked, made, calls_of, calls_by, Merges}
use Rattle.reply_text.specs.declared.seen.Seen.{Seen}
use Rattle.reply_text.specs.declared.looking.Standing.{Standing}
use Rattle.reply_text.specs.Legal.{looks, looks_of, look_of, IsLegalGlance, AreLegalGlances}
use Rattle.reply_text.specs.Looking.{IsSeen, IsStanding, HasOwn}
use Rattle.reply_text.proofs.OneMore.{take-next}
use Rattle.reply_text.proofs.Exact.{one_call}

-- ---- places in lists

pub slice_get-keep : {X : Type 0} (xs ys : List X) (k : ℕ) (x : X) → slice_get xs k ≡ Some x → slice_get (xs ++ ys) k ≡ Some x
slice_get-keep [] ys k x is = absurd cc
slice_get-keep (z ∷ xs) ys zero x is = is
slice_get-keep (z ∷ xs) ys (suc k) x is = slice_get-keep xs ys k x is

pub slice_get-end : {X : Type 0} (xs ys : List X) → slice_get (xs ++ ys) (length xs) ≡ slice_get ys 0
slice_get-end [] ys = refl
slice_get-end (z ∷ xs) ys = slice_get-end xs ys

slice_get-front : {X : Type 0} (xs ys : List X) (k : ℕ) → k < length xs → slice_get (xs ++ ys) k ≡ slice_get xs k
slice_get-front [] ys k low = absurd (omega arith)
slice_get-front (z ∷ xs) ys zero low = refl
slice_get-front (z ∷ xs) ys (suc k) low = slice_get-front xs ys k (omega arith)

-- an element of a list with one more is one of the list, or the last
pub push_cases : {X : Type 0} (xs : List X) (x : X) (k : ℕ) (y : X) → slice_get (xs ++ x ∷ []) k ≡ Some y → (slice_get xs k ≡ Some y) ⊎ ((k ≡ length xs) × (x ≡ y))
push_cases [] x zero y is = inr (refl, same_Some x y is)
push_cases [] x (suc k) y is = absurd cc
push_cases (z ∷ xs) x zero y is = inl is
push_cases (z ∷ xs) x (suc k) y is = elim (push_cases xs x k y is) [ inl front ↦ inl front | inr last ↦ inr (ap suc last.0, last.1) ]

-- two beginnings of one list that are as long as each other are the same
pub same_front : {X : Type 0} (xs p ys q : List X) → xs ++ p ≡ ys ++ q → length xs ≡ length ys → xs ≡ ys
same_front xs p ys q e long =
    sym (take_at xs p (length xs) refl) ∙ (ap (take (length xs)) e ∙ take_at ys q (length xs) (sym long))

-- ---- one line more

pub looks-push : (actor : ℕ) (before : List Line) (line : Line) → looks_of actor (before ++ line ∷ []) ≡ looks_of actor before + cond (looks actor line) 1 0
looks-push actor before line = fold-append (λ n (l : Line). n + cond (looks actor l) 1 0) 0 before (line ∷ [])

look_looks : (actor : ℕ) → looks actor (look_of actor) ≡ true
look_looks actor = rw (eq-eqb actor actor refl) refl

module _ (history : List Entry) (actor : ℕ) where
  -- a line in which the actor does not look
  pub legal_quiet : (before : List Line) (line : Line) (own : List Seen) → AreLegalGlances history before actor own → looks actor line ≡ false → AreLegalGlances history (before ++ line ∷ []) actor own
  legal_quiet before line own legal quiet = record {
    count = legal.count ∙ sym (looks-push actor before line ∙ rw quiet (omega arith));
    each = each-push (λ (ls : List Line) (l : Line). l ≡ look_of actor → (g : Seen) × (slice_get own (looks_of actor ls) ≡ Some g) × IsLegalGlance history ls actor g) before line legal.each
        (λ is. absurd (let wrong : true ≡ false = sym (look_looks actor) ∙ (ap (looks actor) (sym is) ∙ quiet) in cc));
    within = legal.within;
    rising = legal.rising;
  }

  -- a line in which it looks
  pub legal_look : (before : List Line) (own : List Seen) (g : Seen) → AreLegalGlances history before actor own → g.actor ≡ actor → g.calls ≤ length history → IsLegalGlance history before actor g
      → ((k : ℕ) (e : Seen) → slice_get own k ≡ Some e → e.calls ≤ g.calls) → AreLegalGlances history (before ++ look_of actor ∷ []) actor (own ++ g ∷ [])
  legal_look before own g legal mine within seen least = record {
    count = length-append own (g ∷ []) ∙ (ap (λ n. n + 1) legal.count ∙ sym (looks-push actor before (look_of actor) ∙ rw (look_looks actor) refl));
    each = each-push (λ (ls : List Line) (l : Line). l ≡ look_of actor → (e : Seen) × (slice_get (own ++ g ∷ []) (looks_of actor ls) ≡ Some e) × IsLegalGlance history ls actor e) before (look_of actor)
        (λ n line is look. let e = legal.each n line is look in (e.0, slice_get-keep own (g ∷ []) (looks_of actor (take n before)) e.0 e.1, e.2))
        (λ is. (g, ap (slice_get (own ++ g ∷ [])) (sym legal.count) ∙ slice_get-end own (g ∷ []), seen));
    within = λ k e is. elim (push_cases own g k e is) [
      | inl front ↦ legal.within k e front
      | inr last ↦ subst (λ (x : Seen). (x.actor ≡ actor) × (x.calls ≤ length history)) last.1 (mine, within)
    ];
    rising = λ j k e f low is-e is-f. elim (push_cases own g k f is-f) [
      | inl front ↦
          elim (push_cases own g j e is-e) [
            | inl before-e ↦ legal.rising j k e f low before-e front
            | inr last-e ↦ absurd (let inside = slice_get_within own k f front in omega (arith, last-e.0))
          ]
      | inr last ↦
          elim (push_cases own g j e is-e) [
            | inl before-e ↦ subst (λ (x : Seen). e.calls ≤ x.calls) last.1 (least j e before-e)
            | inr last-e ↦ (let same : e.calls ≡ f.calls = ap (λ (x : Seen). x.calls) (sym last-e.1 ∙ last.1) in omega (arith, same))
          ]
    ];
  }

-- ---- the walk over the lines

module _ (history : List Entry) (lines : List Line) (actor : ℕ) (glances : List Seen) where
  -- so many lines were gone through
  pub record IsGoing (i : ℕ) (standing : Standing) (rest : List Seen) : Type 0 where
    pub own : List Seen
    pub split : glances ≡ own ++ rest
    pub legal : AreLegalGlances history (take i lines) actor own
    pub asked : standing.asked ≡ length (calls_of actor (take i lines))
    pub stands : IsStanding history actor standing
    pub most : (k : ℕ) (e : Seen) → slice_get own k ≡ Some e → e.calls ≤ standing.calls
    pub last : (standing.calls ≡ 0) ⊎ ((k : ℕ) × (e : Seen) × (slice_get own k ≡ Some e) × (standing.calls ≡ e.calls))

  pub going_first : IsGoing 0 (record { asked = 0; calls = 0; made = 0 }) glances
  going_first = record {
    own = [];
    split = refl;
    legal = record { count = refl; each = λ n line is look. absurd cc; within = λ k g is. absurd cc; rising = λ j k e f low is-e is-f. absurd cc };
    asked = refl;
    stands = record { within = omega arith; made = refl };
    most = λ k e is. absurd cc;
    last = inl refl;
  }

  -- the line at the place
  pub record IsAt (i : ℕ) (line : Line) : Type 0 where
    pub low : i < length lines
    pub is : line ≡ get_or lines i line

  there : (i : ℕ) (line : Line) → IsAt i line → slice_get lines i ≡ Some line
  there i line at = slice_get_read lines (length lines) i line refl at.low at.is

  next : (i : ℕ) (line : Line) → IsAt i line → take (i + 1) lines ≡ take i lines ++ line ∷ []
  next i line at = take-next lines i line (there i line at)

  calls_next : (i : ℕ) (line : Line) → IsAt i line → calls_of actor (take (i + 1) lines) ≡ calls_of actor (take i lines) ++ asked actor line
  calls_next i line at = ap (calls_of actor) (next i line at) ∙ (flat_map-append (asked actor) (take i lines) (line ∷ []) ∙ ap (λ (cs : List Call). calls_of actor (take i lines) ++ cs) (append-nil (asked actor line)))

  pub going_quiet : (i : ℕ) (line : Line) (before after : Standing) (rest : List Seen) → IsAt i line → IsGoing i before rest → looks actor line ≡ false
      → after.asked ≡ before.asked + length (asked actor line) → after.calls ≡ before.calls → after.made ≡ before.made → IsGoing (i + 1) after rest
  going_quiet i line before after rest at g quiet more calls made = record {
    own = g.own;
    split = g.split;
    legal = subst (λ (ls : List Line). AreLegalGlances history ls actor g.own) (sym (next i line at)) (legal_quiet history actor (take i lines) line g.own g.legal quiet);
    asked = more ∙ (ap (λ n. n + length (asked actor line)) g.asked ∙ sym (ap length (calls_next i line at) ∙ length-append (calls_of actor (take i lines)) (asked actor line)));
    stands = record { within = omega (arith, g.stands.within); made = made ∙ (g.stands.made ∙ ap (λ n. length (calls_by actor (take n history))) (sym calls)) };
    most = λ k e is. omega (arith, g.most k e is);
    last = elim g.last [ inl none ↦ inl (calls ∙ none) | inr some ↦ inr (some.0, some.1, some.2, calls ∙ some.3) ];
  }

  -- the calls among the first entries are those of the first lines where they are as many
  same_calls : (c i : ℕ) → Merges lines history → length (calls_by actor (take c history)) ≡ length (calls_of actor (take i lines)) → calls_by actor (take c history) ≡ calls_of actor (take i lines)
  same_calls c i merges many =
      let by : calls_by actor (take c history) ++ calls_by actor (drop c history) ≡ calls_by actor history = sym (flat_map-append (made actor) (take c history) (drop c history)) ∙ ap (calls_by actor) (take-append-drop c history) in
      let of : calls_of actor (take i lines) ++ calls_of actor (drop i lines) ≡ calls_of actor lines = sym (flat_map-append (asked actor) (take i lines) (drop i lines)) ∙ ap (calls_of actor) (take-append-drop i lines) in
      same_front (calls_by actor (take c history)) (calls_by actor (drop c history)) (calls_of actor (take i lines)) (calls_of actor (drop i lines)) (by ∙ (merges actor ∙ sym of)) many

  pub going_look : (i : ℕ) (line : Line) (before after : Standing) (first : Seen) (rest : List Seen) → Merges lines history → IsAt i line → IsGoing i before (first ∷ rest) → line ≡ look_of actor → asked actor line ≡ []
      → IsSeen history actor before.calls before.asked first → after.asked ≡ before.asked → after.calls ≡ first.calls → IsStanding history actor after → IsGoing (i + 1) after rest
  going_look i line before after first rest merges at g look none seen more calls standing =
      let legal : AreLegalGlances history (take i lines ++ look_of actor ∷ []) actor (g.own ++ first ∷ [])
      = legal_look history actor (take i lines) g.own first g.legal seen.own seen.within
      (record { target = seen.target; place = same_calls first.calls i merges (seen.place ∙ g.asked) })
      (λ k e is. omega (arith, g.most k e is, seen.rising)) in
      record {
        own = g.own ++ first ∷ [];
        split = g.split ∙ sym (append_assoc g.own (first ∷ []) rest);
        legal = subst (λ (ls : List Line). AreLegalGlances history ls actor (g.own ++ first ∷ [])) (sym (next i line at ∙ ap (λ (l : Line). take i lines ++ l ∷ []) look)) legal;
        asked = more ∙ (g.asked ∙ sym (ap length (calls_next i line at) ∙ (ap (λ (cs : List Call). length (calls_of actor (take i lines) ++ cs)) none ∙ ap length (append-nil (calls_of actor (take i lines))))));
        stands = standing;
        most = λ k e is. elim (push_cases g.own first k e is) [
          | inl front ↦ omega (arith, g.most k e front, seen.rising)
          | inr end ↦ (let same : first.calls ≡ e.calls = ap (λ (x : Seen). x.calls) end.1 in omega (arith, same))
        ];
        last = inr (length g.own, first, slice_get-end g.own (first ∷ []), calls);
      }

  -- ---- where a glance is no legal one, there are no legal glances

  -- the glance of legal ones at a line in which the actor looks
  at_look : (i : ℕ) (line : Line) (standing : Standing) (rest own more : List Seen) → IsAt i line → IsGoing i standing rest → line ≡ look_of actor → glances ≡ own ++ more → AreLegalGlances history lines actor own
      → (e : Seen) × (slice_get own (looks_of actor (take i lines)) ≡ Some e) × IsLegalGlance history (take i lines) actor e × (slice_get rest 0 ≡ Some e)
  at_look i line standing rest own more at g look split legal =
      let e = legal.each i line (there i line at) look in
      let same : own ++ more ≡ g.own ++ rest = sym split ∙ g.split in
      let here : slice_get (g.own ++ rest) (looks_of actor (take i lines)) ≡ Some e.0 = ap (λ (xs : List Seen). slice_get xs (looks_of actor (take i lines))) (sym same) ∙ slice_get-keep own more (looks_of actor (take i lines)) e.0 e.1 in
      (e.0, e.1, e.2, sym (slice_get-end g.own rest) ∙ (ap (slice_get (g.own ++ rest)) g.legal.count ∙ here))

  pub no_glance : (i : ℕ) (line : Line) (standing : Standing) (rest own more : List Seen) → IsAt i line → IsGoing i standing rest → line ≡ look_of actor → length rest ≡ 0 → glances ≡ own ++ more → AreLegalGlances history lines actor own → ⊥
  no_glance i line standing rest own more at g look none split legal =
      let e = at_look i line standing rest own more at g look split legal in
      let inside = slice_get_within rest 0 e.0 e.3 in
      omega (arith, inside)

  pub seen_of : (i : ℕ) (line : Line) (standing : Standing) (first : Seen) (rest own more : List Seen) → IsAt i line → IsGoing i standing (first ∷ rest) → line ≡ look_of actor → glances ≡ own ++ more → AreLegalGlances history lines actor own
      → IsSeen history actor standing.calls standing.asked first
  seen_of i line standing first rest own more at g look split legal =
      let e = at_look i line standing (first ∷ rest) own more at g look split legal in
      let same : first ≡ e.0 = same_Some first e.0 e.3 in
      let count : length g.own ≡ looks_of actor (take i lines) = g.legal.count in
      let inside = slice_get_within own (looks_of actor (take i lines)) e.0 e.1 in
      let least : standing.calls ≤ e.0.calls =
      elim g.last [
        | inl none ↦ omega arith
        | inr some ↦
            let low : some.0 < length g.own = slice_get_within g.own some.0 some.1 some.2 in
            let early : slice_get own some.0 ≡ Some some.1
            = sym (slice_get-front own more some.0 (omega (arith, count))) ∙ (ap (λ (xs : List Seen). slice_get xs some.0) (sym split ∙ g.split) ∙ slice_get-keep g.own (first ∷ rest) some.0 some.1 some.2) in
            let rise = legal.rising some.0 (looks_of actor (take i lines)) some.1 e.0 (omega (arith, count)) early e.1 in
            omega (arith, some.3)
      ] in
      subst (λ (x : Seen). IsSeen history actor standing.calls standing.asked x) (sym same) (record {
        own = (legal.within (looks_of actor (take i lines)) e.0 e.1).0;
        rising = least;
        within = (legal.within (looks_of actor (take i lines)) e.0 e.1).1;
        target = e.2.target;
        place = ap length e.2.place ∙ sym g.asked;
      })

  pub own_of : (i : ℕ) (standing : Standing) (rest : List Seen) → IsGoing i standing rest → length lines ≤ i → HasOwn history lines actor glances rest
  own_of i standing rest g past = record {
    own = g.own;
    split = g.split;
    legal = subst (λ (ls : List Line). AreLegalGlances history ls actor g.own) (take_all i lines past) g.legal;
  }

-- ---- bounds

one_made : (a : ℕ) (e : Entry) → length (made a e) ≤ 1
one_made a e = elim (cases_Bool (eqb e.caller a)) [ inl own ↦ rw own (omega arith) | inr other ↦ rw other (omega arith) ]

pub few_made : (a : ℕ) (history : List Entry) → length (calls_by a history) ≤ length history
few_made a [] = omega arith
few_made a (e ∷ history) = omega (arith, length-append (made a e) (calls_by a history), one_made a e, few_made a history)

one_asked : (a : ℕ) (line : Line) → length (asked a line) ≤ 1
one_asked a line = elim (cases_Bool (eqb line.actor a)) [ inl own ↦ rw own (one_call line.action) | inr other ↦ rw other (omega arith) ]

pub few_asked : (a : ℕ) (lines : List Line) → length (calls_of a lines) ≤ length lines
few_asked a [] = omega arith
few_asked a (line ∷ lines) = omega (arith, length-append (asked a line) (calls_of a lines), one_asked a line, few_asked a lines)
