-- The lines of which no call was made yet.
use Rattle.std.proofs.Common.{◌≡◌, ℕ, suc, zero, ◌+◌, ◌<◌, true, false, eqb, List, [], ◌∷◌, ◌++◌, length, refl, sym, ◌∙◌, ap, subst, arith, append_assoc, length-append, inl, inr}
use Rattle.std.specs.Prelude.{◌≢◌, ◌⊎◌}
use Rattle.std.specs.List.{AllByRecursion}
use Rattle.std.proofs.lemmas.Bool.{cases_Bool, cases_eq, eqb-true, eq-eqb, ne_eqb}
use Rattle.std.proofs.lemmas.List.{append_cancel_left, append-nil}
use Rattle.gcc_units.proofs.Walk.{flat_map-push}
use Rattle.send_core.specs.declared.call.Call.{Call}
use Rattle.send_core.specs.declared.call.Entry.{Entry}
use Rattle.call_trace.specs.declared.trace.Action.{Action}
use Rattle.call_trace.specs.declared.trace.Action.TheVariants.{Ask, Look}
use Rattle.call_trace.specs.declared.trace.Line.{Line}
use Rattle.call_trace.specs.Merge.{call_in, asked, calls_of, made, calls_by, Merges}
use Rattle.reply_text.specs.Verdict.{calls, IsNext, Begins}

-- ---- a call is taken out of lines

-- the lines without the actor's next call
record Taken (a : ℕ) (left : List Line) (later : List Call) : Type 0 where
  pub rest : List Line
  pub own : calls_of a rest ≡ later
  pub others : (b : ℕ) → b ≢ a → calls_of b rest ≡ calls_of b left
  pub count : length (calls left) ≡ suc (length (calls rest))

kept : (a : ℕ) (line : Line) (left : List Line) (later : List Call) → asked a line ≡ [] → Taken a left later → Taken a (line ∷ left) later
kept a line left later none t = record {
  rest = line ∷ t.rest;
  own = rw none t.own;
  others = λ b other. ap (λ (cs : List Call). asked b line ++ cs) (t.others b other);
  count = length-append (call_in line.action) (calls left) ∙ (omega (arith, t.count, length-append (call_in line.action) (calls t.rest)));
}

the_asked : (a : ℕ) (line : Line) (left : List Line) (c call : Call) (later : List Call) → line.action ≡ Ask call → eqb line.actor a ≡ true → calls_of a (line ∷ left) ≡ c ∷ later → Taken a (line ∷ left) later
the_asked a line left c call later is own e =
    let mine : line.actor ≡ a = eqb-true line.actor a own in
    let opened : call ∷ calls_of a left ≡ c ∷ later = rw (own, is) at e in
    record {
      rest = left;
      own = cc;
      others = λ b other.
          let not_b : eqb line.actor b ≡ false = ne_eqb line.actor b (λ same. other (sym same ∙ mine)) in
          rw not_b refl;
      count = rw is refl;
    }

-- the first line asks nothing for the actor, or it is its next call
first_line : (a : ℕ) (line : Line) (action : Action) → line.action ≡ action → (asked a line ≡ []) ⊎ ((call : Call) × (line.action ≡ Ask call) × (eqb line.actor a ≡ true))
first_line a line (Ask call) is =
    elim (cases_Bool (eqb line.actor a)) [ inl own ↦ inr (call, is, own) | inr other ↦ inl (rw other refl) ]
first_line a line Look is =
    elim (cases_Bool (eqb line.actor a)) [ inl own ↦ inl (rw (own, is) refl) | inr other ↦ inl (rw other refl) ]

taken : (a : ℕ) (left : List Line) (c : Call) (later : List Call) → calls_of a left ≡ c ∷ later → Taken a left later
taken a [] c later e = absurd cc
taken a (line ∷ left) c later e =
    elim (first_line a line line.action refl) [
      | inl none ↦ kept a line left later none (taken a left c later (rw none at e))
      | inr own ↦ the_asked a line left c own.0 later own.1 own.2 e
    ]

-- lines of which no actor has a call have none
none_left : (left : List Line) → ((a : ℕ) → calls_of a left ≡ []) → calls left ≡ []
none_left [] none = refl
none_left (line ∷ left) none =
    elim (first_line line.actor line line.action refl) [
      | inl quiet ↦
          let silent : call_in line.action ≡ [] = rw (eq-eqb line.actor line.actor refl) at quiet in
          rw silent (none_left left (λ a.
          let whole : asked a line ++ calls_of a left ≡ [] = none a in
          let mute : asked a line ≡ [] = elim (cases_Bool (eqb line.actor a)) [ inl own ↦ rw own silent | inr other ↦ rw other refl ] in
          rw mute at whole))
      | inr own ↦ absurd (let wrong : own.0 ∷ calls_of line.actor left ≡ [] = rw (own.2, own.1) at (none line.actor) in cc)
    ]

calls_none : (left : List Line) → length (calls left) ≡ 0 → (a : ℕ) → calls_of a left ≡ []
calls_none [] none a = refl
calls_none (line ∷ left) none a =
    let parts : length (call_in line.action) + length (calls left) ≡ 0 = sym (length-append (call_in line.action) (calls left)) ∙ none in
    elim (first_line a line line.action refl) [
      | inl quiet ↦ rw quiet (calls_none left (omega arith) a)
      | inr own ↦ absurd (let some : 1 + length (calls left) ≡ 0 = rw own.1 at parts in omega arith)
    ]

-- ---- what is left behind a history

pub record IsLeft (lines : List Line) (history : List Entry) (left : List Line) : Type 0 where
  pub each : (a : ℕ) → calls_of a lines ≡ calls_by a history ++ calls_of a left
  pub count : length history + length (calls left) ≡ length (calls lines)

pub made_own : (a : ℕ) (h : List Entry) (e : Entry) → e.caller ≡ a → calls_by a (h ++ e ∷ []) ≡ calls_by a h ++ e.call ∷ []
made_own a h e own = flat_map-push (made a) h e ∙ ap (λ (cs : List Call). calls_by a h ++ cs) (rw (eq-eqb e.caller a own) refl)

pub made_other : (a : ℕ) (h : List Entry) (e : Entry) → e.caller ≢ a → calls_by a (h ++ e ∷ []) ≡ calls_by a h
made_other a h e other = flat_map-push (made a) h e ∙ rw (ne_eqb e.caller a other) (append-nil (calls_by a h))

pub left_step : (lines : List Line) (h : List Entry) (e : Entry) (left : List Line) → IsLeft lines h left → IsNext lines h e.caller e.call → (rest : List Line) × IsLeft lines (h ++ e ∷ []) rest
left_step lines h e left is next =
    let begins : calls_of e.caller left ≡ e.call ∷ next.0 = append_cancel_left (calls_by e.caller h) (calls_of e.caller left) (e.call ∷ next.0) (sym (is.each e.caller) ∙ next.1) in
    let t = taken e.caller left e.call next.0 begins in (
      t.rest,
      record {
        each = λ a. elim (cases_eq e.caller a) [
          | inl own ↦
              next_own a own t begins
          | inr other ↦ is.each a ∙ (ap (λ (cs : List Call). calls_by a h ++ cs) (sym (t.others a (λ same. other (sym same)))) ∙ ap (λ (cs : List Call). cs ++ calls_of a t.rest) (sym (made_other a h e other)))
        ];
        count = let longer = length-append h (e ∷ []) in omega (arith, t.count, is.count);
      },
    ) where
      next_own : (a : ℕ) → e.caller ≡ a → (t : Taken e.caller left next.0) → calls_of e.caller left ≡ e.call ∷ next.0 → calls_of a lines ≡ calls_by a (h ++ e ∷ []) ++ calls_of a t.rest
      next_own a own t begins = subst (λ b. calls_of b lines ≡ calls_by b (h ++ e ∷ []) ++ calls_of b t.rest) own
          (next.1 ∙ (ap (λ (cs : List Call). calls_by e.caller h ++ e.call ∷ cs) (sym t.own) ∙ (sym (append_assoc (calls_by e.caller h) (e.call ∷ []) (calls_of e.caller t.rest))
          ∙ ap (λ (cs : List Call). cs ++ calls_of e.caller t.rest) (sym (made_own e.caller h e refl)))))

pub left_begins : (lines : List Line) (actors : ℕ) (text : List ℕ) (k : ℕ) (h : List Entry) (r : List ℕ) → Begins lines actors text k h r → ((left : List Line) × IsLeft lines h left) × (length h ≡ k)
left_begins lines actors text zero h r b = ((lines, record { each = λ a. rw b.0 refl; count = omega (arith, ap length b.0) }), ap length b.0)
left_begins lines actors text (suc k) h r b =
    let before = left_begins lines actors text k b.0 b.1 b.3 in
    let now = left_step lines b.0 b.2 before.0.0 before.0.1 b.4.next in
    ((now.0, subst (λ (x : List Entry). IsLeft lines x now.0) (sym b.5) now.1), ap length b.5 ∙ (length-append b.0 (b.2 ∷ []) ∙ omega (arith, before.1)))

-- good lines of all calls merge the lines
pub begins_merges : (lines : List Line) (actors : ℕ) (text : List ℕ) (h : List Entry) (r : List ℕ) → Begins lines actors text (length (calls lines)) h r → Merges lines h
begins_merges lines actors text h r b a =
    let l = left_begins lines actors text (length (calls lines)) h r b in
    let none : length (calls l.0.0) ≡ 0 = omega (arith, l.0.1.count, l.1) in
    sym (l.0.1.each a ∙ (ap (λ (cs : List Call). calls_by a h ++ cs) (calls_none l.0.0 none a) ∙ append-nil (calls_by a h)))

-- a history that merges the lines has as many entries as there are calls
pub merges_count : (lines : List Line) (actors : ℕ) (text : List ℕ) (k : ℕ) (h : List Entry) (r : List ℕ) → Begins lines actors text k h r → Merges lines h → length h ≡ length (calls lines)
merges_count lines actors text k h r b merges =
    let l = left_begins lines actors text k h r b in
    let none : calls l.0.0 ≡ [] = none_left l.0.0 (λ a. append_cancel_left (calls_by a h) (calls_of a l.0.0) [] (sym (l.0.1.each a) ∙ (sym (merges a) ∙ sym (append-nil (calls_by a h))))) in
    omega (arith, l.0.1.count, ap length none)

-- ---- actors

-- who has a call in the lines is one of the actors
pub caller_below : (actors : ℕ) (lines : List Line) → AllByRecursion (λ (line : Line). line.actor < actors) lines → (a : ℕ) → 0 < length (calls_of a lines) → a < actors
caller_below actors [] below a some = absurd (omega arith)
caller_below actors (line ∷ lines) below a some =
    elim (cases_Bool (eqb line.actor a)) [
      | inl own ↦ let is = eqb-true line.actor a own in omega (arith, below.0)
      | inr other ↦ caller_below actors lines below.1 a (rw other at some)
    ]
