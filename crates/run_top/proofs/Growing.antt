-- A line more, and a longer history.
use Rattle.std.proofs.Common.{◌≡◌, ℕ, zero, suc, ◌+◌, ◌≤◌, Bool, true, false, ◌&&◌, eqb, cond, eq-eqb, List, [], ◌∷◌, ◌++◌, length, length-append, take, map, Some, slice_get, ◌⊎◌, inl, inr, refl, sym, ◌∙◌, ap, subst, arith}
use Rattle.std.proofs.lemmas.List.{take-append-le}
use Rattle.std.proofs.lemmas.List.Sums.{sum_by-append}
use Rattle.std.proofs.lemmas.Option.{slice_get_within}
use Rattle.std.proofs.Math.Seq.{take-length}
use Rattle.gcc_units.proofs.Walk.{flat_map-push}
use Rattle.send_core.specs.declared.call.Call.{Call}
use Rattle.send_core.specs.declared.call.Entry.{Entry}
use Rattle.send_core.specs.Reply.{target}
use Rattle.turn_lock.specs.Rule.{by}
use Rattle.shared_sender.specs.Served.{Answered, journal_of}
use Rattle.call_trace.specs.declared.trace.Line.{Line}
use Rattle.call_trace.specs.Merge.{asked, calls_of, calls_by}
use Rattle.reply_text.specs.declared.seen.Seen.{Seen}
use Rattle.reply_text.specs.Legal.{is_look, looks_of, look_of, IsLegalGlance, AreLegalGlances}

-- ---- places in a list

pub at_left : {A : Type 0} (xs ys : List A) (n : ℕ) (y : A) → slice_get xs n ≡ Some y → slice_get (xs ++ ys) n ≡ Some y
at_left [] ys n y at = absurd cc
at_left (x ∷ xs) ys zero y at = at
at_left (x ∷ xs) ys (suc n) y at = at_left xs ys n y at

pub at_last : {A : Type 0} (xs : List A) (x : A) → slice_get (xs ++ x ∷ []) (length xs) ≡ Some x
at_last [] x = refl
at_last (y ∷ xs) x = at_last xs x

-- a place is one of the first, or the last
pub at_push : {A : Type 0} (xs : List A) (x : A) (n : ℕ) (y : A) → slice_get (xs ++ x ∷ []) n ≡ Some y
    → (slice_get xs n ≡ Some y) ⊎ ((n ≡ length xs) × (x ≡ y))
at_push [] x zero y at = inr (refl, cc)
at_push [] x (suc n) y at = absurd cc
at_push (z ∷ xs) x zero y at = inl at
at_push (z ∷ xs) x (suc n) y at = elim (at_push xs x n y at) [ inl p ↦ inl p | inr p ↦ inr (ap suc p.0, p.1) ]

-- what holds of each element after those before it holds so with one more
pub each-push : {A : Type 0} (P : List A → A → Type 0) (xs : List A) (x : A)
    → ((n : ℕ) (y : A) → slice_get xs n ≡ Some y → P (take n xs) y) → P xs x
    → (n : ℕ) (y : A) → slice_get (xs ++ x ∷ []) n ≡ Some y → P (take n (xs ++ x ∷ [])) y
each-push P [] x each last zero y is = let same : x ≡ y = cc in subst (P []) same last
each-push P [] x each last (suc n) y is = absurd cc
each-push P (z ∷ zs) x each last zero y is = each zero y is
each-push P (z ∷ zs) x each last (suc n) y is = each-push (λ ys. P (z ∷ ys)) zs x (λ k v. each (suc k) v) last n y is

-- ---- calls

made_in : (a caller : ℕ) (e : Answered) (es : List Answered) (b : Bool)
    → cond b (e.call ∷ []) [] ++ map (λ (d : Answered). d.call) es ≡ map (λ (d : Answered). d.call) (cond b (e ∷ es) es)
made_in a caller e es true = refl
made_in a caller e es false = refl

-- an actor's calls in a journal are those of its entries
pub calls_by-by : (a : ℕ) (h : List Answered) → calls_by a (journal_of h) ≡ map (λ (e : Answered). e.call) (by a h)
calls_by-by a [] = refl
calls_by-by a (e ∷ h) =
    ap (λ cs. cond (eqb e.caller a) (e.call ∷ []) [] ++ cs) (calls_by-by a h) ∙ made_in a e.caller e (by a h) (eqb e.caller a)

pub calls_of-push : (a : ℕ) (lines : List Line) (line : Line) → calls_of a (lines ++ line ∷ []) ≡ calls_of a lines ++ asked a line
calls_of-push a lines line = flat_map-push (asked a) lines line

-- ---- looks

abbrev pub looks : ℕ → Line → Bool
looks a line = eqb line.actor a && is_look line.action

pub looks_of-push : (a : ℕ) (lines : List Line) (line : Line) → looks_of a (lines ++ line ∷ []) ≡ looks_of a lines + cond (looks a line) 1 0
looks_of-push a lines line =
    let s = sum_by-append (λ (l : Line). cond (looks a l) 1 0) lines (line ∷ []) in omega (arith, s)

pub looks_there : (a : ℕ) → looks a (look_of a) ≡ true
looks_there a = ap (λ b. b && true) (eq-eqb a a refl)

none_either : (b : Bool) → cond b [] (let none : List Call = [] in none) ≡ []
none_either true = refl
none_either false = refl

pub asks_nothing : (a : ℕ) → asked a (look_of a) ≡ []
asks_nothing a = none_either (eqb a a)

-- ---- glances

-- a longer history keeps all legal glances
pub glances_longer : (h more : List Entry) (lines : List Line) (a : ℕ) (gs : List Seen) → AreLegalGlances h lines a gs → AreLegalGlances (h ++ more) lines a gs
glances_longer h more lines a gs all = record {
  count = all.count;
  each = λ n line at is.
      let o = all.each n line at is in
      let few : o.0.calls ≤ length h = (all.within (looks_of a (take n lines)) o.0 o.1).1 in
      let same : take o.0.calls (h ++ more) ≡ take o.0.calls h = take-append-le o.0.calls h more few in
      (o.0, o.1, record { target = o.2.target ∙ ap target (sym same); place = ap (calls_by a) same ∙ o.2.place });
  within = λ k g at. let w = all.within k g at in (w.0, rw (length-append h more) (omega (arith, w.1)));
  rising = all.rising;
}

-- so does a line with which the actor does not look
pub glances_skipped : (h : List Entry) (lines : List Line) (line : Line) (a : ℕ) (gs : List Seen) → looks a line ≡ false
    → AreLegalGlances h lines a gs → AreLegalGlances h (lines ++ line ∷ []) a gs
glances_skipped h lines line a gs not all = record {
  count = all.count ∙ sym (looks_of-push a lines line ∙ (let c : cond (looks a line) 1 0 ≡ 0 = ap {B = ℕ} (λ b. cond b 1 0) not in omega (arith, c)));
  each =
      each-push
      (λ before (l : Line). l ≡ look_of a → (g : Seen) × (slice_get gs (looks_of a before) ≡ Some g) × IsLegalGlance h before a g)
      lines line all.each
      (λ is. let yes : looks a line ≡ true = ap (looks a) is ∙ looks_there a in let clash : true ≡ false = sym yes ∙ not in absurd cc);
  within = all.within;
  rising = all.rising;
}

-- the actor looks, and sees the whole history
pub glances_looked : (h : List Entry) (lines : List Line) (a : ℕ) (gs : List Seen) (g : Seen)
    → g.actor ≡ a → g.calls ≡ length h → g.target ≡ target h → calls_by a h ≡ calls_of a lines
    → AreLegalGlances h lines a gs → AreLegalGlances h (lines ++ look_of a ∷ []) a (gs ++ g ∷ [])
glances_looked h lines a gs g whose whole target_is calls all =
    let seen : take g.calls h ≡ h = ap (λ n. take n h) whole ∙ take-length h in
    record {
      count = length-append gs (g ∷ []) ∙ (ap (λ n. n + 1) all.count ∙ sym (looks_of-push a lines (look_of a) ∙ ap {B = ℕ} (λ b. looks_of a lines + cond b 1 0) (looks_there a)));
      each =
          each-push
          (λ before (l : Line). l ≡ look_of a → (o : Seen) × (slice_get (gs ++ g ∷ []) (looks_of a before) ≡ Some o) × IsLegalGlance h before a o)
          lines (look_of a)
          (λ n line at is. let o = all.each n line at is in (o.0, at_left gs (g ∷ []) (looks_of a (take n lines)) o.0 o.1, o.2))
          (λ is. (
            g,
            subst (λ n. slice_get (gs ++ g ∷ []) n ≡ Some g) all.count (at_last gs g),
            record { target = target_is ∙ ap target (sym seen); place = ap (calls_by a) seen ∙ calls },
          ));
      within = λ k o at. elim (at_push gs g k o at) [
        | inl p ↦ all.within k o p
        | inr p ↦ subst (λ (s : Seen). (s.actor ≡ a) × (s.calls ≤ length h)) p.1 (whose, omega (arith, whole))
      ];
      rising = λ j k one two below at_j at_k. elim (at_push gs g k two at_k) [
        | inl p ↦ (elim (at_push gs g j one at_j) [
          | inl q ↦ all.rising j k one two below q p
          | inr q ↦ (let r = slice_get_within gs k two p in absurd (omega (arith, q.0, r, below)))
        ])
        | inr p ↦ (elim (at_push gs g j one at_j) [
          | inl q ↦ (let w = all.within j one q in let c = ap (λ (s : Seen). s.calls) p.1 in omega (arith, w.1, c, whole))
          | inr q ↦ (let c = ap (λ (s : Seen). s.calls) (sym q.1 ∙ p.1) in omega (arith, c))
        ])
      ];
    }
