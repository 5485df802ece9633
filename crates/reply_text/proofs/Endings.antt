-- What is read at the end of a text are its glances, where these are legal.
use Rattle.std.proofs.Common.{◌≡◌, ℕ, suc, zero, ◌+◌, ◌<◌, ◌≤◌, ◌^◌, true, false, cond, eqb, List, [], ◌∷◌, ◌++◌, length, take, get_or, slice_get, Some, refl, sym, ◌∙◌, ap, subst, arith, inl, inr}
use Rattle.std.specs.Prelude.{◌⊎◌}
use Rattle.std.proofs.lemmas.Bool.{cases_Bool, cases_lt, eqb-true, and_parts}
use Rattle.std.proofs.lemmas.Option.{same_Some, slice_get_within, slice_get-get_or}
use Rattle.std.proofs.lemmas.List.{take_all}
use Rattle.gcc_units.specs.declared.limits.TheConstants.{MOST_ACTORS, MOST_ENTRIES}
use Rattle.send_core.specs.declared.call.Entry.{Entry}
use Rattle.send_core.specs.Reply.{target}
use Rattle.call_trace.specs.declared.trace.Action.{Action}
use Rattle.call_trace.specs.declared.trace.Action.TheVariants.{Ask, Look}
use Rattle.call_trace.specs.declared.trace.Line.{Line}
use Rattle.call_trace.specs.Fields.{lines_of}
use Rattle.reply_text.specs.declared.seen.Seen.{Seen}
use Rattle.reply_text.specs.Text.{glance_lines, tail_line}
use Rattle.reply_text.specs.Legal.{is_look, looks, looks_of, look_of, AreLegalGlances, AreGlancesOf}
use Rattle.reply_text.specs.Looking.{glances_in, AreTargets}
use Rattle.reply_text.specs.Verdict.{IsEnding}
use Rattle.reply_text.proofs.OwnGlances.{looks-push}
use Rattle.reply_text.proofs.OneMore.{take-next}
use Rattle.reply_text.proofs.AllGlances.{joined}
use Rattle.reply_text.proofs.Printed.{IsShort, printed_read}

made_line : ℕ → Action → Line
made_line actor action = record { actor = actor; action = action }

-- a line in which the actor looks is that line
look_is : (actor : ℕ) (line : Line) (action : Action) → line.action ≡ action → looks actor line ≡ true → line ≡ look_of actor
unfolding made_line
look_is actor line (Ask call) is look =
    let parts = and_parts (eqb line.actor actor) (is_look line.action) look in
    absurd (let wrong : false ≡ true = ap is_look (sym is) ∙ parts.1 in cc)
look_is actor line Look is look =
    let parts = and_parts (eqb line.actor actor) (is_look line.action) look in
    ap (λ a. made_line a line.action) (eqb-true line.actor actor parts.0) ∙ ap (λ (act : Action). made_line actor act) is

-- for each glance there is a line in which the actor looks
pub look_at : (actor : ℕ) (lines : List Line) (i k : ℕ) → i ≤ length lines → k < looks_of actor (take i lines)
    → (n : ℕ) × (line : Line) × (slice_get lines n ≡ Some line) × (line ≡ look_of actor) × (looks_of actor (take n lines) ≡ k)
look_at actor lines zero k within low = absurd (omega arith)
look_at actor lines (suc i) k within low =
    let line = get_or lines i (look_of actor) in
    let is : slice_get lines i ≡ Some line = slice_get-get_or lines i (look_of actor) (omega arith) in
    let one : i + 1 ≡ suc i = omega arith in
    let more : looks_of actor (take (suc i) lines) ≡ looks_of actor (take i lines) + cond (looks actor line) 1 0
    = ap (λ n. looks_of actor (take n lines)) (sym one) ∙ (ap (looks_of actor) (take-next lines i line is) ∙ looks-push actor (take i lines) line) in
    elim (cases_lt k (looks_of actor (take i lines))) [
      | inl earlier ↦ look_at actor lines i k (omega arith) earlier
      | inr here ↦
          elim (cases_Bool (looks actor line)) [
            | inl look ↦ (let count : looks_of actor (take (suc i) lines) ≡ looks_of actor (take i lines) + 1 = rw look at more in (i, line, is, look_is actor line line.action refl look, omega arith))
            | inr quiet ↦ absurd (let count : looks_of actor (take (suc i) lines) ≡ looks_of actor (take i lines) + 0 = rw quiet at more in omega arith)
          ]
    ]

append_cases : {X : Type 0} (xs ys : List X) (k : ℕ) (x : X) → slice_get (xs ++ ys) k ≡ Some x → (slice_get xs k ≡ Some x) ⊎ ((j : ℕ) × (slice_get ys j ≡ Some x))
append_cases [] ys k x is = inr (k, is)
append_cases (z ∷ xs) ys zero x is = inl is
append_cases (z ∷ xs) ys (suc k) x is = append_cases xs ys k x is

in_joined : (given : List (List Seen)) (k : ℕ) (g : Seen) → slice_get (joined given) k ≡ Some g
    → (a : ℕ) × (own : List Seen) × (j : ℕ) × (slice_get given a ≡ Some own) × (slice_get own j ≡ Some g)
in_joined [] k g is = absurd cc
in_joined (own ∷ given) k g is =
    elim (append_cases own (joined given) k g is) [
      | inl here ↦ (0, own, k, refl, here)
      | inr later ↦ (let t = in_joined given later.0 g later.1 in (suc t.0, t.1, t.2, t.3, t.4))
    ]

module _ (history : List Entry) (lines : List Line) (actors : ℕ) (targets : List ℕ) (few : actors ≤ MOST_ACTORS) (short : length history ≤ MOST_ENTRIES) (are : AreTargets history targets) where
  own_short : (a : ℕ) (own : List Seen) → a < actors → AreLegalGlances history lines a own → (k : ℕ) (g : Seen) → slice_get own k ≡ Some g → IsShort g
  own_short a own low legal k g is =
      let all : take (length lines) lines ≡ lines = take_all (length lines) lines (omega arith) in
      let inside : k < looks_of a (take (length lines) lines) = rw all (omega (arith, legal.count, slice_get_within own k g is)) in
      let at = look_at a lines (length lines) k (omega arith) inside in
      let e = legal.each at.0 at.1 at.2 at.3 in
      let same : e.0 ≡ g = same_Some e.0 g (sym e.1 ∙ (ap (slice_get own) at.4 ∙ is)) in
      let within = legal.within k g is in
      let seen : g.target ≡ target (take g.calls history) = subst (λ (x : Seen). x.target ≡ target (take x.calls history)) same e.2.target in
      record {
        actor = omega (arith, within.0);
        calls = omega (arith, within.1);
        target = subst (λ n. n < 2 ^ 64) (sym seen) (are.small g.calls within.1);
      }

  -- the glances of an ending are those that are read
  pub ending_read : (rest : List ℕ) (e : IsEnding lines actors history rest) → glances_in (lines_of rest).whole ≡ e.0
  ending_read rest e =
      let each : (k : ℕ) (g : Seen) → slice_get e.0 k ≡ Some g → IsShort g = λ k g is.
      let at = in_joined e.1.given k g (ap (λ (xs : List Seen). slice_get xs k) (sym e.1.whole) ∙ is) in
      own_short at.0 at.1 (omega (arith, e.1.count, slice_get_within e.1.given at.0 at.1 at.3)) (e.1.each at.0 at.1 at.3) at.2 g at.4 in
      ap (λ xs. glances_in (lines_of xs).whole) e.2 ∙ printed_read history e.0 each

  pub no_ending : (rest : List ℕ) (read : List Seen) → read ≡ glances_in (lines_of rest).whole → ¬ AreGlancesOf history lines actors read → ¬ IsEnding lines actors history rest
  no_ending rest read is bad e = bad (subst (λ (xs : List Seen). AreGlancesOf history lines actors xs) (sym (is ∙ ending_read rest e)) e.1)

  -- the ending is right exactly where what was read is printed so
  pub ending_is : (rest : List ℕ) (read : List Seen) → read ≡ glances_in (lines_of rest).whole → IsEnding lines actors history rest → glance_lines [] read ++ tail_line history ≡ rest
  ending_is rest read is e = ap (λ (xs : List Seen). glance_lines [] xs ++ tail_line history) (is ∙ ending_read rest e) ∙ sym e.2
