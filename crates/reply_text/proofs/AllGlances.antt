-- The glances of all actors, one actor after another.
use Rattle.std.proofs.Common.{◌≡◌, ℕ, ◌+◌, ◌<◌, List, [], ◌∷◌, ◌++◌, length, drop, get_or, slice_get, Some, refl, sym, ◌∙◌, ap, subst, arith, append_assoc, length-append, inl, inr}
use Rattle.std.specs.List.{flat_map}
use Rattle.std.proofs.lemmas.List.{append-nil, append_cancel_left, drop_all, drop_more}
use Rattle.std.proofs.lemmas.Option.{slice_get-get_or}
use Rattle.gcc_units.proofs.Walk.{flat_map-push}
use Rattle.send_core.specs.declared.call.Entry.{Entry}
use Rattle.call_trace.specs.declared.trace.Line.{Line}
use Rattle.reply_text.specs.declared.seen.Seen.{Seen}
use Rattle.reply_text.specs.Legal.{AreLegalGlances, AreGlancesOf}
use Rattle.reply_text.specs.Looking.{HasOwn}
use Rattle.reply_text.proofs.OwnGlances.{push_cases, same_front}

abbrev pub joined : List (List Seen) → List Seen
joined given = flat_map (λ (own : List Seen). own) given

module _ (history : List Entry) (lines : List Line) (actors : ℕ) (glances : List Seen) where
  -- the glances of so many actors were found
  pub record AreFound (a : ℕ) (rest : List Seen) : Type 0 where
    pub given : List (List Seen)
    pub count : length given ≡ a
    pub whole : glances ≡ joined given ++ rest
    pub each : (actor : ℕ) (own : List Seen) → slice_get given actor ≡ Some own → AreLegalGlances history lines actor own
    pub others : (t : AreGlancesOf history lines actors glances) → rest ≡ joined (drop a t.given)

  pub found_first : AreFound 0 glances
  found_first = record { given = []; count = refl; whole = refl; each = λ actor own is. absurd cc; others = λ t. t.whole }

  -- what is left begins with the next actor's glances
  theirs : (a : ℕ) (rest : List Seen) → a < actors → AreFound a rest → (t : AreGlancesOf history lines actors glances)
      → (rest ≡ get_or t.given a [] ++ joined (drop (a + 1) t.given)) × AreLegalGlances history lines a (get_or t.given a [])
  theirs a rest low f t =
      let inside : a < length t.given = omega (arith, t.count) in
      (f.others t ∙ ap joined (drop_more t.given a [] inside), t.each a (get_or t.given a []) (slice_get-get_or t.given a [] inside))

  pub found_none : (a : ℕ) (rest : List Seen) → a < actors → AreFound a rest → ((own more : List Seen) → rest ≡ own ++ more → AreLegalGlances history lines a own → ⊥) → ¬ AreGlancesOf history lines actors glances
  found_none a rest low f none t = let it = theirs a rest low f t in none (get_or t.given a []) (joined (drop (a + 1) t.given)) it.0 it.1

  pub found_more : (a : ℕ) (rest more : List Seen) → a < actors → AreFound a rest → HasOwn history lines a rest more → AreFound (a + 1) more
  found_more a rest more low f h = record {
    given = f.given ++ h.own ∷ [];
    count = length-append f.given (h.own ∷ []) ∙ ap (λ n. n + 1) f.count;
    whole = f.whole ∙ (ap (λ (xs : List Seen). joined f.given ++ xs) h.split ∙ (sym (append_assoc (joined f.given) h.own more) ∙ ap (λ (xs : List Seen). xs ++ more) (sym (flat_map-push (λ (xs : List Seen). xs) f.given h.own))));
    each = λ actor own is. elim (push_cases f.given h.own actor own is) [
      | inl front ↦ f.each actor own front
      | inr last ↦ subst (λ (xs : List Seen). AreLegalGlances history lines actor xs) last.1 (subst (λ k. AreLegalGlances history lines k h.own) (sym (last.0 ∙ f.count)) h.legal)
    ];
    others = λ t.
        let it = theirs a rest low f t in
        let theirs_is : h.own ≡ get_or t.given a [] = same_front h.own more (get_or t.given a []) (joined (drop (a + 1) t.given)) (sym h.split ∙ it.0) (h.legal.count ∙ sym it.1.count) in
        append_cancel_left h.own more (joined (drop (a + 1) t.given)) (sym h.split ∙ (it.0 ∙ ap (λ (xs : List Seen). xs ++ joined (drop (a + 1) t.given)) (sym theirs_is)));
  }

  pub all_found : (a : ℕ) (rest : List Seen) → a ≡ actors → AreFound a rest → length rest ≡ 0 → AreGlancesOf history lines actors glances
  all_found a rest is f none = record {
    given = f.given;
    count = f.count ∙ is;
    whole = f.whole ∙ (ap (λ (xs : List Seen). joined f.given ++ xs) (empty rest none) ∙ append-nil (joined f.given));
    each = f.each;
  } where
    empty : (xs : List Seen) → length xs ≡ 0 → xs ≡ []
    empty [] e = refl
    empty (x ∷ xs) e = absurd (omega arith)

  pub found_all : (a : ℕ) (rest : List Seen) → a ≡ actors → AreFound a rest → AreGlancesOf history lines actors glances → length rest ≡ 0
  found_all a rest is f t = ap length (f.others t ∙ ap joined (drop_all a t.given (omega (arith, t.count))))
