-- From what the steps tell to what a call tells.
use Rattle.std.proofs.Common.{◌≡◌, ℕ, List, [], ◌∷◌, ◌++◌, sym, refl, ap, subst, ◌∙◌, Some, Option}
use Rattle.atomic_table.specs.Table.{Me}
use Rattle.turn_lock.specs.declared.entry.Entry.{Entry}
use Rattle.turn_lock.specs.declared.view.View.{View}
use Rattle.turn_lock.specs.Rule.{by, BeginsWith}
use Rattle.turn_lock.specs.Plays.{adds, add_own, leaves, Owns, IsNumbered, Settles, Claimed}
use Rattle.turn_lock.specs.Seats.{own_of}
use Rattle.turn_lock.proofs.Sums.{begins_more, by-own}

module _ {C R : Type 0} where
  -- the own entries after one more
  own_more : (log : List (Entry C R)) (e : Entry C R) (number : ℕ) (mine : List (Entry C R)) (more : List (ℕ × List (Entry C R))) (kept : List (ℕ × List (Entry C R)))
      → kept ≡ (number, mine) ∷ more → Owns log kept → e.caller ≡ number → by number (log ++ e ∷ []) ≡ own_of (add_own e kept)
  own_more log e number mine more kept is owns own =
      let o : by number log ≡ mine = subst (Owns log) is owns in
      subst (λ l. by number (log ++ e ∷ []) ≡ own_of (add_own e l)) (sym is) (by-own number log e own ∙ ap (λ l. l ++ e ∷ []) o)

module _ {T C R : Type 0} (history : T → List (Entry C R)) (legal : List (Entry C R) → Type 0) where
  pub entry_seen : (m n : Me (Option T) (View C R)) (x y : T) (e : Entry C R) → Claimed history legal m x n → history y ≡ history x ++ e ∷ [] → history y ≡ n.0.seen ++ e ∷ []
  entry_seen m n x y e c h = h ∙ ap (λ (l : Me (Option T) (View C R)). l.0.seen ++ e ∷ []) (sym c.1)

  pub may_settle : (board : List (Entry C R) → ℕ) (number b : ℕ) (m n : Me (Option T) (View C R)) (x y : T) (e : Entry C R) → IsNumbered number m.0 → Claimed history legal m x n
      → e.caller ≡ number → history y ≡ history x ++ e ∷ [] → legal (history y) → b ≡ board (history y) → Settles history legal board number b (n.0, (0, Some y) ∷ []) y e
  may_settle board number b m n x y e numbered c own h is_legal shown =
      subst (λ (l : Me (Option T) (View C R)). Settles history legal board number b (l.0, (0, Some y) ∷ []) y e) (sym c.1)
      record { with_it = refl; holds = refl; numbered = numbered; own = own; entry = h; is_legal = is_legal; shown = shown }

  pub seen_grows : (m n p : Me (Option T) (View C R)) (x : T) (e : Entry C R) → Claimed history legal m x n → p ≡ (leaves (adds e n.0), []) → BeginsWith p.0.seen m.0.seen
  seen_grows m n p x e c q =
      subst (λ (l : Me (Option T) (View C R)). BeginsWith l.0.seen m.0.seen) (sym q)
      (subst (λ (l : Me (Option T) (View C R)). BeginsWith (l.0.seen ++ e ∷ []) m.0.seen) (sym c.1) (begins_more (history x) m.0.seen (e ∷ []) c.2))

  pub own_grows : (number : ℕ) (m n p : Me (Option T) (View C R)) (x : T) (e : Entry C R) → IsNumbered number m.0 → Claimed history legal m x n → e.caller ≡ number
      → p ≡ (leaves (adds e n.0), []) → by number p.0.seen ≡ own_of p.0.kept
  own_grows number m n p x e numbered c own q =
      subst (λ (l : Me (Option T) (View C R)). by number l.0.seen ≡ own_of l.0.kept) (sym q)
      (subst (λ (l : Me (Option T) (View C R)). by number (l.0.seen ++ e ∷ []) ≡ own_of (add_own e l.0.kept)) (sym c.1)
      (own_more (history x) e number numbered.0 numbered.1 m.0.kept numbered.2 c.4 own))
