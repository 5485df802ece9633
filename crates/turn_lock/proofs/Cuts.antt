-- The steps that add a view or change two: a seat is cut in two, or takes another in. And the end.
use Rattle.std.proofs.Common.{◌≡◌, ◌≢◌, ℕ, zero, suc, ◌+◌, ◌%◌, ◌^◌, ◌<◌, ◌≤◌, inl, inr, ⊎_elim, Bool, true, false, List, [], ◌∷◌, ◌++◌, length, set, sym, refl, ap, subst, ◌∙◌, arith, Some, None, Option, length-append, if◌then◌else◌, ◌==◌, cond, eq-eqb, ne_eqb}
use mathlib.Core.Option.{some, some-injective, some-ne-none}
use Rattle.std.proofs.lemmas.Bool.{true≢false}
use native.Mathlib.Decide.{ℕ_discrete}
use lib.ListN.{get_elem?}
use Rattle.atomic_table.specs.Table.{State, Splits, Joins, Final, Seen}
use Rattle.atomic_table.proofs.Lists.{at_set, set_here, set_else, at_longer, at_snoc}
use Rattle.turn_lock.specs.declared.entry.Entry.{Entry}
use Rattle.turn_lock.specs.declared.view.View.{View}
use Rattle.turn_lock.specs.Rule.{total, by, one_if_some, waits, numbers, times, NoTwo, SameTicket, BothGive, Fits, Kept}
use Rattle.turn_lock.specs.Plays.{blank, grown, newcomer, told, joined, Ends}
use Rattle.turn_lock.proofs.Sums.{at_below, at_append, total-set, total-append, total_zero, terms_le, no_two-set, no_two-append, begins_none}
use Rattle.turn_lock.proofs.Keeps.{Beside, Keeps, counted, flip_ticket, flip_gives, same_view}

no_mark : (b : Bool) → (b ≡ true → ⊥) → b ≡ false
no_mark true h = absurd (h refl)
no_mark false h = refl

module _ {C R : Type 0} where
  empty_of : (kept : List (ℕ × List (Entry C R))) → ((n : ℕ) (es : List (Entry C R)) → get_elem? kept 0 ≡ some (n, es) → ⊥) → length kept ≡ 0
  empty_of [] h = refl
  empty_of (p ∷ ps) h = absurd (h p.0 p.1 refl)

  -- a number that is not kept is not counted
  uncounted : (kept : List (ℕ × List (Entry C R))) (n : ℕ) → ((j k : ℕ) (es : List (Entry C R)) → get_elem? kept j ≡ some (k, es) → k ≢ n) → total (λ p. if p.0 == n then 1 else 0) kept ≡ 0
  uncounted kept n h = total_zero (λ p. if p.0 == n then 1 else 0) kept (λ j p e. ap (λ b. cond b 1 0) (ne_eqb p.0 n (h j p.0 p.1 e)))

  -- what a newcomer keeps
  first_kept : (log : List (Entry C R)) (made n : ℕ) → by n log ≡ [] → n < made → Keeps log made ((n, []) ∷ [])
  first_kept log made n none_of below zero k es e =
      let q = some-injective (n, []) (k, es) e in
      let kk : n ≡ k = ap (λ (z : ℕ × List (Entry C R)). z.0) q in
      (ap (λ m. by m log) (sym kk) ∙ (none_of ∙ ap (λ (z : ℕ × List (Entry C R)). z.1) q), omega arith)
  first_kept log made n none_of below (suc j) k es e = absurd (some-ne-none (k, es) (sym e))

  joined_kept : (log : List (Entry C R)) (made : ℕ) (xs ys : List (ℕ × List (Entry C R))) → Keeps log made xs → Keeps log made ys → Keeps log made (xs ++ ys)
  joined_kept log made xs ys f g j k es e = elim (at_append xs ys j (k, es) e) [ inl p ↦ f p.0 k es p.1 | inr p ↦ g p.0 k es p.1 ]

module _ {T C R : Type 0} (all : ℕ) (history : T → List (Entry C R)) (legal : List (Entry C R) → Type 0) (board : List (Entry C R) → ℕ) where
  abbrev Rule : State (Option T) (View C R) → Type 0
  Rule = Kept all history legal board

  -- other views under the same words and the same history
  regroups : (s : State (Option T) (View C R)) (k : Rule s) (views : List (View C R)) (made : ℕ)
      → total waits views ≡ total waits s.views → total numbers views ≡ made → made ≤ all
      → ((n : ℕ) → total (times n) views ≤ 1)
      → ((j : ℕ) (u : View C R) → get_elem? views j ≡ some u → Fits legal k.log k.serving (total waits s.views) made u)
      → NoTwo SameTicket views → NoTwo BothGive views
      → ((n : ℕ) → made ≤ n → by n k.log ≡ [])
      → (((i : ℕ) (v : View C R) → get_elem? views i ≡ some v → v.holds ≡ false) → (i : ℕ) (v : View C R) → get_elem? s.views i ≡ some v → v.holds ≡ false)
      → Rule record { words = s.words; homes = s.homes; views = views }
  regroups s k views made same given_out few once each apart one_gives unmade nobody = record {
    log = k.log;
    serving = k.serving;
    made = made;
    wide = k.wide;
    shown = k.shown;
    next = k.next ∙ ap (λ n. (k.serving + n) % 2 ^ 64) (sym same);
    now = k.now;
    is_legal = k.is_legal;
    start = k.start;
    few = (few, k.few.1);
    given_out = given_out;
    once = once;
    each = λ j u e. subst (λ n. Fits legal k.log k.serving n made u) (sym same) (each j u e);
    apart = apart;
    one_gives = one_gives;
    unmade = unmade;
    home = λ h. k.home (nobody h);
  }

  -- one view is cut into l, in its place, and a new one with neither ticket nor mark
  cuts : (s : State (Option T) (View C R)) (k : Rule s) (i : ℕ) (v l r : View C R) (made : ℕ) → get_elem? s.views i ≡ some v
      → l.ticket ≡ v.ticket → l.holds ≡ v.holds → l.kept ≡ v.kept → (l.given ≢ 0 → v.given ≢ 0)
      → r.ticket ≡ None → r.given ≡ 0
      → k.made + numbers r ≡ made → made ≤ all
      → ((n : ℕ) → total (times n) s.views + times n r ≤ 1)
      → Fits legal k.log k.serving (total waits s.views) made l → Fits legal k.log k.serving (total waits s.views) made r
      → Beside s.views i (λ u. Fits legal k.log k.serving (total waits s.views) made u)
      → ((n : ℕ) → made ≤ n → by n k.log ≡ [])
      → Rule record { words = s.words; homes = s.homes; views = set s.views i l ++ r ∷ [] }
  cuts s k i v l r made at ticket holds kept gives no_ticket none_given count few once fits_l fits_r others unmade =
      let first : List (View C R) = set s.views i l in
      let same_waits : waits l ≡ waits v = ap one_if_some ticket in
      let no_wait : waits r ≡ 0 = ap one_if_some no_ticket in
      regroups s k (first ++ r ∷ []) made
      (let a = total-append waits first (r ∷ []) in let b = total-set waits s.views i v l at in omega arith)
      (let a = total-append numbers first (r ∷ []) in let b = total-set numbers s.views i v l at in let g : numbers l ≡ numbers v = ap length kept in let o = k.given_out in omega arith)
      few
      (λ n. let a = total-append (times n) first (r ∷ []) in let b = total-set (times n) s.views i v l at in let g : times n l ≡ times n v = ap (λ (x : List (ℕ × List (Entry C R))). total (λ p. if p.0 == n then 1 else 0) x) kept in let o = once n in omega arith)
      (λ j u e.
      ⊎_elim
      (λ p. ⊎_elim (λ q. subst (Fits legal k.log k.serving (total waits s.views) made) q.1 fits_l) (λ q. others j u q.0 q.1) (at_set s.views i j l u p))
      (λ p. subst (Fits legal k.log k.serving (total waits s.views) made) p fits_r)
      (at_snoc first r u j e))
      (no_two-append SameTicket flip_ticket first r
      (no_two-set SameTicket flip_ticket s.views i l k.apart (λ j u ne e q. ne (sym (k.apart i j v u at e (q.0, sym ticket ∙ q.1, q.2)))))
      (λ u q. absurd (let h : ◌≡◌ {A = Option ℕ} None (Some q.0) = sym no_ticket ∙ q.1 in cc)))
      (no_two-append BothGive flip_gives first r
      (no_two-set BothGive flip_gives s.views i l k.one_gives (λ j u ne e q. ne (sym (k.one_gives i j v u at e (gives q.0, q.1)))))
      (λ u q. q.0 none_given))
      unmade
      (λ none_holds j u e. elim (ℕ_discrete j i) [ yes p ↦ ap (λ (x : View C R). x.holds) (same_view s.views i j v u (sym p) at e) ∙ (sym holds ∙ none_holds i l (at_longer first (r ∷ []) i l (set_here s.views i l (at_below s.views i v at)))) | no p ↦ none_holds j u (at_longer first (r ∷ []) j u (set_else s.views i j l p ∙ e)) ])

  -- a note is made
  pub tells : (id : ℕ) (v : View C R) → Splits Rule id v v (told v)
  tells id v s k at =
      let f = k.each id v at in
      cuts s k id v v (told v) k.made at refl refl refl (λ h. h) refl refl (omega arith) k.few.0
      (λ n. let o = k.once n in omega arith)
      f
      record { in_line = tt; has_number = omega arith; served = λ h. absurd (true≢false (sym h)); is_legal = f.is_legal; seen = f.seen; heard = begins_none k.log; kept = λ j n es e. absurd (some-ne-none (n, es) (sym e)); gives = λ h. absurd (h refl) }
      (λ j u ne e. k.each j u e)
      k.unmade

  -- a seat is made, with the next number
  pub grows : (id : ℕ) (v : View C R) → v.given ≢ 0 → v.given < all → Splits Rule id v (grown v) (newcomer v)
  grows id v gives room s k at =
      let f = k.each id v at in
      let made : v.given ≡ k.made = f.gives gives in
      let none_yet : by v.given k.log ≡ [] = k.unmade v.given (omega arith) in
      cuts s k id v (grown v) (newcomer v) (k.made + 1) at refl refl refl (λ _. gives) refl refl (omega arith) (omega arith)
      (λ n. elim (ℕ_discrete v.given n) [ yes p ↦ (let z = total_zero (times n) s.views (λ j u e. uncounted u.kept n (λ i m es d. (λ q. let b = ((k.each j u e).kept i m es d).1 in absurd (omega arith)))) in let one : times n (newcomer v) ≡ 1 = ap (λ b. cond b 1 0 + 0) (eq-eqb v.given n p) in omega arith) | no p ↦ (let o = k.once n in let zero_of : times n (newcomer v) ≡ 0 = ap (λ b. cond b 1 0 + 0) (ne_eqb v.given n p) in omega arith) ])
      record { in_line = f.in_line; has_number = f.has_number; served = f.served; is_legal = f.is_legal; seen = f.seen; heard = f.heard; kept = λ j n es e. let h = f.kept j n es e in (h.0, (let b = h.1 in omega arith)); gives = λ _. omega arith }
      record { in_line = tt; has_number = omega arith; served = λ h. absurd (true≢false (sym h)); is_legal = f.is_legal; seen = f.seen; heard = begins_none k.log; kept = first_kept k.log (k.made + 1) v.given none_yet (omega arith); gives = λ h. absurd (h refl) }
      (λ j u ne e. let h = k.each j u e in record { in_line = h.in_line; has_number = h.has_number; served = h.served; is_legal = h.is_legal; seen = h.seen; heard = h.heard; kept = λ i n es d. let p = h.kept i n es d in (p.0, (let b = p.1 in omega arith)); gives = λ q. absurd (ne (k.one_gives j id u v e at (q, gives))) })
      (λ n h. k.unmade n (omega arith))

  -- of two views the first has what both had, and nothing is left of the second
  pub takes_in : (id other : ℕ) (v w : View C R) → w.ticket ≡ None → w.holds ≡ false → Joins Rule id v other w (joined v w) blank
  takes_in id other v w no_ticket idle s k at ne at_mid =
      let mid : List (View C R) = set s.views id (joined v w) in
      let at_other : get_elem? s.views other ≡ some w = sym (set_else s.views id other (joined v w) ne) ∙ at_mid in
      let f = k.each id v at in
      let g = k.each other w at_other in
      let no_wait : waits w ≡ 0 = ap one_if_some no_ticket in
      regroups s k (set mid other blank) k.made
      (let a = total-set waits mid other w blank at_mid in let b = total-set waits s.views id v (joined v w) at in omega arith)
      (let a = total-set numbers mid other w blank at_mid in let b = total-set numbers s.views id v (joined v w) at in let l = length-append v.kept w.kept in let o = k.given_out in omega arith)
      k.few.0
      (λ n. let a = total-set (times n) mid other w blank at_mid in let b = total-set (times n) s.views id v (joined v w) at in let l = total-append (λ (p : ℕ × List (Entry C R)). if p.0 == n then 1 else 0) v.kept w.kept in let o = k.once n in omega arith)
      (λ j u e.
      ⊎_elim
      (λ p. subst (Fits legal k.log k.serving (total waits s.views) k.made) p.1
      record { in_line = tt; has_number = omega arith; served = λ h. absurd (true≢false (sym h)); is_legal = k.start; seen = begins_none k.log; heard = begins_none k.log; kept = λ i n es d. absurd (some-ne-none (n, es) (sym d)); gives = λ h. absurd (h refl) })
      (λ p. ⊎_elim
      (λ q. subst (Fits legal k.log k.serving (total waits s.views) k.made) q.1
      record { in_line = f.in_line; has_number = (let h = f.has_number in let l = length-append v.kept w.kept in omega arith); served = f.served; is_legal = f.is_legal; seen = f.seen; heard = g.seen; kept = joined_kept k.log k.made v.kept w.kept f.kept g.kept; gives = λ h. absurd (h refl) })
      (λ q. k.each j u q.1)
      (at_set s.views id j (joined v w) u p.1))
      (at_set mid other j blank u e))
      (no_two-set SameTicket flip_ticket mid other blank
      (no_two-set SameTicket flip_ticket s.views id (joined v w) k.apart (λ j u n e q. n (sym (k.apart id j v u at e q))))
      (λ j u n e q. absurd (let h = q.1 in cc)))
      (no_two-set BothGive flip_gives mid other blank
      (no_two-set BothGive flip_gives s.views id (joined v w) k.one_gives (λ j u n e q. q.0 refl))
      (λ j u n e q. q.0 refl))
      k.unmade
      (λ none_holds j u e. elim (ℕ_discrete j other) [ yes p ↦ ap (λ (x : View C R). x.holds) (same_view s.views other j w u (sym p) at_other e) ∙ idle | no p ↦ elim (ℕ_discrete j id) [ yes q ↦ ap (λ (x : View C R). x.holds) (same_view s.views id j v u (sym q) at e) ∙ none_holds id (joined v w) (set_else mid other id blank (λ r. ne (sym r)) ∙ set_here s.views id (joined v w) (at_below s.views id v at)) | no q ↦ none_holds j u (set_else mid other j blank p ∙ (set_else s.views id j (joined v w) q ∙ e)) ] ])

  -- a view beside one that keeps every number keeps none
  none_kept : (s : State (Option T) (View C R)) (k : Rule s) (id : ℕ) (v : View C R) → get_elem? s.views id ≡ some v → ((n : ℕ) → n < all → (j : ℕ) × (es : List (Entry C R)) × (get_elem? v.kept j ≡ some (n, es)))
      → (j : ℕ) (u : View C R) → j ≢ id → get_elem? s.views j ≡ some u → numbers u ≡ 0
  none_kept s k id v at every j u ne e = empty_of u.kept (λ n es d.
      let g = k.each j u e in
      let below : n < all = (let b = (g.kept 0 n es d).1 in let c = k.few.0 in omega arith) in
      let w = every n below in
      let two = terms_le (times n) s.views j id u v ne e at in
      let a = counted u.kept 0 n n es d refl in
      let b = counted v.kept w.0 n n w.1 w.2 refl in
      let o = k.once n in
      absurd (omega arith))

  -- at the end one view keeps every number, so no other has a ticket, and the value is at home
  pub ends : (id : ℕ) (v : View C R) (ws : List ℕ) (xs : List (Option T)) → v.ticket ≡ None → v.holds ≡ false → ((n : ℕ) → n < all → (j : ℕ) × (es : List (Entry C R)) × (get_elem? v.kept j ≡ some (n, es)))
      → Final (Seen Rule id v) ws xs → (x : T) × (get_elem? xs 0 ≡ some (Some x)) × Ends all (history x) v
  ends id v ws xs no_ticket idle every final =
      let s = final.0 in
      let k : Rule s = final.1.0 in
      let at = final.1.1 in
      let f = k.each id v at in
      let alone : (j : ℕ) (u : View C R) → get_elem? s.views j ≡ some u → j ≢ id → u.holds ≡ false = (λ j u e ne. no_mark u.holds (λ h. let g = k.each j u e in let t = (g.served h).0 in let z = none_kept s k id v at every j u ne e in let o : waits u ≡ 1 = ap one_if_some t in let n = g.has_number in absurd (omega arith))) in
      let here = k.home (λ j u e. elim (ℕ_discrete j id) [ yes p ↦ ap (λ (x : View C R). x.holds) (same_view s.views id j v u (sym p) at e) ∙ idle | no p ↦ alone j u e p ]) in
      (here.0, final.4 0 (Some here.0) here.1, subst (λ l. Ends all l v) (sym here.2) record { seen = f.seen; kept = λ j n es e. (f.kept j n es e).0; others = λ n h. k.unmade n (let b = k.few.0 in omega arith) })

-- at one place stands one value
pub same_value : {T : Type 0} (xs : List (Option T)) (x y : T) → get_elem? xs 0 ≡ some (Some x) → get_elem? xs 0 ≡ some (Some y) → x ≡ y
same_value {T} xs x y p q = let e : ◌≡◌ {A = Option T} (Some x) (Some y) = some-injective (Some x) (Some y) (sym p ∙ q) in cc

pub no_value : {T : Type 0} (xs : List (Option T)) (x : T) → get_elem? xs 0 ≡ some (Some x) → get_elem? xs 0 ≡ some None → ⊥
no_value {T} xs x p q = let e : ◌≡◌ {A = Option T} (Some x) None = some-injective (Some x) None (sym p ∙ q) in cc
