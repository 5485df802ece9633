-- Each kind of step that changes one view keeps the rule.
use Rattle.std.proofs.Common.{◌≡◌, ◌≢◌, ℕ, zero, suc, ◌+◌, ◌%◌, ◌^◌, ◌<◌, ◌≤◌, ⊎_elim, Bool, true, false, List, [], ◌∷◌, ◌++◌, length, set, get_or-set_other, slice_index, slice_set, sym, refl, ap, subst, ◌∙◌, arith, Some, Option, length-set, if◌then◌else◌, ◌==◌, cond, eq-eqb}
use mathlib.Core.Option.{Option as Home, some, none, some-injective}
use Rattle.std.proofs.lemmas.Bool.{true≢false}
use Rattle.std.proofs.lemmas.List.{get_or_default, same_from_push}
use native.Mathlib.Decide.{ℕ_discrete}
use lib.ListN.{get_elem?}
use Rattle.atomic_table.specs.Table.{State, Me, Act, keeps, takes, gives, Valid, stepped, carried_after, Allows}
use Rattle.atomic_table.proofs.Lists.{at_set, set_here, set_else, set_again, at_index, one_turn}
use Rattle.turn_lock.specs.declared.entry.Entry.{Entry}
use Rattle.turn_lock.specs.declared.view.View.{View}
use Rattle.turn_lock.specs.Rule.{total, by, BeginsWith, InLine, one_if_some, waits, numbers, times, SameTicket, BothGive, Fits, Kept}
use Rattle.turn_lock.specs.Plays.{with_ticket, served, adds, leaves, reads, Idle, Owns, add_own, draw, commit, Settles, look, pass_on, read}
use Rattle.turn_lock.proofs.Sums.{at_below, total-set, term_le, terms_le, total_le, no_two-set, begins_all, begins_none, begins_more, by-own, by-other, line_longer, line_at, line_behind, word_here}

not_true : (b : Bool) → (b ≡ true → ⊥) → b ≡ false
not_true true h = absurd (h refl)
not_true false h = refl

-- at one place stands one view
pub same_view : {A : Type 0} (l : List A) (i j : ℕ) (a b : A) → i ≡ j → get_elem? l i ≡ some a → get_elem? l j ≡ some b → b ≡ a
same_view l i j a b p e d = some-injective b a (sym d ∙ (ap (get_elem? l) (sym p) ∙ e))

same_slot : {T : Type 0} (l : List (ℕ × Option T)) (x y : T) → l ≡ (0, Some x) ∷ [] → l ≡ (0, Some y) ∷ [] → x ≡ y
same_slot {T} l x y p q =
    let e : ◌≡◌ {A = List (ℕ × Option T)} ((0, Some x) ∷ []) ((0, Some y) ∷ []) = sym p ∙ q in
    let d : ◌≡◌ {A = ℕ × Option T} (0, Some x) (0, Some y) = cc in
    let f : ◌≡◌ {A = Option T} (Some x) (Some y) = ap (λ (z : ℕ × Option T). z.1) d in
    cc

module _ {C R : Type 0} where
  -- of all views but the one at i
  abbrev pub Beside : List (View C R) → ℕ → (View C R → Type 0) → Type 0
  Beside views i P = (j : ℕ) (u : View C R) → j ≢ i → get_elem? views j ≡ some u → P u

  -- what a view knows stays true where the line moves
  fits_line : (legal : List (Entry C R) → Type 0) (log : List (Entry C R)) (s c s' c' made : ℕ) (u : View C R) → Fits legal log s c made u → InLine s' c' u.ticket → (u.holds ≡ true → u.ticket ≡ Some s') → Fits legal log s' c' made u
  fits_line legal log s c s' c' made u f line mark = record { in_line = line; has_number = f.has_number; served = λ h. (mark h, (f.served h).1); is_legal = f.is_legal; seen = f.seen; heard = f.heard; kept = f.kept; gives = f.gives }

  owns_of : (log : List (Entry C R)) (kept : List (ℕ × List (Entry C R))) → ((k : ℕ) (es : List (Entry C R)) → get_elem? kept 0 ≡ some (k, es) → by k log ≡ es) → Owns log kept
  owns_of log [] f = tt
  owns_of log (p ∷ ps) f = f p.0 p.1 refl

  -- what is kept under the own number is what the history has of it
  pub owns : (legal : List (Entry C R) → Type 0) (log : List (Entry C R)) (s c made : ℕ) (u : View C R) → Fits legal log s c made u → Owns log u.kept
  owns legal log s c made u f = owns_of log u.kept (λ k es e. (f.kept 0 k es e).0)

  -- a number that is kept is counted
  abbrev pub one_at : ℕ → ℕ × List (Entry C R) → ℕ
  one_at k p = if p.0 == k then 1 else 0

  pub counted : (kept : List (ℕ × List (Entry C R))) (j k n : ℕ) (es : List (Entry C R)) → get_elem? kept j ≡ some (n, es) → n ≡ k → 1 ≤ total (one_at k) kept
  counted kept j k n es e same = let h = term_le (one_at k) kept j (n, es) e in let one : one_at k (n, es) ≡ 1 = ap (λ b. cond b 1 0) (eq-eqb n k same) in omega arith

  -- what is kept, after an entry of the own number, which is kept once
  abbrev pub Keeps : List (Entry C R) → ℕ → List (ℕ × List (Entry C R)) → Type 0
  Keeps log made kept = (j k : ℕ) (es : List (Entry C R)) → get_elem? kept j ≡ some (k, es) → (by k log ≡ es) × (k < made)

  own_kept : (log : List (Entry C R)) (e : Entry C R) (made : ℕ) (p : ℕ × List (Entry C R)) (ps : List (ℕ × List (Entry C R))) → e.caller ≡ p.0 → Keeps log made (p ∷ ps) → total (one_at p.0) (p ∷ ps) ≤ 1 → Keeps (log ++ e ∷ []) made (add_own e (p ∷ ps))
  own_kept log e made p ps same f once zero k es d =
      let h = f 0 p.0 p.1 refl in
      let q = some-injective (p.0, p.1 ++ e ∷ []) (k, es) d in
      let kk : p.0 ≡ k = ap (λ (z : ℕ × List (Entry C R)). z.0) q in
      let ee : p.1 ++ e ∷ [] ≡ es = ap (λ (z : ℕ × List (Entry C R)). z.1) q in
      (subst (λ n. by n (log ++ e ∷ []) ≡ es) kk (by-own p.0 log e same ∙ (ap (λ l. l ++ e ∷ []) h.0 ∙ ee)), (let b = h.1 in omega arith))
  own_kept log e made p ps same f once (suc j) k es d =
      let h = f (suc j) k es d in
      let ne : e.caller ≢ k = (λ q. let one : one_at p.0 p ≡ 1 = ap (λ b. cond b 1 0) (eq-eqb p.0 p.0 refl) in let more = counted ps j p.0 k es d (sym q ∙ same) in absurd (omega arith)) in
      (by-other k log e ne ∙ h.0, h.1)

  other_kept : (log : List (Entry C R)) (e : Entry C R) (made : ℕ) (kept : List (ℕ × List (Entry C R))) → total (one_at e.caller) kept ≡ 0 → Keeps log made kept → Keeps (log ++ e ∷ []) made kept
  other_kept log e made kept none_of f j k es d = let h = f j k es d in (by-other k log e (λ q. let more = counted kept j e.caller k es d (sym q) in absurd (omega arith)) ∙ h.0, h.1)

  numbers_stay : (e : Entry C R) (kept : List (ℕ × List (Entry C R))) → length (add_own e kept) ≡ length kept
  numbers_stay e [] = refl
  numbers_stay e (p ∷ ps) = refl

  times_stay : (e : Entry C R) (n : ℕ) (kept : List (ℕ × List (Entry C R))) → total (one_at n) (add_own e kept) ≡ total (one_at n) kept
  times_stay e n [] = refl
  times_stay e n (p ∷ ps) = refl

  pub flip_ticket : (v w : View C R) → SameTicket v w → SameTicket w v
  flip_ticket v w q = (q.0, q.2, q.1)

  pub flip_gives : (v w : View C R) → BothGive v w → BothGive w v
  flip_gives v w q = (q.1, q.0)

module _ {T C R : Type 0} (all : ℕ) (history : T → List (Entry C R)) (legal : List (Entry C R) → Type 0) (board : List (Entry C R) → ℕ) where
  abbrev pub Rule : State (Option T) (View C R) → Type 0
  Rule = Kept all history legal board

  -- where no view has the mark, the value is at home
  abbrev pub AtHome : List (Home (Option T)) → List (View C R) → List (Entry C R) → Type 0
  AtHome homes views log = ((i : ℕ) (v : View C R) → get_elem? views i ≡ some v → v.holds ≡ false) → (x : T) × (get_elem? homes 0 ≡ some (some (Some x))) × (history x ≡ log)

  -- one view changes, and the history stays
  changes : (s : State (Option T) (View C R)) (k : Rule s) (i : ℕ) (v w : View C R) (ws : List ℕ) (hs : List (Home (Option T))) (serving : ℕ)
      → get_elem? s.views i ≡ some v → w.kept ≡ v.kept → w.given ≡ v.given
      → length ws ≡ 3 → slice_index ws 0 ≡ board k.log
      → slice_index ws 1 ≡ (serving + total waits (set s.views i w)) % 2 ^ 64 → slice_index ws 2 ≡ serving % 2 ^ 64
      → Fits legal k.log serving (total waits (set s.views i w)) k.made w
      → Beside s.views i (λ u. InLine serving (total waits (set s.views i w)) u.ticket × (u.holds ≡ true → u.ticket ≡ Some serving))
      → Beside s.views i (λ u. SameTicket w u → ⊥)
      → AtHome hs (set s.views i w) k.log
      → Rule record { words = ws; homes = hs; views = set s.views i w }
  changes s k i v w ws hs serving at same_kept same_given wide shown next now fits others alone home = record {
    log = k.log;
    serving = serving;
    made = k.made;
    wide = wide;
    shown = shown;
    next = next;
    now = now;
    is_legal = k.is_legal;
    start = k.start;
    few = k.few;
    given_out = (let h = total-set numbers s.views i v w at in let g : numbers w ≡ numbers v = ap length same_kept in let o = k.given_out in omega arith);
    once = λ n. (let h = total-set (times n) s.views i v w at in let g : times n w ≡ times n v = ap (total (λ (p : ℕ × List (Entry C R)). if p.0 == n then 1 else 0)) same_kept in let o = k.once n in omega arith);
    each = λ j u e.
        ⊎_elim (λ p. subst (Fits legal k.log serving (total waits (set s.views i w)) k.made) p.1 fits)
        (λ p. let o = others j u p.0 p.1 in fits_line legal k.log k.serving (total waits s.views) serving (total waits (set s.views i w)) k.made u (k.each j u p.1) o.0 o.1)
        (at_set s.views i j w u e);
    apart = no_two-set SameTicket flip_ticket s.views i w k.apart alone;
    one_gives = no_two-set BothGive flip_gives s.views i w k.one_gives (λ j u ne e q. ne (sym (k.one_gives i j v u at e ((λ z. q.0 (same_given ∙ z)), q.1))));
    unmade = k.unmade;
    home = home;
  }

  -- few wait, since each that waits has a number
  few_wait : (s : State (Option T) (View C R)) (k : Rule s) → total waits s.views < 2 ^ 64
  few_wait s k = let h = total_le waits numbers s.views (λ i v e. (k.each i v e).has_number) in let g = k.given_out in let f = k.few in omega arith

  -- a view of which nothing changes that the place of the value depends on
  home_stays : (s : State (Option T) (View C R)) (k : Rule s) (i : ℕ) (v w : View C R) → get_elem? s.views i ≡ some v → v.holds ≡ false → AtHome s.homes (set s.views i w) k.log
  home_stays s k i v w at idle none_holds = k.home (λ j u e. elim (ℕ_discrete j i) [ yes p ↦ ap (λ (x : View C R). x.holds) (some-injective u v (sym e ∙ (ap (get_elem? s.views) p ∙ at))) ∙ idle | no p ↦ none_holds j u (set_else s.views i j w p ∙ e) ])

  -- a word that stays beside one that is written
  beside_word : (s : State (Option T) (View C R)) (k : Rule s) (i j n : ℕ) → j ≢ i → slice_index (slice_set s.words i n) j ≡ slice_index s.words j
  beside_word s k i j n ne = get_or-set_other s.words i j n 0 ne

  wide_word : (s : State (Option T) (View C R)) (k : Rule s) (i n : ℕ) → length (slice_set s.words i n) ≡ 3
  wide_word s k i n = length-set s.words i n ∙ k.wide

  -- the step that draws a ticket
  pub draws : (slots id : ℕ) (m : Me (Option T) (View C R)) → Idle m → 1 ≤ numbers m.0 → Allows Rule slots id m 1 (λ n. (n + 1) % 2 ^ 64) (draw m)
  draws slots id m idle numbered s k short at small =
      let t : ℕ = k.serving + total waits s.views in
      let w : View C R = with_ticket t m.0 in
      let f = k.each id m.0 at in
      let z : waits m.0 ≡ 0 = ap one_if_some idle.0 in
      let c : total waits (set s.views id w) ≡ total waits s.views + 1 = (let h = total-set waits s.views id m.0 w at in omega arith) in
      let found = slice_index s.words 1 in (
        w,
        keeps,
        tt,
        changes s k id m.0 w (slice_set s.words 1 ((found + 1) % 2 ^ 64)) s.homes k.serving at refl refl
            (wide_word s k 1 _) (beside_word s k 1 0 _ (λ e. omega arith) ∙ k.shown)
            (word_here s.words 1 _ k.wide (omega arith) ∙ (let h = k.next in omega arith))
            (beside_word s k 1 2 _ (λ e. omega arith) ∙ k.now)
            record { in_line = (omega arith, omega arith); has_number = numbered; served = λ h. absurd (true≢false (sym h ∙ idle.1)); is_legal = f.is_legal; seen = f.seen; heard = f.heard; kept = f.kept; gives = f.gives }
            (λ j u ne e. let g = k.each j u e in (line_longer k.serving _ _ u.ticket (omega arith) g.in_line, λ h. (g.served h).0))
            (λ j u ne e q. let p = line_at k.serving _ u.ticket q.0 (k.each j u e).in_line q.2 in let same : t ≡ q.0 = (let h = q.1 in cc) in absurd (omega arith))
            (home_stays s k id m.0 w at idle.1),
        (t, sym k.next, refl),
      )

  -- a step that leaves its word and the view as they are
  pub unmoved : (s : State (Option T) (View C R)) (i id : ℕ) (v : View C R) → Rule s → i < 3 → get_elem? s.views id ≡ some v → Rule record { words = slice_set s.words i (slice_index s.words i); homes = s.homes; views = slice_set s.views id v }
  unmoved s i id v k lt at =
      let p : slice_set s.words i (slice_index s.words i) ≡ s.words = (let h = k.wide in let below : i < length s.words = omega arith in set_again s.words i _ (at_index s.words i (slice_index s.words i) below (get_or_default s.words i 0 _ below))) in
      let q : slice_set s.views id v ≡ s.views = set_again s.views id v at in
      subst (λ (ws : List ℕ). Rule record { words = ws; homes = s.homes; views = slice_set s.views id v }) (sym p) (subst (λ (vs : List (View C R)). Rule record { words = s.words; homes = s.homes; views = vs }) (sym q) k)

  -- between the draw and the turn: a ticket, no mark, no slot
  abbrev pub IsWaiting : ℕ → Me (Option T) (View C R) → Type 0
  IsWaiting t m = (m.0.ticket ≡ Some t) × (m.0.holds ≡ false) × (m.1 ≡ [])

  -- the holder has the served ticket, so where its owner has not the mark, nobody has
  nobody_holds : (s : State (Option T) (View C R)) (k : Rule s) (id : ℕ) (v : View C R) → get_elem? s.views id ≡ some v → v.ticket ≡ Some k.serving → v.holds ≡ false → (j : ℕ) (u : View C R) → get_elem? s.views j ≡ some u → u.holds ≡ false
  nobody_holds s k id v at mine idle j u e = not_true u.holds (λ h. true≢false (sym h ∙ (ap (λ (x : View C R). x.holds) (same_view s.views id j v u (k.apart id j v u at e (k.serving, mine, ((k.each j u e).served h).0)) at e) ∙ idle)))

  looks_by : (slots id : ℕ) (m : Me (Option T) (View C R)) (t : ℕ) → IsWaiting t m → (s : State (Option T) (View C R)) (k : Rule s) → get_elem? s.views id ≡ some m.0
      → Dec (t % 2 ^ 64 ≡ slice_index s.words 2)
      → (w : View C R) × (a : Act (Option T)) × Valid s.homes m.1 a × Rule (stepped s 2 (slice_index s.words 2) id m.1 w a) × look history legal m (slice_index s.words 2) (w, carried_after m.1 a)
  looks_by slots id m t waiting s k at (no n) = (m.0, keeps, tt, unmoved s 2 id m.0 k (omega arith) at, λ u e. ((λ p. absurd (n (let same : t ≡ u = (let h = waiting.0 in cc) in ap (λ x. x % 2 ^ 64) same ∙ p))), λ _. refl))
  looks_by slots id m t waiting s k at (yes p) =
      let f = k.each id m.0 at in
      let l = line_at k.serving _ m.0.ticket t f.in_line waiting.0 in
      let few = few_wait s k in
      let now : t ≡ k.serving = sym (one_turn k.serving t (2 ^ 64) l.0 (omega arith) (sym (p ∙ k.now))) in
      let mine : m.0.ticket ≡ Some k.serving = waiting.0 ∙ ap Some now in
      let here = k.home (nobody_holds s k id m.0 at mine waiting.1) in
      let x = here.0 in
      let w : View C R = served (history x) m.0 in
      let c : total waits (set s.views id w) ≡ total waits s.views = (let h = total-set waits s.views id m.0 w at in omega arith) in (
        w,
        takes 0 (Some x),
        here.1,
        changes s k id m.0 w (slice_set s.words 2 (slice_index s.words 2)) (slice_set s.homes 0 none) k.serving at refl refl
            (wide_word s k 2 _) (beside_word s k 2 0 _ (λ e. omega arith) ∙ k.shown)
            (beside_word s k 2 1 _ (λ e. omega arith) ∙ (let h = k.next in omega arith))
            (word_here s.words 2 _ k.wide (omega arith) ∙ k.now)
            record { in_line = line_longer k.serving _ _ m.0.ticket (omega arith) f.in_line; has_number = f.has_number; served = λ _. (mine, here.2); is_legal = subst legal (sym here.2) k.is_legal; seen = subst (BeginsWith k.log) (sym here.2) (begins_all k.log); heard = f.heard; kept = f.kept; gives = f.gives }
            (λ j u ne e. let g = k.each j u e in (line_longer k.serving _ _ u.ticket (omega arith) g.in_line, λ h. (g.served h).0))
            (λ j u ne e q. ne (sym (k.apart id j m.0 u at e q)))
            (λ none_holds. absurd (true≢false (none_holds id w (set_here s.views id w (at_below s.views id m.0 at))))),
        λ u e. (λ _. (x, refl, subst (λ h. BeginsWith h m.0.seen) (sym here.2) f.seen, subst legal (sym here.2) k.is_legal, subst (λ h. Owns h m.0.kept) (sym here.2) (owns legal k.log k.serving _ k.made m.0 f)), λ n. absurd (n (let same : t ≡ u = (let h = waiting.0 in cc) in ap (λ y. y % 2 ^ 64) (sym same) ∙ p))),
      )

  pub looks : (slots id : ℕ) (m : Me (Option T) (View C R)) (t : ℕ) → IsWaiting t m → Allows Rule slots id m 2 (λ n. n) (look history legal m)
  looks slots id m t waiting s k short at small = looks_by slots id m t waiting s k at (ℕ_discrete (t % 2 ^ 64) (slice_index s.words 2))

  -- behind the view that passes on, the line is one shorter and begins one later
  passes_with : (slots id : ℕ) (v : View C R) (x : T) → v.holds ≡ true → history x ≡ v.seen → 1 ≤ slots → Allows Rule slots id (v, (0, Some x) ∷ []) 2 (λ n. (n + 1) % 2 ^ 64) (λ _. pass_on (v, (0, Some x) ∷ []))
  passes_with slots id v x holds whole room s k short at small =
      let f = k.each id v at in
      let mine = f.served holds in
      let w : View C R = leaves v in
      let c : total waits s.views ≡ total waits (set s.views id w) + 1 = (let h = total-set waits s.views id v w at in let one : waits v ≡ 1 = ap one_if_some mine.0 in omega arith) in (
        w,
        gives,
        tt,
        changes s k id v w (slice_set s.words 2 ((slice_index s.words 2 + 1) % 2 ^ 64)) (slice_set s.homes 0 (some (Some x))) (k.serving + 1) at refl refl
            (wide_word s k 2 _) (beside_word s k 2 0 _ (λ e. omega arith) ∙ k.shown)
            (beside_word s k 2 1 _ (λ e. omega arith) ∙ (let h = k.next in let same : k.serving + total waits s.views ≡ k.serving + 1 + total waits (set s.views id w) = omega arith in h ∙ ap (λ n. n % 2 ^ 64) same))
            (word_here s.words 2 _ k.wide (omega arith) ∙ (let h = k.now in omega arith))
            record { in_line = tt; has_number = omega arith; served = λ h. absurd (true≢false (sym h)); is_legal = f.is_legal; seen = f.seen; heard = f.heard; kept = f.kept; gives = f.gives }
            (λ j u ne e. let g = k.each j u e in let other : u.ticket ≡ Some k.serving → ⊥ = (λ p. ne (k.apart j id u v e at (k.serving, p, mine.0))) in (line_behind k.serving _ _ u.ticket c other g.in_line, λ h. absurd (other (g.served h).0)))
            (λ j u ne e q. absurd (let h = q.1 in cc))
            (λ none_holds. (x, set_here s.homes 0 (some (Some x)) (omega arith), whole ∙ mine.1)),
        refl,
      )

  pub passes : (slots id : ℕ) (m : Me (Option T) (View C R)) (x : T) → m.1 ≡ (0, Some x) ∷ [] → m.0.holds ≡ true → history x ≡ m.0.seen → 1 ≤ slots → Allows Rule slots id m 2 (λ n. (n + 1) % 2 ^ 64) (λ _. pass_on m)
  passes slots id m x e holds whole room = subst (λ l. Allows Rule slots id (m.0, l) 2 (λ n. (n + 1) % 2 ^ 64) (λ _. pass_on (m.0, l))) (sym e) (passes_with slots id m.0 x holds whole room)

  -- the step that reads the board
  pub sees : (slots id : ℕ) (m : Me (Option T) (View C R)) → Idle m → Allows Rule slots id m 0 (λ n. n) (read legal board m)
  sees slots id m idle s k short at small =
      let f = k.each id m.0 at in
      let w : View C R = reads k.log m.0 in
      let c : total waits (set s.views id w) ≡ total waits s.views = (let h = total-set waits s.views id m.0 w at in omega arith) in (
        w,
        keeps,
        tt,
        changes s k id m.0 w (slice_set s.words 0 (slice_index s.words 0)) s.homes k.serving at refl refl
            (wide_word s k 0 _) (word_here s.words 0 _ k.wide (omega arith) ∙ k.shown)
            (beside_word s k 0 1 _ (λ e. omega arith) ∙ (let h = k.next in omega arith))
            (beside_word s k 0 2 _ (λ e. omega arith) ∙ k.now)
            record { in_line = line_longer k.serving _ _ m.0.ticket (omega arith) f.in_line; has_number = f.has_number; served = λ h. ((f.served h).0, refl); is_legal = k.is_legal; seen = begins_all k.log; heard = begins_none k.log; kept = f.kept; gives = f.gives }
            (λ j u ne e. let g = k.each j u e in (line_longer k.serving _ _ u.ticket (omega arith) g.in_line, λ h. (g.served h).0))
            (λ j u ne e q. ne (sym (k.apart id j m.0 u at e q)))
            (home_stays s k id m.0 w at idle.1),
        (k.log, refl, k.shown, f.seen, f.heard, k.is_legal, owns legal k.log k.serving _ k.made m.0 f),
      )

  commits_keeps : (id number b : ℕ) (m : Me (Option T) (View C R)) (x : T) (e : Entry C R) → Settles history legal board number b m x e → (s : State (Option T) (View C R)) (k : Rule s) → get_elem? s.views id ≡ some m.0
      → Rule record { words = slice_set s.words 0 b; homes = s.homes; views = set s.views id (adds e m.0) }
  commits_keeps id number b m x e g s k at =
      let v = m.0 in
      let w : View C R = adds e v in
      let f = k.each id v at in
      let mine = f.served g.holds in
      let kept : v.kept ≡ (number, g.numbered.0) ∷ g.numbered.1 = g.numbered.2 in
      let whole : history x ≡ k.log ++ e ∷ [] = g.entry ∙ ap (λ l. l ++ e ∷ []) mine.1 in
      let c : total waits (set s.views id w) ≡ total waits s.views = (let h = total-set waits s.views id v w at in omega arith) in
      let caller_kept : 1 ≤ times e.caller v = subst (λ l. 1 ≤ total (one_at e.caller) l) (sym kept) (counted ((number, g.numbered.0) ∷ g.numbered.1) 0 e.caller number g.numbered.0 refl (sym g.own)) in
      let once_here : times e.caller v ≤ 1 = (let h = term_le (times e.caller) s.views id v at in let o = k.once e.caller in omega arith) in
      let below : e.caller < k.made = (let h = (f.kept 0 number g.numbered.0 (ap (λ l. get_elem? l 0) kept)).1 in let o = g.own in omega arith) in
      record {
        log = k.log ++ e ∷ [];
        serving = k.serving;
        made = k.made;
        wide = wide_word s k 0 _;
        shown = word_here s.words 0 _ k.wide (omega arith) ∙ (g.shown ∙ ap board whole);
        next = beside_word s k 0 1 _ (λ p. omega arith) ∙ (let h = k.next in omega arith);
        now = beside_word s k 0 2 _ (λ p. omega arith) ∙ k.now;
        is_legal = subst legal whole g.is_legal;
        start = k.start;
        few = k.few;
        given_out = (let h = total-set numbers s.views id v w at in let n = numbers_stay e v.kept in let o = k.given_out in omega arith);
        once = λ n. (let h = total-set (times n) s.views id v w at in let q = times_stay e n v.kept in let o = k.once n in omega arith);
        each = λ j u d.
            ⊎_elim
            (λ p. subst (Fits legal (k.log ++ e ∷ []) k.serving (total waits (set s.views id w)) k.made) p.1
            record {
              in_line = line_longer k.serving _ _ v.ticket (omega arith) f.in_line;
              has_number = (let h = f.has_number in let n = numbers_stay e v.kept in omega arith);
              served = λ _. (mine.0, ap (λ l. l ++ e ∷ []) mine.1);
              is_legal = subst legal g.entry g.is_legal;
              seen = subst (λ l. BeginsWith (k.log ++ e ∷ []) (l ++ e ∷ [])) (sym mine.1) (begins_all (k.log ++ e ∷ []));
              heard = begins_more k.log v.heard (e ∷ []) f.heard;
              kept = subst (λ l. Keeps (k.log ++ e ∷ []) k.made (add_own e l)) (sym kept)
                  (own_kept k.log e k.made (number, g.numbered.0) g.numbered.1 g.own (subst (Keeps k.log k.made) kept f.kept) (subst (λ l. total (one_at number) l ≤ 1) kept (subst (λ n. times n v ≤ 1) g.own once_here)));
              gives = f.gives;
            })
            (λ p.
            let h = k.each j u p.1 in
            let alone : u.holds ≡ true → ⊥ = (λ q. p.0 (k.apart j id u v p.1 at (k.serving, (h.served q).0, mine.0))) in
            let none_of : times e.caller u ≡ 0 = (let two = terms_le (times e.caller) s.views j id u v p.0 p.1 at in let o = k.once e.caller in omega arith) in
            record {
              in_line = line_longer k.serving _ _ u.ticket (omega arith) h.in_line;
              has_number = h.has_number;
              served = λ q. absurd (alone q);
              is_legal = h.is_legal;
              seen = begins_more k.log u.seen (e ∷ []) h.seen;
              heard = begins_more k.log u.heard (e ∷ []) h.heard;
              kept = other_kept k.log e k.made u.kept none_of h.kept;
              gives = h.gives;
            })
            (at_set s.views id j w u d);
        apart = no_two-set SameTicket flip_ticket s.views id w k.apart (λ j u ne d q. ne (sym (k.apart id j v u at d q)));
        one_gives = no_two-set BothGive flip_gives s.views id w k.one_gives (λ j u ne d q. ne (sym (k.one_gives id j v u at d q)));
        unmade = λ n h. by-other n k.log e (λ p. omega arith) ∙ k.unmade n h;
        home = λ none_holds. absurd (true≢false (sym g.holds ∙ none_holds id w (set_here s.views id w (at_below s.views id v at))));
      }

  -- the step that puts the longer history's board up
  pub commits : (slots id number b : ℕ) (m : Me (Option T) (View C R)) (x : T) (e : Entry C R) → Settles history legal board number b m x e → Allows Rule slots id m 0 (λ _. b) (λ _. commit history m)
  commits slots id number b m x e g s k short at small = (
    adds e m.0,
    keeps,
    tt,
    commits_keeps id number b m x e g s k at,
    λ y d p q. let same : x ≡ y = (same_slot m.1 x y g.with_it p) in let last = same_from_push m.0.seen m.0.seen e d (sym g.entry ∙ (ap history same ∙ q)) in ap (λ (z : Entry C R). (adds z m.0, m.1)) last.1,
  )
