-- The first of all is the earliest of the three first ones.
use Rattle.std.proofs.Common.{◌≡◌, inl, inr, ℕ, ◌↔◌, Bool, true, false, Option, None, Some, IfSome, IsNone, List, [], ◌∷◌, All, AllPairs, cond, slice_get, refl, sym, ap, arith}
use Rattle.std.specs.Prelude.{nat_lt}
use Rattle.std.proofs.lemmas.Bool.Decides.{nat_tests}
use Rattle.std.proofs.lemmas.List.Elements.{All-head}
use Rattle.gcc_units.specs.Priority.{rank_of}
use Rattle.pace_queues.specs.declared.ticket.Ticket.{Ticket}
use Rattle.pace_queues.specs.Waiting.{CameBefore, earlier}
use Rattle.pace_queues.proofs.Waiting.{AllPairs-head}
use Rattle.pace_queues.specs.Rings.{of_rank}
use Rattle.pace_queues.proofs.Rings.{OneOf, ranks, All-of_rank}

later-first : (t u : Ticket) → CameBefore t u → nat_lt u.index t.index ≡ false
later-first t u h = grind (arith, nat_tests)

earlier-first : (t u : Ticket) → CameBefore t u → nat_lt t.index u.index ≡ true
earlier-first t u h = grind (arith, nat_tests)

-- one that came before the other is the earlier one, on either side
earlier-left : (t : Ticket) (o : Option Ticket) → IfSome o (CameBefore t) → earlier (Some t) o ≡ Some t
earlier-left t None h = refl
earlier-left t (Some u) h = ap (λ (b : Bool). cond b (Some u) (Some t)) (later-first t u h)

earlier-right : (t : Ticket) (o : Option Ticket) → IfSome o (CameBefore t) → earlier o (Some t) ≡ Some t
earlier-right t None h = refl
earlier-right t (Some u) h = ap (λ (b : Bool). cond b (Some t) (Some u)) (earlier-first t u h)

-- the first of those that came later came later
first-later : (t : Ticket) (ts : List Ticket) → All (CameBefore t) ts → IfSome (slice_get ts 0) (CameBefore t)
first-later t [] all = tt
first-later t (u ∷ us) all = All-head (CameBefore t) u us all

pub first-is : (ts : List Ticket) → AllPairs CameBefore ts
    → slice_get ts 0 ≡ earlier (earlier (slice_get (of_rank 0 ts) 0) (slice_get (of_rank 1 ts) 0)) (slice_get (of_rank 2 ts) 0)
first-is [] rising = refl
first-is (t ∷ ts) rising = by-rank (ranks t.class)
  where
    later : (rank : ℕ) → IfSome (slice_get (of_rank rank ts) 0) (CameBefore t)
    later rank = first-later t (of_rank rank ts) (All-of_rank (CameBefore t) rank ts (AllPairs-head t ts rising))

    by-rank : OneOf (rank_of t.class)
        → Some t ≡ earlier (earlier (slice_get (of_rank 0 (t ∷ ts)) 0) (slice_get (of_rank 1 (t ∷ ts)) 0)) (slice_get (of_rank 2 (t ∷ ts)) 0)
    by-rank (inl e) = rw (e, earlier-left t (slice_get (of_rank 1 ts) 0) (later 1)) (sym (earlier-left t (slice_get (of_rank 2 ts) 0) (later 2)))
    by-rank (inr (inl e)) = rw (e, earlier-right t (slice_get (of_rank 0 ts) 0) (later 0)) (sym (earlier-left t (slice_get (of_rank 2 ts) 0) (later 2)))
    by-rank (inr (inr e)) =
        rw e (sym (earlier-right t (earlier (slice_get (of_rank 0 ts) 0) (slice_get (of_rank 1 ts) 0)) (both (slice_get (of_rank 0 ts) 0) (slice_get (of_rank 1 ts) 0) (later 0) (later 1))))
      where
        pick : (b : Bool) (u v : Ticket) → CameBefore t u → CameBefore t v → IfSome (cond b (Some v) (Some u)) (CameBefore t)
        pick true u v h k = k
        pick false u v h k = h

        both : (a b : Option Ticket) → IfSome a (CameBefore t) → IfSome b (CameBefore t) → IfSome (earlier a b) (CameBefore t)
        both None b h k = k
        both (Some u) None h k = h
        both (Some u) (Some v) h k = pick (nat_lt v.index u.index) u v h k

pub first-is_none : (ts : List Ticket) → IsNone (slice_get ts 0) ↔ (ts ≡ [])
first-is_none [] = (λ h. refl, λ h. refl)
first-is_none (t ∷ ts) = (λ h. absurd (let f : true ≡ false = h in cc), λ e. absurd (let f : t ∷ ts ≡ [] = e in cc))
