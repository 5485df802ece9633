-- The rings as one list: what waits is what they hold by index, and its next one is the first of the
-- first ring that is not empty.
use Rattle.std.proofs.Common.{◌≡◌, ◌⊎◌, inl, inr, ℕ, ◌+◌, ◌<◌, ◌≤◌, Bool, true, false, Option, None, Some, List, [], ◌∷◌, ◌++◌, length, All, AllPairs, cond, fold, refl, ap, arith, slice_get, append_assoc}
use Rattle.std.specs.Prelude.{nat_lt}
use Rattle.std.proofs.lemmas.Bool.Decides.{nat_tests}
use Rattle.std.proofs.lemmas.List.Elements.{All-nil, All-cons, All-head, All-tail, All-append, All-filter}
use Rattle.std.specs.Option.{option_or}
use Rattle.gcc_units.specs.declared.class.Class.{Class}
use Rattle.gcc_units.specs.declared.class.Class.TheVariants.{Audio, Retransmission, Video, Fec}
use Rattle.gcc_units.specs.Priority.{rank_of}
use Rattle.pace_queues.specs.declared.ticket.Ticket.{Ticket}
use Rattle.pace_queues.specs.Waiting.{CameBefore, goes_before, better, next}
use Rattle.pace_queues.proofs.Waiting.{AllPairs-head, AllPairs-tail}
use Rattle.pace_queues.specs.Rings.{has_rank, of_rank, put_in, by_index, in_order}

put-cases : (P : Ticket → Type 0) (ts us : List Ticket) (b : Bool) → All P ts → All P us → All P (cond b ts us)
put-cases P ts us true p q = p
put-cases P ts us false p q = q

All-put_in : (P : Ticket → Type 0) (t : Ticket) (ts : List Ticket) → P t → All P ts → All P (put_in t ts)
All-put_in P t [] p all = All-cons P t [] p all
All-put_in P t (u ∷ us) p all =
    put-cases P (t ∷ u ∷ us) (u ∷ put_in t us) (nat_lt t.index u.index) (All-cons P t (u ∷ us) p all)
    (All-cons P u (put_in t us) (All-head P u us all) (All-put_in P t us p (All-tail P u us all)))

All-by_index : (P : Ticket → Type 0) (ts : List Ticket) → All P ts → All P (by_index ts)
All-by_index P [] all = all
All-by_index P (t ∷ ts) all = All-put_in P t (by_index ts) (All-head P t ts all) (All-by_index P ts (All-tail P t ts all))

test-true : (t u : Ticket) → CameBefore t u → nat_lt t.index u.index ≡ true
test-true t u h = grind (arith, nat_tests)

test-false : (t u : Ticket) → CameBefore u t → nat_lt t.index u.index ≡ false
test-false t u h = grind (arith, nat_tests)

-- before all that came later
put_in-first : (t : Ticket) (ts : List Ticket) → All (CameBefore t) ts → put_in t ts ≡ t ∷ ts
put_in-first t [] all = refl
put_in-first t (u ∷ us) all = rw (test-true t u (All-head (CameBefore t) u us all)) refl

-- after one that came before
put_in-after : (t u : Ticket) (us : List Ticket) → CameBefore u t → put_in t (u ∷ us) ≡ u ∷ put_in t us
put_in-after t u us h = rw (test-false t u h) refl

-- the earliest is the first, wherever it stands
by_index-first : (t : Ticket) (front back : List Ticket) → All (CameBefore t) front → All (CameBefore t) back
    → by_index (front ++ t ∷ back) ≡ t ∷ by_index (front ++ back)
by_index-first t [] back before after = put_in-first t (by_index back) (All-by_index (CameBefore t) back after)
by_index-first t (u ∷ us) back before after =
    rw (by_index-first t us back (All-tail (CameBefore t) u us before) after)
    (put_in-after u t (by_index (us ++ back)) (All-head (CameBefore t) u us before))

pub All-of_rank : (P : Ticket → Type 0) (rank : ℕ) (ts : List Ticket) → All P ts → All P (of_rank rank ts)
All-of_rank P rank ts all = All-filter (has_rank rank) P ts all

abbrev parts : List Ticket → List Ticket
parts ts = of_rank 0 ts ++ (of_rank 1 ts ++ of_rank 2 ts)

abbrev pub OneOf : ℕ → Type 0
OneOf rank = (rank ≡ 0) ⊎ ((rank ≡ 1) ⊎ (rank ≡ 2))

pub ranks : (class : Class) → OneOf (rank_of class)
ranks Audio = inl refl
ranks Retransmission = inr (inl refl)
ranks Video = inr (inr refl)
ranks Fec = inr (inr refl)

parts-first : (t : Ticket) (ts : List Ticket) → OneOf (rank_of t.class) → All (CameBefore t) ts
    → by_index (parts (t ∷ ts)) ≡ t ∷ by_index (parts ts)
parts-first t ts (inl is) later =
    rw is (by_index-first t [] (parts ts) (All-nil (CameBefore t)) (All-append (CameBefore t) (of_rank 0 ts) (of_rank 1 ts ++ of_rank 2 ts)
    (All-of_rank (CameBefore t) 0 ts later) (All-append (CameBefore t) (of_rank 1 ts) (of_rank 2 ts) (All-of_rank (CameBefore t) 1 ts later) (All-of_rank (CameBefore t) 2 ts later))))
parts-first t ts (inr (inl is)) later =
    rw is (by_index-first t (of_rank 0 ts) (of_rank 1 ts ++ of_rank 2 ts)
    (All-of_rank (CameBefore t) 0 ts later) (All-append (CameBefore t) (of_rank 1 ts) (of_rank 2 ts) (All-of_rank (CameBefore t) 1 ts later) (All-of_rank (CameBefore t) 2 ts later)))
parts-first t ts (inr (inr is)) later =
    rw (is, ← append_assoc (of_rank 0 ts) (of_rank 1 ts) (t ∷ of_rank 2 ts), ← append_assoc (of_rank 0 ts) (of_rank 1 ts) (of_rank 2 ts))
    (by_index-first t (of_rank 0 ts ++ of_rank 1 ts) (of_rank 2 ts)
    (All-append (CameBefore t) (of_rank 0 ts) (of_rank 1 ts) (All-of_rank (CameBefore t) 0 ts later) (All-of_rank (CameBefore t) 1 ts later))
    (All-of_rank (CameBefore t) 2 ts later))

-- a list whose indices rise is its parts by rank, sorted by index
pub in_order-is : (ts : List Ticket) → AllPairs CameBefore ts → in_order (of_rank 0 ts) (of_rank 1 ts) (of_rank 2 ts) ≡ ts
unfolding in_order
in_order-is [] rising = refl
in_order-is (t ∷ ts) rising =
    rw (parts-first t ts (ranks t.class) (AllPairs-head t ts rising))
    (ap (λ (us : List Ticket). t ∷ us) (in_order-is ts (AllPairs-tail t ts rising)))

pub length-parts : (ts : List Ticket) → length (of_rank 0 ts) + length (of_rank 1 ts) + length (of_rank 2 ts) ≡ length ts
length-parts [] = refl
length-parts (t ∷ ts) = one-more (ranks t.class) (length-parts ts)
  where
    one-more : OneOf (rank_of t.class) → length (of_rank 0 ts) + length (of_rank 1 ts) + length (of_rank 2 ts) ≡ length ts
        → length (of_rank 0 (t ∷ ts)) + length (of_rank 1 (t ∷ ts)) + length (of_rank 2 (t ∷ ts)) ≡ length (t ∷ ts)
    one-more (inl is) h = rw is (omega arith)
    one-more (inr (inl is)) h = rw is (omega arith)
    one-more (inr (inr is)) h = rw is (omega arith)

stays : (t u : Ticket) → rank_of t.class ≤ rank_of u.class → CameBefore t u → goes_before u t ≡ false
stays t u h before = grind (arith, nat_tests)

gives-way : (t u : Ticket) → rank_of u.class < rank_of t.class → goes_before u t ≡ true
gives-way t u h = grind (arith, nat_tests)

fold-first : (t : Ticket) (ts : List Ticket) → rank_of t.class ≡ 0 → All (CameBefore t) ts → fold better (Some t) ts ≡ Some t
fold-first t [] is later = refl
fold-first t (u ∷ us) is later =
    rw (stays t u (omega arith) (All-head (CameBefore t) u us later)) (fold-first t us is (All-tail (CameBefore t) u us later))

fold-second : (t : Ticket) (ts : List Ticket) → rank_of t.class ≡ 1 → All (CameBefore t) ts → AllPairs CameBefore ts
    → fold better (Some t) ts ≡ option_or (slice_get (of_rank 0 ts) 0) (Some t)
fold-second t [] is later rising = refl
fold-second t (u ∷ us) is later rising =
    by-rank (ranks u.class) (fold-second t us is (All-tail (CameBefore t) u us later) (AllPairs-tail u us rising))
  where
    before : CameBefore t u
    before = All-head (CameBefore t) u us later

    by-rank : OneOf (rank_of u.class) → fold better (Some t) us ≡ option_or (slice_get (of_rank 0 us) 0) (Some t)
        → fold better (Some t) (u ∷ us) ≡ option_or (slice_get (of_rank 0 (u ∷ us)) 0) (Some t)
    by-rank (inl e) h = rw (gives-way t u (omega arith), e) (fold-first u us e (AllPairs-head u us rising))
    by-rank (inr (inl e)) h = rw (stays t u (omega arith) before, e) h
    by-rank (inr (inr e)) h = rw (stays t u (omega arith) before, e) h

fold-third : (t : Ticket) (ts : List Ticket) → rank_of t.class ≡ 2 → All (CameBefore t) ts → AllPairs CameBefore ts
    → fold better (Some t) ts ≡ option_or (slice_get (of_rank 0 ts) 0) (option_or (slice_get (of_rank 1 ts) 0) (Some t))
fold-third t [] is later rising = refl
fold-third t (u ∷ us) is later rising =
    by-rank (ranks u.class) (fold-third t us is (All-tail (CameBefore t) u us later) (AllPairs-tail u us rising))
  where
    before : CameBefore t u
    before = All-head (CameBefore t) u us later

    by-rank : OneOf (rank_of u.class)
        → fold better (Some t) us ≡ option_or (slice_get (of_rank 0 us) 0) (option_or (slice_get (of_rank 1 us) 0) (Some t))
        → fold better (Some t) (u ∷ us) ≡ option_or (slice_get (of_rank 0 (u ∷ us)) 0) (option_or (slice_get (of_rank 1 (u ∷ us)) 0) (Some t))
    by-rank (inl e) h = rw (gives-way t u (omega arith), e) (fold-first u us e (AllPairs-head u us rising))
    by-rank (inr (inl e)) h =
        rw (gives-way t u (omega arith), e) (fold-second u us e (AllPairs-head u us rising) (AllPairs-tail u us rising))
    by-rank (inr (inr e)) h = rw (stays t u (omega arith) before, e) h

or-assoc : (a b c : Option Ticket) → option_or (option_or a b) c ≡ option_or a (option_or b c)
or-assoc None b c = refl
or-assoc (Some t) b c = refl

or-some : (a : Option Ticket) (t : Ticket) (c : Option Ticket) → option_or (option_or a (Some t)) c ≡ option_or a (Some t)
or-some None t c = refl
or-some (Some u) t c = refl

-- the next one is the first of the first part that is not empty
pub next-is_first : (ts : List Ticket) → AllPairs CameBefore ts
    → next ts ≡ option_or (option_or (slice_get (of_rank 0 ts) 0) (slice_get (of_rank 1 ts) 0)) (slice_get (of_rank 2 ts) 0)
next-is_first [] rising = refl
next-is_first (t ∷ ts) rising = by-rank (ranks t.class)
  where
    by-rank : OneOf (rank_of t.class) → next (t ∷ ts)
        ≡ option_or (option_or (slice_get (of_rank 0 (t ∷ ts)) 0) (slice_get (of_rank 1 (t ∷ ts)) 0)) (slice_get (of_rank 2 (t ∷ ts)) 0)
    by-rank (inl e) = rw e (fold-first t ts e (AllPairs-head t ts rising))
    by-rank (inr (inl e)) =
        rw (e, or-some (slice_get (of_rank 0 ts) 0) t (slice_get (of_rank 2 ts) 0))
        (fold-second t ts e (AllPairs-head t ts rising) (AllPairs-tail t ts rising))
    by-rank (inr (inr e)) =
        rw (e, or-assoc (slice_get (of_rank 0 ts) 0) (slice_get (of_rank 1 ts) 0) (Some t))
        (fold-third t ts e (AllPairs-head t ts rising) (AllPairs-tail t ts rising))
