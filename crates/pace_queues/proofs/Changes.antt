-- The rings after a push and after a pop.
use Rattle.std.proofs.Common.{◌≡◌, ◌⊎◌, inl, inr, ℕ, ◌+◌, ◌-◌, ◌<◌, ◌≤◌, ◌==◌, ◌^◌, Bool, true, false, not, Some, List, [], ◌∷◌, ◌++◌, length, All, AllPairs, cond, refl, sym, ◌∙◌, ap, arith, drop, length-append, sum_by}
use Rattle.std.proofs.lemmas.Bool.Decides.{nat_tests}
use Rattle.std.proofs.lemmas.List.{append-nil}
use Rattle.std.proofs.lemmas.List.Elements.{All-nil, All-cons, All-head, All-tail, All-push, All-weaker, All-contains, Contains-append_right, filter-append}
use Rattle.std.proofs.lemmas.List.Kept.{AllPairs-cons, AllPairs-filter}
use Rattle.std.proofs.lemmas.List.Sums.{sum_by-append, sum_by_push, sum_by-cons, sum_by-le}
use Rattle.circular_buffer.specs.Buffer.{Buffer, buffer, keep_last}
use Rattle.gcc_units.specs.declared.class.Class.{Class}
use Rattle.gcc_units.specs.declared.class.Class.TheVariants.{Video, Fec}
use Rattle.gcc_units.specs.Priority.{rank_of}
use Rattle.gcc_units.specs.declared.limits.TheConstants.{MOST_WAITING}
use Rattle.pace_queues.specs.declared.queues.Queues.TheInside.{Inside}
use Rattle.pace_queues.specs.declared.ticket.Ticket.{Ticket}
use Rattle.pace_queues.specs.Waiting.{CameBefore, HasIndexBelow, GoesNoLater, IsLeast, LosesJust, next, rest, without, size_of, accepted_at_of}
use Rattle.pace_queues.proofs.Waiting.{AllPairs-head, AllPairs-tail, All-without, without-one}
use Rattle.pace_queues.specs.Rings.{has_rank, of_rank, in_order, Fits, AreRings}
use Rattle.pace_queues.proofs.Rings.{in_order-is}

-- a ring after a ticket has been put at the end of the ring of its rank
abbrev pub after_push : ℕ → Ticket → Buffer Ticket → Buffer Ticket
after_push rank t b = cond (has_rank rank t) (buffer (keep_last b.capacity (b.items ++ t ∷ [])) b.capacity) b

-- a ring after the ring of a ticket's rank has lost its first
abbrev pub after_pop : ℕ → Ticket → Buffer Ticket → Buffer Ticket
after_pop rank t b = cond (has_rank rank t) (buffer (drop 1 b.items) b.capacity) b

keep_last-all : (n : ℕ) (ts : List Ticket) → length ts ≤ n → keep_last n ts ≡ ts
keep_last-all n ts h = let none : length ts - n ≡ 0 = omega arith in rw none refl

filter-shorter : (rank : ℕ) (ts : List Ticket) → length (of_rank rank ts) ≤ length ts
filter-shorter rank [] = omega arith
filter-shorter rank (t ∷ ts) = cons-shorter (has_rank rank t) (of_rank rank ts) (filter-shorter rank ts)
  where
    cons-shorter : (b : Bool) (us : List Ticket) → length us ≤ length ts → length (cond b (t ∷ us) us) ≤ length (t ∷ ts)
    cons-shorter true us h = omega arith
    cons-shorter false us h = omega arith

ring-pushed : (rank : ℕ) (t : Ticket) (ts : List Ticket) → length ts < MOST_WAITING
    → after_push rank t (buffer (of_rank rank ts) MOST_WAITING) ≡ buffer (of_rank rank (ts ++ t ∷ [])) MOST_WAITING
ring-pushed rank t ts room = rw (filter-append (has_rank rank) ts (t ∷ [])) (by-test (has_rank rank t) (of_rank rank ts) (filter-shorter rank ts))
  where
    by-test : (b : Bool) (us : List Ticket) → length us ≤ length ts
        → cond b (buffer (keep_last MOST_WAITING (us ++ t ∷ [])) MOST_WAITING) (buffer us MOST_WAITING) ≡ buffer (us ++ cond b (t ∷ []) []) MOST_WAITING
    by-test true us h = rw (keep_last-all MOST_WAITING (us ++ t ∷ []) (omega (arith, length-append us (t ∷ [])))) refl
    by-test false us h = rw (append-nil us) refl

AllPairs-push : (t : Ticket) (ts : List Ticket) → AllPairs CameBefore ts → All (HasIndexBelow t.index) ts → AllPairs CameBefore (ts ++ t ∷ [])
AllPairs-push t [] rising below = AllPairs-cons CameBefore t [] (All-nil (CameBefore t)) rising
AllPairs-push t (u ∷ us) rising below =
    AllPairs-cons CameBefore u (us ++ t ∷ [])
    (All-push (CameBefore u) us t (AllPairs-head u us rising) (All-head (HasIndexBelow t.index) u us below))
    (AllPairs-push t us (AllPairs-tail u us rising) (All-tail (HasIndexBelow t.index) u us below))

before-last : (t : Ticket) (front back : List Ticket) → AllPairs CameBefore (front ++ t ∷ back) → All (λ (u : Ticket). CameBefore u t) front
before-last t [] back rising = All-nil (λ (u : Ticket). CameBefore u t)
before-last t (u ∷ us) back rising =
    All-cons (λ (v : Ticket). CameBefore v t) u us
    (All-contains (CameBefore u) (us ++ t ∷ back) t (AllPairs-head u (us ++ t ∷ back) rising)
    (Contains-append_right us (t ∷ back) t (0, omega arith, refl)))
    (before-last t us back (AllPairs-tail u (us ++ t ∷ back) rising))

other-rank : (t u : Ticket) → GoesNoLater t u → CameBefore u t → has_rank (rank_of t.class) u ≡ false
other-rank t u (inl h) before = grind (arith, nat_tests)
other-rank t u (inr h) before = absurd (omega arith)

-- what came before the next one is of other ranks
no-earlier : (t : Ticket) (front back : List Ticket) → All (GoesNoLater t) (front ++ back) → All (λ (u : Ticket). CameBefore u t) front
    → of_rank (rank_of t.class) front ≡ []
no-earlier t [] back least before = refl
no-earlier t (u ∷ us) back least before =
    rw (other-rank t u (All-head (GoesNoLater t) u (us ++ back) least) (All-head (λ (v : Ticket). CameBefore v t) u us before))
    (no-earlier t us back (All-tail (GoesNoLater t) u (us ++ back) least) (All-tail (λ (v : Ticket). CameBefore v t) u us before))

ring-popped : (rank : ℕ) (t : Ticket) (front back : List Ticket) → (rank ≡ rank_of t.class → of_rank rank front ≡ [])
    → after_pop rank t (buffer (of_rank rank (front ++ t ∷ back)) MOST_WAITING) ≡ buffer (of_rank rank (front ++ back)) MOST_WAITING
ring-popped rank t front back none =
    rw (filter-append (has_rank rank) front (t ∷ back), filter-append (has_rank rank) front back)
    (by-test (has_rank rank t) refl)
  where
    by-test : (b : Bool) → has_rank rank t ≡ b
        → cond b (buffer (drop 1 (of_rank rank front ++ cond b (t ∷ of_rank rank back) (of_rank rank back))) MOST_WAITING)
        (buffer (of_rank rank front ++ cond b (t ∷ of_rank rank back) (of_rank rank back)) MOST_WAITING)
        ≡ buffer (of_rank rank front ++ of_rank rank back) MOST_WAITING
    by-test true e = let same : rank ≡ rank_of t.class = grind (arith, nat_tests) in rw (none same) refl
    by-test false e = refl

-- what a push makes of the rings and sums
pub record Pushed (t : Ticket) (old new : Inside) : Type 0 where
  pub first : new.audio ≡ after_push 0 t old.audio
  pub second : new.retransmissions ≡ after_push 1 t old.retransmissions
  pub third : new.video ≡ after_push 2 t old.video
  pub bytes : new.bytes ≡ old.bytes + t.size
  pub accepted : new.accepted_sum ≡ old.accepted_sum + t.accepted_at

-- what a pop makes of them
pub record Popped (t : Ticket) (old new : Inside) : Type 0 where
  pub first : new.audio ≡ after_pop 0 t old.audio
  pub second : new.retransmissions ≡ after_pop 1 t old.retransmissions
  pub third : new.video ≡ after_pop 2 t old.video
  pub bytes : new.bytes ≡ old.bytes - t.size
  pub accepted : new.accepted_sum ≡ old.accepted_sum - t.accepted_at

abbrev pub Kept : Inside → Type 0
Kept q = AreRings q.audio q.retransmissions q.video q.bytes q.accepted_sum

abbrev pub list_of : Inside → List Ticket
list_of q = in_order q.audio.items q.retransmissions.items q.video.items

pub list-is : (q : Inside) (r : Kept q) → list_of q ≡ r.waiting
list-is q r = rw (r.first_is, r.second_is, r.third_is) (in_order-is r.waiting r.rising)

module _ (t : Ticket) (old : Inside) (value : List Ticket) (r : Kept old) (view : list_of old ≡ value)
    (below : All (HasIndexBelow t.index) value) (room : length value < MOST_WAITING) (fits : Fits t) where
  same : value ≡ r.waiting
  same = sym view ∙ list-is old r

  below-kept : All (HasIndexBelow t.index) r.waiting
  below-kept = rw same at below

  room-kept : length r.waiting < MOST_WAITING
  room-kept = rw same at room

  pub Kept-push : (new : Inside) → Pushed t old new → (k : Kept new) × (k.waiting ≡ value ++ t ∷ [])
  Kept-push new p = (
    record {
      waiting = r.waiting ++ t ∷ [];
      rising = AllPairs-push t r.waiting r.rising below-kept;
      few = omega (arith, room-kept, length-append r.waiting (t ∷ []));
      fits = All-push Fits r.waiting t r.fits fits;
      first_is = rw (p.first, r.first_is) (ring-pushed 0 t r.waiting room-kept);
      second_is = rw (p.second, r.second_is) (ring-pushed 1 t r.waiting room-kept);
      third_is = rw (p.third, r.third_is) (ring-pushed 2 t r.waiting room-kept);
      bytes_is = rw (p.bytes, r.bytes_is) (sym (sum_by_push size_of r.waiting t));
      accepted_is = rw (p.accepted, r.accepted_is) (sym (sum_by_push accepted_at_of r.waiting t));
    },
    ap (λ (ts : List Ticket). ts ++ t ∷ []) (sym same),
  )

  pub list-push : (new : Inside) → Pushed t old new → list_of new ≡ value ++ t ∷ []
  list-push new p = let k : (k : Kept new) × (k.waiting ≡ value ++ t ∷ []) = Kept-push new p in list-is new k.0 ∙ k.1

  pub bytes-fit : old.bytes + t.size < 2 ^ 64
  bytes-fit =
      omega (
        arith,
        room-kept,
        r.bytes_is,
        fits.size,
        sum_by-le size_of (2 ^ 32) r.waiting
            (All-weaker Fits (λ u. u.size ≤ 2 ^ 32) (λ u f. omega (arith, f.size)) r.waiting r.fits),
      )

  pub accepted-fit : old.accepted_sum + t.accepted_at < 2 ^ 128
  accepted-fit =
      omega (
        arith,
        room-kept,
        r.accepted_is,
        fits.accepted_at,
        sum_by-le accepted_at_of (2 ^ 64) r.waiting
            (All-weaker Fits (λ u. u.accepted_at ≤ 2 ^ 64) (λ u f. omega (arith, f.accepted_at)) r.waiting r.fits),
      )

ring-lost : (rank : ℕ) (t : Ticket) (ts us : List Ticket) → (h : LosesJust t ts us) → (rank ≡ rank_of t.class → of_rank rank h.front ≡ [])
    → after_pop rank t (buffer (of_rank rank ts) MOST_WAITING) ≡ buffer (of_rank rank us) MOST_WAITING
ring-lost rank t ts us h none = rw (h.was, h.now) (ring-popped rank t h.front h.back none)

length-lost : (t : Ticket) (ts us : List Ticket) → LosesJust t ts us → length us + 1 ≡ length ts
length-lost t ts us h = rw (h.was, h.now) (omega (arith, length-append h.front (t ∷ h.back), length-append h.front h.back))

-- the sums are no less than what one ticket adds
pub sums-hold : (f : Ticket → ℕ) (t : Ticket) (ts us : List Ticket) → LosesJust t ts us → sum_by f us + f t ≡ sum_by f ts
sums-hold f t ts us h =
    rw (h.was, h.now)
    (omega (arith, sum_by-append f h.front (t ∷ h.back), sum_by-append f h.front h.back, sum_by-cons f t h.back))

module _ (t : Ticket) (old : Inside) (value : List Ticket) (r : Kept old) (view : list_of old ≡ value) (least : IsLeast t value) where
  same-list : value ≡ r.waiting
  same-list = sym view ∙ list-is old r

  least-kept : IsLeast t r.waiting
  least-kept = rw same-list at least

  loses : LosesJust t r.waiting (without t.index r.waiting)
  loses = without-one t r.waiting r.rising least-kept.waits

  pub bytes-hold : sum_by size_of (without t.index r.waiting) + t.size ≡ old.bytes
  bytes-hold = rw r.bytes_is (sums-hold size_of t r.waiting (without t.index r.waiting) loses)

  pub accepted-hold : sum_by accepted_at_of (without t.index r.waiting) + t.accepted_at ≡ old.accepted_sum
  accepted-hold = rw r.accepted_is (sums-hold accepted_at_of t r.waiting (without t.index r.waiting) loses)

  none-earlier : of_rank (rank_of t.class) loses.front ≡ []
  none-earlier =
      no-earlier t loses.front (t ∷ loses.back) (rw loses.was at least-kept.least)
      (before-last t loses.front loses.back (rw loses.was at r.rising))

  ring-after : (rank : ℕ) → after_pop rank t (buffer (of_rank rank r.waiting) MOST_WAITING)
      ≡ buffer (of_rank rank (without t.index r.waiting)) MOST_WAITING
  ring-after rank = ring-lost rank t r.waiting (without t.index r.waiting) loses (λ is. rw is none-earlier)

  pub Kept-pop : (new : Inside) → Popped t old new → (k : Kept new) × (k.waiting ≡ without t.index r.waiting)
  Kept-pop new p = (
    record {
      waiting = without t.index r.waiting;
      rising = AllPairs-filter CameBefore (λ (u : Ticket). not (u.index == t.index)) r.waiting r.rising;
      few = omega (arith, r.few, length-lost t r.waiting (without t.index r.waiting) loses);
      fits = All-without Fits t.index r.waiting r.fits;
      first_is = rw (p.first, r.first_is) (ring-after 0);
      second_is = rw (p.second, r.second_is) (ring-after 1);
      third_is = rw (p.third, r.third_is) (ring-after 2);
      bytes_is = omega (arith, p.bytes, bytes-hold);
      accepted_is = omega (arith, p.accepted, accepted-hold);
    },
    refl,
  )

  list-pop : (new : Inside) → Popped t old new → list_of new ≡ without t.index r.waiting
  list-pop new p = let k : (k : Kept new) × (k.waiting ≡ without t.index r.waiting) = Kept-pop new p in list-is new k.0 ∙ k.1

  pub rest-pop : (new : Inside) → Popped t old new → Some t ≡ next value → list_of new ≡ rest value
  rest-pop new p first = rw (← first, list-pop new p, same-list) refl

  pub loses-pop : (new : Inside) → Popped t old new → LosesJust t value (list_of new)
  loses-pop new p = rw (list-pop new p, same-list) loses

pub last-rank : (class : Class) → (class ≡ Video) ⊎ (class ≡ Fec) → rank_of class ≡ 2
last-rank class (inl is) = rw is refl
last-rank class (inr is) = rw is refl

-- by the rank of the ticket
module _ (t : Ticket) (old : Inside) (ring : Buffer Ticket) (n m : ℕ) (size : n ≡ t.size) (accepted : m ≡ t.accepted_at) where
  pub popped-first : rank_of t.class ≡ 0 → ring ≡ buffer (drop 1 old.audio.items) old.audio.capacity
      → Popped t old (record { audio = ring; retransmissions = old.retransmissions; video = old.video; bytes = old.bytes - n; accepted_sum = old.accepted_sum - m })
  popped-first is e = record { first = rw (is, e) refl; second = rw is refl; third = rw is refl; bytes = rw size refl; accepted = rw accepted refl }

  pub popped-second : rank_of t.class ≡ 1 → ring ≡ buffer (drop 1 old.retransmissions.items) old.retransmissions.capacity
      → Popped t old (record { audio = old.audio; retransmissions = ring; video = old.video; bytes = old.bytes - n; accepted_sum = old.accepted_sum - m })
  popped-second is e = record { first = rw is refl; second = rw (is, e) refl; third = rw is refl; bytes = rw size refl; accepted = rw accepted refl }

  pub popped-third : rank_of t.class ≡ 2 → ring ≡ buffer (drop 1 old.video.items) old.video.capacity
      → Popped t old (record { audio = old.audio; retransmissions = old.retransmissions; video = ring; bytes = old.bytes - n; accepted_sum = old.accepted_sum - m })
  popped-third is e = record { first = rw is refl; second = rw is refl; third = rw (is, e) refl; bytes = rw size refl; accepted = rw accepted refl }

  pub pushed-first : rank_of t.class ≡ 0 → ring ≡ buffer (keep_last old.audio.capacity (old.audio.items ++ t ∷ [])) old.audio.capacity
      → Pushed t old (record { audio = ring; retransmissions = old.retransmissions; video = old.video; bytes = old.bytes + n; accepted_sum = old.accepted_sum + m })
  pushed-first is e = record { first = rw (is, e) refl; second = rw is refl; third = rw is refl; bytes = rw size refl; accepted = rw accepted refl }

  pub pushed-second : rank_of t.class ≡ 1
      → ring ≡ buffer (keep_last old.retransmissions.capacity (old.retransmissions.items ++ t ∷ [])) old.retransmissions.capacity
      → Pushed t old (record { audio = old.audio; retransmissions = ring; video = old.video; bytes = old.bytes + n; accepted_sum = old.accepted_sum + m })
  pushed-second is e = record { first = rw is refl; second = rw (is, e) refl; third = rw is refl; bytes = rw size refl; accepted = rw accepted refl }

  pub pushed-third : rank_of t.class ≡ 2 → ring ≡ buffer (keep_last old.video.capacity (old.video.items ++ t ∷ [])) old.video.capacity
      → Pushed t old (record { audio = old.audio; retransmissions = old.retransmissions; video = ring; bytes = old.bytes + n; accepted_sum = old.accepted_sum + m })
  pushed-third is e = record { first = rw is refl; second = rw is refl; third = rw (is, e) refl; bytes = rw size refl; accepted = rw accepted refl }
