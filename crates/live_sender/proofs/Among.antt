-- Which bytes are kept after a call.
use Rattle.std.proofs.Common.{◌≡◌, ℕ, suc, zero, ◌<◌, ◌==◌, ◌&&◌, ◌||◌, Bool, true, false, not, cond, None, Some, List, [], ◌∷◌, ◌++◌, length, map, slice_get, All, refl, sym, ◌∙◌, ap, subst, arith, eqb-true}
use Rattle.std.proofs.lemmas.List.Elements.{All-head, All-tail}
use Rattle.std.proofs.lemmas.List.Folds.{list_any-append}
use Rattle.pace_queues.specs.declared.ticket.Ticket.{Ticket}
use Rattle.pace_queues.specs.Waiting.{HasIndexBelow}
use Rattle.pacer.specs.declared.sent.Sent.{Sent}
use Rattle.pacer.specs.Pace.{names, unsent}
use Rattle.send_core.specs.History.{AcceptedPacket, wire_in}
use Rattle.live_sender.specs.Live.{is_among, bytes_among}

-- ---- sent packets

no_more : (w x n : Bool) → n ≡ true → x ≡ (w && not n) → x ≡ false
no_more true x true e m = m
no_more false x true e m = m
no_more w x false e m = absurd cc

or_left : (e x n : Bool) → e ≡ true → n ≡ false → (e || x) ≡ (true && not n)
or_left true x false e n = refl
or_left true x true e n = absurd cc
or_left false x n e f = absurd cc

or_right : (e x y : Bool) → e ≡ false → x ≡ y → (e || x) ≡ y
or_right false x y e same = same
or_right true x y e same = absurd cc

not_named : (n : Bool) → n ≡ true → false ≡ (true && not n)
not_named true e = refl
not_named false e = absurd cc

-- what waits after some were sent: what waited and was not sent
pub among-unsent : (rs : List Sent) (ts : List Ticket) (k : ℕ) → is_among (unsent rs ts) k ≡ (is_among ts k && not (names k rs))
among-unsent rs [] k = refl
among-unsent rs (t ∷ ts) k = step (t.index == k) refl (names t.index rs) refl (among-unsent rs ts k)
  where
    named : (b : Bool) → (t.index == k) ≡ true → names t.index rs ≡ b → names k rs ≡ b
    named b e is = ap (λ i. names i rs) (sym (eqb-true t.index k e)) ∙ is

    step : (e : Bool) → (t.index == k) ≡ e → (b : Bool) → names t.index rs ≡ b → is_among (unsent rs ts) k ≡ (is_among ts k && not (names k rs))
        → is_among (cond (not b) (t ∷ unsent rs ts) (unsent rs ts)) k ≡ ((e || is_among ts k) && not (names k rs))
    step true e true n more = no_more (is_among ts k) (is_among (unsent rs ts) k) (names k rs) (named true e n) more ∙ not_named (names k rs) (named true e n)
    step true e false n more = or_left (t.index == k) (is_among (unsent rs ts) k) (names k rs) e (named false e n)
    step false e true n more = more
    step false e false n more = or_right (t.index == k) (is_among (unsent rs ts) k) (is_among ts k && not (names k rs)) e more

pub bytes-unsent : (rs : List Sent) (ts : List Ticket) (ps : List AcceptedPacket) (k : ℕ)
    → bytes_among (unsent rs ts) ps k ≡ cond (names k rs) None (bytes_among ts ps k)
bytes-unsent rs ts ps k = ap (λ b. cond b (slice_get (map wire_in ps) k) None) (among-unsent rs ts k) ∙ by_test (is_among ts k) (names k rs)
  where
    by_test : (w n : Bool) → cond (w && not n) (slice_get (map wire_in ps) k) None ≡ cond n None (cond w (slice_get (map wire_in ps) k) None)
    by_test true true = refl
    by_test true false = refl
    by_test false true = refl
    by_test false false = refl

-- ---- an accepted packet

pub among-below : (count : ℕ) (ts : List Ticket) (k : ℕ) → All (HasIndexBelow count) ts → is_among ts k ≡ true → k < count
among-below count [] k all is = absurd cc
among-below count (t ∷ ts) k all is = by_test (t.index == k) refl is (among-below count ts k (All-tail (HasIndexBelow count) t ts all))
  where
    by_test : (b : Bool) → (t.index == k) ≡ b → (b || is_among ts k) ≡ true → (is_among ts k ≡ true → k < count) → k < count
    by_test true e is more = subst (λ n. n < count) (eqb-true t.index k e) (All-head (HasIndexBelow count) t ts all)
    by_test false e is more = more is

wire-front : (ps : List AcceptedPacket) (p : AcceptedPacket) (k : ℕ) → k < length ps → slice_get (map wire_in (ps ++ p ∷ [])) k ≡ slice_get (map wire_in ps) k
wire-front [] p k lt = absurd (omega arith)
wire-front (q ∷ ps) p zero lt = refl
wire-front (q ∷ ps) p (suc k) lt = wire-front ps p k (omega arith)

wire-end : (ps : List AcceptedPacket) (p : AcceptedPacket) → slice_get (map wire_in (ps ++ p ∷ [])) (length ps) ≡ Some p.wire
wire-end [] p = refl
wire-end (q ∷ ps) p = wire-end ps p

or-none : (w e : Bool) → (w || (e || false)) ≡ (w || e)
or-none true e = refl
or-none false true = refl
or-none false false = refl

-- it waits behind those that wait
pub bytes-accepted : (ts : List Ticket) (t : Ticket) (ps : List AcceptedPacket) (p : AcceptedPacket) (k : ℕ) → t.index ≡ length ps → All (HasIndexBelow (length ps)) ts
    → bytes_among (ts ++ t ∷ []) (ps ++ p ∷ []) k ≡ cond (length ps == k) (Some p.wire) (bytes_among ts ps k)
bytes-accepted ts t ps p k is below =
    ap (λ b. cond b (slice_get (map wire_in (ps ++ p ∷ [])) k) None)
    (list_any-append (λ (u : Ticket). u.index == k) ts (t ∷ []) ∙ (or-none (is_among ts k) (t.index == k) ∙ ap (λ n. is_among ts k || (n == k)) is))
    ∙ by_test (is_among ts k) refl (length ps == k) refl
  where
    here : (w : Bool) → length ps ≡ k → cond (w || true) (slice_get (map wire_in (ps ++ p ∷ [])) k) None ≡ Some p.wire
    here true e = subst (λ n. slice_get (map wire_in (ps ++ p ∷ [])) n ≡ Some p.wire) e (wire-end ps p)
    here false e = subst (λ n. slice_get (map wire_in (ps ++ p ∷ [])) n ≡ Some p.wire) e (wire-end ps p)

    by_test : (w : Bool) → is_among ts k ≡ w → (e : Bool) → (length ps == k) ≡ e
        → cond (w || e) (slice_get (map wire_in (ps ++ p ∷ [])) k) None ≡ cond e (Some p.wire) (cond w (slice_get (map wire_in ps) k) None)
    by_test w f true e = here w (eqb-true (length ps) k e)
    by_test true f false e = wire-front ps p k (among-below (length ps) ts k below f)
    by_test false f false e = refl

-- nothing is kept under the index that comes next
pub bytes-next : (ts : List Ticket) (ps : List AcceptedPacket) → All (HasIndexBelow (length ps)) ts → bytes_among ts ps (length ps) ≡ None
bytes-next ts ps below = by_test (is_among ts (length ps)) refl
  where
    by_test : (w : Bool) → is_among ts (length ps) ≡ w → cond w (slice_get (map wire_in ps) (length ps)) None ≡ None
    by_test true e = absurd (let lt : length ps < length ps = among-below (length ps) ts (length ps) below e in omega arith)
    by_test false e = refl
