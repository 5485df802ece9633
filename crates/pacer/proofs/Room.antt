-- How many packets a pace can send.
use Rattle.std.proofs.Common.{◌≡◌, ℕ, ℤ, pos, suc, zero, ◌+◌, ◌<ℤ◌, ◌≤ℤ◌, ◌≤◌, ◌-ℤ◌, ◌==◌, ◌↔◌, IsTrue, min, Bool, true, false, not, Option, None, Some, IfSome, List, [], ◌∷◌, length, Contains, cond, int_lt, refl, ap, arith}
use Rattle.std.specs.Int.{int_min, int_max}
use Rattle.std.proofs.lemmas.Int.{ints}
use Rattle.std.proofs.lemmas.Bool.Decides.{nat_tests}
use Rattle.gcc_units.specs.declared.limits.TheConstants.{MOST_SENDS}
use Rattle.pace_budget.specs.Level.{bits}
use Rattle.pace_queues.specs.declared.ticket.Ticket.{Ticket}
use Rattle.pace_queues.specs.Waiting.{IsLeast, next, without}
use Rattle.pace_queues.proofs.Waiting.{next-is_least}
use Rattle.probe_clusters.specs.Clusters.{due}
use Rattle.pacer.specs.declared.sent.Sent.{Sent}
use Rattle.pacer.specs.declared.sent.Kind.{Kind}
use Rattle.pacer.specs.declared.sent.Kind.TheVariants as kind
use Rattle.pacer.specs.declared.course.Terms.{Terms}
use Rattle.pacer.specs.Pace.{Standing, unsent, index_of, padding_by, clusters_by, rule, rule_for, after, then_on, paced}
use Rattle.pacer.proofs.Pace.{paced-zero, paced-suc}
use Rattle.pacer.proofs.Records.{unsent-one}
use Rattle.pacer.proofs.Sends.{paced-few}
use Rattle.pacer.proofs.Ruled.{IsAllowed, rule-is}

-- no cluster is due, and no padding may be sent
pub record IsClosed (terms : Terms) (s : Standing) : Type 0 where
  pub no_probe : due s.clusters terms.moment ≡ None
  pub no_padding : s.padding ≤ℤ pos 0

without-le : (index : ℕ) (ts : List Ticket) → length (without index ts) ≤ length ts
without-le index [] = omega arith
without-le index (t ∷ ts) = cons-le (not (t.index == index)) (without index ts) (without-le index ts)
  where
    cons-le : (b : Bool) (us : List Ticket) → length us ≤ length ts → length (cond b (t ∷ us) us) ≤ length (t ∷ ts)
    cons-le true us h = omega arith
    cons-le false us h = omega arith

itself-fails : (t u : Ticket) → u ≡ t → not (u.index == t.index) ≡ false
itself-fails t u e = let same : u.index ≡ t.index = ap (λ (v : Ticket). v.index) e in grind (arith, nat_tests)

without-less : (t : Ticket) (ts : List Ticket) → Contains ts t → length (without t.index ts) + 1 ≤ length ts
without-less t [] (k, l, is) = absurd (omega arith)
without-less t (u ∷ us) (zero, l, is) = rw (itself-fails t u is) (omega (arith, without-le t.index us))
without-less t (u ∷ us) (suc k, l, is) = cons-less (not (u.index == t.index)) (without t.index us) (without-less t us (k, omega arith, is))
  where
    cons-less : (b : Bool) (vs : List Ticket) → length vs + 1 ≤ length us → length (cond b (u ∷ vs) vs) + 1 ≤ length (u ∷ us)
    cons-less true vs h = omega arith
    cons-less false vs h = omega arith

not-above : (n : ℤ) → n ≤ℤ pos 0 → int_lt (pos 0) n ≡ false
not-above n h = grind (arith, ints, nat_tests)

spent-low : (level floor : ℤ) (size : ℕ) → level ≤ℤ pos 0 → int_max (level -ℤ bits size) (int_min level floor) ≤ℤ pos 0
spent-low level floor size h = grind (arith, ints, nat_tests)

clusters-kept : (s : Standing) (moment size : ℕ) (k : Kind) → IsAllowed s None k → clusters_by moment s.clusters k size ≡ s.clusters
clusters-kept s moment size kind.Audio may = refl
clusters-kept s moment size kind.Media may = refl
clusters-kept s moment size (kind.Probe id) may = absurd cc
clusters-kept s moment size kind.Padding may = refl

padding-kept : (s : Standing) (floor : ℤ) (size : ℕ) (k : Kind) → IsAllowed s None k → s.padding ≤ℤ pos 0 → padding_by floor s.padding k size ≤ℤ pos 0
padding-kept s floor size kind.Audio may low = low
padding-kept s floor size kind.Media may low = spent-low s.padding floor size low
padding-kept s floor size (kind.Probe id) may low = low
padding-kept s floor size kind.Padding may low = absurd (omega (arith, ints, may.0, low))

-- where nothing waits nothing is sent
nothing-sent : (terms : Terms) (s : Standing) (r : Sent) → s.padding ≤ℤ pos 0 → rule_for terms s None None ≡ Some r → ⊥
nothing-sent terms s r low e = let h : None ≡ Some r = rw (not-above s.padding low) at e in cc

less-waits : (terms : Terms) (s : Standing) (r : Sent) → IsClosed terms s → rule terms s ≡ Some r → length (unsent (r ∷ []) s.waiting) + 1 ≤ length s.waiting
less-waits terms s r h e = by_next (next s.waiting) refl (next-is_least s.waiting) (rule-is terms s r e).index
  where
    by_next : (o : Option Ticket) → next s.waiting ≡ o → IfSome o (λ t. IsLeast t s.waiting) → r.index ≡ index_of o
        → length (unsent (r ∷ []) s.waiting) + 1 ≤ length s.waiting
    by_next None is least of = absurd (nothing-sent terms s r h.no_padding (rw (is, h.no_probe) at e))
    by_next (Some t) is least of = rw (unsent-one r t.index of s.waiting) (without-less t s.waiting least.waits)

closed-after : (terms : Terms) (s : Standing) (r : Sent) → IsClosed terms s → rule terms s ≡ Some r → IsClosed terms (after terms s r)
closed-after terms s r h e =
    let may : IsAllowed s None r.kind = rw h.no_probe at (rule-is terms s r e).allowed in
    record {
      no_probe = rw (clusters-kept s terms.moment r.size r.kind may) h.no_probe;
      no_padding = padding-kept s terms.floor r.size r.kind may h.no_padding;
    }

-- while no cluster is due and no padding may be sent, each send is of a packet that waits
pub paced-waiting : (most : ℕ) (terms : Terms) (s : Standing) → IsClosed terms s → length (paced most terms s) ≤ length s.waiting
paced-waiting zero terms s h = rw (paced-zero terms s) (omega arith)
paced-waiting (suc most) terms s h =
    rw (paced-suc most terms s) (by_rule (rule terms s) refl (λ t. paced-waiting most terms t))
  where
    by_rule : (o : Option Sent) → rule terms s ≡ o → ((t : Standing) → IsClosed terms t → length (paced most terms t) ≤ length t.waiting)
        → length (then_on o (λ r. paced most terms (after terms s r))) ≤ length s.waiting
    by_rule None e few = omega arith
    by_rule (Some r) e few =
        omega (arith, less-waits terms s r h e, few (after terms s r) (closed-after terms s r h e))

above : (n : ℤ) → int_lt (pos 0) n ≡ true → pos 0 <ℤ n
above n e = grind (arith, ints, nat_tests)

not-above-low : (n : ℤ) → int_lt (pos 0) n ≡ false → n ≤ℤ pos 0
not-above-low n e = grind (arith, ints, nat_tests)

-- a level that is not open is at most 0
pub closed-low : (is_open : Bool) (n : ℤ) → (IsTrue is_open ↔ (pos 0 <ℤ n)) → is_open ≡ false → n ≤ℤ pos 0
closed-low true n is off = absurd cc
closed-low false n is off = by_test (int_lt (pos 0) n) refl
  where
    by_test : (b : Bool) → int_lt (pos 0) n ≡ b → n ≤ℤ pos 0
    by_test true e = let on : IsTrue false = is.1 (above n e) in absurd cc
    by_test false e = not-above-low n e

pub closed-few : (terms : Terms) (s : Standing) → IsClosed terms s → length (paced MOST_SENDS terms s) ≤ min MOST_SENDS (length s.waiting)
closed-few terms s h = omega (arith, paced-few MOST_SENDS terms s, paced-waiting MOST_SENDS terms s h)
