-- When a cluster is due next.
use Rattle.std.proofs.Common.{◌≡◌, ℕ, ◌+◌, ◌-◌, ◌*◌, ◌<◌, ◌≤◌, Bool, true, false, nat_le, if◌then◌else◌, Option, Some, None, refl, sym, ◌∙◌, ap, subst, arith, mul_comm}
use Rattle.std.specs.Int.{div_ceil}
use Rattle.std.proofs.lemmas.Grind.{div_ceil_times}
use Rattle.std.proofs.lemmas.Bool.Decides.{nat_tests}
use Rattle.std.proofs.Math.Nat.{lt_of_mul-lt-mul_left}
use Rattle.gcc_units.specs.declared.limits.TheConstants.{GREATEST_MOMENT, BYTE}
use Rattle.probe_clusters.specs.declared.cluster.Cluster.{Cluster}
use Rattle.probe_clusters.specs.Cluster.{is_due, is_due_from, is_due_since}
use Rattle.probe_clusters.specs.Moments.{IsFirstFrom}

-- so many steps of b reach a, and the step before does not
least-count : (a b q t : ℕ) → b * q < a + b → a ≤ b * t → q ≤ t
least-count a b q t below reach =
    let less : b * q < b * (t + 1) = omega (arith, below, reach) in
    let h : q < t + 1 = lt_of_mul-lt-mul_left b less in
    omega (arith, h)

test-false : (a b : ℕ) → b < a → nat_le a b ≡ false
test-false a b h = grind (arith, nat_tests)

test-true : (a b : ℕ) → a ≤ b → nat_le a b ≡ true
test-true a b h = grind (arith, nat_tests)

false-less : (a b : ℕ) → nat_le a b ≡ false → b < a
false-less a b h = grind (arith, nat_tests)

-- its bytes are paid for only once the time has passed
unpaid : (c : Cluster) (first lasts t : ℕ) → c.rate * lasts < BYTE * c.bytes + c.rate → t - first < lasts → is_due_since first c t ≡ false
unpaid c first lasts t below early = by_test (nat_le (BYTE * c.bytes) (c.rate * (t - first))) refl
  where
    by_test : (b : Bool) → nat_le (BYTE * c.bytes) (c.rate * (t - first)) ≡ b → nat_le (BYTE * c.bytes) (c.rate * (t - first)) ≡ false
    by_test false e = e
    by_test true e =
        let reach : BYTE * c.bytes ≤ c.rate * (t - first) = grind (arith, nat_tests) in
        let late : lasts ≤ t - first = least-count (BYTE * c.bytes) c.rate lasts (t - first) below reach in
        absurd (omega (arith, late, early))

-- a cluster that is not due at a moment is due first where the time for its bytes has passed since its first send
pub first-paid : (c : Cluster) (from first lasts : ℕ) (o : Option ℕ) → c.first_sent ≡ Some first → is_due c from ≡ false
    → BYTE * c.bytes ≤ c.rate * lasts → c.rate * lasts < BYTE * c.bytes + c.rate
    → o ≡ (if nat_le (first + lasts) GREATEST_MOMENT then Some (first + lasts) else None) → IsFirstFrom from (is_due c) o
first-paid c from first lasts o sent not_now enough below is =
    subst (λ (p : Option ℕ). IsFirstFrom from (is_due c) p) (sym is) (by_time (nat_le (first + lasts) GREATEST_MOMENT) refl)
  where
    since : (t : ℕ) → is_due c t ≡ is_due_since first c t
    since t = ap (λ (p : Option ℕ). is_due_from p c t) sent

    not_yet : c.rate * (from - first) < BYTE * c.bytes
    not_yet = false-less (BYTE * c.bytes) (c.rate * (from - first)) (sym (since from) ∙ not_now)

    later : from - first < lasts
    later = lt_of_mul-lt-mul_left c.rate (omega (arith, not_yet, enough))

    before : (t : ℕ) → t < first + lasts → is_due c t ≡ false
    before t l = since t ∙ unpaid c first lasts t below (omega (arith, l, later))

    by_time : (b : Bool) → nat_le (first + lasts) GREATEST_MOMENT ≡ b → IsFirstFrom from (is_due c) (if b then Some (first + lasts) else None)
    by_time true e = record {
      from_on = omega (arith, later);
      in_time = grind (arith, nat_tests);
      passes = since (first + lasts) ∙ test-true (BYTE * c.bytes) (c.rate * ((first + lasts) - first)) (let same : (first + lasts) - first ≡ lasts = omega arith in rw same enough);
      none_before = λ t l b. before t b;
    }
    by_time false e = record {
      from_on = tt;
      in_time = tt;
      passes = tt;
      none_before = λ t l b. before t (let far : GREATEST_MOMENT < first + lasts = false-less (first + lasts) GREATEST_MOMENT e in omega (arith, far, b));
    }

pub first-counted : (c : Cluster) (from first amount rate lasts : ℕ) (o : Option ℕ) → c.first_sent ≡ Some first → is_due c from ≡ false
    → amount ≡ BYTE * c.bytes → rate ≡ c.rate → 0 < c.rate → lasts ≡ div_ceil amount rate
    → o ≡ (if nat_le (first + lasts) GREATEST_MOMENT then Some (first + lasts) else None) → IsFirstFrom from (is_due c) o
first-counted c from first amount rate lasts o sent not_now amounts rates some is given =
    first-paid c from first lasts o sent not_now
    (subst (λ n. BYTE * c.bytes ≤ c.rate * n) (sym same) (rw (mul_comm c.rate (div_ceil (BYTE * c.bytes) c.rate)) bounds.0))
    (subst (λ n. c.rate * n < BYTE * c.bytes + c.rate) (sym same) (rw (mul_comm c.rate (div_ceil (BYTE * c.bytes) c.rate)) bounds.1))
    given
  where
    same : lasts ≡ div_ceil (BYTE * c.bytes) c.rate
    same = is ∙ (ap (λ n. div_ceil n rate) amounts ∙ ap (div_ceil (BYTE * c.bytes)) rates)

    bounds : (BYTE * c.bytes ≤ div_ceil (BYTE * c.bytes) c.rate * c.rate) × (div_ceil (BYTE * c.bytes) c.rate * c.rate < BYTE * c.bytes + c.rate)
    bounds = div_ceil_times (BYTE * c.bytes) c.rate some
