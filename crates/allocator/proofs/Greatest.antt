-- The greatest number that passes a test is one, and is what the function gives.
use Rattle.std.proofs.Common.{◌≡◌, ℕ, zero, suc, ◌≤◌, Bool, true, false, cond, Option, None, Some, inl, inr, ◌⊎◌, refl, subst, arith}
use Rattle.std.proofs.lemmas.Bool.{cases_eq}
use Rattle.allocator.specs.Greatest.{IsGreatest, greatest}

clash : {b : Bool} → b ≡ false → b ≡ true → ⊥
clash e f = cc

some-none : {n : ℕ} → None ≡ Some n → ⊥
some-none e = cc

some-same : {m n : ℕ} → Some m ≡ Some n → m ≡ n
some-same e = cc

-- one number at most is the greatest
pub greatest_is_one : (test : ℕ → Bool) (bound m n : ℕ) → IsGreatest test bound m → IsGreatest test bound n → m ≡ n
greatest_is_one test bound m n h k =
    let a : m ≤ n = k.greatest m h.within h.passes in let b : n ≤ m = h.greatest n k.within k.passes in omega arith

-- where the last number passes, it is the greatest; where it fails, what is the greatest below it
last_passes : (test : ℕ → Bool) (bound : ℕ) → test bound ≡ true → IsGreatest test bound bound
last_passes test bound e = record { within = omega arith; passes = e; greatest = λ m l p. l }

last_fails : (test : ℕ → Bool) (bound n : ℕ) → test (suc bound) ≡ false → IsGreatest test bound n → IsGreatest test (suc bound) n
last_fails test bound n e g = record {
  within = omega (arith, g.within);
  passes = g.passes;
  greatest = λ m l p. below m l p (cases_eq m (suc bound));
}
  where
    below : (m : ℕ) → m ≤ suc bound → test m ≡ true → (m ≡ suc bound) ⊎ (m ≡ suc bound → ⊥) → m ≤ n
    below m l p (inl is) = absurd (clash e (subst (λ i. test i ≡ true) is p))
    below m l p (inr not_it) = g.greatest m (omega arith) p

-- what the function gives is the greatest
pub is_greatest : (test : ℕ → Bool) (bound n : ℕ) → greatest test bound ≡ Some n → IsGreatest test bound n
unfolding greatest
is_greatest test zero n h = at_test (test zero) refl h
  where
    at_test : (b : Bool) → test zero ≡ b → cond b (Some zero) None ≡ Some n → IsGreatest test zero n
    at_test true e h = subst (λ k. IsGreatest test zero k) (some-same h) (last_passes test zero e)
    at_test false e h = absurd (some-none h)
is_greatest test (suc bound) n h = at_test (test (suc bound)) refl h (is_greatest test bound n)
  where
    at_test : (b : Bool) → test (suc bound) ≡ b → cond b (Some (suc bound)) (greatest test bound) ≡ Some n
        → (greatest test bound ≡ Some n → IsGreatest test bound n) → IsGreatest test (suc bound) n
    at_test true e h below = subst (λ k. IsGreatest test (suc bound) k) (some-same h) (last_passes test (suc bound) e)
    at_test false e h below = last_fails test bound n e (below h)

-- and where none passes, it gives none
pub greatest-none : (test : ℕ → Bool) (bound : ℕ) → ((m : ℕ) → m ≤ bound → test m ≡ false) → greatest test bound ≡ None
unfolding greatest
greatest-none test zero none = rw (none zero (omega arith)) refl
greatest-none test (suc bound) none = rw (none (suc bound) (omega arith)) (greatest-none test bound (λ m l. none m (omega arith)))

-- where it gives none, none passes
pub none_passes : (test : ℕ → Bool) (bound m : ℕ) → greatest test bound ≡ None → m ≤ bound → test m ≡ false
unfolding greatest
none_passes test zero m h l = at_test (test zero) refl h
  where
    at_test : (b : Bool) → test zero ≡ b → cond b (Some zero) None ≡ None → test m ≡ false
    at_test true e h = absurd (let back : None ≡ Some zero = cc in some-none back)
    at_test false e h = let is : zero ≡ m = omega arith in subst (λ i. test i ≡ false) is e
none_passes test (suc bound) m h l = at_test (test (suc bound)) refl h (none_passes test bound m) (cases_eq m (suc bound))
  where
    at_test : (b : Bool) → test (suc bound) ≡ b → cond b (Some (suc bound)) (greatest test bound) ≡ None
        → (greatest test bound ≡ None → m ≤ bound → test m ≡ false) → (m ≡ suc bound) ⊎ (m ≡ suc bound → ⊥) → test m ≡ false
    at_test true e h below cases = absurd (let back : None ≡ Some (suc bound) = cc in some-none back)
    at_test false e h below (inl is) = rw is e
    at_test false e h below (inr not_it) = below h (omega arith)

-- the greatest is what the function gives
pub greatest-is : (test : ℕ → Bool) (bound n : ℕ) → IsGreatest test bound n → greatest test bound ≡ Some n
greatest-is test bound n g = of_option (greatest test bound) refl
  where
    of_option : (o : Option ℕ) → greatest test bound ≡ o → o ≡ Some n
    of_option None e = absurd (clash (none_passes test bound n e g.within) g.passes)
    of_option (Some k) e = let same : k ≡ n = greatest_is_one test bound k n (is_greatest test bound k e) g in rw same refl
