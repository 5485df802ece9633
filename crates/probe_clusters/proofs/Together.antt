-- The credits of a cluster are kept by their sums, and by their least and greatest.
use Rattle.std.proofs.Common.{◌≡◌, ◌⊎◌, inl, inr, ℕ, ℤ, suc, zero, ◌≤◌, ◌≤ℤ◌, min, max, Bool, true, false, if◌then◌else◌, nat_lt, int_lt, ◌||◌, ◌&&◌, List, [], ◌∷◌, fold, All, Some, refl, sym, subst, ◌∙◌, arith}
use Rattle.std.specs.List.{Any}
use Rattle.std.specs.Int.{int_max}
use Rattle.std.specs.Ordering.{int_eq}
use Rattle.std.proofs.lemmas.Int.{ints, int_max_is}
use Rattle.std.proofs.lemmas.List.Elements.{All-nil, All-cons}
use Rattle.std.proofs.lemmas.Bool.Decides.{nat_tests, Decides-int_eq}
use Rattle.gcc_units.specs.declared.shared_types.Credit.{Credit}
use Rattle.probe_clusters.specs.declared.heard.Heard.{Heard}
use Rattle.probe_clusters.specs.Heard.{heard_of, later_of, is_earlier, earlier_of}
use Rattle.probe_clusters.specs.Laws.{IsNoLater, IsOf, CreditsTogether}

-- what a step gives holds of the credit, and of each that it held of before
record Bounds {B : Type 0} (step : B → Credit → B) (R : B → Credit → Type 0) : Type 0 where
  here : (b : B) (c : Credit) → R (step b c) c
  kept : (b : B) (c d : Credit) → R b d → R (step b c) d

fold-kept : {B : Type 0} (step : B → Credit → B) (R : B → Credit → Type 0) → Bounds step R → (cs : List Credit) (b : B) (d : Credit) → R b d → R (fold step b cs) d
fold-kept step R h [] b d r = r
fold-kept step R h (c ∷ cs) b d r = fold-kept step R h cs (step b c) d (h.kept b c d r)

fold-bounds : {B : Type 0} (step : B → Credit → B) (R : B → Credit → Type 0) → Bounds step R → (cs : List Credit) (b : B) → All (R (fold step b cs)) cs
fold-bounds step R h [] b = All-nil (R b)
fold-bounds step R h (c ∷ cs) b =
    All-cons (R (fold step (step b c) cs)) c cs (fold-kept step R h cs (step b c) c (h.here b c)) (fold-bounds step R h cs (step b c))

fold-all : {B : Type 0} (step : B → Credit → B) (R : B → Credit → Type 0) → Bounds step R → (cs : List Credit) (b : B) (c : Credit) → R b c → All (R (fold step b cs)) (c ∷ cs)
fold-all step R h cs b c r = All-cons (R (fold step b cs)) c cs (fold-kept step R h cs b c r) (fold-bounds step R h cs b)

-- what a step gives is what it had, or the credit's own
abbrev Chooses : {B : Type 0} → (B → Credit → B) → (Credit → B) → Type 0
Chooses {B} step own = (b : B) (c : Credit) → (step b c ≡ b) ⊎ (step b c ≡ own c)

Any-more : {P : Credit → Type 0} (c : Credit) (cs : List Credit) → Any P cs → Any P (c ∷ cs)
Any-more c cs (k, x, l, is, p) = (suc k, x, omega arith, is, p)

Any-insert : {P : Credit → Type 0} (c d : Credit) (cs : List Credit) → Any P (c ∷ cs) → Any P (c ∷ d ∷ cs)
Any-insert c d cs (zero, x, l, is, p) = (0, x, omega arith, is, p)
Any-insert c d cs (suc k, x, l, is, p) = (suc (suc k), x, omega arith, is, p)

fold-chooses : {B : Type 0} (step : B → Credit → B) (own : Credit → B) → Chooses step own → (cs : List Credit) (b : B) (c : Credit) → b ≡ own c → Any (λ d. fold step b cs ≡ own d) (c ∷ cs)
fold-chooses step own h [] b c is = (0, c, omega arith, refl, is)
fold-chooses step own h (d ∷ cs) b c is =
    elim (h b d) [
      | inl same ↦ Any-insert c d cs (fold-chooses step own h cs (step b d) c (same ∙ is))
      | inr new ↦ Any-more c (d ∷ cs) (fold-chooses step own h cs (step b d) d new)
    ]

least-bounds : Bounds (λ (m : ℕ) (d : Credit). min m d.sent_at) (λ m d. m ≤ d.sent_at)
least-bounds = record { here = λ b c. omega arith; kept = λ b c d r. omega arith }

greatest-bounds : Bounds (λ (m : ℕ) (d : Credit). max m d.sent_at) (λ m d. d.sent_at ≤ m)
greatest-bounds = record { here = λ b c. omega arith; kept = λ b c d r. omega arith }

arrival-bounds : Bounds (λ (a : ℤ) (d : Credit). int_max a d.arrival) (λ a d. d.arrival ≤ℤ a)
arrival-bounds = record { here = λ b c. omega (arith, ints, int_max_is b c.arrival); kept = λ b c d r. omega (arith, ints, int_max_is b c.arrival) }

later-here : (later : Bool) (b c : Credit) → nat_lt b.number c.number ≡ later → c.number ≤ (if later then c else b).number
later-here true b c h = omega arith
later-here false b c h = grind (arith, nat_tests)

later-kept : (later : Bool) (b c d : Credit) → nat_lt b.number c.number ≡ later → d.number ≤ b.number → d.number ≤ (if later then c else b).number
later-kept true b c d h r = grind (arith, nat_tests)
later-kept false b c d h r = r

later-bounds : Bounds later_of (λ (a d : Credit). d.number ≤ a.number)
later-bounds = record {
  here = λ b c. later-here (nat_lt b.number c.number) b c refl;
  kept = λ b c d r. later-kept (nat_lt b.number c.number) b c d refl r;
}

either : (a b c : Bool) → (a || (b && c)) ≡ true → (a ≡ true) ⊎ ((b ≡ true) × (c ≡ true))
either true b c h = inl refl
either false true c h = inr (refl, h)
either false false c h = absurd cc

neither : (a b c : Bool) → (a || (b && c)) ≡ false → (a ≡ false) × (b ≡ true → c ≡ false)
neither true b c h = absurd cc
neither false true c h = (refl, λ _. h)
neither false false c h = (refl, λ e. absurd cc)

earlier-true : (x y : ℤ) (m n : ℕ) → (int_lt x y || (int_eq x y && nat_lt m n)) ≡ true → (x ≤ℤ y) × (x ≡ y → m ≤ n)
earlier-true x y m n h = true_of (either (int_lt x y) (int_eq x y) (nat_lt m n) h)
  where
    true_of : (int_lt x y ≡ true) ⊎ ((int_eq x y ≡ true) × (nat_lt m n ≡ true)) → (x ≤ℤ y) × (x ≡ y → m ≤ n)
    true_of (inl less) = (grind (arith, ints), λ same. absurd (grind (arith, ints)))
    true_of (inr (same, less)) = let e : x ≡ y = (Decides-int_eq x y).0 same in (omega (arith, ints), λ _. grind (arith, nat_tests))

earlier-false : (x y : ℤ) (m n : ℕ) → (int_lt x y || (int_eq x y && nat_lt m n)) ≡ false → (y ≤ℤ x) × (y ≡ x → n ≤ m)
earlier-false x y m n h =
    let none = neither (int_lt x y) (int_eq x y) (nat_lt m n) h in
    (at_least none.0, λ same. no_less (none.1 ((Decides-int_eq x y).1 (sym same))))
  where
    at_least : int_lt x y ≡ false → y ≤ℤ x
    at_least h = grind (arith, ints)

    no_less : nat_lt m n ≡ false → n ≤ m
    no_less h = grind (arith, nat_tests)

earlier-here : (earlier : Bool) (b c : Credit) → is_earlier c b ≡ earlier → IsNoLater (if earlier then c else b) c
earlier-here true b c h = record { arrival = omega (arith, ints); number = λ _. omega arith }
earlier-here false b c h = let f = earlier-false c.arrival b.arrival c.number b.number h in record { arrival = f.0; number = f.1 }

earlier-kept : (earlier : Bool) (b c d : Credit) → is_earlier c b ≡ earlier → IsNoLater b d → IsNoLater (if earlier then c else b) d
earlier-kept true b c d h r =
    let f = earlier-true c.arrival b.arrival c.number b.number h in
    record {
      arrival = omega (arith, ints, f.0, r.arrival);
      number = λ same.
          let first : c.arrival ≡ b.arrival = omega (arith, ints, f.0, r.arrival) in
          let second : b.arrival ≡ d.arrival = omega (arith, ints, f.0, r.arrival) in
          omega (arith, f.1 first, r.number second);
    }
earlier-kept false b c d h r = r

earlier-bounds : Bounds earlier_of IsNoLater
earlier-bounds = record {
  here = λ b c. earlier-here (is_earlier c b) b c refl;
  kept = λ b c d r. earlier-kept (is_earlier c b) b c d refl r;
}

choice : {A : Type 0} (b : Bool) (x y : A) → ((if b then y else x) ≡ x) ⊎ ((if b then y else x) ≡ y)
choice true x y = inr refl
choice false x y = inl refl

least-chooses : Chooses (λ (m : ℕ) (d : Credit). min m d.sent_at) (λ d. d.sent_at)
least-chooses b c = grind arith

greatest-chooses : Chooses (λ (m : ℕ) (d : Credit). max m d.sent_at) (λ d. d.sent_at)
greatest-chooses b c = grind arith

arrival-chooses : Chooses (λ (a : ℤ) (d : Credit). int_max a d.arrival) (λ d. d.arrival)
arrival-chooses b c = swapped (choice (int_lt c.arrival b) c.arrival b)
  where
    swapped : {P Q : Type 0} → P ⊎ Q → Q ⊎ P
    swapped (inl p) = inr p
    swapped (inr q) = inl q

later-chooses : Chooses later_of (λ d. d)
later-chooses b c = choice (nat_lt b.number c.number) b c

earlier-chooses : Chooses earlier_of (λ d. d)
earlier-chooses b c = choice (is_earlier c b) b c

of_first : (c : Credit) (cs : List Credit) (h : Heard) → heard_of (c ∷ cs) ≡ Some h → IsOf (c ∷ cs) h
of_first c cs h is = subst (IsOf (c ∷ cs)) (some_same _ h is) (record {
  count = refl;
  bytes = refl;
  sent_least = fold-all _ _ least-bounds cs c.sent_at c (omega arith);
  has_sent_least = fold-chooses _ (λ (d : Credit). d.sent_at) least-chooses cs c.sent_at c refl;
  sent_greatest = fold-all _ _ greatest-bounds cs c.sent_at c (omega arith);
  has_sent_greatest = fold-chooses _ (λ (d : Credit). d.sent_at) greatest-chooses cs c.sent_at c refl;
  arrival_greatest = fold-all _ _ arrival-bounds cs c.arrival c (omega (arith, ints));
  has_arrival_greatest = fold-chooses _ (λ (d : Credit). d.arrival) arrival-chooses cs c.arrival c refl;
  earliest = fold-all _ _ earlier-bounds cs c c (earlier-itself c);
  has_earliest = fold-chooses _ (λ (d : Credit). d) earlier-chooses cs c c refl;
  latest = fold-all _ _ later-bounds cs c c (omega arith);
  has_latest = fold-chooses _ (λ (d : Credit). d) later-chooses cs c c refl;
})
  where
    some_same : (g h : Heard) → Some g ≡ Some h → g ≡ h
    some_same g h e = cc

    earlier-itself : (c : Credit) → IsNoLater c c
    earlier-itself c = record { arrival = omega (arith, ints); number = λ _. omega arith }

pub together : CreditsTogether
together c cs = λ h is. of_first c cs h is
