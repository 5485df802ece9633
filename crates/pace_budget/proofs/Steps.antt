-- The running level is the least over all starts.
use Rattle.std.proofs.Common.{◌≡◌, ◌≤ℤ◌, All, ℕ, ℤ, pos, ◌*◌, ◌+ℤ◌, ◌-ℤ◌, List, [], ◌∷◌, ◌++◌, map, fold, refl, sym, ◌∙◌, ap, arith, neg_ℤ, append-nil, append_assoc}
use Rattle.std.proofs.lemmas.Int.{ints, clamps, fold-int_min_bounds, fold-int_min_reached}
use Rattle.std.proofs.lemmas.List.Sums.{fold-append}
use Rattle.std.specs.Int.{int_min}
use Rattle.pace_budget.specs.Level.{Deed, Advance, Spend, Probe, Soft, flow, inflow, starts, level, IsAtMost, IsLeast, StandsFor}
use Rattle.pace_budget.specs.Steps.{step}

inflow-push : (ds : List Deed) (d : Deed) → inflow (ds ++ d ∷ []) ≡ inflow ds +ℤ flow d
inflow-push [] d = omega (arith, ints)
inflow-push (e ∷ ds) d = omega (arith, ints, inflow-push ds d)

both-same : (a b : ℤ) (xs ys : List ℤ) → a ≡ b → xs ≡ ys → a ∷ xs ≡ b ∷ ys
both-same a b xs ys heads tails = cc

-- one more deed adds its flow to each start, and perhaps a start of its own
starts-push : (ds : List Deed) (d : Deed) → starts (ds ++ d ∷ []) ≡ map (λ s. s +ℤ flow d) (starts ds) ++ starts (d ∷ [])
starts-push [] d = refl
starts-push (Advance rate dt window ∷ ds) d =
    both-same (pos (rate * window) +ℤ inflow (ds ++ d ∷ [])) ((pos (rate * window) +ℤ inflow ds) +ℤ flow d) (starts (ds ++ d ∷ [])) (map (λ s. s +ℤ flow d) (starts ds) ++ starts (d ∷ []))
    (omega (arith, ints, inflow-push ds d)) (starts-push ds d)
starts-push (Spend size ∷ ds) d = starts-push ds d
starts-push (Probe size ∷ ds) d = starts-push ds d
starts-push (Soft amount ∷ ds) d = starts-push ds d

-- the least of numbers that all move by as much moves by as much
min-add : (f a : ℤ) (xs : List ℤ) → fold int_min (a +ℤ f) (map (λ s. s +ℤ f) xs) ≡ fold int_min a xs +ℤ f
min-add f a [] = refl
min-add f a (x ∷ xs) =
    let first : int_min (a +ℤ f) (x +ℤ f) ≡ int_min a x +ℤ f = omega (arith, ints, clamps) in
    ap (λ b. fold int_min b (map (λ s. s +ℤ f) xs)) first ∙ min-add f (int_min a x) xs

level-push : (ds : List Deed) (d : Deed) → level (ds ++ d ∷ []) ≡ fold int_min (level ds +ℤ flow d) (starts (d ∷ []))
level-push ds d =
    ap (λ a. fold int_min a (starts (ds ++ d ∷ []))) (inflow-push ds d)
    ∙ ap (λ xs. fold int_min (inflow ds +ℤ flow d) xs) (starts-push ds d)
    ∙ fold-append int_min (inflow ds +ℤ flow d) (map (λ s. s +ℤ flow d) (starts ds)) (starts (d ∷ []))
    ∙ ap (λ a. fold int_min a (starts (d ∷ []))) (min-add (flow d) (inflow ds) (starts ds))

-- the running level is the least over all starts
pub level-step : (ds : List Deed) (d : Deed) → level (ds ++ d ∷ []) ≡ step (level ds) d
level-step ds (Advance rate dt window) = level-push ds (Advance rate dt window) ∙ last-advance (level ds) (rate * dt) (rate * window)
  where
    last-advance : (a : ℤ) (gain cut : ℕ) → int_min (a +ℤ pos gain) (pos cut +ℤ pos 0) ≡ int_min (a +ℤ pos gain) (pos cut)
    last-advance a gain cut = omega (arith, ints, clamps)
level-step ds (Spend size) = level-push ds (Spend size) ∙ last-spend (level ds) (8000000 * size)
  where
    last-spend : (a : ℤ) (n : ℕ) → a +ℤ neg_ℤ (pos n) ≡ a -ℤ pos n
    last-spend a n = omega (arith, ints)
level-step ds (Probe size) = level-push ds (Probe size) ∙ last-probe (level ds) (8000000 * size)
  where
    last-probe : (a : ℤ) (n : ℕ) → a +ℤ neg_ℤ (pos n) ≡ a -ℤ pos n
    last-probe a n = omega (arith, ints)
level-step ds (Soft amount) = level-push ds (Soft amount) ∙ last-soft (level ds) amount
  where
    last-soft : (a : ℤ) (n : ℕ) → a +ℤ neg_ℤ (pos n) ≡ a -ℤ pos n
    last-soft a n = omega (arith, ints)

-- one more deed
pub StandsFor-step : (now : ℤ) (ds : List Deed) (d : Deed) → StandsFor now ds → (new : ℤ) → new ≡ step now d → StandsFor new (ds ++ d ∷ [])
StandsFor-step now ds d stands new is =
    record { least = is ∙ ap (λ a. step a d) stands.least ∙ sym (level-step ds d) }

-- more deeds
pub StandsFor-steps : (now : ℤ) (ds ys : List Deed) → StandsFor now ds → StandsFor (fold step now ys) (ds ++ ys)
StandsFor-steps now ds [] stands = rw append-nil stands
StandsFor-steps now ds (y ∷ ys) stands =
    let more : StandsFor (fold step (step now y) ys) ((ds ++ y ∷ []) ++ ys) =
    StandsFor-steps (step now y) (ds ++ y ∷ []) ys (StandsFor-step now ds y stands (step now y) refl) in
    rw append_assoc at more

-- the level is the least over all starts
pub level-is_least : (ds : List Deed) → IsLeast (level ds) ds
level-is_least ds =
    let bounds : (level ds ≤ℤ inflow ds) × All (IsAtMost (level ds)) (starts ds) = fold-int_min_bounds (inflow ds) (starts ds) (level ds) refl in
    record {
      from_nothing = bounds.0;
      from_each = bounds.1;
      reached = fold-int_min_reached (inflow ds) (starts ds) (level ds) refl;
    }
