-- What one more sample, or one more point, makes of the points and of the sums over them.
use Rattle.std.proofs.Common.{ℕ, ℤ, ◌≡◌, ◌+ℤ◌, ◌-ℤ◌, ◌+◌, ◌-◌, ◌≤◌, ◌<◌, inl, inr, List, [], ◌∷◌, ◌++◌, length, drop, refl, ap, sym, ◌∙◌, arith, length-append, length-drop}
use Rattle.std.proofs.lemmas.Int.{ints}
use Rattle.std.proofs.lemmas.Bool.{cases_lt}
use Rattle.std.proofs.lemmas.List.{drop-append-le, drop-drop}
use Rattle.gcc_units.specs.declared.shared_types.Sample.{Sample}
use Rattle.gcc_units.proofs.Walk.{each_by-push}
use Rattle.trendline.specs.declared.TheConstants.{MOST_POINTS}
use Rattle.trendline.specs.declared.sums.Point.{Point}
use Rattle.trendline.specs.Trend.{total, gap_of, delay_of, point_of, points, last_of, last_points, x_of, y_of, product_of, square_of, sums_of}
use Rattle.trendline.specs.Ranges.{with_point, without_point}
use Rattle.trendline.specs.KeptBySamples.{moved, Kept, StandsFor}

pub total-push : {A : Type 0} (f : A → ℤ) (xs : List A) (x : A) → total f (xs ++ x ∷ []) ≡ total f xs +ℤ f x
total-push f [] x = omega (arith, ints)
total-push f (y ∷ xs) x = let e = total-push f xs x in rw e (omega (arith, ints))

total-first : {A : Type 0} (f : A → ℤ) (x : A) (xs : List A) → total f (x ∷ xs) -ℤ f x ≡ total f xs
total-first f x xs = omega (arith, ints)

pub point-push : (samples : List Sample) (s : Sample) → point_of (samples ++ s ∷ []) ≡ moved (point_of samples) s
point-push samples s = rw (total-push gap_of samples s, total-push delay_of samples s) refl

pub drop_0 : {A : Type 0} (n : ℕ) (xs : List A) → n ≡ 0 → drop n xs ≡ xs
drop_0 n xs e = rw e refl

last-few : {A : Type 0} (k : ℕ) (xs : List A) (x : A) → length xs < k → last_of k (last_of k xs ++ x ∷ []) ≡ last_of k (xs ++ x ∷ [])
last-few k xs x few =
    let same : last_of k xs ≡ xs = drop_0 (length xs - k) xs (omega arith) in
    ap (λ ys. last_of k (ys ++ x ∷ [])) same

last-many : {A : Type 0} (k : ℕ) (xs : List A) (x : A) → 0 < k → k ≤ length xs → last_of k (last_of k xs ++ x ∷ []) ≡ last_of k (xs ++ x ∷ [])
last-many k xs x some many =
    let kept = drop (length xs - k) xs in
    let one : length (kept ++ x ∷ []) - k ≡ 1 = omega (arith, length-append kept (x ∷ []), length-drop (length xs - k) xs) in
    let all : length (xs ++ x ∷ []) - k ≡ (length xs - k) + 1 = omega (arith, length-append xs (x ∷ [])) in
    ap (λ n. drop n (kept ++ x ∷ [])) one
    ∙ drop-append-le 1 kept (x ∷ []) (omega (arith, length-drop (length xs - k) xs))
    ∙ ap (λ ys. ys ++ x ∷ []) (drop-drop 1 (length xs - k) xs)
    ∙ sym (drop-append-le ((length xs - k) + 1) xs (x ∷ []) (omega arith))
    ∙ sym (ap (λ n. drop n (xs ++ x ∷ [])) all)

-- the last ones of the last ones and one more
pub last-push : {A : Type 0} (k : ℕ) (xs : List A) (x : A) → 0 < k → last_of k (last_of k xs ++ x ∷ []) ≡ last_of k (xs ++ x ∷ [])
last-push k xs x some = elim (cases_lt (length xs) k) [ inl few ↦ last-few k xs x few | inr many ↦ last-many k xs x some many ]

pub last_points-push : (samples : List Sample) (s : Sample)
    → last_of MOST_POINTS (last_points samples ++ point_of (samples ++ s ∷ []) ∷ []) ≡ last_points (samples ++ s ∷ [])
last_points-push samples s =
    last-push MOST_POINTS (points samples) (point_of (samples ++ s ∷ [])) (omega arith)
    ∙ ap (λ ps. last_of MOST_POINTS ps) (sym (each_by-push (λ before y. point_of (before ++ y ∷ [])) [] samples s))

-- ---- sums

pub sums-push : (ps : List Point) (p : Point) → with_point (sums_of ps) p ≡ sums_of (ps ++ p ∷ [])
sums-push ps p = rw (total-push x_of ps p, total-push y_of ps p, total-push product_of ps p, total-push square_of ps p) refl

pub sums-first : (p : Point) (ps : List Point) → without_point (sums_of (p ∷ ps)) p ≡ sums_of ps
sums-first p ps =
    rw (total-first x_of p ps, total-first y_of p ps, total-first product_of p ps, total-first square_of p ps) refl

-- ---- the relation

pub stands-more : (old new : Kept) (samples : List Sample) (s : Sample) (p : Point) → StandsFor old samples → p ≡ moved old.last s
    → new.points ≡ last_of MOST_POINTS (old.points ++ p ∷ []) → new.last ≡ p → new.count ≡ old.count + 1
    → StandsFor new (samples ++ s ∷ [])
stands-more old new samples s p h p_is points_is last_is count_is =
    let here : p ≡ point_of (samples ++ s ∷ []) = p_is ∙ ap (λ q. moved q s) h.last ∙ sym (point-push samples s) in
    record {
      points = points_is ∙ ap (λ q. last_of MOST_POINTS (old.points ++ q ∷ [])) here
          ∙ ap (λ ps. last_of MOST_POINTS (ps ++ point_of (samples ++ s ∷ []) ∷ [])) h.points ∙ last_points-push samples s;
      last = last_is ∙ here;
      count = omega (arith, count_is, h.count, length-append samples (s ∷ []));
    }
