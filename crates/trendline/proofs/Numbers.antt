-- Ranges of points and of sums over them.
use Rattle.std.proofs.Common.{ℕ, zero, suc, ℤ, pos, negsuc, neg_ℤ, ◌≡◌, ◌+ℤ◌, ◌-ℤ◌, ◌*ℤ◌, ◌+◌, ◌*◌, ◌^◌, ◌≤◌, ◌<◌, unsigned_abs, false, Some, None, List, [], ◌∷◌, length, All, arith, to_z, of_z, FitsSigned, refl, ap, sym, subst, ◌∙◌}
use Rattle.std.specs.Int.{w64, w128, IsNonZero, int_max, int_min}
use Rattle.std.specs.Ordering.{int_eq}
use Rattle.fixed_math.specs.Floor.{floor_div}
use mir.Syntax.{Width}
use mir.Val.{hbits}
use Rattle.std.proofs.lemmas.Int.{ints, to_z-of_z, unsigned_abs-mul, fits_signed_from_abs}
use Rattle.std.proofs.lemmas.Bool.Decides.{nat_tests}
use Rattle.std.proofs.lemmas.Nat.{mul-le}
use Rattle.std.proofs.lemmas.List.Elements.{All-head, All-tail, All-weaker}
use Rattle.trendline.specs.declared.TheConstants.{GREATEST_SLOPE, GREATEST_TIME}
use Rattle.trendline.specs.declared.sums.Point.{Point}
use Rattle.trendline.specs.declared.sums.Sums.{Sums}
use Rattle.trendline.specs.Trend.{total, x_of, y_of, product_of, square_of, sums_of, fit}
use Rattle.trendline.specs.Ranges.{IsNear, IsPointSmall, AreSmall, most_delay, with_point, without_point}

size-near : (n : ℕ) (z : ℤ) → IsNear n z → unsigned_abs z ≤ n
size-near n (pos a) h = omega (arith, ints, h.low, h.high)
size-near n (negsuc a) h = omega (arith, ints, h.low, h.high)

near-size : (n : ℕ) (z : ℤ) → unsigned_abs z ≤ n → IsNear n z
near-size n (pos a) h = record { low = omega (arith, ints); high = omega (arith, ints) }
near-size n (negsuc a) h = record { low = omega (arith, ints); high = omega (arith, ints) }

pub near-product : (m n : ℕ) (a b : ℤ) → IsNear m a → IsNear n b → IsNear (m * n) (a *ℤ b)
near-product m n a b h k =
    near-size (m * n) (a *ℤ b) (rw unsigned_abs-mul (mul-le (unsigned_abs a) (unsigned_abs b) m n (size-near m a h) (size-near n b k)))

pub near-sum : (m n : ℕ) (a b : ℤ) → IsNear m a → IsNear n b → IsNear (m + n) (a +ℤ b)
near-sum m n a b h k = record { low = omega (arith, ints, h.low, h.high, k.low, k.high); high = omega (arith, ints, h.low, h.high, k.low, k.high) }

pub near-difference : (m n : ℕ) (a b : ℤ) → IsNear m a → IsNear n b → IsNear (m + n) (a -ℤ b)
near-difference m n a b h k = record { low = omega (arith, ints, h.low, h.high, k.low, k.high); high = omega (arith, ints, h.low, h.high, k.low, k.high) }

pub near-wider : (m n : ℕ) (z : ℤ) → m ≤ n → IsNear m z → IsNear n z
near-wider m n z le h = record { low = omega (arith, ints, h.low, h.high); high = omega (arith, ints, h.low, h.high) }

pub near-total : {A : Type 0} (f : A → ℤ) (most : ℕ) (xs : List A) → All (λ x. IsNear most (f x)) xs → IsNear (length xs * most) (total f xs)
near-total f most [] h = record { low = omega (arith, ints); high = omega (arith, ints) }
near-total {A} f most (x ∷ xs) h =
    let P : A → Type 0 = λ y. IsNear most (f y) in
    let here = near-sum most (length xs * most) (f x) (total f xs) (All-head P x xs h) (near-total f most xs (All-tail P x xs h)) in
    near-wider (most + length xs * most) (length (x ∷ xs) * most) (total f (x ∷ xs)) (omega arith) here

-- sums over no more than so many small points
pub sums-small : (count : ℕ) (ps : List Point) → length ps ≤ count → All IsPointSmall ps → AreSmall count (sums_of ps)
sums-small count ps few small =
    record {
      x = part x_of GREATEST_TIME (λ p h. h.x);
      y = part y_of most_delay (λ p h. h.y);
      xy = part product_of (GREATEST_TIME * most_delay) (λ p h. near-product GREATEST_TIME most_delay p.x p.y h.x h.y);
      xx = part square_of (GREATEST_TIME * GREATEST_TIME) (λ p h. near-product GREATEST_TIME GREATEST_TIME p.x p.x h.x h.x);
    }
  where
    part : (f : Point → ℤ) (most : ℕ) → ((p : Point) → IsPointSmall p → IsNear most (f p)) → IsNear (count * most) (total f ps)
    part f most each =
        near-wider (length ps * most) (count * most) (total f ps) (mul-le (length ps) most count most few (omega arith))
        (near-total f most ps (All-weaker IsPointSmall (λ p. IsNear most (f p)) each ps small))

pub near-same : (n : ℕ) (a b : ℤ) → a ≡ b → IsNear n b → IsNear n a
near-same n a b e h = let P : ℤ → Type 0 = IsNear n in subst P (sym e) h

-- ---- the code's numbers without their casts

pub fits-near : (w : Width) (n : ℕ) (z : ℤ) → IsNear n z → n < 2 ^ hbits w → FitsSigned w z
fits-near w n z h small = fits_signed_from_abs w z (omega (arith, size-near n z h))

pub whole : (w : Width) (n : ℕ) (z : ℤ) → IsNear n z → n < 2 ^ hbits w → to_z w (of_z w z) ≡ z
whole w n z h small = to_z-of_z w z (fits-near w n z h small)

sum-whole : (w : Width) (m n : ℕ) (a b : ℤ) → IsNear m a → IsNear n b → m + n < 2 ^ hbits w → to_z w (of_z w a) +ℤ to_z w (of_z w b) ≡ a +ℤ b
sum-whole w m n a b h k small =
    ap (λ z. z +ℤ to_z w (of_z w b)) (whole w m a h (omega arith)) ∙ ap (λ z. a +ℤ z) (whole w n b k (omega arith))

pub sum-fits : (w : Width) (m n : ℕ) (a b : ℤ) → IsNear m a → IsNear n b → m + n < 2 ^ hbits w → FitsSigned w (to_z w (of_z w a) +ℤ to_z w (of_z w b))
sum-fits w m n a b h k small =
    fits-near w (m + n) _ (near-same (m + n) _ (a +ℤ b) (sum-whole w m n a b h k small) (near-sum m n a b h k)) small

pub sum-is : (w : Width) (m n : ℕ) (a b : ℤ) → IsNear m a → IsNear n b → m + n < 2 ^ hbits w
    → to_z w (of_z w (to_z w (of_z w a) +ℤ to_z w (of_z w b))) ≡ a +ℤ b
sum-is w m n a b h k small =
    ap (λ z. to_z w (of_z w z)) (sum-whole w m n a b h k small) ∙ whole w (m + n) (a +ℤ b) (near-sum m n a b h k) small

difference-whole : (w : Width) (m n : ℕ) (a b : ℤ) → IsNear m a → IsNear n b → m + n < 2 ^ hbits w → to_z w (of_z w a) -ℤ to_z w (of_z w b) ≡ a -ℤ b
difference-whole w m n a b h k small =
    ap (λ z. z -ℤ to_z w (of_z w b)) (whole w m a h (omega arith)) ∙ ap (λ z. a -ℤ z) (whole w n b k (omega arith))

pub difference-fits : (w : Width) (m n : ℕ) (a b : ℤ) → IsNear m a → IsNear n b → m + n < 2 ^ hbits w → FitsSigned w (to_z w (of_z w a) -ℤ to_z w (of_z w b))
difference-fits w m n a b h k small =
    fits-near w (m + n) _ (near-same (m + n) _ (a -ℤ b) (difference-whole w m n a b h k small) (near-difference m n a b h k)) small

pub difference-is : (w : Width) (m n : ℕ) (a b : ℤ) → IsNear m a → IsNear n b → m + n < 2 ^ hbits w
    → to_z w (of_z w (to_z w (of_z w a) -ℤ to_z w (of_z w b))) ≡ a -ℤ b
difference-is w m n a b h k small =
    ap (λ z. to_z w (of_z w z)) (difference-whole w m n a b h k small) ∙ whole w (m + n) (a -ℤ b) (near-difference m n a b h k) small

-- the product of two numbers of 64 bits
pub product-is : (m n : ℕ) (a b r : ℤ) → IsNear m a → IsNear n b → m < 2 ^ 63 → n < 2 ^ 63 → r ≡ to_z w64 (of_z w64 a) *ℤ to_z w64 (of_z w64 b) → r ≡ a *ℤ b
product-is m n a b r h k m_small n_small e =
    e ∙ ap (λ z. z *ℤ to_z w64 (of_z w64 b)) (whole w64 m a h m_small) ∙ ap (λ z. a *ℤ z) (whole w64 n b k n_small)

pub near-times : (k n : ℕ) (a : ℤ) → IsNear n a → IsNear (k * n) (pos k *ℤ a)
near-times k n a h = near-product k n (pos k) a (record { low = omega (arith, ints); high = omega (arith, ints) }) h

times-whole : (k n : ℕ) (a : ℤ) → IsNear n a → n < 2 ^ 127 → pos k *ℤ to_z w128 (of_z w128 a) ≡ pos k *ℤ a
times-whole k n a h small = ap (λ z. pos k *ℤ z) (whole w128 n a h small)

pub times-fits : (k n : ℕ) (a : ℤ) → IsNear n a → n < 2 ^ 127 → k * n < 2 ^ 127 → FitsSigned w128 (pos k *ℤ to_z w128 (of_z w128 a))
times-fits k n a h n_small small =
    fits-near w128 (k * n) _ (near-same (k * n) _ (pos k *ℤ a) (times-whole k n a h n_small) (near-times k n a h)) small

-- so many times a sum, less a product of two sums
pub record Line (k : ℕ) (most : ℕ) (a x y r : ℤ) : Type 0 where
  pub fits : FitsSigned w128 (to_z w128 (of_z w128 (pos k *ℤ to_z w128 (of_z w128 a))) -ℤ to_z w128 (of_z w128 r))
  pub is : to_z w128 (of_z w128 (to_z w128 (of_z w128 (pos k *ℤ to_z w128 (of_z w128 a))) -ℤ to_z w128 (of_z w128 r))) ≡ (pos k *ℤ a) -ℤ (x *ℤ y)
  pub near : IsNear most (to_z w128 (of_z w128 (to_z w128 (of_z w128 (pos k *ℤ to_z w128 (of_z w128 a))) -ℤ to_z w128 (of_z w128 r))))

pub line : (k n m l : ℕ) (a x y r : ℤ) → IsNear n a → IsNear m x → IsNear l y → n < 2 ^ 127 → m < 2 ^ 63 → l < 2 ^ 63 → k * n + m * l < 2 ^ 127
    → r ≡ to_z w64 (of_z w64 x) *ℤ to_z w64 (of_z w64 y) → Line k (k * n + m * l) a x y r
line k n m l a x y r h hx hy n_small m_small l_small small e =
    let r_is : r ≡ x *ℤ y = product-is m l x y r hx hy m_small l_small e in
    let r_near : IsNear (m * l) r = near-same (m * l) r (x *ℤ y) r_is (near-product m l x y hx hy) in
    let times : ℤ = pos k *ℤ to_z w128 (of_z w128 a) in
    let times_is : times ≡ pos k *ℤ a = times-whole k n a h n_small in
    let times_near : IsNear (k * n) times = near-same (k * n) times (pos k *ℤ a) times_is (near-times k n a h) in
    let is = difference-is w128 (k * n) (m * l) times r times_near r_near small in
    record {
      fits = difference-fits w128 (k * n) (m * l) times r times_near r_near small;
      is = is ∙ ap (λ z. z -ℤ r) times_is ∙ ap (λ z. (pos k *ℤ a) -ℤ z) r_is;
      near = near-same (k * n + m * l) _ (times -ℤ r) is (near-difference (k * n) (m * l) times r times_near r_near);
    }

-- ---- one more point

pub with-small : (s : Sums) (p : Point) → AreSmall 20 s → IsPointSmall p → AreSmall 21 (with_point s p)
with-small s p h k =
    record {
      x = wide GREATEST_TIME s.x p.x h.x k.x;
      y = wide most_delay s.y p.y h.y k.y;
      xy = wide (GREATEST_TIME * most_delay) s.xy (p.x *ℤ p.y) h.xy (near-product GREATEST_TIME most_delay p.x p.y k.x k.y);
      xx = wide (GREATEST_TIME * GREATEST_TIME) s.xx (p.x *ℤ p.x) h.xx (near-product GREATEST_TIME GREATEST_TIME p.x p.x k.x k.x);
    }
  where
    wide : (most : ℕ) (a b : ℤ) → IsNear (20 * most) a → IsNear most b → IsNear (21 * most) (a +ℤ b)
    wide most a b f g = near-wider (20 * most + most) (21 * most) (a +ℤ b) (omega arith) (near-sum (20 * most) most a b f g)

abbrev pub sums_by : ℤ → ℤ → ℤ → ℤ → Sums
sums_by x y xy xx = record { x = x; y = y; xy = xy; xx = xx }

pub same-sums : (x y xy xx u v uv uu : ℤ) → x ≡ u → y ≡ v → xy ≡ uv → xx ≡ uu → sums_by x y xy xx ≡ sums_by u v uv uu
same-sums x y xy xx u v uv uu e f g h =
    ap (λ z. sums_by z y xy xx) e ∙ ap (λ z. sums_by u z xy xx) f ∙ ap (λ z. sums_by u v z xx) g ∙ ap (λ z. sums_by u v uv z) h

-- ---- the point after a sample

moved-whole : (a b : ℤ) → FitsSigned w64 a → FitsSigned w64 b → to_z w64 (of_z w64 a) +ℤ to_z w64 (of_z w64 b) ≡ a +ℤ b
moved-whole a b f g = ap (λ z. z +ℤ to_z w64 (of_z w64 b)) (to_z-of_z w64 a f) ∙ ap (λ z. a +ℤ z) (to_z-of_z w64 b g)

pub moved-fits : (n : ℕ) (a b : ℤ) → FitsSigned w64 a → FitsSigned w64 b → IsNear n (a +ℤ b) → n < 2 ^ 63 → FitsSigned w64 (to_z w64 (of_z w64 a) +ℤ to_z w64 (of_z w64 b))
moved-fits n a b f g h small = fits-near w64 n _ (near-same n _ (a +ℤ b) (moved-whole a b f g) h) small

pub moved-is : (n : ℕ) (a b : ℤ) → FitsSigned w64 a → FitsSigned w64 b → IsNear n (a +ℤ b) → n < 2 ^ 63
    → to_z w64 (of_z w64 (to_z w64 (of_z w64 a) +ℤ to_z w64 (of_z w64 b))) ≡ a +ℤ b
moved-is n a b f g h small = ap (λ z. to_z w64 (of_z w64 z)) (moved-whole a b f g) ∙ whole w64 n (a +ℤ b) h small

-- ---- the code's sums

-- the sums with a point more, of the code, are those of the bare numbers
pub added-is : (s : Sums) (p : Point) (xy xx : ℤ) → AreSmall 20 s → IsPointSmall p
    → xy ≡ to_z w64 (of_z w64 p.x) *ℤ to_z w64 (of_z w64 p.y) → xx ≡ to_z w64 (of_z w64 p.x) *ℤ to_z w64 (of_z w64 p.x)
    → sums_by (to_z w64 (of_z w64 (to_z w64 (of_z w64 s.x) +ℤ to_z w64 (of_z w64 p.x)))) (to_z w64 (of_z w64 (to_z w64 (of_z w64 s.y) +ℤ to_z w64 (of_z w64 p.y))))
    (to_z w128 (of_z w128 (to_z w128 (of_z w128 s.xy) +ℤ to_z w128 (of_z w128 xy)))) (to_z w128 (of_z w128 (to_z w128 (of_z w128 s.xx) +ℤ to_z w128 (of_z w128 xx))))
    ≡ with_point s p
added-is s p xy xx h k e f =
    let xy_is : xy ≡ p.x *ℤ p.y = product-is GREATEST_TIME most_delay p.x p.y xy k.x k.y (omega arith) (omega arith) e in
    let xx_is : xx ≡ p.x *ℤ p.x = product-is GREATEST_TIME GREATEST_TIME p.x p.x xx k.x k.x (omega arith) (omega arith) f in
    let xy_near = near-same (GREATEST_TIME * most_delay) xy (p.x *ℤ p.y) xy_is (near-product GREATEST_TIME most_delay p.x p.y k.x k.y) in
    let xx_near = near-same (GREATEST_TIME * GREATEST_TIME) xx (p.x *ℤ p.x) xx_is (near-product GREATEST_TIME GREATEST_TIME p.x p.x k.x k.x) in
    same-sums _ _ _ _ (s.x +ℤ p.x) (s.y +ℤ p.y) (s.xy +ℤ (p.x *ℤ p.y)) (s.xx +ℤ (p.x *ℤ p.x))
    (sum-is w64 (20 * GREATEST_TIME) GREATEST_TIME s.x p.x h.x k.x (omega arith))
    (sum-is w64 (20 * most_delay) most_delay s.y p.y h.y k.y (omega arith))
    (sum-is w128 (20 * (GREATEST_TIME * most_delay)) (GREATEST_TIME * most_delay) s.xy xy h.xy xy_near (omega arith) ∙ ap (λ z. s.xy +ℤ z) xy_is)
    (sum-is w128 (20 * (GREATEST_TIME * GREATEST_TIME)) (GREATEST_TIME * GREATEST_TIME) s.xx xx h.xx xx_near (omega arith) ∙ ap (λ z. s.xx +ℤ z) xx_is)

pub taken-is : (s : Sums) (p : Point) (xy xx : ℤ) → AreSmall 21 s → IsPointSmall p
    → xy ≡ to_z w64 (of_z w64 p.x) *ℤ to_z w64 (of_z w64 p.y) → xx ≡ to_z w64 (of_z w64 p.x) *ℤ to_z w64 (of_z w64 p.x)
    → sums_by (to_z w64 (of_z w64 (to_z w64 (of_z w64 s.x) -ℤ to_z w64 (of_z w64 p.x)))) (to_z w64 (of_z w64 (to_z w64 (of_z w64 s.y) -ℤ to_z w64 (of_z w64 p.y))))
    (to_z w128 (of_z w128 (to_z w128 (of_z w128 s.xy) -ℤ to_z w128 (of_z w128 xy)))) (to_z w128 (of_z w128 (to_z w128 (of_z w128 s.xx) -ℤ to_z w128 (of_z w128 xx))))
    ≡ without_point s p
taken-is s p xy xx h k e f =
    let xy_is : xy ≡ p.x *ℤ p.y = product-is GREATEST_TIME most_delay p.x p.y xy k.x k.y (omega arith) (omega arith) e in
    let xx_is : xx ≡ p.x *ℤ p.x = product-is GREATEST_TIME GREATEST_TIME p.x p.x xx k.x k.x (omega arith) (omega arith) f in
    let xy_near = near-same (GREATEST_TIME * most_delay) xy (p.x *ℤ p.y) xy_is (near-product GREATEST_TIME most_delay p.x p.y k.x k.y) in
    let xx_near = near-same (GREATEST_TIME * GREATEST_TIME) xx (p.x *ℤ p.x) xx_is (near-product GREATEST_TIME GREATEST_TIME p.x p.x k.x k.x) in
    same-sums _ _ _ _ (s.x -ℤ p.x) (s.y -ℤ p.y) (s.xy -ℤ (p.x *ℤ p.y)) (s.xx -ℤ (p.x *ℤ p.x))
    (difference-is w64 (21 * GREATEST_TIME) GREATEST_TIME s.x p.x h.x k.x (omega arith))
    (difference-is w64 (21 * most_delay) most_delay s.y p.y h.y k.y (omega arith))
    (difference-is w128 (21 * (GREATEST_TIME * most_delay)) (GREATEST_TIME * most_delay) s.xy xy h.xy xy_near (omega arith) ∙ ap (λ z. s.xy -ℤ z) xy_is)
    (difference-is w128 (21 * (GREATEST_TIME * GREATEST_TIME)) (GREATEST_TIME * GREATEST_TIME) s.xx xx h.xx xx_near (omega arith) ∙ ap (λ z. s.xx -ℤ z) xx_is)

-- ---- the slope

-- a number in range is not the least of 128 bits
pub not-least : (n : ℕ) (z : ℤ) → IsNear n z → n < 2 ^ 127 → of_z w128 z ≡ 2 ^ 127 → ⊥
not-least n (pos a) h small e = omega (arith, size-near n (pos a) h)
not-least n (negsuc a) h small e = omega (arith, size-near n (negsuc a) h)

pub rise-whole : (k n : ℕ) (a : ℤ) → IsNear n a → n < 2 ^ 127 → k * n < 2 ^ 127 → to_z w128 (of_z w128 (pos k *ℤ to_z w128 (of_z w128 a))) ≡ pos k *ℤ a
rise-whole k n a h n_small small =
    ap (λ z. to_z w128 (of_z w128 z)) (times-whole k n a h n_small) ∙ whole w128 (k * n) (pos k *ℤ a) (near-times k n a h) small

pub rise-not_least : (n : ℕ) (a : ℤ) → IsNear n a → 4 * n < 2 ^ 127 → of_z w128 (to_z w128 (of_z w128 (pos 4 *ℤ to_z w128 (of_z w128 a)))) ≡ 2 ^ 127 → ⊥
rise-not_least n a h small e =
    not-least (4 * n) (pos 4 *ℤ a) (near-times 4 n a h) small (ap (of_z w128) (sym (rise-whole 4 n a h (omega arith) small)) ∙ e)

zero-of : (n : ℕ) (z : ℤ) → IsNear n z → n < 2 ^ 127 → of_z w128 z ≡ 0 → z ≡ pos 0
zero-of n (pos a) h small e = ap pos e
zero-of n (negsuc a) h small e = absurd (omega (arith, size-near n (negsuc a) h))

more-of : (m : ℕ) → (m ≡ 0 → ⊥) → 0 < m
more-of zero h = absurd (h refl)
more-of (suc m) h = omega arith

pub nonzero-of : (n : ℕ) (z : ℤ) → IsNear n z → n < 2 ^ 127 → (of_z w128 z ≡ 0 → ⊥) → IsNonZero w128 (to_z w128 (of_z w128 z))
nonzero-of n z h small some =
    let P : ℤ → Type 0 = λ x. 0 < of_z w128 x in subst P (sym (whole w128 n z h small)) (more-of (of_z w128 z) some)

pub fit-none : (rise spread : ℤ) (n : ℕ) → IsNear n spread → n < 2 ^ 127 → of_z w128 spread ≡ 0 → None ≡ fit rise spread
fit-none rise spread n h small e = let zero_is : spread ≡ pos 0 = zero-of n spread h small e in rw zero_is refl

some-test : (z : ℤ) → (of_z w128 z ≡ 0 → ⊥) → int_eq z (pos 0) ≡ false
some-test (pos zero) h = absurd (h refl)
some-test (pos (suc a)) h = grind (arith, ints, nat_tests)
some-test (negsuc a) h = refl

pub fit-some : (rise spread q r : ℤ) → (of_z w128 spread ≡ 0 → ⊥) → q ≡ floor_div (pos 4 *ℤ rise) spread
    → r ≡ int_max (neg_ℤ GREATEST_SLOPE) (int_min q GREATEST_SLOPE) → Some r ≡ fit rise spread
fit-some rise spread q r some q_is r_is =
    let test : int_eq spread (pos 0) ≡ false = some-test spread some in
    rw test (ap Some (r_is ∙ ap (λ z. int_max (neg_ℤ GREATEST_SLOPE) (int_min z GREATEST_SLOPE)) q_is))
