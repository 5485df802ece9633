-- Shares grow with the level, so a level that does not fit bounds all that do.
use Rattle.std.proofs.Common.{◌≡◌, ℕ, ◌+◌, ◌-◌, ◌*◌, ◌<◌, ◌≤◌, ◌⊎◌, inl, inr, true, false, None, Some, List, [], ◌∷◌, map, refl, ap, ◌∙◌, arith}
use Rattle.std.proofs.Math.Nat.{mul-le-mul_left}
use Rattle.std.proofs.lemmas.Bool.{cases_lt}
use Rattle.std.proofs.lemmas.Bool.Decides.{nat_tests}
use Rattle.std.proofs.lemmas.List.Sums.{sum_by-le-sum_by}
use Rattle.gcc_units.specs.declared.limits.TheConstants.{GREATEST_RATE}
use Rattle.allocator.specs.declared.stream.Stream.{Stream}
use Rattle.allocator.specs.Greatest.{IsGreatest, greatest}
use Rattle.allocator.specs.Shares.{share_at, sum_at, fits, level_of, extra, spread, minimum, served, given, given_at, share_in, shares}
use Rattle.allocator.specs.Order.{in_order}
use Rattle.allocator.proofs.Greatest.{greatest-is, greatest-none, is_greatest}

share_grows : (a b : ℕ) (s : Stream) → a ≤ b → share_at a s ≤ share_at b s
share_grows a b s h = let grows : s.weight * a ≤ s.weight * b = mul-le-mul_left s.weight h in omega arith

pub sum_grows : (a b : ℕ) (streams : List Stream) → a ≤ b → sum_at a streams ≤ sum_at b streams
sum_grows a b streams h = sum_by-le-sum_by (share_at a) (share_at b) streams (λ s. share_grows a b s h)

-- where a level does not fit, those that fit are below it
pub below_unfit : (total : ℕ) (streams : List Stream) (middle m : ℕ) → total < sum_at middle streams → sum_at m streams ≤ total → m < middle
below_unfit total streams middle m unfit fit = at_order (cases_lt m middle)
  where
    at_order : (m < middle) ⊎ (middle ≤ m) → m < middle
    at_order (inl l) = l
    at_order (inr l) = let more : sum_at middle streams ≤ sum_at m streams = sum_grows middle m streams l in absurd (omega arith)

fits-is : (total : ℕ) (streams : List Stream) (m : ℕ) → sum_at m streams ≤ total → fits total streams m ≡ true
fits-is total streams m h = grind (arith, nat_tests)

is-fits : (total : ℕ) (streams : List Stream) (m : ℕ) → fits total streams m ≡ true → sum_at m streams ≤ total
is-fits total streams m h = grind (arith, nat_tests)

fits_not : (total : ℕ) (streams : List Stream) (m : ℕ) → total < sum_at m streams → fits total streams m ≡ false
fits_not total streams m h = grind (arith, nat_tests)

-- a level that fits, above which none does
pub level_is : (total : ℕ) (streams : List Stream) (low : ℕ) → low ≤ GREATEST_RATE → sum_at low streams ≤ total
    → ((m : ℕ) → m ≤ GREATEST_RATE → sum_at m streams ≤ total → m ≤ low) → level_of total streams ≡ Some low
level_is total streams low within fit greatest =
    greatest-is (fits total streams) GREATEST_RATE low
    (record {
      within = within;
      passes = fits-is total streams low fit;
      greatest = λ m l p. greatest m l (is-fits total streams m p);
    })

pub no_level : (total : ℕ) (streams : List Stream) → total < sum_at 0 streams → level_of total streams ≡ None
no_level total streams unfit =
    greatest-none (fits total streams) GREATEST_RATE
    (λ m l. fits_not total streams m (let more : sum_at 0 streams ≤ sum_at m streams = sum_grows 0 m streams (omega arith) in omega arith))

-- a level that is found is within its bound, and fits
pub level_within : (total : ℕ) (streams : List Stream) (level : ℕ) → level_of total streams ≡ Some level → level ≤ GREATEST_RATE
level_within total streams level h =
    let g : IsGreatest (fits total streams) GREATEST_RATE level = is_greatest (fits total streams) GREATEST_RATE level h in g.within

pub level_fits : (total : ℕ) (streams : List Stream) (level : ℕ) → level_of total streams ≡ Some level → sum_at level streams ≤ total
level_fits total streams level h =
    let g : IsGreatest (fits total streams) GREATEST_RATE level = is_greatest (fits total streams) GREATEST_RATE level h in
    is-fits total streams level g.passes

-- at level 0 with nothing left, each has its minimum
pub spread-minima : (streams : List Stream) → spread 0 0 streams ≡ map minimum streams
spread-minima [] = refl
spread-minima (s ∷ ss) =
    let rate : share_at 0 s + extra 0 0 s ≡ s.min = omega arith in
    let left : 0 - extra 0 0 s ≡ 0 = omega arith in
    rw (rate, left) (ap (λ shares. minimum s ∷ shares) (spread-minima ss))

-- what the code puts together is the shares
pub shares_is : (total : ℕ) (streams ordered lent : List Stream) (level left : ℕ) → ordered ≡ in_order streams → lent ≡ served total ordered
    → spread level left lent ≡ given_at (level_of total lent) total lent → map (share_in (spread level left lent)) streams ≡ shares total streams
unfolding shares
shares_is total streams ordered lent level left a b h =
    ap (λ g. map (share_in g) streams)
    (h ∙ ap (λ ss. given_at (level_of total ss) total ss) b ∙ ap (λ ss. given total ss) a)
