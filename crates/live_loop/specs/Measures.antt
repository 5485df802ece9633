-- The measures of a run, over lists of samples.
use Rattle.std.specs.Prelude.{◌≡◌, ℕ, ◌+◌, ◌-◌, ◌*◌, ◌/◌, ◌≤◌, ◌==◌, if◌then◌else◌, min, IsPermutation, IsSorted, List, length, sum, sum_by, slice_index_or}
use Rattle.std.specs.Int.{div_ceil}
use Rattle.std.specs.Ordering.{nat_cmp}
use Rattle.live_loop.specs.declared.sampling.Sample.{Sample}

-- so many of so many, in a thousand; 0 of nothing
abbrev pub per_mille : ℕ → ℕ → ℕ
per_mille part whole = if whole == 0 then 0 else 1000 * part / whole

abbrev pub mean_of : List ℕ → ℕ
mean_of micros = if length micros == 0 then 0 else sum micros / length micros / 1000

-- the place of the 95th of a hundred in a sorted list, counted from 1
abbrev pub rank : ℕ → ℕ
rank count = div_ceil (95 * count) 100

-- of the samples in rising order, the one at this place, in whole milliseconds
pub record IsPercentile (micros : List ℕ) (n : ℕ) : Type 0 where
  pub sorted : List ℕ
  pub same : IsPermutation micros sorted
  pub rises : IsSorted nat_cmp sorted
  pub value : n ≡ slice_index_or sorted (rank (length micros) - 1) 0 / 1000

abbrev pub carried_of : Sample → ℕ
carried_of s = s.carried

-- what a line of these rates carries in a tenth of a second each, and how much of it these bytes use
abbrev pub used_of : ℕ → List ℕ → ℕ
used_of bytes rates = per_mille (80 * bytes) (sum rates)

-- Jain's index of two shares
abbrev pub fairness_of : ℕ → ℕ → ℕ
fairness_of x y = per_mille ((x + y) * (x + y)) (2 * (x * x + y * y))
