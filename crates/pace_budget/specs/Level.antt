-- The level of a bucket, as the least over all times from which it may have been filled.
use Rattle.std.specs.Prelude.{◌≡◌, ◌⊎◌, ℕ, ℤ, pos, negsuc, neg_ℤ, ◌*◌, ◌+ℤ◌, ◌-ℤ◌, ◌≤ℤ◌, ◌^◌, min, List, [], ◌∷◌, fold, All, Contains}
use Rattle.std.specs.Int.{int_min}
use Rattle.gcc_units.specs.declared.limits.TheConstants.{GREATEST_RATE, GREATEST_PACKET, BYTE}
use Rattle.pace_budget.specs.declared.bucket.TheConstants.{GREATEST_WINDOW}

-- What is done to a bucket. Time passes at a rate and under a window; a packet is sent for which the
-- bucket has to be open; an amount is taken that no packet had to wait for.
pub data Deed : Type 0 where
  Advance : (rate : ℕ) → (dt : ℕ) → (window : ℕ) → Deed
  Spend : (size : ℕ) → Deed
  Probe : (size : ℕ) → Deed
  Soft : (amount : ℕ) → Deed

-- a size in micro-bits
abbrev pub bits : ℕ → ℤ
bits size = pos (BYTE * size)

-- what a deed brings, below 0 where it takes
abbrev pub flow : Deed → ℤ
flow (Advance rate dt window) = pos (rate * dt)
flow (Spend size) = neg_ℤ (bits size)
flow (Probe size) = neg_ℤ (bits size)
flow (Soft amount) = neg_ℤ (pos amount)

-- what came in, less what was taken
abbrev pub inflow : List Deed → ℤ
inflow [] = pos 0
inflow (d ∷ ds) = flow d +ℤ inflow ds

-- for each time that was under a window: the full window, and the inflow since
abbrev pub starts : List Deed → List ℤ
starts [] = []
starts (Advance rate dt window ∷ ds) = (pos (rate * window) +ℤ inflow ds) ∷ starts ds
starts (Spend size ∷ ds) = starts ds
starts (Probe size ∷ ds) = starts ds
starts (Soft amount ∷ ds) = starts ds

-- the least over all starts, and the start at 0
abbrev pub level : List Deed → ℤ
level deeds = fold int_min (inflow deeds) (starts deeds)

-- the number is at most the other
abbrev pub IsAtMost : ℤ → ℤ → Type 0
IsAtMost a b = a ≤ℤ b

-- the least over all starts: at most the inflow from the empty bucket on, at most each start, and
-- one of these
pub record IsLeast (now : ℤ) (deeds : List Deed) : Type 0 where
  pub from_nothing : now ≤ℤ inflow deeds
  pub from_each : All (IsAtMost now) (starts deeds)
  pub reached : (now ≡ inflow deeds) ⊎ Contains (starts deeds) now

-- a bucket at this level stands for these deeds
pub record StandsFor (now : ℤ) (deeds : List Deed) : Type 0 where
  pub least : now ≡ level deeds

-- a number, or 0 where it is below 0
abbrev pub whole : ℤ → ℕ
whole (pos n) = n
whole (negsuc n) = 0

-- what a soft spend takes: the lesser of the size and of what stands above the floor
abbrev pub soft_amount : ℤ → ℕ → ℤ → ℕ
soft_amount now size floor = min (BYTE * size) (whole (now -ℤ floor))

-- the most that a level may hold
abbrev pub full : ℤ
full = pos (GREATEST_RATE * GREATEST_WINDOW)

-- the most that it may lack where a probe is sent, which takes one packet more
abbrev pub lacking : ℤ
lacking = pos (2 ^ 100)

pub record IsHeld (now : ℤ) : Type 0 where
  pub high : now ≤ℤ full
  pub low : neg_ℤ (lacking +ℤ bits GREATEST_PACKET) ≤ℤ now
