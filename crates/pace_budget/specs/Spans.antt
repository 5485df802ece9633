-- What is taken over a span is bounded: by what the bucket may hold at its start, what comes in, and
-- one packet.
use Rattle.std.proofs.Common.{ℕ, ℤ, pos, ◌+◌, ◌*◌, ◌+ℤ◌, ◌<ℤ◌, ◌≤ℤ◌, List, [], ◌∷◌}
use Rattle.pace_budget.specs.Level.{Deed, Advance, Spend, Probe, Soft, bits}
use Rattle.pace_budget.specs.Steps.{step}

-- from this level on, the bucket is open at each packet that it has to be open for
abbrev pub Opens : ℤ → List Deed → Type 0
Opens now [] = Unit {0}
Opens now (Advance rate dt window ∷ ds) = Opens (step now (Advance rate dt window)) ds
Opens now (Spend size ∷ ds) = (pos 0 <ℤ now) × Opens (step now (Spend size)) ds
Opens now (Probe size ∷ ds) = Opens (step now (Probe size)) ds
Opens now (Soft amount ∷ ds) = Opens (step now (Soft amount)) ds

-- what packets took up to the last one that the bucket had to be open for, what probes took since
-- then, what time brought, and the size of that last packet
pub record Count : Type 0 where
  pub all : ℤ
  pub since : ℤ
  pub gained : ℕ
  pub last : ℕ

abbrev pub none_counted : Count
none_counted = record { all = pos 0; since = pos 0; gained = 0; last = 0 }

abbrev pub count : Count → Deed → Count
count n (Advance rate dt window) = record { all = n.all; since = n.since; gained = n.gained + rate * dt; last = n.last }
count n (Spend size) = record { all = n.all +ℤ n.since +ℤ bits size; since = pos 0; gained = n.gained; last = size }
count n (Probe size) = record { all = n.all; since = n.since +ℤ bits size; gained = n.gained; last = n.last }
count n (Soft amount) = n

-- no more was taken than this much, what came in, and the last packet
abbrev pub IsWithin : ℤ → Count → Type 0
IsWithin most n = n.all ≤ℤ (most +ℤ pos n.gained +ℤ bits n.last)
