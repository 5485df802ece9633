-- What is taken over a span stays within its bound; spans in parts.
use Rattle.std.proofs.Common.{ℤ, pos, ◌+◌, ◌+ℤ◌, ◌<ℤ◌, ◌≤ℤ◌, List, [], ◌∷◌, ◌++◌, fold, arith}
use Rattle.std.proofs.lemmas.Int.{ints, clamps}
use Rattle.pace_budget.specs.Level.{Deed, Advance, Spend, Probe, Soft}
use Rattle.pace_budget.specs.Steps.{step}
use Rattle.pace_budget.specs.Spans.{Opens, Count, count, IsWithin}

-- and this stays so, where the level is at most what is left of it
pub count-within : (most now : ℤ) (n : Count) (ds : List Deed) → Opens now ds
    → (now +ℤ n.all +ℤ n.since) ≤ℤ (most +ℤ pos n.gained) → IsWithin most n → IsWithin most (fold count n ds)
count-within most now n [] opens low within = within
count-within most now n (Advance rate dt window ∷ ds) opens low within =
    count-within most (step now (Advance rate dt window)) (count n (Advance rate dt window)) ds opens (omega (arith, ints, clamps)) (omega (arith, ints))
count-within most now n (Spend size ∷ ds) opens low within =
    let here : pos 0 <ℤ now = opens.0 in
    count-within most (step now (Spend size)) (count n (Spend size)) ds opens.1 (omega (arith, ints)) (omega (arith, ints))
count-within most now n (Probe size ∷ ds) opens low within =
    count-within most (step now (Probe size)) (count n (Probe size)) ds opens (omega (arith, ints)) within
count-within most now n (Soft amount ∷ ds) opens low within =
    count-within most (step now (Soft amount)) (count n (Soft amount)) ds opens (omega (arith, ints)) within

-- one list of deeds after another
pub Opens-append : (now : ℤ) (ds es : List Deed) → Opens now ds → Opens (fold step now ds) es → Opens now (ds ++ es)
Opens-append now [] es first second = second
Opens-append now (Advance rate dt window ∷ ds) es first second = Opens-append (step now (Advance rate dt window)) ds es first second
Opens-append now (Spend size ∷ ds) es first second = (first.0, Opens-append (step now (Spend size)) ds es first.1 second)
Opens-append now (Probe size ∷ ds) es first second = Opens-append (step now (Probe size)) ds es first second
Opens-append now (Soft amount ∷ ds) es first second = Opens-append (step now (Soft amount)) ds es first second

pub Opens-front : (now : ℤ) (ds es : List Deed) → Opens now (ds ++ es) → Opens now ds
Opens-front now [] es opens = tt
Opens-front now (Advance rate dt window ∷ ds) es opens = Opens-front (step now (Advance rate dt window)) ds es opens
Opens-front now (Spend size ∷ ds) es opens = (opens.0, Opens-front (step now (Spend size)) ds es opens.1)
Opens-front now (Probe size ∷ ds) es opens = Opens-front (step now (Probe size)) ds es opens
Opens-front now (Soft amount ∷ ds) es opens = Opens-front (step now (Soft amount)) ds es opens

pub Opens-rest : (now : ℤ) (ds es : List Deed) → Opens now (ds ++ es) → Opens (fold step now ds) es
Opens-rest now [] es opens = opens
Opens-rest now (Advance rate dt window ∷ ds) es opens = Opens-rest (step now (Advance rate dt window)) ds es opens
Opens-rest now (Spend size ∷ ds) es opens = Opens-rest (step now (Spend size)) ds es opens.1
Opens-rest now (Probe size ∷ ds) es opens = Opens-rest (step now (Probe size)) ds es opens
Opens-rest now (Soft amount ∷ ds) es opens = Opens-rest (step now (Soft amount)) ds es opens
