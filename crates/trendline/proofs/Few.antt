-- A few samples that soon follow one another are within what a trend takes.
use Rattle.std.proofs.Common.{ℕ, pos, ◌≡◌, ◌≤ℤ◌, ◌+◌, ◌*◌, ◌≤◌, ◌<◌, neg_ℤ, List, [], ◌∷◌, ◌++◌, length, take, All, arith, length-append}
use Rattle.std.proofs.lemmas.Int.{ints}
use Rattle.std.proofs.lemmas.List.{length-take}
use Rattle.std.proofs.lemmas.List.Elements.{All-push, All-take, All-weaker}
use Rattle.gcc_units.specs.declared.shared_types.Sample.{Sample}
use Rattle.gcc_units.specs.declared.limits.TheConstants.{GREATEST_DELAY}
use Rattle.trendline.specs.declared.TheConstants.{GREATEST_TIME}
use Rattle.trendline.specs.Trend.{total, gap_of}
use Rattle.trendline.specs.Ranges.{IsNear}
use Rattle.trendline.specs.KeptBySamples.{Kept, StandsFor, IsDelayWithin, AreWithin, TakesSample}
use Rattle.trendline.proofs.Numbers.{near-total, near-wider}

pub record IsSoon (s : Sample) : Type 0 where
  pub delay : IsDelayWithin s
  pub gap : IsNear 1000 s.arrival_gap

pub soon-of : (s : Sample) → neg_ℤ GREATEST_DELAY ≤ℤ s.d → s.d ≤ℤ GREATEST_DELAY → pos 0 ≤ℤ s.arrival_gap → s.arrival_gap ≤ℤ pos 1000 → IsSoon s
soon-of s d_low d_high low high = record {
  delay = record { low = d_low; high = d_high };
  gap = record { low = omega (arith, ints); high = high };
}

soon-within : (samples : List Sample) → length samples ≤ 20 → All IsSoon samples → AreWithin samples
soon-within samples few soon =
    record {
      few = omega (arith, few);
      delays = All-weaker IsSoon IsDelayWithin (λ s h. h.delay) samples soon;
      times = times;
    }
  where
    times : (k : ℕ) → IsNear GREATEST_TIME (total gap_of (take k samples))
    times k =
        near-wider (length (take k samples) * 1000) GREATEST_TIME (total gap_of (take k samples)) (omega (arith, few, length-take k samples))
        (near-total gap_of 1000 (take k samples) (All-take (λ (s : Sample). IsNear 1000 s.arrival_gap) k samples (All-weaker IsSoon (λ (s : Sample). IsNear 1000 s.arrival_gap) (λ s h. h.gap) samples soon)))

-- the trend was given so many samples, each soon
pub record Fed (now : Kept) (count : ℕ) : Type 0 where
  pub samples : List Sample
  pub stands : StandsFor now samples
  pub soon : All IsSoon samples
  pub all : length samples ≡ count

pub fed-takes : (now : Kept) (count : ℕ) (s : Sample) → Fed now count → count < 20 → IsSoon s → TakesSample now s
fed-takes now count s fed few soon =
    (fed.samples, fed.stands, soon-within (fed.samples ++ s ∷ []) (omega (arith, fed.all, few, length-append fed.samples (s ∷ []))) (All-push IsSoon fed.samples s fed.soon soon))

pub fed-more : (old new : Kept) (count : ℕ) (s : Sample) → Fed old count → IsSoon s → ((samples : List Sample) → StandsFor old samples → StandsFor new (samples ++ s ∷ []))
    → Fed new (count + 1)
fed-more old new count s fed soon stands =
    record {
      samples = fed.samples ++ s ∷ [];
      stands = stands fed.samples fed.stands;
      soon = All-push IsSoon fed.samples s fed.soon soon;
      all = omega (arith, fed.all, length-append fed.samples (s ∷ []));
    }
