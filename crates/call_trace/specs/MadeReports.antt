-- The reports of a made trace. A word of the generator tells when a packet arrives, or that it does not.
use Rattle.std.specs.Prelude.{◌<◌, ◌≤◌, ℕ, zero, suc, ◌+◌, ◌-◌, ◌*◌, ◌/◌, ◌%◌, ◌^◌, pos, ◌-ℤ◌, nat_lt, nat_le, ◌==◌, ◌&&◌, if◌then◌else◌, Option, None, Some, unwrap_or, List, [], ◌∷◌, slice_index}
use Rattle.std.specs.List.{All}
use Rattle.rand_core.specs.Stream.{Stream, next_u64}
use Rattle.rand_core.specs.Steps.{stream_of, steps_u64_high}
use Rattle.rand_xoshiro.specs.SplitMix64.{splitmix_seed}
use Rattle.rand_xoshiro.specs.Xoshiro256.{plus_plus, of_seed}
use Rattle.twcc_report.specs.declared.report.Status.{Status}
use Rattle.twcc_report.specs.declared.report.Status.TheVariants.{NotReceived, Small, Large}
use Rattle.twcc_report.specs.Spelling.{Feedback}
use Rattle.gcc_units.specs.declared.limits.TheConstants.{ARRIVAL_MICROSECONDS, MOST_LINES}

-- ---- words

-- what a generator in this state answers from now on, and the one that a seed makes
abbrev pub words_at : List ℕ → Stream
words_at state = stream_of (steps_u64_high plus_plus) state

abbrev pub words_of : ℕ → Stream
words_of seed = words_at (of_seed (splitmix_seed 32 seed))

-- what is left after so many words
unfoldable pub words_after : ℕ → Stream → Stream
words_after zero words = words
words_after (suc n) words = (next_u64 (words_after n words)).1

-- ---- arrivals, in quarter-milliseconds

-- 20 ms on the way, and the jitter of up to 15 quarter-milliseconds that the word adds; one of 64 packets is lost
abbrev pub fastest : ℕ → ℕ
fastest sent_at = sent_at / ARRIVAL_MICROSECONDS + 80

abbrev pub arrival : ℕ → ℕ → Option ℕ
arrival sent_at word = if word / 2 ^ 32 % 64 == 0 then None else Some (fastest sent_at + word % 16)

-- of packets that were sent at these moments: one word is drawn for each
unfoldable pub arrivals : Stream → List ℕ → List (Option ℕ)
arrivals words [] = []
arrivals words (sent_at ∷ moments) = arrival sent_at (next_u64 words).0 ∷ arrivals (next_u64 words).1 moments

-- the first that there is, or else this one
abbrev pub first_or : ℕ → List (Option ℕ) → ℕ
first_or other [] = other
first_or other (None ∷ rest) = first_or other rest
first_or other (Some a ∷ rest) = a

-- ---- reports

-- a delta from 0 to 255 is small
abbrev pub status : ℕ → Option ℕ → Status
status before None = NotReceived
status before (Some a) = if nat_le before a && nat_lt (a - before) 256 then Small (a - before) else Large (pos a -ℤ pos before)

-- each delta counts from the arrival before it, the first from this one
unfoldable pub statuses : ℕ → List (Option ℕ) → List Status
statuses before [] = []
statuses before (there ∷ rest) = status before there ∷ statuses (unwrap_or there before) rest

-- in units of 64 milliseconds: of the first arrival, or of the fastest one of the first packet
abbrev pub reference : List ℕ → List (Option ℕ) → ℕ
reference moments there = first_or (fastest (slice_index moments 0)) there / 256

-- the report on packets that were sent at these moments, after so many reports and so many covered numbers
abbrev pub report : Stream → ℕ → ℕ → List ℕ → Feedback
report words before covered moments =
    let there = arrivals words moments in
    record {
      sender = 1;
      media = 2;
      base = covered % 2 ^ 16;
      reference = pos (reference moments there);
      feedback = before % 256;
      statuses = statuses (256 * reference moments there) there;
    }

-- ---- what keeps a report's deltas within 16 bits, and its reference within 24

pub record IsNear (distance a b : ℕ) : Type 0 where
  pub above : b ≤ a + distance
  pub below : a ≤ b + distance

-- packets that were sent within 50 ms of the first, and early enough
pub record AreNear (moments : List ℕ) : Type 0 where
  pub each : All (IsNear 50000 (slice_index moments 0)) moments
  pub early : slice_index moments 0 ≤ 5000 * MOST_LINES
