-- The settings of a history, and the checks of a change.
use Rattle.std.specs.Prelude.{ℕ, ◌+◌, ◌*◌, ◌==◌, ◌&&◌, ◌||◌, not, nat_le, min, unwrap_or, Bool, true, false, if◌then◌else◌, Option, None, Some, List, [], ◌∷◌, ◌++◌, length, fold}
use Rattle.std.specs.List.{list_any}
use Rattle.gcc_units.specs.declared.limits.TheConstants.{LEAST_RATE, GREATEST_RATE, MOST_STREAMS, MOST_CLUSTERS}
use Rattle.pace_budget.specs.declared.bucket.TheConstants.{GREATEST_WINDOW}
use Rattle.allocator.specs.declared.stream.Stream.{Stream}
use Rattle.allocator.specs.Streams.{are_sound, ids_differ, changed}
use Rattle.pacer.specs.declared.pacing.TheConstants.{START_WINDOW, START_PADDING}
use Rattle.send_core.specs.declared.call.Call.{Call}
use Rattle.send_core.specs.declared.call.Call.TheVariants.{Configure}
use Rattle.send_core.specs.declared.call.Change.{Change}
use Rattle.send_core.specs.declared.call.Reply.{Reply}
use Rattle.send_core.specs.declared.call.Reply.TheVariants.{Configured}
use Rattle.send_core.specs.declared.call.Entry.{Entry}
use Rattle.send_core.specs.declared.settings.Settings.{Settings}
use Rattle.send_core.specs.declared.settings.TheConstants.{START_MIN, START_MAX, START_PERCENT, LEAST_PERCENT, GREATEST_PERCENT, LEAST_WINDOW, START_EXTENSION, LEAST_EXTENSION, GREATEST_EXTENSION}
use Rattle.send_core.specs.declared.planning.TheConstants.{FIRST_TIMES, SECOND_TIMES}

-- ---- settings

-- what a sender begins with
abbrev pub start_settings : Settings
start_settings = record {
  bounds = record { min = START_MIN; max = START_MAX };
  pacing_percent = START_PERCENT;
  window = START_WINDOW;
  padding_rate = START_PADDING;
  paced_audio = false;
  extension_id = START_EXTENSION;
}

-- each setting that the change names is the one that it gives
abbrev pub settings_after : Settings → Change → Settings
settings_after s change = record {
  bounds = record { min = unwrap_or change.min s.bounds.min; max = unwrap_or change.max s.bounds.max };
  pacing_percent = unwrap_or change.pacing_percent s.pacing_percent;
  window = unwrap_or change.window s.window;
  padding_rate = unwrap_or change.padding_rate s.padding_rate;
  paced_audio = unwrap_or change.paced_audio s.paced_audio;
  extension_id = unwrap_or change.extension_id s.extension_id;
}

-- what the call with its reply makes of the settings
abbrev pub settings_by : Settings → Call → Reply → Settings
settings_by s (Configure at change) (Configured moment rates shares) = settings_after s change
settings_by s call given = s

abbrev pub settings : List Entry → Settings
settings history = fold (λ s (e : Entry). settings_by s e.call e.reply) start_settings history

-- ---- streams

abbrev pub streams_by : List Stream → Call → Reply → List Stream
streams_by ss (Configure at change) (Configured moment rates shares) = changed ss change.streams.items change.removed.items
streams_by ss call given = ss

-- the streams in rising order of id
abbrev pub streams : List Entry → List Stream
streams history = fold (λ ss (e : Entry). streams_by ss e.call e.reply) [] history

-- ---- the clusters that a change plans

abbrev pub is_some : {A : Type 0} → Option A → Bool
is_some None = false
is_some (Some a) = true

-- an accepted change that holds a start
abbrev pub starts_by : Call → Reply → Bool
starts_by (Configure at change) (Configured moment rates shares) = is_some change.start
starts_by call given = false

-- one was there
abbrev pub started : List Entry → Bool
started history = list_any (λ (e : Entry). starts_by e.call e.reply) history

-- the first start plans two clusters, of so many times its rate
abbrev pub start_plans : Option ℕ → List ℕ
start_plans None = []
start_plans (Some rate) = min GREATEST_RATE (FIRST_TIMES * rate) ∷ min GREATEST_RATE (SECOND_TIMES * rate) ∷ []

abbrev pub probe_plans : Option ℕ → List ℕ
probe_plans None = []
probe_plans (Some rate) = rate ∷ []

abbrev pub plans : Bool → Change → List ℕ
plans started change = (if started then [] else start_plans change.start) ++ probe_plans change.probe

-- ---- the checks

abbrev pub is_rate : ℕ → Bool
is_rate rate = nat_le LEAST_RATE rate && nat_le rate GREATEST_RATE

-- what is there, if it is there, passes
abbrev pub passes : (ℕ → Bool) → Option ℕ → Bool
passes test None = true
passes test (Some n) = test n

-- Check 1: the rates are in their ranges.
abbrev pub has_rates : Change → Bool
has_rates change =
    (passes is_rate change.start && passes is_rate change.min) && (passes is_rate change.max && passes (λ n. nat_le n GREATEST_RATE) change.padding_rate) && passes is_rate change.probe

-- Check 2: after the change the least estimate is at most the greatest.
abbrev pub has_bounds : Settings → Change → Bool
has_bounds s change = nat_le (unwrap_or change.min s.bounds.min) (unwrap_or change.max s.bounds.max)

-- Check 3: percent and window are in their ranges.
abbrev pub has_pacing : Change → Bool
has_pacing change =
    passes (λ n. nat_le LEAST_PERCENT n && nat_le n GREATEST_PERCENT) change.pacing_percent && passes (λ n. nat_le LEAST_WINDOW n && nat_le n GREATEST_WINDOW) change.window

-- Check 4: the ID is in its range, and the one in force where it may not change any more.
abbrev pub may_be : Bool → ℕ → ℕ → Bool
may_be fixed in_force n = (nat_le LEAST_EXTENSION n && nat_le n GREATEST_EXTENSION) && (not fixed || (n == in_force))

abbrev pub has_extension : Bool → Settings → Change → Bool
has_extension fixed s change = passes (may_be fixed s.extension_id) change.extension_id

-- Check 7: no more streams than may be.
abbrev pub has_room : List Stream → Change → Bool
has_room ss change = nat_le (length (changed ss change.streams.items change.removed.items)) MOST_STREAMS

-- Check 8: no more clusters would wait than may.
abbrev pub has_clusters : ℕ → Bool → Change → Bool
has_clusters waiting started change = nat_le (waiting + length (plans started change)) MOST_CLUSTERS

-- what the checks look at beside the change: whether a packet was accepted or sent, the settings, the streams, how many clusters wait, and whether a start was there
pub record Standing : Type 0 where
  pub fixed : Bool
  pub settings : Settings
  pub streams : List Stream
  pub waiting : ℕ
  pub started : Bool

-- the first check that fails, if one does
abbrev pub fault_of : Standing → Change → Option ℕ
fault_of s change =
    if not (has_rates change) then Some 1
    else (if not (has_bounds s.settings change) then Some 2
    else (if not (has_pacing change) then Some 3
    else (if not (has_extension s.fixed s.settings change) then Some 4
    else (if not (are_sound change.streams.items) then Some 5
    else (if not (ids_differ change.streams.items change.removed.items) then Some 6
    else (if not (has_room s.streams change) then Some 7
    else (if not (has_clusters s.waiting s.started change) then Some 8
    else None)))))))
