-- What reports tell of packets: which arrived, and when (draft-holmer-rmcat-transport-wide-cc-extensions-01, section 3.1).
use Rattle.std.specs.Prelude.{◌≡◌, ℕ, ℤ, pos, ◌+ℤ◌, ◌*ℤ◌, ◌+◌, ◌%◌, ◌≤◌, ◌==◌, if◌then◌else◌, Option, Some, None, List, [], ◌∷◌, length, map}
use Rattle.std.specs.List.{flat_map, range_with_len}
use Rattle.std.specs.Option.{unwrap_or}
use Rattle.twcc_report.specs.Spelling.{Feedback}
use Rattle.twcc_report.specs.declared.report.Status.{Status}
use Rattle.twcc_report.specs.declared.report.Status.TheVariants.{NotReceived, Small, Large}
use Rattle.link_path.specs.declared.link.Arrival.{Arrival}
use Rattle.link_path.specs.Receiver.{quarters}

-- ---- what a report tells of its numbers

-- when the packet of a status arrived, in quarter-milliseconds, or that it did not, where the last arrival before it was at a time
abbrev pub time_in : ℤ → Status → Option ℤ
time_in time NotReceived = None
time_in time (Small delta) = Some (time +ℤ pos delta)
time_in time (Large delta) = Some (time +ℤ delta)

abbrev pub times_in : ℤ → List Status → List (Option ℤ)
times_in time [] = []
times_in time (status ∷ statuses) = time_in time status ∷ times_in (unwrap_or (time_in time status) time) statuses

-- the first delta counts from the reference, in units of 256 quarter-milliseconds
abbrev pub told : Feedback → List (Option ℤ)
told f = times_in (pos 256 *ℤ f.reference) f.statuses

abbrev pub all_told : List Feedback → List (Option ℤ)
all_told reports = flat_map told reports

-- ---- the numbers that it tells of

abbrev pub statuses_in : List Feedback → List Status
statuses_in reports = flat_map (λ (f : Feedback). f.statuses) reports

-- each base is the count of all statuses before it, modulo 65536, where so many were before these reports
abbrev pub AreBased : ℕ → List Feedback → Type 0
AreBased before [] = Unit {0}
AreBased before (f ∷ later) = (f.base ≡ before % 65536) × AreBased (before + length f.statuses) later

-- ---- what was taken

-- when a number arrived, in quarter-milliseconds, or that it did not
abbrev pub time_of : List Arrival → ℕ → Option ℤ
time_of [] number = None
time_of (a ∷ later) number = if a.number == number then Some (pos (quarters a)) else time_of later number

-- the same of so many numbers from one on
abbrev pub times_of : List Arrival → ℕ → ℕ → List (Option ℤ)
times_of taken from count = map (time_of taken) (range_with_len from count)

-- arrivals rise from a moment on, or two come at once
abbrev pub TimesRise : ℕ → List Arrival → Type 0
TimesRise from [] = Unit {0}
TimesRise from (a ∷ later) = (from ≤ a.at) × TimesRise a.at later
