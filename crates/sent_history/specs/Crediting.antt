-- How the statuses of a report are judged: which packet each one names, and which packets are credited.
use Rattle.std.specs.Prelude.{◌≡◌, ℕ, ℤ, pos, neg_ℤ, ◌≤ℤ◌, ◌+ℤ◌, ◌*ℤ◌, ◌+◌, ◌%◌, Bool, true, false, ◌==◌, ◌&&◌, not, nat_lt, nat_le, if◌then◌else◌, List, [], ◌∷◌, ◌++◌, length, take, map, fold, count_by, slice_get, Option, Some, None}
use Rattle.std.specs.List.{flat_map, list_any, enumerate_from, range_with_len}
use Rattle.gcc_units.specs.Listed.{bare}
use Rattle.gcc_units.specs.Unwrapping.{named_number, unwrapped}
use Rattle.gcc_units.specs.declared.limits.TheConstants.{KEPT_PACKETS, GREATEST_ARRIVAL}
use Rattle.gcc_units.specs.declared.shared_types.Credit.{Credit}
use Rattle.gcc_units.specs.declared.shared_types.Judged.{Judged}
use Rattle.twcc_report.specs.Spelling.{Feedback}
use Rattle.twcc_report.specs.declared.report.Status.{Status}
use Rattle.twcc_report.specs.declared.report.Status.TheVariants.{NotReceived, Small, Large}
use Rattle.sent_history.specs.declared.finding.Finding.{Finding}
use Rattle.sent_history.specs.declared.finding.Finding.TheVariants as finding
use Rattle.sent_history.specs.declared.slot.Outgoing.{Outgoing}
use Rattle.sent_history.specs.declared.slot.Verdict.{Verdict}
use Rattle.sent_history.specs.declared.slot.Verdict.TheVariants.{Received, Missing, Unknown, Repeated}
use Rattle.sent_history.specs.Events.{Event, added, reported, packets}

-- ---- what a status says

abbrev pub is_received : Status → Bool
is_received NotReceived = false
is_received (Small d) = true
is_received (Large d) = true

-- its delta, in quarter-milliseconds
abbrev pub delta_of : Status → ℤ
delta_of NotReceived = pos 0
delta_of (Small d) = pos d
delta_of (Large d) = d

-- all deltas together
abbrev pub total_delta : List Status → ℤ
total_delta statuses = fold (λ (z : ℤ) (s : Status). z +ℤ delta_of s) (pos 0) statuses

-- the arrival of status k: 256 times the report's reference, and all deltas up to its own
abbrev pub arrival : ℤ → List Status → ℕ → ℤ
arrival reference statuses k = (pos 256 *ℤ reference) +ℤ total_delta (take (k + 1) statuses)

-- ---- what came before a report

-- the packets sent; the numbers in the received lists of all reports; those judged missing; the reference of the last report, 0 at first
pub record Account : Type 0 where
  pub packets : List Outgoing
  pub credited : List ℕ
  pub missed : List ℕ
  pub reference : ℤ

abbrev pub start : Account
start = record { packets = []; credited = []; missed = []; reference = pos 0 }

abbrev pub has : List ℕ → ℕ → Bool
has numbers n = list_any (λ m. m == n) numbers

-- ---- how one status is judged

abbrev pub credit_for : ℕ → Outgoing → ℤ → Credit
credit_for n packet arrived =
    record { number = n; sent_at = packet.sent_at; arrival = arrived; size = packet.size; cluster = packet.cluster }

-- what is said of packet n, which is kept, by whether it was credited and whether it was judged missing before
unfoldable pub verdict_on : Bool → Bool → ℕ → Outgoing → Status → ℤ → Verdict
verdict_on credited missed n packet status arrived =
    if credited then Repeated
    else (if is_received status then Received (credit_for n packet arrived)
    else (if missed then Repeated else Missing n))

-- packet n, where it is one of the last that were sent
unfoldable pub kept_packet : List Outgoing → ℕ → Option Outgoing
kept_packet sent n = if nat_lt (n + KEPT_PACKETS) (length sent) then None else slice_get sent n

abbrev pub verdict_if : Account → ℕ → Status → ℤ → Option Outgoing → Verdict
verdict_if a n status arrived None = Unknown
verdict_if a n status arrived (Some packet) = verdict_on (has a.credited n) (has a.missed n) n packet status arrived

-- the verdict on a status that names this number, or none
unfoldable pub verdict : Account → Status → Option ℕ → ℤ → Verdict
verdict a status None arrived = Unknown
verdict a status (Some n) arrived = verdict_if a n status arrived (kept_packet a.packets n)

-- ---- how a report is judged

-- the number that status k names
abbrev pub number_at : Account → ℕ → ℕ → Option ℕ
number_at a base k = named_number (length a.packets) ((base + k) % 65536)

-- the verdict on a status at its place
abbrev pub verdict_at : Account → Feedback → ℕ × Status → Verdict
verdict_at a report placed =
    verdict a placed.1 (number_at a report.base placed.0) (arrival (unwrapped a.reference report.reference) report.statuses placed.0)

-- All statuses are judged by what came before the report.
abbrev pub verdicts : Account → Feedback → List Verdict
verdicts a report = map (verdict_at a report) (enumerate_from 0 report.statuses)

abbrev pub credit_in : Verdict → List Credit
credit_in (Received credit) = credit ∷ []
credit_in (Missing n) = []
credit_in Unknown = []
credit_in Repeated = []

abbrev pub missing_in : Verdict → List ℕ
missing_in (Received credit) = []
missing_in (Missing n) = n ∷ []
missing_in Unknown = []
missing_in Repeated = []

abbrev pub is_unknown : Verdict → Bool
is_unknown (Received credit) = false
is_unknown (Missing n) = false
is_unknown Unknown = true
is_unknown Repeated = false

abbrev pub is_repeated : Verdict → Bool
is_repeated (Received credit) = false
is_repeated (Missing n) = false
is_repeated Unknown = false
is_repeated Repeated = true

-- the received list, and the numbers judged missing
abbrev pub credits_in : List Verdict → List Credit
credits_in judgements = flat_map credit_in judgements

abbrev pub missing_numbers : List Verdict → List ℕ
missing_numbers judgements = flat_map missing_in judgements

-- what a verdict tells of a packet for the first time
abbrev pub finding_in : Verdict → List Finding
finding_in (Received credit) = finding.Credited credit ∷ []
finding_in (Missing n) = finding.Missing n ∷ []
finding_in Unknown = []
finding_in Repeated = []

-- what they tell of packets for the first time, in their order
abbrev pub findings : List Verdict → List Finding
findings judgements = flat_map finding_in judgements

-- the answer that tells these verdicts
abbrev pub told : List Verdict → Judged
told judgements =
    record {
      received = bare (credits_in judgements);
      missing = length (missing_numbers judgements);
      unknown = count_by is_unknown judgements;
      repeated = count_by is_repeated judgements;
    }

-- the credit tells of the packet of its number
abbrev pub IsOfPacket : List Outgoing → Credit → Type 0
IsOfPacket sent c = slice_get sent c.number ≡ Some (record { sent_at = c.sent_at; size = c.size; cluster = c.cluster })

-- the credit's arrival is in its range
pub record ArrivesInRange (c : Credit) : Type 0 where
  pub low : neg_ℤ GREATEST_ARRIVAL ≤ℤ c.arrival
  pub high : c.arrival ≤ℤ GREATEST_ARRIVAL

-- ---- all packets and reports

abbrev pub with_verdicts : Account → Feedback → List Verdict → Account
with_verdicts a report judgements =
    record {
      packets = a.packets;
      credited = a.credited ++ map (λ (c : Credit). c.number) (credits_in judgements);
      missed = a.missed ++ missing_numbers judgements;
      reference = unwrapped a.reference report.reference;
    }

abbrev pub after : Account → Event → Account
after a (added packet) = record { packets = a.packets ++ packet ∷ []; credited = a.credited; missed = a.missed; reference = a.reference }
after a (reported report) = with_verdicts a report (verdicts a report)

-- what came so far
unfoldable pub account : List Event → Account
account events = fold after start events

-- the verdicts on a report after these packets and reports
abbrev pub judged : List Event → Feedback → List Verdict
judged events report = verdicts (account events) report

-- A number is outstanding where it is one of the last that were sent, and was never credited.
abbrev pub is_outstanding : Account → ℕ → Bool
is_outstanding a n = nat_le (length a.packets) (n + KEPT_PACKETS) && not (has a.credited n)

abbrev pub outstanding : List Event → ℕ
outstanding events = count_by (is_outstanding (account events)) (range_with_len 0 (length (packets events)))
