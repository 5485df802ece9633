-- What the laws of crediting speak of.
use Rattle.std.specs.Prelude.{◌≡◌, ℕ, ◌+◌, ◌<◌, ◌≤◌, Bool, true, not, nat_lt, ◌&&◌, List, length, count_by, slice_get, Some}
use Rattle.std.specs.List.{range_with_len}
use Rattle.gcc_units.specs.declared.limits.TheConstants.{KEPT_PACKETS, MOST_STATUSES}
use Rattle.twcc_report.specs.Spelling.{Feedback}
use Rattle.twcc_report.specs.declared.report.Status.{Status}
use Rattle.sent_history.specs.Events.{Event, packets}
use Rattle.sent_history.specs.Crediting.{Account, account, has, is_received, is_outstanding, number_at}

-- The report has no more statuses than the most.
abbrev pub HasFewStatuses : Feedback → Type 0
HasFewStatuses report = length report.statuses ≤ MOST_STATUSES

-- Packet n was sent, and is outstanding.
pub record IsOutstanding (a : Account) (n : ℕ) : Type 0 where
  pub sent : n < length a.packets
  pub outstanding : is_outstanding a n ≡ true

-- Packet n is named by a status of the report that says that it was received.
pub record IsNamedReceived (a : Account) (report : Feedback) (n : ℕ) : Type 0 where
  pub place : ℕ
  pub status : Status
  pub there : slice_get report.statuses place ≡ Some status
  pub named : number_at a report.base place ≡ Some n
  pub received : is_received status ≡ true

-- A number is expired where it is not one of the last that were sent, and was never credited.
abbrev pub is_expired : Account → ℕ → Bool
is_expired a n = nat_lt (n + KEPT_PACKETS) (length a.packets) && not (has a.credited n)

abbrev pub expired : List Event → ℕ
expired events = count_by (is_expired (account events)) (range_with_len 0 (length (packets events)))
