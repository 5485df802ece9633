-- What a maker keeps of the calls that it made, and what is true of them at each millisecond.
use Rattle.std.specs.Prelude.{◌≡◌, ℕ, ◌+◌, ◌*◌, ◌%◌, ◌≤◌, length}
use Rattle.std.specs.List.{All}
use Rattle.gcc_units.specs.declared.limits.TheConstants.{MOST_LINES, MOST_SENDS}
use Rattle.send_core.specs.History.{now}
use Rattle.call_trace.specs.declared.making.Maker.{Maker}
use Rattle.call_trace.specs.MadeReports.{words_at}
use Rattle.call_trace.specs.Making.{is_audio, is_video, is_report, count_of, moments, moment, Making, untold}

abbrev pub making : Maker → Making
making maker = record { history = maker.sender; words = words_at maker.words; covered = maker.covered; calls = maker.calls }

-- its counts are those of its history
pub record IsCounted (maker : Maker) : Type 0 where
  pub audio : maker.audio ≡ count_of is_audio maker.sender
  pub video : maker.video ≡ count_of is_video maker.sender
  pub reports : maker.reports ≡ count_of is_report maker.sender
  pub sends : maker.moments.items ≡ moments maker.sender
  pub within : maker.covered ≤ length (moments maker.sender)
  pub few : maker.calls ≤ MOST_LINES

-- how many milliseconds lie between t and the last one before it in which a report is due; at first as if one was due at -10
abbrev pub since : ℕ → ℕ
since t = (t + 9) % 50

-- at the beginning of the millisecond t: what no report told of was sent since one was due, in a pace of at most 64 in each millisecond
pub record IsSteady (t : ℕ) (m : Making) : Type 0 where
  pub time : now m.history ≤ moment t
  pub within : m.covered ≤ length (moments m.history)
  pub few : length (untold m) ≤ MOST_SENDS * since t
  pub recent : All (λ sent_at. (moment t ≤ sent_at + moment (since t)) × (sent_at ≤ moment t)) (untold m)
