-- What the actors of a race have done, each on a seat of its own.
use Rattle.std.specs.Prelude.{◌≡◌, ℕ, ◌<◌, ◌≤◌, List, [], length, map, All, slice_get, Some}
use Rattle.gcc_units.specs.declared.limits.TheConstants.{MOST_ENTRIES}
use Rattle.send_core.specs.declared.call.Call.{Call}
use Rattle.send_core.specs.declared.call.Answer.{Answer}
use Rattle.turn_lock.specs.Rule.{by}
use Rattle.turn_lock.specs.Seats.{TableId, SeatIs}
use Rattle.turn_lock.specs.Names.{name}
use Rattle.shared_sender.specs.Served.{Answered, journal_of}
use Rattle.call_trace.specs.declared.trace.Line.{Line}
use Rattle.call_trace.specs.Merge.{calls_of, calls_by}
use Rattle.reply_text.specs.declared.seen.Seen.{Seen}
use Rattle.reply_text.specs.Legal.{AreLegalGlances}
use Rattle.run_top.specs.declared.workers.Stop.{Stop}
use Rattle.run_top.specs.declared.workers.Stop.TheVariants as stop
use Rattle.run_top.specs.declared.workers.Worker.{Worker}

-- an actor has worked these lines: what its seat has seen and its own entries in that, the glances that it took, and whether it stopped
pub record Works (lines : List Line) (actor : ℕ) (seen mine : List Answered) (taken : List Seen) (ended : Stop) : Type 0 where
  pub own : by actor seen ≡ mine
  pub few : length mine ≤ length (calls_of actor lines)
  -- unless it stopped, it has made the calls of its lines, and has taken a legal glance for each line in which it looks
  pub calls : ended ≡ stop.No → calls_by actor (journal_of seen) ≡ calls_of actor lines
  pub glances : ended ≡ stop.No → AreLegalGlances (journal_of seen) lines actor taken
  -- it stops at a full journal with a call unmade, and only where the journal was full
  pub unmade : ended ≡ stop.Full → length mine < length (calls_of actor lines)
  pub full : ended ≡ stop.Full → length seen ≡ MOST_ENTRIES

abbrev pub Worked : List Line → Worker → Type 0
Worked lines w = Works lines w.seat.number w.seat.seen w.seat.mine w.glances.items w.stop

-- each of the workers has worked these lines
pub record AreWorked (lines : List Line) (workers : List Worker) : Type 0 where
  pub each : All (Worked lines) workers

-- a worker that has taken no glance and has not stopped
abbrev pub IsFresh : Worker → Type 0
IsFresh w = (w.glances.items ≡ []) × (w.stop ≡ stop.No)

-- a worker that has not begun
pub record IsReady (turn : TableId) (w : Worker) : Type 0 where
  pub of : w.seat.of ≡ turn
  pub actor : w.seat.number ≡ w.actor
  pub seen : w.seat.seen ≡ []
  pub mine : w.seat.mine ≡ []
  pub glances : w.glances.items ≡ []
  pub running : w.stop ≡ stop.No

abbrev pub seat_of : Worker → SeatIs Call Answer
seat_of w = w.seat

abbrev pub actor_of : Worker → ℕ
actor_of w = w.actor

abbrev pub taken_by : Worker → List Seen
taken_by w = w.glances.items

-- of which turn a worker's seat is, and its number
abbrev pub key : Worker → TableId × ℕ
key w = name w.seat

abbrev pub keys : List Worker → List (TableId × ℕ)
keys workers = map key workers

abbrev pub IsDone : Worker → Type 0
IsDone w = w.stop ≡ stop.No

-- one of them stopped at a full journal
abbrev pub AnyFull : List Worker → Type 0
AnyFull workers = (k : ℕ) × (w : Worker) × (slice_get workers k ≡ Some w) × (w.stop ≡ stop.Full)
