-- A seat that has seen no calls but its own.
use Rattle.std.specs.Prelude.{◌≡◌, ℕ, ◌<◌}
use Rattle.gcc_units.specs.declared.limits.TheConstants.{MOST_ENTRIES}
use Rattle.rtp_wire.specs.Wires.{bare_wires}
use Rattle.send_core.specs.declared.call.Call.{Call}
use Rattle.send_core.specs.declared.call.Answer.{Answer}
use Rattle.send_core.specs.Reply.{IsLegal, reply}
use Rattle.send_core.specs.Wires.{wires}
use Rattle.turn_lock.specs.Rule.{by}
use Rattle.turn_lock.specs.Seats.{TableId, SeatIs}
use Rattle.shared_sender.specs.Served.{journal_of}
use Rattle.resending.specs.declared.stop.Stop.{Stop}
use Rattle.resending.specs.declared.stop.Stop.TheVariants.{NoMemory, Full, Unread}
use Rattle.resending.specs.Serving.{called}

-- The seat is the first of this turn, and has its own entries of what it has seen.
pub record IsSeated (turn : TableId) (seat : SeatIs Call Answer) : Type 0 where
  pub of : seat.of ≡ turn
  pub number : seat.number ≡ 0
  pub own : by 0 seat.seen ≡ seat.mine

-- All that it has seen are its own entries. That this is so is known once the one seat is handed in.
abbrev pub IsAlone : SeatIs Call Answer → Type 0
IsAlone seat = seat.seen ≡ seat.mine

-- a call was answered where no one else called
pub record IsAnswered (old : SeatIs Call Answer) (call : Call) (answer : Answer) (new : SeatIs Call Answer) : Type 0 where
  pub before : IsAlone old
  pub replies : answer.reply ≡ reply (journal_of old.seen) call
  pub packets : answer.wires ≡ bare_wires (wires (journal_of old.seen) answer.reply)
  pub grows : journal_of new.seen ≡ called (journal_of old.seen) call
  pub legal : IsLegal (journal_of new.seen)

-- Why serving may stop where no one else called, and so many entries were to be: memory, and a full journal where these are too many.
abbrev pub IsCause : Stop → ℕ → Type 0
IsCause NoMemory entries = Unit {0}
IsCause Full entries = MOST_ENTRIES < entries
IsCause Unread entries = ⊥

-- serving stopped
pub record IsStopped (old : SeatIs Call Answer) (why : Stop) (entries : ℕ) : Type 0 where
  pub before : IsAlone old
  pub cause : IsCause why entries
