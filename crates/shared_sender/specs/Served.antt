-- The history of a shared sender: the entries of the journal, each reply with the packets that left with it.
use Rattle.std.proofs.Common.{◌≡◌, ◌<◌, ℕ, List, [], ◌∷◌, ◌++◌, map, length, take, slice_get, Some}
use Rattle.gcc_units.specs.Walk.{each_by}
use Rattle.gcc_units.specs.declared.limits.TheConstants.{MOST_ENTRIES}
use Rattle.rtp_wire.specs.Wires.{bare_wires}
use Rattle.send_core.specs.declared.call.Call.{Call}
use Rattle.send_core.specs.declared.call.Reply.{Reply}
use Rattle.send_core.specs.declared.call.Answer.{Answer}
use Rattle.send_core.specs.declared.call.Entry.{Entry}
use Rattle.send_core.specs.declared.call.ApplyFault.{ApplyFault}
use Rattle.send_core.specs.declared.call.ApplyFault.TheVariants.{JournalFull, NoMemory}
use Rattle.send_core.specs.History.{entry}
use Rattle.send_core.specs.Reply.{reply}
use Rattle.send_core.specs.Wires.{wires}
use Rattle.turn_lock.specs.declared.entry.Entry as turn
use Rattle.turn_lock.specs.Rule.{BeginsWith}
use Rattle.turn_lock.specs.Seats.{SeatIs}

-- an entry whose reply comes with the packets that left with it
abbrev pub Answered : Type 0
Answered = turn.Entry Call Answer

-- an entry with the packets that the entries before it determine
abbrev pub answered : List Entry → Entry → Answered
answered before e =
    record { caller = e.caller; call = e.call; reply = record { reply = e.reply; wires = bare_wires (wires before e.reply) } }

-- a journal, each reply with its packets
abbrev pub answers_of : List Entry → List Answered
answers_of journal = each_by answered [] journal

abbrev pub entry_of : Answered → Entry
entry_of e = entry e.caller e.call e.reply.reply

-- the journal without the packets
abbrev pub journal_of : List Answered → List Entry
journal_of history = map entry_of history

-- with each reply just those packets left that the entries before it determine
abbrev pub HasWires : List Answered → Type 0
HasWires history =
    (n : ℕ) (e : Answered) → slice_get history n ≡ Some e → e.reply.wires ≡ bare_wires (wires (journal_of (take n history)) e.reply.reply)

-- at which histories a call may be refused with a fault: as one too many exactly where there are the most entries
abbrev pub Refuses : List Answered → Call → ApplyFault → Type 0
Refuses history call JournalFull = length history ≡ MOST_ENTRIES
Refuses history call NoMemory = length history < MOST_ENTRIES

-- a call of a seat was answered: after a history that begins with what the seat had seen comes its entry, one more of
-- the seat's own, and that history determines the reply and the packets
pub record Answers (old : SeatIs Call Answer) (call : Call) (answer : Answer) (new : SeatIs Call Answer) : Type 0 where
  pub before : List Answered
  pub begins : BeginsWith before old.seen
  pub seen : new.seen ≡ before ++ record { caller = old.number; call = call; reply = answer } ∷ []
  pub mine : new.mine ≡ old.mine ++ record { caller = old.number; call = call; reply = answer } ∷ []
  pub replies : answer.reply ≡ reply (journal_of before) call
  pub packets : answer.wires ≡ bare_wires (wires (journal_of before) answer.reply)

-- a call was answered with this reply
abbrev pub Replies : SeatIs Call Answer → Call → Reply → SeatIs Call Answer → Type 0
Replies old call given new = (answer : Answer) × (answer.reply ≡ given) × Answers old call answer new
