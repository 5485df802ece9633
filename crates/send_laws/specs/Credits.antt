-- What the reply to a report credits.
use Rattle.std.specs.Prelude.{◌≡◌, ◌<◌, ℕ, Bool, nat_le, List, [], map, All, Ok}
use Rattle.std.specs.List.{flat_map}
use Rattle.gcc_units.specs.declared.shared_types.Credit.{Credit}
use Rattle.twcc_report.specs.Spelling.{Feedback}
use Rattle.twcc_report.specs.Reading.{read_of}
use Rattle.send_core.specs.declared.call.Call.{Call}
use Rattle.send_core.specs.declared.call.Call.TheVariants.{Enqueue, Pace, Report, Configure}
use Rattle.send_core.specs.declared.call.Reply.{Reply}
use Rattle.send_core.specs.declared.call.Entry.{Entry}
use Rattle.send_core.specs.declared.call.Reply.TheVariants.{Accepted, Paced, Credited, Configured, Refused}

-- the call hands in the bytes of this report
abbrev pub Brings : Call → Feedback → Type 0
Brings (Enqueue at class wire) report = ⊥
Brings (Pace at) report = ⊥
Brings (Report at bytes) report = read_of bytes.items ≡ Ok report
Brings (Configure at change) report = ⊥

abbrev pub credits : Reply → List Credit
credits (Accepted moment index) = []
credits (Paced moment records) = []
credits (Credited moment judged signal m acked rates shares) = judged.received.items
credits (Configured moment rates shares) = []
credits (Refused moment cause) = []

abbrev pub number_of : Credit → ℕ
number_of c = c.number

-- the numbers that the replies of a history credit, in their order
abbrev pub credited_numbers : List Entry → List ℕ
credited_numbers history = flat_map (λ (e : Entry). map number_of (credits e.reply)) history

-- a credit of this number, or of a later one
abbrev pub is_from : ℕ → Credit → Bool
is_from first c = nat_le first c.number

-- the bytes of a report are bytes
abbrev pub IsByte : ℕ → Type 0
IsByte b = b < 256

abbrev pub BringsBytes : Call → Type 0
BringsBytes (Enqueue at class wire) = Unit {0}
BringsBytes (Pace at) = Unit {0}
BringsBytes (Report at bytes) = All IsByte bytes.items
BringsBytes (Configure at change) = Unit {0}

abbrev pub HasBytes : Entry → Type 0
HasBytes e = BringsBytes e.call

-- each report of the history is a list of bytes
abbrev pub AreByteReports : List Entry → Type 0
AreByteReports history = All HasBytes history
