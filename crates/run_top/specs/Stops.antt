-- Why a run stops before there is a text to write, and how it ends then.
use Rattle.std.specs.Prelude.{ℕ, List, Option, IfSome}
use Rattle.run_io.specs.Faults.{Rose}
use Rattle.call_trace.specs.declared.fault.ReadTrace.{ReadTrace}
use Rattle.call_trace.specs.declared.fault.ReadTrace.TheVariants as trace
use Rattle.call_trace.specs.declared.fault.TheConstants.{TOO_LONG}
use Rattle.call_trace.specs.Reading.{fault}
use Rattle.run_top.specs.declared.reading.ReadStop.{ReadStop}
use Rattle.run_top.specs.declared.reading.ReadStop.TheVariants as stop
use Rattle.run_top.specs.declared.status.Status.{Status}
use Rattle.run_top.specs.declared.status.Status.TheVariants as status
use Rattle.run_top.specs.declared.words.Command.{Command}
use Rattle.run_top.specs.Outcome.{IsFaultOf}

-- how a run ends whose reading stopped
abbrev pub stopped_by : ReadStop → Status
stopped_by stop.Fault = status.ReadFault
stopped_by stop.TooLong = status.BadTrace 0 TOO_LONG
stopped_by stop.NoMemory = status.NoMemory

-- how a run ends whose trace was refused
abbrev pub refused_by : ReadTrace → Status
refused_by (trace.Fault f) = status.BadTrace f.line f.reason
refused_by trace.NoMemory = status.NoMemory

-- a command that reads its source comes to no text, for this cause: a read failed, the bytes have this fault, or memory ran out
abbrev pub IsStop : Command → Status → Option (List ℕ) → ℕ → ℕ → Type 0
IsStop c status.ReadFault left before now = Rose before now
IsStop c (status.BadTrace line reason) left before now = IfSome left (λ bytes. IsFaultOf c bytes (fault line reason))
IsStop c status.NoMemory left before now = Unit {0}
IsStop c status.Done left before now = ⊥
IsStop c status.Usage left before now = ⊥
IsStop c status.WriteFault left before now = ⊥
IsStop c (status.Differs entry) left before now = ⊥
