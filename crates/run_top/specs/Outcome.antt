-- What a command writes for the bytes of its source, and how it ends.
use Rattle.std.specs.Prelude.{◌≡◌, ℕ, nat_lt, if◌then◌else◌, Option, Some, IfSome, List, [], length, take, drop, Result, Ok, Err}
use Rattle.gcc_units.specs.declared.limits.TheConstants.{MOST_LINES, MOST_CHECK_BYTES}
use Rattle.run_io.specs.Growth.{Grew, GrewInPart}
use Rattle.call_trace.specs.declared.fault.TraceFault.{TraceFault}
use Rattle.call_trace.specs.declared.fault.TheConstants.{TOO_LONG}
use Rattle.call_trace.specs.Plain.{Plain}
use Rattle.call_trace.specs.Grammar.{IsTrace}
use Rattle.call_trace.specs.Reading.{fault, counted_at}
use Rattle.call_trace.specs.Ordered.{ordered}
use Rattle.call_trace.specs.Written.{trace_text}
use Rattle.call_trace.specs.Making.{made}
use Rattle.link_loop.specs.Looping.{looping}
use Rattle.reply_text.specs.Legal.{IsLegalText}
use Rattle.reply_text.specs.declared.check.Verdict.{Verdict}
use Rattle.run_top.specs.declared.status.Status.{Status}
use Rattle.run_top.specs.declared.status.Status.TheVariants as status
use Rattle.run_top.specs.declared.words.Command.{Command}
use Rattle.run_top.specs.declared.words.Command.TheVariants as command
use Rattle.run_top.specs.Check.{IsVerdictOn, verdict_text, ended_by}
use Rattle.run_top.specs.Replay.{input, replayed}
use Rattle.run_top.specs.Compared.{comparison}
use Rattle.run_top.specs.Summary.{summary}
use Rattle.run_top.specs.Looped.{loop_text}
use Rattle.resending.specs.Serving.{serving}
use Rattle.run_top.specs.Resent.{one_input, resent_text}

-- ---- what is read

-- the trace that all bytes of a source begin with, and how many of them it has; or their fault: that there are too many, or the first bad line
abbrev pub front_input : List ℕ → Result (Plain × ℕ) TraceFault
front_input bytes = if nat_lt MOST_CHECK_BYTES (length bytes) then Err (fault 0 TOO_LONG) else counted_at MOST_LINES bytes

-- where the source tells its bytes; a command that reads nothing goes by none
abbrev pub IfTold : Command → Option (List ℕ) → (List ℕ → Type 0) → Type 0
IfTold command.Replay left P = IfSome left P
IfTold command.Race left P = IfSome left P
IfTold command.Check left P = IfSome left P
IfTold command.Compare left P = IfSome left P
IfTold (command.Make seed calls actors) left P = P []
IfTold (command.Demo seed calls) left P = P []
IfTold (command.Loop settings millis) left P = P []
IfTold (command.Resend settings) left P = IfSome left P

-- the source was read to its end; by a command that reads nothing it was left as it is
abbrev pub IsReadUp : Command → Option (List ℕ) → Option (List ℕ) → Type 0
IsReadUp command.Replay before now = IfSome before (λ bytes. now ≡ Some [])
IsReadUp command.Race before now = IfSome before (λ bytes. now ≡ Some [])
IsReadUp command.Check before now = IfSome before (λ bytes. now ≡ Some [])
IsReadUp command.Compare before now = IfSome before (λ bytes. now ≡ Some [])
IsReadUp (command.Make seed calls actors) before now = now ≡ before
IsReadUp (command.Demo seed calls) before now = now ≡ before
IsReadUp (command.Loop settings millis) before now = now ≡ before
IsReadUp (command.Resend settings) before now = IfSome before (λ bytes. now ≡ Some [])

-- ---- what is written

-- for these bytes of its source a command writes this text, and ends so
abbrev pub Writes : Command → List ℕ → Status → List ℕ → Type 0
-- the printed history of the trace's calls in the order of its lines
Writes command.Replay bytes ended text =
    (ended ≡ status.Done) × (trace : Plain) × (input bytes ≡ Ok trace) × IsTrace bytes trace × (text ≡ replayed trace)
-- legal text for the trace: that of a legal history that merges its lines, with legal glances
Writes command.Race bytes ended text =
    (ended ≡ status.Done) × (trace : Plain) × (input bytes ≡ Ok trace) × IsTrace bytes trace × IsLegalText trace.lines trace.actors text
-- the verdict on what stands behind the trace
Writes command.Check bytes ended text =
    (trace : Plain) × (count : ℕ) × (verdict : Verdict) × (front_input bytes ≡ Ok (trace, count)) × IsTrace (take count bytes) trace
    × IsVerdictOn trace (drop count bytes) verdict × (ended ≡ ended_by verdict) × (text ≡ verdict_text verdict)
-- the filter and the trendline beside each other, on the samples of the credits of the trace's calls in the order of its lines
Writes command.Compare bytes ended text =
    (ended ≡ status.Done) × (trace : Plain) × (input bytes ≡ Ok trace) × IsTrace bytes trace × (text ≡ comparison (ordered trace.lines))
-- the made trace
Writes (command.Make seed calls actors) bytes ended text = (ended ≡ status.Done) × (text ≡ trace_text (made seed calls actors))
-- the summary of the made trace of one actor, replayed
Writes (command.Demo seed calls) bytes ended text = (ended ≡ status.Done) × (text ≡ summary (ordered (made seed calls 1).lines))
-- what the closed loop over the link comes to
Writes (command.Loop settings millis) bytes ended text = (ended ≡ status.Done) × (text ≡ loop_text settings (looping settings millis))
-- the printed history of the calls of the trace's lines, with their glances, where NACKs are answered, and a line for each NACK
Writes (command.Resend settings) bytes ended text =
    (ended ≡ status.Done) × (trace : Plain) × (one_input bytes ≡ Ok trace) × IsTrace bytes trace × (text ≡ resent_text (serving settings trace.lines))

-- that text was written, whole
abbrev pub Wrote : Command → List ℕ → Status → Option (List ℕ) → Option (List ℕ) → Type 0
Wrote command bytes ended before now = (text : List ℕ) × Writes command bytes ended text × Grew before now text

-- a beginning of it was written
abbrev pub WroteInPart : Command → List ℕ → Option (List ℕ) → Option (List ℕ) → Type 0
WroteInPart command bytes before now = (ended : Status) × (text : List ℕ) × Writes command bytes ended text × GrewInPart before now text

-- ---- how a run ends

-- all was read, served and written
abbrev pub IsEnded : Status → Type 0
IsEnded status.Done = Unit {0}
IsEnded (status.Differs entry) = Unit {0}
IsEnded status.Usage = ⊥
IsEnded (status.BadTrace line reason) = ⊥
IsEnded status.ReadFault = ⊥
IsEnded status.WriteFault = ⊥
IsEnded status.NoMemory = ⊥

-- a check may end with a difference, and no other command does
abbrev pub MayDiffer : Command → Type 0
MayDiffer command.Check = Unit {0}
MayDiffer command.Replay = ⊥
MayDiffer command.Race = ⊥
MayDiffer command.Compare = ⊥
MayDiffer (command.Make seed calls actors) = ⊥
MayDiffer (command.Demo seed calls) = ⊥
MayDiffer (command.Loop settings millis) = ⊥
MayDiffer (command.Resend settings) = ⊥

-- nothing was written where the words, the reading, the trace or memory stopped the run
abbrev pub IsSilent : Status → Option (List ℕ) → Option (List ℕ) → Type 0
IsSilent status.Usage before now = Grew before now []
IsSilent (status.BadTrace line reason) before now = Grew before now []
IsSilent status.ReadFault before now = Grew before now []
IsSilent status.NoMemory before now = Grew before now []
IsSilent status.Done before now = Unit {0}
IsSilent status.WriteFault before now = Unit {0}
IsSilent (status.Differs entry) before now = Unit {0}

-- this is the fault of the bytes; a command that reads nothing finds none
abbrev pub IsFaultOf : Command → List ℕ → TraceFault → Type 0
IsFaultOf command.Replay bytes f = input bytes ≡ Err f
IsFaultOf command.Race bytes f = input bytes ≡ Err f
IsFaultOf command.Check bytes f = front_input bytes ≡ Err f
IsFaultOf command.Compare bytes f = input bytes ≡ Err f
IsFaultOf (command.Make seed calls actors) bytes f = ⊥
IsFaultOf (command.Demo seed calls) bytes f = ⊥
IsFaultOf (command.Loop settings millis) bytes f = ⊥
IsFaultOf (command.Resend settings) bytes f = one_input bytes ≡ Err f

-- the fault that is named is that of the bytes
abbrev pub NamesFault : Command → Status → List ℕ → Type 0
NamesFault command (status.BadTrace line reason) bytes = IsFaultOf command bytes (fault line reason)
NamesFault command status.Usage bytes = Unit {0}
NamesFault command status.ReadFault bytes = Unit {0}
NamesFault command status.Done bytes = Unit {0}
NamesFault command status.WriteFault bytes = Unit {0}
NamesFault command status.NoMemory bytes = Unit {0}
NamesFault command (status.Differs entry) bytes = Unit {0}

-- done, or out of memory, or no trace was given
abbrev pub IsAnswered : Status → Type 0
IsAnswered status.Done = Unit {0}
IsAnswered (status.Differs entry) = Unit {0}
IsAnswered status.NoMemory = Unit {0}
IsAnswered (status.BadTrace line reason) = Unit {0}
IsAnswered status.Usage = ⊥
IsAnswered status.ReadFault = ⊥
IsAnswered status.WriteFault = ⊥
