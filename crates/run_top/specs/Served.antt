-- What a run does to its source and to its sink.
use Rattle.std.specs.Prelude.{◌≡◌, ◌≢◌, ℕ, Option, None, Some, List, [], IfSome}
use Rattle.run_io.specs.Faults.{Rose}
use Rattle.run_io.specs.Growth.{Grew, GrewInPart}
use Rattle.run_top.specs.declared.status.Status.{Status}
use Rattle.run_top.specs.declared.status.Status.TheVariants as status
use Rattle.run_top.specs.declared.words.Command.{Command}
use Rattle.run_top.specs.declared.words.Command.TheVariants as command
use Rattle.run_top.specs.Outcome.{IfTold, IsReadUp, IsEnded, IsSilent, IsAnswered, NamesFault, Wrote, WroteInPart}

-- what is left to be read and what was written, where it is told, and how many faults of reading and of writing there were
pub record Streams : Type 0 where
  pub left : Option (List ℕ)
  pub read_faults : ℕ
  pub written : Option (List ℕ)
  pub write_faults : ℕ

abbrev pub streams : Option (List ℕ) → ℕ → Option (List ℕ) → ℕ → Streams
streams left read_faults written write_faults =
    record { left = left; read_faults = read_faults; written = written; write_faults = write_faults }

-- a command was served, and ended so
pub record IsServed (c : Command) (ended : Status) (before now : Streams) : Type 0 where
  -- the words of a command are no wrong words, and only a check may end with a difference
  pub words : ended ≢ status.Usage
  pub differs : (entry : ℕ) → ended ≡ status.Differs entry → c ≡ command.Check
  -- at the end all was read, and what the command writes was written
  pub read : IsEnded ended → IsReadUp c before.left now.left
  pub done : IsEnded ended → IfTold c before.left (λ bytes. Wrote c bytes ended before.written now.written)
  -- each fault has its cause
  pub bad : IfTold c before.left (NamesFault c ended)
  pub read_fault : ended ≡ status.ReadFault → Rose before.read_faults now.read_faults
  pub write_fault : ended ≡ status.WriteFault → Rose before.write_faults now.write_faults
  -- where no count of faults rose, the run came to its end, or memory ran out, or the bytes are no trace
  pub complete : (Rose before.read_faults now.read_faults → ⊥) → (Rose before.write_faults now.write_faults → ⊥) → IsAnswered ended
  -- at a failed write a beginning of the text was written, and where the run stopped before, nothing
  pub part : ended ≡ status.WriteFault → IfTold c before.left (λ bytes. WroteInPart c bytes before.written now.written)
  pub silent : IsSilent ended before.written now.written

-- a run whose words ask for this command, or for none
abbrev pub IsRun : Option Command → Status → Streams → Streams → Type 0
IsRun (Some c) ended before now = IsServed c ended before now
-- nothing was read and nothing was written
IsRun None ended before now = (ended ≡ status.Usage) × (now.left ≡ before.left) × Grew before.written now.written []

-- a text was written, and the run ended as it was to; or a write failed, and a beginning of the text was written
abbrev pub IsWritten : List ℕ → Status → Status → Option (List ℕ) → Option (List ℕ) → ℕ → ℕ → Type 0
IsWritten text ended status.WriteFault before now faults_before faults_now = GrewInPart before now text × Rose faults_before faults_now
IsWritten text ended other before now faults_before faults_now = (other ≡ ended) × Grew before now text
