-- What a call that gives the outcome tells.
use Rattle.std.proofs.Common.{ℕ, ◌<◌, inl, inr, List, length, All, Result, Ok, Err, sym, subst, arith}
use Rattle.std.specs.Prelude.{IfOk, IfErr}
use Rattle.std.proofs.lemmas.Bool.{cases_lt}
use Rattle.std.proofs.lemmas.List.{get_or_past}
use Rattle.std.proofs.lemmas.List.Elements.{All-get_or}
use Rattle.twcc_report.specs.declared.fault.ReadReport.{ReadReport}
use Rattle.twcc_report.specs.declared.fault.ReadReport.TheVariants as errors
use Rattle.twcc_report.specs.Spelling.{Feedback, Fits, Spells}
use Rattle.twcc_report.specs.Reading.{Gives, read_of}
use Rattle.twcc_report.specs.Checks.{IsByChecks, IsCause}
use Rattle.twcc_report.proofs.Chunking.{IsBytes}

pub found : {X : Type 0} (seen : X → Feedback) (bytes : List ℕ) (r : Result X ReadReport) → IsByChecks bytes → Gives seen r (read_of bytes) → IfOk r (λ report. Spells (seen report) bytes)
found seen bytes (Ok report) law given = ((law.reports (seen report)).0 given).1
found seen bytes (Err e) law given = tt

pub fits : {X : Type 0} (seen : X → Feedback) (bytes : List ℕ) (r : Result X ReadReport) → IsByChecks bytes → Gives seen r (read_of bytes) → IfOk r (λ report. Fits (seen report))
fits seen bytes (Ok report) law given = ((law.reports (seen report)).0 given).0
fits seen bytes (Err e) law given = tt

pub cause : {X : Type 0} (seen : X → Feedback) (bytes : List ℕ) (r : Result X ReadReport) → IsByChecks bytes → Gives seen r (read_of bytes) → IfErr r (IsCause bytes)
cause seen bytes (Ok report) law given = tt
cause seen bytes (Err errors.NoMemory) law given = tt
cause seen bytes (Err (errors.Fault fault)) law given = (law.faults fault).0 given

pub each_byte : (bytes : List ℕ) → All (λ b. b < 256) bytes → IsBytes bytes
each_byte bytes all i = elim (cases_lt i (length bytes)) [
  | inl lt ↦ All-get_or (λ b. b < 256) bytes i 0 lt all
  | inr past ↦ subst (λ b. b < 256) (sym (get_or_past bytes i 0 past)) (omega arith)
]
