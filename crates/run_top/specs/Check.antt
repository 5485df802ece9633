-- The verdict on what stands behind a trace.
use Rattle.std.specs.Prelude.{◌≡◌, ℕ, List, ◌++◌, take, drop, codes, Result, Ok, Err}
use Rattle.std.specs.Fmt.{decimal}
use Rattle.call_trace.specs.declared.fault.TraceFault.{TraceFault}
use Rattle.call_trace.specs.declared.fault.ReadTrace.{ReadTrace}
use Rattle.call_trace.specs.Plain.{Plain}
use Rattle.call_trace.specs.Grammar.{IsTrace}
use Rattle.call_trace.specs.Reading.{FailsTrace}
use Rattle.reply_text.specs.declared.check.Verdict.{Verdict}
use Rattle.reply_text.specs.declared.check.Verdict.TheVariants.{Legal, Differs}
use Rattle.reply_text.specs.Legal.{IsLegalText}
use Rattle.reply_text.specs.Verdict.{DiffersAt}
use Rattle.run_top.specs.declared.status.Status.{Status}
use Rattle.run_top.specs.declared.status.Status.TheVariants as status

-- the verdict on a text for a trace
abbrev pub IsVerdictOn : Plain → List ℕ → Verdict → Type 0
IsVerdictOn trace text Legal = IsLegalText trace.lines trace.actors text
IsVerdictOn trace text (Differs entry) = DiffersAt trace.lines trace.actors text entry

-- the verdict on what stands behind the trace that the bytes begin with, or the fault is that of the bytes
abbrev pub GivesVerdict : List ℕ → Result Verdict ReadTrace → Result (Plain × ℕ) TraceFault → Type 0
GivesVerdict bytes (Ok verdict) read =
    (trace : Plain) × (count : ℕ) × (read ≡ Ok (trace, count)) × IsTrace (take count bytes) trace × IsVerdictOn trace (drop count bytes) verdict
GivesVerdict bytes (Err e) read = FailsTrace e read

abbrev pub verdict_text : Verdict → List ℕ
verdict_text Legal = codes "legal\n"
verdict_text (Differs entry) = codes "differs " ++ decimal entry ++ codes "\n"

-- how the check ends
abbrev pub ended_by : Verdict → Status
ended_by Legal = status.Done
ended_by (Differs entry) = status.Differs entry
