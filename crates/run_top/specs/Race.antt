-- What a race over a trace prints: legal text.
use Rattle.std.specs.Prelude.{◌≡◌, ℕ, List, Result, Ok, Err}
use Rattle.gcc_units.specs.Listed.{Listed}
use Rattle.call_trace.specs.declared.fault.TraceFault.{TraceFault}
use Rattle.call_trace.specs.declared.fault.ReadTrace.{ReadTrace}
use Rattle.call_trace.specs.Plain.{Plain}
use Rattle.call_trace.specs.Reading.{FailsTrace}
use Rattle.call_trace.specs.Grammar.{IsTrace}
use Rattle.reply_text.specs.Legal.{IsLegalText}

-- the bytes spell a trace, and the text is legal for it; or the fault is that of the bytes
abbrev pub GivesLegalText : List ℕ → Result (Listed ℕ) ReadTrace → Result Plain TraceFault → Type 0
GivesLegalText bytes (Ok text) read =
    (trace : Plain) × (read ≡ Ok trace) × IsTrace bytes trace × IsLegalText trace.lines trace.actors text.items
GivesLegalText bytes (Err e) read = FailsTrace e read
