-- What a command writes for the bytes that it read.
use Rattle.std.proofs.Common.{◌≡◌, ◌↔◌, ℕ, ◌≤◌, false, List, [], length, refl, ◌∙◌, ap, subst, Option, None, Some, IfSome, Ok, Err, cond, nat_lt, le-ltb}
use Rattle.gcc_units.specs.Listed.{Listed}
use Rattle.gcc_units.specs.declared.limits.TheConstants.{MOST_LINES, MOST_TRACE_BYTES, MOST_CHECK_BYTES}
use Rattle.run_io.specs.Growth.{Grew, GrewInPart}
use Rattle.call_trace.specs.declared.fault.TheConstants.{TOO_LONG}
use Rattle.call_trace.specs.Reading.{trace_at, counted_at, fault}
use Rattle.call_trace.specs.declared.trace.Line.{Line}
use Rattle.reply_text.specs.declared.check.Verdict.{Verdict}
use Rattle.reply_text.specs.declared.check.Verdict.TheVariants as verdict
use Rattle.reply_text.specs.Legal.{IsLegalText}
use Rattle.reply_text.specs.Verdict.{DiffersAt}
use Rattle.run_top.specs.declared.status.Status.{Status}
use Rattle.run_top.specs.declared.status.Status.TheVariants as status
use Rattle.run_top.specs.declared.words.Command.{Command}
use Rattle.run_top.specs.declared.words.Command.TheVariants as command
use Rattle.run_top.specs.Check.{IsVerdictOn, GivesVerdict, verdict_text, ended_by}
use Rattle.run_top.specs.Race.{GivesLegalText}
use Rattle.run_top.specs.Replay.{input, GivesText}
use Rattle.run_top.specs.Compared.{IsComparison}
use Rattle.run_top.specs.Outcome.{front_input, Writes, Wrote, WroteInPart}

-- bytes that were read to the end are those that the source told
abbrev pub AreAll : List ℕ → Option (List ℕ) → Option (List ℕ) → Type 0
AreAll bytes told left = IfSome told (λ all. (bytes ≡ all) × (left ≡ Some []))

pub replay_writes : (bytes : List ℕ) (text : Listed ℕ) (told left : Option (List ℕ)) → AreAll bytes told left → length bytes ≤ MOST_TRACE_BYTES
    → GivesText bytes (Ok text) (trace_at MOST_LINES bytes) → IfSome told (λ all. Writes command.Replay all status.Done text.items)
replay_writes bytes text None left all few gives = tt
replay_writes bytes text (Some told) left all few gives =
    let short : nat_lt MOST_TRACE_BYTES (length bytes) ≡ false = le-ltb MOST_TRACE_BYTES (length bytes) few in
    let traced : input bytes ≡ Ok gives.0 = ap (λ b. cond b (Err (fault 0 TOO_LONG)) (trace_at MOST_LINES bytes)) short ∙ gives.1 in
    subst (λ bs. Writes command.Replay bs status.Done text.items) all.0 (refl, gives.0, traced, gives.2, ap (λ (l : Listed ℕ). l.items) gives.3)

pub compare_writes : (bytes text : List ℕ) (told left : Option (List ℕ)) → AreAll bytes told left → length bytes ≤ MOST_TRACE_BYTES
    → IsComparison bytes text (trace_at MOST_LINES bytes) → IfSome told (λ all. Writes command.Compare all status.Done text)
compare_writes bytes text None left all few gives = tt
compare_writes bytes text (Some told) left all few gives =
    let short : nat_lt MOST_TRACE_BYTES (length bytes) ≡ false = le-ltb MOST_TRACE_BYTES (length bytes) few in
    let traced : input bytes ≡ Ok gives.0 = ap (λ b. cond b (Err (fault 0 TOO_LONG)) (trace_at MOST_LINES bytes)) short ∙ gives.1 in
    subst (λ bs. Writes command.Compare bs status.Done text) all.0 (refl, gives.0, traced, gives.2, gives.3)

pub race_writes : (bytes : List ℕ) (text : Listed ℕ) (told left : Option (List ℕ)) → AreAll bytes told left → length bytes ≤ MOST_TRACE_BYTES
    → GivesLegalText bytes (Ok text) (trace_at MOST_LINES bytes) → IfSome told (λ all. Writes command.Race all status.Done text.items)
race_writes bytes text None left all few gives = tt
race_writes bytes text (Some told) left all few gives =
    let short : nat_lt MOST_TRACE_BYTES (length bytes) ≡ false = le-ltb MOST_TRACE_BYTES (length bytes) few in
    let traced : input bytes ≡ Ok gives.0 = ap (λ b. cond b (Err (fault 0 TOO_LONG)) (trace_at MOST_LINES bytes)) short ∙ gives.1 in
    subst (λ bs. Writes command.Race bs status.Done text.items) all.0 (refl, gives.0, traced, gives.2, gives.3)

pub check_writes : (bytes : List ℕ) (verdict : Verdict) (told left : Option (List ℕ)) → AreAll bytes told left → length bytes ≤ MOST_CHECK_BYTES
    → GivesVerdict bytes (Ok verdict) (counted_at MOST_LINES bytes) → IfSome told (λ all. Writes command.Check all (ended_by verdict) (verdict_text verdict))
check_writes bytes verdict None left all few gives = tt
check_writes bytes verdict (Some told) left all few gives =
    let short : nat_lt MOST_CHECK_BYTES (length bytes) ≡ false = le-ltb MOST_CHECK_BYTES (length bytes) few in
    let traced : front_input bytes ≡ Ok (gives.0, gives.1) = ap (λ b. cond b (Err (fault 0 TOO_LONG)) (counted_at MOST_LINES bytes)) short ∙ gives.2 in
    subst (λ bs. Writes command.Check bs (ended_by verdict) (verdict_text verdict)) all.0
    (gives.0, gives.1, verdict, traced, gives.3, gives.4, refl, refl)

-- ---- where its text was written

pub whole : (c : Command) (ended : Status) (text : List ℕ) (told before now : Option (List ℕ))
    → IfSome told (λ all. Writes c all ended text) → Grew before now text → IfSome told (λ all. Wrote c all ended before now)
whole c ended text None before now writes grew = tt
whole c ended text (Some all) before now writes grew = (text, writes, grew)

pub in_part : (c : Command) (ended : Status) (text : List ℕ) (told before now : Option (List ℕ))
    → IfSome told (λ all. Writes c all ended text) → GrewInPart before now text → IfSome told (λ all. WroteInPart c all before now)
in_part c ended text None before now writes grew = tt
in_part c ended text (Some all) before now writes grew = (ended, text, writes, grew)

-- ---- verdicts

-- what is told of each verdict holds of the one that was given
pub verdict_is : (lines : List Line) (actors : ℕ) (text : List ℕ) (v : Verdict)
    → (v ≡ verdict.Legal ↔ IsLegalText lines actors text) → ((k : ℕ) → v ≡ verdict.Differs k ↔ DiffersAt lines actors text k)
    → IsVerdictOn (record { actors = actors; lines = lines }) text v
verdict_is lines actors text verdict.Legal legal differs = legal.0 refl
verdict_is lines actors text (verdict.Differs entry) legal differs = (differs entry).0 refl
