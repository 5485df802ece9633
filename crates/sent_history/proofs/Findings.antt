-- The loop over the statuses of a report that finds what it tells for the first time.
use Rattle.std.proofs.Common.{◌≡◌, ℕ, ℤ, suc, ◌+◌, ◌%◌, ◌<◌, ◌+ℤ◌, List, [], ◌∷◌, ◌++◌, length, drop, get_or, Option, ap, sym, ◌∙◌, arith, append_assoc, append-nil, drop-cons}
use Rattle.std.proofs.lemmas.Grind.{flat_map-append}
use Rattle.gcc_units.specs.Unwrapping.{named_number}
use Rattle.twcc_report.specs.declared.report.Status.{Status}
use Rattle.twcc_report.specs.declared.report.Status.TheVariants.{NotReceived}
use Rattle.sent_history.specs.declared.finding.Finding.{Finding}
use Rattle.sent_history.specs.declared.slot.Verdict.{Verdict}
use Rattle.sent_history.specs.Crediting.{delta_of, finding_in, findings}
use Rattle.sent_history.specs.Judging.{running}

pub findings-push : (vs : List Verdict) (v : Verdict) → findings (vs ++ v ∷ []) ≡ findings vs ++ finding_in v
findings-push vs v = flat_map-append finding_in vs (v ∷ []) ∙ ap (λ (xs : List Finding). findings vs ++ xs) (append-nil (finding_in v))

-- one status more
pub goes_on : (judge : Status → Option ℕ → ℤ → Verdict) (sent low : ℕ) (arrived then : ℤ) (statuses : List Status) (i : ℕ)
    (before : List Verdict) (v : Verdict) (all : List Verdict) → i < length statuses
    → v ≡ judge (get_or statuses i NotReceived) (named_number sent low) then → then ≡ (arrived +ℤ delta_of (get_or statuses i NotReceived))
    → before ++ running judge sent low arrived (drop i statuses) ≡ all
    → (before ++ v ∷ []) ++ running judge sent ((low + 1) % 65536) then (drop (i + 1) statuses) ≡ all
goes_on judge sent low arrived then statuses i before v all lt ev et so_far =
    let s : Status = get_or statuses i NotReceived in
    let rest : List Status = drop (suc i) statuses in
    let next : i + 1 ≡ suc i = omega arith in
    let tail : ℤ → List Verdict = λ (z : ℤ). judge s (named_number sent low) z ∷ running judge sent ((low + 1) % 65536) z rest in
    append_assoc before (v ∷ []) (running judge sent ((low + 1) % 65536) then (drop (i + 1) statuses))
    ∙ ap (λ m. before ++ (v ∷ running judge sent ((low + 1) % 65536) then (drop m statuses))) next
    ∙ ap (λ (x : Verdict). before ++ (x ∷ running judge sent ((low + 1) % 65536) then rest)) ev
    ∙ ap (λ z. before ++ tail z) et
    ∙ ap (λ (xs : List Status). before ++ running judge sent low arrived xs) (sym (drop-cons statuses i NotReceived lt))
    ∙ so_far
