-- The verdicts place by place are the running ones.
use Rattle.std.proofs.Common.{◌≡◌, ℕ, ℤ, pos, ◌+◌, ◌%◌, ◌<◌, ◌+ℤ◌, ◌*ℤ◌, List, [], ◌∷◌, ◌++◌, length, map, refl, ap, sym, ◌∙◌, arith, append_assoc, length-append}
use Rattle.std.specs.List.{enumerate_from}
use Rattle.std.proofs.Math.Seq.{take-append-add}
use Rattle.std.proofs.lemmas.List.Sums.{fold-append}
use Rattle.std.proofs.lemmas.Int.{ints}
use Rattle.gcc_units.specs.Unwrapping.{named_number, unwrapped}
use Rattle.twcc_report.specs.Spelling.{Feedback}
use Rattle.twcc_report.specs.declared.report.Status.{Status}
use Rattle.sent_history.specs.declared.slot.Verdict.{Verdict}
use Rattle.sent_history.specs.Crediting.{Account, delta_of, total_delta, arrival, verdict, verdict_at, verdicts}
use Rattle.sent_history.specs.Judging.{running}

next_low : (base k : ℕ) → (base + (k + 1)) % 65536 ≡ ((base + k) % 65536 + 1) % 65536
next_low base k = omega arith

-- the arrival behind the first statuses
abbrev behind : ℤ → List Status → ℤ
behind reference front = (pos 256 *ℤ reference) +ℤ total_delta front

behind_more : (reference : ℤ) (front : List Status) (s : Status) → behind reference (front ++ s ∷ []) ≡ (behind reference front +ℤ delta_of s)
behind_more reference front s =
    let e : total_delta (front ++ s ∷ []) ≡ (total_delta front +ℤ delta_of s) = fold-append (λ (z : ℤ) (t : Status). z +ℤ delta_of t) (pos 0) front (s ∷ []) in
    ap (λ z. (pos 256 *ℤ reference) +ℤ z) e ∙ omega (arith, ints)

arrival_at : (reference : ℤ) (front rest : List Status) (s : Status) → arrival reference (front ++ s ∷ rest) (length front) ≡ (behind reference front +ℤ delta_of s)
arrival_at reference front rest s =
    ap (λ (xs : List Status). behind reference xs) (take-append-add front (s ∷ rest) 1) ∙ behind_more reference front s

from_place : (a : Account) (report : Feedback) (front rest : List Status) → report.statuses ≡ front ++ rest
    → map (verdict_at a report) (enumerate_from (length front) rest)
    ≡ running (verdict a) (length a.packets) ((report.base + length front) % 65536) (behind (unwrapped a.reference report.reference) front) rest
from_place a report front [] e = refl
from_place a report front (s ∷ rest) e =
    let reference : ℤ = unwrapped a.reference report.reference in
    let low : ℕ = (report.base + length front) % 65536 in
    let sent : ℕ = length a.packets in
    let k : length (front ++ s ∷ []) ≡ length front + 1 = length-append front (s ∷ []) in
    let arrived : arrival reference report.statuses (length front) ≡ (behind reference front +ℤ delta_of s) =
    ap (λ (xs : List Status). arrival reference xs (length front)) e ∙ arrival_at reference front rest s in
    let tail = from_place a report (front ++ s ∷ []) rest (e ∙ sym (append_assoc front (s ∷ []) rest)) in
    let lows : (report.base + length (front ++ s ∷ [])) % 65536 ≡ (low + 1) % 65536 = ap (λ m. (report.base + m) % 65536) k ∙ next_low report.base (length front) in
    let first : List Verdict → List Verdict = λ (vs : List Verdict). verdict_at a report (length front, s) ∷ vs in
    ap (λ m. first (map (verdict_at a report) (enumerate_from m rest))) (sym k)
    ∙ ap first tail
    ∙ ap (λ m. first (running (verdict a) sent m (behind reference (front ++ s ∷ [])) rest)) lows
    ∙ ap (λ z. first (running (verdict a) sent ((low + 1) % 65536) z rest)) (behind_more reference front s)
    ∙ ap (λ z. verdict a s (named_number sent low) z ∷ running (verdict a) sent ((low + 1) % 65536) (behind reference front +ℤ delta_of s) rest) arrived

small_base : (base : ℕ) → base < 65536 → (base + 0) % 65536 ≡ base
small_base base small = omega arith

-- all verdicts of a report
pub by_running : (a : Account) (report : Feedback) → report.base < 65536
    → verdicts a report ≡ running (verdict a) (length a.packets) report.base (pos 256 *ℤ unwrapped a.reference report.reference) report.statuses
by_running a report small =
    let reference : ℤ = unwrapped a.reference report.reference in
    let none : ((pos 256 *ℤ reference) +ℤ pos 0) ≡ (pos 256 *ℤ reference) = omega (arith, ints) in
    from_place a report [] report.statuses refl
    ∙ ap (λ m. running (verdict a) (length a.packets) m ((pos 256 *ℤ reference) +ℤ pos 0) report.statuses) (small_base report.base small)
    ∙ ap (λ z. running (verdict a) (length a.packets) report.base z report.statuses) none
