-- The loop that reads the statuses of symbols.
use Rattle.std.proofs.Common.{◌≡◌, ℕ, ◌+◌, ◌<◌, ◌≤◌, List, [], ◌∷◌, ◌++◌, length, drop, get_or, drop-cons, add-one, Result, Ok, Err, refl, sym, ap, ◌∙◌, append_assoc, append-nil}
use Rattle.std.proofs.lemmas.List.{drop_all}
use Rattle.twcc_report.specs.declared.fault.ReportFault.{ReportFault}
use Rattle.twcc_report.specs.declared.fault.ReadReport.{ReadReport}
use Rattle.twcc_report.specs.declared.fault.ReadReport.TheVariants as errors
use Rattle.twcc_report.specs.declared.report.Status.{Status}
use Rattle.twcc_report.specs.Reading.{◌>>=◌, Fails, status_at, statuses_at}
use Rattle.twcc_report.specs.Runs.{with_front}

pub regroup : (front : List Status) (s : Status) (read : Result (List Status × List ℕ) ReportFault)
    → with_front front (read >>= λ x. Ok (s ∷ x.0, x.1)) ≡ with_front (front ++ s ∷ []) read
regroup front s (Ok x) = ap (λ (ss : List Status). Ok (ss, x.1)) (simp append_assoc)
regroup front s (Err f) = refl

at_symbol : (symbols : List ℕ) (i : ℕ) (bytes : List ℕ) → i < length symbols
    → statuses_at (drop i symbols) bytes ≡ statuses_at (get_or symbols i 0 ∷ drop (i + 1) symbols) bytes
at_symbol symbols i bytes lt = ap (λ (xs : List ℕ). statuses_at xs bytes) (rw add-one (drop-cons symbols i 0 lt))

pub starts : (read : Result (List Status × List ℕ) ReportFault) → with_front [] read ≡ read
starts (Ok x) = refl
starts (Err f) = refl

pub goes_on : (front : List Status) (symbols : List ℕ) (i : ℕ) (bytes : List ℕ) (s : Status) (after : List ℕ) (total : Result (List Status × List ℕ) ReportFault)
    → i < length symbols → status_at (get_or symbols i 0) bytes ≡ Ok (s, after)
    → with_front front (statuses_at (drop i symbols) bytes) ≡ total → with_front (front ++ s ∷ []) (statuses_at (drop (i + 1) symbols) after) ≡ total
unfolding statuses_at
goes_on front symbols i bytes s after total lt h so_far =
    let one : with_front front (statuses_at (drop i symbols) bytes) ≡ with_front (front ++ s ∷ []) (statuses_at (drop (i + 1) symbols) after) =
    rw (at_symbol symbols i bytes lt, h) (regroup front s (statuses_at (drop (i + 1) symbols) after)) in
    sym one ∙ so_far

pub ends : (e : ReadReport) (front : List Status) (symbols : List ℕ) (i : ℕ) (bytes : List ℕ) (total : Result (List Status × List ℕ) ReportFault)
    → i < length symbols → Fails e (status_at (get_or symbols i 0) bytes)
    → with_front front (statuses_at (drop i symbols) bytes) ≡ total → Fails e total
unfolding statuses_at
ends errors.NoMemory front symbols i bytes total lt h so_far = tt
ends (errors.Fault f) front symbols i bytes total lt h so_far =
    let one : with_front front (statuses_at (drop i symbols) bytes) ≡ Err f = rw (at_symbol symbols i bytes lt, h) refl in
    sym so_far ∙ one

pub is_done : (front : List Status) (symbols : List ℕ) (i : ℕ) (bytes : List ℕ) (total : Result (List Status × List ℕ) ReportFault)
    → length symbols ≤ i → with_front front (statuses_at (drop i symbols) bytes) ≡ total → total ≡ Ok (front, bytes)
unfolding statuses_at
is_done front symbols i bytes total le so_far =
    let one : with_front front (statuses_at (drop i symbols) bytes) ≡ Ok (front, bytes) =
    rw (drop_all i symbols le) (ap (λ (ss : List Status). Ok (ss, bytes)) (append-nil front)) in
    sym so_far ∙ one
