-- Reading in runs.
use Rattle.std.proofs.Common.{◌≡◌, ℕ, zero, suc, ◌+◌, ◌-◌, ◌/◌, ◌%◌, ◌<◌, ◌≤◌, ◌==◌, ◌&&◌, ◌||◌, Bool, true, false, nat_lt, List, [], ◌∷◌, ◌++◌, length, take, drop, map, get_or, min, replicate, drop-cons, Result, Ok, Err, refl, sym, ap, ◌∙◌, arith, append_assoc, append-nil, length-append, length-take}
use Rattle.std.specs.List.{list_any, range_with_len}
use Rattle.std.proofs.lemmas.Bool.{lt-ltb}
use Rattle.std.proofs.lemmas.List.{drop_all}
use Rattle.std.proofs.lemmas.List.FromFn.{length-map-range_with_len}
use Rattle.std.proofs.lemmas.List.Folds.{list_any-append}
use Rattle.gcc_units.proofs.Walk.{flat_map-push}
use Rattle.twcc_report.specs.declared.fault.ReportFault.{ReportFault}
use Rattle.twcc_report.specs.declared.fault.ReportFault.TheVariants as faults
use Rattle.twcc_report.specs.declared.fault.ReadReport.{ReadReport}
use Rattle.twcc_report.specs.declared.fault.ReadReport.TheVariants as errors
use Rattle.twcc_report.specs.declared.report.Status.{Status}
use Rattle.twcc_report.specs.declared.report.Status.TheVariants.{NotReceived}
use Rattle.twcc_report.specs.declared.runs.SymbolRun.{SymbolRun}
use Rattle.twcc_report.specs.Chunks.{symbol_at, symbol_count, symbols_of}
use Rattle.twcc_report.specs.Reading.{◌>>=◌, Fails, unreserved, status_at, statuses_at}
use Rattle.twcc_report.specs.Runs.{symbols_of_run, all_symbols_of, is_reserved, with_front}
use Rattle.twcc_report.proofs.Gathering.{taken}
use Rattle.twcc_report.proofs.Statuses.{regroup}

-- ---- the symbols of one chunk

-- one symbol more
pub one_more : (runs : List SymbolRun) (symbol : ℕ) → all_symbols_of (runs ++ record { symbol = symbol; count = 1 } ∷ []) ≡ all_symbols_of runs ++ symbol ∷ []
one_more runs symbol = flat_map-push symbols_of_run runs (record { symbol = symbol; count = 1 })

constant : (word from n : ℕ) → word < 32768 → map (symbol_at word) (range_with_len from n) ≡ replicate n (word / 8192)
constant word from zero run = refl
constant word from (suc n) run =
    let here : symbol_at word from ≡ word / 8192 = rw (lt-ltb word 32768 run) refl in
    ap (λ s. s ∷ map (symbol_at word) (range_with_len (from + 1) n)) here ∙ ap (λ (xs : List ℕ). word / 8192 ∷ xs) (constant word (from + 1) n run)

-- a chunk that is a run
pub run_taken : (word more left : ℕ) → word < 32768 → more ≡ min (word % 8192) left → replicate more (word / 8192) ≡ take left (symbols_of word)
run_taken word more left run e =
    let count : symbol_count word ≡ word % 8192 = rw (lt-ltb word 32768 run) refl in
    sym (constant word 0 more run) ∙ taken word more left (e ∙ ap (λ n. min n left) (sym count))

-- how many are left then
pub left_over : (word left count now : ℕ) (before after : List ℕ) → now ≡ left - min (symbol_count word) left → left ≡ count - length before
    → after ≡ before ++ take left (symbols_of word) → now ≡ count - length after
unfolding symbols_of
left_over word left count now before after en el e =
    let symbols : List ℕ = map (symbol_at word) (range_with_len 0 (symbol_count word)) in
    omega (arith, en, el, ap length e, length-append before (take left symbols), length-take left symbols, length-map-range_with_len (symbol_at word) 0 (symbol_count word))

-- ---- the reserved symbol

absorbs : (b c : Bool) → (b || (b && c)) ≡ (b && true)
absorbs true c = refl
absorbs false c = refl

and_false : (b : Bool) → false ≡ (b && false)
and_false true = refl
and_false false = refl

reserved_in : (n symbol : ℕ) → list_any (λ s. s == 3) (replicate n symbol) ≡ (symbol == 3 && nat_lt 0 n)
reserved_in zero symbol = and_false (symbol == 3)
reserved_in (suc n) symbol =
    ap (λ b. symbol == 3 || b) (reserved_in n symbol) ∙ absorbs (symbol == 3) (nat_lt 0 n)
    ∙ ap (λ b. symbol == 3 && b) (sym (lt-ltb 0 (suc n) (omega arith)))

reserved_runs : (runs : List SymbolRun) → list_any (λ s. s == 3) (all_symbols_of runs) ≡ list_any is_reserved runs
reserved_runs [] = refl
reserved_runs (run ∷ runs) =
    list_any-append (λ s. s == 3) (symbols_of_run run) (all_symbols_of runs)
    ∙ ap (λ b. b || list_any (λ s. s == 3) (all_symbols_of runs)) (reserved_in run.count run.symbol)
    ∙ ap (λ b. is_reserved run || b) (reserved_runs runs)

pub refused : (runs : List SymbolRun) → list_any is_reserved runs ≡ true → unreserved (all_symbols_of runs) ≡ Err faults.Reserved
unfolding unreserved
refused runs h = rw (reserved_runs runs, h) refl

pub passed : (runs : List SymbolRun) → list_any is_reserved runs ≡ false → unreserved (all_symbols_of runs) ≡ Ok tt
unfolding unreserved
passed runs h = rw (reserved_runs runs, h) refl

-- ---- the statuses of one run

lost_run : (n : ℕ) (bytes : List ℕ) → statuses_at (replicate n 0) bytes ≡ Ok (replicate n NotReceived, bytes)
unfolding statuses_at status_at
lost_run zero bytes = refl
lost_run (suc n) bytes = rw (lost_run n bytes) refl

pub lost_is_read : (front more : List Status) (n symbol : ℕ) (bytes : List ℕ) → symbol ≡ 0 → more ≡ front ++ replicate n NotReceived
    → with_front front (statuses_at (replicate n symbol) bytes) ≡ Ok (more, bytes)
lost_is_read front more n symbol bytes none e = rw (none, lost_run n bytes) (ap (λ (ss : List Status). Ok (ss, bytes)) (sym e))

pub run_goes_on : (front more : List Status) (n m symbol : ℕ) (bytes : List ℕ) (s : Status) (after : List ℕ) (total : Result (List Status × List ℕ) ReportFault)
    → n ≡ m + 1 → more ≡ front ++ s ∷ [] → status_at symbol bytes ≡ Ok (s, after)
    → with_front front (statuses_at (replicate n symbol) bytes) ≡ total → with_front more (statuses_at (replicate m symbol) after) ≡ total
unfolding statuses_at
run_goes_on front more n m symbol bytes s after total en em h so_far =
    let next : n ≡ suc m = omega (arith, en) in
    let one : with_front front (statuses_at (replicate n symbol) bytes) ≡ with_front (front ++ s ∷ []) (statuses_at (replicate m symbol) after) =
    rw (next, h) (regroup front s (statuses_at (replicate m symbol) after)) in
    ap (λ (xs : List Status). with_front xs (statuses_at (replicate m symbol) after)) em ∙ sym one ∙ so_far

pub run_ends : (e : ReadReport) (front : List Status) (n m symbol : ℕ) (bytes : List ℕ) (total : Result (List Status × List ℕ) ReportFault)
    → n ≡ m + 1 → Fails e (status_at symbol bytes) → with_front front (statuses_at (replicate n symbol) bytes) ≡ total → Fails e total
unfolding statuses_at
run_ends errors.NoMemory front n m symbol bytes total en h so_far = tt
run_ends (errors.Fault f) front n m symbol bytes total en h so_far =
    let next : n ≡ suc m = omega (arith, en) in
    let one : with_front front (statuses_at (replicate n symbol) bytes) ≡ Err f = rw (next, h) refl in
    sym so_far ∙ one

pub run_is_done : (front : List Status) (n symbol : ℕ) (bytes : List ℕ) (total : Result (List Status × List ℕ) ReportFault)
    → n ≡ 0 → with_front front (statuses_at (replicate n symbol) bytes) ≡ total → total ≡ Ok (front, bytes)
unfolding statuses_at
run_is_done front n symbol bytes total none so_far =
    let one : with_front front (statuses_at (replicate n symbol) bytes) ≡ Ok (front, bytes) = rw none (ap (λ (ss : List Status). Ok (ss, bytes)) (append-nil front)) in
    sym so_far ∙ one

-- ---- the statuses of all runs

abbrev pub no_run : SymbolRun
no_run = record { symbol = 0; count = 0 }

abbrev Both : Type 0
Both = Result (List Status × List ℕ) ReportFault

-- what the first symbols gave, and what the others give behind it
abbrev then : Both → List ℕ → Both
then read symbols = read >>= λ x. with_front x.0 (statuses_at symbols x.1)

then_front : (s : Status) (read : Both) (ys : List ℕ) → then (read >>= λ x. Ok (s ∷ x.0, x.1)) ys ≡ (then read ys >>= λ x. Ok (s ∷ x.0, x.1))
then_front s (Ok x) ys = front_of (statuses_at ys x.1)
  where
    front_of : (r : Both) → with_front (s ∷ x.0) r ≡ (with_front x.0 r >>= λ y. Ok (s ∷ y.0, y.1))
    front_of (Ok y) = refl
    front_of (Err f) = refl
then_front s (Err f) ys = refl

no_front : (r : Both) → with_front [] r ≡ r
no_front (Ok y) = refl
no_front (Err f) = refl

by_first : (xs ys : List ℕ) (r : Result (Status × List ℕ) ReportFault)
    → ((bytes : List ℕ) → statuses_at (xs ++ ys) bytes ≡ then (statuses_at xs bytes) ys)
    → (r >>= λ f. statuses_at (xs ++ ys) f.1 >>= λ o. Ok (f.0 ∷ o.0, o.1)) ≡ then (r >>= λ f. statuses_at xs f.1 >>= λ o. Ok (f.0 ∷ o.0, o.1)) ys
by_first xs ys (Ok f) others = ap (λ (r : Both). r >>= λ o. Ok (f.0 ∷ o.0, o.1)) (others f.1) ∙ sym (then_front f.0 (statuses_at xs f.1) ys)
by_first xs ys (Err e) others = refl

both_parts : (xs ys bytes : List ℕ) → statuses_at (xs ++ ys) bytes ≡ then (statuses_at xs bytes) ys
unfolding statuses_at
both_parts [] ys bytes = sym (no_front (statuses_at ys bytes))
both_parts (symbol ∷ xs) ys bytes = by_first xs ys (status_at symbol bytes) (λ others. both_parts xs ys others)

front_then : (front : List Status) (read : Both) (ys : List ℕ) → with_front front (then read ys) ≡ then (with_front front read) ys
front_then front (Ok x) ys = fronts (statuses_at ys x.1)
  where
    fronts : (r : Both) → with_front front (with_front x.0 r) ≡ with_front (front ++ x.0) r
    fronts (Ok y) = ap (λ (ss : List Status). Ok (ss, y.1)) (sym (append_assoc front x.0 y.0))
    fronts (Err f) = refl
front_then front (Err f) ys = refl

at_run : (front : List Status) (runs : List SymbolRun) (i : ℕ) (bytes : List ℕ) (d : SymbolRun) → i < length runs
    → with_front front (statuses_at (all_symbols_of (drop i runs)) bytes)
    ≡ then (with_front front (statuses_at (symbols_of_run (get_or runs i d)) bytes)) (all_symbols_of (drop (i + 1) runs))
at_run front runs i bytes d lt =
    let next : i + 1 ≡ suc i = omega arith in
    let split : all_symbols_of (drop i runs) ≡ symbols_of_run (get_or runs i d) ++ all_symbols_of (drop (i + 1) runs) =
    ap all_symbols_of (drop-cons runs i d lt) ∙ ap (λ k. symbols_of_run (get_or runs i d) ++ all_symbols_of (drop k runs)) (sym next) in
    ap (λ (xs : List ℕ). with_front front (statuses_at xs bytes)) split
    ∙ ap (with_front front) (both_parts (symbols_of_run (get_or runs i d)) (all_symbols_of (drop (i + 1) runs)) bytes)
    ∙ front_then front (statuses_at (symbols_of_run (get_or runs i d)) bytes) (all_symbols_of (drop (i + 1) runs))

pub runs_go_on : (front more : List Status) (runs : List SymbolRun) (i : ℕ) (bytes after : List ℕ) (d : SymbolRun) (total : Both) → i < length runs
    → with_front front (statuses_at (symbols_of_run (get_or runs i d)) bytes) ≡ Ok (more, after)
    → with_front front (statuses_at (all_symbols_of (drop i runs)) bytes) ≡ total
    → with_front more (statuses_at (all_symbols_of (drop (i + 1) runs)) after) ≡ total
runs_go_on front more runs i bytes after d total lt h so_far =
    sym (at_run front runs i bytes d lt ∙ ap (λ (r : Both). then r (all_symbols_of (drop (i + 1) runs))) h) ∙ so_far

pub runs_end : (e : ReadReport) (front : List Status) (runs : List SymbolRun) (i : ℕ) (bytes : List ℕ) (d : SymbolRun) (total : Both) → i < length runs
    → Fails e (with_front front (statuses_at (symbols_of_run (get_or runs i d)) bytes))
    → with_front front (statuses_at (all_symbols_of (drop i runs)) bytes) ≡ total → Fails e total
runs_end errors.NoMemory front runs i bytes d total lt h so_far = tt
runs_end (errors.Fault f) front runs i bytes d total lt h so_far =
    sym so_far ∙ at_run front runs i bytes d lt ∙ ap (λ (r : Both). then r (all_symbols_of (drop (i + 1) runs))) h

pub runs_are_done : (front : List Status) (runs : List SymbolRun) (i : ℕ) (bytes : List ℕ) (total : Both) → length runs ≤ i
    → with_front front (statuses_at (all_symbols_of (drop i runs)) bytes) ≡ total → total ≡ Ok (front, bytes)
unfolding statuses_at
runs_are_done front runs i bytes total le so_far =
    let one : with_front front (statuses_at (all_symbols_of (drop i runs)) bytes) ≡ Ok (front, bytes) =
    rw (drop_all i runs le) (ap (λ (ss : List Status). Ok (ss, bytes)) (append-nil front)) in
    sym so_far ∙ one
