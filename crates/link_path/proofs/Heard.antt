-- What one more packet adds to what the receiver tells.
use Rattle.std.proofs.Common.{◌≡◌, ℕ, suc, zero, ◌+◌, ◌-◌, ◌%◌, ◌<◌, ◌≤◌, Bool, true, false, if◌then◌else◌, fold, Option, Some, None, List, [], ◌∷◌, ◌++◌, length, take, get_or, replicate, refl, sym, ◌∙◌, ap, append-nil, append_assoc, arith, length-append, map, ◌↔◌}
use Rattle.std.proofs.lemmas.List.{length-map}
use Rattle.gcc_units.proofs.Walk.{each_by-length}
use Rattle.twcc_report.specs.Spelling.{view}
use Rattle.twcc_report.specs.declared.report.Report.{Report}
use Rattle.link_path.specs.declared.TheConstants.{GREATEST_TAKEN}
use Rattle.link_path.specs.declared.link.Arrival.{Arrival}
use Rattle.link_path.specs.declared.building.Building.{Building}
use Rattle.link_path.specs.Division.{Run, Told, Division, begins, placed, divided, runs_with, runs_of, numbers_in, last_time, report_of}
use Rattle.link_path.specs.Building.{IsAt}
use Rattle.link_path.specs.Receiver.{KeptReceiver, quarters, heard, next_from, NumbersRise, told_all, told_before, next_reports}
use Rattle.link_path.proofs.Runs.{numbers-push}

-- the numbers that a packet adds
abbrev pub piece : ℕ → Arrival → Run
piece next a = replicate (a.number - next) None ++ Some (quarters a) ∷ []

pub heard-push : (from : ℕ) (xs : List Arrival) (a : Arrival) → heard from (xs ++ a ∷ []) ≡ heard from xs ++ piece (next_from from xs) a
heard-push from [] a = append-nil (piece from a)
heard-push from (b ∷ later) a =
    ap (λ (run : Run). piece from b ++ run) (heard-push (b.number + 1) later a) ∙ sym (append_assoc (piece from b) (heard (b.number + 1) later) (piece (next_from (b.number + 1) later) a))

pub next-push : (from : ℕ) (xs : List Arrival) (a : Arrival) → next_from from (xs ++ a ∷ []) ≡ a.number + 1
next-push from [] a = refl
next-push from (b ∷ later) a = next-push (b.number + 1) later a

pub rise-push : (from : ℕ) (xs : List Arrival) (a : Arrival) → NumbersRise from xs → next_from from xs ≤ a.number → a.at ≤ GREATEST_TAKEN → NumbersRise from (xs ++ a ∷ [])
rise-push from [] a r h k = (h, k, tt)
rise-push from (b ∷ later) a r h k = (r.0, r.1, rise-push (b.number + 1) later a r.2 h k)

-- a packet that comes at its place
pub record IsAtPlace (next : ℕ) (a : Arrival) : Type 0 where
  pub after : next ≤ a.number
  pub range : a.at ≤ GREATEST_TAKEN

pub rise-at : (from : ℕ) (xs : List Arrival) (i : ℕ) (d : Arrival) → NumbersRise from xs → i < length xs → IsAtPlace (next_from from (take i xs)) (get_or xs i d)
rise-at from [] i d r h = absurd (omega arith)
rise-at from (b ∷ later) zero d r h = record { after = r.0; range = r.1 }
rise-at from (b ∷ later) (suc i) d r h = rise-at (b.number + 1) later i d r.2 (omega arith)

pub piece-put : (numbers : Run) (next : ℕ) (a : Arrival) → (numbers ++ replicate (a.number - next) None) ++ Some (quarters a) ∷ [] ≡ numbers ++ piece next a
piece-put numbers next a = append_assoc numbers (replicate (a.number - next) None) (Some (quarters a) ∷ [])

-- ---- the last report

pub ended-with : (b : Building) (told : Told) (ended : List Run) (run : Run) → length run ≡ 0 → IsAt b told ended run → IsAt b told (runs_with ended run) []
ended-with b told ended [] e h = h
ended-with b told ended (there ∷ run) e h = absurd (omega arith)

pub closed-with : (b : Building) (told : Told) (ended : List Run) (run : Run) → 0 < length run → IsAt b told (ended ++ run ∷ []) [] → IsAt b told (runs_with ended run) []
closed-with b told ended [] e h = absurd (omega arith)
closed-with b told ended (there ∷ run) e h = h

-- ---- the steps of the loop over what was taken

pub put-one : (numbers : Run) (from next number : ℕ) (xs ys : List Arrival) (a : Arrival) → ys ≡ xs ++ a ∷ [] → next ≡ next_from from xs → number ≡ a.number
    → ((numbers ++ heard from xs) ++ replicate (number - next) None) ++ Some (quarters a) ∷ [] ≡ numbers ++ heard from ys
put-one numbers from next number xs ys a ys_is next_is number_is =
    ap (λ n. ((numbers ++ heard from xs) ++ replicate (n - next) None) ++ Some (quarters a) ∷ []) number_is
    ∙ ap (λ n. ((numbers ++ heard from xs) ++ replicate (a.number - n) None) ++ Some (quarters a) ∷ []) next_is
    ∙ piece-put (numbers ++ heard from xs) (next_from from xs) a
    ∙ append_assoc numbers (heard from xs) (piece (next_from from xs) a)
    ∙ ap (λ (run : Run). numbers ++ run) (sym (heard-push from xs a) ∙ ap (heard from) (sym ys_is))

pub next-one : (from number : ℕ) (xs ys : List Arrival) (a : Arrival) → ys ≡ xs ++ a ∷ [] → number ≡ a.number → number + 1 ≡ next_from from ys
next-one from number xs ys a ys_is number_is = ap (λ n. n + 1) number_is ∙ sym (next-push from xs a) ∙ ap (next_from from) (sym ys_is)

pub rise-pushed : (b : Bool) (from : ℕ) (xs ys : List Arrival) (a : Arrival) → ys ≡ (if b then xs ++ a ∷ [] else xs) → NumbersRise from xs → next_from from xs ≤ a.number → a.at ≤ GREATEST_TAKEN → NumbersRise from ys
rise-pushed true from xs ys a e r h k = rw e (rise-push from xs a r h k)
rise-pushed false from xs ys a e r h k = rw e r

-- ---- the runs are all numbers, one behind the other

all-placed : (d : Division) (there : Option ℕ) (b : Bool) → begins d.last there ≡ b
    → numbers_in (placed d there).ended ++ (placed d there).last ≡ (numbers_in d.ended ++ d.last) ++ there ∷ []
all-placed d there true e = rw e (ap (λ (run : Run). run ++ there ∷ []) (numbers-push d.ended d.last))
all-placed d there false e = rw e (sym (append_assoc (numbers_in d.ended) d.last (there ∷ [])))

all-from : (d : Division) (numbers : List (Option ℕ))
    → numbers_in (fold placed d numbers).ended ++ (fold placed d numbers).last ≡ (numbers_in d.ended ++ d.last) ++ numbers
all-from d [] = sym (append-nil (numbers_in d.ended ++ d.last))
all-from d (there ∷ numbers) =
    all-from (placed d there) numbers
    ∙ ap (λ (run : Run). run ++ numbers) (all-placed d there (begins d.last there) refl)
    ∙ append_assoc (numbers_in d.ended ++ d.last) (there ∷ []) numbers

all-with : (ended : List Run) (run : Run) → numbers_in (runs_with ended run) ≡ numbers_in ended ++ run
all-with ended [] = sym (append-nil (numbers_in ended))
all-with ended (there ∷ run) = numbers-push ended (there ∷ run)

pub all-numbers : (numbers : List (Option ℕ)) → numbers_in (runs_of numbers) ≡ numbers
all-numbers numbers = all-with (divided numbers).ended (divided numbers).last ∙ all-from (record { ended = []; last = [] }) numbers

-- what is kept after a list
pub kept-after : (now : KeptReceiver) (from last feedback : ℕ) (taken : List Arrival) → from ≡ next_from now.from now.taken
    → last ≡ last_time now.last (numbers_in (runs_of (heard now.from now.taken)))
    → feedback ≡ (now.feedback + length (runs_of (heard now.from now.taken))) % 256 → taken ≡ []
    → record { from = from; last = last; feedback = feedback; taken = taken } ≡ told_all now
kept-after now from last feedback taken from_is last_is feedback_is taken_is =
    let last_heard : last ≡ last_time now.last (heard now.from now.taken) = last_is ∙ ap (last_time now.last) (all-numbers (heard now.from now.taken)) in
    rw (from_is, last_heard, feedback_is, taken_is) refl

-- ---- where nothing was taken

some-heard : (from : ℕ) (taken : List Arrival) → length (heard from taken) ≡ 0 → taken ≡ []
some-heard from [] h = refl
some-heard from (a ∷ later) h =
    absurd (omega (arith, length-append (piece from a) (heard (a.number + 1) later), length-append (replicate (a.number - from) None) (Some (quarters a) ∷ [])))

no-runs : (runs : List Run) → length runs ≡ 0 → numbers_in runs ≡ []
no-runs [] h = refl
no-runs (run ∷ runs) h = absurd (omega arith)

pub empty-by : (now : KeptReceiver) (items : List Report) → map view items ≡ next_reports now → (length items ≡ 0) ↔ (now.taken ≡ [])
empty-by now items value =
    let numbers : List (Option ℕ) = heard now.from now.taken in
    let count : length items ≡ length (runs_of numbers) = sym (length-map items view) ∙ ap length value ∙ each_by-length (report_of (told_before now)) [] (runs_of numbers) in (
      λ h. some-heard now.from now.taken (ap length (sym (all-numbers numbers) ∙ no-runs (runs_of numbers) (sym count ∙ h))),
      λ e. count ∙ ap (λ (taken : List Arrival). length (runs_of (heard now.from taken))) e,
    )
