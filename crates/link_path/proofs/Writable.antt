-- Each report that a receiver makes has a spelling: its run has 1 to 65,535 numbers, and its reference fits.
use Rattle.std.proofs.Common.{◌≡◌, ℕ, suc, zero, ◌+◌, ◌-◌, ◌*◌, ◌/◌, ◌≤◌, ◌||◌, Bool, true, false, nat_le, nat_lt, Option, Some, None, List, [], ◌∷◌, ◌++◌, length, fold, replicate, All, refl, arith, length-append}
use Rattle.std.proofs.lemmas.Int.{ints}
use Rattle.std.proofs.lemmas.Bool.Decides.{nat_tests}
use Rattle.std.proofs.lemmas.List.Elements.{All-nil, All-cons, All-head, All-tail, All-push, All-append}
use Rattle.gcc_units.specs.Walk.{each_by}
use Rattle.gcc_units.specs.declared.limits.TheConstants.{MOST_STATUSES, ARRIVAL_MICROSECONDS}
use Rattle.link_path.specs.declared.TheConstants.{GREATEST_DELTA, GREATEST_TAKEN}
use Rattle.link_path.specs.declared.link.Arrival.{Arrival}
use Rattle.link_path.specs.Division.{Run, Division, Told, begins, placed, divided, runs_with, runs_of, first_time, last_time, time_after, numbers_in, report_of, reference_of, statuses}
use Rattle.link_path.specs.Receiver.{KeptReceiver, quarters, heard, NumbersRise, IsReceiver, IsWritable, told_before, next_reports}
use Rattle.link_path.proofs.Runs.{statuses-length}

abbrev greatest : ℕ
greatest = GREATEST_TAKEN / ARRIVAL_MICROSECONDS

-- no arrival is above that of the greatest moment
abbrev IsEarly : Option ℕ → Type 0
IsEarly None = Unit {0}
IsEarly (Some arrival) = arrival ≤ greatest

record IsFine (run : Run) : Type 0 where
  some : 1 ≤ length run
  few : length run ≤ MOST_STATUSES
  early : All IsEarly run

record AreFine (d : Division) : Type 0 where
  ended : All IsFine d.ended
  few : length d.last ≤ MOST_STATUSES
  early : All IsEarly d.last

-- ---- runs

none-far : (time : ℕ) → nat_lt GREATEST_DELTA (time - time) ≡ false
none-far time = grind (arith, nat_tests)

-- no run ends that is empty
some-ends : (run : Run) (there : Option ℕ) → begins run there ≡ true → 1 ≤ length run
some-ends [] None e = absurd cc
some-ends [] (Some time) e = let far : nat_lt GREATEST_DELTA (time - time) ≡ true = e in absurd (grind (arith, nat_tests, far))
some-ends (here ∷ run) there e = omega arith

short-test : (n : ℕ) (b : Bool) → (nat_le MOST_STATUSES n || b) ≡ false → n + 1 ≤ MOST_STATUSES
short-test n b e = by_test (nat_le MOST_STATUSES n) refl e
  where
    by_test : (c : Bool) → nat_le MOST_STATUSES n ≡ c → (c || b) ≡ false → n + 1 ≤ MOST_STATUSES
    by_test true is e = absurd cc
    by_test false is e = grind (arith, nat_tests)

stays-short : (run : Run) (there : Option ℕ) → begins run there ≡ false → length run + 1 ≤ MOST_STATUSES
stays-short run None e = short-test (length run) (nat_lt GREATEST_DELTA 0) e
stays-short run (Some time) e = short-test (length run) (nat_lt GREATEST_DELTA (time - last_time time run)) e

fine-placed : (d : Division) (there : Option ℕ) (b : Bool) → begins d.last there ≡ b → AreFine d → IsEarly there → AreFine (placed d there)
fine-placed d there true e fine early =
    rw e (record {
      ended = All-push IsFine d.ended d.last fine.ended (record { some = some-ends d.last there e; few = fine.few; early = fine.early });
      few = omega arith;
      early = All-cons IsEarly there [] early (All-nil IsEarly);
    })
fine-placed d there false e fine early =
    rw e (record {
      ended = fine.ended;
      few = omega (arith, stays-short d.last there e, length-append d.last (there ∷ []));
      early = All-push IsEarly d.last there fine.early early;
    })

fine-all : (d : Division) (numbers : List (Option ℕ)) → AreFine d → All IsEarly numbers → AreFine (fold placed d numbers)
fine-all d [] fine early = fine
fine-all d (there ∷ numbers) fine early =
    fine-all (placed d there) numbers (fine-placed d there (begins d.last there) refl fine (All-head IsEarly there numbers early)) (All-tail IsEarly there numbers early)

fine-with : (ended : List Run) (run : Run) → AreFine (record { ended = ended; last = run }) → All IsFine (runs_with ended run)
fine-with ended [] fine = fine.ended
fine-with ended (there ∷ run) fine = All-push IsFine ended (there ∷ run) fine.ended (record { some = omega arith; few = fine.few; early = fine.early })

fine-runs : (numbers : List (Option ℕ)) → All IsEarly numbers → All IsFine (runs_of numbers)
fine-runs numbers early =
    let first : AreFine (record { ended = []; last = [] }) = record { ended = All-nil IsFine; few = omega arith; early = All-nil IsEarly } in
    let all : AreFine (divided numbers) = fine-all (record { ended = []; last = [] }) numbers first early in
    fine-with (divided numbers).ended (divided numbers).last (record { ended = all.ended; few = all.few; early = all.early })

-- ---- times

after-early : (time : ℕ) (there : Option ℕ) → time ≤ greatest → IsEarly there → time_after time there ≤ greatest
after-early time None h early = h
after-early time (Some arrival) h early = early

last-early : (time : ℕ) (run : Run) → time ≤ greatest → All IsEarly run → last_time time run ≤ greatest
last-early time [] h early = h
last-early time (there ∷ run) h early =
    last-early (time_after time there) run (after-early time there h (All-head IsEarly there run early)) (All-tail IsEarly there run early)

first-early : (time : ℕ) (run : Run) → time ≤ greatest → All IsEarly run → first_time time run ≤ greatest
first-early time [] h early = h
first-early time (None ∷ run) h early = first-early time run h (All-tail IsEarly None run early)
first-early time (Some arrival ∷ run) h early = All-head IsEarly (Some arrival) run early

numbers-early : (runs : List Run) → All IsFine runs → All IsEarly (numbers_in runs)
numbers-early [] fine = All-nil IsEarly
numbers-early (run ∷ runs) fine = All-append IsEarly run (numbers_in runs) (All-head IsFine run runs fine).early (numbers-early runs (All-tail IsFine run runs fine))

-- ---- reports

report-writable : (told : Told) (before : List Run) (run : Run) → told.last ≤ greatest → All IsFine before → IsFine run → IsWritable (report_of told before run)
report-writable told before run h fine is =
    let n : ℕ = reference_of told before run in
    let time : first_time (last_time told.last (numbers_in before)) run ≤ greatest =
    first-early (last_time told.last (numbers_in before)) run (last-early told.last (numbers_in before) h (numbers-early before fine)) is.early in
    let long : length (statuses (256 * n) run) ≡ length run = statuses-length (256 * n) run in
    record {
      some = omega (arith, long, is.some);
      few = omega (arith, long, is.few);
      low = omega (arith, ints);
      high = omega (arith, ints, time);
    }

reports-writable : (told : Told) (before runs : List Run) → told.last ≤ greatest → All IsFine before → All IsFine runs → All IsWritable (each_by (report_of told) before runs)
reports-writable told before [] h done fine = All-nil IsWritable
reports-writable told before (run ∷ runs) h done fine =
    All-cons IsWritable (report_of told before run) (each_by (report_of told) (before ++ run ∷ []) runs)
    (report-writable told before run h done (All-head IsFine run runs fine))
    (reports-writable told (before ++ run ∷ []) runs h (All-push IsFine before run done (All-head IsFine run runs fine)) (All-tail IsFine run runs fine))

-- ---- what was taken

missing-early : (n : ℕ) → All IsEarly (replicate n None)
missing-early zero = All-nil IsEarly
missing-early (suc n) = All-cons IsEarly None (replicate n None) tt (missing-early n)

heard-early : (from : ℕ) (taken : List Arrival) → NumbersRise from taken → All IsEarly (heard from taken)
heard-early from [] rise = All-nil IsEarly
heard-early from (a ∷ later) rise =
    let here : quarters a ≤ greatest = omega (arith, rise.1) in
    All-append IsEarly (replicate (a.number - from) None ++ Some (quarters a) ∷ []) (heard (a.number + 1) later)
    (All-push IsEarly (replicate (a.number - from) None) (Some (quarters a)) (missing-early (a.number - from)) here)
    (heard-early (a.number + 1) later rise.2)

pub all-writable : (now : KeptReceiver) → IsReceiver now.from now.last now.taken → All IsWritable (next_reports now)
all-writable now is =
    reports-writable (told_before now) [] (runs_of (heard now.from now.taken)) is.early (All-nil IsFine)
    (fine-runs (heard now.from now.taken) (heard-early now.from now.taken is.rise))

pub last-kept : (from last before next : ℕ) (taken fresh : List Arrival) → IsReceiver from last taken → before ≡ last_time last (heard from taken) → fresh ≡ []
    → IsReceiver next before fresh
last-kept from last before next taken fresh is before_is none =
    let early : last_time last (heard from taken) ≤ greatest = last-early last (heard from taken) is.early (heard-early from taken is.rise) in
    rw none (record { rise = tt; early = omega (arith, early, before_is) })
