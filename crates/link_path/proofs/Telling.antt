-- A receiver's reports tell of each number when it arrived.
use Rattle.std.proofs.Common.{◌≡◌, ℕ, ℤ, suc, zero, pos, ◌+ℤ◌, ◌*ℤ◌, ◌+◌, ◌-◌, ◌*◌, ◌/◌, ◌%◌, ◌<◌, ◌≤◌, Bool, true, false, nat_le, if◌then◌else◌, Option, Some, None, List, [], ◌∷◌, ◌++◌, length, take, map, replicate, refl, sym, ◌∙◌, ap, ap₂, subst, append_assoc, arith, length-append}
use Rattle.std.specs.Prelude.{◌==◌}
use Rattle.std.specs.List.{range_with_len}
use Rattle.std.specs.Option.{unwrap_or}
use Rattle.std.proofs.lemmas.Int.{ints}
use Rattle.std.proofs.lemmas.Bool.Decides.{nat_tests}
use Rattle.std.proofs.lemmas.List.{map-append, length-replicate}
use Rattle.std.proofs.lemmas.List.FromFn.{take-map-range_with_len, length-map-range_with_len}
use Rattle.gcc_units.specs.Walk.{each_by}
use Rattle.gcc_units.specs.declared.limits.TheConstants.{ARRIVAL_MICROSECONDS}
use Rattle.twcc_report.specs.Spelling.{Feedback}
use Rattle.twcc_report.specs.declared.report.Status.{Status}
use Rattle.twcc_report.specs.declared.report.Status.TheVariants.{Small, Large}
use Rattle.link_path.specs.declared.TheConstants.{GREATEST_SMALL_DELTA}
use Rattle.link_path.specs.declared.link.Arrival.{Arrival}
use Rattle.link_path.specs.Division.{Run, Told, first_time, last_time, delta_status, statuses, numbers_in, reference_of, report_of, runs_of}
use Rattle.link_path.specs.Receiver.{KeptReceiver, quarters, heard, next_from, NumbersRise, told_before, next_reports}
use Rattle.link_path.specs.Told.{time_in, times_in, told, all_told, statuses_in, AreBased, time_of, times_of, TimesRise}
use Rattle.link_path.proofs.Runs.{statuses-length, numbers-push}
use Rattle.link_path.proofs.Heard.{all-numbers}

-- ---- runs whose arrivals rise

abbrev pub signed : Option ℕ → Option ℤ
signed None = None
signed (Some time) = Some (pos time)

abbrev pub as_told : Run → List (Option ℤ)
as_told run = map signed run

abbrev pub RunRises : ℕ → Run → Type 0
RunRises time [] = Unit {0}
RunRises time (None ∷ run) = RunRises time run
RunRises time (Some arrival ∷ run) = (time ≤ arrival) × RunRises arrival run

pub rises-front : (time : ℕ) (xs ys : Run) → RunRises time (xs ++ ys) → RunRises time xs
rises-front time [] ys r = tt
rises-front time (None ∷ xs) ys r = rises-front time xs ys r
rises-front time (Some arrival ∷ xs) ys r = (r.0, rises-front arrival xs ys r.1)

pub rises-behind : (time : ℕ) (xs ys : Run) → RunRises time (xs ++ ys) → RunRises (last_time time xs) ys
rises-behind time [] ys r = r
rises-behind time (None ∷ xs) ys r = rises-behind time xs ys r
rises-behind time (Some arrival ∷ xs) ys r = rises-behind arrival xs ys r.1

-- the reference of a run is not above its first arrival
rises-reference : (time from : ℕ) (run : Run) → RunRises from run → RunRises (256 * (first_time time run / 256)) run
rises-reference time from [] r = tt
rises-reference time from (None ∷ run) r = rises-reference time from run r
rises-reference time from (Some arrival ∷ run) r = (omega arith, r.1)

-- ---- a report

sum-is : (time delta arrival : ℕ) → time + delta ≡ arrival → pos time +ℤ pos delta ≡ pos arrival
sum-is time delta arrival h = omega (arith, ints, h)

time-by : (b : Bool) (time delta arrival : ℕ) → time + delta ≡ arrival → time_in (pos time) (if b then Small delta else Large (pos delta)) ≡ Some (pos arrival)
time-by true time delta arrival h = ap (λ (z : ℤ). Some z) (sum-is time delta arrival h)
time-by false time delta arrival h = ap (λ (z : ℤ). Some z) (sum-is time delta arrival h)

time-is : (time arrival : ℕ) → time ≤ arrival → time_in (pos time) (delta_status (arrival - time)) ≡ Some (pos arrival)
time-is time arrival h = time-by (nat_le (arrival - time) GREATEST_SMALL_DELTA) time (arrival - time) arrival (omega (arith, h))

times-are : (time : ℕ) (run : Run) → RunRises time run → times_in (pos time) (statuses time run) ≡ as_told run
times-are time [] r = refl
times-are time (None ∷ run) r = ap (λ (ts : List (Option ℤ)). None ∷ ts) (times-are time run r)
times-are time (Some arrival ∷ run) r =
    let here : time_in (pos time) (delta_status (arrival - time)) ≡ Some (pos arrival) = time-is time arrival r.0 in
    ap (λ (t : Option ℤ). t ∷ times_in (unwrap_or t (pos time)) (statuses arrival run)) here
    ∙ ap (λ (ts : List (Option ℤ)). Some (pos arrival) ∷ ts) (times-are arrival run r.1)

scaled : (n : ℕ) → pos 256 *ℤ pos n ≡ pos (256 * n)
scaled n = omega (arith, ints)

told-report : (earlier : Told) (before : List Run) (time : ℕ) (run : Run) → RunRises time run → told (report_of earlier before run) ≡ as_told run
told-report earlier before time run r =
    let n : ℕ = reference_of earlier before run in
    ap (λ z. times_in z (statuses (256 * n) run)) (scaled n)
    ∙ times-are (256 * n) run (rises-reference (last_time earlier.last (numbers_in before)) time run r)

told-reports : (earlier : Told) (before : List Run) (time : ℕ) (runs : List Run) → RunRises time (numbers_in runs) → all_told (each_by (report_of earlier) before runs) ≡ as_told (numbers_in runs)
told-reports earlier before time [] r = refl
told-reports earlier before time (run ∷ runs) r =
    ap₂ (λ (xs ys : List (Option ℤ)). xs ++ ys) (told-report earlier before time run (rises-front time run (numbers_in runs) r))
    (told-reports earlier (before ++ run ∷ []) (last_time time run) runs (rises-behind time run (numbers_in runs) r))
    ∙ sym (map-append signed run (numbers_in runs))

pub told-next : (now : KeptReceiver) (time : ℕ) → RunRises time (heard now.from now.taken) → all_told (next_reports now) ≡ as_told (heard now.from now.taken)
told-next now time r =
    let all : numbers_in (runs_of (heard now.from now.taken)) ≡ heard now.from now.taken = all-numbers (heard now.from now.taken) in
    told-reports (told_before now) [] time (runs_of (heard now.from now.taken)) (subst (RunRises time) (sym all) r) ∙ ap as_told all

-- ---- the bases

based-by : (earlier : Told) (before : List Run) (runs : List Run) → AreBased (earlier.numbers + length (numbers_in before)) (each_by (report_of earlier) before runs)
based-by earlier before [] = tt
based-by earlier before (run ∷ runs) =
    let n : ℕ = reference_of earlier before run in
    let more : earlier.numbers + length (numbers_in (before ++ run ∷ [])) ≡ earlier.numbers + length (numbers_in before) + length (statuses (256 * n) run) =
    omega (arith, ap length (numbers-push before run), length-append (numbers_in before) run, statuses-length (256 * n) run) in
    let P : ℕ → Type 0 = λ k. AreBased k (each_by (report_of earlier) (before ++ run ∷ []) runs) in
    (refl, subst P more (based-by earlier (before ++ run ∷ []) runs))

pub based-next : (now : KeptReceiver) → AreBased now.from (next_reports now)
based-next now =
    let P : ℕ → Type 0 = λ k. AreBased k (next_reports now) in
    let none : now.from + 0 ≡ now.from = omega arith in
    subst P none (based-by (told_before now) [] (runs_of (heard now.from now.taken)))

pub based-push : (before : ℕ) (fs : List Feedback) (f : Feedback) → AreBased before fs → f.base ≡ (before + length (statuses_in fs)) % 65536 → AreBased before (fs ++ f ∷ [])
based-push before [] f are is =
    let none : before + 0 ≡ before = omega arith in
    (is ∙ ap (λ n. n % 65536) none, tt)
based-push before (g ∷ fs) f are is =
    let more : before + length (g.statuses ++ statuses_in fs) ≡ before + length g.statuses + length (statuses_in fs) = omega (arith, length-append g.statuses (statuses_in fs)) in
    (are.0, based-push (before + length g.statuses) fs f are.1 (is ∙ ap (λ n. n % 65536) more))

-- ---- as many as there are statuses

times-length : (time : ℤ) (ss : List Status) → length (times_in time ss) ≡ length ss
times-length time [] = refl
times-length time (status ∷ ss) = ap suc (times-length (unwrap_or (time_in time status) time) ss)

pub told-length : (fs : List Feedback) → length (all_told fs) ≡ length (statuses_in fs)
told-length [] = refl
told-length (f ∷ fs) =
    omega (arith, length-append (told f) (all_told fs), length-append f.statuses (statuses_in fs), times-length (pos 256 *ℤ f.reference) f.statuses, told-length fs)

-- ---- what is heard of taken packets

-- numbers rise from one on
abbrev pub NumbersFrom : ℕ → List Arrival → Type 0
NumbersFrom from [] = Unit {0}
NumbersFrom from (a ∷ later) = (from ≤ a.number) × NumbersFrom (a.number + 1) later

pub numbers-of : (from : ℕ) (taken : List Arrival) → NumbersRise from taken → NumbersFrom from taken
numbers-of from [] r = tt
numbers-of from (a ∷ later) r = (r.0, numbers-of (a.number + 1) later r.2)

pub next-low : (from : ℕ) (taken : List Arrival) → NumbersFrom from taken → from ≤ next_from from taken
next-low from [] r = omega arith
next-low from (a ∷ later) r = omega (arith, r.0, next-low (a.number + 1) later r.1)

pub heard-append : (from : ℕ) (xs ys : List Arrival) → heard from (xs ++ ys) ≡ heard from xs ++ heard (next_from from xs) ys
heard-append from [] ys = refl
heard-append from (a ∷ xs) ys =
    let first : Run = replicate (a.number - from) None ++ Some (quarters a) ∷ [] in
    ap (λ (run : Run). first ++ run) (heard-append (a.number + 1) xs ys) ∙ sym (append_assoc first (heard (a.number + 1) xs) (heard (next_from (a.number + 1) xs) ys))

pub heard-length : (from : ℕ) (taken : List Arrival) → NumbersFrom from taken → from + length (heard from taken) ≡ next_from from taken
heard-length from [] r = omega arith
heard-length from (a ∷ later) r =
    let first : Run = replicate (a.number - from) None ++ Some (quarters a) ∷ [] in
    let missing : Run = replicate (a.number - from) None in
    let many : length missing ≡ a.number - from = length-replicate (a.number - from) None in
    omega (arith, r.0, length-append first (heard (a.number + 1) later), length-append missing (Some (quarters a) ∷ []), many, heard-length (a.number + 1) later r.1)

-- arrivals rise
rises-piece : (time n arrival : ℕ) (run : Run) → time ≤ arrival → RunRises arrival run → RunRises time ((replicate n None ++ Some arrival ∷ []) ++ run)
rises-piece time zero arrival run h r = (h, r)
rises-piece time (suc n) arrival run h r = rises-piece time n arrival run h r

pub heard-rises : (from low time : ℕ) (taken : List Arrival) → TimesRise low taken → time ≤ low / ARRIVAL_MICROSECONDS → RunRises time (heard from taken)
heard-rises from low time [] r h = tt
heard-rises from low time (a ∷ later) r h =
    rises-piece time (a.number - from) (quarters a) (heard (a.number + 1) later) (omega (arith, r.0, h))
    (heard-rises (a.number + 1) a.at (quarters a) later r.1 (omega arith))

-- a number below all of them did not arrive
none-there : (from n : ℕ) (taken : List Arrival) → NumbersFrom from taken → n < from → time_of taken n ≡ None
none-there from n [] r h = refl
none-there from n (a ∷ later) r h =
    let other : (a.number == n) ≡ false = grind (arith, nat_tests, r.0, h) in
    rw other (none-there (a.number + 1) n later r.1 (omega (arith, r.0, h)))

none-are : (from n : ℕ) (taken : List Arrival) → NumbersFrom (from + n) taken → times_of taken from n ≡ replicate n None
none-are from zero taken r = refl
none-are from (suc n) taken r =
    let P : ℕ → Type 0 = λ k. NumbersFrom k taken in
    let next : from + suc n ≡ from + 1 + n = omega arith in
    ap₂ (λ (t : Option ℤ) (ts : List (Option ℤ)). t ∷ ts) (none-there (from + suc n) from taken r (omega arith)) (none-are (from + 1) n taken (subst P next r))

-- numbers behind the first one are those of the later ones
later-are : (a : Arrival) (later : List Arrival) (from n : ℕ) → a.number < from → times_of (a ∷ later) from n ≡ times_of later from n
later-are a later from zero h = refl
later-are a later from (suc n) h =
    let other : (a.number == from) ≡ false = grind (arith, nat_tests, h) in
    ap₂ (λ (t : Option ℤ) (ts : List (Option ℤ)). t ∷ ts) (rw other refl) (later-are a later (from + 1) n (omega (arith, h)))

here-is : (a : Arrival) (later : List Arrival) → time_of (a ∷ later) a.number ≡ Some (pos (quarters a))
here-is a later =
    let same : (a.number == a.number) ≡ true = grind (arith, nat_tests) in
    rw same refl

pub range-split : (from m n : ℕ) → range_with_len from (m + n) ≡ range_with_len from m ++ range_with_len (from + m) n
range-split from zero n =
    let e : from + 0 ≡ from = omega arith in
    let none : 0 + n ≡ n = omega arith in
    rw (e, none) refl
range-split from (suc m) n =
    let e : from + suc m ≡ from + 1 + m = omega arith in
    let more : suc m + n ≡ suc (m + n) = omega arith in
    rw (e, more) (ap (λ (ns : List ℕ). from ∷ ns) (range-split (from + 1) m n))

pub times-split : (taken : List Arrival) (from m n : ℕ) → times_of taken from (m + n) ≡ times_of taken from m ++ times_of taken (from + m) n
times-split taken from m n = ap (map (time_of taken)) (range-split from m n) ∙ map-append (time_of taken) (range_with_len from m) (range_with_len (from + m) n)

missing-told : (n : ℕ) → as_told (replicate n None) ≡ replicate n None
missing-told zero = refl
missing-told (suc n) = ap (λ (ts : List (Option ℤ)). None ∷ ts) (missing-told n)

pub heard-times : (from : ℕ) (taken : List Arrival) → NumbersFrom from taken → as_told (heard from taken) ≡ times_of taken from (next_from from taken - from)
heard-times from [] r = let none : from - from ≡ 0 = omega arith in rw none refl
heard-times from (a ∷ later) r =
    let n : ℕ = a.number - from in
    let behind : ℕ = next_from (a.number + 1) later - (a.number + 1) in
    let there : from + n ≡ a.number = omega (arith, r.0) in
    let count : next_from (a.number + 1) later - from ≡ n + suc behind = omega (arith, r.0, next-low (a.number + 1) later r.1) in
    let all : List Arrival = a ∷ later in
    let Q : ℕ → Type 0 = λ k. NumbersFrom k all in
    let at : NumbersFrom (from + n) all = subst Q (sym there) (omega arith, r.1) in
    let front : as_told (replicate n None) ≡ times_of all from n = missing-told n ∙ sym (none-are from n all at) in
    let back : Some (pos (quarters a)) ∷ as_told (heard (a.number + 1) later) ≡ times_of all a.number (suc behind) =
    ap₂ (λ (t : Option ℤ) (ts : List (Option ℤ)). t ∷ ts) (sym (here-is a later)) (heard-times (a.number + 1) later r.1 ∙ sym (later-are a later (a.number + 1) behind (omega arith))) in
    ap as_told (append_assoc (replicate n None) (Some (quarters a) ∷ []) (heard (a.number + 1) later))
    ∙ map-append signed (replicate n None) (Some (quarters a) ∷ heard (a.number + 1) later)
    ∙ ap₂ (λ (xs ys : List (Option ℤ)). xs ++ ys) front (back ∙ ap (λ k. times_of all k (suc behind)) (sym there))
    ∙ sym (ap (times_of all from) count ∙ times-split all from n (suc behind))

-- the front of what is told of numbers is told of the first ones
pub front-times : (xs rest : List (Option ℤ)) (taken : List Arrival) (n : ℕ) → xs ++ rest ≡ times_of taken 0 n → xs ≡ times_of taken 0 (length xs)
front-times xs rest taken n h =
    let long : length (xs ++ rest) ≡ n = ap length h ∙ length-map-range_with_len (time_of taken) 0 n in
    let few : length xs ≤ n = omega (arith, long, length-append xs rest) in
    sym (take-front xs rest) ∙ ap (take (length xs)) h ∙ take-map-range_with_len (time_of taken) 0 n (length xs) few
  where
    take-front : (ys zs : List (Option ℤ)) → take (length ys) (ys ++ zs) ≡ ys
    take-front [] zs = refl
    take-front (y ∷ ys) zs = ap (λ (l : List (Option ℤ)). y ∷ l) (take-front ys zs)
