-- What one more packet or list makes of a receiver, and what all its reports tell.
use Rattle.std.proofs.Common.{◌≡◌, ℕ, ℤ, ◌+◌, ◌-◌, ◌%◌, Option, List, [], ◌∷◌, ◌++◌, length, refl, sym, ◌∙◌, ap, ap₂, subst, append-nil, append_assoc, arith, length-append}
use Rattle.std.proofs.lemmas.Grind.{flat_map-append}
use Rattle.std.proofs.lemmas.List.{map-append, length-map}
use Rattle.std.proofs.lemmas.List.Sums.{fold-append}
use Rattle.gcc_units.specs.Walk.{each_by}
use Rattle.gcc_units.proofs.Walk.{walk-push, flat_map-push, each_by-length}
use Rattle.twcc_report.specs.Spelling.{Feedback}
use Rattle.link_path.specs.declared.link.Arrival.{Arrival}
use Rattle.link_path.specs.Division.{Run, last_time, time_after, runs_of, report_of, reports_on}
use Rattle.link_path.specs.Receiver.{KeptReceiver, NumbersRise, heard, next_from, told_before, next_reports, told_all}
use Rattle.link_path.specs.Told.{told, all_told, statuses_in, AreBased, times_of, TimesRise}
use Rattle.link_path.specs.Taking.{Step, took, listed, arrival_in, takes, listed_at, listed_takes, fresh_with, fresh, told_of, reported_at, reported, StandsFor}
use Rattle.link_path.proofs.Telling.{as_told, signed, RunRises, rises-behind, told-next, based-next, told-length, NumbersFrom, numbers-of, heard-append, heard-length, heard-rises, heard-times, front-times}

-- ---- one more step

takes-push : (steps : List Step) (e : Step) → takes (steps ++ e ∷ []) ≡ takes steps ++ arrival_in e
takes-push steps e = flat_map-push arrival_in steps e

listed-push : (steps : List Step) (e : Step) → listed_takes (steps ++ e ∷ []) ≡ listed_at steps (listed_takes steps) e
listed-push steps e = walk-push listed_at [] steps e

fresh-push : (steps : List Step) (e : Step) → fresh (steps ++ e ∷ []) ≡ fresh_with (fresh steps) e
fresh-push steps e = fold-append fresh_with [] steps (e ∷ [])

reported-push : (steps : List Step) (e : Step) → reported (steps ++ e ∷ []) ≡ reported_at steps (reported steps) e
reported-push steps e = walk-push reported_at [] steps e

-- what was taken before the last list and what was taken since are all that was taken
parts-one : (steps : List Step) (e : Step) → takes steps ≡ listed_takes steps ++ fresh steps → takes (steps ++ e ∷ []) ≡ listed_takes (steps ++ e ∷ []) ++ fresh (steps ++ e ∷ [])
parts-one steps (took a) h =
    takes-push steps (took a)
    ∙ ap (λ (xs : List Arrival). xs ++ a ∷ []) h
    ∙ append_assoc (listed_takes steps) (fresh steps) (a ∷ [])
    ∙ sym (ap₂ (λ (xs ys : List Arrival). xs ++ ys) (listed-push steps (took a)) (fresh-push steps (took a)))
parts-one steps listed h =
    takes-push steps listed ∙ sym (ap₂ (λ (xs ys : List Arrival). xs ++ ys) (listed-push steps listed) (fresh-push steps listed))

parts-from : (before steps : List Step) → takes before ≡ listed_takes before ++ fresh before → takes (before ++ steps) ≡ listed_takes (before ++ steps) ++ fresh (before ++ steps)
parts-from before [] h =
    let P : List Step → Type 0 = λ es. takes es ≡ listed_takes es ++ fresh es in
    subst P (sym (append-nil before)) h
parts-from before (e ∷ steps) h =
    let P : List Step → Type 0 = λ es. takes es ≡ listed_takes es ++ fresh es in
    subst P (append_assoc before (e ∷ []) steps) (parts-from (before ++ e ∷ []) steps (parts-one before e h))

parts : (steps : List Step) → takes steps ≡ listed_takes steps ++ fresh steps
parts steps = parts-from [] steps refl

next-append : (from : ℕ) (xs ys : List Arrival) → next_from from (xs ++ ys) ≡ next_from (next_from from xs) ys
next-append from [] ys = refl
next-append from (x ∷ xs) ys = next-append (x.number + 1) xs ys

-- ---- the receiver

pub stands-took : (now : KeptReceiver) (steps : List Step) (a : Arrival) → StandsFor now steps → StandsFor (record now { taken = now.taken ++ a ∷ [] }) (steps ++ took a ∷ [])
stands-took now steps a h =
    record {
      from = h.from ∙ ap (next_from 0) (sym (listed-push steps (took a)));
      last = h.last ∙ ap (λ (xs : List Arrival). last_time 0 (heard 0 xs)) (sym (listed-push steps (took a)));
      feedback = h.feedback ∙ ap (λ (fs : List Feedback). length fs % 256) (sym (reported-push steps (took a)));
      taken = ap (λ (xs : List Arrival). xs ++ a ∷ []) h.taken ∙ sym (fresh-push steps (took a));
    }

feedback-by : (one all before : ℕ) → one ≡ all % 256 → (one + before) % 256 ≡ (all + before) % 256
feedback-by one all before h = omega (arith, h)

-- a report tells its count modulo 256 alone
reports-by : (one all numbers last : ℕ) (before runs : List Run) → one ≡ all % 256
    → each_by (report_of (record { reports = one; numbers = numbers; last = last })) before runs ≡ each_by (report_of (record { reports = all; numbers = numbers; last = last })) before runs
reports-by one all numbers last before [] h = refl
reports-by one all numbers last before (run ∷ runs) h =
    ap₂ (λ (f : Feedback) (fs : List Feedback). f ∷ fs)
    (ap (λ n. record (report_of (record { reports = all; numbers = numbers; last = last }) before run) { feedback = n }) (feedback-by one all (length before) h))
    (reports-by one all numbers last (before ++ run ∷ []) runs h)

pub list-is : (now : KeptReceiver) (steps : List Step) → StandsFor now steps → reported (steps ++ listed ∷ []) ≡ reported steps ++ next_reports now
list-is now steps h =
    let runs : List Run = runs_of (heard now.from now.taken) in
    let same : next_reports now ≡ reports_on (told_of steps (reported steps)) (runs_of (heard (next_from 0 (listed_takes steps)) (fresh steps))) =
    reports-by now.feedback (length (reported steps)) now.from now.last [] runs h.feedback
    ∙ ap (λ n. reports_on (record { reports = length (reported steps); numbers = n; last = now.last }) runs) h.from
    ∙ ap (λ n. reports_on (record { reports = length (reported steps); numbers = next_from 0 (listed_takes steps); last = n }) runs) h.last
    ∙ ap₂ (λ n (xs : List Arrival). reports_on (told_of steps (reported steps)) (runs_of (heard n xs))) h.from h.taken in
    reported-push steps listed ∙ ap (λ (fs : List Feedback). reported steps ++ fs) (sym same)

pub stands-listed : (now : KeptReceiver) (steps : List Step) → StandsFor now steps → StandsFor (told_all now) (steps ++ listed ∷ [])
stands-listed now steps h =
    let all : listed_takes (steps ++ listed ∷ []) ≡ listed_takes steps ++ fresh steps = listed-push steps listed ∙ parts steps in
    let fresh_ : Run = heard (next_from 0 (listed_takes steps)) (fresh steps) in
    let many : length (next_reports now) ≡ length (runs_of (heard now.from now.taken)) = each_by-length (report_of (told_before now)) [] (runs_of (heard now.from now.taken)) in
    record {
      from =
          ap₂ next_from h.from h.taken
          ∙ sym (next-append 0 (listed_takes steps) (fresh steps))
          ∙ ap (next_from 0) (sym all);
      last =
          ap₂ last_time h.last (ap₂ heard h.from h.taken)
          ∙ sym (ap (λ (xs : List Arrival). last_time 0 (heard 0 xs)) all
          ∙ ap (last_time 0) (heard-append 0 (listed_takes steps) (fresh steps))
          ∙ fold-append time_after 0 (heard 0 (listed_takes steps)) fresh_);
      feedback = omega (arith, h.feedback, ap length (list-is now steps h), length-append (reported steps) (next_reports now), many);
      taken = sym (fresh-push steps listed);
    }

-- ---- what all reports tell

record IsTelling (steps : List Step) : Type 0 where
  told : all_told (reported steps) ≡ as_told (heard 0 (listed_takes steps))
  bases : AreBased 0 (reported steps)

times-front : (low : ℕ) (xs ys : List Arrival) → TimesRise low (xs ++ ys) → TimesRise low xs
times-front low [] ys r = tt
times-front low (x ∷ xs) ys r = (r.0, times-front x.at xs ys r.1)

numbers-front : (from : ℕ) (xs ys : List Arrival) → NumbersFrom from (xs ++ ys) → NumbersFrom from xs
numbers-front from [] ys r = tt
numbers-front from (x ∷ xs) ys r = (r.0, numbers-front (x.number + 1) xs ys r.1)

based-append : (before : ℕ) (xs ys : List Feedback) → AreBased before xs → AreBased (before + length (statuses_in xs)) ys → AreBased before (xs ++ ys)
based-append before [] ys a b =
    let P : ℕ → Type 0 = λ n. AreBased n ys in
    let none : before + 0 ≡ before = omega arith in
    subst P none b
based-append before (f ∷ xs) ys a b =
    let P : ℕ → Type 0 = λ n. AreBased n ys in
    let more : before + length (f.statuses ++ statuses_in xs) ≡ before + length f.statuses + length (statuses_in xs) = omega (arith, length-append f.statuses (statuses_in xs)) in
    (a.0, based-append (before + length f.statuses) xs ys a.1 (subst P more b))

count-told : (steps : List Step) → NumbersFrom 0 (listed_takes steps) → IsTelling steps → length (statuses_in (reported steps)) ≡ next_from 0 (listed_takes steps)
count-told steps numbers t =
    let run : Run = heard 0 (listed_takes steps) in
    omega (arith, told-length (reported steps), ap length t.told, length-map run signed, heard-length 0 (listed_takes steps) numbers)

telling-listed : (steps : List Step) → NumbersFrom 0 (takes steps) → TimesRise 0 (takes steps) → IsTelling steps → IsTelling (steps ++ listed ∷ [])
telling-listed steps numbers times t =
    let old : List Arrival = listed_takes steps in
    let new : List Arrival = fresh steps in
    let now : KeptReceiver = record { from = next_from 0 old; last = last_time 0 (heard 0 old); feedback = length (reported steps); taken = new } in
    let cut : heard 0 (takes steps) ≡ heard 0 old ++ heard (next_from 0 old) new = ap (heard 0) (parts steps) ∙ heard-append 0 old new in
    let rises : RunRises 0 (heard 0 old ++ heard (next_from 0 old) new) = subst (RunRises 0) cut (heard-rises 0 0 0 (takes steps) times (omega arith)) in
    let here : all_told (next_reports now) ≡ as_told (heard (next_from 0 old) new) = told-next now (last_time 0 (heard 0 old)) (rises-behind 0 (heard 0 old) (heard (next_from 0 old) new) rises) in
    let push : reported (steps ++ listed ∷ []) ≡ reported steps ++ next_reports now = reported-push steps listed in
    let P : ℕ → Type 0 = λ n. AreBased n (next_reports now) in
    let numbers_old : NumbersFrom 0 old = numbers-front 0 old new (subst (NumbersFrom 0) (parts steps) numbers) in
    let place : next_from 0 old ≡ 0 + length (statuses_in (reported steps)) = omega (arith, count-told steps numbers_old t) in
    record {
      told =
          ap all_told push
          ∙ flat_map-append told (reported steps) (next_reports now)
          ∙ ap₂ (λ (xs ys : List (Option ℤ)). xs ++ ys) t.told here
          ∙ sym (ap (λ (xs : List Arrival). as_told (heard 0 xs)) (listed-push steps listed) ∙ ap as_told cut ∙ map-append signed (heard 0 old) (heard (next_from 0 old) new));
      bases = subst (AreBased 0) (sym push) (based-append 0 (reported steps) (next_reports now) t.bases (subst P place (based-next now)));
    }

telling-took : (steps : List Step) (a : Arrival) → IsTelling steps → IsTelling (steps ++ took a ∷ [])
telling-took steps a t =
    record {
      told =
          ap all_told (reported-push steps (took a)) ∙ t.told ∙ ap (λ (xs : List Arrival). as_told (heard 0 xs)) (sym (listed-push steps (took a)));
      bases = subst (AreBased 0) (sym (reported-push steps (took a))) t.bases;
    }

telling-one : (steps : List Step) (e : Step) → NumbersFrom 0 (takes steps) → TimesRise 0 (takes steps) → IsTelling steps → IsTelling (steps ++ e ∷ [])
telling-one steps (took a) numbers times t = telling-took steps a t
telling-one steps listed numbers times t = telling-listed steps numbers times t

telling-from : (before steps : List Step) → NumbersFrom 0 (takes (before ++ steps)) → TimesRise 0 (takes (before ++ steps)) → IsTelling before → IsTelling (before ++ steps)
telling-from before [] numbers times t = subst IsTelling (sym (append-nil before)) t
telling-from before (e ∷ steps) numbers times t =
    let more : (before ++ e ∷ []) ++ steps ≡ before ++ e ∷ steps = append_assoc before (e ∷ []) steps in
    let front : takes (before ++ e ∷ steps) ≡ takes before ++ takes (e ∷ steps) = flat_map-append arrival_in before (e ∷ steps) in
    let N : List Step → Type 0 = λ es. NumbersFrom 0 (takes es) in
    let T : List Step → Type 0 = λ es. TimesRise 0 (takes es) in
    let one : IsTelling (before ++ e ∷ []) =
    telling-one before e (numbers-front 0 (takes before) (takes (e ∷ steps)) (subst (NumbersFrom 0) front numbers)) (times-front 0 (takes before) (takes (e ∷ steps)) (subst (TimesRise 0) front times)) t in
    subst IsTelling more (telling-from (before ++ e ∷ []) steps (subst N (sym more) numbers) (subst T (sym more) times) one)

telling : (steps : List Step) → NumbersFrom 0 (takes steps) → TimesRise 0 (takes steps) → IsTelling steps
telling steps numbers times = telling-from [] steps numbers times (record { told = refl; bases = tt })

pub all-times : (steps : List Step) → NumbersRise 0 (takes steps) → TimesRise 0 (takes steps)
    → all_told (reported steps) ≡ times_of (takes steps) 0 (length (statuses_in (reported steps)))
all-times steps rise times =
    let numbers : NumbersFrom 0 (takes steps) = numbers-of 0 (takes steps) rise in
    let old : List Arrival = listed_takes steps in
    let new : List Arrival = fresh steps in
    let rest : List (Option ℤ) = as_told (heard (next_from 0 old) new) in
    front-times (all_told (reported steps)) rest (takes steps) (next_from 0 (takes steps) - 0)
    (ap (λ (ts : List (Option ℤ)). ts ++ rest) (telling steps numbers times).told
    ∙ sym (map-append signed (heard 0 old) (heard (next_from 0 old) new))
    ∙ ap as_told (sym (heard-append 0 old new))
    ∙ ap (λ (xs : List Arrival). as_told (heard 0 xs)) (sym (parts steps))
    ∙ heard-times 0 (takes steps) numbers)
    ∙ ap (times_of (takes steps) 0) (told-length (reported steps))

pub all-counted : (steps : List Step) → NumbersRise 0 (takes steps) → TimesRise 0 (takes steps)
    → length (statuses_in (reported steps)) ≡ next_from 0 (listed_takes steps)
all-counted steps rise times =
    let numbers : NumbersFrom 0 (takes steps) = numbers-of 0 (takes steps) rise in
    count-told steps (numbers-front 0 (listed_takes steps) (fresh steps) (subst (NumbersFrom 0) (parts steps) numbers)) (telling steps numbers times)

pub all-based : (steps : List Step) → NumbersRise 0 (takes steps) → TimesRise 0 (takes steps) → AreBased 0 (reported steps)
all-based steps rise times = (telling steps (numbers-of 0 (takes steps) rise) times).bases
