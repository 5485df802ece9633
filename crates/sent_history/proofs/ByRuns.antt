-- The loops over the runs of a report.
use Rattle.std.proofs.Common.{◌≡◌, ℕ, ℤ, pos, zero, suc, ◌+◌, ◌%◌, ◌<◌, ◌≤◌, ◌+ℤ◌, Bool, true, false, List, [], ◌∷◌, ◌++◌, length, drop, get_or, count_by, replicate, Option, Some, None, refl, ap, sym, ◌∙◌, subst, arith, All, append_assoc, drop-cons}
use Rattle.std.proofs.lemmas.List.{length-replicate}
use Rattle.std.proofs.lemmas.List.Elements.{All-append, All-nil}
use Rattle.std.proofs.lemmas.List.Folds.{sum_by-replicate}
use Rattle.std.proofs.lemmas.List.Sums.{sum_by-append, sum_by-cons}
use Rattle.std.proofs.lemmas.Grind.{flat_map-append}
use Rattle.gcc_units.specs.Unwrapping.{named_number}
use Rattle.gcc_units.specs.declared.shared_types.Credit.{Credit}
use Rattle.twcc_report.specs.declared.report.Status.{Status}
use Rattle.twcc_report.specs.declared.report.Status.TheVariants.{NotReceived}
use Rattle.twcc_report.specs.declared.compact.StatusRun.{StatusRun}
use Rattle.twcc_report.specs.declared.compact.StatusRun.TheVariants.{Lost, One}
use Rattle.twcc_report.specs.Runs.{statuses_of, expanded}
use Rattle.sent_history.specs.declared.slot.Slot.{Slot}
use Rattle.sent_history.specs.declared.slot.Verdict.{Verdict}
use Rattle.sent_history.specs.Crediting.{is_received, delta_of, verdict_on, credit_in, credits_in, ArrivesInRange}
use Rattle.sent_history.specs.Judging.{kept_slot, slot_verdict_if, slot_verdict, running, marked_if, is_number, all_marks}
use Rattle.sent_history.specs.Fresh.{bit}
use Rattle.sent_history.specs.InRuns.{is_received_run, run_len, run_delta}
use Rattle.sent_history.specs.Stretches.{Agrees}
use Rattle.sent_history.proofs.Runs.{few_credits}
use Rattle.sent_history.proofs.Stretched.{agrees_trans, agrees_marks, lost_arrival}

-- ---- the statuses of one run more

abbrev pub no_run : StatusRun
no_run = Lost 0

pub split_runs : (runs : List StatusRun) (i : ℕ) (d : StatusRun) → i < length runs → expanded (drop i runs) ≡ statuses_of (get_or runs i d) ++ expanded (drop (i + 1) runs)
split_runs runs i d lt =
    let next : suc i ≡ i + 1 = omega arith in
    ap expanded (drop-cons runs i d lt) ∙ ap (λ k. statuses_of (get_or runs i d) ++ expanded (drop k runs)) next

pub len_of : (run : StatusRun) → length (statuses_of run) ≡ run_len run
len_of (Lost n) = length-replicate n NotReceived
len_of (One s) = refl

pub received_of : (run : StatusRun) → count_by is_received (statuses_of run) ≡ bit (is_received_run run)
received_of (Lost n) = sum_by-replicate (λ (s : Status). bit (is_received s)) n NotReceived ∙ omega arith
received_of (One s) = sum_by-cons (λ (t : Status). bit (is_received t)) s [] ∙ omega arith

pub received_in : (runs : List StatusRun) → count_by is_received_run runs ≡ count_by is_received (expanded runs)
received_in [] = refl
received_in (run ∷ runs) =
    sum_by-cons (λ (r : StatusRun). bit (is_received_run r)) run runs
    ∙ omega (arith, received_in runs, received_of run, sum_by-append (λ (s : Status). bit (is_received s)) (statuses_of run) (expanded runs))

-- ---- verdicts on a run, and on what follows

next_of : (low i : ℕ) → ((low + 1) % 65536 + i) % 65536 ≡ (low + suc i) % 65536
next_of low i = omega arith

after_lost : (judge : Status → Option ℕ → ℤ → Verdict) (sent low n : ℕ) (arrived : ℤ) (rest : List Status) → low < 65536
    → running judge sent low arrived (replicate n NotReceived ++ rest)
    ≡ running judge sent low arrived (replicate n NotReceived) ++ running judge sent ((low + n) % 65536) arrived rest
after_lost judge sent low zero arrived rest small = let j : low ≡ (low + 0) % 65536 = omega (arith, small) in ap (λ m. running judge sent m arrived rest) j
after_lost judge sent low (suc n) arrived rest small =
    let then : ℤ = arrived +ℤ pos 0 in
    let v : Verdict = judge NotReceived (named_number sent low) then in
    let first : List Verdict = running judge sent ((low + 1) % 65536) then (replicate n NotReceived) in
    ap (λ (vs : List Verdict). v ∷ vs) (after_lost judge sent ((low + 1) % 65536) n then rest (omega arith))
    ∙ ap (λ m. v ∷ (first ++ running judge sent m then rest)) (next_of low n)
    ∙ ap (λ z. v ∷ (first ++ running judge sent ((low + suc n) % 65536) z rest)) (lost_arrival arrived)

pub after_run : (judge : Status → Option ℕ → ℤ → Verdict) (sent low : ℕ) (arrived : ℤ) (run : StatusRun) (rest : List Status) → low < 65536
    → running judge sent low arrived (statuses_of run ++ rest)
    ≡ running judge sent low arrived (statuses_of run) ++ running judge sent ((low + run_len run) % 65536) (arrived +ℤ run_delta run) rest
after_run judge sent low arrived (Lost n) rest small =
    after_lost judge sent low n arrived rest small
    ∙ ap (λ z. running judge sent low arrived (replicate n NotReceived) ++ running judge sent ((low + n) % 65536) z rest) (sym (lost_arrival arrived))
after_run judge sent low arrived (One s) rest small = refl

pub length_running : (judge : Status → Option ℕ → ℤ → Verdict) (sent low : ℕ) (arrived : ℤ) (statuses : List Status) → length (running judge sent low arrived statuses) ≡ length statuses
length_running judge sent low arrived [] = refl
length_running judge sent low arrived (s ∷ statuses) = ap suc (length_running judge sent ((low + 1) % 65536) (arrived +ℤ delta_of s) statuses)

-- a run less to come
pub judged_run : (judge : Status → Option ℕ → ℤ → Verdict) (sent low : ℕ) (arrived : ℤ) (runs : List StatusRun) (i : ℕ) (before all : List Verdict) → low < 65536 → i < length runs
    → before ++ running judge sent low arrived (expanded (drop i runs)) ≡ all
    → (before ++ running judge sent low arrived (statuses_of (get_or runs i no_run)))
    ++ running judge sent ((low + run_len (get_or runs i no_run)) % 65536) (arrived +ℤ run_delta (get_or runs i no_run)) (expanded (drop (i + 1) runs)) ≡ all
judged_run judge sent low arrived runs i before all small lt so_far =
    let run : StatusRun = get_or runs i no_run in
    let rest : List Status = expanded (drop (i + 1) runs) in
    append_assoc before (running judge sent low arrived (statuses_of run)) (running judge sent ((low + run_len run) % 65536) (arrived +ℤ run_delta run) rest)
    ∙ ap (λ vs. before ++ vs) (sym (after_run judge sent low arrived run rest small))
    ∙ ap (λ (ss : List Status). before ++ running judge sent low arrived ss) (sym (split_runs runs i no_run lt))
    ∙ so_far

-- ---- no lost status credits

none_on : (c g : Bool) (n : ℕ) (s : Slot) (arrived : ℤ) → credit_in (verdict_on c g n s.packet NotReceived arrived) ≡ []
unfolding verdict_on
none_on true g n s arrived = refl
none_on false true n s arrived = refl
none_on false false n s arrived = refl

none_if : (n : ℕ) (arrived : ℤ) (o : Option Slot) → credit_in (slot_verdict_if n NotReceived arrived o) ≡ []
none_if n arrived None = refl
none_if n arrived (Some s) = none_on s.credited s.missed n s arrived

none_of : (slots : List Slot) (sent : ℕ) (o : Option ℕ) (arrived : ℤ) → credit_in (slot_verdict slots sent NotReceived o arrived) ≡ []
unfolding slot_verdict
none_of slots sent None arrived = refl
none_of slots sent (Some n) arrived = none_if n arrived (kept_slot slots sent n)

pub no_credits : (slots : List Slot) (sent low n : ℕ) (arrived : ℤ) → credits_in (running (slot_verdict slots sent) sent low arrived (replicate n NotReceived)) ≡ []
no_credits slots sent low zero arrived = refl
no_credits slots sent low (suc n) arrived =
    let vs : List Verdict = running (slot_verdict slots sent) sent ((low + 1) % 65536) (arrived +ℤ pos 0) (replicate n NotReceived) in
    ap (λ (xs : List Credit). xs ++ credits_in vs) (none_of slots sent (named_number sent low) (arrived +ℤ pos 0)) ∙ no_credits slots sent ((low + 1) % 65536) n (arrived +ℤ pos 0)

pub lost_in_range : (slots : List Slot) (sent low n : ℕ) (arrived : ℤ) → All ArrivesInRange (credits_in (running (slot_verdict slots sent) sent low arrived (replicate n NotReceived)))
lost_in_range slots sent low n arrived = rw (no_credits slots sent low n arrived) (All-nil ArrivesInRange)

pub all_in_range : (before vs : List Verdict) → All ArrivesInRange (credits_in before) → All ArrivesInRange (credits_in vs) → All ArrivesInRange (credits_in (before ++ vs))
all_in_range before vs a b = rw (flat_map-append credit_in before vs) (All-append ArrivesInRange (credits_in before) (credits_in vs) a b)

-- ---- marks of a run, and of what follows

pub marks_after : (sent low : ℕ) (xs ys : List Status) (n m : ℕ) (s : Slot) → low < 65536 → m ≡ length xs
    → all_marks sent low (xs ++ ys) n s ≡ all_marks sent ((low + m) % 65536) ys n (all_marks sent low xs n s)
marks_after sent low [] ys n m s small e = let j : low ≡ (low + m) % 65536 = omega (arith, small, e) in ap (λ k. all_marks sent k ys n s) j
marks_after sent low (x ∷ xs) ys n m s small e =
    let t : Slot = marked_if (is_number (named_number sent low) n) x s in
    let j : ((low + 1) % 65536 + length xs) % 65536 ≡ (low + m) % 65536 = omega (arith, e) in
    marks_after sent ((low + 1) % 65536) xs ys n (length xs) t (omega arith) refl ∙ ap (λ k. all_marks sent k ys n (all_marks sent ((low + 1) % 65536) xs n t)) j

pub marked_run : (sent low : ℕ) (runs : List StatusRun) (i num : ℕ) (now old all : Slot) → low < 65536 → i < length runs
    → Agrees now (all_marks sent low (statuses_of (get_or runs i no_run)) num old) → Agrees (all_marks sent low (expanded (drop i runs)) num old) all
    → Agrees (all_marks sent ((low + run_len (get_or runs i no_run)) % 65536) (expanded (drop (i + 1) runs)) num now) all
marked_run sent low runs i num now old all small lt here so_far =
    let run : StatusRun = get_or runs i no_run in
    let rest : List Status = expanded (drop (i + 1) runs) in
    let behind : ℕ = (low + run_len run) % 65536 in
    let split : all_marks sent low (expanded (drop i runs)) num old ≡ all_marks sent behind rest num (all_marks sent low (statuses_of run) num old) =
    ap (λ (ss : List Status). all_marks sent low ss num old) (split_runs runs i no_run lt) ∙ marks_after sent low (statuses_of run) rest num (run_len run) old small (sym (len_of run)) in
    agrees_trans _ _ _ (agrees_marks sent behind rest num now (all_marks sent low (statuses_of run) num old) here) (subst (λ (s : Slot). Agrees s all) split so_far)

pub few_in : (v : Verdict) (slots : List Slot) (sent : ℕ) (status : Status) (o : Option ℕ) (arrived : ℤ) → v ≡ slot_verdict slots sent status o arrived
    → length (credit_in v) ≤ bit (is_received status)
few_in v slots sent status o arrived e = omega (arith, ap (λ (w : Verdict). length (credit_in w)) e, few_credits slots sent status o arrived)
