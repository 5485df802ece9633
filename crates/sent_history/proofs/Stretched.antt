-- What a run of lost statuses says of a stretch of packets.
use Rattle.std.proofs.Common.{◌≡◌, ◌≢◌, ℕ, ℤ, pos, zero, suc, ◌+◌, ◌-◌, ◌%◌, ◌<◌, ◌≤◌, ◌+ℤ◌, ◌==◌, ◌&&◌, Bool, true, false, not, inl, inr, List, [], ◌∷◌, ◌++◌, length, take, drop, get_or, slice_get, count_by, replicate, Option, Some, None, MatchOption, refl, ap, sym, ◌∙◌, subst, arith, append_assoc, append-nil, length-append, length-take, drop-cons}
use Rattle.std.proofs.lemmas.Bool.{cases_eq, eq-eqb, ne_eqb}
use Rattle.std.proofs.lemmas.Int.{ints}
use Rattle.std.proofs.lemmas.List.Sums.{sum_by-append, sum_by-cons, count_by-le-length}
use Rattle.std.proofs.lemmas.Grind.{flat_map-append}
use Rattle.gcc_units.specs.Listed.{bare}
use Rattle.gcc_units.specs.Unwrapping.{named_number}
use Rattle.gcc_units.specs.declared.shared_types.Credit.{Credit}
use Rattle.gcc_units.specs.declared.shared_types.Judged.{Judged}
use Rattle.twcc_report.specs.declared.report.Status.{Status}
use Rattle.twcc_report.specs.declared.report.Status.TheVariants.{NotReceived, Small, Large}
use Rattle.sent_history.specs.declared.slot.Slot.{Slot}
use Rattle.sent_history.specs.declared.slot.Verdict.{Verdict}
use Rattle.sent_history.specs.declared.slot.Verdict.TheVariants.{Missing, Unknown, Repeated}
use Rattle.sent_history.specs.declared.lost.Stretch.{Stretch}
use Rattle.sent_history.specs.Crediting.{verdict_on, credit_in, missing_in, is_unknown, is_repeated, credits_in, missing_numbers, told}
use Rattle.sent_history.specs.Judging.{slot_verdict_if, slot_verdict, running, settled, marked, marked_if, is_number, all_marks}
use Rattle.sent_history.specs.Fresh.{is_fresh, bit, fresh_in}
use Rattle.sent_history.specs.Stretches.{AllUnknown, AllKept, IsStretch, with_stretch, Agrees, missed}
use Rattle.sent_history.proofs.Slots.{slot_there, slot_gone}
use Rattle.sent_history.proofs.Telling.{told_few}

-- ---- fresh slots, counted from a place on

-- one slot more
pub fresh_step : (slots : List Slot) (place n : ℕ) (d : Slot) → place < length slots
    → fresh_in slots place (suc n) ≡ bit (is_fresh (get_or slots place d)) + fresh_in slots (suc place) n
fresh_step slots place n d lt =
    ap (λ (xs : List Slot). count_by is_fresh (take (suc n) xs)) (drop-cons slots place d lt)
    ∙ sum_by-cons (λ (s : Slot). bit (is_fresh s)) (get_or slots place d) (take n (drop (suc place) slots))

-- slots that are not fresh are skipped
pub fresh_skip : (m n at place : ℕ) (slots : List Slot) (d : Slot) → place ≡ at + m → place + n ≤ length slots
    → ((k : ℕ) (e : Slot) → at ≤ k → k < place → is_fresh (get_or slots k e) ≡ false) → fresh_in slots at (m + n) ≡ fresh_in slots place n
fresh_skip zero n at place slots d e le none = let i : at ≡ place = omega (arith, e) in let j : zero + n ≡ n = omega arith in rw (i, j) refl
fresh_skip (suc m) n at place slots d e le none =
    let j : suc m + n ≡ suc (m + n) = omega arith in
    let here : bit (is_fresh (get_or slots at d)) ≡ 0 = ap bit (none at d (omega arith) (omega (arith, e))) in
    ap (fresh_in slots at) j
    ∙ fresh_step slots at (m + n) d (omega (arith, e, le))
    ∙ omega (arith, here, fresh_skip m n (suc at) place slots d (omega (arith, e)) le (λ k f low high. none k f (omega (arith, low)) high))

-- ---- the tally of verdicts none of which credits

pub record Tallied (vs : List Verdict) (m u r : ℕ) : Type 0 where
  pub credits : credits_in vs ≡ []
  pub missing : length (missing_numbers vs) ≡ m
  pub unknown : count_by is_unknown vs ≡ u
  pub repeated : count_by is_repeated vs ≡ r

tally_none : Tallied [] 0 0 0
tally_none = record { credits = refl; missing = refl; unknown = refl; repeated = refl }

tally_more : (v : Verdict) (vs : List Verdict) (m u r m2 u2 r2 : ℕ) → credit_in v ≡ [] → m2 ≡ length (missing_in v) + m → u2 ≡ bit (is_unknown v) + u → r2 ≡ bit (is_repeated v) + r
    → Tallied vs m u r → Tallied (v ∷ vs) m2 u2 r2
tally_more v vs m u r m2 u2 r2 none em eu er t =
    record {
      credits = ap (λ (xs : List Credit). xs ++ credits_in vs) none ∙ t.credits;
      missing = length-append (missing_in v) (missing_numbers vs) ∙ omega (arith, em, t.missing);
      unknown = sum_by-cons (λ (x : Verdict). bit (is_unknown x)) v vs ∙ omega (arith, eu, t.unknown);
      repeated = sum_by-cons (λ (x : Verdict). bit (is_repeated x)) v vs ∙ omega (arith, er, t.repeated);
    }

same_judged : (a b : List Credit) (m n u v r s : ℕ) → a ≡ b → m ≡ n → u ≡ v → r ≡ s
    → (let j : Judged = record { received = bare a; missing = m; unknown = u; repeated = r } in j) ≡ record { received = bare b; missing = n; unknown = v; repeated = s }
same_judged a b m n u v r s ea em eu er = rw (ea, em, eu, er) refl

pub told_tallied : (j : Judged) (before vs : List Verdict) (m u r m2 u2 r2 : ℕ) → settled j ≡ told before → Tallied vs m u r
    → m2 ≡ j.missing + m → u2 ≡ j.unknown + u → r2 ≡ j.repeated + r
    → (let k : Judged = record { received = bare j.received.items; missing = m2; unknown = u2; repeated = r2 } in k) ≡ told (before ++ vs)
told_tallied j before vs m u r m2 u2 r2 e t em eu er =
    same_judged j.received.items (credits_in (before ++ vs)) m2 (length (missing_numbers (before ++ vs))) u2 (count_by is_unknown (before ++ vs)) r2 (count_by is_repeated (before ++ vs))
    (ap (λ (k : Judged). k.received.items) e ∙ sym (append-nil (credits_in before)) ∙ ap (λ (xs : List Credit). credits_in before ++ xs) (sym t.credits) ∙ sym (flat_map-append credit_in before vs))
    (omega (arith, em, ap (λ (k : Judged). k.missing) e, t.missing, ap length (flat_map-append missing_in before vs), length-append (missing_numbers before) (missing_numbers vs)))
    (omega (arith, eu, ap (λ (k : Judged). k.unknown) e, t.unknown, sum_by-append (λ (x : Verdict). bit (is_unknown x)) before vs))
    (omega (arith, er, ap (λ (k : Judged). k.repeated) e, t.repeated, sum_by-append (λ (x : Verdict). bit (is_repeated x)) before vs))

-- ---- the next low number

next_of : (low i : ℕ) → ((low + 1) % 65536 + i) % 65536 ≡ (low + suc i) % 65536
next_of low i = omega arith

this_low : (low : ℕ) → low < 65536 → (low + 0) % 65536 ≡ low
this_low low small = omega arith

-- ---- a stretch of packets that are not kept

next_unknown : (sent kept low n : ℕ) → AllUnknown sent kept low (suc n) → AllUnknown sent kept ((low + 1) % 65536) n
next_unknown sent kept low n all = λ i m lt e. all (suc i) m (omega (arith, lt)) (ap (named_number sent) (sym (next_of low i)) ∙ e)

unknown_verdict : (slots : List Slot) (sent : ℕ) (o : Option ℕ) (arrived : ℤ) → ((n : ℕ) → o ≡ Some n → n + length slots < sent)
    → slot_verdict slots sent NotReceived o arrived ≡ Unknown
unfolding slot_verdict
unknown_verdict slots sent None arrived past = refl
unknown_verdict slots sent (Some n) arrived past = ap (slot_verdict_if n NotReceived arrived) (slot_gone slots sent n (omega (arith, past n refl)))

pub unknown_tally : (slots : List Slot) (sent low n : ℕ) (arrived : ℤ) → low < 65536 → AllUnknown sent (length slots) low n
    → Tallied (running (slot_verdict slots sent) sent low arrived (replicate n NotReceived)) 0 n 0
unknown_tally slots sent low zero arrived small all = tally_none
unknown_tally slots sent low (suc n) arrived small all =
    let v : Verdict = slot_verdict slots sent NotReceived (named_number sent low) (arrived +ℤ pos 0) in
    let is : Unknown ≡ v = sym (unknown_verdict slots sent (named_number sent low) (arrived +ℤ pos 0)
    (λ m e. all 0 m (omega arith) (ap (named_number sent) (this_low low small) ∙ e))) in
    let more = unknown_tally slots sent ((low + 1) % 65536) n (arrived +ℤ pos 0) (omega arith) (next_unknown sent (length slots) low n all) in
    subst (λ (w : Verdict). Tallied (w ∷ running (slot_verdict slots sent) sent ((low + 1) % 65536) (arrived +ℤ pos 0) (replicate n NotReceived)) 0 (suc n) 0) is
    (tally_more Unknown _ 0 n 0 0 (suc n) 0 refl (omega arith) (omega arith) (omega arith) more)

-- ---- a stretch of packets that are kept

next_kept : (sent kept low n place : ℕ) → AllKept sent kept low (suc n) place → AllKept sent kept ((low + 1) % 65536) n (suc place)
next_kept sent kept low n place all = record {
  inside = omega (arith, all.inside);
  named = λ i lt. ap (named_number sent) (next_of low i) ∙ all.named (suc i) (omega (arith, lt)) ∙ ap (λ m. Some (sent - kept + m)) (omega arith);
}

first_named : (sent kept low n place : ℕ) → low < 65536 → AllKept sent kept low (suc n) place → named_number sent low ≡ Some (sent - kept + place)
first_named sent kept low n place small all =
    ap (named_number sent) (sym (this_low low small)) ∙ all.named 0 (omega arith) ∙ ap (λ m. Some (sent - kept + m)) (omega arith)

slice_get_there : (xs : List Slot) (i : ℕ) (e : Slot) → i < length xs → slice_get xs i ≡ Some (get_or xs i e)
slice_get_there [] i e lt = absurd (omega (arith, lt))
slice_get_there (x ∷ xs) zero e lt = refl
slice_get_there (x ∷ xs) (suc i) e lt = slice_get_there xs i e (omega (arith, lt))

kept_verdict : (slots : List Slot) (sent place : ℕ) (o : Option ℕ) (arrived : ℤ) (d : Slot) → length slots ≤ sent → place < length slots
    → o ≡ Some (sent - length slots + place)
    → slot_verdict slots sent NotReceived o arrived
    ≡ verdict_on (get_or slots place d).credited (get_or slots place d).missed (sent - length slots + place) (get_or slots place d).packet NotReceived arrived
unfolding slot_verdict
kept_verdict slots sent place o arrived d le lt e =
    let n : ℕ = sent - length slots + place in
    let k : n - (sent - length slots) ≡ place = omega arith in
    let found : slice_get slots (n - (sent - length slots)) ≡ Some (get_or slots place d) = ap (slice_get slots) k ∙ slice_get_there slots place d lt in
    rw (e, slot_there slots sent n (omega arith), found) refl

by_marks : (c g : Bool) (n : ℕ) (s : Slot) (arrived : ℤ) (vs : List Verdict) (m r m2 r2 : ℕ) → m2 ≡ bit (not c && not g) + m → m2 + r2 ≡ suc (m + r) → Tallied vs m 0 r
    → Tallied (verdict_on c g n s.packet NotReceived arrived ∷ vs) m2 0 r2
unfolding verdict_on
by_marks true g n s arrived vs m r m2 r2 e er t = tally_more Repeated vs m 0 r m2 0 r2 refl (omega (arith, e)) (omega arith) (omega (arith, e, er)) t
by_marks false true n s arrived vs m r m2 r2 e er t = tally_more Repeated vs m 0 r m2 0 r2 refl (omega (arith, e)) (omega arith) (omega (arith, e, er)) t
by_marks false false n s arrived vs m r m2 r2 e er t = tally_more (Missing n) vs m 0 r m2 0 r2 refl (omega (arith, e)) (omega arith) (omega (arith, e, er)) t

fresh_few : (slots : List Slot) (place n : ℕ) → place + n ≤ length slots → fresh_in slots place n ≤ n
fresh_few slots place n le = omega (arith, count_by-le-length is_fresh (take n (drop place slots)), length-take n (drop place slots))

pub kept_tally : (slots : List Slot) (sent low n place : ℕ) (arrived : ℤ) (d : Slot) → low < 65536 → length slots ≤ sent → AllKept sent (length slots) low n place
    → Tallied (running (slot_verdict slots sent) sent low arrived (replicate n NotReceived)) (fresh_in slots place n) 0 (n - fresh_in slots place n)
kept_tally slots sent low zero place arrived d small le all = tally_none
kept_tally slots sent low (suc n) place arrived d small le all =
    let then : ℤ = arrived +ℤ pos 0 in
    let s : Slot = get_or slots place d in
    let inside : place < length slots = omega (arith, all.inside) in
    let is = kept_verdict slots sent place (named_number sent low) then d le inside (first_named sent (length slots) low n place small all) in
    let more = kept_tally slots sent ((low + 1) % 65536) n (suc place) then d (omega arith) le (next_kept sent (length slots) low n place all) in
    subst (λ (w : Verdict). Tallied (w ∷ running (slot_verdict slots sent) sent ((low + 1) % 65536) then (replicate n NotReceived)) (fresh_in slots place (suc n)) 0 (suc n - fresh_in slots place (suc n))) (sym is)
    (by_marks s.credited s.missed (sent - length slots + place) s then _ (fresh_in slots (suc place) n) (n - fresh_in slots (suc place) n) (fresh_in slots place (suc n)) (suc n - fresh_in slots place (suc n))
    (fresh_step slots place n d inside)
    (omega (arith, fresh_few slots (suc place) n (omega (arith, all.inside)), fresh_few slots place (suc n) (omega (arith, all.inside))))
    more)

-- ---- the loop that counts fresh slots

pub none_left : (slots : List Slot) (at to place : ℕ) (d : Slot) → at ≤ place → place ≡ to → to ≤ length slots
    → ((k : ℕ) (e : Slot) → at ≤ k → k < place → is_fresh (get_or slots k e) ≡ false) → fresh_in slots at (to - at) ≡ 0
none_left slots at to place d low same inside none =
    let n : to - at ≡ place - at + 0 = omega (arith, same) in
    ap (fresh_in slots at) n ∙ fresh_skip (place - at) 0 at place slots d (omega (arith, low)) (omega (arith, same, inside)) none

pub one_found : (slots : List Slot) (at to place : ℕ) (d : Slot) → at ≤ place → place < to → to ≤ length slots
    → ((k : ℕ) (e : Slot) → at ≤ k → k < place → is_fresh (get_or slots k e) ≡ false) → is_fresh (get_or slots place d) ≡ true
    → fresh_in slots at (to - at) ≡ 1 + fresh_in slots (place + 1) (to - (place + 1))
one_found slots at to place d low high inside none here =
    let n : to - at ≡ place - at + suc (to - (place + 1)) = omega (arith, low, high) in
    let next : suc place ≡ place + 1 = omega arith in
    ap (fresh_in slots at) n
    ∙ fresh_skip (place - at) (suc (to - (place + 1))) at place slots d (omega (arith, low)) (omega (arith, high, inside)) none
    ∙ fresh_step slots place (to - (place + 1)) d (omega (arith, high, inside))
    ∙ ap (λ b. bit b + fresh_in slots (suc place) (to - (place + 1))) here
    ∙ ap (λ p. 1 + fresh_in slots p (to - (place + 1))) next

-- ---- the loop over the stretches of a run

pub lost_arrival : (z : ℤ) → (z +ℤ pos 0) ≡ z
lost_arrival z = omega (arith, ints)

pub run_splits : (judge : Status → Option ℕ → ℤ → Verdict) (sent low a b n : ℕ) (arrived : ℤ) → low < 65536 → n ≡ a + b
    → running judge sent low arrived (replicate n NotReceived)
    ≡ running judge sent low arrived (replicate a NotReceived) ++ running judge sent ((low + a) % 65536) arrived (replicate b NotReceived)
run_splits judge sent low zero b n arrived small e =
    let i : n ≡ b = omega (arith, e) in
    let j : low ≡ (low + 0) % 65536 = omega (arith, small) in
    ap (λ m. running judge sent low arrived (replicate m NotReceived)) i ∙ ap (λ m. running judge sent m arrived (replicate b NotReceived)) j
run_splits judge sent low (suc a) b n arrived small e =
    let i : n ≡ suc (a + b) = omega (arith, e) in
    let then : ℤ = arrived +ℤ pos 0 in
    let v : Verdict = judge NotReceived (named_number sent low) then in
    let first : List Verdict = running judge sent ((low + 1) % 65536) then (replicate a NotReceived) in
    ap (λ m. running judge sent low arrived (replicate m NotReceived)) i
    ∙ ap (λ (vs : List Verdict). v ∷ vs) (run_splits judge sent ((low + 1) % 65536) a b (a + b) then (omega arith) refl)
    ∙ ap (λ m. v ∷ (first ++ running judge sent m then (replicate b NotReceived))) (next_of low a)
    ∙ ap (λ z. v ∷ (first ++ running judge sent ((low + suc a) % 65536) z (replicate b NotReceived))) (lost_arrival arrived)

pub length_run : (judge : Status → Option ℕ → ℤ → Verdict) (sent low n : ℕ) (arrived : ℤ) → length (running judge sent low arrived (replicate n NotReceived)) ≡ n
length_run judge sent low zero arrived = refl
length_run judge sent low (suc n) arrived = omega (arith, length_run judge sent ((low + 1) % 65536) n (arrived +ℤ pos 0))

told_of : (slots : List Slot) (sent low n : ℕ) (o : Option ℕ) (j k : Judged) (before : List Verdict) (arrived : ℤ) (d : Slot) → low < 65536 → length slots ≤ sent
    → MatchOption o (AllUnknown sent (length slots) low n) (AllKept sent (length slots) low n) → k ≡ with_stretch slots j o n → settled j ≡ told before
    → settled k ≡ told (before ++ running (slot_verdict slots sent) sent low arrived (replicate n NotReceived))
told_of slots sent low n None j k before arrived d small le what is e =
    ap settled is
    ∙ told_tallied j before _ 0 n 0 j.missing (j.unknown + n) j.repeated e (unknown_tally slots sent low n arrived small what) (omega arith) refl (omega arith)
told_of slots sent low n (Some place) j k before arrived d small le what is e =
    let m : ℕ = fresh_in slots place n in
    ap settled is
    ∙ told_tallied j before _ m 0 (n - m) (j.missing + m) j.unknown (j.repeated + (n - m)) e (kept_tally slots sent low n place arrived d small le what) refl (omega arith) refl

abbrev pub no_slot : Slot
no_slot = record { packet = record { sent_at = 0; size = 0; cluster = None }; credited = false; missed = false }

pub stretch_told : (slots : List Slot) (sent low left : ℕ) (stretch : Stretch) (j k : Judged) (before done : List Verdict) (arrived : ℤ) → low < 65536 → length slots ≤ sent
    → IsStretch sent (length slots) low left stretch → k ≡ with_stretch slots j stretch.place stretch.count → settled j ≡ told (before ++ done)
    → settled k ≡ told (before ++ (done ++ running (slot_verdict slots sent) sent low arrived (replicate stretch.count NotReceived)))
stretch_told slots sent low left stretch j k before done arrived small le is e so_far =
    told_of slots sent low stretch.count stretch.place j k (before ++ done) arrived no_slot small le is.what e so_far
    ∙ ap told (append_assoc before done (running (slot_verdict slots sent) sent low arrived (replicate stretch.count NotReceived)))

-- ---- marks

pub agrees_trans : (s t u : Slot) → Agrees s t → Agrees t u → Agrees s u
agrees_trans s t u a b = record { packet = a.packet ∙ b.packet; credited = a.credited ∙ b.credited; missed = λ f. a.missed (b.credited ∙ f) ∙ b.missed f }

agrees_marked : (status : Status) (s t : Slot) → Agrees s t → Agrees (marked status s) (marked status t)
agrees_marked NotReceived s t a = record { packet = a.packet; credited = a.credited; missed = λ f. refl }
agrees_marked (Small d) s t a = record { packet = a.packet; credited = refl; missed = λ f. absurd (cc f) }
agrees_marked (Large d) s t a = record { packet = a.packet; credited = refl; missed = λ f. absurd (cc f) }

agrees_marked_if : (b : Bool) (status : Status) (s t : Slot) → Agrees s t → Agrees (marked_if b status s) (marked_if b status t)
agrees_marked_if true status s t a = agrees_marked status s t a
agrees_marked_if false status s t a = a

-- marks keep agreement
pub agrees_marks : (sent low : ℕ) (statuses : List Status) (n : ℕ) (s t : Slot) → Agrees s t → Agrees (all_marks sent low statuses n s) (all_marks sent low statuses n t)
agrees_marks sent low [] n s t a = a
agrees_marks sent low (status ∷ statuses) n s t a =
    let b : Bool = is_number (named_number sent low) n in
    agrees_marks sent ((low + 1) % 65536) statuses n (marked_if b status s) (marked_if b status t) (agrees_marked_if b status s t a)

pub marks_split : (sent low a b n num : ℕ) (s : Slot) → low < 65536 → n ≡ a + b
    → all_marks sent low (replicate n NotReceived) num s
    ≡ all_marks sent ((low + a) % 65536) (replicate b NotReceived) num (all_marks sent low (replicate a NotReceived) num s)
marks_split sent low zero b n num s small e =
    let i : n ≡ b = omega (arith, e) in
    let j : low ≡ (low + 0) % 65536 = omega (arith, small) in
    ap (λ m. all_marks sent low (replicate m NotReceived) num s) i ∙ ap (λ m. all_marks sent m (replicate b NotReceived) num s) j
marks_split sent low (suc a) b n num s small e =
    let i : n ≡ suc (a + b) = omega (arith, e) in
    let t : Slot = marked_if (is_number (named_number sent low) num) NotReceived s in
    ap (λ m. all_marks sent low (replicate m NotReceived) num s) i
    ∙ marks_split sent ((low + 1) % 65536) a b (a + b) num t (omega arith) refl
    ∙ ap (λ m. all_marks sent m (replicate b NotReceived) num (all_marks sent ((low + 1) % 65536) (replicate a NotReceived) num t)) (next_of low a)

-- no status names the packet
pub unnamed : (sent low n num : ℕ) (s : Slot) → low < 65536 → ((i : ℕ) → i < n → is_number (named_number sent ((low + i) % 65536)) num ≡ false)
    → all_marks sent low (replicate n NotReceived) num s ≡ s
unnamed sent low zero num s small none = refl
unnamed sent low (suc n) num s small none =
    let first : is_number (named_number sent low) num ≡ false = ap (λ m. is_number (named_number sent m) num) (sym (this_low low small)) ∙ none 0 (omega arith) in
    ap (λ b. all_marks sent ((low + 1) % 65536) (replicate n NotReceived) num (marked_if b NotReceived s)) first
    ∙ unnamed sent ((low + 1) % 65536) n num s (omega arith) (λ i lt. ap (λ m. is_number (named_number sent m) num) (next_of low i) ∙ none (suc i) (omega (arith, lt)))

not_number : (o : Option ℕ) (num : ℕ) → ((m : ℕ) → o ≡ Some m → m ≢ num) → is_number o num ≡ false
not_number None num other = refl
not_number (Some m) num other = ne_eqb m num (other m refl)

pub unknown_marks : (sent kept low n k : ℕ) (s : Slot) → low < 65536 → kept ≤ sent → AllUnknown sent kept low n
    → all_marks sent low (replicate n NotReceived) (sent - kept + k) s ≡ s
unknown_marks sent kept low n k s small le all =
    unnamed sent low n (sent - kept + k) s small
    (λ i lt. not_number (named_number sent ((low + i) % 65536)) (sent - kept + k) (λ m e f. omega (arith, all i m lt e, f, le)))

-- the packet is not in the stretch
pub kept_others : (sent kept low n place k : ℕ) (s : Slot) → low < 65536 → AllKept sent kept low n place → ((i : ℕ) → i < n → place + i ≢ k)
    → all_marks sent low (replicate n NotReceived) (sent - kept + k) s ≡ s
kept_others sent kept low n place k s small all other =
    unnamed sent low n (sent - kept + k) s small
    (λ i lt. ap (λ o. is_number o (sent - kept + k)) (all.named i lt) ∙ ne_eqb (sent - kept + (place + i)) (sent - kept + k) (λ e. other i lt (omega (arith, e))))

-- the packet is in the stretch
pub kept_marks : (sent kept low n place k : ℕ) (s : Slot) → low < 65536 → AllKept sent kept low n place → place ≤ k → k < place + n
    → all_marks sent low (replicate n NotReceived) (sent - kept + k) s ≡ missed s
kept_marks sent kept low zero place k s small all from below = absurd (omega (arith, from, below))
kept_marks sent kept low (suc n) place k s small all from below =
    let num : ℕ = sent - kept + k in
    let first : is_number (named_number sent low) num ≡ (sent - kept + place == num) = ap (λ o. is_number o num) (first_named sent kept low n place small all) in
    let rest : Slot → Slot = λ (t : Slot). all_marks sent ((low + 1) % 65536) (replicate n NotReceived) num t in
    let next = next_kept sent kept low n place all in
    elim (cases_eq place k) [
      | inl here ↦
          ap (λ b. rest (marked_if b NotReceived s)) (first ∙ eq-eqb (sent - kept + place) num (omega (arith, here)))
          ∙ kept_others sent kept ((low + 1) % 65536) n (suc place) k (missed s) (omega arith) next (λ i lt e. omega (arith, e, here))
      | inr there ↦
          ap (λ b. rest (marked_if b NotReceived s)) (first ∙ ne_eqb (sent - kept + place) num (λ e. there (omega (arith, e))))
          ∙ kept_marks sent kept ((low + 1) % 65536) n (suc place) k s (omega arith) next (omega (arith, from, there)) (omega (arith, below))
    ]

-- ---- room for counts

pub stretch_room : (slots : List Slot) (j k : Judged) (o : Option ℕ) (n : ℕ) → k ≡ with_stretch slots j o n → k.received.spare ≡ j.received.spare
stretch_room slots j k None n e = ap (λ (x : Judged). x.received.spare) e
stretch_room slots j k (Some place) n e = ap (λ (x : Judged). x.received.spare) e

-- with so many verdicts more there are still no more than all
pub still_few : (j : Judged) (before done : List Verdict) (count left n : ℕ) → settled j ≡ told (before ++ done) → length done + left ≡ count → n ≤ left
    → (j.missing + n ≤ length before + count) × (j.unknown + n ≤ length before + count) × (j.repeated + n ≤ length before + count)
still_few j before done count left n e all le =
    let few = told_few (settled j) (before ++ done) e in
    let len = length-append before done in (
      omega (arith, few.missing, len, all, le),
      omega (arith, few.unknown, len, all, le),
      omega (arith, few.repeated, len, all, le),
    )
