-- How many numbers are outstanding, by a walk over the credits of a history.
use Rattle.std.proofs.Common.{◌≡◌, ◌≢◌, ℕ, suc, zero, ◌+◌, ◌-◌, ◌<◌, ◌≤◌, ◌==◌, ◌&&◌, ◌||◌, Bool, true, false, not, cond, nat_lt, nat_le, min, inl, inr, Result, Ok, Err, Option, None, Some, List, [], ◌∷◌, ◌++◌, length, map, count_by, All, AllPairs, refl, sym, ◌∙◌, ap, subst, append_assoc, arith}
use Rattle.std.specs.List.{range_with_len}
use Rattle.std.proofs.lemmas.Bool.{cases_lt, cases_eq, lt-leb, le-leb, eqb-true, eq-eqb, ne_eqb}
use Rattle.std.proofs.lemmas.List.{append-nil}
use Rattle.std.proofs.lemmas.List.Elements.{All-weaker, All-head, All-tail}
use Rattle.std.proofs.lemmas.List.Folds.{list_any_none}
use Rattle.std.proofs.lemmas.List.Sums.{sum_by-cons}
use Rattle.gcc_units.proofs.Walk.{flat_map-push}
use Rattle.gcc_units.specs.declared.limits.TheConstants.{GREATEST_MOMENT, KEPT_PACKETS, MOST_WAITING}
use Rattle.rtp_wire.specs.declared.packet.WireFault.{WireFault}
use Rattle.rtp_wire.specs.Place.{place_of}
use Rattle.twcc_report.specs.declared.fault.ReportFault.{ReportFault}
use Rattle.twcc_report.specs.Spelling.{Feedback}
use Rattle.twcc_report.specs.Reading.{read_of}
use Rattle.sent_history.specs.Events.{Event, packets, reports}
use Rattle.sent_history.specs.Crediting.{has, account, outstanding}
use Rattle.sent_history.specs.Balance.{HasFewStatuses, expired}
use Rattle.sent_history.specs.Pushes.{account_packets, added_credited, reported_credited}
use Rattle.sent_history.specs.Laws.{credited_once, credited_sent}
use Rattle.pacer.specs.declared.sent.Sent.{Sent}
use Rattle.send_core.specs.declared.call.Call.{Call}
use Rattle.send_core.specs.declared.call.Call.TheVariants.{Enqueue, Pace, Report, Configure}
use Rattle.send_core.specs.declared.call.Reply.{Reply}
use Rattle.send_core.specs.declared.call.Reply.TheVariants.{Accepted, Refused}
use Rattle.send_core.specs.declared.call.Cause.TheVariants as cause
use Rattle.send_core.specs.declared.call.Entry.{Entry}
use Rattle.send_core.specs.History.{at_of, later, now, accepted, sent, waiting}
use Rattle.send_core.specs.Settings.{fault_of}
use Rattle.send_core.specs.Reports.{outgoing_of, added_of, events_by, events}
use Rattle.send_core.specs.Reply.{extension_id, enqueued, reported, configured, standing, reply_in_time, reply, IsAnswered}
use Rattle.send_laws.specs.Credits.{credits, number_of, credited_numbers, AreByteReports}
use Rattle.send_laws.proofs.Sending.{answered-reply}
use Rattle.send_laws.proofs.Counting.{few-reports, packets-sent, none-twice, balanced}

-- ---- the numbers that a legal history credits

credited-added : (moment : ℕ) (es : List Event) (records : List Sent) → (account (es ++ map (added_of moment) records)).credited ≡ (account es).credited
credited-added moment es [] = ap (λ fs. (account fs).credited) (append-nil es)
credited-added moment es (r ∷ rs) =
    ap (λ fs. (account fs).credited) (sym (append_assoc es (added_of moment r ∷ []) (map (added_of moment) rs)))
    ∙ (credited-added moment (es ++ added_of moment r ∷ []) rs ∙ added_credited es (outgoing_of moment r))

-- what the call with its reply credits
abbrev Credits : List Entry → Call → Reply → Type 0
Credits h c r = (account (events h ++ events_by c r)).credited ≡ (account (events h)).credited ++ map number_of (credits r)

nothing : (es : List Event) → (account (es ++ [])).credited ≡ (account es).credited ++ []
nothing es = ap (λ fs. (account fs).credited) (append-nil es) ∙ sym (append-nil (account es).credited)

credits-in_time : (h : List Entry) (m : ℕ) (c : Call) → Credits h c (reply_in_time h m c)
credits-in_time h m (Enqueue at class wire) = by_place (place_of (extension_id h) wire.items)
  where
    by_test : (b : Bool) → Credits h (Enqueue at class wire) (cond b (Accepted m (length (accepted h))) (Refused m (cause.QueueFull MOST_WAITING)))
    by_test true = nothing (events h)
    by_test false = nothing (events h)

    by_place : (o : Result ℕ WireFault) → Credits h (Enqueue at class wire) (enqueued h m o)
    by_place (Err fault) = nothing (events h)
    by_place (Ok place) = by_test (nat_lt (length (waiting h)) MOST_WAITING)
credits-in_time h m (Pace at) = credited-added m (events h) _ ∙ sym (append-nil (account (events h)).credited)
credits-in_time h m (Report at bytes) = by_read (read_of bytes.items) refl
  where
    by_read : (o : Result Feedback ReportFault) → read_of bytes.items ≡ o → Credits h (Report at bytes) (reported h m o)
    by_read (Err fault) is = nothing (events h)
    by_read (Ok report) is = rw is (reported_credited (events h) report)
credits-in_time h m (Configure at change) = by_check (fault_of (standing h) change)
  where
    by_check : (o : Option ℕ) → Credits h (Configure at change) (configured h m change o)
    by_check None = nothing (events h)
    by_check (Some check) = nothing (events h)

credits-by : (h : List Entry) (c : Call) → Credits h c (reply h c)
credits-by h c = by_time (nat_lt GREATEST_MOMENT (at_of c))
  where
    by_time : (b : Bool) → Credits h c (cond b (Refused (now h) cause.MomentTooLarge) (reply_in_time h (later (now h) c) c))
    by_time true = nothing (events h)
    by_time false = credits-in_time h (later (now h) c) c

credited-more : (before rest : List Entry) (e : Entry) → IsAnswered (before ++ e ∷ rest) → (account (events before)).credited ≡ credited_numbers before
    → (account (events (before ++ e ∷ []))).credited ≡ credited_numbers (before ++ e ∷ [])
credited-more before rest e legal are =
    ap (λ es. (account es).credited) (flat_map-push (λ (x : Entry). events_by x.call x.reply) before e)
    ∙ (subst (Credits before e.call) (sym (answered-reply before rest e legal)) (credits-by before e.call)
    ∙ (ap (λ ns. ns ++ map number_of (credits e.reply)) are ∙ sym (flat_map-push (λ (x : Entry). map number_of (credits x.reply)) before e)))

credited-rest : (before rest : List Entry) → IsAnswered (before ++ rest) → (account (events before)).credited ≡ credited_numbers before
    → (account (events (before ++ rest))).credited ≡ credited_numbers (before ++ rest)
credited-rest before [] legal are = subst (λ h. (account (events h)).credited ≡ credited_numbers h) (sym (append-nil before)) are
credited-rest before (e ∷ rest) legal are =
    subst (λ h. (account (events h)).credited ≡ credited_numbers h) (append_assoc before (e ∷ []) rest)
    (credited-rest (before ++ e ∷ []) rest (subst IsAnswered (sym (append_assoc before (e ∷ []) rest)) legal) (credited-more before rest e legal are))

none-credited : (account []).credited ≡ []
unfolding account
none-credited = refl

-- the replies tell all credits
pub credited-are : (h : List Entry) → IsAnswered h → (account (events h)).credited ≡ credited_numbers h
credited-are h legal = credited-rest [] h legal none-credited

-- no number is told twice
pub told-once : (h : List Entry) → IsAnswered h → AreByteReports h → AllPairs (λ (m n : ℕ). m ≢ n) (credited_numbers h)
told-once h legal bytes = subst (λ (ns : List ℕ). AllPairs (λ (m n : ℕ). m ≢ n) ns) (credited-are h legal) (none-twice h bytes)

-- each packet is told as credited, is outstanding or expired
pub told-balanced : (h : List Entry) → IsAnswered h → AreByteReports h
    → length (sent h) ≡ length (credited_numbers h) + outstanding (events h) + expired (events h)
told-balanced h legal bytes = omega (arith, balanced h bytes, ap (length {A = ℕ}) (credited-are h legal))

-- ---- counts

abbrev bit : Bool → ℕ
bit b = cond b 1 0

count_cons : (p : ℕ → Bool) (n : ℕ) (ns : List ℕ) → count_by p (n ∷ ns) ≡ bit (p n) + count_by p ns
count_cons p n ns = sum_by-cons (λ (m : ℕ). bit (p m)) n ns

count_same : (p q : ℕ → Bool) (ns : List ℕ) → ((n : ℕ) → p n ≡ q n) → count_by p ns ≡ count_by q ns
count_same p q [] same = refl
count_same p q (n ∷ ns) same = omega (arith, count_cons p n ns, count_cons q n ns, ap bit (same n), count_same p q ns same)

count_none : (p : ℕ → Bool) (ns : List ℕ) → ((n : ℕ) → p n ≡ false) → count_by p ns ≡ 0
count_none p [] none = refl
count_none p (n ∷ ns) none = omega (arith, count_cons p n ns, ap bit (none n), count_none p ns none)

-- those that have it, and those that don't
count_parts : (p q : ℕ → Bool) (ns : List ℕ) → count_by (λ n. p n && not (q n)) ns + count_by (λ n. p n && q n) ns ≡ count_by p ns
count_parts p q [] = refl
count_parts p q (n ∷ ns) =
    omega (arith, count_cons (λ m. p m && not (q m)) n ns, count_cons (λ m. p m && q m) n ns, count_cons p n ns, parts (p n) (q n), count_parts p q ns)
  where
    parts : (a b : Bool) → bit (a && not b) + bit (a && b) ≡ bit a
    parts true true = refl
    parts true false = refl
    parts false b = refl

and_false : (b : Bool) → (b && false) ≡ false
and_false true = refl
and_false false = refl

-- one number is counted once
count_only : (p : ℕ → Bool) (x n from : ℕ) → from ≤ x → x < from + n → count_by (λ m. p m && (x == m)) (range_with_len from n) ≡ bit (p x)
count_only p x zero from low high = absurd (omega arith)
count_only p x (suc n) from low high = elim (cases_eq x from) [
  | inl same ↦ let here : bit (p from && (x == from)) ≡ bit (p x) = rw (eq-eqb x from same) (rw same (and_true (p from))) in
      omega (arith, count_cons (λ m. p m && (x == m)) from (range_with_len (from + 1) n), here, past x (from + 1) n (omega arith))
  | inr other ↦ let here : bit (p from && (x == from)) ≡ 0 = rw (ne_eqb x from other) (ap bit (and_false (p from))) in
      omega (arith, count_cons (λ m. p m && (x == m)) from (range_with_len (from + 1) n), here, count_only p x n (from + 1) (omega arith) (omega arith))
]
  where
    and_true : (b : Bool) → bit (b && true) ≡ bit b
    and_true true = refl
    and_true false = refl

    past : (y start more : ℕ) → y < start → count_by (λ m. p m && (y == m)) (range_with_len start more) ≡ 0
    past y start zero lt = refl
    past y start (suc more) lt =
        let here : bit (p start && (y == start)) ≡ 0 = rw (ne_eqb y start (λ e. omega arith)) (ap bit (and_false (p start))) in
        omega (arith, count_cons (λ m. p m && (y == m)) start (range_with_len (start + 1) more), here, past y (start + 1) more (omega arith))

count_either : (p q r : ℕ → Bool) (ns : List ℕ) → ((n : ℕ) → q n ≡ true → r n ≡ false)
    → count_by (λ n. p n && (q n || r n)) ns ≡ count_by (λ n. p n && q n) ns + count_by (λ n. p n && r n) ns
count_either p q r [] apart = refl
count_either p q r (n ∷ ns) apart =
    omega (
      arith,
      count_cons (λ m. p m && (q m || r m)) n ns,
      count_cons (λ m. p m && q m) n ns,
      count_cons (λ m. p m && r m) n ns,
      either (p n) (q n) (r n) (apart n),
      count_either p q r ns apart,
    )
  where
    either : (a b c : Bool) → (b ≡ true → c ≡ false) → bit (a && (b || c)) ≡ bit (a && b) + bit (a && c)
    either false b c h = refl
    either true false c h = omega arith
    either true true c h = ap (λ d. 1 + bit d) (sym (h refl))

AllPairs-head : (x : ℕ) (xs : List ℕ) → AllPairs (λ (m n : ℕ). m ≢ n) (x ∷ xs) → All (λ n. x ≢ n) xs
AllPairs-head x xs pairs = λ k d l. pairs 0 (suc k) d (omega arith) (omega arith)

AllPairs-tail : (x : ℕ) (xs : List ℕ) → AllPairs (λ (m n : ℕ). m ≢ n) (x ∷ xs) → AllPairs (λ (m n : ℕ). m ≢ n) xs
AllPairs-tail x xs pairs = λ i j d l m. pairs (suc i) (suc j) d (omega arith) (omega arith)

-- of numbers below a limit, no two the same, a count up to the limit finds each
count_has : (p : ℕ → Bool) (xs : List ℕ) (n : ℕ) → AllPairs (λ (a b : ℕ). a ≢ b) xs → All (λ m. m < n) xs
    → count_by (λ m. p m && has xs m) (range_with_len 0 n) ≡ count_by p xs
count_has p [] n once below = count_none (λ m. p m && has [] m) (range_with_len 0 n) (λ m. and_false (p m))
count_has p (x ∷ xs) n once below =
    let others : has xs x ≡ false =
    list_any_none (λ m. m == x) xs (All-weaker (λ m. x ≢ m) (λ m. (m == x) ≡ false) (λ m h. ne_eqb m x (λ e. h (sym e))) xs (AllPairs-head x xs once)) in
    let split : count_by (λ m. p m && has (x ∷ xs) m) (range_with_len 0 n) ≡ count_by (λ m. p m && (x == m)) (range_with_len 0 n) + count_by (λ m. p m && has xs m) (range_with_len 0 n) =
    count_either p (λ m. x == m) (has xs) (range_with_len 0 n) (λ m e. ap (has xs) (sym (eqb-true x m e)) ∙ others) in
    let inside : x < n = All-head (λ m. m < n) x xs below in
    omega (
      arith,
      split,
      count_only p x n 0 (omega arith) (omega (arith, inside)),
      count_cons p x xs,
      count_has p xs n (AllPairs-tail x xs once) (All-tail (λ m. m < n) x xs below),
    )

-- how many of the numbers up to a limit are among the last
count_last : (all kept n from : ℕ) → from + n ≡ all → count_by (λ m. nat_le all (m + kept)) (range_with_len from n) ≡ min n kept
count_last all kept zero from ends = omega arith
count_last all kept (suc n) from ends = elim (cases_lt (from + kept) all) [
  | inl lt ↦ let here : bit (nat_le all (from + kept)) ≡ 0 = ap bit (lt-leb all (from + kept) lt) in
      omega (arith, count_cons (λ m. nat_le all (m + kept)) from (range_with_len (from + 1) n), here, count_last all kept n (from + 1) (omega arith))
  | inr le ↦ let here : bit (nat_le all (from + kept)) ≡ 1 = ap bit (le-leb all (from + kept) le) in
      omega (arith, count_cons (λ m. nat_le all (m + kept)) from (range_with_len (from + 1) n), here, count_last all kept n (from + 1) (omega arith))
]

near-same : (all kept n : ℕ) → nat_le all (n + kept) ≡ nat_le (all - kept) n
near-same all kept n = elim (cases_lt (n + kept) all) [
  | inl lt ↦ let below : n < all - kept = omega arith in lt-leb all (n + kept) lt ∙ sym (lt-leb (all - kept) n below)
  | inr le ↦ let above : all - kept ≤ n = omega arith in le-leb all (n + kept) le ∙ sym (le-leb (all - kept) n above)
]

-- of the last numbers, those that were credited aren't outstanding
outstanding-are : (es : List Event) → All HasFewStatuses (reports es)
    → outstanding es + count_by (nat_le (length (packets es) - KEPT_PACKETS)) (account es).credited ≡ min (length (packets es)) KEPT_PACKETS
outstanding-are es few =
    let all : ℕ = length (packets es) in
    let near : ℕ → Bool = λ (n : ℕ). nat_le (length (account es).packets) (n + KEPT_PACKETS) in
    let same : length (account es).packets ≡ all = ap length (account_packets es) in
    let last : count_by near (range_with_len 0 all) ≡ min all KEPT_PACKETS =
    subst (λ k. count_by (λ (n : ℕ). nat_le k (n + KEPT_PACKETS)) (range_with_len 0 all) ≡ min all KEPT_PACKETS) (sym same) (count_last all KEPT_PACKETS all 0 (omega arith)) in
    let kept : count_by near (account es).credited ≡ count_by (nat_le (all - KEPT_PACKETS)) (account es).credited =
    count_same near (nat_le (all - KEPT_PACKETS)) (account es).credited
    (λ n. ap (λ k. nat_le k (n + KEPT_PACKETS)) same ∙ near-same all KEPT_PACKETS n) in
    omega (
      arith,
      count_parts near (has (account es).credited) (range_with_len 0 all),
      count_has near (account es).credited all (credited_once es few) (credited_sent es),
      last,
      kept,
    )

-- ---- what became of the packets of a history

-- what a walk over the credits finds: all of them, and those of numbers that are kept
pub record AreCounts (h : List Entry) (total named kept : ℕ) : Type 0 where
  pub all : named ≡ length (account (events h)).credited
  pub kept_is : outstanding (events h) + kept ≡ min total KEPT_PACKETS
  pub balance : total ≡ named + outstanding (events h) + expired (events h)

pub counts-are : (h : List Entry) (total first named kept : ℕ) → IsAnswered h → total ≡ length (sent h) → first ≡ total - KEPT_PACKETS
    → named ≡ length (credited_numbers h) → kept ≡ count_by (nat_le first) (credited_numbers h) → AreByteReports h → AreCounts h total named kept
counts-are h total first named kept legal total_is first_is named_is kept_is bytes =
    let numbers : (account (events h)).credited ≡ credited_numbers h = credited-are h legal in
    let sent_is : length (packets (events h)) ≡ total = packets-sent h ∙ sym total_is in
    let found : outstanding (events h) + count_by (nat_le (total - KEPT_PACKETS)) (account (events h)).credited ≡ min total KEPT_PACKETS =
    subst (λ n. outstanding (events h) + count_by (nat_le (n - KEPT_PACKETS)) (account (events h)).credited ≡ min n KEPT_PACKETS) sent_is
    (outstanding-are (events h) (few-reports h bytes)) in
    let kept_are : kept ≡ count_by (nat_le (total - KEPT_PACKETS)) (account (events h)).credited =
    kept_is ∙ (ap (λ n. count_by (nat_le n) (credited_numbers h)) first_is ∙ ap (count_by (nat_le (total - KEPT_PACKETS))) (sym numbers)) in
    let named_are : named ≡ length (account (events h)).credited = named_is ∙ ap length (sym numbers) in
    record {
      all = named_are;
      kept_is = omega (arith, found, kept_are);
      balance = omega (arith, balanced h bytes, named_are, total_is);
    }
