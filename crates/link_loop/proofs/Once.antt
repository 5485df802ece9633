-- Each number is that of one packet: delivered, dropped or inside.
use Rattle.std.proofs.Common.{◌≡◌, ℕ, ◌+◌, ◌<◌, ◌≤◌, ◌⊎◌, inl, inr, Bool, true, false, cond, nat_lt, if◌then◌else◌, List, [], ◌∷◌, ◌++◌, length, map, refl, sym, ◌∙◌, ap, arith}
use Rattle.std.specs.Prelude.{◌==◌}
use Rattle.std.specs.List.{flat_map}
use Rattle.std.proofs.lemmas.Bool.{cases_lt}
use Rattle.std.proofs.lemmas.Bool.Decides.{nat_tests}
use Rattle.std.proofs.lemmas.List.{map-append}
use Rattle.std.proofs.lemmas.List.Sums.{sum_by-append, sum_by-cons}
use Rattle.gcc_units.specs.Walk.{each_by}
use Rattle.pacer.specs.declared.sent.Sent.{Sent}
use Rattle.send_core.specs.declared.call.Reply.{Reply}
use Rattle.send_core.specs.declared.call.Reply.TheVariants as given
use Rattle.send_core.specs.declared.call.Entry.{Entry}
use Rattle.send_core.specs.History.{sent, sent_by}
use Rattle.send_laws.specs.Order.{AreNumbered}
use Rattle.link_path.specs.declared.link.LinkSettings.{LinkSettings}
use Rattle.link_path.specs.declared.link.Arrival.{Arrival}
use Rattle.link_path.specs.Link.{Offer, is_dropped, arrival_at, arrival_of, arrivals, dropped_of, dropped}
use Rattle.link_loop.specs.Looping.{offer_of}
use Rattle.link_loop.specs.ClosedLoop.{offers_in, offers_of, count_of, number_of, numbers}

count-append : (k : ℕ) (xs ys : List ℕ) → count_of k (xs ++ ys) ≡ count_of k xs + count_of k ys
count-append k xs ys = sum_by-append (λ (n : ℕ). cond (n == k) 1 0) xs ys

count-cons : (k x : ℕ) (xs : List ℕ) → count_of k (x ∷ xs) ≡ cond (x == k) 1 0 + count_of k xs
count-cons k x xs = sum_by-cons (λ (n : ℕ). cond (n == k) 1 0) x xs

pub numbers-append : (k : ℕ) (xs ys : List Arrival) → count_of k (numbers (xs ++ ys)) ≡ count_of k (numbers xs) + count_of k (numbers ys)
numbers-append k xs ys = ap (count_of k) (map-append number_of xs ys) ∙ count-append k (numbers xs) (numbers ys)

-- ---- each packet that is offered arrives or is dropped

abbrev pub offer_number : Offer → ℕ
offer_number o = o.number

abbrev pub sent_number : Sent → ℕ
sent_number r = r.number

one-of : (k n at : ℕ) (b : Bool) → count_of k (numbers (if b then [] else record { number = n; at = at } ∷ [])) + count_of k (if b then n ∷ [] else []) ≡ count_of k (n ∷ [])
one-of k n at true = omega arith
one-of k n at false = omega arith

split-from : (s : LinkSettings) (k : ℕ) (before os : List Offer)
    → count_of k (numbers (flat_map (λ (xs : List Arrival). xs) (each_by (arrival_of s) before os))) + count_of k (flat_map (λ (xs : List ℕ). xs) (each_by (dropped_of s) before os))
    ≡ count_of k (map offer_number os)
split-from s k before [] = refl
split-from s k before (o ∷ os) =
    let arrive : List Arrival = flat_map (λ (xs : List Arrival). xs) (each_by (arrival_of s) (before ++ o ∷ []) os) in
    let lost : List ℕ = flat_map (λ (xs : List ℕ). xs) (each_by (dropped_of s) (before ++ o ∷ []) os) in
    let a = numbers-append k (arrival_of s before o) arrive in
    let b = count-append k (dropped_of s before o) lost in
    let c = count-append k (o.number ∷ []) (map offer_number os) in
    let one = one-of k o.number (arrival_at s before o) (is_dropped s before o) in
    let rest = split-from s k (before ++ o ∷ []) os in
    omega (arith, a, b, c, one, rest)

pub split : (s : LinkSettings) (k : ℕ) (os : List Offer) → count_of k (numbers (arrivals s os)) + count_of k (dropped s os) ≡ count_of k (map offer_number os)
split s k os = split-from s k [] os

-- ---- the offers are all that was sent

records-numbers : (at : ℕ) (rs : List Sent) → map offer_number (map (offer_of at) rs) ≡ map sent_number rs
records-numbers at [] = refl
records-numbers at (r ∷ rs) = ap (λ (ns : List ℕ). r.number ∷ ns) (records-numbers at rs)

reply-numbers : (r : Reply) → map offer_number (offers_in r) ≡ map sent_number (sent_by r)
reply-numbers (given.Paced moment records) = records-numbers moment records.items
reply-numbers (given.Accepted moment index) = refl
reply-numbers (given.Credited moment judged signal m acked rates shares) = refl
reply-numbers (given.Configured moment rates shares) = refl
reply-numbers (given.Refused moment cause) = refl

pub same-numbers : (h : List Entry) → map offer_number (offers_of h) ≡ map sent_number (sent h)
same-numbers [] = refl
same-numbers (e ∷ h) =
    map-append offer_number (offers_in e.reply) (offers_of h) ∙ ap (λ (ns : List ℕ). ns ++ map offer_number (offers_of h)) (reply-numbers e.reply)
    ∙ ap (λ (ns : List ℕ). map sent_number (sent_by e.reply) ++ ns) (same-numbers h) ∙ sym (map-append sent_number (sent_by e.reply) (sent h))

-- ---- numbers one after the other

other : (a k : ℕ) → k < a → (a == k) ≡ false
other a k h = grind (arith, nat_tests)

none-below : (k n : ℕ) (rs : List Sent) → AreNumbered n rs → k < n → count_of k (map sent_number rs) ≡ 0
none-below k n [] are low = refl
none-below k n (r ∷ rs) are low =
    let head = count-cons k r.number (map sent_number rs) in
    let e : cond {A = ℕ} (r.number == k) 1 0 ≡ 0 = ap (λ (b : Bool). cond {A = ℕ} b 1 0) (other r.number k (omega (arith, are.0, low))) in
    omega (arith, head, e, none-below k (n + 1) rs are.1 (omega (arith, low)))

one-from : (k n : ℕ) (rs : List Sent) → AreNumbered n rs → n ≤ k → count_of k (map sent_number rs) ≡ (if nat_lt k (n + length rs) then 1 else 0)
one-from k n [] are low = let e : nat_lt k (n + 0) ≡ false = grind (arith, nat_tests) in rw e refl
one-from k n (r ∷ rs) are low = by_place (cases_lt n k) (λ later. one-from k (n + 1) rs are.1 later)
  where
    head : count_of k (map sent_number (r ∷ rs)) ≡ cond (r.number == k) 1 0 + count_of k (map sent_number rs)
    head = count-cons k r.number (map sent_number rs)

    by_place : ((n < k) ⊎ (k ≤ n)) → (n + 1 ≤ k → count_of k (map sent_number rs) ≡ (if nat_lt k (n + 1 + length rs) then 1 else 0))
        → count_of k (map sent_number (r ∷ rs)) ≡ (if nat_lt k (n + length (r ∷ rs)) then 1 else 0)
    by_place (inl later) more =
        let differs : (r.number == k) ≡ false = grind (arith, nat_tests, are.0) in
        let e : cond {A = ℕ} (r.number == k) 1 0 ≡ 0 = ap (λ (b : Bool). cond {A = ℕ} b 1 0) differs in
        let long : n + 1 + length rs ≡ n + length (r ∷ rs) = omega arith in
        let first : count_of k (map sent_number (r ∷ rs)) ≡ count_of k (map sent_number rs) = omega (arith, head, e) in
        first ∙ more (omega (arith, later)) ∙ ap (λ x. if nat_lt k x then 1 else 0) long
    by_place (inr here) more =
        let same : n ≡ k = omega (arith, low, here) in
        let is : (r.number == k) ≡ true = grind (arith, nat_tests, are.0, same) in
        let e : cond {A = ℕ} (r.number == k) 1 0 ≡ 1 = ap (λ (b : Bool). cond {A = ℕ} b 1 0) is in
        let t : nat_lt k (n + length (r ∷ rs)) ≡ true = grind (arith, nat_tests, same) in
        let none = none-below k (n + 1) rs are.1 (omega (arith, same)) in
        let first : count_of k (map sent_number (r ∷ rs)) ≡ 1 = omega (arith, head, e, none) in
        first ∙ sym (ap (λ (b : Bool). if b then 1 else 0) t)

pub each-once : (k : ℕ) (rs : List Sent) → AreNumbered 0 rs → count_of k (map sent_number rs) ≡ (if nat_lt k (length rs) then 1 else 0)
each-once k rs are = let e : 0 + length rs ≡ length rs = omega arith in one-from k 0 rs are (omega arith) ∙ ap (λ n. if nat_lt k n then 1 else 0) e
