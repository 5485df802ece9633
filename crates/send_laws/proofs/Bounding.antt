-- Paced media over a span is bounded.
use Rattle.std.proofs.Common.{◌≡◌, ℕ, ℤ, pos, ◌+◌, ◌-◌, ◌*◌, ◌≤◌, ◌||◌, ◌+ℤ◌, ◌≤ℤ◌, Bool, true, false, cond, Option, List, [], ◌∷◌, ◌++◌, fold, refl, sym, ◌∙◌, ap, subst, append_assoc, arith}
use Rattle.std.specs.List.{flat_map}
use Rattle.std.specs.Int.{int_min}
use Rattle.std.proofs.lemmas.Int.{ints, clamps}
use Rattle.std.proofs.lemmas.List.Sums.{fold-append, sum_by-append}
use Rattle.gcc_units.specs.declared.limits.TheConstants.{MOST_SENDS}
use Rattle.gcc_units.specs.Walk.{each_by}
use Rattle.gcc_units.proofs.Walk.{flat_each-push}
use Rattle.pace_budget.specs.Level.{Deed, Advance, level, bits}
use Rattle.pace_budget.specs.Steps.{step}
use Rattle.pace_budget.proofs.Steps.{level-step, StandsFor-steps}
use Rattle.pace_budget.specs.Spans.{Opens, Count, count, none_counted, IsWithin}
use Rattle.pace_budget.proofs.Spans.{Opens-append, count-within}
use Rattle.pacer.specs.declared.sent.Sent.{Sent}
use Rattle.pacer.specs.declared.sent.Kind.{Kind}
use Rattle.pacer.specs.declared.sent.Kind.TheVariants as kind
use Rattle.pacer.specs.LeftByRecords.{has_media}
use Rattle.pacer.specs.Pace.{deed_by, deed_of, paced}
use Rattle.pacer.proofs.Sends.{paced-opens}
use Rattle.send_core.specs.declared.call.Entry.{Entry}
use Rattle.send_core.specs.History.{later, now, sent, sent_by}
use Rattle.send_core.specs.Levels.{rate, window, passing, spending, deeds_by, deeds}
use Rattle.send_core.specs.Reply.{terms_at, standing_at, IsAnswered}
use Rattle.send_laws.specs.Spans.{media_bytes, spent_size, all_spent, spent_bytes, last_as, last_media, integral}
use Rattle.send_laws.proofs.Sending.{answered-sends}
use Rattle.send_laws.proofs.Spent.{or-nil, or-true, has_media-append, spent-none, spent-front, spent-all, media-few}

abbrev deeds_from : List Entry → List Entry → List Deed
deeds_from before rest = flat_map (λ (ds : List Deed). ds) (each_by deeds_by before rest)

-- the level is open at each media packet
entry-opens : (before rest : List Entry) (e : Entry) → IsAnswered (before ++ e ∷ rest) → Opens (level (deeds before)) (deeds_by before e)
entry-opens before rest e legal =
    let m : ℕ = later (now before) e.call in
    answered-sends (λ rs. Opens (step (level (deeds before)) (passing before m)) (spending rs)) before rest e legal tt
    (subst (λ l. Opens l (spending (paced MOST_SENDS (terms_at before m) (standing_at before m)))) (level-step (deeds before) (passing before m))
    (paced-opens MOST_SENDS (terms_at before m) (standing_at before m)))

level-after : (before : List Entry) (e : Entry) → level (deeds (before ++ e ∷ [])) ≡ fold step (level (deeds before)) (deeds_by before e)
level-after before e =
    ap level (flat_each-push deeds_by before e)
    ∙ sym (StandsFor-steps (level (deeds before)) (deeds before) (deeds_by before e) (record { least = refl })).least

rest-opens : (before rest : List Entry) → IsAnswered (before ++ rest) → Opens (level (deeds before)) (deeds_from before rest)
rest-opens before [] legal = tt
rest-opens before (e ∷ rest) legal =
    Opens-append (level (deeds before)) (deeds_by before e) (deeds_from (before ++ e ∷ []) rest) (entry-opens before rest e legal)
    (subst (λ l. Opens l (deeds_from (before ++ e ∷ []) rest)) (level-after before e)
    (rest-opens (before ++ e ∷ []) rest (subst IsAnswered (sym (append_assoc before (e ∷ []) rest)) legal)))

-- ---- the count of a span, in words of its records

abbrev last_from : ℕ → List Sent → ℕ
last_from last records = fold (λ l (r : Sent). last_as l r.kind r.size) last records

-- what a list of records adds to what was counted
record Counted (n m : Count) (rs : List Sent) (gain : ℕ) : Type 0 where
  taken : (m.all +ℤ m.since) ≡ (n.all +ℤ n.since +ℤ bits (all_spent rs))
  all : m.all ≡ cond (has_media rs) (n.all +ℤ n.since +ℤ bits (spent_bytes rs)) n.all
  gained : m.gained ≡ n.gained + gain
  last : m.last ≡ last_from n.last rs

none-counted : (n : Count) → Counted n n [] 0
none-counted n = record { taken = omega (arith, ints); all = refl; gained = omega arith; last = refl }

-- more records behind these
counted-then : (n m k : Count) (xs ys : List Sent) (g : ℕ) → Counted n m xs 0 → Counted m k ys g → Counted n k (xs ++ ys) g
counted-then n m k xs ys g first second = record {
  taken = omega (arith, ints, first.taken, second.taken, sum_by-append spent_size xs ys);
  all = by_media (has_media ys) refl;
  gained = omega (arith, first.gained, second.gained);
  last = second.last ∙ (ap (λ l. last_from l ys) first.last ∙ sym (fold-append (λ l (r : Sent). last_as l r.kind r.size) n.last xs ys));
}
  where
    by_media : (b : Bool) → has_media ys ≡ b → k.all ≡ cond (has_media (xs ++ ys)) (n.all +ℤ n.since +ℤ bits (spent_bytes (xs ++ ys))) n.all
    by_media true some =
        let later : has_media (xs ++ ys) ≡ true = has_media-append xs ys ∙ (ap (λ b. has_media xs || b) some ∙ or-true (has_media xs)) in
        let here : k.all ≡ m.all +ℤ m.since +ℤ bits (spent_bytes ys) = second.all ∙ ap (λ b. cond b (m.all +ℤ m.since +ℤ bits (spent_bytes ys)) m.all) some in
        rw later (omega (arith, ints, here, first.taken, spent-all xs ys some))
    by_media false none =
        let before : has_media (xs ++ ys) ≡ has_media xs = has_media-append xs ys ∙ (ap (λ b. has_media xs || b) none ∙ or-nil (has_media xs)) in
        rw (before, spent-front xs ys none) (second.all ∙ (ap (λ b. cond b (m.all +ℤ m.since +ℤ bits (spent_bytes ys)) m.all) none ∙ first.all))

one-counted : (n : Count) (r : Sent) → Counted n (fold count n (deed_of r)) (r ∷ []) 0
one-counted n r = by_kind r.number r.index r.kind r.size
  where
    by_kind : (number : ℕ) (index : Option ℕ) (k : Kind) (size : ℕ)
        → Counted n (fold count n (deed_by k size)) (record { number = number; index = index; kind = k; size = size } ∷ []) 0
    by_kind number index kind.Audio size = record { taken = omega (arith, ints); all = refl; gained = omega arith; last = refl }
    by_kind number index kind.Media size = record { taken = omega (arith, ints); all = omega (arith, ints); gained = omega arith; last = refl }
    by_kind number index (kind.Probe id) size = record { taken = omega (arith, ints); all = refl; gained = omega arith; last = refl }
    by_kind number index kind.Padding size = record { taken = omega (arith, ints); all = refl; gained = omega arith; last = refl }

sends-counted : (n : Count) (rs : List Sent) → Counted n (fold count n (spending rs)) rs 0
sends-counted n [] = none-counted n
sends-counted n (r ∷ rs) =
    let m : Count = fold count n (deed_of r) in
    rw (fold-append count n (deed_of r) (spending rs)) (counted-then n m (fold count m (spending rs)) (r ∷ []) rs 0 (one-counted n r) (sends-counted m rs))

-- time that passed before it
counted-later : (n : Count) (rate dt w : ℕ) (k : Count) (rs : List Sent) (g : ℕ) → Counted (count n (Advance rate dt w)) k rs g → Counted n k rs (rate * dt + g)
counted-later n rate dt w k rs g h = record { taken = h.taken; all = h.all; gained = omega (arith, h.gained); last = h.last }

-- sends, and then more deeds
sends-then : (n : Count) (rs : List Sent) (ds : List Deed) (more : List Sent) (g : ℕ) → ((m : Count) → Counted m (fold count m ds) more g)
    → Counted n (fold count n (spending rs ++ ds)) (rs ++ more) g
sends-then n rs ds more g h =
    let m : Count = fold count n (spending rs) in
    rw (fold-append count n (spending rs) ds) (counted-then n m (fold count m ds) rs more g (sends-counted n rs) (h m))

rest-counted : (n : Count) (before rest : List Entry) → Counted n (fold count n (deeds_from before rest)) (sent rest) (integral before rest)
rest-counted n before [] = none-counted n
rest-counted n before (e ∷ rest) =
    let m : ℕ = later (now before) e.call in
    let more : List Deed = deeds_from (before ++ e ∷ []) rest in
    let past : Count = count n (passing before m) in
    counted-later n (rate before) (m - now before) (window before)
    (fold count past (spending (sent_by e.reply) ++ more)) (sent_by e.reply ++ sent rest) (integral (before ++ e ∷ []) rest)
    (sends-then past (sent_by e.reply) more (sent rest) (integral (before ++ e ∷ []) rest) (λ k. rest-counted k (before ++ e ∷ []) rest))

within-is : (n : Count) (rs : List Sent) (g most : ℕ) → Counted none_counted n rs g → IsWithin (pos most) n
    → 8000000 * spent_bytes rs ≤ g + most + 8000000 * last_media rs
within-is n rs g most h within = by_media (has_media rs) refl
  where
    by_media : (b : Bool) → has_media rs ≡ b → 8000000 * spent_bytes rs ≤ g + most + 8000000 * last_media rs
    by_media true some =
        let all : n.all ≡ pos 0 +ℤ pos 0 +ℤ bits (spent_bytes rs) = h.all ∙ ap (λ b. cond b (pos 0 +ℤ pos 0 +ℤ bits (spent_bytes rs)) (pos 0)) some in
        omega (arith, ints, all, h.gained, h.last, within)
    by_media false none = omega (arith, spent-none rs none)

cut : (a : ℤ) (gain most : ℕ) → (int_min (a +ℤ pos gain) (pos most) +ℤ pos 0 +ℤ pos 0) ≤ℤ (pos most +ℤ pos 0)
cut a gain most = omega (arith, ints, clamps)

nothing : (most : ℕ) → IsWithin (pos most) none_counted
nothing most = omega (arith, ints)

-- paced media of a span, with the probes before the last of it, is at most what the rates come to over it, what the window holds, and the last media packet
pub spent-bounded : (before rest : List Entry) (first : Entry) → IsAnswered (before ++ first ∷ rest)
    → 8000000 * spent_bytes (sent (first ∷ rest))
    ≤ integral (before ++ first ∷ []) rest + rate before * window before + 8000000 * last_media (sent (first ∷ rest))
spent-bounded before rest first legal =
    let more : List Deed = deeds_from (before ++ first ∷ []) rest in
    let m : ℕ = later (now before) first.call in
    let held : ℤ = step (level (deeds before)) (passing before m) in
    let opens : Opens held (spending (sent_by first.reply) ++ more) = rest-opens before (first ∷ rest) legal in
    within-is (fold count none_counted (spending (sent_by first.reply) ++ more)) (sent (first ∷ rest)) (integral (before ++ first ∷ []) rest) (rate before * window before)
    (sends-then none_counted (sent_by first.reply) more (sent rest) (integral (before ++ first ∷ []) rest) (λ k. rest-counted k (before ++ first ∷ []) rest))
    (count-within (pos (rate before * window before)) held none_counted (spending (sent_by first.reply) ++ more) opens
    (cut (level (deeds before)) (rate before * (m - now before)) (rate before * window before)) (nothing (rate before * window before)))

-- so is paced media alone
pub media-bounded : (before rest : List Entry) (first : Entry) → IsAnswered (before ++ first ∷ rest)
    → 8000000 * media_bytes (sent (first ∷ rest))
    ≤ integral (before ++ first ∷ []) rest + rate before * window before + 8000000 * last_media (sent (first ∷ rest))
media-bounded before rest first legal = omega (arith, media-few (sent (first ∷ rest)), spent-bounded before rest first legal)
