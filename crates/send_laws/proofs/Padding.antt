-- Padding over a span is bounded.
use Rattle.std.proofs.Common.{◌≡◌, ℕ, ℤ, pos, suc, zero, ◌+◌, ◌-◌, ◌*◌, ◌≤◌, ◌<ℤ◌, ◌+ℤ◌, ◌≤ℤ◌, Option, None, Some, List, [], ◌∷◌, ◌++◌, fold, refl, sym, subst, append_assoc, arith}
use Rattle.std.specs.Int.{int_min}
use Rattle.std.proofs.lemmas.Int.{ints, clamps}
use Rattle.std.proofs.lemmas.List.Sums.{fold-append, sum_by-append, sum_by-cons}
use Rattle.gcc_units.specs.declared.limits.TheConstants.{MOST_SENDS}
use Rattle.gcc_units.proofs.Walk.{walk-push}
use Rattle.pace_budget.specs.Level.{bits}
use Rattle.pace_budget.specs.Steps.{step}
use Rattle.probe_clusters.specs.Clusters.{due}
use Rattle.pacer.specs.declared.sent.Sent.{Sent}
use Rattle.pacer.specs.declared.sent.Kind.{Kind}
use Rattle.pacer.specs.declared.sent.Kind.TheVariants as kind
use Rattle.pacer.specs.declared.course.Terms.{Terms}
use Rattle.pacer.specs.Pace.{Standing, padding_by, padding_after, rule, after, then_on, paced}
use Rattle.pacer.proofs.Pace.{paced-zero, paced-suc}
use Rattle.pacer.proofs.Ruled.{IsAllowed, rule-is}
use Rattle.send_core.specs.declared.call.Entry.{Entry}
use Rattle.send_core.specs.History.{later, now, sent, sent_by}
use Rattle.send_core.specs.Levels.{window, padding_rate, padding_passing, floor, padding}
use Rattle.send_core.specs.Levels as levels
use Rattle.send_core.specs.Reply.{terms_at, standing_at, IsAnswered}
use Rattle.send_laws.specs.Spans.{padding_as, padding_size, padding_bytes, padding_last_as, last_padding, padding_integral}
use Rattle.send_laws.proofs.Sending.{answered-sends}

abbrev last_from : ℕ → List Sent → ℕ
last_from last records = fold (λ l (r : Sent). padding_last_as l r.kind r.size) last records

-- at this level, after so many bytes of which the last packet had this size, no more was taken than came in, and the last packet
record IsWithin (most level : ℤ) (bytes last : ℕ) : Type 0 where
  low : (level +ℤ bits bytes) ≤ℤ most
  all : bits bytes ≤ℤ (most +ℤ bits last)

-- one record more
one-more : (most floor level : ℤ) (bytes last : ℕ) (s : Standing) (id : Option ℕ) (k : Kind) (size : ℕ) → s.padding ≡ level → IsAllowed s id k
    → IsWithin most level bytes last → IsWithin most (padding_by floor level k size) (bytes + padding_as k size) (padding_last_as last k size)
one-more most floor level bytes last s id kind.Audio size is allowed h = record { low = omega (arith, ints, h.low); all = omega (arith, ints, h.all) }
one-more most floor level bytes last s id kind.Media size is allowed h =
    record { low = omega (arith, ints, clamps, h.low); all = omega (arith, ints, h.all) }
one-more most floor level bytes last s id (kind.Probe k) size is allowed h = record { low = omega (arith, ints, h.low); all = omega (arith, ints, h.all) }
one-more most floor level bytes last s id kind.Padding size is allowed h =
    let above : pos 0 <ℤ level = subst (λ l. pos 0 <ℤ l) is allowed.0 in
    record { low = omega (arith, ints, h.low); all = omega (arith, ints, h.low, above) }

-- these records keep within what came in
abbrev Keeps : ℤ → ℤ → List Sent → Type 0
Keeps floor level rs = (most : ℤ) (bytes last : ℕ) → IsWithin most level bytes last
    → IsWithin most (fold (padding_after floor) level rs) (bytes + padding_bytes rs) (last_from last rs)

keeps-none : (floor level : ℤ) → Keeps floor level []
keeps-none floor level = λ most bytes last h. let e : bytes + 0 ≡ bytes = omega arith in subst (λ b. IsWithin most level b last) (sym e) h

paced-keeps : (n : ℕ) (terms : Terms) (s : Standing) → Keeps terms.floor s.padding (paced n terms s)
paced-keeps zero terms s = rw (paced-zero terms s) (keeps-none terms.floor s.padding)
paced-keeps (suc n) terms s = rw (paced-suc n terms s) (by_rule (rule terms s) refl (λ r. paced-keeps n terms (after terms s r)))
  where
    by_rule : (o : Option Sent) → rule terms s ≡ o → ((r : Sent) → Keeps terms.floor (padding_after terms.floor s.padding r) (paced n terms (after terms s r)))
        → Keeps terms.floor s.padding (then_on o (λ r. paced n terms (after terms s r)))
    by_rule None e more = keeps-none terms.floor s.padding
    by_rule (Some r) e more = λ most bytes last h.
        let rs : List Sent = paced n terms (after terms s r) in
        let first : IsWithin most (padding_after terms.floor s.padding r) (bytes + padding_size r) (padding_last_as last r.kind r.size) =
        one-more most terms.floor s.padding bytes last s (due s.clusters terms.moment) r.kind r.size refl (rule-is terms s r e).allowed h in
        let same : bytes + padding_size r + padding_bytes rs ≡ bytes + padding_bytes (r ∷ rs) = omega (arith, sum_by-cons padding_size r rs) in
        subst (λ b. IsWithin most (fold (padding_after terms.floor) (padding_after terms.floor s.padding r) rs) b (last_from (padding_last_as last r.kind r.size) rs)) same
        (more r most (bytes + padding_size r) (padding_last_as last r.kind r.size) first)

-- time that passes lets the level rise by no more than came in
passed : (most level : ℤ) (bytes last gain cap : ℕ) → IsWithin most level bytes last → IsWithin (most +ℤ pos gain) (int_min (level +ℤ pos gain) (pos cap)) bytes last
passed most level bytes last gain held h = record { low = omega (arith, ints, clamps, h.low); all = omega (arith, ints, h.all) }

-- the sends of one entry, from the level before them
entry-keeps : (before rest : List Entry) (e : Entry) → IsAnswered (before ++ e ∷ rest)
    → Keeps (floor before) (step (padding before) (padding_passing before (later (now before) e.call))) (sent_by e.reply)
entry-keeps before rest e legal =
    let m : ℕ = later (now before) e.call in
    answered-sends (Keeps (floor before) (step (padding before) (padding_passing before m))) before rest e legal
    (keeps-none (floor before) (step (padding before) (padding_passing before m)))
    (paced-keeps MOST_SENDS (terms_at before m) (standing_at before m))

padding-push : (before : List Entry) (e : Entry) → padding (before ++ e ∷ []) ≡ levels.padding_by before (padding before) e
padding-push before e = walk-push levels.padding_by (pos 0) before e

moved : (most : ℤ) (level l : ℤ) (bytes b last : ℕ) → level ≡ l → bytes ≡ b → IsWithin most level bytes last → IsWithin most l b last
moved most level l bytes b last same equal h = subst (λ x. IsWithin most x b last) same (subst (λ x. IsWithin most level x last) equal h)

-- the entries of a span after its first
rest-keeps : (before rest : List Entry) → IsAnswered (before ++ rest) → (most : ℤ) (bytes last : ℕ) → IsWithin most (padding before) bytes last
    → bits (bytes + padding_bytes (sent rest)) ≤ℤ (most +ℤ pos (padding_integral before rest) +ℤ bits (last_from last (sent rest)))
rest-keeps before [] legal most bytes last h = omega (arith, ints, h.all)
rest-keeps before (e ∷ rest) legal most bytes last h =
    let m : ℕ = later (now before) e.call in
    let gain : ℕ = padding_rate before * (m - now before) in
    let rs : List Sent = sent_by e.reply in
    let held : ℤ = step (padding before) (padding_passing before m) in
    let risen : IsWithin (most +ℤ pos gain) held bytes last = passed most (padding before) bytes last gain (padding_rate before * window before) h in
    let left : IsWithin (most +ℤ pos gain) (fold (padding_after (floor before)) held rs) (bytes + padding_bytes rs) (last_from last rs) =
    entry-keeps before rest e legal (most +ℤ pos gain) bytes last risen in
    let next : IsWithin (most +ℤ pos gain) (padding (before ++ e ∷ [])) (bytes + padding_bytes rs) (last_from last rs) =
    moved (most +ℤ pos gain) _ _ (bytes + padding_bytes rs) _ (last_from last rs) (sym (padding-push before e)) refl left in
    ended (bytes + padding_bytes rs) (padding_bytes (sent rest)) bytes (padding_bytes rs) (padding_bytes (rs ++ sent rest)) gain (padding_integral (before ++ e ∷ []) rest) most
    (last_from (last_from last rs) (sent rest)) (last_from last (rs ++ sent rest)) refl (sum_by-append padding_size rs (sent rest))
    (fold-append (λ l (r : Sent). padding_last_as l r.kind r.size) last rs (sent rest))
    (rest-keeps (before ++ e ∷ []) rest (subst IsAnswered (sym (append_assoc before (e ∷ []) rest)) legal) (most +ℤ pos gain) (bytes + padding_bytes rs) (last_from last rs) next)
  where
    ended : (all more bytes here total gain later : ℕ) (most : ℤ) (end last : ℕ) → all ≡ bytes + here → total ≡ here + more → last ≡ end
        → bits (all + more) ≤ℤ ((most +ℤ pos gain) +ℤ pos later +ℤ bits end) → bits (bytes + total) ≤ℤ (most +ℤ pos (gain + later) +ℤ bits last)
    ended all more bytes here total gain later most end last e f g h = omega (arith, ints, e, f, g, h)

start : (level : ℤ) (gain most : ℕ) → IsWithin (pos most) (int_min (level +ℤ pos gain) (pos most)) 0 0
start level gain most = record { low = omega (arith, ints, clamps); all = omega (arith, ints) }

-- padding of a span is at most what the padding rate comes to over it, what the window holds, and the last packet
pub padding-bounded : (before rest : List Entry) (first : Entry) → IsAnswered (before ++ first ∷ rest)
    → 8000000 * padding_bytes (sent (first ∷ rest))
    ≤ padding_integral (before ++ first ∷ []) rest + padding_rate before * window before + 8000000 * last_padding (sent (first ∷ rest))
padding-bounded before rest first legal =
    let m : ℕ = later (now before) first.call in
    let most : ℕ = padding_rate before * window before in
    let rs : List Sent = sent_by first.reply in
    let held : ℤ = step (padding before) (padding_passing before m) in
    let all : 0 + padding_bytes rs ≡ padding_bytes rs = omega arith in
    let left : IsWithin (pos most) (fold (padding_after (floor before)) held rs) (0 + padding_bytes rs) (last_from 0 rs) =
    entry-keeps before rest first legal (pos most) 0 0 (start (padding before) (padding_rate before * (m - now before)) most) in
    let next : IsWithin (pos most) (padding (before ++ first ∷ [])) (padding_bytes rs) (last_from 0 rs) =
    moved (pos most) _ _ (0 + padding_bytes rs) _ (last_from 0 rs) (sym (padding-push before first)) all left in
    ended (padding_bytes rs) (padding_bytes (sent rest)) (padding_bytes (rs ++ sent rest)) (padding_integral (before ++ first ∷ []) rest) most
    (last_from (last_from 0 rs) (sent rest)) (last_padding (rs ++ sent rest)) (sum_by-append padding_size rs (sent rest))
    (fold-append (λ l (r : Sent). padding_last_as l r.kind r.size) 0 rs (sent rest))
    (rest-keeps (before ++ first ∷ []) rest (subst IsAnswered (sym (append_assoc before (first ∷ []) rest)) legal) (pos most) (padding_bytes rs) (last_from 0 rs) next)
  where
    ended : (here more total gained most end last : ℕ) → total ≡ here + more → last ≡ end
        → bits (here + more) ≤ℤ (pos most +ℤ pos gained +ℤ bits end) → 8000000 * total ≤ gained + most + 8000000 * last
    ended here more total gained most end last e f h = omega (arith, ints, e, f, h)
