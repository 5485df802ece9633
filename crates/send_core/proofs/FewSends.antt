-- A pace sends no more than what waits, where no cluster waits and no padding is asked for.
use Rattle.std.proofs.Common.{◌≡◌, ℕ, ℤ, pos, suc, zero, ◌+◌, ◌-◌, ◌*◌, ◌-ℤ◌, ◌+ℤ◌, ◌<ℤ◌, ◌≤ℤ◌, ◌<◌, ◌≤◌, ◌==◌, ◌&&◌, Bool, true, false, not, cond, min, Option, None, Some, List, [], ◌∷◌, length, count_by, int_lt, nat_lt, IfSome, refl, sym, ◌∙◌, ap, subst, arith}
use Rattle.std.specs.List.{position, position_or_len, Contains}
use Rattle.std.specs.Int.{int_min, int_max}
use Rattle.std.proofs.lemmas.Int.{ints, clamps}
use Rattle.std.proofs.lemmas.Bool.Decides.{nat_tests}
use Rattle.std.proofs.lemmas.List.Sums.{length-filter, count_by-le-length, sum_by-cons}
use Rattle.gcc_units.specs.declared.limits.TheConstants.{MOST_SENDS}
use Rattle.pace_queues.specs.declared.ticket.Ticket.{Ticket}
use Rattle.pace_queues.specs.Waiting.{next, without, IsLeast}
use Rattle.pace_queues.proofs.Waiting.{next-is_least}
use Rattle.probe_clusters.specs.declared.cluster.Cluster.{Cluster}
use Rattle.probe_clusters.specs.Cluster.{waits}
use Rattle.probe_clusters.specs.Clusters.{due, due_at}
use Rattle.pacer.specs.declared.sent.Sent.{Sent}
use Rattle.pacer.specs.declared.sent.Kind.{Kind}
use Rattle.pacer.specs.declared.sent.Kind.TheVariants as kind
use Rattle.pacer.specs.declared.course.Terms.{Terms}
use Rattle.pacer.specs.Pace.{Standing, index_of, rule_for, rule, after, then_on, paced, padding_by, clusters_by}
use Rattle.pacer.proofs.Pace.{paced-zero, paced-suc}
use Rattle.pacer.proofs.Records.{unsent-one}
use Rattle.pacer.proofs.Ruled.{IsAllowed, IsRuledBy, rule-is}
use Rattle.pacer.proofs.Sends.{paced-few}
use Rattle.pacer.specs.State.{advanced, terms, standing}
use Rattle.send_core.specs.declared.parts.Parts.{Parts}
use Rattle.send_core.specs.Bounds.{is_quiet, most_paced}

-- ---- no cluster is due

none-first : (b : Bool) (n : ℕ) → cond b 1 0 + n ≡ 0 → (b ≡ false) × (n ≡ 0)
none-first true n e = absurd (omega arith)
none-first false n e = (refl, omega arith)

at-end : (cs : List Cluster) → count_by waits cs ≡ 0 → position_or_len waits cs ≡ length cs
at-end [] e = refl
at-end (c ∷ cs) e =
    let parts : cond (waits c) 1 0 + count_by waits cs ≡ 0 = sym (sum_by-cons (λ (x : Cluster). cond (waits x) 1 0) c cs) ∙ e in
    let first : (waits c ≡ false) × (count_by waits cs ≡ 0) = none-first (waits c) (count_by waits cs) parts in
    let more : position_or_len waits cs ≡ length cs = at-end cs first.1 in
    rw first.0 (omega arith)

no-position : (cs : List Cluster) → count_by waits cs ≡ 0 → position waits cs ≡ None
no-position cs e =
    let end : position_or_len waits cs ≡ length cs = at-end cs e in
    let past : nat_lt (position_or_len waits cs) (length cs) ≡ false = grind (arith, nat_tests, end) in
    rw past refl

due-none : (cs : List Cluster) (now : ℕ) → count_by waits cs ≡ 0 → due cs now ≡ None
due-none cs now e = ap (due_at now cs) (no-position cs e)

-- ---- one that waits goes

kept-few : (b : Bool) (t : Ticket) (us ts : List Ticket) → length us < length ts → length (cond b (t ∷ us) us) < length (t ∷ ts)
kept-few true t us ts h = omega arith
kept-few false t us ts h = omega arith

without-few : (index : ℕ) (ts : List Ticket) → length (without index ts) ≤ length ts
without-few index ts =
    let one : length (without index ts) ≡ count_by (λ (t : Ticket). not (t.index == index)) ts = length-filter (λ (t : Ticket). not (t.index == index)) ts in
    let few : count_by (λ (t : Ticket). not (t.index == index)) ts ≤ length ts = count_by-le-length (λ (t : Ticket). not (t.index == index)) ts in
    omega arith

itself-fails : (t : Ticket) → not (t.index == t.index) ≡ false
itself-fails t = grind (arith, nat_tests)

without-fewer : (t : Ticket) (ts : List Ticket) → Contains ts t → length (without t.index ts) < length ts
without-fewer t [] (k, l, is) = absurd (omega arith)
without-fewer t (u ∷ us) (zero, l, is) =
    subst (λ (v : Ticket). length (without v.index (u ∷ us)) < length (u ∷ us)) is
    (let few : length (without u.index us) ≤ length us = without-few u.index us in rw (itself-fails u) (omega arith))
without-fewer t (u ∷ us) (suc k, l, is) =
    kept-few (not (u.index == t.index)) u (without t.index us) us (without-fewer t us (k, omega arith, is))

-- ---- one send

-- no cluster waits, and the padding level is at most 0
pub record IsQuiet (s : Standing) : Type 0 where
  pub clusters : count_by waits s.clusters ≡ 0
  pub padding : s.padding ≤ℤ pos 0

-- what one send leaves
record OneFewer (terms : Terms) (s : Standing) (r : Sent) : Type 0 where
  quiet : IsQuiet (after terms s r)
  fewer : length (after terms s r).waiting < length s.waiting

soft-lower : (floor level : ℤ) (n : ℕ) → level ≤ℤ pos 0 → int_max (level -ℤ pos n) (int_min level floor) ≤ℤ pos 0
soft-lower floor level n low = omega (arith, ints, clamps)

quiet-after : (terms : Terms) (s : Standing) (r : Sent) → IsQuiet s → IsAllowed s None r.kind → IsQuiet (after terms s r)
quiet-after terms s r quiet allowed = record { clusters = same_clusters r.kind r.size allowed; padding = low r.kind r.size allowed }
  where
    same_clusters : (k : Kind) (size : ℕ) → IsAllowed s None k → count_by waits (clusters_by terms.moment s.clusters k size) ≡ 0
    same_clusters kind.Audio size a = quiet.clusters
    same_clusters kind.Media size a = quiet.clusters
    same_clusters (kind.Probe id) size a = absurd cc
    same_clusters kind.Padding size a = quiet.clusters

    low : (k : Kind) (size : ℕ) → IsAllowed s None k → padding_by terms.floor s.padding k size ≤ℤ pos 0
    low kind.Audio size a = quiet.padding
    low kind.Media size a = soft-lower terms.floor s.padding _ quiet.padding
    low (kind.Probe id) size a = absurd cc
    low kind.Padding size a = let above : pos 0 <ℤ s.padding = a.0 in absurd (let low : s.padding ≤ℤ pos 0 = quiet.padding in omega (arith, ints))

not-above : (n : ℤ) → n ≤ℤ pos 0 → int_lt (pos 0) n ≡ false
not-above n low = grind (arith, ints, nat_tests)

-- nothing that waits, nothing that is sent
none-ruled : (terms : Terms) (s : Standing) → s.padding ≤ℤ pos 0 → rule_for terms s None None ≡ None
none-ruled terms s low = rw (not-above s.padding low) refl

one-fewer : (terms : Terms) (s : Standing) (r : Sent) → IsQuiet s → rule terms s ≡ Some r → OneFewer terms s r
one-fewer terms s r quiet e = by_next (next s.waiting) refl (next-is_least s.waiting)
  where
    none_due : due s.clusters terms.moment ≡ None
    none_due = due-none s.clusters terms.moment quiet.clusters

    ruled : IsRuledBy s None (next s.waiting) r
    ruled = subst (λ o. IsRuledBy s o (next s.waiting) r) none_due (rule-is terms s r e)

    by_next : (o : Option Ticket) → next s.waiting ≡ o → IfSome o (λ t. IsLeast t s.waiting) → OneFewer terms s r
    by_next None is least =
        let none : rule terms s ≡ None =
        ap (λ i. rule_for terms s i (next s.waiting)) none_due ∙ (ap (λ o. rule_for terms s None o) is ∙ none-ruled terms s quiet.padding) in
        absurd (let f : Some r ≡ None = sym e ∙ none in cc)
    by_next (Some t) is least =
        let index : r.index ≡ Some t.index = ruled.index ∙ ap index_of is in
        record {
          quiet = quiet-after terms s r quiet ruled.allowed;
          fewer = subst (λ (ts : List Ticket). length ts < length s.waiting) (sym (unsent-one r t.index index s.waiting)) (without-fewer t s.waiting least.waits);
        }

pub paced-quiet : (most : ℕ) (t : Terms) (s : Standing) → IsQuiet s → length (paced most t s) ≤ length s.waiting
paced-quiet zero t s quiet = rw (paced-zero t s) (omega arith)
paced-quiet (suc most) t s quiet = rw (paced-suc most t s) (by_rule (rule t s) refl (λ u q. paced-quiet most t u q))
  where
    by_rule : (o : Option Sent) → rule t s ≡ o → ((u : Standing) → IsQuiet u → length (paced most t u) ≤ length u.waiting)
        → length (then_on o (λ r. paced most t (after t s r))) ≤ length s.waiting
    by_rule None e more = omega arith
    by_rule (Some r) e more =
        let one : OneFewer t s r = one-fewer t s r quiet e in
        let fewer : length (after t s r).waiting < length s.waiting = one.fewer in
        let rest : length (paced most t (after t s r)) ≤ length (after t s r).waiting = more (after t s r) one.quiet in
        omega arith

-- ---- a whole pace

capped : (level : ℤ) (rate dt window : ℕ) → rate ≡ 0 → int_min (level +ℤ pos (rate * dt)) (pos (rate * window)) ≤ℤ pos 0
capped level rate dt window e = let none : rate * window ≡ 0 = rw e (omega arith) in omega (arith, ints, clamps)

both : (b c : Bool) → (b && c) ≡ true → (b ≡ true) × (c ≡ true)
both true true e = (refl, refl)
both true false e = absurd cc
both false c e = absurd cc

is-zero : (n : ℕ) → (n == 0) ≡ true → n ≡ 0
is-zero n e = grind (arith, nat_tests)

quiet-standing : (p : Parts) (m number : ℕ) → is_quiet p ≡ true → IsQuiet (standing (advanced p.pacer m) p.clusters.items number)
quiet-standing p m number e =
    let tests : ((count_by waits p.clusters.items == 0) ≡ true) × ((p.pacer.pacing.padding_rate == 0) ≡ true) = both (count_by waits p.clusters.items == 0) (p.pacer.pacing.padding_rate == 0) e in
    record {
      clusters = is-zero _ tests.0;
      padding = capped p.pacer.padding p.pacer.pacing.padding_rate (m - p.pacer.moment) p.pacer.pacing.window (is-zero _ tests.1);
    }

abbrev pub paced_at : Parts → ℕ → ℕ → List Sent
paced_at p m number = paced MOST_SENDS (terms (advanced p.pacer m)) (standing (advanced p.pacer m) p.clusters.items number)

-- a pace at any moment
pub paced-most : (p : Parts) (m number : ℕ) → length (paced_at p m number) ≤ most_paced p
paced-most p m number = by_test (is_quiet p) refl
  where
    by_test : (b : Bool) → is_quiet p ≡ b → length (paced_at p m number) ≤ cond b (min MOST_SENDS (length p.pacer.waiting)) MOST_SENDS
    by_test true e =
        let few : length (paced_at p m number) ≤ MOST_SENDS = paced-few MOST_SENDS (terms (advanced p.pacer m)) (standing (advanced p.pacer m) p.clusters.items number) in
        let fewer : length (paced_at p m number) ≤ length p.pacer.waiting =
        paced-quiet MOST_SENDS (terms (advanced p.pacer m)) (standing (advanced p.pacer m) p.clusters.items number) (quiet-standing p m number e) in
        omega arith
    by_test false e = paced-few MOST_SENDS (terms (advanced p.pacer m)) (standing (advanced p.pacer m) p.clusters.items number)

nothing : (records : List Sent) → length records ≤ 0 → records ≡ []
nothing [] few = refl
nothing (r ∷ rs) few = absurd (omega arith)

-- where nothing may leave, nothing leaves
pub paced-nothing : (p : Parts) (m number : ℕ) → most_paced p ≡ 0 → paced_at p m number ≡ []
paced-nothing p m number none = nothing (paced_at p m number) (let few : length (paced_at p m number) ≤ most_paced p = paced-most p m number in omega arith)
