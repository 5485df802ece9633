-- What holds of all sends of one pace.
use Rattle.std.proofs.Common.{◌≡◌, ℕ, suc, zero, ◌<◌, ◌≤◌, Bool, true, false, not, cond, Option, None, Some, IfSome, List, [], ◌∷◌, ◌++◌, length, All, fold, slice_get, refl, sym, ◌∙◌, ap, subst, arith}
use Rattle.std.proofs.lemmas.List.Elements.{All-nil, All-cons, All-filter}
use Rattle.pace_budget.specs.Steps.{step}
use Rattle.pace_budget.specs.Spans.{Opens}
use Rattle.pace_queues.specs.declared.ticket.Ticket.{Ticket}
use Rattle.pace_queues.specs.Waiting.{next, HasIndexBelow}
use Rattle.pace_queues.proofs.Waiting.{next-is_one}
use Rattle.probe_clusters.specs.declared.cluster.Cluster.{Cluster}
use Rattle.probe_clusters.specs.Clusters.{due, due_at, due_as, current, changed, changed_where}
use Rattle.probe_clusters.specs.Cluster.{is_due}
use Rattle.pacer.specs.declared.sent.Sent.{Sent}
use Rattle.pacer.specs.declared.sent.Kind.{Kind}
use Rattle.pacer.specs.declared.sent.Kind.TheVariants as kind
use Rattle.pacer.specs.declared.course.Terms.{Terms}
use Rattle.pacer.specs.Course.{IsSmall, IsSmallRecord}
use Rattle.pacer.specs.Pace.{Standing, names, IsBelow, NamesBelow, index_of, deed_by, clusters_by, rule, after, then_on, paced}
use Rattle.pacer.proofs.Pace.{paced-zero, paced-suc}
use Rattle.pacer.proofs.Ruled.{IsAllowed, rule-is, size-small}
use Rattle.pacer.specs.LeftByRecords.{spending}

-- one induction for all: what holds of a send at each standing that may come holds of every send
pub sends-have : (P : Sent → Type 0) (May : Standing → Type 0) (terms : Terms)
    → ((s : Standing) (r : Sent) → May s → rule terms s ≡ Some r → P r)
    → ((s : Standing) (r : Sent) → May s → rule terms s ≡ Some r → May (after terms s r))
    → (most : ℕ) (s : Standing) → May s → All P (paced most terms s)
sends-have P May terms has keeps zero s may = rw (paced-zero terms s) (All-nil P)
sends-have P May terms has keeps (suc most) s may = rw (paced-suc most terms s) (by_rule (rule terms s) refl (λ t m. sends-have P May terms has keeps most t m))
  where
    by_rule : (o : Option Sent) → rule terms s ≡ o → ((t : Standing) → May t → All P (paced most terms t)) → All P (then_on o (λ r. paced most terms (after terms s r)))
    by_rule None e more = All-nil P
    by_rule (Some r) e more = All-cons P r (paced most terms (after terms s r)) (has s r may e) (more (after terms s r) (keeps s r may e))

-- at most so many
pub paced-few : (most : ℕ) (terms : Terms) (s : Standing) → length (paced most terms s) ≤ most
paced-few zero terms s = rw (paced-zero terms s) (omega arith)
paced-few (suc most) terms s = rw (paced-suc most terms s) (by_rule (rule terms s) (λ t. paced-few most terms t))
  where
    by_rule : (o : Option Sent) → ((t : Standing) → length (paced most terms t) ≤ most) → length (then_on o (λ r. paced most terms (after terms s r))) ≤ suc most
    by_rule None few = omega arith
    by_rule (Some r) few = let h : length (paced most terms (after terms s r)) ≤ most = few (after terms s r) in omega arith

-- each is of a packet that waits, or of none
pub paced-known : (most count : ℕ) (terms : Terms) (s : Standing) → All (HasIndexBelow count) s.waiting → All (NamesBelow count) (paced most terms s)
paced-known most count terms s all =
    sends-have (NamesBelow count) (λ t. All (HasIndexBelow count) t.waiting) terms
    (λ t r may e. below t r may (rule-is terms t r e).index)
    (λ t r may e. All-filter (λ (u : Ticket). not (names u.index (r ∷ []))) (HasIndexBelow count) t.waiting may)
    most s all
  where
    below : (t : Standing) (r : Sent) → All (HasIndexBelow count) t.waiting → r.index ≡ index_of (next t.waiting) → NamesBelow count r
    below t r may is = by_next (next t.waiting) (next-is_one (HasIndexBelow count) t.waiting may) is
      where
        by_next : (o : Option Ticket) → IfSome o (HasIndexBelow count) → r.index ≡ index_of o → NamesBelow count r
        by_next None h is = subst (IsBelow count) (sym is) tt
        by_next (Some u) h is = subst (IsBelow count) (sym is) h

-- none is too large
pub paced-small : (most : ℕ) (terms : Terms) (s : Standing) → All IsSmall s.waiting → All IsSmallRecord (paced most terms s)
paced-small most terms s all =
    sends-have IsSmallRecord (λ t. All IsSmall t.waiting) terms
    (λ t r may e. size-small t r may (rule-is terms t r e).size)
    (λ t r may e. All-filter (λ (u : Ticket). not (names u.index (r ∷ []))) IsSmall t.waiting may)
    most s all

-- ---- probes are for clusters that were planned

abbrev pub IsPlanned : ℕ → Kind → Type 0
IsPlanned count kind.Audio = Unit {0}
IsPlanned count kind.Media = Unit {0}
IsPlanned count (kind.Probe id) = id < count
IsPlanned count kind.Padding = Unit {0}

abbrev pub IsForPlanned : ℕ → Sent → Type 0
IsForPlanned count r = IsPlanned count r.kind

slice_get-below : {X : Type 0} (xs : List X) (k : ℕ) (x : X) → slice_get xs k ≡ Some x → k < length xs
slice_get-below [] k x is = absurd cc
slice_get-below (y ∷ ys) zero x is = omega arith
slice_get-below (y ∷ ys) (suc k) x is = let h : k < length ys = slice_get-below ys k x is in omega arith

pub due-below : (cs : List Cluster) (now id : ℕ) → due cs now ≡ Some id → id < length cs
due-below cs now id e = by_current (current cs) e
  where
    by_current : (o : Option ℕ) → due_at now cs o ≡ Some id → id < length cs
    by_current None e = absurd cc
    by_current (Some k) e = by_cluster (slice_get cs k) refl e
      where
        by_cluster : (c : Option Cluster) → slice_get cs k ≡ c → due_as now k c ≡ Some id → id < length cs
        by_cluster None at e = absurd cc
        by_cluster (Some c) at e = by_test (is_due c now) e
          where
            by_test : (b : Bool) → cond b (Some k) None ≡ Some id → id < length cs
            by_test true e = let same : k ≡ id = cc in subst (λ n. n < length cs) same (slice_get-below cs k c at)
            by_test false e = absurd cc

length-changed : (f : Cluster → Cluster) (id : ℕ) (cs : List Cluster) → length (changed f id cs) ≡ length cs
length-changed f id [] = refl
length-changed f zero (c ∷ cs) = refl
length-changed f (suc id) (c ∷ cs) = ap suc (length-changed f id cs)

length-where : (f : Cluster → Cluster) (o : Option ℕ) (cs : List Cluster) → length (changed_where f o cs) ≡ length cs
length-where f None cs = refl
length-where f (Some id) cs = length-changed f id cs

length-after : (moment : ℕ) (cs : List Cluster) (k : Kind) (size : ℕ) → length (clusters_by moment cs k size) ≡ length cs
length-after moment cs kind.Audio size = refl
length-after moment cs kind.Media size = refl
length-after moment cs (kind.Probe id) size = length-where _ (current cs) cs
length-after moment cs kind.Padding size = refl

pub paced-planned : (most : ℕ) (terms : Terms) (s : Standing) → All (IsForPlanned (length s.clusters)) (paced most terms s)
paced-planned most terms s =
    sends-have (IsForPlanned (length s.clusters)) (λ t. length t.clusters ≡ length s.clusters) terms
    (λ t r may e. planned t r.kind may (rule-is terms t r e).allowed)
    (λ t r may e. length-after terms.moment t.clusters r.kind r.size ∙ may)
    most s refl
  where
    planned : (t : Standing) (k : Kind) → length t.clusters ≡ length s.clusters → IsAllowed t (due t.clusters terms.moment) k → IsPlanned (length s.clusters) k
    planned t kind.Audio may a = tt
    planned t kind.Media may a = tt
    planned t (kind.Probe id) may a = subst (λ n. id < n) may (due-below t.clusters terms.moment id a)
    planned t kind.Padding may a = tt

-- ---- the media level is open at each media packet

pub paced-opens : (most : ℕ) (terms : Terms) (s : Standing) → Opens s.media (spending (paced most terms s))
paced-opens zero terms s = rw (paced-zero terms s) tt
paced-opens (suc most) terms s = rw (paced-suc most terms s) (by_rule (rule terms s) refl (λ t. paced-opens most terms t))
  where
    by_rule : (o : Option Sent) → rule terms s ≡ o → ((t : Standing) → Opens t.media (spending (paced most terms t))) → Opens s.media (spending (then_on o (λ r. paced most terms (after terms s r))))
    by_rule None e more = tt
    by_rule (Some r) e more = by_kind r.kind r.size (rule-is terms s r e).allowed (more (after terms s r))
      where
        by_kind : (k : Kind) (size : ℕ) → IsAllowed s (due s.clusters terms.moment) k
            → Opens (fold step s.media (deed_by k size)) (spending (paced most terms (after terms s r)))
            → Opens s.media (deed_by k size ++ spending (paced most terms (after terms s r)))
        by_kind kind.Audio size a h = h
        by_kind kind.Media size a h = (a, h)
        by_kind (kind.Probe id) size a h = h
        by_kind kind.Padding size a h = h
