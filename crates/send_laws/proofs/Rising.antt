-- The first packet of a cluster was sent no later than its last.
use Rattle.std.proofs.Common.{◌≡◌, ℕ, ◌≤◌, ◌==◌, Bool, true, false, cond, List, [], ◌∷◌, ◌++◌, All, slice_index, refl, sym, ◌∙◌, ap, subst, append_assoc, arith}
use Rattle.std.proofs.lemmas.List.{append-nil}
use Rattle.std.proofs.lemmas.List.Elements.{All-nil, All-cons, All-head, All-tail}
use Rattle.std.proofs.lemmas.List.Sums.{fold-append}
use Rattle.probe_clusters.specs.Deeds.{moments}
use Rattle.pacer.specs.declared.sent.Sent.{Sent}
use Rattle.pacer.specs.declared.sent.Kind.{Kind}
use Rattle.pacer.specs.declared.sent.Kind.TheVariants as kind
use Rattle.pacer.specs.Course.{probe_as, probes_of}
use Rattle.send_core.specs.declared.call.Reply.{Reply}
use Rattle.send_core.specs.declared.call.Reply.TheVariants.{Accepted, Paced, Credited, Configured, Refused}
use Rattle.send_core.specs.declared.call.Entry.{Entry}
use Rattle.send_core.specs.History.{later, now}
use Rattle.send_core.specs.Settings.{started}
use Rattle.send_core.specs.Reports.{deeds_by, cluster_deeds}
use Rattle.send_core.specs.Reply.{IsAnswered}
use Rattle.send_laws.specs.Moments.{moment_in}
use Rattle.send_laws.specs.Probes.{probe_moments, last_of}
use Rattle.send_laws.specs.ProbeSends.{sends_in}
use Rattle.send_laws.proofs.Sending.{answered-reply}
use Rattle.send_laws.proofs.Summing.{later-more, reply-moment}
use Rattle.send_laws.proofs.Probing.{last_of-push, moments-append, cluster_deeds-push}
use Rattle.send_laws.proofs.ClusterDeeds.{moments-by}

-- the first is no later than the last, and the last no later than now
record Rises (moment : ℕ) (ms : List ℕ) : Type 0 where
  order : slice_index ms 0 ≤ last_of ms
  past : last_of ms ≤ moment

rises-one : (before m : ℕ) (ms : List ℕ) → before ≤ m → Rises before ms → Rises m (ms ++ m ∷ [])
rises-one before m [] le h = record { order = omega arith; past = omega arith }
rises-one before m (x ∷ ms) le h =
    let last : last_of ((x ∷ ms) ++ m ∷ []) ≡ m = last_of-push (x ∷ ms) m in
    record { order = omega (arith, last, h.order, h.past); past = omega (arith, last) }

rises-more : (before m : ℕ) (ms more : List ℕ) → before ≤ m → All (λ k. k ≡ m) more → Rises before ms → Rises m (ms ++ more)
rises-more before m ms [] le all h = subst (Rises m) (sym (append-nil ms)) (record { order = h.order; past = omega (arith, h.past) })
rises-more before m ms (k ∷ more) le all h =
    let same : k ≡ m = All-head (λ k. k ≡ m) k more all in
    subst (Rises m) (append_assoc ms (k ∷ []) more)
    (rises-more m m (ms ++ k ∷ []) more (omega arith) (All-tail (λ k. k ≡ m) k more all)
    (subst (λ x. Rises m (ms ++ x ∷ [])) (sym same) (rises-one before m ms le h)))

-- what a reply sends is sent at its moment
probes-at : (id m : ℕ) (rs : List Sent) → All (λ k. k ≡ m) (moments id (probes_of m rs))
probes-at id m [] = All-nil (λ k. k ≡ m)
probes-at id m (r ∷ rs) = by_kind r.kind r.size (probes-at id m rs)
  where
    by_kind : (k : Kind) (size : ℕ) → All (λ k. k ≡ m) (moments id (probes_of m rs)) → All (λ k. k ≡ m) (moments id (probe_as m k size ++ probes_of m rs))
    by_kind kind.Audio size more = more
    by_kind kind.Media size more = more
    by_kind (kind.Probe k) size more = by_test (k == id)
      where
        by_test : (b : Bool) → All (λ k. k ≡ m) (cond b (m ∷ []) [] ++ moments id (probes_of m rs))
        by_test true = All-cons (λ k. k ≡ m) m (moments id (probes_of m rs)) refl more
        by_test false = more
    by_kind kind.Padding size more = more

sent-at : (id : ℕ) (r : Reply) → All (λ k. k ≡ moment_in r) (moments id (sends_in r))
sent-at id (Accepted moment index) = All-nil (λ k. k ≡ moment)
sent-at id (Paced moment records) = probes-at id moment records.items
sent-at id (Credited moment judged signal m acked rates shares) = All-nil (λ k. k ≡ moment)
sent-at id (Configured moment rates shares) = All-nil (λ k. k ≡ moment)
sent-at id (Refused moment cause) = All-nil (λ k. k ≡ moment)

rises-entry : (id : ℕ) (before rest : List Entry) (e : Entry) → IsAnswered (before ++ e ∷ rest) → Rises (now before) (probe_moments id before)
    → Rises (now (before ++ e ∷ [])) (probe_moments id (before ++ e ∷ []))
rises-entry id before rest e legal h =
    let next : now (before ++ e ∷ []) ≡ later (now before) e.call = fold-append (λ m (x : Entry). later m x.call) 0 before (e ∷ []) in
    let moment : moment_in e.reply ≡ later (now before) e.call = ap moment_in (answered-reply before rest e legal) ∙ reply-moment before e.call in
    let all : probe_moments id (before ++ e ∷ []) ≡ probe_moments id before ++ moments id (sends_in e.reply) =
    ap (moments id) (cluster_deeds-push before e)
    ∙ (moments-append id (cluster_deeds before) (deeds_by (started before) (cluster_deeds before) e.call e.reply)
    ∙ ap (λ ms. probe_moments id before ++ ms) (moments-by id (started before) (cluster_deeds before) e.call e.reply)) in
    subst (Rises (now (before ++ e ∷ []))) (sym all)
    (subst (λ m. Rises m (probe_moments id before ++ moments id (sends_in e.reply))) (sym next)
    (rises-more (now before) (later (now before) e.call) (probe_moments id before) (moments id (sends_in e.reply)) (later-more (now before) e.call)
    (subst (λ m. All (λ k. k ≡ m) (moments id (sends_in e.reply))) moment (sent-at id e.reply)) h))

rises-rest : (id : ℕ) (before rest : List Entry) → IsAnswered (before ++ rest) → Rises (now before) (probe_moments id before) → Rises (now (before ++ rest)) (probe_moments id (before ++ rest))
rises-rest id before [] legal h = subst (λ es. Rises (now es) (probe_moments id es)) (sym (append-nil before)) h
rises-rest id before (e ∷ rest) legal h =
    subst (λ es. Rises (now es) (probe_moments id es)) (append_assoc before (e ∷ []) rest)
    (rises-rest id (before ++ e ∷ []) rest (subst IsAnswered (sym (append_assoc before (e ∷ []) rest)) legal) (rises-entry id before rest e legal h))

pub probes-rise : (h : List Entry) (id : ℕ) → IsAnswered h → slice_index (probe_moments id h) 0 ≤ last_of (probe_moments id h)
probes-rise h id legal = (rises-rest id [] h legal (record { order = omega arith; past = omega arith })).order
