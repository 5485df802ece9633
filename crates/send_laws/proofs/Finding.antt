-- The packets of one probe cluster and its rate, found entry by entry.
use Rattle.std.proofs.Common.{◌≡◌, ℕ, ◌+◌, ◌-◌, ◌*◌, ◌^◌, ◌≤◌, ◌||◌, Bool, true, false, cond, Option, None, Some, unwrap_or, List, [], ◌∷◌, ◌++◌, length, take, sum, slice_get, slice_index, refl, sym, ◌∙◌, ap, subst, append_assoc, arith}
use Rattle.std.proofs.lemmas.List.{append-nil}
use Rattle.std.proofs.lemmas.List.Folds.{list_any-append}
use Rattle.std.proofs.lemmas.Option.{get_or_from_slice_get}
use Rattle.gcc_units.proofs.Walk.{flat_map-push}
use Rattle.gcc_units.specs.declared.limits.TheConstants.{MOST_SENDS}
use Rattle.probe_clusters.specs.Deeds.{Deed, rates, sizes, moments}
use Rattle.pacer.specs.declared.sent.Sent.{Sent}
use Rattle.pacer.specs.declared.sent.Kind.{Kind}
use Rattle.pacer.specs.declared.sent.Kind.TheVariants as kind
use Rattle.pacer.specs.Course.{probe_as, probe_by, probes_of}
use Rattle.send_core.specs.declared.call.Entry.{Entry}
use Rattle.send_core.specs.History.{sent_by}
use Rattle.send_core.specs.Settings.{starts_by, started, start_plans, probe_plans}
use Rattle.send_core.specs.Reports.{deeds_by, cluster_deeds}
use Rattle.send_core.specs.Reply.{IsAnswered}
use Rattle.send_laws.specs.declared.probes.Sends.{Sends}
use Rattle.send_laws.specs.declared.plans.Planned.{Planned}
use Rattle.send_laws.specs.Probes.{planned_rate, probe_sizes, probe_moments, before_last, last_of, time_over}
use Rattle.send_laws.specs.ProbeSends.{sends_in, is_for, AreSends, plans_by, ArePlanned}
use Rattle.send_laws.proofs.Spanning.{take-next}
use Rattle.send_laws.proofs.Summing.{few-at}
use Rattle.send_laws.proofs.ClusterDeeds.{rates-by, sizes-by, moments-by}
use Rattle.send_laws.proofs.Rising.{probes-rise}
use Rattle.send_laws.proofs.Probing.{before_last-push, last_of-push, sum-push, first-push, sizes-append, moments-append, rates-append, as-many, cluster_deeds-push, probes-planned, probes-bounded}

-- ---- one packet

-- a packet of the cluster
record IsOne (id moment size : ℕ) (ds : List Deed) : Type 0 where
  one_size : sizes id ds ≡ size ∷ []
  one_moment : moments id ds ≡ moment ∷ []

is-one : (id moment : ℕ) (k : Kind) (size : ℕ) → is_for id k ≡ true → IsOne id moment size (probe_as moment k size)
is-one id moment kind.Audio size e = absurd cc
is-one id moment kind.Media size e = absurd cc
is-one id moment (kind.Probe k) size e = record { one_size = rw e refl; one_moment = rw e refl }
is-one id moment kind.Padding size e = absurd cc

pub sends-more : (id moment : ℕ) (ds : List Deed) (r : Sent) (s t : Sends) → is_for id r.kind ≡ true → AreSends id ds s
    → t.bytes ≡ s.bytes + r.size → t.before_last ≡ s.bytes → t.first ≡ Some (unwrap_or s.first moment) → t.last ≡ moment → AreSends id (ds ++ probe_by moment r) t
sends-more id moment ds r s t e h bytes before first last =
    let one : IsOne id moment r.size (probe_by moment r) = is-one id moment r.kind r.size e in
    let xs : sizes id (ds ++ probe_by moment r) ≡ sizes id ds ++ r.size ∷ [] = sizes-append id ds (probe_by moment r) ∙ ap (λ l. sizes id ds ++ l) one.one_size in
    let ms : moments id (ds ++ probe_by moment r) ≡ moments id ds ++ moment ∷ [] = moments-append id ds (probe_by moment r) ∙ ap (λ l. moments id ds ++ l) one.one_moment in
    record {
      all = bytes ∙ (ap (λ n. n + r.size) h.all ∙ (sym (sum-push (sizes id ds) r.size) ∙ ap sum (sym xs)));
      before = before ∙ (h.all ∙ (sym (before_last-push (sizes id ds) r.size) ∙ ap before_last (sym xs)));
      begins = first ∙ (first-push (moments id ds) moment s.first h.begins ∙ ap (λ l. slice_get l 0) (sym ms));
      ends = last ∙ (sym (last_of-push (moments id ds) moment) ∙ ap last_of (sym ms));
    }

-- ---- one pace

-- what was found of the first packets
pub record FindsSends (id moment : ℕ) (packets : List Sent) (first now : Sends) (k : ℕ) : Type 0 where
  pub finds : (ds : List Deed) → AreSends id ds first → AreSends id (ds ++ probes_of moment (take k packets)) now
  pub few : now.bytes ≤ first.bytes + 2 ^ 32 * k

pub finds-none : (id moment : ℕ) (packets : List Sent) (s : Sends) → FindsSends id moment packets s s 0
finds-none id moment packets s = record { finds = λ ds h. subst (λ es. AreSends id es s) (sym (append-nil ds)) h; few = omega arith }

pub finds-more : (id moment : ℕ) (packets : List Sent) (first now next : Sends) (k : ℕ) (r : Sent) → slice_get packets k ≡ Some r
    → FindsSends id moment packets first now k → ((ds : List Deed) → AreSends id ds now → AreSends id (ds ++ probe_by moment r) next)
    → next.bytes ≤ now.bytes + 2 ^ 32 → FindsSends id moment packets first next (k + 1)
finds-more id moment packets first now next k r is so_far adds little =
    let all : probes_of moment (take (k + 1) packets) ≡ probes_of moment (take k packets) ++ probe_by moment r =
    ap (probes_of moment) (take-next packets k r is) ∙ flat_map-push (probe_by moment) (take k packets) r in
    record {
      finds = λ ds h. subst (λ es. AreSends id es next) (append_assoc ds (probes_of moment (take k packets)) (probe_by moment r) ∙ ap (λ es. ds ++ es) (sym all))
          (adds (ds ++ probes_of moment (take k packets)) (so_far.finds ds h));
      few = omega (arith, so_far.few, little);
    }

-- ---- the sends before entry k

pub record HasSends (id : ℕ) (h : List Entry) (k : ℕ) (s : Sends) : Type 0 where
  pub sends : AreSends id (cluster_deeds (take k h)) s
  pub few : s.bytes ≤ 2 ^ 32 * (MOST_SENDS * k)

pub sends-none : (id : ℕ) (h : List Entry) (s : Sends) → s.bytes ≡ 0 → s.before_last ≡ 0 → s.first ≡ None → s.last ≡ 0 → HasSends id h 0 s
sends-none id h s bytes before first last = record { sends = record { all = bytes; before = before; begins = first; ends = last }; few = omega arith }

deeds-next : (h : List Entry) (k : ℕ) (e : Entry) → slice_get h k ≡ Some e
    → cluster_deeds (take (k + 1) h) ≡ cluster_deeds (take k h) ++ deeds_by (started (take k h)) (cluster_deeds (take k h)) e.call e.reply
deeds-next h k e is = ap cluster_deeds (take-next h k e is) ∙ cluster_deeds-push (take k h) e

pub sends-next : (id : ℕ) (h : List Entry) (k : ℕ) (s t : Sends) (e : Entry) → slice_get h k ≡ Some e → IsAnswered h → HasSends id h k s
    → ((ds : List Deed) → AreSends id ds s → AreSends id (ds ++ sends_in e.reply) t) → t.bytes ≤ s.bytes + 2 ^ 32 * length (sent_by e.reply) → HasSends id h (k + 1) t
sends-next id h k s t e is legal so_far adds little =
    let ds : List Deed = cluster_deeds (take k h) in
    let es : List Deed = deeds_by (started (take k h)) (cluster_deeds (take k h)) e.call e.reply in
    let next : AreSends id (cluster_deeds (take k h) ++ sends_in e.reply) t = adds (cluster_deeds (take k h)) so_far.sends in
    let xs : sizes id (cluster_deeds (take k h) ++ sends_in e.reply) ≡ sizes id (cluster_deeds (take (k + 1) h)) =
    sizes-append id ds (sends_in e.reply) ∙ (ap (λ l. sizes id ds ++ l) (sym (sizes-by id (started (take k h)) ds e.call e.reply))
    ∙ (sym (sizes-append id ds es) ∙ ap (sizes id) (sym (deeds-next h k e is)))) in
    let ms : moments id (cluster_deeds (take k h) ++ sends_in e.reply) ≡ moments id (cluster_deeds (take (k + 1) h)) =
    moments-append id ds (sends_in e.reply) ∙ (ap (λ l. moments id ds ++ l) (sym (moments-by id (started (take k h)) ds e.call e.reply))
    ∙ (sym (moments-append id ds es) ∙ ap (moments id) (sym (deeds-next h k e is)))) in
    record {
      sends = record {
        all = next.all ∙ ap sum xs;
        before = next.before ∙ ap before_last xs;
        begins = next.begins ∙ ap (λ l. slice_get l 0) ms;
        ends = next.ends ∙ ap last_of ms;
      };
      few = omega (arith, so_far.few, little, few-at h k e is legal);
    }

-- ---- the plans before entry k

pub record HasPlans (id : ℕ) (h : List Entry) (k : ℕ) (p : Planned) : Type 0 where
  pub began : p.started ≡ started (take k h)
  pub planned : ArePlanned id (rates (cluster_deeds (take k h))) p
  pub few : p.count ≤ 3 * k

or-nil : (a b : Bool) → (a || (b || false)) ≡ (a || b)
or-nil true b = refl
or-nil false true = refl
or-nil false false = refl

pub plans-next : (id : ℕ) (h : List Entry) (k : ℕ) (p q : Planned) (e : Entry) → slice_get h k ≡ Some e → HasPlans id h k p
    → ((rs : List ℕ) → ArePlanned id rs p → ArePlanned id (rs ++ plans_by p.started e.call e.reply) q)
    → q.started ≡ (p.started || starts_by e.call e.reply) → q.count ≤ p.count + 3 → HasPlans id h (k + 1) q
plans-next id h k p q e is so_far adds starts little =
    let ds : List Deed = cluster_deeds (take k h) in
    let now : started (take (k + 1) h) ≡ (started (take k h) || starts_by e.call e.reply) =
    ap started (take-next h k e is)
    ∙ (list_any-append (λ (x : Entry). starts_by x.call x.reply) (take k h) (e ∷ []) ∙ or-nil (started (take k h)) (starts_by e.call e.reply)) in
    let rs : rates (cluster_deeds (take (k + 1) h)) ≡ rates (cluster_deeds (take k h)) ++ plans_by p.started e.call e.reply =
    ap rates (deeds-next h k e is)
    ∙ (rates-append (cluster_deeds (take k h)) (deeds_by (started (take k h)) (cluster_deeds (take k h)) e.call e.reply)
    ∙ ap (λ l. rates (cluster_deeds (take k h)) ++ l)
    (rates-by (started (take k h)) (cluster_deeds (take k h)) e.call e.reply ∙ ap (λ b. plans_by b e.call e.reply) (sym so_far.began))) in
    record {
      began = starts ∙ (ap (λ b. b || starts_by e.call e.reply) so_far.began ∙ sym now);
      planned = subst (λ l. ArePlanned id l q) (sym rs) (adds (rates (cluster_deeds (take k h))) so_far.planned);
      few = omega (arith, so_far.few, little);
    }

-- a change that plans what no start came before
pub planned-change : (id : ℕ) (rs : List ℕ) (b : Bool) (first start probe : Option ℕ) (p q : Planned) → b ≡ false → first ≡ start
    → ArePlanned id ((rs ++ start_plans first) ++ probe_plans probe) p → q.count ≡ p.count → q.rate ≡ p.rate
    → ArePlanned id (rs ++ (cond b [] (start_plans start) ++ probe_plans probe)) q
planned-change id rs true first start probe p q none same h count rate = absurd cc
planned-change id rs false first start probe p q none same h count rate =
    let all : (rs ++ start_plans first) ++ probe_plans probe ≡ rs ++ (start_plans start ++ probe_plans probe) =
    append_assoc rs (start_plans first) (probe_plans probe) ∙ ap (λ o. rs ++ (start_plans o ++ probe_plans probe)) same in
    let now : ArePlanned id (rs ++ (start_plans start ++ probe_plans probe)) p = subst (λ l. ArePlanned id l p) all h in
    record { many = count ∙ now.many; found = rate ∙ now.found }

-- ---- what a walk over a journal finds

pub none-sent : (id : ℕ) (walked h : List Entry) (s : Sends) → walked ≡ h → AreSends id (cluster_deeds walked) s → s.first ≡ None → probe_sizes id h ≡ []
none-sent id walked h s same found none =
    subst (λ es. probe_sizes id es ≡ []) same (empty (probe_sizes id walked) (probe_moments id walked) (as-many id (cluster_deeds walked)) (sym none ∙ found.begins))
  where
    empty : (xs ms : List ℕ) → length xs ≡ length ms → None ≡ slice_get ms 0 → xs ≡ []
    empty [] ms many is = refl
    empty (x ∷ xs) [] many is = absurd (omega (arith, many))
    empty (x ∷ xs) (m ∷ ms) many is = absurd cc

pub some-sent : (id : ℕ) (walked h : List Entry) (s : Sends) (first : ℕ) → walked ≡ h → AreSends id (cluster_deeds walked) s → s.first ≡ Some first
    → probe_sizes id h ≡ [] → ⊥
some-sent id walked h s first same found some none =
    empty (probe_sizes id walked) (probe_moments id walked) (as-many id (cluster_deeds walked)) (sym some ∙ found.begins) (subst (λ es. probe_sizes id es ≡ []) (sym same) none)
  where
    empty : (xs ms : List ℕ) → length xs ≡ length ms → Some first ≡ slice_get ms 0 → xs ≡ [] → ⊥
    empty [] [] many is none = cc
    empty [] (m ∷ ms) many is none = omega (arith, many)
    empty (x ∷ xs) ms many is none = cc

pub was-planned : (id : ℕ) (h : List Entry) (s : Sends) (first : ℕ) → IsAnswered h → AreSends id (cluster_deeds h) s → s.first ≡ Some first → planned_rate id h ≡ None → ⊥
was-planned id h s first legal found some none = some-sent id h h s first refl found some (probes-planned h id legal none)

pub time-is : (id : ℕ) (walked h : List Entry) (s : Sends) (first time : ℕ) → walked ≡ h → AreSends id (cluster_deeds walked) s → s.first ≡ Some first → time ≡ s.last - first
    → time ≡ time_over (probe_moments id h)
time-is id walked h s first time same found some is =
    is
    ∙ (ap (λ n. n - first) found.ends
    ∙ (ap (λ n. last_of (probe_moments id walked) - n) (sym (get_or_from_slice_get (probe_moments id walked) 0 first 0 (sym found.begins ∙ some)))
    ∙ ap (λ es. time_over (probe_moments id es)) same))

pub first-before : (id : ℕ) (walked h : List Entry) (s : Sends) (first : ℕ) → walked ≡ h → IsAnswered h → AreSends id (cluster_deeds walked) s → s.first ≡ Some first → first ≤ s.last
first-before id walked h s first same legal found some =
    let begins : slice_index (probe_moments id h) 0 ≡ first =
    ap (λ es. slice_index (probe_moments id es) 0) (sym same) ∙ get_or_from_slice_get (probe_moments id walked) 0 first 0 (sym found.begins ∙ some) in
    let ends : last_of (probe_moments id h) ≡ s.last = ap (λ es. last_of (probe_moments id es)) (sym same) ∙ sym found.ends in
    omega (arith, probes-rise h id legal, begins, ends)

pub span-within : (id : ℕ) (walked h : List Entry) (s : Sends) (first rate time : ℕ) → walked ≡ h → IsAnswered h → AreSends id (cluster_deeds walked) s → s.first ≡ Some first
    → planned_rate id walked ≡ Some rate → time ≡ s.last - first → 8000000 * s.before_last ≤ rate * time
span-within id walked h s first rate time same legal found some planned is =
    subst (λ n. 8000000 * n ≤ rate * time) (sym (found.before ∙ ap (λ es. before_last (probe_sizes id es)) same))
    (subst (λ n. 8000000 * before_last (probe_sizes id h) ≤ rate * n) (sym (time-is id walked h s first time same found some is))
    (probes-bounded h id rate legal (ap (planned_rate id) (sym same) ∙ planned)))
