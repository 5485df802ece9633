-- What leaves with a pace: each probe is for the cluster that is due.
use Rattle.std.proofs.Common.{◌≡◌, ℕ, zero, suc, ◌≤◌, Bool, true, false, cond, Option, None, Some, List, All, length, nat_lt, refl, sym, ◌∙◌, subst, arith}
use Rattle.gcc_units.specs.Listed.{Listed, bare}
use Rattle.gcc_units.specs.declared.limits.TheConstants.{GREATEST_MOMENT, MOST_SENDS}
use Rattle.probe_clusters.specs.declared.cluster.Cluster.{Cluster}
use Rattle.probe_clusters.specs.Clusters.{due}
use Rattle.probe_clusters.specs.Deeds.{clusters}
use Rattle.pacer.specs.declared.sent.Sent.{Sent}
use Rattle.pacer.specs.declared.sent.Kind.{Kind}
use Rattle.pacer.specs.declared.sent.Kind.TheVariants as kind
use Rattle.pacer.specs.declared.course.Terms.{Terms}
use Rattle.pacer.specs.Course.{HasRoom, IsSmallRecord}
use Rattle.pacer.specs.Pace.{Standing, rule, after, then_on, paced}
use Rattle.pacer.proofs.Pace.{paced-zero, paced-suc}
use Rattle.pacer.proofs.Ruled.{probe-due}
use Rattle.send_core.specs.declared.call.Call.TheVariants as call_kind
use Rattle.send_core.specs.declared.call.Cause.TheVariants as cause_kind
use Rattle.send_core.specs.declared.call.Entry.{Entry}
use Rattle.send_core.specs.declared.call.Reply.{Reply}
use Rattle.send_core.specs.declared.call.Reply.TheVariants as reply_kind
use Rattle.send_core.specs.Stands.{Laws, MayGrow}
use Rattle.send_core.proofs.LawsKept.{Adds, adds}
use Rattle.send_core.specs.History.{later, now, sent}
use Rattle.send_core.specs.Reports.{cluster_deeds}
use Rattle.send_core.specs.Reply.{reply, terms_at, standing_at}
use Rattle.steered_sender.specs.declared.steering.Steering.{Steering}
use Rattle.steered_sender.specs.Following.{IsForDue, AreForDue}
use Rattle.steered_sender.specs.Steps.{Steers}
use Rattle.steered_sender.proofs.Pushing.{IsQuiet, quiet-refused}

for-due : (terms : Terms) (s : Standing) (r : Sent) → rule terms s ≡ Some r → (k : Kind) → r.kind ≡ k → IsForDue (due s.clusters terms.moment) k
for-due terms s r e kind.Audio is = tt
for-due terms s r e kind.Media is = tt
for-due terms s r e (kind.Probe id) is = probe-due terms s r id e is
for-due terms s r e kind.Padding is = tt

pub paced-due : (most : ℕ) (terms : Terms) (s : Standing) → AreForDue terms.moment s.clusters (paced most terms s)
paced-due zero terms s = subst (AreForDue terms.moment s.clusters) (sym (paced-zero terms s)) tt
paced-due (suc most) terms s =
    subst (AreForDue terms.moment s.clusters) (sym (paced-suc most terms s)) (by_rule (rule terms s) refl (λ t. paced-due most terms t))
  where
    by_rule : (o : Option Sent) → rule terms s ≡ o → ((t : Standing) → AreForDue terms.moment t.clusters (paced most terms t))
        → AreForDue terms.moment s.clusters (then_on o (λ r. paced most terms (after terms s r)))
    by_rule None e rest = tt
    by_rule (Some r) e rest = (for-due terms s r e r.kind refl, rest (after terms s r))

pub record IsPaced (h : List Entry) (at moment : ℕ) (records : Listed Sent) : Type 0 where
  pub when : moment ≡ later (now h) (call_kind.Pace at)
  pub due : AreForDue moment (clusters (cluster_deeds h)) records.items

-- the reply to a pace says when, and each of its probes is for the cluster that is due
pub is-paced : (h : List Entry) (at moment : ℕ) (records : Listed Sent) → reply_kind.Paced moment records ≡ reply h (call_kind.Pace at) → IsPaced h at moment records
is-paced h at moment records is = by_time (nat_lt GREATEST_MOMENT at) is
  where
    when : ℕ
    when = later (now h) (call_kind.Pace at)

    by_time : (b : Bool) → reply_kind.Paced moment records
        ≡ cond b (reply_kind.Refused (now h) cause_kind.MomentTooLarge) (reply_kind.Paced when (bare (paced MOST_SENDS (terms_at h when) (standing_at h when)))) → IsPaced h at moment records
    by_time true is = absurd cc
    by_time false is =
        let one : moment ≡ when = cc in
        let all : records ≡ bare (paced MOST_SENDS (terms_at h when) (standing_at h when)) = cc in
        record {
          when = one;
          due = subst (λ n. AreForDue n (clusters (cluster_deeds h)) records.items) (sym one)
              (subst (λ (l : Listed Sent). AreForDue when (clusters (cluster_deeds h)) l.items) (sym all) (paced-due MOST_SENDS (terms_at h when) (standing_at h when)));
        }

-- ---- it may be followed

pub record MayFollow (cs : List Cluster) (moment : ℕ) (records : List Sent) : Type 0 where
  pub due : AreForDue moment cs records
  pub small : All IsSmallRecord records
  pub room : HasRoom (length records) cs

pub may-follow : (h : List Entry) (at moment : ℕ) (records : Listed Sent) (s : Steering) → Steers s h → Laws h → MayGrow h
    → reply_kind.Paced moment records ≡ reply h (call_kind.Pace at) → MayFollow s.clusters.items moment records.items
may-follow h at moment records s steers laws grows is =
    let a : Adds h (call_kind.Pace at) (reply_kind.Paced moment records) = adds h (call_kind.Pace at) (reply_kind.Paced moment records) laws is in
    let few : length records.items ≤ MOST_SENDS = a.few in
    record {
      due = subst (λ (cs : List Cluster). AreForDue moment cs records.items) (sym steers.clusters.are) (is-paced h at moment records is).due;
      small = a.small_sends;
      room = record {
        sends = length (sent h);
        reached = record {
          deeds = cluster_deeds h;
          stands = steers.clusters;
          within = record { few_sends = laws.within.few_sends; few_credits = omega (arith, laws.within.few_credits, laws.few_credits, grows.few_sent); sizes = laws.within.sizes };
        };
        room = omega (arith, few, grows.few_sent);
      };
    }

-- a pace that is refused moves nothing but time
pub pace-refused : (h : List Entry) (at : ℕ) (given : Reply) → given ≡ reply h (call_kind.Pace at) → ((moment : ℕ) (records : Listed Sent) → given ≡ reply_kind.Paced moment records → ⊥)
    → IsQuiet (call_kind.Pace at) given
pace-refused h at given is never = by_time (nat_lt GREATEST_MOMENT at) is
  where
    when : ℕ
    when = later (now h) (call_kind.Pace at)

    by_time : (b : Bool) → given ≡ cond b (reply_kind.Refused (now h) cause_kind.MomentTooLarge) (reply_kind.Paced when (bare (paced MOST_SENDS (terms_at h when) (standing_at h when)))) → IsQuiet (call_kind.Pace at) given
    by_time true is = subst (IsQuiet (call_kind.Pace at)) (sym is) (quiet-refused (call_kind.Pace at) (now h) cause_kind.MomentTooLarge)
    by_time false is = absurd (never when (bare (paced MOST_SENDS (terms_at h when) (standing_at h when))) is)

pub may-follow-given : (h : List Entry) (at : ℕ) (given : Reply) (moment : ℕ) (records : Listed Sent) (s : Steering) → Steers s h → Laws h → MayGrow h
    → given ≡ reply_kind.Paced moment records → given ≡ reply h (call_kind.Pace at) → MayFollow s.clusters.items moment records.items
may-follow-given h at given moment records s steers laws grows is answered = may-follow h at moment records s steers laws grows (sym is ∙ answered)
