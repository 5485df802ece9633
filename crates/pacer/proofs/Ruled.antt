-- What is known of a send that a rule gives.
use Rattle.std.proofs.Common.{◌≡◌, ℕ, ℤ, pos, ◌<ℤ◌, ◌≤◌, ◌&&◌, Bool, true, false, not, Option, None, Some, IfSome, All, cond, int_lt, refl, subst, arith}
use Rattle.std.proofs.lemmas.Int.{ints}
use Rattle.std.proofs.lemmas.Bool.Decides.{nat_tests}
use Rattle.gcc_units.specs.declared.limits.TheConstants.{PADDING_PACKET, GREATEST_PACKET}
use Rattle.pace_queues.specs.declared.ticket.Ticket.{Ticket}
use Rattle.pace_queues.specs.Waiting.{next}
use Rattle.pace_queues.proofs.Waiting.{next-is_one}
use Rattle.probe_clusters.specs.Clusters.{due}
use Rattle.pacer.specs.declared.sent.Sent.{Sent}
use Rattle.pacer.specs.declared.sent.Kind.{Kind}
use Rattle.pacer.specs.declared.sent.Kind.TheVariants as kind
use Rattle.pacer.specs.declared.course.Terms.{Terms}
use Rattle.pacer.specs.Course.{IsSmall}
use Rattle.pacer.specs.Pace.{Standing, is_audio, record_of, padding_of, index_of, or_else, rule_for, rule}

abbrev pub size_in : Option Ticket → ℕ
size_in None = PADDING_PACKET
size_in (Some t) = t.size

-- its kind fits: media only while its level is above 0, a probe for the cluster that is due, padding only after media and while its level is above 0
abbrev pub IsAllowed : Standing → Option ℕ → Kind → Type 0
IsAllowed s id kind.Audio = Unit {0}
IsAllowed s id kind.Media = pos 0 <ℤ s.media
IsAllowed s id (kind.Probe k) = id ≡ Some k
IsAllowed s id kind.Padding = (pos 0 <ℤ s.padding) × (s.began ≡ true)

-- it is of the next packet, if one waits, and else padding, under the number that comes next
pub record IsRuledBy (s : Standing) (id : Option ℕ) (o : Option Ticket) (r : Sent) : Type 0 where
  pub number : r.number ≡ s.number
  pub index : r.index ≡ index_of o
  pub size : r.size ≡ size_in o
  pub allowed : IsAllowed s id r.kind

pub record IfGives (b : Bool) (given r : Sent) : Type 0 where
  pub test : b ≡ true
  pub is : given ≡ r

if-gives : (b : Bool) (given r : Sent) → cond b (Some given) None ≡ Some r → IfGives b given r
if-gives true given r e = record { test = refl; is = cc }
if-gives false given r e = absurd cc

above : (n : ℤ) → int_lt (pos 0) n ≡ true → pos 0 <ℤ n
above n e = grind (arith, ints, nat_tests)

both : (b c : Bool) → (b && c) ≡ true → (b ≡ true) × (c ≡ true)
both true true e = (refl, refl)
both true false e = absurd cc
both false c e = absurd cc

pub rule_for-is : (terms : Terms) (s : Standing) (id : Option ℕ) (o : Option Ticket) (r : Sent) → rule_for terms s id o ≡ Some r → IsRuledBy s id o r
rule_for-is terms s None None r e =
    let h : IfGives (int_lt (pos 0) s.padding && s.began) (padding_of s.number kind.Padding) r = if-gives _ _ _ e in
    let t : (int_lt (pos 0) s.padding ≡ true) × (s.began ≡ true) = both (int_lt (pos 0) s.padding) s.began h.test in
    subst (IsRuledBy s None None) h.is (record { number = refl; index = refl; size = refl; allowed = (above s.padding t.0, t.1) })
rule_for-is terms s (Some id) None r e =
    let h : padding_of s.number (kind.Probe id) ≡ r = cc in
    subst (IsRuledBy s (Some id) None) h (record { number = refl; index = refl; size = refl; allowed = refl })
rule_for-is terms s None (Some t) r e = by_test (is_audio t.class && not terms.paced_audio) e
  where
    by_test : (b : Bool) → or_else (cond b (Some (record_of s.number kind.Audio t)) None)
        (or_else None (or_else (cond (int_lt (pos 0) s.media) (Some (record_of s.number kind.Media t)) None) None)) ≡ Some r → IsRuledBy s None (Some t) r
    by_test true e =
        let h : record_of s.number kind.Audio t ≡ r = cc in
        subst (IsRuledBy s None (Some t)) h (record { number = refl; index = refl; size = refl; allowed = tt })
    by_test false e = by_media (int_lt (pos 0) s.media) refl e
      where
        by_media : (c : Bool) → int_lt (pos 0) s.media ≡ c → or_else (cond c (Some (record_of s.number kind.Media t)) None) None ≡ Some r → IsRuledBy s None (Some t) r
        by_media true is e =
            let h : record_of s.number kind.Media t ≡ r = cc in
            subst (IsRuledBy s None (Some t)) h (record { number = refl; index = refl; size = refl; allowed = above s.media is })
        by_media false is e = absurd cc
rule_for-is terms s (Some id) (Some t) r e = by_test (is_audio t.class && not terms.paced_audio) e
  where
    by_test : (b : Bool) → or_else (cond b (Some (record_of s.number kind.Audio t)) None) (Some (record_of s.number (kind.Probe id) t)) ≡ Some r → IsRuledBy s (Some id) (Some t) r
    by_test true e =
        let h : record_of s.number kind.Audio t ≡ r = cc in
        subst (IsRuledBy s (Some id) (Some t)) h (record { number = refl; index = refl; size = refl; allowed = tt })
    by_test false e =
        let h : record_of s.number (kind.Probe id) t ≡ r = cc in
        subst (IsRuledBy s (Some id) (Some t)) h (record { number = refl; index = refl; size = refl; allowed = refl })

-- what the first rule that applies gives
pub rule-is : (terms : Terms) (s : Standing) (r : Sent) → rule terms s ≡ Some r → IsRuledBy s (due s.clusters terms.moment) (next s.waiting) r
rule-is terms s r e = rule_for-is terms s (due s.clusters terms.moment) (next s.waiting) r e

-- no packet is too large
pub size-small : (s : Standing) (r : Sent) → All IsSmall s.waiting → r.size ≡ size_in (next s.waiting) → r.size ≤ GREATEST_PACKET
size-small s r small is = by_next (next s.waiting) (next-is_one IsSmall s.waiting small) is
  where
    by_next : (o : Option Ticket) → IfSome o IsSmall → r.size ≡ size_in o → r.size ≤ GREATEST_PACKET
    by_next None h is = omega arith
    by_next (Some t) h is = omega arith

-- a probe is for the cluster that is due
pub probe-due : (terms : Terms) (s : Standing) (r : Sent) (id : ℕ) → rule terms s ≡ Some r → r.kind ≡ kind.Probe id → due s.clusters terms.moment ≡ Some id
probe-due terms s r id e is = subst (IsAllowed s (due s.clusters terms.moment)) is (rule-is terms s r e).allowed
