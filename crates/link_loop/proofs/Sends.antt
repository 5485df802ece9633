-- What a pace sends: packets with bytes, numbered one after the other.
use Rattle.std.proofs.Common.{◌≡◌, ℕ, suc, zero, ◌+◌, ◌≤◌, Bool, true, false, cond, nat_lt, Option, Some, None, IfSome, List, [], ◌∷◌, length, All, refl, ap, ◌∙◌, arith}
use Rattle.std.proofs.lemmas.List.Elements.{All-nil, All-cons, All-head, All-tail, All-append, All-filter}
use Rattle.gcc_units.specs.declared.limits.TheConstants.{GREATEST_MOMENT, GREATEST_PACKET, MOST_SENDS}
use Rattle.pace_queues.specs.declared.ticket.Ticket.{Ticket}
use Rattle.pace_queues.specs.Waiting.{next}
use Rattle.pace_queues.proofs.Waiting.{next-is_one}
use Rattle.pacer.specs.declared.sent.Sent.{Sent}
use Rattle.pacer.specs.declared.course.Terms.{Terms}
use Rattle.pacer.specs.Pace.{Standing, rule, after, then_on, paced}
use Rattle.pacer.proofs.Pace.{paced-zero, paced-suc}
use Rattle.pacer.proofs.Ruled.{size_in, rule-is}
use Rattle.send_core.specs.declared.call.Call.{Call}
use Rattle.send_core.specs.declared.call.Call.TheVariants as call
use Rattle.send_core.specs.declared.call.Reply.{Reply}
use Rattle.send_core.specs.declared.call.Reply.TheVariants as given
use Rattle.send_core.specs.declared.call.Cause.TheVariants as cause
use Rattle.send_core.specs.declared.call.Entry.{Entry}
use Rattle.send_core.specs.History.{AcceptedPacket, later, now, accepted, accepted_by, ticket_of, tickets, tickets_from, sent, sent_by, waiting}
use Rattle.send_core.specs.Reply.{reply, reply_in_time, terms_at, standing_at}
use Rattle.link_loop.specs.Kept.{IsFit, HasFitCall, IsSendable}

record IsSized (t : Ticket) : Type 0 where
  some : 1 ≤ t.size
  most : t.size ≤ GREATEST_PACKET

-- records with bytes, numbered from one number on
pub record IsAs (n : ℕ) (r : Sent) : Type 0 where
  pub number : r.number ≡ n
  pub sendable : IsSendable r

abbrev pub AreFrom : ℕ → List Sent → Type 0
AreFrom n [] = Unit {0}
AreFrom n (r ∷ rs) = IsAs n r × AreFrom (n + 1) rs

pub all-sendable : (n : ℕ) (rs : List Sent) → AreFrom n rs → All IsSendable rs
all-sendable n [] are = All-nil IsSendable
all-sendable n (r ∷ rs) are = All-cons IsSendable r rs are.0.sendable (all-sendable (n + 1) rs are.1)

-- ---- a pace

next-sendable : (o : Option Ticket) (r : Sent) → IfSome o IsSized → r.size ≡ size_in o → IsSendable r
next-sendable None r h is = record { some = omega (arith, is); most = omega (arith, is) }
next-sendable (Some t) r h is = record { some = omega (arith, is, h.some); most = omega (arith, is, h.most) }

paced-from : (most : ℕ) (terms : Terms) (s : Standing) (n : ℕ) → s.number ≡ n → All IsSized s.waiting → AreFrom n (paced most terms s)
paced-from zero terms s n is sized = rw (paced-zero terms s) tt
paced-from (suc most) terms s n is sized =
    rw (paced-suc most terms s)
    (by_rule (rule terms s) refl (λ r. paced-from most terms (after terms s r) (n + 1) (ap (λ k. k + 1) is) (All-filter _ IsSized s.waiting sized)))
  where
    by_rule : (o : Option Sent) → rule terms s ≡ o → ((r : Sent) → AreFrom (n + 1) (paced most terms (after terms s r)))
        → AreFrom n (then_on o (λ r. paced most terms (after terms s r)))
    by_rule None e more = tt
    by_rule (Some r) e more =
        let ruled = rule-is terms s r e in
        (record { number = ruled.number ∙ is; sendable = next-sendable (next s.waiting) r (next-is_one IsSized s.waiting sized) ruled.size }, more r)

-- ---- what waits

abbrev IsSizedPacket : AcceptedPacket → Type 0
IsSizedPacket p = (1 ≤ length p.wire) × (length p.wire ≤ GREATEST_PACKET)

one-sized : (c : Call) (r : Reply) → IsFit c → All IsSizedPacket (accepted_by c r)
one-sized (call.Enqueue at class wire) (given.Accepted moment index) fit = All-cons IsSizedPacket _ [] fit (All-nil IsSizedPacket)
one-sized (call.Enqueue at class wire) (given.Paced moment records) fit = All-nil IsSizedPacket
one-sized (call.Enqueue at class wire) (given.Credited moment judged signal m acked rates shares) fit = All-nil IsSizedPacket
one-sized (call.Enqueue at class wire) (given.Configured moment rates shares) fit = All-nil IsSizedPacket
one-sized (call.Enqueue at class wire) (given.Refused moment why) fit = All-nil IsSizedPacket
one-sized (call.Pace at) r fit = All-nil IsSizedPacket
one-sized (call.Report at bytes) r fit = All-nil IsSizedPacket
one-sized (call.Configure at change) r fit = All-nil IsSizedPacket

accepted-sized : (h : List Entry) → All HasFitCall h → All IsSizedPacket (accepted h)
accepted-sized [] fit = All-nil IsSizedPacket
accepted-sized (e ∷ h) fit = All-append IsSizedPacket (accepted_by e.call e.reply) (accepted h) (one-sized e.call e.reply (All-head HasFitCall e h fit)) (accepted-sized h (All-tail HasFitCall e h fit))

tickets-sized : (k : ℕ) (ps : List AcceptedPacket) → All IsSizedPacket ps → All IsSized (tickets_from k ps)
tickets-sized k [] sized = All-nil IsSized
tickets-sized k (p ∷ ps) sized =
    let here = All-head IsSizedPacket p ps sized in
    All-cons IsSized (ticket_of k p) (tickets_from (k + 1) ps) (record { some = here.0; most = here.1 }) (tickets-sized (k + 1) ps (All-tail IsSizedPacket p ps sized))

waiting-sized : (h : List Entry) → All HasFitCall h → All IsSized (waiting h)
waiting-sized h fit = All-filter _ IsSized (tickets h) (tickets-sized 0 (accepted h) (accepted-sized h fit))

-- ---- the reply to a pace

pub sends-from : (h : List Entry) (at : ℕ) → All HasFitCall h → AreFrom (length (sent h)) (sent_by (reply h (call.Pace at)))
sends-from h at fit = by_time (nat_lt GREATEST_MOMENT at)
  where
    by_time : (b : Bool) → AreFrom (length (sent h)) (sent_by (cond b (given.Refused (now h) cause.MomentTooLarge) (reply_in_time h (later (now h) (call.Pace at)) (call.Pace at))))
    by_time true = tt
    by_time false = paced-from MOST_SENDS (terms_at h (later (now h) (call.Pace at))) (standing_at h (later (now h) (call.Pace at))) (length (sent h)) refl (waiting-sized h fit)
