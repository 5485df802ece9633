-- Packets leave in their order, and none twice.
use Rattle.std.proofs.Common.{◌≡◌, ℕ, suc, zero, Bool, true, false, Option, None, Some, IfSome, List, [], ◌∷◌, ◌++◌, All, refl, sym, ◌∙◌, ap, subst, append_assoc}
use Rattle.std.proofs.lemmas.List.{append-nil}
use Rattle.std.proofs.lemmas.List.Elements.{All-nil, All-cons}
use Rattle.gcc_units.specs.declared.limits.TheConstants.{MOST_SENDS}
use Rattle.gcc_units.proofs.Walk.{flat_map-push}
use Rattle.pace_queues.specs.declared.ticket.Ticket.{Ticket}
use Rattle.pace_queues.specs.Waiting.{next}
use Rattle.pace_queues.proofs.Waiting.{next-is_one}
use Rattle.pacer.specs.declared.sent.Sent.{Sent}
use Rattle.pacer.specs.declared.course.Terms.{Terms}
use Rattle.pacer.specs.Pace.{Standing, names, unsent, index_of, rule, after, then_on, paced}
use Rattle.pacer.proofs.Pace.{paced-zero, paced-suc}
use Rattle.pacer.proofs.Records.{unsent-then}
use Rattle.pacer.proofs.Ruled.{rule-is}
use Rattle.send_core.specs.declared.call.Entry.{Entry}
use Rattle.send_core.specs.History.{later, now, tickets, sent, sent_by}
use Rattle.send_core.specs.Reply.{terms_at, standing_at, IsAnswered}
use Rattle.send_laws.specs.Order.{AreInOrder, IsNotAmong, AreFresh}
use Rattle.send_laws.proofs.Sending.{answered-sends}

paced-in_order : (most : ℕ) (terms : Terms) (s : Standing) (all : List Ticket) (so_far : List Sent)
    → s.waiting ≡ unsent so_far all → AreInOrder all so_far (paced most terms s)
paced-in_order zero terms s all so_far is = rw (paced-zero terms s) tt
paced-in_order (suc most) terms s all so_far is =
    rw (paced-suc most terms s)
    (by_rule (rule terms s) refl
    (λ r. paced-in_order most terms (after terms s r) all (so_far ++ r ∷ []) (ap (unsent (r ∷ [])) is ∙ sym (unsent-then so_far (r ∷ []) all))))
  where
    by_rule : (o : Option Sent) → rule terms s ≡ o → ((r : Sent) → AreInOrder all (so_far ++ r ∷ []) (paced most terms (after terms s r)))
        → AreInOrder all so_far (then_on o (λ r. paced most terms (after terms s r)))
    by_rule None e more = tt
    by_rule (Some r) e more = ((rule-is terms s r e).index ∙ ap (λ ts. index_of (next ts)) is, more r)

-- what one entry of a legal history sends
pub in-order : (before rest : List Entry) (e : Entry) → IsAnswered (before ++ e ∷ rest) → AreInOrder (tickets before) (sent before) (sent_by e.reply)
in-order before rest e legal =
    answered-sends (AreInOrder (tickets before) (sent before)) before rest e legal tt
    (paced-in_order MOST_SENDS (terms_at before (later (now before) e.call)) (standing_at before (later (now before) e.call)) (tickets before) (sent before) refl)

-- ---- none twice

abbrev IsUnnamed : List Sent → Ticket → Type 0
IsUnnamed records t = names t.index records ≡ false

unsent-unnamed : (records : List Sent) (ts : List Ticket) → All (IsUnnamed records) (unsent records ts)
unsent-unnamed records [] = All-nil (IsUnnamed records)
unsent-unnamed records (t ∷ ts) = by_name (names t.index records) refl (unsent-unnamed records ts)
  where
    by_name : (b : Bool) → names t.index records ≡ b → All (IsUnnamed records) (unsent records ts) → All (IsUnnamed records) (unsent records (t ∷ ts))
    by_name true e more = rw e more
    by_name false e more = rw e (All-cons (IsUnnamed records) t (unsent records ts) e more)

index-unnamed : (records : List Sent) (o : Option Ticket) → IfSome o (IsUnnamed records) → IsNotAmong records (index_of o)
index-unnamed records None h = tt
index-unnamed records (Some t) h = h

order-fresh : (ts : List Ticket) (so_far rs : List Sent) → AreInOrder ts so_far rs → AreFresh so_far rs
order-fresh ts so_far [] order = tt
order-fresh ts so_far (r ∷ rs) order = (
  subst (IsNotAmong so_far) (sym order.0)
      (index-unnamed so_far (next (unsent so_far ts)) (next-is_one (IsUnnamed so_far) (unsent so_far ts) (unsent-unnamed so_far ts))),
  order-fresh ts (so_far ++ r ∷ []) rs order.1,
)

AreFresh-append : (so_far xs ys : List Sent) → AreFresh so_far xs → AreFresh (so_far ++ xs) ys → AreFresh so_far (xs ++ ys)
AreFresh-append so_far [] ys first second = subst (λ zs. AreFresh zs ys) (append-nil so_far) second
AreFresh-append so_far (x ∷ xs) ys first second =
    (first.0, AreFresh-append (so_far ++ x ∷ []) xs ys first.1 (subst (λ zs. AreFresh zs ys) (sym (append_assoc so_far (x ∷ []) xs)) second))

rest-fresh : (before rest : List Entry) → IsAnswered (before ++ rest) → AreFresh (sent before) (sent rest)
rest-fresh before [] legal = tt
rest-fresh before (e ∷ rest) legal =
    AreFresh-append (sent before) (sent_by e.reply) (sent rest)
    (order-fresh (tickets before) (sent before) (sent_by e.reply) (in-order before rest e legal))
    (subst (λ rs. AreFresh rs (sent rest)) (flat_map-push (λ (x : Entry). sent_by x.reply) before e)
    (rest-fresh (before ++ e ∷ []) rest (subst IsAnswered (sym (append_assoc before (e ∷ []) rest)) legal)))

pub all-fresh : (history : List Entry) → IsAnswered history → AreFresh [] (sent history)
all-fresh history legal = rest-fresh [] history legal
