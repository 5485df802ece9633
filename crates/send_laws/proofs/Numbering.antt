-- The records of all that was sent are numbered one after the other.
use Rattle.std.proofs.Common.{◌≡◌, ℕ, suc, zero, ◌+◌, Option, None, Some, List, [], ◌∷◌, ◌++◌, length, refl, sym, ◌∙◌, ap, subst, append_assoc, arith, length-append}
use Rattle.gcc_units.specs.declared.limits.TheConstants.{MOST_SENDS}
use Rattle.gcc_units.proofs.Walk.{flat_map-push}
use Rattle.pacer.specs.declared.sent.Sent.{Sent}
use Rattle.pacer.specs.declared.course.Terms.{Terms}
use Rattle.pacer.specs.Pace.{Standing, rule, after, then_on, paced}
use Rattle.pacer.proofs.Pace.{paced-zero, paced-suc}
use Rattle.pacer.proofs.Ruled.{rule-is}
use Rattle.send_core.specs.declared.call.Entry.{Entry}
use Rattle.send_core.specs.History.{later, now, sent, sent_by}
use Rattle.send_core.specs.Reply.{terms_at, standing_at, IsAnswered}
use Rattle.send_laws.specs.Order.{AreNumbered}
use Rattle.send_laws.proofs.Sending.{answered-sends}

paced-numbered : (most : ℕ) (terms : Terms) (s : Standing) (n : ℕ) → s.number ≡ n → AreNumbered n (paced most terms s)
paced-numbered zero terms s n is = rw (paced-zero terms s) tt
paced-numbered (suc most) terms s n is =
    rw (paced-suc most terms s) (by_rule (rule terms s) refl (λ r. paced-numbered most terms (after terms s r) (n + 1) (ap (λ k. k + 1) is)))
  where
    by_rule : (o : Option Sent) → rule terms s ≡ o → ((r : Sent) → AreNumbered (n + 1) (paced most terms (after terms s r)))
        → AreNumbered n (then_on o (λ r. paced most terms (after terms s r)))
    by_rule None e more = tt
    by_rule (Some r) e more = ((rule-is terms s r e).number ∙ is, more r)

AreNumbered-append : (n : ℕ) (xs ys : List Sent) → AreNumbered n xs → AreNumbered (n + length xs) ys → AreNumbered n (xs ++ ys)
AreNumbered-append n [] ys first second = let e : n + 0 ≡ n = omega arith in subst (λ k. AreNumbered k ys) e second
AreNumbered-append n (x ∷ xs) ys first second =
    let e : n + suc (length xs) ≡ n + 1 + length xs = omega arith in
    (first.0, AreNumbered-append (n + 1) xs ys first.1 (subst (λ k. AreNumbered k ys) e second))

rest-numbered : (before rest : List Entry) → IsAnswered (before ++ rest) → AreNumbered (length (sent before)) (sent rest)
rest-numbered before [] legal = tt
rest-numbered before (e ∷ rest) legal =
    let m : ℕ = later (now before) e.call in
    AreNumbered-append (length (sent before)) (sent_by e.reply) (sent rest)
    (answered-sends (AreNumbered (length (sent before))) before rest e legal tt (paced-numbered MOST_SENDS (terms_at before m) (standing_at before m) (length (sent before)) refl))
    (subst (λ k. AreNumbered k (sent rest))
    (ap length (flat_map-push (λ (x : Entry). sent_by x.reply) before e) ∙ length-append (sent before) (sent_by e.reply))
    (rest-numbered (before ++ e ∷ []) rest (subst IsAnswered (sym (append_assoc before (e ∷ []) rest)) legal)))

pub all-numbered : (history : List Entry) → IsAnswered history → AreNumbered 0 (sent history)
all-numbered history legal = rest-numbered [] history legal
