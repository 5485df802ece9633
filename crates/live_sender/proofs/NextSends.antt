-- When a pace sends something, in the words of a history.
use Rattle.std.proofs.Common.{◌≡◌, ◌≢◌, ℕ, ◌<◌, ◌≤◌, max, Bool, true, false, nat_le, Option, None, Some, IfSome, IfNone, IsSome, List, [], length, le-ltb, lt-ltb, refl, sym, ◌∙◌, ap, subst, arith}
use Rattle.std.proofs.lemmas.Bool.Decides.{nat_tests}
use Rattle.gcc_units.specs.declared.limits.TheConstants.{GREATEST_MOMENT, MOST_SENDS}
use Rattle.sent_history.specs.Events.{packets}
use Rattle.pacer.specs.declared.sent.Sent.{Sent}
use Rattle.pacer.specs.declared.course.Terms.{Terms}
use Rattle.pacer.specs.Next.{first_at}
use Rattle.pacer.specs.State.{advanced, terms}
use Rattle.pacer.specs.Pace.{Standing, rule, after, then_on, paced}
use Rattle.pacer.proofs.Pace.{paced-suc}
use Rattle.send_core.specs.declared.call.Call.TheVariants as call_kind
use Rattle.send_core.specs.declared.call.Entry.{Entry}
use Rattle.send_core.specs.declared.parts.Parts.{Parts}
use Rattle.send_core.specs.History.{now, sent_by}
use Rattle.send_core.specs.Reply.{reply, terms_at, standing_at}
use Rattle.send_core.specs.Reports.{events}
use Rattle.send_core.specs.Stands as core
use Rattle.send_core.proofs.PaceMade.{terms-are, standing-is}
use Rattle.live_sender.specs.Live.{Live, StandsFor}

-- ---- a pace sends where its first rule gives something

paced-none : (terms : Terms) (s : Standing) → rule terms s ≡ None → paced MOST_SENDS terms s ≡ []
paced-none terms s e = paced-suc 63 terms s ∙ ap (λ (o : Option Sent). then_on o (λ r. paced 63 terms (after terms s r))) e

paced-some : (terms : Terms) (s : Standing) → IsSome (rule terms s) → paced MOST_SENDS terms s ≢ []
paced-some terms s some = λ e. by_rule (rule terms s) some (sym (paced-suc 63 terms s) ∙ e)
  where
    by_rule : (o : Option Sent) → IsSome o → then_on o (λ r. paced 63 terms (after terms s r)) ≡ [] → ⊥
    by_rule None h e = absurd cc
    by_rule (Some r) h e = absurd cc

-- ---- in the words of a history

-- what a pace in time sends
sent-at : (h : List Entry) (t : ℕ) → t ≤ GREATEST_MOMENT → sent_by (reply h (call_kind.Pace t)) ≡ paced MOST_SENDS (terms_at h (max (now h) t)) (standing_at h (max (now h) t))
sent-at h t early = rw (le-ltb GREATEST_MOMENT t early) refl

first-is : (h : List Entry) (p : Parts) (t : ℕ) → core.StandsFor p h → first_at p.pacer p.clusters.items (length (packets (events h))) t ≡ rule (terms_at h t) (standing_at h t)
first-is h p t s =
    ap (λ st. rule (terms (advanced p.pacer t)) st) (standing-is h p t t (length (packets (events h))) s refl refl) ∙ ap (λ x. rule x (standing_at h t)) (terms-are h p t t s refl)

nothing-sent : (h : List Entry) (p : Parts) (t m : ℕ) → core.StandsFor p h → t ≤ GREATEST_MOMENT → max (now h) t ≡ m
    → ((number : ℕ) → first_at p.pacer p.clusters.items number m ≡ None) → sent_by (reply h (call_kind.Pace t)) ≡ []
nothing-sent h p t m s early at none =
    sent-at h t early
    ∙ (ap (λ n. paced MOST_SENDS (terms_at h n) (standing_at h n)) at
    ∙ paced-none (terms_at h m) (standing_at h m) (sym (first-is h p m s) ∙ none (length (packets (events h)))))

something-sent : (h : List Entry) (p : Parts) (t : ℕ) → core.StandsFor p h → t ≤ GREATEST_MOMENT → now h ≤ t
    → ((number : ℕ) → IsSome (first_at p.pacer p.clusters.items number t)) → sent_by (reply h (call_kind.Pace t)) ≢ []
something-sent h p t s early late some = λ e.
    let same : max (now h) t ≡ t = omega (arith, late) in
    paced-some (terms_at h t) (standing_at h t) (subst (λ (o : Option Sent). IsSome o) (first-is h p t s) (some (length (packets (events h)))))
    (sym (ap (λ n. paced MOST_SENDS (terms_at h n) (standing_at h n)) same) ∙ (sym (sent-at h t early) ∙ e))

-- a pace that is too late sends nothing
late-sent : (h : List Entry) (t : ℕ) → GREATEST_MOMENT < t → sent_by (reply h (call_kind.Pace t)) ≡ []
late-sent h t late = rw (lt-ltb GREATEST_MOMENT t late) refl

-- ---- at the next send, and before it

module _ (live : Live) (p : Parts) (are : p ≡ live.parts) where
  stands : (h : List Entry) → StandsFor live h → core.StandsFor p h
  stands h s = subst (λ (q : Parts). core.StandsFor q h) (sym are) s.parts

  pub next-sends : (o : Option ℕ) → IfSome o (λ m. p.pacer.moment ≤ m) → IfSome o (λ m. m ≤ GREATEST_MOMENT)
      → IfSome o (λ m. (number : ℕ) → IsSome (first_at p.pacer p.clusters.items number m))
      → IfSome o (λ m. (h : List Entry) → StandsFor live h → sent_by (reply h (call_kind.Pace m)) ≢ [])
  next-sends None from_on in_time some = tt
  next-sends (Some m) from_on in_time some = λ h s.
      let clock : p.pacer.moment ≡ now h = (stands h s).clock in
      something-sent h p m (stands h s) in_time (omega (arith, clock, from_on)) some

  pub next-none_before : (o : Option ℕ) → IfSome o (λ m. m ≤ GREATEST_MOMENT)
      → IfSome o (λ m. (number : ℕ) → (t : ℕ) → p.pacer.moment ≤ t → t < m → first_at p.pacer p.clusters.items number t ≡ None)
      → IfSome o (λ m. (h : List Entry) → (t : ℕ) → StandsFor live h → now h ≤ t → t < m → sent_by (reply h (call_kind.Pace t)) ≡ [])
  next-none_before None in_time none = tt
  next-none_before (Some m) in_time none = λ h t s late before.
      let clock : p.pacer.moment ≡ now h = (stands h s).clock in
      let most : m ≤ GREATEST_MOMENT = in_time in
      nothing-sent h p t t (stands h s) (omega (arith, most, before)) (omega (arith, late)) (λ number. none number t (omega (arith, clock, late)) before)

  pub next-none : (o : Option ℕ) → IfNone o ((number : ℕ) → (t : ℕ) → p.pacer.moment ≤ t → t ≤ GREATEST_MOMENT → first_at p.pacer p.clusters.items number t ≡ None)
      → IfNone o ((h : List Entry) → (t : ℕ) → StandsFor live h → sent_by (reply h (call_kind.Pace t)) ≡ [])
  next-none (Some m) none = tt
  next-none None none = λ h t s. by_time h t s (nat_le t GREATEST_MOMENT) refl
    where
      by_time : (h : List Entry) (t : ℕ) → StandsFor live h → (b : Bool) → nat_le t GREATEST_MOMENT ≡ b → sent_by (reply h (call_kind.Pace t)) ≡ []
      by_time h t s true e =
          let clock : p.pacer.moment ≡ now h = (stands h s).clock in
          let early : t ≤ GREATEST_MOMENT = grind (arith, nat_tests) in
          let now_early : now h ≤ GREATEST_MOMENT = (stands h s).laws.in_time in
          nothing-sent h p t (max (now h) t) (stands h s) early refl (λ number. none number (max (now h) t) (omega (arith, clock)) (omega (arith, early, now_early)))
      by_time h t s false e = late-sent h t (grind (arith, nat_tests))
