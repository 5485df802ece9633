-- The first moment at which a pace would send something.
use Rattle.std.proofs.Common.{◌≡◌, ℕ, ◌<◌, ◌≤◌, ◌||◌, min, Bool, true, false, cond, nat_le, Option, Some, None, IfSome, IfNone, IsSome, is_some, List, refl, sym, ◌∙◌, ap, subst, arith}
use Rattle.std.proofs.lemmas.Bool.Decides.{nat_tests}
use Rattle.gcc_units.specs.declared.limits.TheConstants.{GREATEST_MOMENT}
use Rattle.pace_queues.specs.declared.ticket.Ticket.{Ticket}
use Rattle.pace_queues.specs.Waiting.{next}
use Rattle.probe_clusters.specs.declared.cluster.Cluster.{Cluster}
use Rattle.probe_clusters.specs.Clusters.{due}
use Rattle.probe_clusters.specs.Moments.{IsFirstFrom}
use Rattle.pacer.specs.declared.sent.Sent.{Sent}
use Rattle.pacer.specs.Pace.{Standing, or_else, audio_rule, probe_rule, media_rule, padding_rule, rule_for}
use Rattle.pacer.specs.State.{State, advanced, terms, standing}
use Rattle.pacer.specs.Next.{first_at, is_free, is_open, sooner}

-- ---- which rule applies

is_some-else : (a b : Option Sent) → is_some (or_else a b) ≡ (is_some a || is_some b)
is_some-else None b = refl
is_some-else (Some r) b = refl

is_some-if : (b : Bool) (r : Sent) → is_some (cond b (Some r) None) ≡ b
is_some-if true r = refl
is_some-if false r = refl

is_some-probe : (s : Standing) (id : Option ℕ) (o : Option Ticket) → is_some (probe_rule s id o) ≡ is_some id
is_some-probe s None o = refl
is_some-probe s (Some id) o = refl

or-false : (b : Bool) → (b || false) ≡ b
or-false true = refl
or-false false = refl

four : (a b c d : Option Sent) → is_some (or_else a (or_else b (or_else c d))) ≡ (is_some a || (is_some b || (is_some c || is_some d)))
four a b c d =
    is_some-else a (or_else b (or_else c d))
    ∙ ap (λ (x : Bool). is_some a || x) (is_some-else b (or_else c d) ∙ ap (λ (x : Bool). is_some b || x) (is_some-else c d))

-- something is sent where one of the rules applies
pub sends-is : (s : State) (cs : List Cluster) (number t : ℕ) → is_some (first_at s cs number t) ≡ (is_free s (next s.waiting) || (is_some (due cs t) || is_open s (next s.waiting) t))
sends-is s cs number t = by_next (next s.waiting)
  where
    by_next : (o : Option Ticket) → is_some (rule_for (terms (advanced s t)) (standing (advanced s t) cs number) (due cs t) o) ≡ (is_free s o || (is_some (due cs t) || is_open s o t))
    by_next None =
        four None (probe_rule (standing (advanced s t) cs number) (due cs t) None) None (padding_rule (standing (advanced s t) cs number) None)
        ∙ (ap (λ (x : Bool). x || is_some (padding_rule (standing (advanced s t) cs number) None)) (is_some-probe (standing (advanced s t) cs number) (due cs t) None)
        ∙ ap (λ (x : Bool). is_some (due cs t) || x) (is_some-if (is_open s None t) _))
    by_next (Some u) =
        four (audio_rule (terms (advanced s t)) (standing (advanced s t) cs number) (Some u)) (probe_rule (standing (advanced s t) cs number) (due cs t) (Some u)) (media_rule (standing (advanced s t) cs number) (Some u)) None
        ∙ (ap (λ (x : Bool). x || (is_some (probe_rule (standing (advanced s t) cs number) (due cs t) (Some u)) || (is_some (media_rule (standing (advanced s t) cs number) (Some u)) || false))) (is_some-if (is_free s (Some u)) _)
        ∙ ap (λ (x : Bool). is_free s (Some u) || x)
        (ap (λ (x : Bool). x || (is_some (media_rule (standing (advanced s t) cs number) (Some u)) || false)) (is_some-probe (standing (advanced s t) cs number) (due cs t) (Some u))
        ∙ ap (λ (x : Bool). is_some (due cs t) || x) (or-false (is_some (media_rule (standing (advanced s t) cs number) (Some u))) ∙ is_some-if (is_open s (Some u) t) _)))

-- ---- the sooner of two

or-none : (a b : Bool) → a ≡ false → b ≡ false → (a || b) ≡ false
or-none true b e f = e
or-none false b e f = f

or-left : (a b : Bool) → a ≡ true → (a || b) ≡ true
or-left true b e = refl
or-left false b e = absurd cc

or-right : (a b : Bool) → b ≡ true → (a || b) ≡ true
or-right true b e = refl
or-right false b e = e

pub first-sooner : (from : ℕ) (f g : ℕ → Bool) (a b : Option ℕ) → IsFirstFrom from f a → IsFirstFrom from g b → IsFirstFrom from (λ t. f t || g t) (sooner a b)
first-sooner from f g None None p q = record {
  from_on = tt;
  in_time = tt;
  passes = tt;
  none_before = λ t l b. or-none (f t) (g t) (p.none_before t l b) (q.none_before t l b);
}
first-sooner from f g None (Some n) p q =
    let in_time : n ≤ GREATEST_MOMENT = q.in_time in
    record {
      from_on = q.from_on;
      in_time = in_time;
      passes = or-right (f n) (g n) q.passes;
      none_before = λ t l b. or-none (f t) (g t) (p.none_before t l (omega arith)) (q.none_before t l b);
    }
first-sooner from f g (Some m) None p q =
    let in_time : m ≤ GREATEST_MOMENT = p.in_time in
    record {
      from_on = p.from_on;
      in_time = in_time;
      passes = or-left (f m) (g m) p.passes;
      none_before = λ t l b. or-none (f t) (g t) (p.none_before t l b) (q.none_before t l (omega arith));
    }
first-sooner from f g (Some m) (Some n) p q = by_order (nat_le m n) refl
  where
    first-one : (k : ℕ) → min m n ≡ k → IsFirstFrom from (λ t. f t || g t) (Some k) → IsFirstFrom from (λ t. f t || g t) (Some (min m n))
    first-one k e h = subst (λ j. IsFirstFrom from (λ t. f t || g t) (Some j)) (sym e) h

    by_order : (b : Bool) → nat_le m n ≡ b → IsFirstFrom from (λ t. f t || g t) (Some (min m n))
    by_order true e =
        let less : m ≤ n = grind (arith, nat_tests) in
        first-one m (omega (arith, less)) (record {
          from_on = p.from_on;
          in_time = p.in_time;
          passes = or-left (f m) (g m) p.passes;
          none_before = λ t l b. or-none (f t) (g t) (p.none_before t l b) (q.none_before t l (omega (arith, b, less)));
        })
    by_order false e =
        let less : n < m = grind (arith, nat_tests) in
        first-one n (omega (arith, less)) (record {
          from_on = q.from_on;
          in_time = q.in_time;
          passes = or-right (f n) (g n) q.passes;
          none_before = λ t l b. or-none (f t) (g t) (p.none_before t l (omega (arith, b, less))) (q.none_before t l b);
        })

-- ---- what a pacer's next send is

-- first where a cluster is due or the level is open, where no audio is free
pub first-send : (s : State) (cs : List Cluster) (a b o : Option ℕ) → is_free s (next s.waiting) ≡ false → IsFirstFrom s.moment (λ t. is_some (due cs t)) a → IsFirstFrom s.moment (is_open s (next s.waiting)) b
    → o ≡ sooner a b → IsFirstFrom s.moment (λ t. is_some (due cs t) || is_open s (next s.waiting) t) o
first-send s cs a b o held p q is =
    subst (λ (r : Option ℕ). IsFirstFrom s.moment (λ t. is_some (due cs t) || is_open s (next s.waiting) t) r) (sym is)
    (first-sooner s.moment (λ t. is_some (due cs t)) (is_open s (next s.waiting)) a b p q)

none-of : (o : Option Sent) → is_some o ≡ false → o ≡ None
none-of None e = refl
none-of (Some r) e = absurd cc

nothing-at : (s : State) (cs : List Cluster) (number t : ℕ) → is_free s (next s.waiting) ≡ false → (is_some (due cs t) || is_open s (next s.waiting) t) ≡ false → first_at s cs number t ≡ None
nothing-at s cs number t held none =
    none-of (first_at s cs number t) (sends-is s cs number t ∙ (ap (λ (x : Bool). x || (is_some (due cs t) || is_open s (next s.waiting) t)) held ∙ none))

pub none_before-is : (s : State) (cs : List Cluster) (o : Option ℕ) → is_free s (next s.waiting) ≡ false → IsFirstFrom s.moment (λ t. is_some (due cs t) || is_open s (next s.waiting) t) o
    → IfSome o (λ m. (number : ℕ) → (t : ℕ) → s.moment ≤ t → t < m → first_at s cs number t ≡ None)
none_before-is s cs None held h = tt
none_before-is s cs (Some m) held h = λ number t l b. nothing-at s cs number t held (h.none_before t l b)

pub none-is : (s : State) (cs : List Cluster) (o : Option ℕ) → is_free s (next s.waiting) ≡ false → IsFirstFrom s.moment (λ t. is_some (due cs t) || is_open s (next s.waiting) t) o
    → IfNone o ((number : ℕ) → (t : ℕ) → s.moment ≤ t → t ≤ GREATEST_MOMENT → first_at s cs number t ≡ None)
none-is s cs (Some m) held h = tt
none-is s cs None held h = λ number t l b. nothing-at s cs number t held (h.none_before t l b)

-- when a cluster is due first
pub first-due : (cs : List Cluster) (from : ℕ) (o : Option ℕ) → IfSome o (λ m. from ≤ m) → IfSome o (λ m. m ≤ GREATEST_MOMENT) → IfSome o (λ m. IsSome (due cs m))
    → IfSome o (λ m. (t : ℕ) → from ≤ t → t < m → due cs t ≡ None) → IfNone o ((t : ℕ) → from ≤ t → t ≤ GREATEST_MOMENT → due cs t ≡ None)
    → IsFirstFrom from (λ t. is_some (due cs t)) o
first-due cs from None from_on in_time is before never = record {
  from_on = tt;
  in_time = tt;
  passes = tt;
  none_before = λ t l b. ap (λ (k : Option ℕ). is_some k) (never t l b);
}
first-due cs from (Some m) from_on in_time is before never = record {
  from_on = from_on;
  in_time = in_time;
  passes = is;
  none_before = λ t l b. ap (λ (k : Option ℕ). is_some k) (before t l b);
}
