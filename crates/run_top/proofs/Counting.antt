-- How many calls there are, actor by actor.
use Rattle.std.proofs.Common.{◌≡◌, ℕ, zero, suc, ◌+◌, ◌<◌, ◌≤◌, Bool, true, false, eqb, cond, eq-eqb, ne_eqb, List, [], ◌∷◌, length, length-append, refl, sym, ap, subst, inl, inr, arith}
use native.Mathlib.Decide.{ℕ_discrete}
use Rattle.std.proofs.lemmas.Bool.{cases_lt}
use Rattle.turn_lock.specs.Rule.{by}
use Rattle.shared_sender.specs.Served.{Answered}
use Rattle.call_trace.specs.declared.trace.Action.{Action}
use Rattle.call_trace.specs.declared.trace.Action.TheVariants.{Ask, Look}
use Rattle.call_trace.specs.declared.trace.Line.{Line}
use Rattle.call_trace.specs.Merge.{asked, call_in, calls_of}

-- f of all numbers below n, added up
abbrev pub sum_to : ℕ → (ℕ → ℕ) → ℕ
sum_to zero f = 0
sum_to (suc n) f = sum_to n f + f n

all_zero : (n : ℕ) → sum_to n (λ a. 0) ≡ 0
all_zero zero = refl
all_zero (suc n) = let r = all_zero n in omega (arith, r)

pub sum_le : (n : ℕ) (f g : ℕ → ℕ) → ((a : ℕ) → a < n → f a ≤ g a) → sum_to n f ≤ sum_to n g
sum_le zero f g le = omega arith
sum_le (suc n) f g le =
    let r = sum_le n f g (λ a below. le a (omega arith)) in
    let l = le n (omega arith) in omega (arith, r, l)

-- one of them is less
pub sum_lt : (n : ℕ) (f g : ℕ → ℕ) (b : ℕ) → ((a : ℕ) → a < n → f a ≤ g a) → b < n → f b < g b → sum_to n f < sum_to n g
sum_lt zero f g b le below less = absurd (omega arith)
sum_lt (suc n) f g b le below less =
    elim (ℕ_discrete b n) [
      | yes p ↦ (let r = sum_le n f g (λ a under. le a (omega arith)) in let l : f n < g n = subst (λ m. f m < g m) p less in omega (arith, r, l))
      | no p ↦ (let r = sum_lt n f g b (λ a under. le a (omega arith)) (omega arith) less in let l = le n (omega arith) in omega (arith, r, l))
    ]

sum_more : (n : ℕ) (f g h : ℕ → ℕ) → ((a : ℕ) → f a ≡ g a + h a) → sum_to n f ≡ sum_to n g + sum_to n h
sum_more zero f g h is = omega arith
sum_more (suc n) f g h is = let r = sum_more n f g h is in let l = is n in omega (arith, r, l)

abbrev hits : ℕ → ℕ → ℕ
hits c a = cond (eqb c a) 1 0

missed : (n c : ℕ) → n ≤ c → sum_to n (hits c) ≡ 0
missed zero c past = refl
missed (suc n) c past =
    let r = missed n c (omega arith) in
    let l : hits c n ≡ 0 = ap {B = ℕ} (λ b. cond b 1 0) (ne_eqb c n (λ p. absurd (omega arith))) in omega (arith, r, l)

hit_once : (n c : ℕ) → sum_to n (hits c) ≤ 1
hit_once zero c = omega arith
hit_once (suc n) c =
    elim (ℕ_discrete c n) [
      | yes p ↦ (let r = missed n c (omega (arith, p)) in let l : hits c n ≡ 1 = ap {B = ℕ} (λ b. cond b 1 0) (eq-eqb c n p) in omega (arith, r, l))
      | no p ↦ (let r = hit_once n c in let l : hits c n ≡ 0 = ap {B = ℕ} (λ b. cond b 1 0) (ne_eqb c n p) in omega (arith, r, l))
    ]

hit : (n c : ℕ) → c < n → sum_to n (hits c) ≡ 1
hit zero c below = absurd (omega arith)
hit (suc n) c below =
    elim (ℕ_discrete c n) [
      | yes p ↦ (let r = missed n c (omega (arith, p)) in let l : hits c n ≡ 1 = ap {B = ℕ} (λ b. cond b 1 0) (eq-eqb c n p) in omega (arith, r, l))
      | no p ↦ (let r = hit n c (omega arith) in let l : hits c n ≡ 0 = ap {B = ℕ} (λ b. cond b 1 0) (ne_eqb c n p) in omega (arith, r, l))
    ]

-- ---- entries

one_more : (b : Bool) (e : Answered) (es : List Answered) → length (cond b (e ∷ es) es) ≡ cond b 1 0 + length es
one_more true e es = omega arith
one_more false e es = omega arith

none_of_rest : (b : Bool) (e : Answered) (es : List Answered) → cond b (e ∷ es) es ≡ [] → (b ≡ false) × (es ≡ [])
none_of_rest true e es none = absurd cc
none_of_rest false e es none = (refl, none)

-- where no number from n on has an entry
pub entries_counted : (n : ℕ) (h : List Answered) → ((k : ℕ) → n ≤ k → by k h ≡ []) → length h ≡ sum_to n (λ a. length (by a h))
entries_counted n [] none = sym (all_zero n)
entries_counted n (e ∷ h) none =
    let rest = entries_counted n h (λ k past. (none_of_rest (eqb e.caller k) e (by k h) (none k past)).1) in
    let more = sum_more n (λ a. length (by a (e ∷ h))) (hits e.caller) (λ a. length (by a h)) (λ a. one_more (eqb e.caller a) e (by a h)) in
    let once : sum_to n (hits e.caller) ≡ 1 =
    elim (cases_lt e.caller n) [ inl p ↦ hit n e.caller p | inr p ↦ (let f = (none_of_rest (eqb e.caller e.caller) e (by e.caller h) (none e.caller p)).0 in let t = eq-eqb e.caller e.caller refl in absurd cc) ] in
    omega (arith, rest, more, once)

-- ---- lines

call_once : (b : Bool) (action : Action) → length (cond b (call_in action) []) ≤ cond b 1 0
call_once true (Ask call) = omega arith
call_once true Look = omega arith
call_once false action = omega arith

-- no line has more than one call
pub lines_counted : (n : ℕ) (lines : List Line) → sum_to n (λ a. length (calls_of a lines)) ≤ length lines
lines_counted n [] = omega (arith, all_zero n)
lines_counted n (line ∷ lines) =
    let rest = lines_counted n lines in
    let more = sum_more n (λ a. length (calls_of a (line ∷ lines))) (λ a. length (asked a line)) (λ a. length (calls_of a lines)) (λ a. length-append (asked a line) (calls_of a lines)) in
    let one = sum_le n (λ a. length (asked a line)) (hits line.actor) (λ a below. call_once (eqb line.actor a) line.action) in
    let once = hit_once n line.actor in omega (arith, rest, more, one, once)
