-- How much the rate grows at a report between drains.
use Rattle.std.proofs.Common.{ℕ, ℤ, ◌≡◌, ◌≤◌, ◌+◌, ◌-◌, ◌*◌, ◌/◌, max, Bool, true, false, nat_lt, nat_le, if◌then◌else◌, zero, suc, Option, Some, None, [], le_trans, mul-le-mul_left, mul-le-mul_right, ap, subst, ◌∙◌, arith}
use Rattle.fixed_math.specs.Root.{root}
use Rattle.level_control.specs.declared.state.Report.{Report}
use Rattle.level_control.specs.declared.state.Drain.{Drain}
use Rattle.level_control.specs.declared.state.Shown.{Shown}
use Rattle.level_control.specs.declared.state.State.{State}
use Rattle.level_control.specs.declared.losses.Heard.{Heard}
use Rattle.level_control.specs.declared.growth.TheConstants.{ALL_PERCENT, FAR_PERCENT, GROWTH_PERCENT, PERCENT_SECOND, GROWTH_ROOTS, SECOND, LIMIT_PERCENT}
use Rattle.level_control.specs.Growth.{is_far, grown, limited, elapsed}
use Rattle.level_control.specs.Drains.{asks_cut, cut, increased, stepped_by, begun, rate_before}
use Rattle.level_control.specs.Losses.{after_losses}
use Rattle.level_control.specs.Rule.{with_delay, shown, after_report}
use Rattle.level_control.specs.Steps.{after}
use Rattle.level_control.specs.Promises.{AllReportsGrowSlowly}
use Rattle.level_control.proofs.Turns.{either, Keeps, heard_keeps}
use Rattle.level_control.proofs.Lowering.{Lowers, stays, falls, heard-lowers, results-none, bounded-le}

-- ---- roots

root-step : (a : ℕ) → root a ≤ root (suc a)
unfolding root
root-step a = either (λ (n : ℕ). root a ≤ n) (nat_le ((root a + 1) * (root a + 1)) (suc a)) (root a + 1) (root a) (omega arith) (omega arith)

root-add : (a n : ℕ) → root a ≤ root (n + a)
root-add a zero = let e : a ≡ zero + a = omega arith in subst (λ (m : ℕ). root a ≤ root m) e (omega arith)
root-add a (suc n) = let e : suc (n + a) ≡ suc n + a = omega arith in le_trans (root-add a n) (subst (λ (m : ℕ). root (n + a) ≤ root m) e (root-step (n + a)))

root-le : (a b : ℕ) → a ≤ b → root a ≤ root b
root-le a b h = let e : b - a + a ≡ b = omega (arith, h) in subst (λ (m : ℕ). root a ≤ root m) e (root-add a (b - a))

near-le : (a b t : ℕ) → a ≤ b → a + GROWTH_ROOTS * root a * t / SECOND ≤ b + GROWTH_ROOTS * root b * t / SECOND
near-le a b t h =
    let more : GROWTH_ROOTS * root a * t ≤ GROWTH_ROOTS * root b * t = mul-le-mul_right t (mul-le-mul_left GROWTH_ROOTS (root-le a b h)) in
    omega (arith, h, more)

-- ---- one report

-- between drains a report leaves the rate, or lets it grow
record Grows (s t : State) (time : ℕ) (acked : Option ℕ) : Type 0 where
  rate : t.rate ≤ max s.rate (limited s.rate (grown s.rate (is_far s.rate s.capacity) time) acked)

no_some : (d : Drain) → Some d ≡ None → ⊥
no_some d h = cc

stepped-grows : (o : Option Drain) (s : State) (y : Shown) → o ≡ None → (stepped_by o s y).drain ≡ None → Grows s (stepped_by o s y) y.time y.acked
stepped-grows None s y none ends = by (asks_cut None y) ends
  where
    by : (b : Bool) → (if b then cut s y else increased s y).drain ≡ None → Grows s (if b then cut s y else increased s y) y.time y.acked
    by true e = absurd (no_some (begun y (rate_before s)) e)
    by false e = record { rate = omega arith }
stepped-grows (Some d) s y none ends = absurd (no_some d none)

delay-grows : (s : State) (lossy : Bool) (o : Option ℤ) (x : Report) → s.drain ≡ None → (with_delay s lossy o x).state.drain ≡ None → Grows s (with_delay s lossy o x).state (elapsed s.last x.now) x.acked
delay-grows s lossy None x none ends = record { rate = omega arith }
delay-grows s lossy (Some delay) x none ends =
    let y : Shown = shown s lossy delay x in
    let g : Grows (record s { delays = Some y.delays; last = Some y.now }) (with_delay s lossy (Some delay) x).state y.time y.acked =
    stepped-grows s.drain (record s { delays = Some y.delays; last = Some y.now }) y none ends in
    record { rate = g.rate }

limited-le : (rate next : ℕ) (acked : Option ℕ) → rate ≤ next → limited rate next acked ≤ next
limited-le rate next None h = omega arith
limited-le rate next (Some received) h = omega (arith, h)

abbrev far_growth : ℕ → ℕ → ℕ
far_growth rate time = GROWTH_PERCENT * rate * time / PERCENT_SECOND

abbrev near_growth : ℕ → ℕ → ℕ
near_growth rate time = GROWTH_ROOTS * root rate * time / SECOND

grows-far : (h t : State) (time : ℕ) (acked : Option ℕ) → is_far h.rate h.capacity ≡ true → Grows h t time acked → t.rate ≤ h.rate + far_growth h.rate time
grows-far h t time acked e grows =
    let r : t.rate ≤ max h.rate (limited h.rate (h.rate + far_growth h.rate time) acked) = subst (λ (b : Bool). t.rate ≤ max h.rate (limited h.rate (grown h.rate b time) acked)) e grows.rate in
    omega (arith, r, limited-le h.rate (h.rate + far_growth h.rate time) acked (omega arith))

grows-near : (h t : State) (time : ℕ) (acked : Option ℕ) → is_far h.rate h.capacity ≡ false → Grows h t time acked → t.rate ≤ h.rate + near_growth h.rate time
grows-near h t time acked e grows =
    let r : t.rate ≤ max h.rate (limited h.rate (h.rate + near_growth h.rate time) acked) = subst (λ (b : Bool). t.rate ≤ max h.rate (limited h.rate (grown h.rate b time) acked)) e grows.rate in
    omega (arith, r, limited-le h.rate (h.rate + near_growth h.rate time) acked (omega arith))

same-near : (rate : ℕ) → nat_lt (FAR_PERCENT * rate) (ALL_PERCENT * rate) ≡ false
same-near rate = grind arith

-- from a rate that losses may have lowered
near-by : (s h t : State) (time : ℕ) (acked : Option ℕ) → Lowers s h → Grows h t time acked → is_far s.rate s.capacity ≡ false → t.rate ≤ s.rate + near_growth s.rate time
near-by s h t time acked (stays rate capacity) grows e =
    let far : is_far h.rate h.capacity ≡ is_far s.rate s.capacity = ap (λ (n : ℕ). is_far n h.capacity) rate ∙ ap (is_far s.rate) capacity in
    subst (λ (n : ℕ). t.rate ≤ n + near_growth n time) rate (grows-near h t time acked (far ∙ e) grows)
near-by s h t time acked (falls rate capacity) grows e =
    let near : is_far h.rate h.capacity ≡ false = ap (is_far h.rate) capacity ∙ same-near h.rate in
    le_trans (grows-near h t time acked near grows) (near-le h.rate s.rate time rate)

far-by : (s h t : State) (time : ℕ) (acked : Option ℕ) → Lowers s h → Grows h t time acked → is_far s.rate s.capacity ≡ true → t.rate ≤ s.rate + max (far_growth s.rate time) (near_growth s.rate time)
far-by s h t time acked (stays rate capacity) grows e =
    let far : is_far h.rate h.capacity ≡ is_far s.rate s.capacity = ap (λ (n : ℕ). is_far n h.capacity) rate ∙ ap (is_far s.rate) capacity in
    let r : t.rate ≤ s.rate + far_growth s.rate time = subst (λ (n : ℕ). t.rate ≤ n + far_growth n time) rate (grows-far h t time acked (far ∙ e) grows) in
    omega (arith, r)
far-by s h t time acked (falls rate capacity) grows e =
    let near : is_far h.rate h.capacity ≡ false = ap (is_far h.rate) capacity ∙ same-near h.rate in
    let r : t.rate ≤ s.rate + near_growth s.rate time = le_trans (grows-near h t time acked near grows) (near-le h.rate s.rate time rate) in
    omega (arith, r)

heard-rate : (s h : State) → Lowers s h → h.rate ≤ s.rate
heard-rate s h (stays rate capacity) = omega (arith, rate)
heard-rate s h (falls rate capacity) = rate

limited-by : (s h t : State) (time received : ℕ) → h.rate ≤ s.rate → Grows h t time (Some received) → t.rate ≤ max s.rate (LIMIT_PERCENT * received / ALL_PERCENT)
limited-by s h t time received lower grows = omega (arith, lower, grows.rate)

pub all-grow-slowly : AllReportsGrowSlowly
all-grow-slowly s x waits bounds none ends =
    let h : Heard = after_losses s x in
    let k : Keeps s h.state = heard_keeps s x in
    let lowers : Lowers s h.state = heard-lowers s x in
    let t : State = (with_delay h.state h.lossy x.delay x).state in
    let time : ℕ = elapsed s.last x.now in
    let grows : Grows h.state t time x.acked = subst (λ (o : Option ℕ). Grows h.state t (elapsed o x.now) x.acked) k.last (delay-grows h.state h.lossy x.delay x (k.drain ∙ none) ends) in
    let rate : (after s x [] waits bounds).rate ≡ (after_report s x bounds).state.rate = results-none (after_report s x bounds).state bounds in
    record {
      near = λ e. omega (arith, rate, bounded-le bounds t.rate, near-by s h.state t time x.acked lowers grows e);
      far = λ e. omega (arith, rate, bounded-le bounds t.rate, far-by s h.state t time x.acked lowers grows e);
      limited = λ received e.
          let g : Grows h.state t time (Some received) = subst (λ (o : Option ℕ). Grows h.state t time o) e grows in
          omega (arith, rate, bounded-le bounds t.rate, limited-by s h.state t time received (heard-rate s h.state lowers) g);
    }
