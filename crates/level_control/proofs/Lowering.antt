-- How far the rate is after a report: lowered by losses and cuts, and at a drain's end no more than it was before.
use Rattle.std.proofs.Common.{ℕ, ℤ, ◌≡◌, ◌≤◌, ◌+◌, ◌-◌, ◌*◌, ◌/◌, min, max, Bool, true, false, ◌&&◌, ◌||◌, nat_lt, nat_le, is_some, is_none, if◌then◌else◌, unwrap_or, Option, Some, None, List, [], ◌∷◌, All, fold, le_trans, refl, sym, ap, subst, ◌∙◌, arith}
use Rattle.std.proofs.lemmas.Option.{same_Some}
use Rattle.std.proofs.lemmas.List.Elements.{All-head, All-tail}
use Rattle.gcc_units.specs.declared.shared_types.Bounds.{Bounds}
use Rattle.gcc_units.specs.Rates.{bounded}
use Rattle.level_control.specs.declared.state.Report.{Report}
use Rattle.level_control.specs.declared.state.Probed.{Probed}
use Rattle.level_control.specs.declared.state.Drain.{Drain}
use Rattle.level_control.specs.declared.state.Shown.{Shown}
use Rattle.level_control.specs.declared.state.State.{State}
use Rattle.level_control.specs.declared.losses.Heard.{Heard}
use Rattle.level_control.specs.declared.report.Measured.{Measured}
use Rattle.level_control.specs.declared.probing.Taken.{Taken}
use Rattle.level_control.specs.Probing.{results_of}
use Rattle.level_control.specs.declared.losses.TheConstants.{HIGH_MILLE}
use Rattle.level_control.specs.declared.growth.TheConstants.{ALL_PERCENT}
use Rattle.level_control.specs.declared.drains.TheConstants.{FALL, DRAINED_PERCENT}
use Rattle.level_control.specs.Delays.{above}
use Rattle.level_control.specs.Drains.{asks_cut, cut, cut_rate, cut_percent, capacity_at, before_of, rate_before, begun, ended, followed, has_settled, left_most, stepped_by, increased, risen}
use Rattle.level_control.specs.Losses.{after_losses, gathered, judged, judged_by, renewed, lowered, counted, share, tries, is_due}
use Rattle.level_control.specs.Rule.{started, with_delay, shown, after_report}
use Rattle.level_control.specs.Steps.{after}
use Rattle.level_control.specs.Given.{Given, reported, setting, given_to, after_all}
use Rattle.level_control.specs.Promises.{HasMin, DrainsOfTheListEndLow, OwnDrainsEndLower}
use Rattle.level_control.proofs.Turns.{either, ended_drain, Keeps, heard_keeps}

-- ---- numbers

part-le : (p r c : ℕ) → p ≤ c → p * r / c ≤ r
part-le p r c h = grind arith

scaled-le : (r p c : ℕ) → p ≤ c → r * p / c ≤ r
scaled-le r p c h = grind arith

lowered-le : (rate received missing : ℕ) → lowered rate received missing ≤ rate
lowered-le rate received missing = scaled-le rate (2 * (received + missing) - missing) (2 * (received + missing)) (omega arith)

cut_rate-le : (rate most queue : ℕ) → cut_rate rate most queue ≤ min rate most
cut_rate-le rate most queue = part-le (cut_percent queue) (min rate most) ALL_PERCENT (omega arith)

pub bounded-le : (bounds : Bounds) (rate : ℕ) → bounded bounds rate ≤ max bounds.min rate
bounded-le bounds rate = omega arith

-- ---- losses

-- the rate stays, or it falls and is what the path carries
pub data Lowers (s t : State) : Type 0 where
  stays : t.rate ≡ s.rate → t.capacity ≡ s.capacity → Lowers s t
  falls : t.rate ≤ s.rate → t.capacity ≡ Some t.rate → Lowers s t

judged-lowers : (s : State) (x : Report) (part : ℕ) (lossy : Bool) → Lowers s (judged_by s x part lossy).state
judged-lowers s x part lossy =
    either (λ (h : Heard). Lowers s h.state) (lossy || nat_le part HIGH_MILLE) (record { state = record s { losses = renewed s.losses part lossy x }; lossy = lossy })
    (record {
      state =
          record s {
            rate = lowered s.rate s.losses.received s.losses.missing;
            capacity = Some (lowered s.rate s.losses.received s.losses.missing);
            losses = renewed s.losses part lossy x;
          };
      lossy = lossy;
    })
    (stays refl refl)
    (falls (lowered-le s.rate s.losses.received s.losses.missing) refl)

gathered-lowers : (s : State) (x : Report) (since : ℕ) → Lowers s (gathered s x since).state
gathered-lowers s x since =
    either (λ (h : Heard). Lowers s h.state) (is_due s.losses since x.now) (judged s x) (record { state = s; lossy = false })
    (judged-lowers s x (share s.losses.received s.losses.missing) (tries s.losses (share s.losses.received s.losses.missing) (is_none s.drain && is_some x.delay))) (stays refl refl)

pub heard-lowers : (s : State) (x : Report) → Lowers s (after_losses s x).state
heard-lowers s x =
    let since : ℕ = unwrap_or s.losses.since x.now in
    let t : State = record s { losses = counted s.losses x since } in
    let k : Lowers t (gathered t x since).state = gathered-lowers t x since in
    let over : Lowers s (gathered t x since).state = elim k as (λ _. Lowers s (gathered t x since).state) [ stays r c ↦ stays r c | falls r c ↦ falls r c ] in
    either (λ (h : Heard). Lowers s h.state) (nat_lt x.now since) (record { state = s; lossy = false }) (gathered t x since) (stays refl refl) over

-- ---- a drain

-- the rate and what the path carries are at most the rate before the first cut, or a least rate
record Low (most : ℕ) (d : Drain) (rate : ℕ) (capacity : Option ℕ) : Type 0 where
  known : ℕ
  is : capacity ≡ Some known
  carried : known ≤ max most d.before
  sent : rate ≤ max most d.before

abbrev InDrain : ℕ → Option Drain → ℕ → Option ℕ → Type 0
InDrain most drain rate capacity = (d : Drain) → drain ≡ Some d → Low most d rate capacity

heard-low : (most : ℕ) (d : Drain) (s t : State) → Lowers s t → Low most d s.rate s.capacity → Low most d t.rate t.capacity
heard-low most d s t lowers low =
    elim lowers as (λ _. Low most d t.rate t.capacity) [
      | stays rate capacity ↦ record { known = low.known; is = capacity ∙ low.is; carried = low.carried; sent = omega (arith, rate, low.sent) }
      | falls rate capacity ↦ record { known = t.rate; is = capacity; carried = le_trans rate low.sent; sent = le_trans rate low.sent }
    ]

no_some : (d : Drain) → None ≡ Some d → ⊥
no_some d h = cc

cut-low : (most : ℕ) (o : Option Drain) (t : State) (y : Shown) (e : Drain) → t.drain ≡ o → InDrain most o t.rate t.capacity → (cut t y).drain ≡ Some e → Low most e (cut t y).rate (cut t y).capacity
cut-low most None t y e none low is =
    let arrives : ℕ = unwrap_or y.acked t.rate in
    let same : begun y t.rate ≡ e = ap (λ (o : Option Drain). begun y (before_of o t.rate)) (sym none) ∙ same_Some (begun y (rate_before t)) e is in
    let before : t.rate ≡ e.before = ap (λ (z : Drain). z.before) same in
    record {
      known = min t.rate arrives;
      is = ap (λ (o : Option Drain). Some (capacity_at o t.capacity t.rate arrives)) none;
      carried = omega (arith, before);
      sent = omega (arith, before, cut_rate-le t.rate arrives y.above);
    }
cut-low most (Some d) t y e was low is =
    let arrives : ℕ = unwrap_or y.acked t.rate in
    let l : Low most d t.rate t.capacity = low d refl in
    let same : begun y d.before ≡ e = ap (λ (o : Option Drain). begun y (before_of o t.rate)) (sym was) ∙ same_Some (begun y (rate_before t)) e is in
    let before : d.before ≡ e.before = ap (λ (z : Drain). z.before) same in
    record {
      known = min l.known arrives;
      is = ap (λ (o : Option Drain). Some (capacity_at o t.capacity t.rate arrives)) was ∙ ap (λ (o : Option ℕ). Some (min (unwrap_or o arrives) arrives)) l.is;
      carried = omega (arith, before, l.carried);
      sent = omega (arith, before, l.sent, cut_rate-le t.rate arrives y.above);
    }

risen-low : (most before known : ℕ) (acked : Option ℕ) → known ≤ max most before → (next : ℕ) × (risen (Some known) acked before ≡ Some next) × (next ≤ max most before)
risen-low most before known None h = (known, refl, h)
risen-low most before known (Some received) h = (max known (min received before), refl, omega (arith, h))

followed_before : (d : Drain) (y : Shown) → (followed d y).before ≡ d.before
followed_before d y = either (λ (z : Drain). z.before ≡ d.before) (nat_lt y.now d.until) _ _ refl (either (λ (z : Drain). z.before ≡ d.before) (nat_le FALL (above d.mark y.delays.last)) _ _ refl refl)

drain-low : (most : ℕ) (d : Drain) (s : State) (y : Shown) → Low most d s.rate s.capacity → Low most (followed d y) s.rate (risen s.capacity y.acked (followed d y).before)
drain-low most d s y low =
    let f : Drain = followed d y in
    let before : f.before ≡ d.before = followed_before d y in
    let r : (next : ℕ) × (risen (Some low.known) y.acked f.before ≡ Some next) × (next ≤ max most f.before) = risen-low most f.before low.known y.acked (omega (arith, before, low.carried)) in
    record { known = r.0; is = ap (λ (o : Option ℕ). risen o y.acked f.before) low.is ∙ r.1; carried = r.2; sent = omega (arith, before, low.sent) }

ended-low : (most : ℕ) (d : Drain) (t : State) (y : Shown) → Low most d t.rate t.capacity → (ended t d y).rate ≤ max most d.before
ended-low most d t y low =
    let known : unwrap_or t.capacity 0 ≡ low.known = ap (λ (o : Option ℕ). unwrap_or o 0) low.is in
    either (λ (u : State). u.rate ≤ max most d.before) (left_most d y) _ _ (omega (arith, known, low.sent, low.carried)) (omega (arith, known, low.sent, low.carried))

none_some : (d : Drain) → Some d ≡ None → ⊥
none_some d h = cc

record LowAfter (most : ℕ) (before : ℕ) (t : State) : Type 0 where
  drain : InDrain most t.drain t.rate t.capacity
  ended : t.drain ≡ None → t.rate ≤ max most before

settled-low : (most : ℕ) (t : State) (f : Drain) (y : Shown) (asks late : Bool) → t.drain ≡ Some f → Low most f t.rate t.capacity
    → LowAfter most f.before (if asks then cut t y else (if late then ended t f y else t))
settled-low most t f y true late was low = record {
  drain = λ e is. cut-low most (Some f) t y e was (λ z iz. subst (λ (w : Drain). Low most w t.rate t.capacity) (same_Some f z iz) low) is;
  ended = λ none. absurd (none_some (begun y (rate_before t)) none);
}
settled-low most t f y false true was low = record { drain = λ e is. absurd (no_some e (sym (ended_drain t f y) ∙ is)); ended = λ none. ended-low most f t y low }
settled-low most t f y false false was low = record {
  drain = λ e is. subst (λ (w : Drain). Low most w t.rate t.capacity) (same_Some f e (sym was ∙ is)) low;
  ended = λ none. absurd (none_some f (sym was ∙ none));
}

record StepsLow (most : ℕ) (o : Option Drain) (t : State) : Type 0 where
  drain : InDrain most t.drain t.rate t.capacity
  ended : (d : Drain) → o ≡ Some d → t.drain ≡ None → t.rate ≤ max most d.before

stepped-low : (most : ℕ) (o : Option Drain) (s : State) (y : Shown) → s.drain ≡ o → InDrain most o s.rate s.capacity → StepsLow most o (stepped_by o s y)
stepped-low most None s y none low = record {
  drain =
      either (λ (t : State). InDrain most t.drain t.rate t.capacity) (asks_cut None y) (cut s y) (increased s y) (λ e is. cut-low most None s y e none low is) (λ e is. absurd (no_some e (sym none ∙ is)));
  ended = λ d is none. absurd (no_some d is);
}
stepped-low most (Some d) s y was low =
    let f : Drain = followed d y in
    let u : State = record s { capacity = risen s.capacity y.acked f.before; drain = Some f } in
    let after_it : LowAfter most f.before (stepped_by (Some d) s y) = settled-low most u f y (asks_cut (Some f) y) (has_settled f u.rate y) refl (drain-low most d s y (low d refl)) in
    record {
      drain = after_it.drain;
      ended = λ e is none.
          let same : f.before ≡ e.before = followed_before d y ∙ ap (λ (z : Drain). z.before) (same_Some d e is) in
          omega (arith, same, after_it.ended none);
    }

delay-low : (most : ℕ) (s : State) (lossy : Bool) (o : Option ℤ) (x : Report) → InDrain most s.drain s.rate s.capacity → StepsLow most s.drain (with_delay s lossy o x).state
delay-low most s lossy None x low = record { drain = low; ended = λ d is none. absurd (no_some d (sym none ∙ is)) }
delay-low most s lossy (Some delay) x low =
    let y : Shown = shown s lossy delay x in
    stepped-low most s.drain (record s { delays = Some y.delays; last = Some y.now }) y refl low

-- after losses and delay, before the bounds
heard-steps : (most : ℕ) (s : State) (x : Report) → InDrain most s.drain s.rate s.capacity → StepsLow most s.drain (with_delay (after_losses s x).state (after_losses s x).lossy x.delay x).state
heard-steps most s x low =
    let h : Heard = after_losses s x in
    let k : Keeps s h.state = heard_keeps s x in
    let heard : InDrain most h.state.drain h.state.rate h.state.capacity = λ d is. heard-low most d s h.state (heard-lowers s x) (low d (sym k.drain ∙ is)) in
    subst (λ (o : Option Drain). StepsLow most o (with_delay h.state h.lossy x.delay x).state) k.drain (delay-low most h.state h.lossy x.delay x heard)

results-stay : (t : State) (results : List Probed) (bounds : Bounds) (e : Drain) → t.drain ≡ Some e → (results_of t results bounds).rate ≡ t.rate
results-stay t results bounds e is = let yes : is_some t.drain ≡ true = ap (λ (o : Option Drain). is_some o) is in rw yes refl

pub results-none : (t : State) (bounds : Bounds) → (results_of t [] bounds).rate ≡ t.rate
results-none t bounds = either (λ (k : Taken). k.rate ≡ t.rate) (is_some t.drain) (record { rate = t.rate; next = None }) (record { rate = t.rate; next = None }) refl refl

given-low : (most : ℕ) (s : State) (g : Given) → HasMin most g → InDrain most s.drain s.rate s.capacity → InDrain most (given_to s g).drain (given_to s g).rate (given_to s g).capacity
given-low most s (reported x results waits bounds) least low e is =
    let m : Measured = after_report s x bounds in
    let steps : StepsLow most s.drain (with_delay (after_losses s x).state (after_losses s x).lossy x.delay x).state = heard-steps most s x low in
    let l : Low most e (with_delay (after_losses s x).state (after_losses s x).lossy x.delay x).state.rate m.state.capacity = steps.drain e is in
    let rate : (after s x results waits bounds).rate ≡ m.state.rate = results-stay m.state results bounds e is in
    record { known = l.known; is = l.is; carried = l.carried; sent = omega (arith, rate, l.sent, least, bounded-le bounds (with_delay (after_losses s x).state (after_losses s x).lossy x.delay x).state.rate) }
given-low most s (setting None bounds) least low e is =
    let l : Low most e s.rate s.capacity = low e is in
    record { known = l.known; is = l.is; carried = l.carried; sent = omega (arith, l.sent, least, bounded-le bounds s.rate) }
given-low most s (setting (Some rate) bounds) least low e is = absurd (no_some e is)

walk-low : (most : ℕ) (s : State) (given : List Given) → All (HasMin most) given → InDrain most s.drain s.rate s.capacity
    → InDrain most (fold given_to s given).drain (fold given_to s given).rate (fold given_to s given).capacity
walk-low most s [] mins low = low
walk-low most s (g ∷ given) mins low = walk-low most (given_to s g) given (All-tail (HasMin most) g given mins) (given-low most s g (All-head (HasMin most) g given mins) low)

pub drains-end-low : DrainsOfTheListEndLow
drains-end-low start most given x waits bounds d mins least was ends =
    let s : State = after_all start given in
    let low : InDrain most s.drain s.rate s.capacity = walk-low most (started start) given mins (λ e is. absurd (no_some e is)) in
    let steps : StepsLow most s.drain (with_delay (after_losses s x).state (after_losses s x).lossy x.delay x).state = heard-steps most s x low in
    let rate : (after s x [] waits bounds).rate ≡ (after_report s x bounds).state.rate = results-none (after_report s x bounds).state bounds in
    omega (arith, rate, steps.ended d was ends, least, bounded-le bounds (with_delay (after_losses s x).state (after_losses s x).lossy x.delay x).state.rate)

-- ---- where others hold no queue

abbrev Own : ℕ → State → Type 0
Own rate t = t.drain ≡ None → t.row ≡ 0 → t.rate ≤ max rate (DRAINED_PERCENT * unwrap_or t.capacity 0 / ALL_PERCENT)

ended-own : (t : State) (d : Drain) (y : Shown) → Own t.rate (ended t d y)
ended-own t d y = either (Own t.rate) (left_most d y) _ _ (λ none row. absurd (omega (arith, row))) (λ none row. omega arith)

settled-own : (t : State) (f : Drain) (y : Shown) (asks late : Bool) → t.drain ≡ Some f → Own t.rate (if asks then cut t y else (if late then ended t f y else t))
settled-own t f y true late was none row = absurd (none_some (begun y (rate_before t)) none)
settled-own t f y false true was none row = ended-own t f y none row
settled-own t f y false false was none row = absurd (none_some f (sym was ∙ none))

stepped-own : (o : Option Drain) (d : Drain) (s : State) (y : Shown) → o ≡ Some d → Own s.rate (stepped_by o s y)
stepped-own None d s y is = absurd (no_some d is)
stepped-own (Some d) e s y is =
    let f : Drain = followed d y in
    let u : State = record s { capacity = risen s.capacity y.acked f.before; drain = Some f } in
    settled-own u f y (asks_cut (Some f) y) (has_settled f u.rate y) refl

delay-own : (s : State) (d : Drain) (lossy : Bool) (o : Option ℤ) (x : Report) → s.drain ≡ Some d → Own s.rate (with_delay s lossy o x).state
delay-own s d lossy None x was none row = absurd (no_some d (sym none ∙ was))
delay-own s d lossy (Some delay) x was none row =
    let y : Shown = shown s lossy delay x in
    stepped-own s.drain d (record s { delays = Some y.delays; last = Some y.now }) y was none row

heard-rate : (s : State) (x : Report) → (after_losses s x).state.rate ≤ s.rate
heard-rate s x = elim (heard-lowers s x) as (λ _. (after_losses s x).state.rate ≤ s.rate) [ stays rate capacity ↦ omega (arith, rate) | falls rate capacity ↦ rate ]

pub own-drains-end-lower : OwnDrainsEndLower
own-drains-end-lower s x waits bounds d was none row =
    let h : Heard = after_losses s x in
    let k : Keeps s h.state = heard_keeps s x in
    let own : Own h.state.rate (with_delay h.state h.lossy x.delay x).state = delay-own h.state d h.lossy x.delay x (k.drain ∙ was) in
    let rate : (after s x [] waits bounds).rate ≡ (after_report s x bounds).state.rate = results-none (after_report s x bounds).state bounds in
    omega (arith, rate, own none row, heard-rate s x, bounded-le bounds (with_delay h.state h.lossy x.delay x).state.rate)
