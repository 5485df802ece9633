-- A drain ends at the first report that comes a wait after the last fall.
use Rattle.std.proofs.Common.{ℕ, ℤ, ◌≡◌, ◌≤◌, ◌<◌, ◌+◌, Bool, true≢false, true, false, nat_le, if◌then◌else◌, is_some, is_none, ◌&&◌, Option, Some, None, List, [], ◌∷◌, ◌++◌, append_assoc, refl, sym, ap, subst, ◌∙◌, arith}
use Rattle.gcc_units.specs.declared.shared_types.Bounds.{Bounds}
use Rattle.level_control.specs.declared.state.Report.{Report}
use Rattle.level_control.specs.declared.state.Probed.{Probed}
use Rattle.level_control.specs.declared.state.Delays.{Delays}
use Rattle.level_control.specs.declared.state.Drain.{Drain}
use Rattle.level_control.specs.declared.state.Shown.{Shown}
use Rattle.level_control.specs.declared.state.State.{State}
use Rattle.level_control.specs.declared.losses.Heard.{Heard}
use Rattle.level_control.specs.Delays.{above, delays_after}
use Rattle.level_control.specs.Drains.{asks_cut, begun, cut, ended, followed, has_settled, stepped_by, risen, rate_before, wait}
use Rattle.level_control.specs.Losses.{after_losses}
use Rattle.level_control.specs.Rule.{shown, with_delay, after_report}
use Rattle.level_control.specs.Steps.{after}
use Rattle.level_control.specs.Given.{Seen, seen, seen_by, after_all, AreInOrder}
use Rattle.level_control.specs.DrainLists.{last_fall, end_of, IsDrainOf, Drains, EndsBehindFalls, DrainsEndBehindFalls}
use Rattle.level_control.proofs.Turns.{Keeps, heard_keeps, followed_asks, ended_drain, idle_keeps, all_lasts}
use Rattle.level_control.proofs.Bases.{last-after}
use Rattle.level_control.proofs.Falls.{KeepsDrain, HasDrains, drains-lasts, drain-push}

none_some : (d : Drain) → Some d ≡ None → ⊥
none_some d h = cc

-- a drain that is over has settled, and one that goes on without a cut has not
record Settles (rate : ℕ) (d : Drain) (y : Shown) (next : Option Drain) (is_cut : Bool) : Type 0 where
  ended : next ≡ None → has_settled (followed d y) rate y ≡ true
  goes_on : is_cut ≡ false → is_some next ≡ true → has_settled (followed d y) rate y ≡ false

settled-settles : (d : Drain) (t : State) (y : Shown) (asks late : Bool) → has_settled (followed d y) t.rate y ≡ late → t.drain ≡ Some (followed d y)
    → Settles t.rate d y (if asks then cut t y else (if late then ended t (followed d y) y else t)).drain asks
settled-settles d t y true late test was = record { ended = λ none. absurd (none_some (begun y (rate_before t)) none); goes_on = λ no_cut some. absurd (true≢false no_cut) }
settled-settles d t y false true test was = record { ended = λ none. test; goes_on = λ no_cut some. absurd (true≢false (sym some ∙ ap (λ (o : Option Drain). is_some o) (ended_drain t (followed d y) y))) }
settled-settles d t y false false test was = record { ended = λ none. absurd (none_some (followed d y) (sym was ∙ none)); goes_on = λ no_cut some. test }

stepped-settles : (o : Option Drain) (d : Drain) (t : State) (y : Shown) → o ≡ Some d → Settles t.rate d y (stepped_by o t y).drain (asks_cut o y)
stepped-settles o d t y is =
    let f : Drain = followed d y in
    let u : State = record t { capacity = risen t.capacity y.acked f.before; drain = Some f } in
    let P : Bool → Type 0 = λ b. Settles t.rate d y (if b then cut u y else (if has_settled f u.rate y then ended u f y else u)).drain (asks_cut (Some d) y) in
    let step : Settles t.rate d y (stepped_by (Some d) t y).drain (asks_cut (Some d) y) =
    subst P (sym (followed_asks d y)) (settled-settles d u y (asks_cut (Some d) y) (has_settled f u.rate y) refl refl) in
    subst (λ (z : Option Drain). Settles t.rate d y (stepped_by z t y).drain (asks_cut z y)) (sym is) step

delay-settles : (s : State) (d : Drain) (lossy : Bool) (delay : ℤ) (x : Report) → s.drain ≡ Some d
    → Settles s.rate d (shown s lossy delay x) (with_delay s lossy (Some delay) x).state.drain (with_delay s lossy (Some delay) x).cut
delay-settles s d lossy delay x was =
    let y : Shown = shown s lossy delay x in
    stepped-settles s.drain d (record s { delays = Some y.delays; last = Some y.now }) y was

-- what a report that shows a delay does in a drain
report-settles : (s : State) (x : Report) (results : List Probed) (waits : Bool) (bounds : Bounds) (delay : ℤ) (d : Drain) → x.delay ≡ Some delay → s.drain ≡ Some d
    → Settles (after_losses s x).state.rate d (shown (after_losses s x).state (after_losses s x).lossy delay x) (after s x results waits bounds).drain (after_report s x bounds).cut
report-settles s x results waits bounds delay d e was =
    let h : Heard = after_losses s x in
    let k : Keeps s h.state = heard_keeps s x in
    let P : Option ℤ → Type 0 = λ o. Settles h.state.rate d (shown h.state h.lossy delay x) (with_delay h.state h.lossy o x).state.drain (with_delay h.state h.lossy o x).cut in
    subst P (sym e) (delay-settles h.state d h.lossy delay x (k.drain ∙ was))

is-over : (m n : ℕ) → nat_le m n ≡ true → m ≤ n
is-over m n test = grind arith

is-before : (m n : ℕ) → nat_le m n ≡ false → n < m
is-before m n test = grind arith

order-front : (all more : List Seen) → AreInOrder (all ++ more) → AreInOrder all
order-front all more order front rest one other e = order front (rest ++ more) one other (ap (λ (xs : List Seen). xs ++ more) e ∙ append_assoc front (one ∷ other ∷ rest) more)

ends-behind : (s : State) (all : List Seen) (x : Report) (results : List Probed) (waits : Bool) (bounds : Bounds) (d : Drain) (o : Option ℤ) → x.delay ≡ o → s.drain ≡ Some d
    → HasDrains s.delays s.drain all → AreInOrder (all ++ seen_by s x o bounds) → EndsBehindFalls s all x results waits bounds
ends-behind s all x results waits bounds d None e was has order =
    let kept : KeepsDrain all d = has (order-front all [] order) d was in
    let drains : Drains all d = kept.drains in
    record {
      earlier = drains.earlier;
      cut = drains.cut;
      more = drains.more;
      split = drains.split;
      is_cut = drains.is_cut;
      quiet = drains.quiet;
      ended = λ none. absurd (none_some d (sym was ∙ sym (idle_keeps s x results waits bounds e).1 ∙ none));
      goes_on = λ some no_cut on. absurd (true≢false (sym some ∙ ap (λ (z : Option ℤ). is_some z) e));
    }
ends-behind s all x results waits bounds d (Some delay) e was has order = record {
  earlier = drains.earlier;
  cut = drains.cut;
  more = drains.more;
  split = drains.split;
  is_cut = drains.is_cut;
  quiet = drains.quiet;
  ended = λ none. over (settles.ended none);
  goes_on = λ some no_cut on. before (settles.goes_on no_cut on);
}
  where
    h : Heard
    h = after_losses s x

    y : Shown
    y = shown h.state h.lossy delay x

    one : Seen
    one = record { delay = delay; height = above delay (delays_after s.delays delay x.now).base; now = x.now; rtt = x.rtt; cut = (after_report s x bounds).cut; ended = is_some s.drain && is_none (after_report s x bounds).state.drain }

    kept : KeepsDrain all d
    kept = has (order-front all (one ∷ []) order) d was

    drains : Drains all d
    drains = kept.drains

    delays : y.delays ≡ delays_after s.delays delay x.now
    delays = ap (λ (k : Option Delays). delays_after k delay x.now) (heard_keeps s x).delays

    is_drain : IsDrainOf drains.cut (drains.more ++ one ∷ []) (followed d y)
    is_drain =
        drain-push drains.cut drains.more d one y drains.drain refl (ap (λ (k : Delays). k.last) delays ∙ last-after s.delays delay x.now) (ap (λ (k : Delays). above delay k.base) delays)
        (kept.early_first one order)

    end_is : (followed d y).fell + wait h.state.rate ≡ end_of s x drains.cut (drains.more ++ seen_by s x x.delay bounds)
    end_is = ap (λ (n : ℕ). n + wait h.state.rate) (is_drain.fell ∙ ap (λ (z : Option ℤ). last_fall drains.cut (drains.more ++ seen_by s x z bounds)) (sym e))

    settles : Settles h.state.rate d y (after s x results waits bounds).drain (after_report s x bounds).cut
    settles = report-settles s x results waits bounds delay d e was

    over : has_settled (followed d y) h.state.rate y ≡ true → end_of s x drains.cut (drains.more ++ seen_by s x x.delay bounds) ≤ x.now
    over test = subst (λ (n : ℕ). n ≤ x.now) end_is (is-over ((followed d y).fell + wait h.state.rate) x.now test)

    before : has_settled (followed d y) h.state.rate y ≡ false → x.now < end_of s x drains.cut (drains.more ++ seen_by s x x.delay bounds)
    before test = subst (λ (n : ℕ). x.now < n) end_is (is-before ((followed d y).fell + wait h.state.rate) x.now test)

pub ends-behind-falls : DrainsEndBehindFalls
ends-behind-falls start given x results waits bounds d was order =
    ends-behind (after_all start given) (seen start given) x results waits bounds d x.delay refl was (all_lasts HasDrains drains-lasts start given) order
