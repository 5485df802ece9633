-- A drain, from the list of the reports from its last cut on.
use Rattle.std.specs.Prelude.{ℕ, ℤ, ◌≡◌, ◌≤◌, ◌<◌, ◌+◌, max, Bool, true, false, nat_lt, nat_le, if◌then◌else◌, List, [], ◌∷◌, ◌++◌, All, filter, fold, Some, None, is_some}
use Rattle.std.specs.Int.{int_max}
use Rattle.gcc_units.specs.declared.shared_types.Bounds.{Bounds}
use Rattle.level_control.specs.declared.state.Report.{Report}
use Rattle.level_control.specs.declared.state.Probed.{Probed}
use Rattle.level_control.specs.declared.state.State.{State}
use Rattle.level_control.specs.declared.state.Drain.{Drain}
use Rattle.level_control.specs.declared.drains.TheConstants.{FALL}
use Rattle.level_control.specs.Delays.{above}
use Rattle.level_control.specs.Drains.{wait}
use Rattle.level_control.specs.Losses.{after_losses}
use Rattle.level_control.specs.Rule.{after_report}
use Rattle.level_control.specs.Steps.{after}
use Rattle.level_control.specs.Given.{Given, Seen, seen, seen_by, after_all, AreInOrder}
use Rattle.level_control.specs.AsLists.{least, delays_of, IsNoTurn}

-- those that came while nothing of the cut could be seen, and those after them
abbrev pub early : ℕ → List Seen → List Seen
early until xs = filter (λ (x : Seen). nat_lt x.now until) xs

abbrev pub late : ℕ → List Seen → List Seen
late until xs = filter (λ (x : Seen). nat_le until x.now) xs

-- the falls: always the next whose delay lies far enough below that of the last one taken
abbrev pub falls : ℤ → List Seen → List Seen
falls mark [] = []
falls mark (x ∷ xs) = if nat_le FALL (above mark x.delay) then x ∷ falls x.delay xs else falls mark xs

-- the delay of the last of some reports, and its moment
abbrev pub last_delay : ℤ → List Seen → ℤ
last_delay mark xs = fold (λ (z : ℤ) (x : Seen). x.delay) mark xs

abbrev pub last_moment : ℕ → List Seen → ℕ
last_moment until xs = fold (λ (n : ℕ) (x : Seen). x.now) until xs

abbrev pub deepest_of : ℕ → List Seen → ℕ
deepest_of height xs = fold (λ (n : ℕ) (x : Seen). max n x.height) height xs

abbrev pub highest_of : ℤ → List Seen → ℤ
highest_of delay xs = fold (λ (z : ℤ) (x : Seen). int_max z x.delay) delay xs

-- what falls are measured from first: the highest delay since the cut
abbrev pub first_mark : Seen → List Seen → ℤ
first_mark cut more = highest_of cut.delay (early (cut.now + cut.rtt) more)

abbrev pub falls_of : Seen → List Seen → List Seen
falls_of cut more = falls (first_mark cut more) (late (cut.now + cut.rtt) more)

-- a drain after its last cut and the reports behind that
pub record IsDrainOf (cut : Seen) (more : List Seen) (d : Drain) : Type 0 where
  pub until : d.until ≡ cut.now + cut.rtt
  pub low : Some d.low ≡ least (delays_of (cut ∷ more))
  pub deepest : d.deepest ≡ deepest_of cut.height (early (cut.now + cut.rtt) more)
  pub mark : d.mark ≡ last_delay (first_mark cut more) (falls_of cut more)
  pub fell : d.fell ≡ last_moment (cut.now + cut.rtt) (falls_of cut more)

-- the reports so far end with the last cut and those behind it
pub record Drains (all : List Seen) (d : Drain) : Type 0 where
  pub earlier : List Seen
  pub cut : Seen
  pub more : List Seen
  pub split : all ≡ earlier ++ cut ∷ more
  pub is_cut : cut.cut ≡ true
  pub quiet : All IsNoTurn more
  pub drain : IsDrainOf cut more d

-- Where moments do not run back, a drain is always that of the list.
abbrev pub DrainsAreThoseOfTheList : Type 0
DrainsAreThoseOfTheList = (start : ℕ) (given : List Given) (d : Drain) → (after_all start given).drain ≡ Some d → AreInOrder (seen start given) → Drains (seen start given) d

-- ---- its end

-- the last fall, or where there is none, the moment at which the cut could first show
abbrev pub last_fall : Seen → List Seen → ℕ
last_fall cut more = last_moment (cut.now + cut.rtt) (falls_of cut more)

-- when a drain may end at a report: a wait after that, by the rate that the report's losses leave
abbrev pub end_of : State → Report → Seen → List Seen → ℕ
end_of s x cut more = last_fall cut more + wait (after_losses s x).state.rate

-- A report in a drain, behind the last cut and those so far, ends it no earlier than a wait after the last fall, its
-- own too; and where it shows a delay and cuts not again, no later.
pub record EndsBehindFalls (s : State) (all : List Seen) (x : Report) (results : List Probed) (waits : Bool) (bounds : Bounds) : Type 0 where
  pub earlier : List Seen
  pub cut : Seen
  pub more : List Seen
  pub split : all ≡ earlier ++ cut ∷ more
  pub is_cut : cut.cut ≡ true
  pub quiet : All IsNoTurn more
  pub ended : (after s x results waits bounds).drain ≡ None → end_of s x cut (more ++ seen_by s x x.delay bounds) ≤ x.now
  pub goes_on : is_some x.delay ≡ true → (after_report s x bounds).cut ≡ false → is_some (after s x results waits bounds).drain ≡ true
      → x.now < end_of s x cut (more ++ seen_by s x x.delay bounds)

-- Where moments do not run back, so it is at each report in a drain.
abbrev pub DrainsEndBehindFalls : Type 0
DrainsEndBehindFalls =
    (start : ℕ) (given : List Given) (x : Report) (results : List Probed) (waits : Bool) (bounds : Bounds) (d : Drain) → (after_all start given).drain ≡ Some d
    → AreInOrder (seen start given ++ seen_by (after_all start given) x x.delay bounds) → EndsBehindFalls (after_all start given) (seen start given) x results waits bounds
