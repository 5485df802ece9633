-- What holds of each report to the level control.
use Rattle.std.specs.Prelude.{◌≡◌, ℕ, ◌<◌, ◌≤◌, ◌+◌, ◌*◌, ◌/◌, max, Bool, true, false, Some, None, unwrap_or}
use Rattle.fixed_math.specs.Root.{root}
use Rattle.level_control.specs.declared.state.Delays.{Delays}
use Rattle.level_control.specs.declared.state.Drain.{Drain}
use Rattle.level_control.specs.declared.state.Losses.{Losses}
use Rattle.level_control.specs.declared.state.Shown.{Shown}
use Rattle.level_control.specs.declared.state.State.{State}
use Rattle.level_control.specs.declared.delays.TheConstants.{OWN_LEVEL, SHARED_LEVEL, CHANGES, CHANGE_PARTS}
use Rattle.level_control.specs.declared.growth.TheConstants.{ALL_PERCENT, GROWTH_PERCENT, PERCENT_SECOND, GROWTH_ROOTS, SECOND, LIMIT_PERCENT}
use Rattle.level_control.specs.declared.drains.TheConstants.{CUT_PERCENT}
use Rattle.level_control.specs.Delays.{level}
use Rattle.level_control.specs.Growth.{is_far}
use Rattle.level_control.specs.declared.losses.TheConstants.{TRIED_MILLE}
use Rattle.level_control.specs.Losses.{tries}
use Rattle.level_control.specs.Drains.{asks_cut, begun, ended, increased}

-- the part of a rate that a cut leaves at most
abbrev pub cut_from : ℕ → ℕ
cut_from rate = CUT_PERCENT * rate / ALL_PERCENT

-- The level lies between 25 ms and the greater of 100 ms and four mean changes.
pub record IsLevel (k : Delays) (row : ℕ) : Type 0 where
  pub least : OWN_LEVEL ≤ level k row
  pub greatest : level k row ≤ max SHARED_LEVEL (CHANGES * k.change / CHANGE_PARTS)

abbrev pub LevelsLieInRange : Type 0
LevelsLieInRange = (k : Delays) (row : ℕ) → IsLevel k row

-- Without a drain a report is cut only where its delay is above the level, or where its losses ask for it.
abbrev pub CutsAreShown : Type 0
CutsAreShown = (x : Shown) → asks_cut None x ≡ true → x.lossy ≡ false → x.level < x.above

-- In a drain, only where its delay is further above the base than the queue was deep, and by the level.
abbrev pub SecondCutsAreShown : Type 0
SecondCutsAreShown = (d : Drain) (x : Shown) → asks_cut (Some d) x ≡ true → d.deepest + x.level < x.above

-- A drain begins with a cut, and is not cut again for a round trip of that.
pub record CutsLieApart (d : Drain) (x : Shown) : Type 0 where
  pub begun : (before : ℕ) → (begun x before).until ≡ x.now + x.rtt
  pub apart : asks_cut (Some d) x ≡ true → d.until ≤ x.now

abbrev pub AllCutsLieApart : Type 0
AllCutsLieApart = (d : Drain) (x : Shown) → CutsLieApart d x

-- Growth is at most 8 % a second where the rate is far from the capacity, else at most 60 roots of the rate.
pub record GrowsSlowly (s : State) (x : Shown) : Type 0 where
  pub far : is_far s.rate s.capacity ≡ true → (increased s x).rate ≤ s.rate + GROWTH_PERCENT * s.rate * x.time / PERCENT_SECOND
  pub near : is_far s.rate s.capacity ≡ false → (increased s x).rate ≤ s.rate + GROWTH_ROOTS * root s.rate * x.time / SECOND
  pub limited : (received : ℕ) → x.acked ≡ Some received → (increased s x).rate ≤ max s.rate (LIMIT_PERCENT * received / ALL_PERCENT)

abbrev pub AllGrowSlowly : Type 0
AllGrowSlowly = (s : State) (x : Shown) → GrowsSlowly s x

-- A loss share that asks for a cut is more than two points above the tolerated one.
abbrev pub TriedSharesAreShown : Type 0
TriedSharesAreShown = (w : Losses) (share : ℕ) (may_cut : Bool) → tries w share may_cut ≡ true → w.tolerated + TRIED_MILLE < share

-- At its end a drain leaves at most the greater of the rate and what the path carried.
abbrev pub DrainsEndLow : Type 0
DrainsEndLow = (s : State) (d : Drain) (x : Shown) → (ended s d x).rate ≤ max s.rate (unwrap_or s.capacity 0)
