-- What holds of a level control whatever it is given.
use Rattle.std.specs.Prelude.{ℕ, ◌≡◌, ◌≤◌, ◌+◌, ◌*◌, ◌/◌, max, Bool, true, false, List, [], All, AllPairs, Some, None, unwrap_or}
use Rattle.fixed_math.specs.Root.{root}
use Rattle.gcc_units.specs.declared.shared_types.Bounds.{Bounds}
use Rattle.level_control.specs.declared.state.Report.{Report}
use Rattle.level_control.specs.declared.state.State.{State}
use Rattle.level_control.specs.declared.state.Drain.{Drain}
use Rattle.level_control.specs.declared.growth.TheConstants.{ALL_PERCENT, GROWTH_PERCENT, PERCENT_SECOND, GROWTH_ROOTS, SECOND, LIMIT_PERCENT}
use Rattle.level_control.specs.declared.drains.TheConstants.{DRAINED_PERCENT}
use Rattle.level_control.specs.Growth.{is_far, elapsed}
use Rattle.level_control.specs.Steps.{after}
use Rattle.level_control.specs.Given.{Given, reported, setting, Seen, seen_from, after_all, AreInOrder}

-- ---- cuts

abbrev pub KeepsStart : Given → Type 0
KeepsStart (reported x results waits bounds) = Unit {0}
KeepsStart (setting None bounds) = Unit {0}
KeepsStart (setting (Some rate) bounds) = ⊥

-- between two cuts lies at least the round trip of the first
abbrev pub AreApart : Seen → Seen → Type 0
AreApart one other = one.cut ≡ true → other.cut ≡ true → one.now + one.rtt ≤ other.now

-- Of all that is given after anything else, without a start, where moments do not run back.
abbrev pub AllCutsOfTheListLieApart : Type 0
AllCutsOfTheListLieApart =
    (start : ℕ) (earlier given : List Given) → All KeepsStart given → AreInOrder (seen_from (after_all start earlier) given)
    → AllPairs AreApart (seen_from (after_all start earlier) given)

-- ---- at a drain's end

-- a setting or a report whose least rate is no more than this
abbrev pub HasMin : ℕ → Given → Type 0
HasMin most (reported x results waits bounds) = bounds.min ≤ most
HasMin most (setting start bounds) = bounds.min ≤ most

-- At its end, before results of probes, the rate is at most the rate before its first cut, but where a least rate asks
-- for more.
abbrev pub DrainsOfTheListEndLow : Type 0
DrainsOfTheListEndLow =
    (start most : ℕ) (given : List Given) (x : Report) (waits : Bool) (bounds : Bounds) (d : Drain) → All (HasMin most) given → bounds.min ≤ most
    → (after_all start given).drain ≡ Some d → (after (after_all start given) x [] waits bounds).drain ≡ None
    → (after (after_all start given) x [] waits bounds).rate ≤ max most d.before

-- Where others hold no queue, it is at most the greater of what it was and 92 % of the capacity.
abbrev pub OwnDrainsEndLower : Type 0
OwnDrainsEndLower =
    (s : State) (x : Report) (waits : Bool) (bounds : Bounds) (d : Drain) → s.drain ≡ Some d → (after s x [] waits bounds).drain ≡ None → (after s x [] waits bounds).row ≡ 0
    → (after s x [] waits bounds).rate ≤ max bounds.min (max s.rate (DRAINED_PERCENT * unwrap_or (after s x [] waits bounds).capacity 0 / ALL_PERCENT))

-- ---- between drains

-- The next rate is at most the rate grown by 60 of its roots a second, or, far from the capacity, by 8 % if that is
-- more; and it does not pass one and a half of the received rate.
pub record GrowsNoFaster (s : State) (x : Report) (least next : ℕ) : Type 0 where
  pub near : is_far s.rate s.capacity ≡ false → next ≤ max least (s.rate + GROWTH_ROOTS * root s.rate * elapsed s.last x.now / SECOND)
  pub far : is_far s.rate s.capacity ≡ true
      → next ≤ max least (s.rate + max (GROWTH_PERCENT * s.rate * elapsed s.last x.now / PERCENT_SECOND) (GROWTH_ROOTS * root s.rate * elapsed s.last x.now / SECOND))
  pub limited : (received : ℕ) → x.acked ≡ Some received → next ≤ max least (max s.rate (LIMIT_PERCENT * received / ALL_PERCENT))

-- So it is between drains, before results of probes, but where a least rate asks for more.
abbrev pub AllReportsGrowSlowly : Type 0
AllReportsGrowSlowly =
    (s : State) (x : Report) (waits : Bool) (bounds : Bounds) → s.drain ≡ None → (after s x [] waits bounds).drain ≡ None
    → GrowsNoFaster s x bounds.min (after s x [] waits bounds).rate
