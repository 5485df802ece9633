-- Base, floor, mean change and level of the delays. Delays are in quarter-milliseconds.
use Rattle.std.specs.Prelude.{ℕ, ℤ, neg_ℤ, ◌≤ℤ◌, ◌-ℤ◌, ◌≤◌, ◌+◌, ◌-◌, ◌*◌, ◌/◌, ◌^◌, min, max, unsigned_abs, int_lt, nat_lt, ◌==◌, if◌then◌else◌, Option, Some, None}
use Rattle.std.specs.Int.{int_min}
use Rattle.std.specs.Option.{ForSome}
use Rattle.level_control.specs.declared.state.Delays.{Delays}
use Rattle.level_control.specs.declared.delays.TheConstants.{FARTHEST_DELAY, OWN_LEVEL, CHANGES, CHANGE_PARTS, GREATEST_CHANGE, GREATEST_CHANGES, SHARED_LEVEL, DRAINS_IN_A_ROW, OTHERS_PARTS, SPELL}

-- how far a delay lies above another
abbrev pub above : ℤ → ℤ → ℕ
above delay other = if int_lt other delay then unsigned_abs (delay -ℤ other) else 0

-- how far two delays are apart
abbrev pub apart : ℤ → ℤ → ℕ
apart one other = above one other + above other one

-- which spell a moment is in
abbrev pub spell_of : ℕ → ℕ
spell_of now = now / SPELL

-- sixteen times the mean change, with one more change
abbrev pub changed : ℕ → ℤ → ℤ → ℕ
changed change delay last = change + min GREATEST_CHANGE (apart delay last) - change / CHANGE_PARTS

-- the least delay of this spell
abbrev pub least_of_spell : Delays → ℤ → ℕ → ℤ
least_of_spell k delay spell = if spell == k.spell then int_min k.least delay else delay

-- the least delay of the spell before this one
abbrev pub earlier_of : Delays → ℕ → Option ℤ
earlier_of k spell = if spell == k.spell then k.earlier else (if spell == k.spell + 1 then Some k.least else None)

abbrev pub first_delays : ℤ → ℕ → Delays
first_delays delay now =
    record { base = delay; last = delay; change = 0; spell = spell_of now; least = delay; earlier = None }

abbrev pub next_delays : Delays → ℤ → ℕ → Delays
next_delays k delay now =
    record {
      base = int_min k.base delay;
      last = delay;
      change = changed k.change delay k.last;
      spell = spell_of now;
      least = least_of_spell k delay (spell_of now);
      earlier = earlier_of k (spell_of now);
    }

-- with the delay of one more report
abbrev pub delays_after : Option Delays → ℤ → ℕ → Delays
delays_after None delay now = first_delays delay now
delays_after (Some k) delay now = next_delays k delay now

abbrev pub lesser_of : ℤ → Option ℤ → ℤ
lesser_of one None = one
lesser_of one (Some other) = int_min one other

-- the least delay of this spell and the one before it
abbrev pub floor_of : Delays → ℤ
floor_of k = lesser_of k.least k.earlier

-- the level of the own queue: by jitter no less than so many mean changes
abbrev pub own_level : ℕ → ℕ
own_level change = max OWN_LEVEL (CHANGES * change / CHANGE_PARTS)

-- the level above the base at which a queue is cut; beside a queue of others it grows with that
abbrev pub level : Delays → ℕ → ℕ
level k row =
    if nat_lt row DRAINS_IN_A_ROW then own_level k.change
    else min (own_level k.change + above k.base (floor_of k) / OTHERS_PARTS) (max (own_level k.change) SHARED_LEVEL)

-- where a delay lies
pub record IsDelay (delay : ℤ) : Type 0 where
  pub least : neg_ℤ FARTHEST_DELAY ≤ℤ delay
  pub greatest : delay ≤ℤ FARTHEST_DELAY

-- where its numbers lie
pub record IsDelays (k : Delays) : Type 0 where
  pub base : IsDelay k.base
  pub last : IsDelay k.last
  pub change : k.change ≤ GREATEST_CHANGES
  pub spell : k.spell ≤ 2 ^ 60
  pub least : IsDelay k.least
  pub earlier : ForSome k.earlier IsDelay
