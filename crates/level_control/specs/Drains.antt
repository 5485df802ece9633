-- Cuts, and the drains behind them. Delays are in quarter-milliseconds, rates bit/s, moments microseconds.
use Rattle.std.specs.Prelude.{ℕ, ℤ, ◌≤◌, ◌+◌, ◌-◌, ◌*◌, ◌/◌, ◌^◌, min, max, Bool, ◌&&◌, ◌||◌, nat_lt, nat_le, if◌then◌else◌, Option, Some, None, unwrap_or}
use Rattle.std.specs.Int.{int_min, int_max}
use Rattle.std.specs.Option.{ForSome}
use Rattle.gcc_units.specs.declared.limits.TheConstants.{GREATEST_RATE}
use Rattle.level_control.specs.declared.state.State.{State}
use Rattle.level_control.specs.declared.state.Drain.{Drain}
use Rattle.level_control.specs.declared.state.Shown.{Shown}
use Rattle.level_control.specs.declared.losses.TheConstants.{ALL_MILLE}
use Rattle.level_control.specs.declared.delays.TheConstants.{DRAINS_IN_A_ROW, GREATEST_CHANGES}
use Rattle.level_control.specs.declared.growth.TheConstants.{ALL_PERCENT, LONGEST_STEP}
use Rattle.level_control.specs.declared.drains.TheConstants.{CUT_PERCENT, LEAST_CUT_PERCENT, CUT_DEPTH, FALL, LEAST_WAIT, WAIT_BITS, DRAINED_PERCENT, LEFT_PERCENT}
use Rattle.level_control.specs.Delays.{above, IsDelay, IsDelays}
use Rattle.level_control.specs.Growth.{is_far, grown, limited}

-- ---- a cut

-- the part that is left: the less the longer the queue is
abbrev pub cut_percent : ℕ → ℕ
cut_percent queue = max LEAST_CUT_PERCENT (CUT_PERCENT - queue / CUT_DEPTH)

-- that part of the rate, or where less arrives, of that
abbrev pub cut_rate : ℕ → ℕ → ℕ → ℕ
cut_rate rate most queue = cut_percent queue * min rate most / ALL_PERCENT

abbrev pub capacity_at : Option Drain → Option ℕ → ℕ → ℕ → ℕ
capacity_at None capacity rate most = min rate most
capacity_at (Some d) capacity rate most = min (unwrap_or capacity most) most

-- what the path carries by a cut: no more than arrives, and no more than was known in a drain
abbrev pub cut_capacity : State → ℕ → ℕ
cut_capacity s most = capacity_at s.drain s.capacity s.rate most

abbrev pub before_of : Option Drain → ℕ → ℕ
before_of None rate = rate
before_of (Some d) rate = d.before

-- the rate before the first cut
abbrev pub rate_before : State → ℕ
rate_before s = before_of s.drain s.rate

-- the drain behind a cut; for a round trip nothing that the cut did can be seen
abbrev pub begun : Shown → ℕ → Drain
begun x before =
    record {
      deepest = x.above;
      low = x.delays.last;
      mark = x.delays.last;
      until = x.now + x.rtt;
      fell = x.now + x.rtt;
      before = before;
    }

abbrev pub cut : State → Shown → State
cut s x =
    let most = unwrap_or x.acked s.rate in
    record s {
      rate = cut_rate s.rate most x.above;
      capacity = Some (cut_capacity s most);
      drain = Some (begun x (rate_before s));
    }

-- Without a drain, where the delay is above the level or the losses ask for it. In a drain, where the queue
-- goes on growing though the cut must show.
abbrev pub asks_cut : Option Drain → Shown → Bool
asks_cut None x = nat_lt x.level x.above || x.lossy
asks_cut (Some d) x = nat_le d.until x.now && nat_lt (d.deepest + x.level) x.above

-- ---- growth

abbrev pub increased : State → Shown → State
increased s x = record s { rate = limited s.rate (grown s.rate (is_far s.rate s.capacity) x.time) x.acked }

-- ---- a drain

abbrev pub with_low : Drain → ℤ → Drain
with_low d delay = record d { low = int_min d.low delay }

-- before the cut can show, how deep the queue is
abbrev pub deepened : Drain → Shown → Drain
deepened d x = record d { deepest = max d.deepest x.above; mark = int_max d.mark x.delays.last }

-- a fall
abbrev pub fallen : Drain → Shown → Drain
fallen d x = record d { mark = x.delays.last; fell = x.now }

-- with the delay of one more report: how deep the queue is, or, once the cut can show, a fall
abbrev pub followed : Drain → Shown → Drain
followed d x =
    if nat_lt x.now d.until then deepened (with_low d x.delays.last) x
    else (if nat_le FALL (above d.mark x.delays.last) then fallen (with_low d x.delays.last) x else with_low d x.delays.last)

-- What arrives while the queue is there is what the path carries.
abbrev pub risen : Option ℕ → Option ℕ → ℕ → Option ℕ
risen None received before = None
risen (Some known) None before = Some known
risen (Some known) (Some received) before = Some (max known (min received before))

-- how long a fall is waited for
abbrev pub wait : ℕ → ℕ
wait rate = LEAST_WAIT + WAIT_BITS / rate

-- The last fall lies back for that long.
abbrev pub has_settled : Drain → ℕ → Shown → Bool
has_settled d rate x = nat_le (d.fell + wait rate) x.now

-- It left most of the queue, so others hold that.
abbrev pub left_most : Drain → Shown → Bool
left_most d x = nat_lt (LEFT_PERCENT * d.deepest) (ALL_PERCENT * above d.low x.delays.base)

-- What is left is the new base. Where others hold it the rate goes back to what the path carries, else near that.
abbrev pub ended : State → Drain → Shown → State
ended s d x =
    if left_most d x then record s {
      rate = max s.rate (unwrap_or s.capacity 0);
      drain = None;
      row = min DRAINS_IN_A_ROW (s.row + 1);
      delays = Some (record x.delays { base = d.low });
    }
    else record s {
      rate = max s.rate (DRAINED_PERCENT * unwrap_or s.capacity 0 / ALL_PERCENT);
      drain = None;
      row = 0;
      delays = Some (record x.delays { base = d.low });
    }

-- cut again, ended, or going on
abbrev pub settled : State → Drain → Shown → State
settled s d x = if asks_cut (Some d) x then cut s x else (if has_settled d s.rate x then ended s d x else s)

abbrev pub drained : State → Drain → Shown → State
drained s d x = settled (record s { capacity = risen s.capacity x.acked d.before; drain = Some d }) d x

-- ---- what a report shows

abbrev pub stepped_by : Option Drain → State → Shown → State
stepped_by None s x = if asks_cut None x then cut s x else increased s x
stepped_by (Some d) s x = drained s (followed d x) x

abbrev pub stepped : State → Shown → State
stepped s x = stepped_by s.drain s x

-- ---- where numbers lie

pub record IsDrain (d : Drain) : Type 0 where
  pub deepest : d.deepest ≤ 2 ^ 63
  pub low : IsDelay d.low
  pub mark : IsDelay d.mark
  pub until : d.until ≤ 2 ^ 51
  pub fell : d.fell ≤ 2 ^ 51
  pub before : d.before ≤ GREATEST_RATE

-- all but the rate
pub record IsRest (s : State) : Type 0 where
  pub capacity : ForSome s.capacity (λ known. known ≤ GREATEST_RATE)
  pub drain : ForSome s.drain IsDrain
  pub row : s.row ≤ DRAINS_IN_A_ROW
  pub tolerated : s.losses.tolerated ≤ ALL_MILLE
  pub delays : ForSome s.delays IsDelays

pub record IsShown (x : Shown) : Type 0 where
  pub delays : IsDelays x.delays
  pub above : x.above ≤ 2 ^ 63
  pub level : x.level ≤ GREATEST_CHANGES
  pub time : x.time ≤ LONGEST_STEP
  pub acked : ForSome x.acked (λ received. received ≤ GREATEST_RATE)
  pub moment : x.now ≤ 2 ^ 50
  pub round_trip : x.rtt ≤ 2 ^ 50
