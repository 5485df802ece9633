-- What losses make of a rate. Shares are in thousandths.
use Rattle.std.specs.Prelude.{ℕ, ◌+◌, ◌-◌, ◌*◌, ◌/◌, min, Bool, false, ◌&&◌, ◌||◌, nat_le, nat_lt, if◌then◌else◌, Option, Some, None, is_some, is_none, unwrap_or}
use Rattle.level_control.specs.declared.state.Report.{Report}
use Rattle.level_control.specs.declared.state.Losses.{Losses}
use Rattle.level_control.specs.declared.state.State.{State}
use Rattle.level_control.specs.declared.losses.Heard.{Heard}
use Rattle.level_control.specs.declared.losses.TheConstants.{LOSS_PERIOD, FEWEST_PACKETS, ALL_MILLE, TRIED_MILLE, HIGH_MILLE, HALVES}

-- the share that is missing
abbrev pub share : ℕ → ℕ → ℕ
share received missing = ALL_MILLE * missing / (received + missing)

-- gathered for a period, and of enough packets
abbrev pub is_due : Losses → ℕ → ℕ → Bool
is_due w since now = nat_le LOSS_PERIOD (now - since) && nat_le FEWEST_PACKETS (w.received + w.missing)

-- A cut is tried where none is, the share lies that far above the tolerated one, and a cut may be made.
abbrev pub tries : Losses → ℕ → Bool → Bool
tries w s may_cut = is_none w.tried && nat_lt (w.tolerated + TRIED_MILLE) s && may_cut

-- After a cut that was tried, its share is not ours where it did not halve. Else what is tolerated only falls.
abbrev pub tolerated_from : Option ℕ → ℕ → ℕ → ℕ
tolerated_from (Some tried) tolerated s = if nat_lt tried (HALVES * s) then s else 0
tolerated_from None tolerated s = if nat_lt (tolerated + TRIED_MILLE) s then tolerated else min tolerated s

abbrev pub tolerated_after : Losses → ℕ → ℕ
tolerated_after w s = tolerated_from w.tried w.tolerated s

-- with the counts of a report, gathered from this moment on
abbrev pub counted : Losses → Report → ℕ → Losses
counted w x since = record w { received = w.received + x.received; missing = w.missing + x.missing; since = Some since }

-- Gathering begins anew, and where a cut is tried, a round trip later.
abbrev pub renewed : Losses → ℕ → Bool → Report → Losses
renewed w s lossy x =
    record {
      received = 0;
      missing = 0;
      since = Some (if lossy then x.now + x.rtt else x.now);
      tolerated = tolerated_after w s;
      tried = if lossy then Some s else None;
    }

-- without half of the part that is missing
abbrev pub lowered : ℕ → ℕ → ℕ → ℕ
lowered rate received missing = rate * (2 * (received + missing) - missing) / (2 * (received + missing))

-- Where many are missing and no cut is tried, the rate falls, and is what the path carries.
abbrev pub judged_by : State → Report → ℕ → Bool → Heard
judged_by s x share lossy =
    if lossy || nat_le share HIGH_MILLE then record { state = record s { losses = renewed s.losses share lossy x }; lossy = lossy }
    else record {
      state =
          record s {
            rate = lowered s.rate s.losses.received s.losses.missing;
            capacity = Some (lowered s.rate s.losses.received s.losses.missing);
            losses = renewed s.losses share lossy x;
          };
      lossy = lossy;
    }

abbrev pub judged : State → Report → Heard
judged s x =
    let part = share s.losses.received s.losses.missing in
    judged_by s x part (tries s.losses part (is_none s.drain && is_some x.delay))

-- with a report's counts, judged where that is due
abbrev pub gathered : State → Report → ℕ → Heard
gathered s x since =
    if is_due s.losses since x.now then judged s x else record { state = s; lossy = false }

-- the state after a report's counts, and whether these ask for a cut
abbrev pub after_losses : State → Report → Heard
after_losses s x =
    let since = unwrap_or s.losses.since x.now in
    if nat_lt x.now since then record { state = s; lossy = false }
    else gathered (record s { losses = counted s.losses x since }) x since
