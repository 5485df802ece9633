-- The rate in force and both levels of a history.
use Rattle.std.specs.Prelude.{ℕ, ℤ, pos, neg_ℤ, ◌-◌, ◌*◌, List, [], ◌∷◌, ◌++◌, fold}
use Rattle.std.specs.List.{flat_map}
use Rattle.gcc_units.specs.Walk.{walk, each_by}
use Rattle.pace_budget.specs.Level.{Deed, Advance, level}
use Rattle.pace_budget.specs.Steps.{step}
use Rattle.pacer.specs.declared.pacing.Pacing.{Pacing}
use Rattle.pacer.specs.declared.pacing.Tally.{Tally}
use Rattle.pacer.specs.declared.sent.Sent.{Sent}
use Rattle.pacer.specs.Force.{in_force}
use Rattle.pacer.specs.Pace.{deed_of, padding_after}
use Rattle.pacer.specs.State.{State}
use Rattle.send_core.specs.declared.call.Entry.{Entry}
use Rattle.send_core.specs.History.{later, now, sent_by, waiting, began}
use Rattle.send_core.specs.Settings.{settings}
use Rattle.send_core.specs.Estimates.{pacing_rate}

-- the pacing rate, or what drains the queue
abbrev pub rate : List Entry → ℕ
rate history = in_force (pacing_rate history) (now history) (waiting history)

abbrev pub window : List Entry → ℕ
window history = (settings history).window

abbrev pub padding_rate : List Entry → ℕ
padding_rate history = (settings history).padding_rate

abbrev pub tally_of : List Entry → Tally
tally_of history = record { rate = rate history; window = window history; padding_rate = padding_rate history }

-- ---- the media level

-- time passes from the last entry to a moment, at the rate that this entry left
abbrev pub passing : List Entry → ℕ → Deed
passing history moment = Advance (rate history) (moment - now history) (window history)

abbrev pub spending : List Sent → List Deed
spending records = flat_map deed_of records

-- what an entry does to the level, after these entries
abbrev pub deeds_by : List Entry → Entry → List Deed
deeds_by before e = passing before (later (now before) e.call) ∷ spending (sent_by e.reply)

abbrev pub deeds : List Entry → List Deed
deeds history = flat_map (λ (ds : List Deed). ds) (each_by deeds_by [] history)

-- the level when a call is served at a moment, before its sends: the least over all starts
abbrev pub level_at : List Entry → ℕ → ℤ
level_at history moment = level (deeds history ++ passing history moment ∷ [])

-- ---- the padding level

abbrev pub padding_passing : List Entry → ℕ → Deed
padding_passing history moment = Advance (padding_rate history) (moment - now history) (window history)

-- how low media may push it
abbrev pub floor : List Entry → ℤ
floor history = neg_ℤ (pos (padding_rate history * window history))

-- an entry lets time pass, and then its records spend
abbrev pub padding_by : List Entry → ℤ → Entry → ℤ
padding_by before level e =
    fold (padding_after (floor before)) (step level (padding_passing before (later (now before) e.call))) (sent_by e.reply)

abbrev pub padding : List Entry → ℤ
padding history = walk padding_by (pos 0) history

abbrev pub padding_at : List Entry → ℕ → ℤ
padding_at history moment = step (padding history) (padding_passing history moment)

-- ---- what a pacer stands at

abbrev pub pacing : List Entry → Pacing
pacing history = record {
  rate = pacing_rate history;
  window = window history;
  padding_rate = padding_rate history;
  paced_audio = (settings history).paced_audio;
}

abbrev pub pacer_of : List Entry → State
pacer_of history = record {
  moment = now history;
  waiting = waiting history;
  media = level (deeds history);
  padding = padding history;
  began = began history;
  pacing = pacing history;
  rate = rate history;
}
