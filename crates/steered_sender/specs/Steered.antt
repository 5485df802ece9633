-- What the level control makes of a history, and what it asks of the sender.
use Rattle.std.specs.Prelude.{ℕ, ◌==◌, ◌++◌, nat_lt, Bool, if◌then◌else◌, count_by, Option, Some, None, List, [], ◌∷◌}
use Rattle.gcc_units.specs.declared.shared_types.Bounds.{Bounds}
use Rattle.gcc_units.specs.declared.shared_types.Credit.{Credit}
use Rattle.gcc_units.specs.declared.shared_types.Judged.{Judged}
use Rattle.gcc_units.specs.Listed.{bare}
use Rattle.gcc_units.specs.Rates.{bounded}
use Rattle.gcc_units.specs.Walk.{walk}
use Rattle.probe_clusters.specs.Cluster.{waits}
use Rattle.probe_clusters.specs.Deeds.{Deed, rates, clusters}
use Rattle.estimator.specs.Report.{round_trip}
use Rattle.estimator.specs.Est.{Est, found}
use Rattle.level_control.specs.declared.Answer.{Answer}
use Rattle.level_control.specs.declared.state.State.{State}
use Rattle.level_control.specs.declared.state.Report.{Report}
use Rattle.level_control.specs.declared.state.Probed.{Probed}
use Rattle.level_control.specs.Rule.{started, set_to}
use Rattle.level_control.specs.Steps.{after, answer}
use Rattle.send_core.specs.declared.call.Call.{Call}
use Rattle.send_core.specs.declared.call.Call.TheVariants.{Configure}
use Rattle.send_core.specs.declared.call.Change.{Change}
use Rattle.send_core.specs.declared.call.Reply.{Reply}
use Rattle.send_core.specs.declared.call.Reply.TheVariants.{Credited, Configured}
use Rattle.send_core.specs.declared.call.Entry.{Entry}
use Rattle.send_core.specs.declared.settings.Settings.{Settings}
use Rattle.send_core.specs.History.{entry, now}
use Rattle.send_core.specs.Settings.{start_settings, settings, settings_after}
use Rattle.send_core.specs.Reports.{cluster_deeds}
use Rattle.send_core.specs.Estimates.{est}
use Rattle.send_core.specs.Reply.{reply}
use Rattle.steered_sender.specs.declared.steering.Wanted.{Wanted}
use Rattle.steered_sender.specs.declared.steering.TheConstants.{CONTROL_CALLER}
use Rattle.steered_sender.specs.Measures.{report_of, probed_of}

-- the state of the control, and the change that it asks for, until this is the next entry
pub record Steered : Type 0 where
  pub state : State
  pub wanted : Option Wanted

-- ---- a report

-- whether a cluster waits
abbrev pub is_any_waiting : List Deed → Bool
is_any_waiting ds = nat_lt 0 (count_by waits (clusters ds))

-- what clusters tell after these credits
abbrev pub results : List Deed → List Credit → List Probed
results ds received = probed_of (rates ds) (found ds received)

-- what the control is told, by the round trip before the report
abbrev pub told_of : ℕ → ℕ → Judged → Option ℕ → Report
told_of rtt moment judged acked = report_of moment judged acked (round_trip rtt judged.received.items moment)

-- the state after a report, and what the control answers
abbrev pub state_after : State → List Deed → Bounds → ℕ → ℕ → Judged → Option ℕ → State
state_after s ds bounds rtt moment judged acked =
    after s (told_of rtt moment judged acked) (results ds judged.received.items) (is_any_waiting ds) bounds

abbrev pub answer_to : State → List Deed → Bounds → ℕ → ℕ → Judged → Option ℕ → Answer
answer_to s ds bounds rtt moment judged acked =
    answer s (told_of rtt moment judged acked) (results ds judged.received.items) (is_any_waiting ds) bounds

-- what it asks for by its answer
abbrev pub wanted_by : Answer → Wanted
wanted_by a = record { rate = a.rate; probe = a.cluster }

-- ---- entries

-- A change of another caller than the control sets the state; its own changes nothing.
abbrev pub set_by : State → Bool → Change → Bounds → State
set_by s own change bounds = if own then s else set_to s change.start bounds

-- what an entry makes of it, by what stood before
abbrev pub steered_by : Est → List Deed → Settings → Steered → ℕ → Call → Reply → Steered
steered_by e ds set s caller call (Credited moment judged signal m acked rates shares) = record {
  state = state_after s.state ds set.bounds e.rtt moment judged acked;
  wanted = Some (wanted_by (answer_to s.state ds set.bounds e.rtt moment judged acked));
}
steered_by e ds set s caller (Configure at change) (Configured moment rates shares) =
    record { state = set_by s.state (caller == CONTROL_CALLER) change (settings_after set change).bounds; wanted = None }
steered_by e ds set s caller call given = record { state = s.state; wanted = None }

-- The control begins at a rate, for which it asks first.
abbrev pub begun : ℕ → Steered
begun start = record { state = started (bounded start_settings.bounds start); wanted = Some (record { rate = start; probe = None }) }

abbrev pub steered : ℕ → List Entry → Steered
steered start history =
    walk (λ before s (e : Entry). steered_by (est before) (cluster_deeds before) (settings before) s e.caller e.call e.reply) (begun start) history

-- what the control answers to the reply to a report, by the history before it
abbrev pub answered : ℕ → List Entry → Reply → Option Answer
answered start h (Credited moment judged signal m acked rates shares) =
    Some (answer_to (steered start h).state (cluster_deeds h) (settings h).bounds (est h).rtt moment judged acked)
answered start h given = None

-- ---- the control's changes

-- the change that asks for a rate, and for a probe cluster where one is wanted
abbrev pub change_for : Wanted → Change
change_for w = record {
  streams = bare [];
  removed = bare [];
  start = Some w.rate;
  min = None;
  max = None;
  pacing_percent = None;
  window = None;
  padding_rate = None;
  paced_audio = None;
  extension_id = None;
  probe = w.probe;
}

-- the entries of what is wanted: the change at the history's moment, with its reply
abbrev pub asked_entries : List Entry → Option Wanted → List Entry
asked_entries history None = []
asked_entries history (Some w) =
    entry CONTROL_CALLER (Configure (now history) (change_for w)) (reply history (Configure (now history) (change_for w))) ∷ []

-- the history with what is wanted
abbrev pub with_wanted : List Entry → Option Wanted → List Entry
with_wanted history wanted = history ++ asked_entries history wanted
