-- The estimates of a history. They read what replies judged, and none of the rates that replies tell.
use Rattle.std.specs.Prelude.{ℕ, ◌*◌, ◌/◌, min, List}
use Rattle.gcc_units.specs.declared.limits.TheConstants.{GREATEST_RATE}
use Rattle.gcc_units.specs.Walk.{walk}
use Rattle.probe_clusters.specs.Deeds.{Deed}
use Rattle.estimator.specs.declared.estimate.Estimate.{Estimate}
use Rattle.estimator.specs.Est.{Est, start_est, judged_est, set_est, estimate, found}
use Rattle.send_core.specs.declared.call.Call.{Call}
use Rattle.send_core.specs.declared.call.Call.TheVariants.{Configure}
use Rattle.send_core.specs.declared.call.Reply.{Reply}
use Rattle.send_core.specs.declared.call.Reply.TheVariants.{Credited, Configured}
use Rattle.send_core.specs.declared.call.Rates.{Rates}
use Rattle.send_core.specs.declared.call.Entry.{Entry}
use Rattle.send_core.specs.declared.settings.Settings.{Settings}
use Rattle.send_core.specs.declared.settings.TheConstants.{START_RATE}
use Rattle.send_core.specs.Settings.{settings, settings_after}
use Rattle.send_core.specs.Reports.{cluster_deeds}

-- what an entry makes of the estimates, under the settings before it and what was done to the clusters
abbrev pub est_by : Settings → List Deed → Est → Call → Reply → Est
est_by s ds e call (Credited moment judged signal m acked rates shares) =
    judged_est e judged.received.items judged.missing moment s.bounds (found ds judged.received.items)
est_by s ds e (Configure at change) (Configured moment rates shares) = set_est e change.start (settings_after s change).bounds
est_by s ds e call given = e

abbrev pub est : List Entry → Est
est history = walk (λ before e (x : Entry). est_by (settings before) (cluster_deeds before) e x.call x.reply) (start_est START_RATE) history

-- the lesser of the two estimates
abbrev pub target : List Entry → ℕ
target history = (estimate (est history)).target

-- a percentage of a target
abbrev pub pacing_of : ℕ → ℕ → ℕ
pacing_of target percent = min GREATEST_RATE (target * percent / 100)

abbrev pub pacing_rate : List Entry → ℕ
pacing_rate history = pacing_of (target history) (settings history).pacing_percent

-- the rates that a reply tells
abbrev pub rates_told : Estimate → ℕ → Rates
rates_told told percent = record { delay = told.delay; loss = told.loss; target = told.target; pacing = pacing_of told.target percent }

abbrev pub rates_of : Est → ℕ → Rates
rates_of e percent = rates_told (estimate e) percent
