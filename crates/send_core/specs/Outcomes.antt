-- What a judged report and an accepted change do to the parts, when time has passed.
use Rattle.std.specs.Prelude.{◌≡◌, ◌≤◌, ◌||◌, List, ◌++◌, length, map, All}
use Rattle.gcc_units.specs.declared.shared_types.Judged.{Judged}
use Rattle.gcc_units.specs.Listed.{bare}
use Rattle.allocator.specs.declared.stream.Stream.{Stream}
use Rattle.allocator.specs.Shares.{shares}
use Rattle.probe_clusters.specs.Deeds.{Deed, Plan, Note, takings}
use Rattle.probe_clusters.specs.Deeds as probes
use Rattle.estimator.specs.Signals.{IsSentBy}
use Rattle.estimator.specs.Report.{found, TakesNotes}
use Rattle.estimator.specs.Est.{Est, judged_est, set_est, estimate}
use Rattle.estimator.specs.Kept.{IsInRange, TakesReport}
use Rattle.estimator.specs.Kept as estimator
use Rattle.pacer.specs.State.{tuned}
use Rattle.send_core.specs.declared.call.Change.{Change}
use Rattle.send_core.specs.declared.call.Reply.{Reply}
use Rattle.send_core.specs.declared.call.Reply.TheVariants.{Credited, Configured}
use Rattle.send_core.specs.declared.parts.Parts.{Parts}
use Rattle.send_core.specs.Settings.{settings_after, is_some, plans}
use Rattle.send_core.specs.Estimates.{rates_of}
use Rattle.send_core.specs.Stands.{pacing_for}
use Rattle.gcc_units.specs.declared.limits.TheConstants.{MOST_STATUSES}

-- ---- reports

-- the estimator may be given what was judged
pub record TakesJudged (p : Parts) (verdict : Judged) : Type 0 where
  pub received : length verdict.received.items ≤ MOST_STATUSES
  pub missing : verdict.missing ≤ MOST_STATUSES
  pub ranges : All IsInRange verdict.received.items
  pub sent : All (IsSentBy p.pacer.moment) verdict.received.items
  pub report : TakesReport p.estimator (length verdict.received.items) p.pacer.moment
  pub notes : TakesNotes p.clusters.items verdict.received.items

-- the estimate after what was judged
abbrev pub est_after : Parts → Judged → Est → List Deed → Est
est_after p verdict e ds = judged_est e verdict.received.items verdict.missing p.pacer.moment p.settings.bounds (found ds verdict.received.items)

abbrev pub credited_as : Parts → Judged → Est → Reply
credited_as p verdict e =
    Credited p.pacer.moment verdict (estimate e).signal (estimate e).m (estimate e).acked (rates_of e p.settings.pacing_percent) (bare (shares (estimate e).target p.streams))

pub record Credits (verdict : Judged) (given : Reply) (before after : Parts) : Type 0 where
  pub count : after.accepted ≡ before.accepted
  pub pacer : after.pacer ≡ tuned before.pacer (pacing_for after.settings after.estimator)
  pub packets : after.history ≡ before.history
  pub streams : after.streams ≡ before.streams
  pub settings : after.settings ≡ before.settings
  pub started : after.started ≡ before.started
  pub estimates : (e : Est) (ds : List Deed) → estimator.StandsFor before.estimator e → probes.StandsFor before.clusters.items ds
      → estimator.StandsFor after.estimator (est_after before verdict e ds)
  pub clusters : (ds : List Deed) → probes.StandsFor before.clusters.items ds
      → probes.StandsFor after.clusters.items ((ds ++ map Note verdict.received.items) ++ takings (found ds verdict.received.items))
  pub reply : (e : Est) (ds : List Deed) → estimator.StandsFor before.estimator e → probes.StandsFor before.clusters.items ds
      → given ≡ credited_as before verdict (est_after before verdict e ds)

-- ---- changes

abbrev pub configured_as : Parts → Change → List Stream → Est → Reply
configured_as p change streams e =
    Configured p.pacer.moment (rates_of e (settings_after p.settings change).pacing_percent) (bare (shares (estimate e).target streams))

pub record Configures (change : Change) (streams : List Stream) (given : Reply) (before after : Parts) : Type 0 where
  pub count : after.accepted ≡ before.accepted
  pub pacer : after.pacer ≡ tuned before.pacer (pacing_for after.settings after.estimator)
  pub packets : after.history ≡ before.history
  pub streams_are : after.streams ≡ streams
  pub settings : after.settings ≡ settings_after before.settings change
  pub started : after.started ≡ (before.started || is_some change.start)
  pub estimates : (e : Est) → estimator.StandsFor before.estimator e → estimator.StandsFor after.estimator (set_est e change.start (settings_after before.settings change).bounds)
  pub clusters : (ds : List Deed) → probes.StandsFor before.clusters.items ds → probes.StandsFor after.clusters.items (ds ++ map Plan (plans before.started change))
  pub reply : (e : Est) → estimator.StandsFor before.estimator e
      → given ≡ configured_as before change streams (set_est e change.start (settings_after before.settings change).bounds)
