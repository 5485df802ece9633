-- The parts of a sender that nothing was asked of yet.
use Rattle.std.proofs.Common.{◌≡◌, false, List, [], refl, ap}
use Rattle.gcc_units.specs.Listed.{Listed}
use Rattle.allocator.specs.declared.stream.Stream.{Stream}
use Rattle.probe_clusters.specs.declared.cluster.Cluster.{Cluster}
use Rattle.probe_clusters.specs.Deeds as probes
use Rattle.sent_history.specs.Kept as history_kept
use Rattle.estimator.specs.Est.{start_est}
use Rattle.estimator.specs.Kept as estimator
use Rattle.pacer.specs.Force.{in_force}
use Rattle.pacer.specs.State.{State, start}
use Rattle.send_core.specs.declared.settings.Settings.{Settings}
use Rattle.send_core.specs.declared.settings.TheConstants.{START_RATE}
use Rattle.send_core.specs.Settings.{start_settings}
use Rattle.send_core.specs.Levels.{rate, tally_of}
use Rattle.send_core.specs.Stands.{StandsFor}
use Rattle.send_core.proofs.LawsKept.{laws-first, more-first}

rate-first : start.rate ≡ rate []
unfolding in_force
rate-first = refl

pub tally-first : (record { rate = start.rate; window = start.pacing.window; padding_rate = start.pacing.padding_rate }) ≡ tally_of []
tally-first = ap (λ n. record (tally_of []) { rate = n }) rate-first

pub stands-first : (pacer : State) (history : history_kept.Kept) (v : estimator.Values) (cs : Listed Cluster) (ss : List Stream) (set : Settings)
    → pacer ≡ start → history_kept.StandsFor history [] → estimator.StandsFor v (start_est START_RATE) → probes.StandsFor cs.items [] → ss ≡ [] → set ≡ start_settings
    → StandsFor (record { accepted = 0; pacer = pacer; history = history; estimator = v; clusters = cs; streams = ss; settings = set; started = false }) []
stands-first pacer history v cs ss set pacer_is kept estimates counts none set_is = rw (pacer_is, none, set_is) (record {
  count = refl;
  clock = refl;
  queue = refl;
  media = record { least = refl };
  padding_is = refl;
  media_began = refl;
  pacing = refl;
  in_force = rate-first;
  packets = kept;
  estimates = estimates;
  clusters = counts;
  streams_are = refl;
  set = refl;
  was_started = refl;
  laws = laws-first;
  more = more-first;
})
