-- What C is told of a sender's history.
use Rattle.std.specs.Prelude.{◌≡◌, ◌≢◌, ◌≤◌, ◌<◌, ℕ, Option, None, Some, IfNone, IfSome, List, [], length, slice_get, sum_by}
use Rattle.std.specs.Option.{option_map}
use Rattle.gcc_units.specs.declared.limits.TheConstants.{GREATEST_MOMENT}
use Rattle.gcc_units.specs.declared.shared_types.Share.{Share}
use Rattle.allocator.specs.Shares.{shares}
use Rattle.pace_queues.specs.Waiting.{size_of, accepted_at_of}
use Rattle.pacer.specs.Force.{sending_time}
use Rattle.probe_clusters.specs.declared.probes.NextProbe.{NextProbe}
use Rattle.probe_clusters.specs.Clusters.{next_probe}
use Rattle.probe_clusters.specs.Deeds.{clusters}
use Rattle.sent_history.specs.Balance.{expired}
use Rattle.sent_history.specs.Crediting.{outstanding}
use Rattle.sent_history.specs.Events.{reports}
use Rattle.send_core.specs.declared.call.Rates.{Rates}
use Rattle.send_core.specs.declared.call.Entry.{Entry}
use Rattle.send_core.specs.Estimates.{est, rates_of, target}
use Rattle.send_core.specs.History.{accepted, now, sent, waiting}
use Rattle.send_core.specs.Levels.{rate}
use Rattle.send_core.specs.Reports.{cluster_deeds, events}
use Rattle.send_core.specs.Settings.{settings, streams}
use Rattle.live_sender.specs.declared.looking.Counters.{Counters}
use Rattle.live_sender.specs.declared.looking.Queue.{Queue}
use Rattle.live_sender.specs.declared.sums.Total.{Total}
use Rattle.steered_sender.specs.Standing.{StandsFor, wanted_of}
use Rattle.live_sender.specs.Sums.{credited, missing, refused, totals_of}
use Rattle.capi.specs.declared.looking.RatesTold.{RatesTold}
use Rattle.capi.specs.declared.looking.QueueTold.{QueueTold}
use Rattle.capi.specs.declared.looking.TotalTold.{TotalTold}
use Rattle.capi.specs.declared.looking.StatsTold.{StatsTold}
use Rattle.capi.specs.declared.looking.ShareTold.{ShareTold}
use Rattle.capi.specs.declared.looking.ProbeTold.{ProbeTold}
use Rattle.capi.specs.declared.looking.TheConstants.{NO_TIME}
use Rattle.capi.specs.Serving.{Serving, filled}

abbrev pub rates_told : Rates → RatesTold
rates_told r = record { delay = r.delay; loss = r.loss; target = r.target; pacing = r.pacing }

abbrev pub share_told : Share → ShareTold
share_told s = record { rate = s.rate; id = s.id }

-- the rates after a history
abbrev pub rates_after : List Entry → RatesTold
rates_after history = rates_told (rates_of (est history) (settings history).pacing_percent)

-- a moment or a time, where there is one
abbrev pub moment_told : Option ℕ → ℕ
moment_told None = NO_TIME
moment_told (Some moment) = moment

abbrev pub queue_told : Queue → QueueTold
queue_told q = record { bytes = q.bytes; oldest = moment_told q.oldest; drain_time = moment_told q.drain_time; packets = q.packets }

-- the packets that wait
abbrev pub queue_after : List Entry → QueueTold
queue_after history = record {
  bytes = sum_by size_of (waiting history);
  oldest = moment_told (option_map accepted_at_of (slice_get (waiting history) 0));
  drain_time = moment_told (sending_time (rate history) (waiting history));
  packets = length (waiting history);
}

abbrev pub total_told : Total → TotalTold
total_told t = record { packets = t.packets; bytes = t.bytes }

abbrev pub stats_told : Counters → StatsTold
stats_told c = record {
  sent = c.sent;
  audio = total_told c.sent_as.audio;
  media = total_told c.sent_as.media;
  probes = total_told c.sent_as.probes;
  padding = total_told c.sent_as.padding;
  credited = c.credited;
  missing = c.missing;
  expired = c.expired;
  refused = c.refused;
  accepted = c.accepted;
  waiting = c.waiting;
  outstanding = c.outstanding;
  judged = c.judged;
}

-- how many packets and reports there were
abbrev pub stats_after : List Entry → StatsTold
stats_after history = record {
  sent = length (sent history);
  audio = total_told (totals_of (sent history)).audio;
  media = total_told (totals_of (sent history)).media;
  probes = total_told (totals_of (sent history)).probes;
  padding = total_told (totals_of (sent history)).padding;
  credited = credited history;
  missing = missing history;
  expired = expired (events history);
  refused = refused history;
  accepted = length (accepted history);
  waiting = length (waiting history);
  outstanding = outstanding (events history);
  judged = length (reports (events history));
}

-- the share of this place, in rising order of the streams' ids
abbrev pub share_after : List Entry → ℕ → Option ShareTold
share_after history k = option_map share_told (slice_get (shares (target history) (streams history)) k)

abbrev pub probe_told : NextProbe → ProbeTold
probe_told p = record { rate = p.rate; cluster = p.id }

-- the probe cluster that packets are sent for next
abbrev pub probe_after : List Entry → Option ProbeTold
probe_after history = option_map probe_told (next_probe (clusters (cluster_deeds history)))

-- When to pop next, from the moment of the last call on: at that moment a pop looks at a packet, and before it at none.
-- Where no moment is told, a pop at none of them does. While a change that the control asked for was not served yet
-- (memory ran out), a pop may be told to serve it, and look at none.
pub record IsNextTime (serving : Serving) (told : Option ℕ) : Type 0 where
  pub from_on : IfSome told (λ m. (history : List Entry) → StandsFor serving.steered history → now history ≤ m)
  pub in_time : IfSome told (λ m. (history : List Entry) → StandsFor serving.steered history → m ≤ GREATEST_MOMENT)
  pub sends : IfSome told (λ m. wanted_of serving.steered.steering ≡ None → (history : List Entry) → StandsFor serving.steered history → filled serving.steered history m serving.kept ≢ [])
  pub none_before : IfSome told (λ m. (history : List Entry) (t : ℕ) → StandsFor serving.steered history → now history ≤ t → t < m → filled serving.steered history t serving.kept ≡ [])
  pub none : IfNone told ((history : List Entry) (t : ℕ) → StandsFor serving.steered history → filled serving.steered history t serving.kept ≡ [])
