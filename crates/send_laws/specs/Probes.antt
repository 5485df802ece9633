-- The packets of the probe clusters of a history.
use Rattle.std.specs.Prelude.{ℕ, ◌-◌, Option, List, length, take, sum, fold, slice_get, slice_index}
use Rattle.probe_clusters.specs.Deeds.{rates, sizes, moments}
use Rattle.send_core.specs.declared.call.Entry.{Entry}
use Rattle.send_core.specs.Reports.{cluster_deeds}

-- the rate of the cluster with this id, where it was planned
abbrev pub planned_rate : ℕ → List Entry → Option ℕ
planned_rate id history = slice_get (rates (cluster_deeds history)) id

-- the sizes of the packets that were sent for the cluster
abbrev pub probe_sizes : ℕ → List Entry → List ℕ
probe_sizes id history = sizes id (cluster_deeds history)

-- when they were sent
abbrev pub probe_moments : ℕ → List Entry → List ℕ
probe_moments id history = moments id (cluster_deeds history)

-- the bytes before the last packet
abbrev pub before_last : List ℕ → ℕ
before_last packet_sizes = sum (take (length packet_sizes - 1) packet_sizes)

abbrev pub last_of : List ℕ → ℕ
last_of packet_moments = fold (λ (last moment : ℕ). moment) 0 packet_moments

-- from the first packet to the last
abbrev pub time_over : List ℕ → ℕ
time_over packet_moments = last_of packet_moments - slice_index packet_moments 0
