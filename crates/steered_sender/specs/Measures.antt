-- What a judged report tells the level control.
use Rattle.std.specs.Prelude.{ℕ, ℤ, pos, neg_ℤ, ◌-ℤ◌, ◌≤ℤ◌, ◌≤◌, ◌/◌, min, Option, Some, None, List, [], ◌∷◌, fold, length, slice_get}
use Rattle.std.specs.Int.{int_min}
use Rattle.std.specs.Option.{option_map}
use Rattle.std.specs.List.{flat_map}
use Rattle.gcc_units.specs.declared.limits.TheConstants.{ARRIVAL_MICROSECONDS, GREATEST_ARRIVAL, GREATEST_MOMENT, GREATEST_RATE}
use Rattle.gcc_units.specs.declared.shared_types.Credit.{Credit}
use Rattle.gcc_units.specs.declared.shared_types.Judged.{Judged}
use Rattle.probe_clusters.specs.declared.probes.Outcome.{Outcome}
use Rattle.level_control.specs.declared.state.Report.{Report}
use Rattle.level_control.specs.declared.state.Probed.{Probed}

-- ---- delays, in quarter-milliseconds

-- from its departure by the sender's clock to its arrival by the receiver's
abbrev pub delay_of : Credit → ℤ
delay_of c = c.arrival -ℤ pos (c.sent_at / ARRIVAL_MICROSECONDS)

abbrev pub lesser : Option ℤ → ℤ → ℤ
lesser None delay = delay
lesser (Some least) delay = int_min least delay

-- the least of them, where there is one
abbrev pub least_delay : List Credit → Option ℤ
least_delay cs = fold (λ (least : Option ℤ) (c : Credit). Some (lesser least (delay_of c))) None cs

-- it arrived and was sent in the ranges of both clocks
pub record IsTimely (c : Credit) : Type 0 where
  pub low : neg_ℤ GREATEST_ARRIVAL ≤ℤ c.arrival
  pub high : c.arrival ≤ℤ GREATEST_ARRIVAL
  pub sent : c.sent_at ≤ GREATEST_MOMENT

-- ---- reports

abbrev pub acked_of : Option ℕ → Option ℕ
acked_of acked = option_map (λ rate. min rate GREATEST_RATE) acked

abbrev pub report_of : ℕ → Judged → Option ℕ → ℕ → Report
report_of now judged acked rtt = record {
  delay = least_delay judged.received.items;
  received = length judged.received.items;
  missing = judged.missing;
  acked = acked_of acked;
  rtt = rtt;
  now = now;
}

-- ---- results of clusters

abbrev pub probed_as : Option ℕ → Option ℕ → Option Probed
probed_as (Some result) (Some rate) = Some (record { planned = min GREATEST_RATE rate; result = min GREATEST_RATE result })
probed_as (Some result) None = None
probed_as None rate = None

-- the planned rate and the result of a cluster, where it has one
abbrev pub probed_by : List ℕ → Outcome → Option Probed
probed_by planned o = probed_as o.result (slice_get planned o.id)

abbrev pub listed : Option Probed → List Probed
listed None = []
listed (Some p) = p ∷ []

-- those of all these outcomes, by the rates of all clusters in the order of their ids
abbrev pub probed_of : List ℕ → List Outcome → List Probed
probed_of planned os = flat_map (λ (o : Outcome). listed (probed_by planned o)) os
