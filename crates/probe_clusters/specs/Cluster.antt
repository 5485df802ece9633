-- One probe cluster.
use Rattle.std.specs.Prelude.{ℕ, ◌+◌, ◌-◌, ◌*◌, ◌≤◌, Bool, true, false, ◌&&◌, ◌||◌, not, nat_lt, nat_le, Option, Some, None, unwrap_or, if◌then◌else◌}
use Rattle.std.specs.Option.{ForSome}
use Rattle.gcc_units.specs.declared.shared_types.Credit.{Credit}
use Rattle.gcc_units.specs.declared.limits.TheConstants.{MOST_PACKETS, GREATEST_PACKET, BYTE}
use Rattle.probe_clusters.specs.declared.heard.Heard.{Heard}
use Rattle.probe_clusters.specs.declared.cluster.Cluster.{Cluster}
use Rattle.probe_clusters.specs.declared.TheConstants.{LEAST_PACKETS, LEAST_TIME, ENOUGH_PARTS, ALL_PARTS}
use Rattle.probe_clusters.specs.Heard.{heard_with}

-- one that was planned, for which nothing was sent
abbrev pub planned : ℕ → Cluster
planned rate = record { rate = rate; packets = 0; bytes = 0; first_sent = None; heard = None; taken = false }

-- too few packets were sent for it, or too few bytes for its rate
abbrev pub waits : Cluster → Bool
waits c = nat_lt c.packets LEAST_PACKETS || nat_lt (BYTE * c.bytes) (LEAST_TIME * c.rate)

-- its bytes are not ahead of its rate
abbrev pub is_due_since : ℕ → Cluster → ℕ → Bool
is_due_since first c now = nat_le (BYTE * c.bytes) (c.rate * (now - first))

abbrev pub is_due_from : Option ℕ → Cluster → ℕ → Bool
is_due_from None c now = true
is_due_from (Some first) c now = is_due_since first c now

-- nothing was sent for it yet, or its bytes are not ahead of its rate since its first send
abbrev pub is_due : Cluster → ℕ → Bool
is_due c now = is_due_from c.first_sent c now

-- with one packet more
abbrev pub with_packet : ℕ → ℕ → Cluster → Cluster
with_packet size now c =
    record c { packets = c.packets + 1; bytes = c.bytes + size; first_sent = Some (unwrap_or c.first_sent now) }

-- with one credit more, unless its result was taken
abbrev pub with_credit : Credit → Cluster → Cluster
with_credit credit c = record c { heard = if c.taken then c.heard else Some (heard_with c.heard credit) }

-- its result is taken
abbrev pub with_result_taken : Cluster → Cluster
with_result_taken c = record c { taken = true }

-- four fifths of its packets were credited, and four fifths of its bytes
abbrev pub is_enough : Option Heard → Cluster → Bool
is_enough None c = false
is_enough (Some h) c = nat_le (ENOUGH_PARTS * c.packets) (ALL_PARTS * h.count) && nat_le (ENOUGH_PARTS * c.bytes) (ALL_PARTS * h.bytes)

-- it has a result that was not taken
abbrev pub is_ready : Cluster → Bool
is_ready c = not c.taken && (not (waits c) && is_enough c.heard c)

-- ---- ranges

pub record IsHeardSmall (h : Heard) : Type 0 where
  pub count : h.count ≤ MOST_PACKETS
  pub bytes : h.bytes ≤ GREATEST_PACKET * MOST_PACKETS

-- its sums are those of no more packets and credits than one object is given
pub record IsSmall (c : Cluster) : Type 0 where
  pub packets : c.packets ≤ MOST_PACKETS
  pub bytes : c.bytes ≤ GREATEST_PACKET * MOST_PACKETS
  pub heard : ForSome c.heard IsHeardSmall
