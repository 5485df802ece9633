-- What a pace works on, and what it asks of it.
use Rattle.std.specs.Prelude.{ℕ, ℤ, pos, neg_ℤ, ◌+◌, ◌*◌, ◌≤◌, ◌≤ℤ◌, List, [], ◌∷◌, All}
use Rattle.std.specs.List.{flat_map}
use Rattle.gcc_units.specs.declared.limits.TheConstants.{BYTE, GREATEST_PACKET, MOST_PACKETS}
use Rattle.pace_budget.specs.Level.{full}
use Rattle.pace_queues.specs.declared.ticket.Ticket.{Ticket}
use Rattle.probe_clusters.specs.declared.cluster.Cluster.{Cluster}
use Rattle.probe_clusters.specs.Deeds.{Deed, Send, ReachedBy}
use Rattle.pacer.specs.declared.sent.Sent.{Sent}
use Rattle.pacer.specs.declared.sent.Kind.{Kind}
use Rattle.pacer.specs.declared.sent.Kind.TheVariants as kind
use Rattle.pacer.specs.declared.course.Course.{Course}
use Rattle.pacer.specs.declared.course.Terms.{Terms}
use Rattle.pacer.specs.Pace.{Standing}

abbrev pub standing : Course → List Cluster → ℕ → Standing
standing c clusters number =
    record { waiting = c.queues; media = c.media; padding = c.padding; clusters = clusters; began = c.began; number = number }

-- the packet is not too large
abbrev pub IsSmall : Ticket → Type 0
IsSmall t = t.size ≤ GREATEST_PACKET

abbrev pub IsSmallRecord : Sent → Type 0
IsSmallRecord r = r.size ≤ GREATEST_PACKET

-- no packet that waits is too large, and the floor is one that a bucket may have
pub record IsFit (terms : Terms) (c : Course) : Type 0 where
  pub small : All IsSmall c.queues
  pub low : neg_ℤ full ≤ℤ terms.floor
  pub high : terms.floor ≤ℤ pos 0

-- these clusters were reached by so few sends that so many more may follow
pub record HasRoom (more : ℕ) (now : List Cluster) : Type 0 where
  pub sends : ℕ
  pub reached : ReachedBy sends MOST_PACKETS now
  pub room : sends + more ≤ MOST_PACKETS

-- so many sends may have lowered the level, each by the most that one may take
abbrev pub IsLowered : ℕ → ℤ → Type 0
IsLowered sends level = neg_ℤ (pos (BYTE * GREATEST_PACKET * sends)) ≤ℤ level

-- so few sends lowered it that so many more may follow
pub record MayLower (more : ℕ) (level : ℤ) : Type 0 where
  pub sends : ℕ
  pub lowered : IsLowered sends level
  pub room : sends + more ≤ MOST_PACKETS

-- the packets that were sent for clusters
abbrev pub probe_as : ℕ → Kind → ℕ → List Deed
probe_as moment kind.Audio size = []
probe_as moment kind.Media size = []
probe_as moment (kind.Probe id) size = Send id size moment ∷ []
probe_as moment kind.Padding size = []

abbrev pub probe_by : ℕ → Sent → List Deed
probe_by moment r = probe_as moment r.kind r.size

abbrev pub probes_of : ℕ → List Sent → List Deed
probes_of moment records = flat_map (probe_by moment) records
