-- One pace: which packets are sent, in which order, under which numbers.
-- ---- records and tickets
use Rattle.std.specs.Prelude.{ℕ, ℤ, pos, suc, zero, ◌+◌, ◌-ℤ◌, ◌<◌, ◌==◌, ◌&&◌, ◌||◌, Bool, true, false, not, Option, None, Some, List, [], ◌∷◌, filter, fold, int_lt, if◌then◌else◌}
use Rattle.std.specs.Int.{int_min, int_max}
use Rattle.std.specs.List.{list_any}
use Rattle.gcc_units.specs.declared.class.Class.{Class}
use Rattle.gcc_units.specs.declared.class.Class.TheVariants.{Audio, Retransmission, Video, Fec}
use Rattle.gcc_units.specs.declared.limits.TheConstants.{PADDING_PACKET}
use Rattle.pace_budget.specs.Level.{Deed, Spend, Probe, bits}
use Rattle.pace_budget.specs.Steps.{step}
use Rattle.pace_queues.specs.declared.ticket.Ticket.{Ticket}
use Rattle.pace_queues.specs.Waiting.{next}
use Rattle.probe_clusters.specs.declared.cluster.Cluster.{Cluster}
use Rattle.probe_clusters.specs.Clusters.{due, sent}
use Rattle.pacer.specs.declared.sent.Sent.{Sent}
use Rattle.pacer.specs.declared.sent.Kind.{Kind}
use Rattle.pacer.specs.declared.sent.Kind.TheVariants as kind
use Rattle.pacer.specs.declared.course.Terms.{Terms}

-- the record is of this accepted packet
abbrev pub is_index : ℕ → Option ℕ → Bool
is_index k None = false
is_index k (Some j) = k == j

-- some record is of this accepted packet
abbrev pub names : ℕ → List Sent → Bool
names k records = list_any (λ (r : Sent). is_index k r.index) records

-- what it is of, if it is of one, is among the first accepted packets
abbrev pub IsBelow : ℕ → Option ℕ → Type 0
IsBelow count None = Unit {0}
IsBelow count (Some index) = index < count

abbrev pub NamesBelow : ℕ → Sent → Type 0
NamesBelow count r = IsBelow count r.index

-- the packets that no record is of
abbrev pub unsent : List Sent → List Ticket → List Ticket
unsent records tickets = filter (λ (t : Ticket). not (names t.index records)) tickets

-- ---- what a record does to the levels and the clusters

-- what it spends from the media level
abbrev pub deed_by : Kind → ℕ → List Deed
deed_by kind.Audio size = []
deed_by kind.Media size = Spend size ∷ []
deed_by (kind.Probe id) size = Probe size ∷ []
deed_by kind.Padding size = []

abbrev pub deed_of : Sent → List Deed
deed_of r = deed_by r.kind r.size

-- the padding level after it: a media packet spends softly, down to the floor
abbrev pub padding_by : ℤ → ℤ → Kind → ℕ → ℤ
padding_by floor level kind.Audio size = level
padding_by floor level kind.Media size = int_max (level -ℤ bits size) (int_min level floor)
padding_by floor level (kind.Probe id) size = level
padding_by floor level kind.Padding size = level -ℤ bits size

abbrev pub padding_after : ℤ → ℤ → Sent → ℤ
padding_after floor level r = padding_by floor level r.kind r.size

-- a probe packet counts for the current cluster
abbrev pub clusters_by : ℕ → List Cluster → Kind → ℕ → List Cluster
clusters_by moment cs kind.Audio size = cs
clusters_by moment cs kind.Media size = cs
clusters_by moment cs (kind.Probe id) size = sent size moment cs
clusters_by moment cs kind.Padding size = cs

abbrev pub clusters_after : ℕ → List Cluster → Sent → List Cluster
clusters_after moment cs r = clusters_by moment cs r.kind r.size

abbrev pub is_media : Kind → Bool
is_media kind.Audio = false
is_media kind.Media = true
is_media (kind.Probe id) = false
is_media kind.Padding = false

-- ---- the rules

-- how a pace stands: what waits, both levels, the clusters, whether media was sent before, and the number that comes next
pub record Standing : Type 0 where
  pub waiting : List Ticket
  pub media : ℤ
  pub padding : ℤ
  pub clusters : List Cluster
  pub began : Bool
  pub number : ℕ

abbrev pub is_audio : Class → Bool
is_audio Audio = true
is_audio Retransmission = false
is_audio Video = false
is_audio Fec = false

-- a packet that waits, and a padding packet, sent as a kind under a number
abbrev pub record_of : ℕ → Kind → Ticket → Sent
record_of number sent_as t = record { number = number; index = Some t.index; kind = sent_as; size = t.size }

abbrev pub padding_of : ℕ → Kind → Sent
padding_of number sent_as = record { number = number; index = None; kind = sent_as; size = PADDING_PACKET }

-- the index of a packet, where there is one
abbrev pub index_of : Option Ticket → Option ℕ
index_of None = None
index_of (Some t) = Some t.index

-- the next waiting packet, or a padding packet where nothing waits
abbrev pub packet_of : ℕ → Kind → Option Ticket → Sent
packet_of number sent_as None = padding_of number sent_as
packet_of number sent_as (Some t) = record_of number sent_as t

-- Rule 1: the next waiting packet is audio, and audio is not held back.
abbrev pub audio_rule : Terms → Standing → Option Ticket → Option Sent
audio_rule terms s None = None
audio_rule terms s (Some t) = if is_audio t.class && not terms.paced_audio then Some (record_of s.number kind.Audio t) else None

-- Rule 2: a cluster is due.
abbrev pub probe_rule : Standing → Option ℕ → Option Ticket → Option Sent
probe_rule s None o = None
probe_rule s (Some id) o = Some (packet_of s.number (kind.Probe id) o)

-- Rule 3: something waits and the media level is above 0.
abbrev pub media_rule : Standing → Option Ticket → Option Sent
media_rule s None = None
media_rule s (Some t) = if int_lt (pos 0) s.media then Some (record_of s.number kind.Media t) else None

-- Rule 4: nothing waits, the padding level is above 0 and media was sent before.
abbrev pub padding_rule : Standing → Option Ticket → Option Sent
padding_rule s None = if int_lt (pos 0) s.padding && s.began then Some (padding_of s.number kind.Padding) else None
padding_rule s (Some t) = None

abbrev pub or_else : Option Sent → Option Sent → Option Sent
or_else None o = o
or_else (Some r) o = Some r

-- the first rule that applies
abbrev pub rule_for : Terms → Standing → Option ℕ → Option Ticket → Option Sent
rule_for terms s id o = or_else (audio_rule terms s o) (or_else (probe_rule s id o) (or_else (media_rule s o) (padding_rule s o)))

-- what is sent next, if something is
abbrev pub rule : Terms → Standing → Option Sent
rule terms s = rule_for terms s (due s.clusters terms.moment) (next s.waiting)

-- how it stands after that
abbrev pub after : Terms → Standing → Sent → Standing
after terms s r = record {
  waiting = unsent (r ∷ []) s.waiting;
  media = fold step s.media (deed_of r);
  padding = padding_after terms.floor s.padding r;
  clusters = clusters_after terms.moment s.clusters r;
  began = s.began || is_media r.kind;
  number = s.number + 1;
}

abbrev pub then_on : Option Sent → (Sent → List Sent) → List Sent
then_on None more = []
then_on (Some r) more = r ∷ more r

-- the sends of one pace, at most so many
unfoldable pub paced : ℕ → Terms → Standing → List Sent
paced zero terms s = []
paced (suc most) terms s = then_on (rule terms s) (λ r. paced most terms (after terms s r))

-- how a pace stands after these sends
abbrev pub after_all : Terms → Standing → List Sent → Standing
after_all terms s records = fold (after terms) s records
