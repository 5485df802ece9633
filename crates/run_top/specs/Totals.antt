-- What was sent, counted.
use Rattle.std.specs.Prelude.{ℕ, ◌+◌, ◌*◌, ◌^◌, ◌≤◌, Bool, true, false, List, length, sum_by, count_by, if◌then◌else◌}
use Rattle.pacer.specs.declared.sent.Sent.{Sent}
use Rattle.pacer.specs.declared.sent.Kind.{Kind}
use Rattle.pacer.specs.declared.sent.Kind.TheVariants as kind
use Rattle.run_top.specs.declared.totals.Totals.{Totals}

abbrev pub size_of : Sent → ℕ
size_of r = r.size

abbrev pub is_audio : Kind → Bool
is_audio kind.Audio = true
is_audio kind.Media = false
is_audio (kind.Probe id) = false
is_audio kind.Padding = false

abbrev pub is_media : Kind → Bool
is_media kind.Audio = false
is_media kind.Media = true
is_media (kind.Probe id) = false
is_media kind.Padding = false

abbrev pub is_probe : Kind → Bool
is_probe kind.Audio = false
is_probe kind.Media = false
is_probe (kind.Probe id) = true
is_probe kind.Padding = false

abbrev pub is_padding : Kind → Bool
is_padding kind.Audio = false
is_padding kind.Media = false
is_padding (kind.Probe id) = false
is_padding kind.Padding = true

-- how many records are of such a kind
abbrev pub count_kind : (Kind → Bool) → List Sent → ℕ
count_kind is records = count_by (λ (r : Sent). is r.kind) records

abbrev pub totals_of : List Sent → Totals
totals_of records = record {
  packets = length records;
  bytes = sum_by size_of records;
  audio = count_kind is_audio records;
  media = count_kind is_media records;
  probe = count_kind is_probe records;
  padding = count_kind is_padding records;
}

-- one where it is so
abbrev pub one_if : Bool → ℕ
one_if b = if b then 1 else 0

-- a packet more
abbrev pub counted : Totals → Sent → Totals
counted t r = record {
  packets = t.packets + 1;
  bytes = t.bytes + r.size;
  audio = t.audio + one_if (is_audio r.kind);
  media = t.media + one_if (is_media r.kind);
  probe = t.probe + one_if (is_probe r.kind);
  padding = t.padding + one_if (is_padding r.kind);
}

-- so small that a packet more can be counted
pub record IsSmall (t : Totals) : Type 0 where
  pub packets : t.packets ≤ 2 ^ 60
  pub bytes : t.bytes ≤ t.packets * 2 ^ 32
  pub audio : t.audio ≤ t.packets
  pub media : t.media ≤ t.packets
  pub probe : t.probe ≤ t.packets
  pub padding : t.padding ≤ t.packets
