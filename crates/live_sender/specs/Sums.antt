-- What a history adds up to: the packets that were sent, by what they were sent as, and what reports said of them.
use Rattle.std.specs.Prelude.{◌≡◌, ℕ, ◌+◌, ◌≤◌, Bool, true, false, List, length, filter, sum_by, count_by, min, All}
use Rattle.sent_history.specs.Crediting.{account}
use Rattle.pacer.specs.declared.sent.Sent.{Sent}
use Rattle.pacer.specs.declared.sent.Kind.{Kind}
use Rattle.pacer.specs.declared.sent.Kind.TheVariants as kind
use Rattle.pacer.specs.Course.{IsSmallRecord}
use Rattle.send_core.specs.declared.call.Entry.{Entry}
use Rattle.send_core.specs.declared.counts.TheConstants.{MOST_SENT}
use Rattle.send_core.specs.History.{sent}
use Rattle.send_core.specs.Reports.{events}
use Rattle.live_sender.specs.declared.sums.Total.{Total}
use Rattle.live_sender.specs.declared.sums.SentTotals.{SentTotals}
use Rattle.live_sender.specs.declared.sums.Sums.{Sums}
use Rattle.live_sender.specs.declared.sums.TheConstants.{MOST_COUNTED}
use Rattle.live_sender.specs.Replies.{is_refused}

abbrev pub is_audio : Kind → Bool
is_audio kind.Audio = true
is_audio kind.Media = false
is_audio (kind.Probe id) = false
is_audio kind.Padding = false

abbrev pub is_media : Kind → Bool
is_media kind.Audio = false
is_media kind.Media = true
is_media (kind.Probe id) = false
is_media kind.Padding = false

abbrev pub is_probe : Kind → Bool
is_probe kind.Audio = false
is_probe kind.Media = false
is_probe (kind.Probe id) = true
is_probe kind.Padding = false

abbrev pub is_padding : Kind → Bool
is_padding kind.Audio = false
is_padding kind.Media = false
is_padding (kind.Probe id) = false
is_padding kind.Padding = true

-- the records of these kinds
abbrev pub sent_as : (Kind → Bool) → List Sent → List Sent
sent_as test records = filter (λ (r : Sent). test r.kind) records

abbrev pub size_in : Sent → ℕ
size_in r = r.size

-- how many there are, and their bytes
abbrev pub total_of : List Sent → Total
total_of records = record { packets = length records; bytes = sum_by size_in records }

-- those of each kind
abbrev pub totals_of : List Sent → SentTotals
totals_of records = record {
  audio = total_of (sent_as is_audio records);
  media = total_of (sent_as is_media records);
  probes = total_of (sent_as is_probe records);
  padding = total_of (sent_as is_padding records);
}

-- how many packets the reports of a history credited, and of how many they said that they are missing
abbrev pub credited : List Entry → ℕ
credited history = length (account (events history)).credited

abbrev pub missing : List Entry → ℕ
missing history = length (account (events history)).missed

-- how many of its calls were refused, at most the greatest number that is counted
abbrev pub refused : List Entry → ℕ
refused history = min MOST_COUNTED (count_by (λ (e : Entry). is_refused e.reply) history)

abbrev pub sums_of : List Entry → Sums
sums_of history = record { sent = totals_of (sent history); credited = credited history; missing = missing history; refused = refused history }

-- ---- ranges

-- these are the totals of some records; none of them and of these is too large, and all together are no more than may be sent
pub record MayCount (totals : SentTotals) (records : List Sent) : Type 0 where
  pub before : List Sent
  pub are : totals ≡ totals_of before
  pub small_before : All IsSmallRecord before
  pub small : All IsSmallRecord records
  pub few : length before + length records ≤ MOST_SENT
