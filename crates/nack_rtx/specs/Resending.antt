-- What is sent again for NACKs.
use Rattle.std.specs.Prelude.{ℕ, ◌+◌, ◌%◌, Bool, true, false, nat_lt, nat_le, ◌==◌, ◌&&◌, if◌then◌else◌, List, [], ◌∷◌, ◌++◌, length, fold, sum, count_by, slice_index, slice_index_or, slice_set, Option, Some, None}
use Rattle.std.specs.List.{flat_map}
use Rattle.gcc_units.specs.Listed.{bare}
use Rattle.gcc_units.specs.Walk.{each_by}
use Rattle.rtp_wire.specs.Place.{field16, field32}
use Rattle.nack_rtx.specs.declared.TheConstants.{MOST_STORED, MOST_KEPT_BYTES}
use Rattle.nack_rtx.specs.declared.resender.RtxSettings.{RtxSettings}
use Rattle.nack_rtx.specs.declared.resender.Resend.{Resend}
use Rattle.nack_rtx.specs.declared.resender.Answered.{Answered}
use Rattle.nack_rtx.specs.declared.resender.Verdict.{Verdict}
use Rattle.nack_rtx.specs.declared.resender.Verdict.TheVariants.{Unknown, Spent, Again}
use Rattle.nack_rtx.specs.Packets.{resent_packet}

-- a packet that was sent, or a NACK by its media and its lost numbers
pub data Event : Type 0 where
  kept : List ℕ → Event
  asked : ℕ → List ℕ → Event

-- all packets that were kept, in order, and how often each of them was sent again
pub record Account : Type 0 where
  pub packets : List (List ℕ)
  pub resent : List ℕ

abbrev pub nothing : Account
nothing = record { packets = []; resent = [] }

-- it is of the media, and has room for its original sequence number
abbrev pub is_kept : RtxSettings → List ℕ → Bool
is_kept s bytes = field32 8 bytes == s.media && nat_le (length bytes) MOST_KEPT_BYTES

-- ---- which packet a number names

abbrev pub or_else : Option ℕ → Option ℕ → Option ℕ
or_else (Some place) other = Some place
or_else None other = other

-- the place of the last packet with this sequence number, where the first of the packets is at this place
abbrev pub last_from : ℕ → ℕ → List (List ℕ) → Option ℕ
last_from seq at [] = None
last_from seq at (packet ∷ packets) = or_else (last_from seq (at + 1) packets) (if field16 2 packet == seq then Some at else None)

-- it is one of the newest
abbrev pub if_newest : ℕ → Option ℕ → Option ℕ
if_newest count None = None
if_newest count (Some place) = if nat_le count (place + MOST_STORED) then Some place else None

-- the place of the stored packet with this sequence number: stored are the newest, except those that have a later packet with the
-- same number
abbrev pub stored : List (List ℕ) → ℕ → Option ℕ
stored packets seq = if_newest (length packets) (last_from seq 0 packets)

-- ---- what becomes of a number

abbrev pub resend_of : RtxSettings → Account → ℕ → ℕ → Resend
resend_of s a seq place = record { seq = seq; packet = bare (resent_packet s.payload (sum a.resent % 65536) s.rtx (slice_index_or a.packets place [])) }

abbrev pub verdict_on : RtxSettings → Account → ℕ → Option ℕ → Verdict
verdict_on s a seq None = Unknown
verdict_on s a seq (Some place) =
    if nat_lt (slice_index a.resent place) s.repeats then Again place (slice_index a.resent place + 1) (resend_of s a seq place) else Spent

-- unknown, spent, or sent again with this packet
abbrev pub verdict : RtxSettings → ℕ → Account → ℕ → Verdict
verdict s media a seq = if media == s.media then verdict_on s a seq (stored a.packets seq) else Unknown

-- the account after it
abbrev pub after : Account → Verdict → Account
after a Unknown = a
after a Spent = a
after a (Again place times resend) = record { packets = a.packets; resent = slice_set a.resent place times }

-- the account after numbers, one after the other
abbrev pub left : RtxSettings → ℕ → Account → List ℕ → Account
left s media a seqs = fold (λ (b : Account) (seq : ℕ). after b (verdict s media b seq)) a seqs

-- what becomes of each number, by the account that those before it left
abbrev pub verdicts : RtxSettings → ℕ → Account → List ℕ → List Verdict
verdicts s media a seqs = each_by (λ before seq. verdict s media (left s media a before) seq) [] seqs

-- ---- what is told

abbrev pub resend_in : Verdict → List Resend
resend_in Unknown = []
resend_in Spent = []
resend_in (Again place times resend) = resend ∷ []

abbrev pub is_unknown : Verdict → Bool
is_unknown Unknown = true
is_unknown Spent = false
is_unknown (Again place times resend) = false

abbrev pub is_spent : Verdict → Bool
is_spent Unknown = false
is_spent Spent = true
is_spent (Again place times resend) = false

abbrev pub told : List Verdict → Answered
told vs = record { resends = bare (flat_map resend_in vs); unknown = count_by is_unknown vs; spent = count_by is_spent vs }

-- ---- all events

abbrev pub keeping : Account → List ℕ → Account
keeping a bytes = record { packets = a.packets ++ bytes ∷ []; resent = a.resent ++ 0 ∷ [] }

abbrev pub after_event : RtxSettings → Account → Event → Account
after_event s a (kept bytes) = if is_kept s bytes then keeping a bytes else a
after_event s a (asked media seqs) = left s media a seqs

unfoldable pub account : RtxSettings → List Event → Account
account s events = fold (after_event s) nothing events
