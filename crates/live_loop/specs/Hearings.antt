-- A receiver that takes packets in rising order, and its reports on their way back.
use Rattle.std.specs.Prelude.{◌≡◌, ℕ, ◌+◌, ◌^◌, ◌-◌, Bool, nat_lt, nat_le, ◌&&◌, if◌then◌else◌, List, [], ◌∷◌, ◌++◌}
use Rattle.link_path.specs.declared.TheConstants.{GREATEST_TAKEN}
use Rattle.twcc_report.specs.declared.report.Report.{Report}
use Rattle.twcc_report.specs.Spelling.{view}
use Rattle.link_path.specs.Receiver.{KeptReceiver, IsWritable, next_from}
use Rattle.live_loop.specs.declared.hearing.Feedback.{Feedback}
use Rattle.live_loop.specs.declared.way.Coming.{Coming}

pub record KeptHearing : Type 0 where
  pub receiver : KeptReceiver
  pub back : List Feedback

-- the number behind the last one that was taken
pub record IsKeptHearing (receiver : KeptReceiver) (next : ℕ) : Type 0 where
  pub is : next ≡ next_from receiver.from receiver.taken

-- its number is behind those that were taken, and it and its moment are in their ranges
abbrev pub is_new : KeptReceiver → Coming → Bool
is_new r c = nat_le (next_from r.from r.taken) c.packet.number && nat_lt c.packet.number (2 ^ 64 - 1) && nat_le c.at GREATEST_TAKEN

abbrev pub taken_by : KeptReceiver → Coming → KeptReceiver
taken_by r c = record r { taken = r.taken ++ (record { number = c.packet.number; at = c.at }) ∷ [] }

abbrev pub taken : KeptHearing → Coming → KeptHearing
taken h c = record h { receiver = (if is_new h.receiver c then taken_by h.receiver c else h.receiver) }

abbrev pub HasSpelling : Report → Type 0
HasSpelling r = IsWritable (view r)
