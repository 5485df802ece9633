-- Replies whose lists promise no room, so that two of them with the same items are the same.
use Rattle.std.specs.Prelude.{◌≡◌, ◌≤◌, List, [], length}
use Rattle.gcc_units.specs.declared.shared_types.Credit.{Credit}
use Rattle.gcc_units.specs.declared.shared_types.Share.{Share}
use Rattle.gcc_units.specs.Listed.{bare}
use Rattle.send_core.specs.declared.call.Reply.{Reply}
use Rattle.send_core.specs.declared.copies.Rooms.{Rooms}
use Rattle.send_core.specs.History.{sent_by}
use Rattle.send_core.specs.declared.call.Reply.TheVariants.{Accepted, Paced, Credited, Configured, Refused}

abbrev pub IsSettled : Reply → Type 0
IsSettled (Paced moment records) = records ≡ bare records.items
IsSettled (Accepted moment index) = Unit {0}
IsSettled (Credited moment judged signal m acked rates shares) = (judged.received ≡ bare judged.received.items) × (shares ≡ bare shares.items)
IsSettled (Configured moment rates shares) = shares ≡ bare shares.items
IsSettled (Refused moment cause) = Unit {0}

-- the credits of a reply, and its shares
abbrev pub credits_by : Reply → List Credit
credits_by (Credited moment judged signal m acked rates shares) = judged.received.items
credits_by reply = []

abbrev pub shares_by : Reply → List Share
shares_by (Credited moment judged signal m acked rates shares) = shares.items
shares_by (Configured moment rates shares) = shares.items
shares_by reply = []

-- room for the lists of a reply
pub record HasRoom (given : Reply) (room : Rooms) : Type 0 where
  pub no_records : room.sent.items ≡ []
  pub no_credits : room.received.items ≡ []
  pub no_shares : room.shares.items ≡ []
  pub records : length (sent_by given) ≤ room.sent.spare
  pub credits : length (credits_by given) ≤ room.received.spare
  pub shares : length (shares_by given) ≤ room.shares.spare
