-- How one stands who serves lines on a seat of its own.
use Rattle.std.specs.Prelude.{◌≡◌, ℕ, ◌≤◌, Option, None, unwrap_or, List}
use Rattle.send_core.specs.declared.call.Call.{Call}
use Rattle.send_core.specs.declared.call.Call.TheVariants.{Enqueue, Pace, Report, Configure}
use Rattle.send_core.specs.declared.call.Reply.{Reply}
use Rattle.send_core.specs.declared.call.Reply.TheVariants.{Accepted, Paced, Credited, Configured, Refused}
use Rattle.send_core.specs.Reply.{extension_id}
use Rattle.send_laws.specs.Reading.{IsRead}
use Rattle.nack_rtx.specs.declared.resender.RtxSettings.{RtxSettings}
use Rattle.nack_rtx.specs.Keeping.{StandsFor}
use Rattle.shared_sender.specs.Served.{journal_of}
use Rattle.resending.specs.declared.server.Server.{Server}
use Rattle.resending.specs.Serving.{Serving}
use Rattle.resending.specs.Alone.{IsAlone}

-- ---- the ID of the extension element

-- the ID that a call names, if it names one
abbrev pub named_by : Call → Option ℕ
named_by (Enqueue at class wire) = None
named_by (Pace at) = None
named_by (Report at bytes) = None
named_by (Configure at change) = change.extension_id

-- the ID in force after the reply to a call that names this one
abbrev pub id_after : ℕ → Option ℕ → Reply → ℕ
id_after id named (Configured moment rates shares) = unwrap_or named id
id_after id named (Accepted moment index) = id
id_after id named (Paced moment records) = id
id_after id named (Credited moment judged signal m acked rates shares) = id
id_after id named (Refused moment cause) = id

-- the packet is read with this ID, which is in its range
pub record CanRead (id : ℕ) (wire : List ℕ) : Type 0 where
  pub low : 1 ≤ id
  pub high : id ≤ 14
  pub is_read : IsRead id wire

-- ---- the server

-- it has served what these lists say
pub record IsAt (s : RtxSettings) (v : Serving) (server : Server) : Type 0 where
  pub history : journal_of server.seat.seen ≡ v.history
  pub settings : server.resender.settings ≡ s
  pub events : StandsFor server.resender v.events
  pub id : server.extension_id ≡ extension_id v.history
  pub nacks : server.nacks.items ≡ v.nacks
  pub glances : server.glances.items ≡ v.glances

-- the same, unless someone else called
abbrev pub Stands : RtxSettings → Serving → Server → Type 0
Stands s v server = IsAlone server.seat → IsAt s v server
