-- What is kept of a loop, and what it stands for.
use Rattle.std.specs.Prelude.{◌≡◌, ℕ, pos, ◌+◌, ◌≤◌, ◌≤ℤ◌, List, [], ◌∷◌, length, map, All, Ok}
use Rattle.gcc_units.specs.declared.limits.TheConstants.{GREATEST_PACKET}
use Rattle.twcc_report.specs.Spelling.{Feedback, view}
use Rattle.twcc_report.specs.Reading.{read_of}
use Rattle.twcc_report.specs.Canonical.{canonical}
use Rattle.twcc_report.specs.declared.report.Report.{Report}
use Rattle.pacer.specs.declared.sent.Sent.{Sent}
use Rattle.send_core.specs.declared.call.Call.{Call}
use Rattle.send_core.specs.declared.call.Call.TheVariants as call
use Rattle.send_core.specs.declared.call.Entry.{Entry}
use Rattle.send_core.specs.History.{sent}
use Rattle.send_core.specs.Reply.{IsLegal}
use Rattle.call_trace.specs.Making.{is_audio, is_video, count_of}
use Rattle.link_path.specs.declared.link.LinkSettings.{LinkSettings}
use Rattle.link_path.specs.declared.link.Arrival.{Arrival}
use Rattle.link_path.specs.Link.{offers, held, delivered, dropped}
use Rattle.link_path.specs.KeptLink.{StandsFor, HasBytes, IsLink}
use Rattle.link_path.specs.Receiver.{IsWritable, next_from}
use Rattle.link_loop.specs.declared.looper.Looper.{Looper}
use Rattle.link_loop.specs.Looping.{Looping}

-- the canonical spelling of the report reads as it, and its reference is in its range
pub record IsRead (f : Feedback) : Type 0 where
  pub reads : read_of (canonical f) ≡ Ok f
  pub high : f.reference ≤ℤ pos 8388607

pub record IsAt (l : Looper) (s : LinkSettings) (m : Looping) : Type 0 where
  pub history : l.sender ≡ m.history
  pub link : StandsFor l.link s m.events
  pub receiver : l.receiver ≡ m.receiver
  pub delivered : l.delivered.items ≡ delivered s m.events
  pub dropped : l.dropped.items ≡ dropped s (offers m.events)
  pub reports : map view l.reports.items ≡ m.reports
  pub over : l.over ≡ m.over
  pub read : All IsRead m.reports

-- a packet that is enqueued has bytes, and not too many
abbrev pub IsFit : Call → Type 0
IsFit (call.Enqueue at class wire) = (1 ≤ length wire.items) × (length wire.items ≤ GREATEST_PACKET)
IsFit (call.Pace at) = Unit {0}
IsFit (call.Report at bytes) = Unit {0}
IsFit (call.Configure at change) = Unit {0}

abbrev pub HasFitCall : Entry → Type 0
HasFitCall e = IsFit e.call

-- the counts are those of the calls, and the packets fit
pub record IsSound (l : Looper) : Type 0 where
  pub audio : l.audio ≡ count_of is_audio l.sender
  pub video : l.video ≡ count_of is_video l.sender
  pub fit : All HasFitCall l.sender

-- a packet that is sent has bytes, and not too many
pub record IsSendable (r : Sent) : Type 0 where
  pub some : 1 ≤ r.size
  pub most : r.size ≤ GREATEST_PACKET

abbrev pub HasSpelling : Report → Type 0
HasSpelling r = IsWritable (view r)

-- numbers rise, from one on and below another
abbrev pub RiseWithin : ℕ → List Arrival → ℕ → Type 0
RiseWithin low [] high = low ≤ high
RiseWithin low (a ∷ later) high = (low ≤ a.number) × RiseWithin (a.number + 1) later high

-- The history is legal; what is inside the link comes behind what the receiver took, and before what will be sent
pub record IsInOrder (s : LinkSettings) (m : Looping) : Type 0 where
  pub link : IsLink s
  pub legal : IsLegal m.history
  pub fit : All HasFitCall m.history
  pub rise : RiseWithin (next_from m.receiver.from m.receiver.taken) (held s m.events) (length (sent m.history))
  pub bytes : All HasBytes (offers m.events)

-- what is kept, where the receiver may take what arrives
pub record IsReady (l : Looper) : Type 0 where
  pub settings : LinkSettings
  pub so_far : Looping
  pub at : IsAt l settings so_far
  pub order : IsInOrder settings so_far
