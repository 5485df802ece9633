-- What serving the lines of a trace of one actor gives, where NACKs are answered.
use Rattle.std.specs.Prelude.{ℕ, Option, None, Some, List, [], ◌∷◌, ◌++◌, length, map, fold, Result, Ok, Err}
use Rattle.gcc_units.specs.Listed.{Listed}
use Rattle.gcc_units.specs.declared.class.Class.TheVariants.{Retransmission}
use Rattle.pacer.specs.declared.sent.Sent.{Sent}
use Rattle.send_core.specs.declared.call.Call.{Call}
use Rattle.send_core.specs.declared.call.Call.TheVariants.{Enqueue, Pace, Report, Configure}
use Rattle.send_core.specs.declared.call.Reply.{Reply}
use Rattle.send_core.specs.declared.call.Entry.{Entry}
use Rattle.send_core.specs.History.{entry, sent_by}
use Rattle.send_core.specs.Reply.{reply, target}
use Rattle.send_core.specs.Wires.{wires}
use Rattle.nack_rtx.specs.declared.fault.NackFault.{NackFault}
use Rattle.nack_rtx.specs.declared.resender.RtxSettings.{RtxSettings}
use Rattle.nack_rtx.specs.declared.resender.Resend.{Resend}
use Rattle.nack_rtx.specs.declared.resender.Answered.{Answered}
use Rattle.nack_rtx.specs.Spelling.{Asked}
use Rattle.nack_rtx.specs.Reading.{nack_of}
use Rattle.nack_rtx.specs.Resending.{Event, kept, asked, account, verdicts, told}
use Rattle.call_trace.specs.declared.trace.Action.{Action}
use Rattle.call_trace.specs.declared.trace.Action.TheVariants.{Ask, Look}
use Rattle.call_trace.specs.declared.trace.Line.{Line}
use Rattle.reply_text.specs.declared.seen.Seen.{Seen}
use Rattle.resending.specs.declared.nack_line.NackLine.{NackLine}

-- The sender's history; the packets that were kept and the NACKs that were answered, in their order; what is told of each NACK; and
-- the glances.
pub record Serving : Type 0 where
  pub history : List Entry
  pub events : List Event
  pub nacks : List NackLine
  pub glances : List Seen

abbrev pub nothing : Serving
nothing = record { history = []; events = []; nacks = []; glances = [] }

-- ---- calls

-- the history with a call more of the one actor
abbrev pub called : List Entry → Call → List Entry
called history call = history ++ entry 0 call (reply history call) ∷ []

-- a packet that left is kept where it was handed in: a padding packet has no index
abbrev pub kept_as : List ℕ → Option ℕ → List Event
kept_as wire None = []
kept_as wire (Some index) = kept wire ∷ []

-- of packets and their records, those that are kept
abbrev pub kept_among : List (List ℕ) → List Sent → List Event
kept_among [] records = []
kept_among (wire ∷ packets) [] = []
kept_among (wire ∷ packets) (r ∷ records) = kept_as wire r.index ++ kept_among packets records

-- what is kept of the packets that leave with a reply
abbrev pub kept_by : List Entry → Reply → List Event
kept_by history given = kept_among (wires history given) (sent_by given)

abbrev pub served_call : Serving → Call → Serving
served_call v call = record {
  history = called v.history call;
  events = v.events ++ kept_by v.history (reply v.history call);
  nacks = v.nacks;
  glances = v.glances;
}

-- ---- NACKs

-- what becomes of a NACK's numbers, by all packets that were kept and all NACKs that were answered before it
abbrev pub answer_to : RtxSettings → List Event → Asked → Answered
answer_to s events nack = told (verdicts s nack.media (account s events) nack.lost)

-- a packet that is sent again is handed in at the NACK's moment
abbrev pub resend_call : ℕ → Resend → Call
resend_call at resend = Enqueue at Retransmission resend.packet

abbrev pub nack_line : List ℕ → Answered → NackLine
nack_line lost answer = record { named = length lost; resent = length answer.resends.items; unknown = answer.unknown; spent = answer.spent }

-- A NACK is no entry of the history; the packets that are sent again for it are, each by the entries before it.
unfoldable pub served_nack : RtxSettings → Serving → ℕ → Asked → Serving
served_nack s v at nack = record {
  history = fold called v.history (map (resend_call at) (answer_to s v.events nack).resends.items);
  events = v.events ++ asked nack.media nack.lost ∷ [];
  nacks = v.nacks ++ nack_line nack.lost (answer_to s v.events nack) ∷ [];
  glances = v.glances;
}

-- bytes that are read as a NACK are one, and others are a report
abbrev pub served_report : RtxSettings → Serving → ℕ → Listed ℕ → Result Asked NackFault → Serving
served_report s v at bytes (Ok nack) = served_nack s v at nack
served_report s v at bytes (Err fault) = served_call v (Report at bytes)

-- ---- lines

abbrev pub served_asking : RtxSettings → Serving → Call → Serving
served_asking s v (Enqueue at class wire) = served_call v (Enqueue at class wire)
served_asking s v (Pace at) = served_call v (Pace at)
served_asking s v (Report at bytes) = served_report s v at bytes (nack_of bytes.items)
served_asking s v (Configure at change) = served_call v (Configure at change)

-- what the actor sees: how many calls there were, and the target after them
abbrev pub seen_at : List Entry → Seen
seen_at history = record { actor = 0; calls = length history; target = target history }

abbrev pub served_look : Serving → Serving
served_look v = record { history = v.history; events = v.events; nacks = v.nacks; glances = v.glances ++ seen_at v.history ∷ [] }

abbrev pub served_action : RtxSettings → Serving → Action → Serving
served_action s v (Ask call) = served_asking s v call
served_action s v Look = served_look v

abbrev pub served_line : RtxSettings → Serving → Line → Serving
served_line s v line = served_action s v line.action

-- the lines are served one after the other
unfoldable pub serving : RtxSettings → List Line → Serving
serving s lines = fold (served_line s) nothing lines
