-- What a sender of the C library stands for.
use Rattle.std.specs.Prelude.{◌≡◌, ◌==◌, ◌⊎◌, ℕ, ◌<◌, length, Option, Result, Ok, Err, Bool, true, false, List, [], ◌∷◌, ◌++◌, drop, zip, slice_get}
use Rattle.gcc_units.specs.declared.class.Class.{Class}
use Rattle.gcc_units.specs.declared.class.Class.TheVariants as class
use Rattle.pacer.specs.declared.sent.Sent.{Sent}
use Rattle.sent_history.specs.declared.finding.Finding.{Finding}
use Rattle.send_core.specs.declared.call.Call.{Call}
use Rattle.send_core.specs.declared.call.Call.TheVariants.{Pace}
use Rattle.send_core.specs.declared.call.Entry.{Entry}
use Rattle.send_core.specs.declared.call.Reply.{Reply}
use Rattle.send_core.specs.declared.call.Reply.TheVariants.{Accepted, Refused}
use Rattle.capi.specs.declared.fault.Fault.{Fault}
use Rattle.capi.specs.declared.fault.Fault.TheVariants as fault
use Rattle.capi.specs.declared.popping.Popped.{Popped}
use Rattle.capi.specs.declared.popping.Popped.TheVariants.{Packet, Nothing, TooSmall}
use Rattle.send_core.specs.History.{entry, sent_by}
use Rattle.send_core.specs.Reply.{reply}
use Rattle.send_core.specs.Wires.{wires}
use Rattle.steered_sender.specs.declared.steering.TheConstants.{CONTROL_CALLER}
use Rattle.steered_sender.specs.Standing.{Kept, StandsFor, served}

-- a packet that left: its record, and its bytes
abbrev pub Leaving : Type 0
Leaving = Sent × List ℕ

-- the sender with its control, the packets of its last pace and what the last feedback told, of each those that were
-- not fetched yet
pub record Serving : Type 0 where
  pub steered : Kept
  pub kept : List Leaving
  pub findings : List Finding

-- those behind the first so many of the last pace
abbrev pub kept_from : ℕ → List Sent → List (List ℕ) → List Leaving
kept_from n sent packets = drop n (zip sent packets)

-- the history with one more call and its reply at its end
abbrev pub with_call : List Entry → ℕ → Call → List Entry
with_call history caller call = history ++ entry caller call (reply history call) ∷ []

-- a caller that is not the control
abbrev pub IsUser : ℕ → Type 0
IsUser caller = (caller == CONTROL_CALLER) ≡ false

-- What stood for a history stands for it with this call, whichever user made it, behind what the control asked for.
abbrev pub Serves : Kept → Kept → Call → Type 0
Serves before after call = (history : List Entry) (caller : ℕ) → IsUser caller → StandsFor before history → StandsFor after (with_call (served before history) caller call)

-- Nothing has changed, but that what the control asked for may have been served.
pub record Stays (before after : Serving) : Type 0 where
  pub stands : (history : List Entry) → StandsFor before.steered history → StandsFor after.steered history ⊎ StandsFor after.steered (served before.steered history)
  pub kept : after.kept ≡ before.kept
  pub findings : after.findings ≡ before.findings

-- the packets that leave with a pace
abbrev pub leaving : List Entry → ℕ → List Leaving
leaving history at = let given = reply history (Pace at) in zip (sent_by given) (wires history given)

-- the classes by their numbers
abbrev pub class_named : ℕ → Option Class
class_named n = slice_get (class.Audio ∷ class.Retransmission ∷ class.Video ∷ class.Fec ∷ []) n

-- what a packet that was handed in is told: its index, or why it was refused (no other reply is one to a packet)
abbrev pub index_of : Reply → Result ℕ Fault
index_of (Accepted moment index) = Ok index
index_of (Refused moment cause) = Err (fault.Refused cause)
index_of given = Ok 0

-- ---- pops

abbrev pub has_any : {X : Type 0} → List X → Bool
has_any [] = false
has_any (x ∷ xs) = true

-- what a pop at this moment looks at: what was kept, or else what one pace sends
abbrev pub filled : Kept → List Entry → ℕ → List Leaving → List Leaving
filled now history at [] = leaving (served now history) at
filled now history at (p ∷ ps) = p ∷ ps

-- the history after it
abbrev pub popped : Kept → List Entry → ℕ → ℕ → List Leaving → List Entry
popped now history caller at [] = with_call (served now history) caller (Pace at)
popped now history caller at (p ∷ ps) = history

-- A pop hands out the first packet into the front of the room; or there is none; or the room is smaller than the
-- first packet, which stays the first.
abbrev pub IsFetched : Popped → List Leaving → List Leaving → List ℕ → List ℕ → Type 0
IsFetched (Packet sent size) before after old new = (bytes : List ℕ) × (before ≡ (sent, bytes) ∷ after) × (size ≡ length bytes) × (new ≡ bytes ++ drop size old)
IsFetched Nothing before after old new = (before ≡ []) × (after ≡ []) × (new ≡ old)
IsFetched (TooSmall size) before after old new =
    (first : Leaving) × (rest : List Leaving) × (before ≡ first ∷ rest) × (after ≡ before) × (size ≡ length first.1) × (length old < size) × (new ≡ old)
