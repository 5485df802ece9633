-- A change of the settings as C hands it in.
use Rattle.std.specs.Prelude.{◌≡◌, ℕ, ◌/◌, ◌%◌, ◌==◌, ◌≤◌, nat_lt, Bool, true, false, if◌then◌else◌, Option, None, Some, Result, Ok, Err, IfErr, List, map}
use Rattle.gcc_units.specs.Listed.{bare}
use Rattle.allocator.specs.declared.stream.Stream.{Stream}
use Rattle.send_core.specs.declared.call.Call.{Call}
use Rattle.send_core.specs.declared.call.Call.TheVariants.{Configure}
use Rattle.send_core.specs.declared.call.Change.{Change}
use Rattle.send_core.specs.declared.call.Entry.{Entry}
use Rattle.send_core.specs.declared.call.Reply.{Reply}
use Rattle.send_core.specs.declared.call.Reply.TheVariants.{Refused}
use Rattle.send_core.specs.Reply.{reply}
use Rattle.live_sender.specs.Live.{is_exhausted}
use Rattle.steered_sender.specs.Standing.{StandsFor, served}
use Rattle.capi.specs.declared.fault.Fault.{Fault}
use Rattle.capi.specs.declared.fault.Fault.TheVariants as fault
use Rattle.capi.specs.declared.changing.Settings.{Settings}
use Rattle.capi.specs.declared.changing.StreamGiven.{StreamGiven}
use Rattle.capi.specs.declared.changing.TheConstants.{MOST_NAMED}
use Rattle.capi.specs.Codes.{is_served, IfExhausted}
use Rattle.capi.specs.Serving.{Serving, Serves, Stays}

-- what the mask names by this bit, a power of two
abbrev pub named : {X : Type 0} → ℕ → ℕ → X → Option X
named mask bit value = if mask / bit % 2 == 1 then Some value else None

-- 0 is no, all else yes
abbrev pub yes_of : ℕ → Bool
yes_of n = nat_lt 0 n

abbrev pub stream_of : StreamGiven → Stream
stream_of s = record { id = s.id; min = s.min; max = s.max; weight = s.weight; enforced = yes_of s.enforced }

-- the change that is asked for
abbrev pub change_of : Settings → List StreamGiven → List ℕ → Change
change_of s streams removed = record {
  streams = bare (map stream_of streams);
  removed = bare removed;
  start = named s.named 1 s.start;
  min = named s.named 2 s.min;
  max = named s.named 4 s.max;
  pacing_percent = named s.named 8 s.pacing_percent;
  window = named s.named 16 s.window;
  padding_rate = named s.named 32 s.padding_rate;
  paced_audio = named s.named 64 (yes_of s.paced_audio);
  extension_id = named s.named 128 s.extension_id;
  probe = named s.named 256 s.probe;
}

abbrev pub asked : ℕ → Settings → List StreamGiven → List ℕ → Call
asked at s streams removed = Configure at (change_of s streams removed)

-- what a change is told: nothing, or why it was refused
abbrev pub answer_of : Reply → Result (Unit {0}) Fault
answer_of (Refused moment cause) = Err (fault.Refused cause)
answer_of given = Ok tt

-- A change was asked for. Where the call is no entry of the history, nothing has changed, but that what the control
-- asked for may have been served.
pub record Configures (before after : Serving) (at : ℕ) (given : Settings) (streams : List StreamGiven) (removed : List ℕ) (outcome : Result (Unit {0}) Fault) : Type 0 where
  pub mask : MOST_NAMED ≤ given.named → outcome ≡ Err fault.BadMask
  pub reply : is_served outcome ≡ true → (history : List Entry) → StandsFor before.steered history → outcome ≡ answer_of (reply (served before.steered history) (asked at given streams removed))
  pub stands : is_served outcome ≡ true → Serves before.steered after.steered (asked at given streams removed)
  pub kept : after.kept ≡ before.kept
  pub findings : after.findings ≡ before.findings
  pub unserved : is_served outcome ≡ false → Stays before after
  pub exhausted : IfErr outcome (λ e. IfExhausted e ((history : List Entry) → StandsFor before.steered history → is_exhausted history ≡ true))
