-- A command was served: it stopped before there was a text, or its text was written, whole or in part.
use Rattle.std.proofs.Common.{◌≡◌, ℕ, ◌<◌, Option, None, Some, List, [], length, Err, IfSome, refl, subst, ap, sym}
use Rattle.std.proofs.lemmas.Bool.{lt-ltb}
use Rattle.gcc_units.specs.declared.limits.TheConstants.{MOST_TRACE_BYTES, MOST_CHECK_BYTES}
use Rattle.run_io.specs.Faults.{Rose}
use Rattle.run_io.specs.Growth.{Grew, GrewInPart}
use Rattle.run_io.proofs.Growth.{Grew-nothing}
use Rattle.call_trace.specs.declared.fault.TheConstants.{TOO_LONG}
use Rattle.call_trace.specs.Reading.{fault}
use Rattle.nack_rtx.specs.declared.resender.RtxSettings.{RtxSettings}
use Rattle.reply_text.specs.declared.check.Verdict.{Verdict}
use Rattle.reply_text.specs.declared.check.Verdict.TheVariants as verdict
use Rattle.run_top.specs.declared.reading.ReadStop.{ReadStop}
use Rattle.run_top.specs.declared.reading.ReadStop.TheVariants as stop
use Rattle.run_top.specs.declared.status.Status.{Status}
use Rattle.run_top.specs.declared.status.Status.TheVariants as status
use Rattle.run_top.specs.declared.words.Command.{Command}
use Rattle.run_top.specs.declared.words.Command.TheVariants as command
use Rattle.run_top.specs.Check.{ended_by}
use Rattle.run_top.specs.Outcome.{front_input, IfTold, IsReadUp, IsEnded, IsSilent, IsFaultOf, NamesFault, Writes, Wrote, WroteInPart}
use Rattle.run_top.specs.Reading.{StoppedFor}
use Rattle.run_top.specs.Replay.{input}
use Rattle.run_top.specs.Resent.{if_one}
use Rattle.run_top.specs.Served.{Streams, streams, IsServed, IsWritten}
use Rattle.run_top.specs.Stops.{IsStop, stopped_by}

-- ---- a command that reads its source

-- what is said of the bytes where they are told
abbrev pub Reads : Command → Type 1
Reads c = (left : Option (List ℕ)) (P : List ℕ → Type 0) → IfSome left P → IfTold c left P

pub replay-reads : Reads command.Replay
replay-reads left P is = is

pub race-reads : Reads command.Race
race-reads left P is = is

pub check-reads : Reads command.Check
check-reads left P is = is

pub compare-reads : Reads command.Compare
compare-reads left P is = is

pub resend-reads : (settings : RtxSettings) → Reads (command.Resend settings)
resend-reads settings left P is = is

-- ---- it stopped

any : (left : Option (List ℕ)) (P : List ℕ → Type 0) → ((bytes : List ℕ) → P bytes) → IfSome left P
any None P all = tt
any (Some bytes) P all = all bytes

pub served-stop : (c : Command) → Reads c → (ended : Status) (left left_now : Option (List ℕ)) (reads reads_now : ℕ) (written : Option (List ℕ)) (writes : ℕ)
    → IsStop c ended left reads reads_now
    → IsServed c ended (streams left reads written writes) (streams left_now reads_now written writes)
served-stop c told status.ReadFault left left_now reads reads_now written writes rose = record {
  words = λ e. cc;
  differs = λ entry e. absurd cc;
  read = λ e. absurd e;
  done = λ e. absurd e;
  bad = told left (NamesFault c status.ReadFault) (any left (NamesFault c status.ReadFault) (λ bytes. tt));
  read_fault = λ e. rose;
  write_fault = λ e. absurd cc;
  complete = λ none other. absurd (none rose);
  part = λ e. absurd cc;
  silent = Grew-nothing written;
}
served-stop c told (status.BadTrace line reason) left left_now reads reads_now written writes is = record {
  words = λ e. cc;
  differs = λ entry e. absurd cc;
  read = λ e. absurd e;
  done = λ e. absurd e;
  bad = told left (NamesFault c (status.BadTrace line reason)) is;
  read_fault = λ e. absurd cc;
  write_fault = λ e. absurd cc;
  complete = λ none other. tt;
  part = λ e. absurd cc;
  silent = Grew-nothing written;
}
served-stop c told status.NoMemory left left_now reads reads_now written writes is = record {
  words = λ e. cc;
  differs = λ entry e. absurd cc;
  read = λ e. absurd e;
  done = λ e. absurd e;
  bad = told left (NamesFault c status.NoMemory) (any left (NamesFault c status.NoMemory) (λ bytes. tt));
  read_fault = λ e. absurd cc;
  write_fault = λ e. absurd cc;
  complete = λ none other. tt;
  part = λ e. absurd cc;
  silent = Grew-nothing written;
}
served-stop c told status.Done left left_now reads reads_now written writes is = absurd is
served-stop c told status.Usage left left_now reads reads_now written writes is = absurd is
served-stop c told status.WriteFault left left_now reads reads_now written writes is = absurd is
served-stop c told (status.Differs entry) left left_now reads reads_now written writes is = absurd is

-- ---- its text was written

-- how a command may end whose text was written
abbrev pub EndsWell : Command → Status → Type 0
EndsWell c status.Done = Unit {0}
EndsWell c (status.Differs entry) = c ≡ command.Check
EndsWell c status.Usage = ⊥
EndsWell c (status.BadTrace line reason) = ⊥
EndsWell c status.ReadFault = ⊥
EndsWell c status.WriteFault = ⊥
EndsWell c status.NoMemory = ⊥

-- a check ends well with either verdict
pub verdict-well : (v : Verdict) → EndsWell command.Check (ended_by v)
verdict-well verdict.Legal = tt
verdict-well (verdict.Differs entry) = refl

told-all : (c : Command) (left : Option (List ℕ)) (P : List ℕ → Type 0) → ((bytes : List ℕ) → P bytes) → IfTold c left P
told-all command.Replay left P all = any left P all
told-all command.Race left P all = any left P all
told-all command.Check left P all = any left P all
told-all command.Compare left P all = any left P all
told-all (command.Make seed calls actors) left P all = all []
told-all (command.Demo seed calls) left P all = all []
told-all (command.Loop settings millis) left P all = all []
told-all (command.Resend settings) left P all = any left P all

each : (left : Option (List ℕ)) (P Q : List ℕ → Type 0) → ((bytes : List ℕ) → P bytes → Q bytes) → IfSome left P → IfSome left Q
each None P Q from is = tt
each (Some bytes) P Q from is = from bytes is

told-each : (c : Command) (left : Option (List ℕ)) (P Q : List ℕ → Type 0) → ((bytes : List ℕ) → P bytes → Q bytes) → IfTold c left P → IfTold c left Q
told-each command.Replay left P Q from is = each left P Q from is
told-each command.Race left P Q from is = each left P Q from is
told-each command.Check left P Q from is = each left P Q from is
told-each command.Compare left P Q from is = each left P Q from is
told-each (command.Make seed calls actors) left P Q from is = from [] is
told-each (command.Demo seed calls) left P Q from is = from [] is
told-each (command.Loop settings millis) left P Q from is = from [] is
told-each (command.Resend settings) left P Q from is = each left P Q from is

pub served-text : (c : Command) (text : List ℕ) (ended result : Status) (left left_now : Option (List ℕ)) (reads reads_now : ℕ) (written written_now : Option (List ℕ)) (writes writes_now : ℕ)
    → EndsWell c ended → IsReadUp c left left_now → IfTold c left (λ bytes. Writes c bytes ended text)
    → IsWritten text ended result written written_now writes writes_now
    → IsServed c result (streams left reads written writes) (streams left_now reads_now written_now writes_now)
served-text c text ended status.Done left left_now reads reads_now written written_now writes writes_now well up told is = record {
  words = λ e. cc;
  differs = λ entry e. absurd cc;
  read = λ e. up;
  done = λ e. told-each c left (λ bytes. Writes c bytes ended text) (λ bytes. Wrote c bytes status.Done written written_now)
      (λ bytes writes. (text, subst (λ s. Writes c bytes s text) (sym is.0) writes, is.1)) told;
  bad = told-all c left (NamesFault c status.Done) (λ bytes. tt);
  read_fault = λ e. absurd cc;
  write_fault = λ e. absurd cc;
  complete = λ none other. tt;
  part = λ e. absurd cc;
  silent = tt;
}
served-text c text ended (status.Differs k) left left_now reads reads_now written written_now writes writes_now well up told is = record {
  words = λ e. cc;
  differs = λ entry e. subst (EndsWell c) (sym is.0) well;
  read = λ e. up;
  done = λ e. told-each c left (λ bytes. Writes c bytes ended text) (λ bytes. Wrote c bytes (status.Differs k) written written_now)
      (λ bytes writes. (text, subst (λ s. Writes c bytes s text) (sym is.0) writes, is.1)) told;
  bad = told-all c left (NamesFault c (status.Differs k)) (λ bytes. tt);
  read_fault = λ e. absurd cc;
  write_fault = λ e. absurd cc;
  complete = λ none other. tt;
  part = λ e. absurd cc;
  silent = tt;
}
served-text c text ended status.WriteFault left left_now reads reads_now written written_now writes writes_now well up told is = record {
  words = λ e. cc;
  differs = λ entry e. absurd cc;
  read = λ e. absurd e;
  done = λ e. absurd e;
  bad = told-all c left (NamesFault c status.WriteFault) (λ bytes. tt);
  read_fault = λ e. absurd cc;
  write_fault = λ e. is.1;
  complete = λ none other. absurd (other is.1);
  part = λ e. told-each c left (λ bytes. Writes c bytes ended text) (λ bytes. WroteInPart c bytes written written_now)
      (λ bytes writes. (ended, text, writes, is.0)) told;
  silent = tt;
}
served-text c text ended status.Usage left left_now reads reads_now written written_now writes writes_now well up told is =
    absurd (subst (EndsWell c) (sym is.0) well)
served-text c text ended (status.BadTrace line reason) left left_now reads reads_now written written_now writes writes_now well up told is =
    absurd (subst (EndsWell c) (sym is.0) well)
served-text c text ended status.ReadFault left left_now reads reads_now written written_now writes writes_now well up told is =
    absurd (subst (EndsWell c) (sym is.0) well)
served-text c text ended status.NoMemory left left_now reads reads_now written written_now writes writes_now well up told is =
    absurd (subst (EndsWell c) (sym is.0) well)

-- ---- memory ran out before a text was there

pub served-none : (c : Command) (left left_now : Option (List ℕ)) (reads reads_now : ℕ) (written : Option (List ℕ)) (writes : ℕ)
    → IsServed c status.NoMemory (streams left reads written writes) (streams left_now reads_now written writes)
served-none c left left_now reads reads_now written writes = record {
  words = λ e. cc;
  differs = λ entry e. absurd cc;
  read = λ e. absurd e;
  done = λ e. absurd e;
  bad = told-all c left (NamesFault c status.NoMemory) (λ bytes. tt);
  read_fault = λ e. absurd cc;
  write_fault = λ e. absurd cc;
  complete = λ none other. tt;
  part = λ e. absurd cc;
  silent = Grew-nothing written;
}

-- ---- causes of a stop

-- reading stopped: a source that gave too much has this fault by the size of what it gave
abbrev pub TooMuch : Command → ℕ → Type 0
TooMuch c most = (bytes : List ℕ) → most < length bytes → IsFaultOf c bytes (fault 0 TOO_LONG)

pub stop-read : (c : Command) (most : ℕ) → TooMuch c most → (why : ReadStop) (left : Option (List ℕ)) (before now : ℕ)
    → StoppedFor why most left before now → IsStop c (stopped_by why) left before now
stop-read c most much stop.Fault left before now is = is
stop-read c most much stop.TooLong None before now is = tt
stop-read c most much stop.TooLong (Some bytes) before now is = much bytes is
stop-read c most much stop.NoMemory left before now is = tt

too-much : (bytes : List ℕ) → MOST_TRACE_BYTES < length bytes → input bytes ≡ Err (fault 0 TOO_LONG)
too-much bytes more = rw (lt-ltb MOST_TRACE_BYTES (length bytes) more) refl

too-much-front : (bytes : List ℕ) → MOST_CHECK_BYTES < length bytes → front_input bytes ≡ Err (fault 0 TOO_LONG)
too-much-front bytes more = rw (lt-ltb MOST_CHECK_BYTES (length bytes) more) refl

pub replay-much : TooMuch command.Replay MOST_TRACE_BYTES
replay-much = too-much

pub race-much : TooMuch command.Race MOST_TRACE_BYTES
race-much = too-much

pub compare-much : TooMuch command.Compare MOST_TRACE_BYTES
compare-much = too-much

pub resend-much : (settings : RtxSettings) → TooMuch (command.Resend settings) MOST_TRACE_BYTES
resend-much settings bytes more = ap if_one (too-much bytes more)

pub check-much : TooMuch command.Check MOST_CHECK_BYTES
check-much = too-much-front
