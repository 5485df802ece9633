-- What the reports of a compound packet do, one after the other.
use Rattle.std.specs.Prelude.{◌≡◌, ◌<◌, ℕ, length, Option, None, Some, Result, Err, IfOk, IfErr, OnErr, List, [], ◌++◌, fold, filter}
use Rattle.gcc_units.specs.Listed.{bare}
use Rattle.rtcp_compound.specs.Compound.{ArePackets, FailsAt, is_feedback}
use Rattle.send_core.specs.declared.call.Call.TheVariants.{Report}
use Rattle.send_core.specs.declared.call.Cause.{Cause}
use Rattle.send_core.specs.declared.call.Entry.{Entry}
use Rattle.send_core.specs.declared.call.Reply.{Reply}
use Rattle.send_core.specs.declared.call.Reply.TheVariants.{Credited, Refused}
use Rattle.send_core.specs.Reply.{reply}
use Rattle.send_core.specs.Reports.{findings_by}
use Rattle.sent_history.specs.declared.finding.Finding.{Finding}
use Rattle.steered_sender.specs.Standing.{Kept, StandsFor, IsBehind, began_at, with_asked}
use Rattle.capi.specs.declared.fault.Fault.{Fault}
use Rattle.capi.specs.declared.fault.Fault.TheVariants.{Compound}
use Rattle.capi.specs.declared.fault.Fault.TheVariants as fault
use Rattle.capi.specs.declared.sender.TheConstants.{MOST_BYTES}
use Rattle.capi.specs.declared.feedback.Heard.{Heard}
use Rattle.capi.specs.Serving.{Serving, with_call}

-- why a reply refuses its call, if it does
abbrev pub refusal_of : Reply → Option Cause
refusal_of (Refused moment cause) = Some cause
refusal_of given = None

abbrev pub first_of : {X : Type 0} → Option X → Option X → Option X
first_of None b = b
first_of (Some a) b = Some a

-- what a report that was judged told of packets for the first time
abbrev pub findings_told : List Entry → List ℕ → Reply → List Finding
findings_told history report (Credited moment judged signal m acked rates shares) = findings_by history report
findings_told history report given = []

-- the history so far, why the first refused report in it was refused, and what all judged ones told of packets
pub record Course : Type 0 where
  pub history : List Entry
  pub refused : Option Cause
  pub findings : List Finding

-- by the rate that the control began at
abbrev pub with_report : Option ℕ → ℕ → ℕ → Course → List ℕ → Course
with_report control caller at course report = record {
  history = with_call (with_asked control course.history) caller (Report at (bare report));
  refused = first_of course.refused (refusal_of (reply (with_asked control course.history) (Report at (bare report))));
  findings = course.findings ++ findings_told (with_asked control course.history) report (reply (with_asked control course.history) (Report at (bare report)));
}

-- each of these reports is a call at the end of the history before it, behind what the control asked for
abbrev pub course_of : Option ℕ → List Entry → ℕ → ℕ → List (List ℕ) → Course
course_of control history caller at reports = fold (with_report control caller at) (record { history = history; refused = None; findings = [] }) reports

-- the reports were served in their order, all of them unless what is told says why it stopped
pub record AreHeard (first now : Kept) (found : List Finding) (at : ℕ) (heard : Heard) (reports : List (List ℕ)) : Type 0 where
  pub served : List (List ℕ)
  pub rest : List (List ℕ)
  pub whole : reports ≡ served ++ rest
  pub all : heard.stopped ≡ None → rest ≡ []
  pub control : began_at now.steering ≡ began_at first.steering
  pub stands : (history : List Entry) (caller : ℕ) → StandsFor first history → IsBehind now (course_of (began_at first.steering) history caller at served).history
  pub refused : (history : List Entry) (caller : ℕ) → StandsFor first history → heard.refused ≡ (course_of (began_at first.steering) history caller at served).refused
  pub findings : (history : List Entry) (caller : ℕ) → StandsFor first history → found ≡ (course_of (began_at first.steering) history caller at served).findings

abbrev pub IfCompound : Fault → (ℕ → Type 0) → Type 0
IfCompound (Compound place) P = P place
IfCompound fault P = Unit {0}

-- A compound packet came: each transport-wide report in it is a call. Where it is no compound packet, nothing has changed.
pub record Hears (before after : Serving) (at : ℕ) (rtcp : List ℕ) (outcome : Result Heard Fault) : Type 0 where
  pub served : IfOk outcome (λ heard. (packets : List (List ℕ)) × ArePackets packets rtcp × AreHeard before.steered after.steered after.findings at heard (filter is_feedback packets))
  pub place : IfErr outcome (λ e. IfCompound e (FailsAt rtcp))
  pub unserved : OnErr outcome (after ≡ before)
  pub kept : after.kept ≡ before.kept
  pub size : MOST_BYTES < length rtcp → outcome ≡ Err fault.BadSize
