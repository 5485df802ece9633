-- What a call did: the sender before and after it, and what it told.
use Rattle.std.specs.Prelude.{◌≡◌, ◌<◌, ℕ, ℤ, pos, true, false, Option, Some, None, Result, Ok, Err, IfOk, IfErr, IfSome, OnOk, OnErr, List, [], ◌∷◌, ◌++◌, length}
use Rattle.gcc_units.specs.Listed.{bare}
use Rattle.pacer.specs.declared.sent.Kind.{Kind}
use Rattle.pacer.specs.declared.sent.Kind.TheVariants.{Audio, Media, Probe, Padding}
use Rattle.pacer.specs.declared.sent.Sent.{Sent}
use Rattle.sent_history.specs.declared.finding.Finding.{Finding}
use Rattle.sent_history.specs.declared.finding.Finding.TheVariants as finding
use Rattle.send_core.specs.declared.call.Call.TheVariants.{Enqueue}
use Rattle.send_core.specs.declared.call.Entry.{Entry}
use Rattle.send_core.specs.Reply.{reply}
use Rattle.live_sender.specs.Live.{is_exhausted}
use Rattle.steered_sender.specs.Standing.{StandsFor, served}
use Rattle.gcc_units.specs.declared.limits.TheConstants.{GREATEST_MOMENT}
use Rattle.send_core.specs.declared.call.Cause.TheVariants as cause
use Rattle.capi.specs.declared.sender.TheConstants.{MOST_BYTES}
use Rattle.capi.specs.declared.fault.Fault.{Fault}
use Rattle.capi.specs.declared.fault.Fault.TheVariants as fault
use Rattle.capi.specs.declared.popping.Popped.{Popped}
use Rattle.capi.specs.declared.popping.Popped.TheVariants.{Packet, Nothing, TooSmall}
use Rattle.capi.specs.declared.telling.Info.{Info}
use Rattle.capi.specs.declared.telling.TheConstants.{NO_INDEX}
use Rattle.capi.specs.declared.feedback.Heard.{Heard}
use Rattle.capi.specs.declared.looking.ProbeTold.{ProbeTold}
use Rattle.capi.specs.declared.looking.ResultTold.{ResultTold}
use Rattle.capi.specs.declared.looking.TheConstants.{NO_TIME}
use Rattle.capi.specs.declared.looking.ShareTold.{ShareTold}
use Rattle.send_core.specs.declared.call.Cause.{Cause}
use Rattle.capi.specs.Codes.{code_of, cause_code, is_served, IfExhausted}
use Rattle.capi.specs.Serving.{Serving, Serves, Stays, class_named, index_of, has_any, filled, popped, IsFetched, IsUser}

-- A packet was handed in. Where the call is no entry of the history, nothing has changed, but that what the control
-- asked for may have been served.
pub record Enqueues (before after : Serving) (at number : ℕ) (packet : List ℕ) (outcome : Result ℕ Fault) : Type 0 where
  pub class : class_named number ≡ None → outcome ≡ Err fault.BadClass
  pub reply : is_served outcome ≡ true → IfSome (class_named number) (λ c. (history : List Entry) → StandsFor before.steered history → outcome ≡ index_of (reply (served before.steered history) (Enqueue at c (bare packet))))
  pub stands : is_served outcome ≡ true → IfSome (class_named number) (λ c. Serves before.steered after.steered (Enqueue at c (bare packet)))
  pub kept : after.kept ≡ before.kept
  pub findings : after.findings ≡ before.findings
  pub unserved : is_served outcome ≡ false → Stays before after
  pub size : MOST_BYTES < length packet → IfSome (class_named number) (λ c. outcome ≡ Err fault.BadSize)
  pub exhausted : IfErr outcome (λ e. IfExhausted e ((history : List Entry) → StandsFor before.steered history → is_exhausted history ≡ true))

abbrev pub found_in : Option Finding → List Finding
found_in None = []
found_in (Some finding) = finding ∷ []

-- the next packet was asked for, into this room
pub record Pops (before after : Serving) (at : ℕ) (old new : List ℕ) (outcome : Result Popped Fault) : Type 0 where
  pub packet : IfOk outcome (λ p. (history : List Entry) → StandsFor before.steered history → IsFetched p (filled before.steered history at before.kept) after.kept old new)
  pub stands : OnOk outcome ((history : List Entry) (caller : ℕ) → IsUser caller → StandsFor before.steered history → StandsFor after.steered (popped before.steered history caller at before.kept))
  pub err : OnErr outcome (Stays before after × (new ≡ old))
  pub findings : after.findings ≡ before.findings
  pub late : has_any before.kept ≡ false → GREATEST_MOMENT < at → outcome ≡ Err (fault.Refused cause.MomentTooLarge)
  pub exhausted : IfErr outcome (λ e. IfExhausted e ((history : List Entry) → StandsFor before.steered history → is_exhausted history ≡ true))

-- what the last feedback told of the next packet was asked for
pub record Finds (before after : Serving) (outcome : Option Finding) : Type 0 where
  pub steered : after.steered ≡ before.steered
  pub kept : after.kept ≡ before.kept
  pub findings : before.findings ≡ found_in outcome ++ after.findings
  pub none : outcome ≡ None → before.findings ≡ []

-- ---- the numbers of outcomes, and what is written

-- 0, or the number of the cause
abbrev pub code_in : {X : Type 0} → Result X Fault → ℤ
code_in (Ok x) = pos 0
code_in (Err cause) = code_of cause

-- what is told, or what stood there
abbrev pub told_in : {X : Type 0} → X → Result X Fault → X
told_in old (Ok x) = x
told_in old (Err cause) = old

-- 0 for a packet, 1 where nothing may leave, 2 where the room is too small, or the number of the cause
abbrev pub popped_code : Result Popped Fault → ℤ
popped_code (Ok (Packet sent size)) = pos 0
popped_code (Ok Nothing) = pos 1
popped_code (Ok (TooSmall size)) = pos 2
popped_code (Err cause) = code_of cause

-- the bytes of the next packet, where there is one
abbrev pub size_in : ℕ → Result Popped Fault → ℕ
size_in old (Ok (Packet sent size)) = size
size_in old (Ok Nothing) = old
size_in old (Ok (TooSmall size)) = size
size_in old (Err cause) = old

abbrev pub index_told : Option ℕ → ℕ
index_told None = NO_INDEX
index_told (Some index) = index

abbrev pub kind_told : Kind → ℕ
kind_told Audio = 0
kind_told Media = 1
kind_told (Probe cluster) = 2
kind_told Padding = 3

abbrev pub cluster_told : Kind → ℕ
cluster_told Audio = NO_INDEX
cluster_told Media = NO_INDEX
cluster_told (Probe cluster) = cluster
cluster_told Padding = NO_INDEX

abbrev pub info_told : Sent → Info
info_told s = record { number = s.number; index = index_told s.index; kind = kind_told s.kind; cluster = cluster_told s.kind }

-- what is told of a packet that was handed out
abbrev pub info_in : Info → Result Popped Fault → Info
info_in old (Ok (Packet sent size)) = info_told sent
info_in old (Ok Nothing) = old
info_in old (Ok (TooSmall size)) = old
info_in old (Err cause) = old

-- the number of what stopped the reports, or else of the first refusal, or else 0
abbrev pub told_code : Option Fault → Option Cause → ℤ
told_code (Some stopped) refused = code_of stopped
told_code None (Some cause) = cause_code cause
told_code None None = pos 0

-- 0 where all reports were served and accepted, or the number of what stopped them, or else of the first refusal
abbrev pub heard_code : Result Heard Fault → ℤ
heard_code (Ok heard) = told_code heard.stopped heard.refused
heard_code (Err cause) = code_of cause

-- where no packet of RTCP stands, or what stood there
abbrev pub place_in : {X : Type 0} → ℕ → Result X Fault → ℕ
place_in old (Err (fault.Compound place)) = place
place_in old outcome = old

-- 0 for a share, 1 where there is none, or the number of the cause
abbrev pub share_code : Result (Option ShareTold) Fault → ℤ
share_code (Ok (Some share)) = pos 0
share_code (Ok None) = pos 1
share_code (Err cause) = code_of cause

abbrev pub share_in : ShareTold → Result (Option ShareTold) Fault → ShareTold
share_in old (Ok (Some share)) = share
share_in old (Ok None) = old
share_in old (Err cause) = old

-- 0 for a moment, 1 where there is none
-- what was found, as C is told it
abbrev pub finding_told : Finding → ResultTold
finding_told (finding.Credited credit) = record {
  number = credit.number;
  sent_at = credit.sent_at;
  arrival = credit.arrival;
  size = credit.size;
  cluster = index_told credit.cluster;
  received = 1;
}
finding_told (finding.Missing n) = record { number = n; sent_at = NO_TIME; arrival = pos 0; size = 0; cluster = NO_INDEX; received = 0 }

abbrev pub found_code : Option Finding → ℤ
found_code None = pos 1
found_code (Some finding) = pos 0

abbrev pub found_told : ResultTold → Option Finding → ResultTold
found_told old None = old
found_told old (Some finding) = finding_told finding

abbrev pub probe_code : Option ProbeTold → ℤ
probe_code None = pos 1
probe_code (Some told) = pos 0

abbrev pub probe_in : ProbeTold → Option ProbeTold → ProbeTold
probe_in old None = old
probe_in old (Some told) = told

abbrev pub moment_code : Option ℕ → ℤ
moment_code None = pos 1
moment_code (Some moment) = pos 0

abbrev pub moment_in : ℕ → Option ℕ → ℕ
moment_in old None = old
moment_in old (Some moment) = moment
