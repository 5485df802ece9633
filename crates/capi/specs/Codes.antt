-- The numbers that C sees.
use Rattle.std.specs.Prelude.{ℤ, negsuc, ◌+◌, min, Result, Ok, Err, Bool, true, false}
use Rattle.rtp_wire.specs.declared.packet.WireFault.{WireFault}
use Rattle.rtp_wire.specs.declared.packet.WireFault.TheVariants as wire
use Rattle.twcc_report.specs.declared.fault.ReportFault.{ReportFault}
use Rattle.twcc_report.specs.declared.fault.ReportFault.TheVariants as report
use Rattle.send_core.specs.declared.call.Cause.{Cause}
use Rattle.send_core.specs.declared.call.Cause.TheVariants.{MomentTooLarge, Wire, QueueFull, Report, Config}
use Rattle.live_sender.specs.declared.live.LiveFault.{LiveFault}
use Rattle.live_sender.specs.declared.live.LiveFault.TheVariants as live
use Rattle.capi.specs.declared.fault.Fault.{Fault}
use Rattle.capi.specs.declared.fault.Fault.TheVariants.{NotOpen, AlreadyOpen, NoMemory, Exhausted, BadClass, BadSize, BadMask, BadControl, Compound, Refused}

-- a packet that fails a check
abbrev pub wire_code : WireFault → ℤ
wire_code wire.Short = negsuc 100
wire_code wire.Long = negsuc 101
wire_code wire.Version = negsuc 102
wire_code wire.BadExtension = negsuc 103
wire_code wire.NoExtension = negsuc 104

-- a report that fails a check
abbrev pub report_code : ReportFault → ℤ
report_code report.Short = negsuc 200
report_code report.Length = negsuc 201
report_code report.Version = negsuc 202
report_code report.NotFeedback = negsuc 203
report_code report.NoStatus = negsuc 204
report_code report.Chunks = negsuc 205
report_code report.Reserved = negsuc 206
report_code report.Deltas = negsuc 207
report_code report.Padding = negsuc 208

-- settings that fail a check: -300 less the number of the check, none below -399
abbrev pub cause_code : Cause → ℤ
cause_code MomentTooLarge = negsuc 6
cause_code (QueueFull waiting) = negsuc 7
cause_code (Wire fault) = wire_code fault
cause_code (Report fault) = report_code fault
cause_code (Config check) = negsuc (299 + min check 99)

abbrev pub code_of : Fault → ℤ
code_of NotOpen = negsuc 0
code_of AlreadyOpen = negsuc 1
code_of NoMemory = negsuc 2
code_of Exhausted = negsuc 3
code_of BadClass = negsuc 4
code_of BadSize = negsuc 5
code_of BadMask = negsuc 9
code_of BadControl = negsuc 10
code_of (Compound place) = negsuc 8
code_of (Refused cause) = cause_code cause

-- whether a call became an entry of the history
abbrev pub is_served : {X : Type 0} → Result X Fault → Bool
is_served (Ok x) = true
is_served (Err (Refused cause)) = true
is_served (Err fault) = false

-- why a live sender did not serve a call
abbrev pub unserved_by : LiveFault → Fault
unserved_by live.Exhausted = Exhausted
unserved_by live.NoMemory = NoMemory

-- what holds where a limit of the sender is near
abbrev pub IfExhausted : Fault → Type 0 → Type 0
IfExhausted Exhausted P = P
IfExhausted fault P = Unit {0}
