-- What runs of statuses say.
use Rattle.std.specs.Prelude.{ℕ, ℤ, pos, Bool, false}
use Rattle.twcc_report.specs.declared.compact.StatusRun.{StatusRun}
use Rattle.twcc_report.specs.declared.compact.StatusRun.TheVariants.{Lost, One}
use Rattle.sent_history.specs.Crediting.{is_received, delta_of}

-- whether a run is a status that says received
abbrev pub is_received_run : StatusRun → Bool
is_received_run (Lost n) = false
is_received_run (One status) = is_received status

-- how many statuses a run has
abbrev pub run_len : StatusRun → ℕ
run_len (Lost n) = n
run_len (One status) = 1

-- its deltas together
abbrev pub run_delta : StatusRun → ℤ
run_delta (Lost n) = pos 0
run_delta (One status) = delta_of status
