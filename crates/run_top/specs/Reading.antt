-- Why reading a source stops before its end.
use Rattle.std.specs.Prelude.{ℕ, ◌<◌, List, length, Option, IfSome}
use Rattle.run_io.specs.Faults.{Rose}
use Rattle.run_top.specs.declared.reading.ReadStop.{ReadStop}
use Rattle.run_top.specs.declared.reading.ReadStop.TheVariants as stop

abbrev pub StoppedFor : ReadStop → ℕ → Option (List ℕ) → ℕ → ℕ → Type 0
-- its count of faults rose
StoppedFor stop.Fault most left before now = Rose before now
-- it gave more than the most
StoppedFor stop.TooLong most left before now = IfSome left (λ bytes. most < length bytes)
StoppedFor stop.NoMemory most left before now = Unit {0}
