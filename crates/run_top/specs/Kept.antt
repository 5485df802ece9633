-- What a command that reads nothing leaves.
use Rattle.std.specs.Prelude.{◌≡◌}
use Rattle.run_top.specs.declared.words.Command.{Command}
use Rattle.run_top.specs.declared.words.Command.TheVariants as command

-- the source is as it was, however the run ends
abbrev pub KeepsSource : {S : Type 0} → Command → S → S → Type 0
KeepsSource command.Replay before now = Unit {0}
KeepsSource command.Race before now = Unit {0}
KeepsSource command.Check before now = Unit {0}
KeepsSource command.Compare before now = Unit {0}
KeepsSource (command.Make seed calls actors) before now = now ≡ before
KeepsSource (command.Demo seed calls) before now = now ≡ before
KeepsSource (command.Loop settings millis) before now = now ≡ before
KeepsSource (command.Resend settings) before now = Unit {0}
