-- All credits of a history.
use Rattle.std.specs.Prelude.{List}
use Rattle.std.specs.List.{flat_map}
use Rattle.gcc_units.specs.declared.shared_types.Credit.{Credit}
use Rattle.send_core.specs.declared.call.Entry.{Entry}
use Rattle.send_laws.specs.Credits.{credits}

-- the credits that the replies of a history list, in their order
abbrev pub all_credits : List Entry → List Credit
all_credits history = flat_map (λ (e : Entry). credits e.reply) history
