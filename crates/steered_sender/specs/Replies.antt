-- What a reply says of its call.
use Rattle.std.specs.Prelude.{Bool, true, false}
use Rattle.send_core.specs.declared.call.Reply.{Reply}
use Rattle.send_core.specs.declared.call.Reply.TheVariants.{Configured}

-- a change was accepted
abbrev pub is_configured : Reply → Bool
is_configured (Configured moment rates shares) = true
is_configured given = false
