-- The moment that a reply carries.
use Rattle.std.specs.Prelude.{ℕ}
use Rattle.send_core.specs.declared.call.Reply.{Reply}
use Rattle.send_core.specs.declared.call.Reply.TheVariants.{Accepted, Paced, Credited, Configured, Refused}

abbrev pub moment_in : Reply → ℕ
moment_in (Accepted moment index) = moment
moment_in (Paced moment records) = moment
moment_in (Credited moment judged signal m acked rates shares) = moment
moment_in (Configured moment rates shares) = moment
moment_in (Refused moment cause) = moment
