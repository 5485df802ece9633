-- Replies that refuse a call.
use Rattle.send_core.specs.declared.call.Reply.{Reply}
use Rattle.send_core.specs.declared.call.Reply.TheVariants.{Accepted, Paced, Credited, Configured, Refused}

abbrev pub IsRefused : Reply → Type 0
IsRefused (Refused moment cause) = Unit {0}
IsRefused (Accepted moment index) = ⊥
IsRefused (Paced moment records) = ⊥
IsRefused (Credited moment judged signal m acked rates shares) = ⊥
IsRefused (Configured moment rates shares) = ⊥
