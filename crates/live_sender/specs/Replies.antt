-- What a reply says of its call.
use Rattle.std.specs.Prelude.{ℕ, Bool, true, false}
use Rattle.send_core.specs.declared.call.Reply.{Reply}
use Rattle.send_core.specs.declared.call.Reply.TheVariants.{Accepted, Credited, Refused}

-- a packet was accepted
abbrev pub is_accepted : Reply → Bool
is_accepted (Accepted moment index) = true
is_accepted reply = false

-- a report was judged
abbrev pub is_judged : Reply → Bool
is_judged (Credited moment judged signal m acked rates shares) = true
is_judged reply = false

-- how many packets were reported missing for the first time
abbrev pub missing_by : Reply → ℕ
missing_by (Credited moment judged signal m acked rates shares) = judged.missing
missing_by reply = 0

-- the call was refused
abbrev pub is_refused : Reply → Bool
is_refused (Refused moment cause) = true
is_refused reply = false
