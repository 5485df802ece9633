-- The cause of a call that was not served.
use Rattle.std.proofs.Common.{◌≡◌, refl}
use Rattle.live_sender.specs.declared.live.LiveFault.{LiveFault}
use Rattle.live_sender.specs.declared.live.LiveFault.TheVariants as live
use Rattle.std.specs.Prelude.{IfErr}
use Rattle.send_core.specs.declared.call.Reply.{Reply}
use Rattle.send_core.specs.declared.call.Reply.TheVariants.{Accepted, Paced, Credited, Configured, Refused}
use Rattle.capi.specs.Codes.{unserved_by, IfExhausted}
use Rattle.capi.specs.Changing.{answer_of}
use Rattle.capi.specs.Serving.{index_of}

pub exhausted_by : (fault : LiveFault) (P : Type 0) → (fault ≡ live.Exhausted → P) → IfExhausted (unserved_by fault) P
exhausted_by live.Exhausted P told = told refl
exhausted_by live.NoMemory P told = tt

-- a reply never tells that a limit is near
pub index_told : (given : Reply) (P : Type 0) → IfErr (index_of given) (λ e. IfExhausted e P)
index_told (Accepted moment index) P = tt
index_told (Paced moment sent) P = tt
index_told (Credited moment judged signal m acked rates shares) P = tt
index_told (Configured moment rates shares) P = tt
index_told (Refused moment cause) P = tt

pub answer_told : (given : Reply) (P : Type 0) → IfErr (answer_of given) (λ e. IfExhausted e P)
answer_told (Accepted moment index) P = tt
answer_told (Paced moment sent) P = tt
answer_told (Credited moment judged signal m acked rates shares) P = tt
answer_told (Configured moment rates shares) P = tt
answer_told (Refused moment cause) P = tt
