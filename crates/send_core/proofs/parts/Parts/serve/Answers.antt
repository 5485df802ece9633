use Rattle.std.proofs.Common.{◌≡◌, List, IfOk, sym, ◌∙◌, ap, subst}
use Rattle.send_core.specs.declared.call.Call.{Call}
use Rattle.send_core.specs.declared.call.Call.TheVariants.{Configure}
use Rattle.send_core.specs.declared.call.Change.{Change}
use Rattle.send_core.specs.declared.call.Entry.{Entry}
use Rattle.send_core.specs.declared.call.Reply.{Reply}
use Rattle.send_core.specs.declared.copies.Rooms.{Rooms}
use Rattle.send_core.specs.Reply.{reply}
use Rattle.send_core.specs.Stands.{StandsFor}
use Rattle.send_core.proofs.parts.Parts.serve.Goals as goal

pub returns-in_ok-rooms-in-Enqueue-clause-answer : goal.returns-in_ok-rooms-in-Enqueue-clause-answer
returns-in_ok-rooms-in-Enqueue-clause-answer c = λ h s. c.enqueue.ensures.answer h s ∙ ap (reply h) (sym c.in-Enqueue.is)

pub returns-in-Pace-clause-answer : goal.returns-in-Pace-clause-answer
returns-in-Pace-clause-answer c =
    subst (λ (k : Call). IfOk c.pace_within.result (λ (r : Reply × Rooms). (h : List Entry) → StandsFor c.args.self.now h → r.0 ≡ reply h k)) (sym c.in-Pace.is) c.pace_within.ensures.answer

pub returns-in-Configure-clause-answer : goal.returns-in-Configure-clause-answer
returns-in-Configure-clause-answer c =
    subst (λ (k : Call). IfOk c.configure.result (λ (r : Reply × Rooms). (h : List Entry) → StandsFor c.args.self.now h → r.0 ≡ reply h k)) (ap (λ (x : Change). Configure c.in-Configure.at x) c.get.ensures ∙ sym c.in-Configure.is) c.configure.ensures.answer
