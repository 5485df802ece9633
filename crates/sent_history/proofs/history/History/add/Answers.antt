use Rattle.std.proofs.Common.{◌≡◌, length, ap, sym, ◌∙◌, subst, arith}
use Rattle.sent_history.specs.Kept.{Kept, Keeps}
use Rattle.sent_history.specs.Crediting.{account}
use Rattle.sent_history.specs.Events.{added}
use Rattle.sent_history.specs.Pushes.{account-push, account_packets}
use Rattle.sent_history.proofs.Slots.{keeps_added, account_is_sound}
use Rattle.sent_history.proofs.history.History.add.Goals as goal

pub overflow_add-self : goal.overflow_add-self
overflow_add-self c =
    let sent : c.self.inside.sent ≡ c.args.self.now.sent = ap (λ (h : Kept). h.sent) c.self.view_is in
    let few = c.requires.few in
    omega (arith, sent, few.1.sent, ap length (account_packets few.0), few.2)

pub returns-clause-stands : goal.returns-clause-stands
returns-clause-stands c = λ events stands.
    let h : Kept = record { sent = c.self.inside.sent; slots = c.self.inside.slots; reference = c.self.inside.reference } in
    let keep : Keeps h (account events) = subst (λ (k : Kept). Keeps k (account events)) (sym c.self.view_is) stands in
    rw (account-push events (added c.args.packet))
    (keeps_added h (account events) c.args.packet c.push.new.self (account_is_sound events) keep c.push.ensures)

pub returns-clause-number : goal.returns-clause-number
returns-clause-number c = λ events stands. ap (λ (h : Kept). h.sent) c.self.view_is ∙ stands.sent ∙ ap length (account_packets events)
