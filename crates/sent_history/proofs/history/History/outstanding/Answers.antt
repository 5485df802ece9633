use Rattle.std.proofs.Common.{length, ap, sym, ◌∙◌, subst}
use Rattle.std.specs.List.{count_by, range_with_len}
use Rattle.sent_history.specs.Kept.{Kept, Keeps}
use Rattle.sent_history.specs.Crediting.{account, is_outstanding}
use Rattle.sent_history.specs.Pushes.{account_packets}
use Rattle.sent_history.proofs.Slots.{outstanding_are}
use Rattle.sent_history.proofs.history.History.outstanding.Goals as goal

pub returns : goal.returns
returns c = λ events stands.
    let h : Kept = record { sent = c.self.inside.sent; slots = c.self.inside.slots; reference = c.self.inside.reference } in
    let keep : Keeps h (account events) = subst (λ (k : Kept). Keeps k (account events)) (sym c.self.view_is) stands in
    c.uncredited.ensures
    ∙ outstanding_are h (account events) keep
    ∙ ap (λ xs. count_by (is_outstanding (account events)) (range_with_len 0 (length xs))) (account_packets events)
