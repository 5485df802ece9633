use Rattle.std.proofs.Common.{◌∙◌, ap, arith, drop}
use Rattle.capi.specs.Serving.{Serving}
use Rattle.capi.proofs.Kept.{kept-next, kept-past}
use Rattle.capi.proofs.sender.Sender.advance.Goals as goal

pub returns-then-self-len-clause-kept : goal.returns-then-self-len-clause-kept
returns-then-self-len-clause-kept c =
    kept-next c.self.inside.fetched c.self.inside.records.items c.self.inside.wires.items ∙ ap (λ (s : Serving). drop 1 s.kept) c.self.view_is

pub returns-else-self-len-clause-kept : goal.returns-else-self-len-clause-kept
returns-else-self-len-clause-kept c =
    Rattle.std.proofs.Common.sym (ap (λ (s : Serving). s.kept) c.self.view_is)
    ∙ (kept-past c.self.inside.fetched c.self.inside.records.items c.self.inside.wires.items (omega (arith, c.len.ensures, c.if-self-len.false)) ∙ ap (λ (s : Serving). drop 1 s.kept) c.self.view_is)
