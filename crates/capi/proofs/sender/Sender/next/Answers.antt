use Rattle.std.proofs.Common.{◌∙◌, ap, sym}
use Rattle.capi.specs.Serving.{Serving}
use Rattle.capi.proofs.Kept.{kept-none, kept-short, kept-first}
use Rattle.capi.proofs.sender.Sender.next.Goals as goal

pub returns-in_default : goal.returns-in_default
returns-in_default c =
    sym (ap (λ (s : Serving). s.kept) c.self.view_is) ∙ kept-none c.self.inside.fetched c.self.inside.records.items c.self.inside.wires.items (sym (c.in_default.ensures))

pub returns-in_default-get : goal.returns-in_default-get
returns-in_default-get c =
    sym (ap (λ (s : Serving). s.kept) c.self.view_is) ∙ kept-short c.self.inside.fetched c.self.inside.records.items c.self.inside.wires.items (sym (c.in_default-get.ensures))

pub returns : goal.returns
returns c =
    let first = kept-first c.self.inside.fetched c.self.inside.records.items c.self.inside.wires.items c.in-Some.sent.now c.in-Some-get.wire.now (sym (c.in-Some.ensures)) (sym (c.in-Some-get.ensures)) in
    (first.0, sym (ap (λ (s : Serving). s.kept) c.self.view_is) ∙ first.1)
