use Rattle.std.proofs.Common.{◌/◌, ap, ◌∙◌, arith}
use Rattle.std.proofs.lemmas.Grind.{get_or_default_zero}
use Rattle.sent_history.specs.Fresh.{bit_of}
use Rattle.sent_history.proofs.Bits.{removed, removed-others}
use Rattle.sent_history.proofs.place_set.PlaceSet.remove.Goals as goal

pub returns-clause-here : goal.returns-clause-here
returns-clause-here c = removed c.self.inside.words.items c.args.place c.index-word.result.now (omega (arith, c.self.invariant))

pub returns-clause-others : goal.returns-clause-others
returns-clause-others c = λ k other.
    removed-others c.self.inside.words.items c.args.place c.index-word.result.now k (omega (arith, c.self.invariant))
    (c.index-word.ensures ∙ get_or_default_zero c.self.inside.words.items (c.args.place / 64) c.index-word.result.now (omega (arith, c.self.invariant))) other
    ∙ ap (λ words. bit_of words k) c.self.view_is
