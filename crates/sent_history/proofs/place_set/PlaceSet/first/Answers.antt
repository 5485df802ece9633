use Rattle.std.proofs.Common.{◌+◌, ◌*◌, ◌/◌, inl, inr, refl, ap, sym, ◌∙◌, subst, arith}
use Rattle.std.proofs.lemmas.Bool.{cases_lt}
use Rattle.std.proofs.lemmas.Grind.{get_or_default_zero}
use Rattle.sent_history.specs.Fresh.{bit_of}
use Rattle.sent_history.proofs.Bits.{IsFirst, first_in_word, none_in_word}
use Rattle.sent_history.proofs.place_set.PlaceSet.first.Goals as goal

first : (c : goal.After-min) → IsFirst c.args.self.now c.loop-at.at (c.loop-at.at / 64 * 64 + c.in-Some.bit)
first c =
    subst (λ words. IsFirst words c.loop-at.at (c.loop-at.at / 64 * 64 + c.in-Some.bit)) c.self.view_is
    (first_in_word c.self.inside.words.items c.loop-at.at c.index.result.now c.in-Some.bit _
    (c.index.ensures ∙ get_or_default_zero c.self.inside.words.items (c.loop-at.at / 64) c.index.result.now (omega (arith, c.self.invariant, c.loop-at-test.true, c.requires.inside)))
    c.in-Some.ensures.some refl)

pub returns-in-Some-clause-none : goal.returns-in-Some-clause-none
returns-in-Some-clause-none c = λ k le lt. elim (cases_lt k c.loop-at.at) [
  | inl before ↦ c.loop-at.invariant.none k le before
  | inr from ↦ (first c).none k from (omega (arith, lt, c.min.ensures))
]

pub returns-in-Some-clause-found : goal.returns-in-Some-clause-found
returns-in-Some-clause-found c = λ lt.
    ap (bit_of c.args.self.now) (omega (arith, lt, c.min.ensures)) ∙ (first c).here

pub loop-at-preserved : goal.loop-at-preserved
loop-at-preserved c = record {
  low = omega (arith, c.loop-at.invariant.low);
  none = λ k le lt. elim (cases_lt k c.loop-at.at) [
    | inl before ↦ c.loop-at.invariant.none k le before
    | inr from ↦
        ap (λ words. bit_of words k) (sym c.self.view_is)
        ∙ none_in_word c.self.inside.words.items c.loop-at.at c.index.result.now k
        (c.index.ensures ∙ get_or_default_zero c.self.inside.words.items (c.loop-at.at / 64) c.index.result.now (omega (arith, c.self.invariant, c.loop-at-test.true, c.requires.inside)))
        c.in-None.ensures.none from lt
  ];
}
