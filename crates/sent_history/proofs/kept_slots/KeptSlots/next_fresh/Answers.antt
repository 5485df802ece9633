use Rattle.std.proofs.Common.{◌<◌, ◌≤◌, List, length, inl, inr, arith, subst}
use Rattle.std.proofs.lemmas.Bool.{cases_lt}
use Rattle.sent_history.specs.declared.slot.Slot.{Slot}
use Rattle.sent_history.specs.Fresh.{HasFresh}
use Rattle.sent_history.proofs.FreshKept.{stale_at}
use Rattle.sent_history.proofs.kept_slots.KeptSlots.next_fresh.Goals as goal

pub returns-then-place-middle-clause-none : goal.returns-then-place-middle-clause-none
returns-then-place-middle-clause-none c = λ k d le lt.
    let has = subst (λ slots. HasFresh c.self.inside.origin c.self.inside.fresh slots) c.self.view_is c.self.invariant.2 in
    let origin = c.self.invariant.1 in
    stale_at c.self.inside.origin _ c.args.from k c.self.inside.fresh c.args.self.now d has
    (omega (arith, lt, c.if-place-middle.true, c.min-middle.ensures, c.requires.inside))
    (omega (arith, le, lt, c.if-place-middle.true, c.min-middle.ensures, c.max.ensures, origin))
    (c.next_from-place.ensures.none k le lt)

pub returns-clause-none : goal.returns-clause-none
returns-clause-none c = λ k d le lt.
    let has = subst (λ slots. HasFresh c.self.inside.origin c.self.inside.fresh slots) c.self.view_is c.self.invariant.2 in
    let origin = c.self.invariant.1 in
    let few : length c.args.self.now ≤ 32768 = subst (λ (slots : List Slot). length slots ≤ 32768) c.self.view_is c.self.invariant.0 in
    let inside : k < length c.args.self.now = omega (arith, lt, c.next_from.ensures.high, c.requires.inside) in
    elim (cases_lt k c.min-middle.result) [
      | inl before ↦
          stale_at c.self.inside.origin _ c.args.from k c.self.inside.fresh c.args.self.now d has inside
          (omega (arith, le, before, c.min-middle.ensures, c.max.ensures, origin))
          (c.next_from-place.ensures.none k le (omega (arith, before, c.if-place-middle.false)))
      | inr behind ↦
          stale_at c.self.inside.origin _ c.min-middle.result k c.self.inside.fresh c.args.self.now d has inside
          (omega (arith, behind, inside, few, c.min-middle.ensures, c.max.ensures, origin, c.requires.order))
          (c.next_from.ensures.none k behind lt)
    ]
