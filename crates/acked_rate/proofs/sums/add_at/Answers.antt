use Rattle.std.proofs.Common.{arith, ◌≡◌, ◌<◌, None, Some, get_or, length, sym, refl, ◌∙◌}
use Rattle.std.proofs.lemmas.Option.{get_or_from_slice_get, slice_get-get_or}
use Rattle.acked_rate.proofs.Rings.{more-least}
use Rattle.acked_rate.proofs.sums.add_at.Goals as goal

pub overflow_add-sum : goal.overflow_add-sum
overflow_add-sum c =
    let inside : c.args.place < length c.args.ring.now.items = omega (arith, c.requires.full.full, c.requires.place) in
    let is : get_or c.args.ring.now.items c.args.place 0 ≡ c.in-Some.sum.now = get_or_from_slice_get c.args.ring.now.items c.args.place c.in-Some.sum.now 0 (sym c.in-Some.ensures.value) in
    omega (arith, is, more-least c.args.ring.now.items c.args.place inside)

pub returns-in-Some-clause-items : goal.returns-in-Some-clause-items
returns-in-Some-clause-items c =
    let is : get_or c.args.ring.now.items c.args.place 0 ≡ c.in-Some.sum.now = get_or_from_slice_get c.args.ring.now.items c.args.place c.in-Some.sum.now 0 (sym c.in-Some.ensures.value) in
    rw (is, c.from.ensures) refl

pub returns-in_default-clause-items : goal.returns-in_default-clause-items
returns-in_default-clause-items c =
    let inside : c.args.place < length c.args.ring.now.items = omega (arith, c.requires.full.full, c.requires.place) in
    let some : None ≡ Some (get_or c.args.ring.now.items c.args.place 0) = c.in_default.ensures.value ∙ slice_get-get_or c.args.ring.now.items c.args.place 0 inside in
    cc some
