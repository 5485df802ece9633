use Rattle.std.proofs.Common.{◌≡◌, ◌<◌, List, length, slice_get, count_by, ap, ◌∙◌, arith, length-set}
use Rattle.circular_buffer.specs.Buffer.{Buffer}
use Rattle.sent_history.specs.declared.slot.Slot.{Slot}
use Rattle.sent_history.specs.Judging.{is_uncredited, uncredited_in}
use Rattle.sent_history.proofs.Counts.{replaced}
use Rattle.sent_history.proofs.ring.Ring.replace.Goals as goal

pub overflow_sub-self : goal.overflow_sub-self
overflow_sub-self c =
    let items : List Slot = c.self.inside.slots.items in
    let inside : c.args.place < length items = omega (arith, c.requires, ap length c.self.view_is) in
    let before : c.uncredited_in-before.result ≡ uncredited_in (slice_get items c.args.place) =
    c.uncredited_in-before.ensures.count ∙ ap uncredited_in (c.copied.ensures ∙ c.get.ensures) in
    omega (arith, before, replaced items c.args.place c.args.slot inside, c.self.invariant.2, c.uncredited_in.ensures.count)

pub invariant_of-self : goal.invariant_of-self
invariant_of-self c =
    let items : List Slot = c.self.inside.slots.items in
    let inside : c.args.place < length items = omega (arith, c.requires, ap length c.self.view_is) in
    let before : c.uncredited_in-before.result ≡ uncredited_in (slice_get items c.args.place) =
    c.uncredited_in-before.ensures.count ∙ ap uncredited_in (c.copied.ensures ∙ c.get.ensures) in (
      ap (λ (b : Buffer Slot). b.capacity) c.put.ensures ∙ c.self.invariant.0,
      omega (arith, ap (λ (b : Buffer Slot). length b.items) c.put.ensures, length-set {A = Slot}, c.self.invariant.1),
      omega (
        arith,
        before,
        replaced items c.args.place c.args.slot inside,
        c.self.invariant.2,
        c.uncredited_in.ensures.count,
        ap (λ (b : Buffer Slot). count_by is_uncredited b.items) c.put.ensures,
      ),
    )
