use Rattle.std.proofs.Common.{◌≡◌, ◌≤◌, length, ap, sym, ◌∙◌, subst}
use Rattle.std.proofs.lemmas.List.Elements.{All-same}
use Rattle.gcc_units.specs.declared.limits.TheConstants.{MOST_STREAMS}
use Rattle.allocator.specs.Streams.{changed, IsSound, IsStreamSet}
use Rattle.allocator.specs.Order.{in_order}
use Rattle.allocator.specs.Breakpoints.{AreBreakpoints}
use Rattle.allocator.proofs.Changed.{IsStreamSet-changed, changed_same}
use Rattle.allocator.proofs.InOrder.{All-in_order}
use Rattle.allocator.proofs.set.StreamSet.changed.Goals as goal

pub breakpoints_of-requires : goal.breakpoints_of-requires
breakpoints_of-requires c =
    let is : c.in_ok-by_id.by_id.items ≡ changed c.self.inside.by_id.items c.args.set.now.items c.args.removed.now.items =
    c.in_ok-by_id.ensures ∙ changed_same c.deref.ensures.value c.as_slice.ensures.items c.as_slice-2.ensures.items in
    let few : length (changed c.self.inside.by_id.items c.args.set.now.items c.args.removed.now.items) ≤ MOST_STREAMS =
    rw c.self.view_is c.requires.few in
    let set : IsStreamSet c.in_ok-by_id.by_id.items =
    subst IsStreamSet (sym is) (IsStreamSet-changed c.self.inside.by_id.items c.args.set.now.items c.args.removed.now.items c.self.invariant.0 c.requires.sound c.requires.differ few) in
    All-same IsSound _ _ (c.deref-3.ensures.value ∙ c.in_ok-by_weight.ensures ∙ ap in_order c.deref-2.ensures.value) (All-in_order IsSound c.in_ok-by_id.by_id.items set.sound)

pub invariant_of-result : goal.invariant_of-result
invariant_of-result c =
    let is : c.in_ok-by_id.by_id.items ≡ changed c.self.inside.by_id.items c.args.set.now.items c.args.removed.now.items =
    c.in_ok-by_id.ensures ∙ changed_same c.deref.ensures.value c.as_slice.ensures.items c.as_slice-2.ensures.items in
    let few : length (changed c.self.inside.by_id.items c.args.set.now.items c.args.removed.now.items) ≤ MOST_STREAMS =
    rw c.self.view_is c.requires.few in
    let order : c.in_ok-by_weight.by_weight.items ≡ in_order c.in_ok-by_id.by_id.items = c.in_ok-by_weight.ensures ∙ ap in_order c.deref-2.ensures.value in (
      subst IsStreamSet (sym is) (IsStreamSet-changed c.self.inside.by_id.items c.args.set.now.items c.args.removed.now.items c.self.invariant.0 c.requires.sound c.requires.differ few),
      order,
      subst (λ xs. AreBreakpoints xs c.in_ok-points.points.items) (c.deref-3.ensures.value ∙ order) c.in_ok-points.ensures,
    )
