use Rattle.std.proofs.Common.{◌++◌, ap, sym, ◌∙◌, subst, map}
use Rattle.std.specs.List.Sorted.{IsNonDecreasing}
use Rattle.std.proofs.lemmas.List.Sorted.{IsNonDecreasingBy-from_sort}
use Rattle.allocator.specs.Streams.{all_differ, id_of}
use Rattle.allocator.proofs.Ids.{all_differ-IsPermutation}
use Rattle.allocator.proofs.checks.ids_differ.Goals as goal

pub all_differ-requires : goal.all_differ-requires
all_differ-requires c =
    subst IsNonDecreasing (sym c.deref.ensures.value) (IsNonDecreasingBy-from_sort (λ x. x) c.sort_unstable.new.self.items c.sort_unstable.ensures.sorted)

pub returns : goal.returns
returns c =
    c.all_differ.ensures ∙ ap all_differ c.deref.ensures.value
    ∙ all_differ-IsPermutation c.in_ok-ids.ids.items c.sort_unstable.new.self.items c.sort_unstable.ensures.permutation
    ∙ ap all_differ c.in_ok-ids.ensures
    ∙ ap (λ xs. all_differ (map id_of xs ++ c.as_slice-2.result.now)) c.as_slice.ensures.items
    ∙ ap (λ ys. all_differ (map id_of c.args.set.now.items ++ ys)) c.as_slice-2.ensures.items
