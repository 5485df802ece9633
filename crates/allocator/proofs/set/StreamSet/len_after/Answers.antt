use Rattle.std.proofs.Common.{◌∙◌}
use Rattle.allocator.proofs.Changed.{counted_is}
use Rattle.allocator.proofs.set.StreamSet.len_after.Goals as goal

pub returns : goal.returns
returns c =
    counted_is (c.deref.ensures.value ∙ c.self.view_is) c.as_slice-set.ensures.items c.as_slice-removed.ensures.items c.count_kept.ensures.count
