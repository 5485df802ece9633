use Rattle.allocator.specs.Order.{goes_before}
use Rattle.allocator.proofs.Placed.{put_is}
use Rattle.allocator.proofs.set.place_by_weight.Goals as goal

pub returns : goal.returns
returns c =
    rw (← put_is goes_before c.args.list.now.items c.deref.result.now c.args.stream c.next_by_weight-place.result c.deref.ensures.value c.next_by_weight-place.ensures)
    c.insert_at.ensures
