use Rattle.allocator.specs.Streams.{has_lesser_id}
use Rattle.allocator.proofs.Placed.{put_is}
use Rattle.allocator.proofs.set.place_by_id.Goals as goal

pub returns : goal.returns
returns c =
    rw (← put_is has_lesser_id c.args.list.now.items c.deref.result.now c.args.stream c.next_by_id-place.result c.deref.ensures.value c.next_by_id-place.ensures)
    c.insert_at.ensures
