use Rattle.std.proofs.Common.{map, ap, ◌∙◌}
use Rattle.std.proofs.lemmas.List.{take_all}
use Rattle.gcc_units.specs.declared.shared_types.Share.{Share}
use Rattle.allocator.specs.declared.stream.Stream.{Stream}
use Rattle.allocator.specs.Shares.{share_in, spread}
use Rattle.allocator.proofs.RisingShares.{ids-shares, rising-shares}
use Rattle.allocator.proofs.Levels.{shares_is}
use Rattle.allocator.proofs.shares.allocate.Goals as goal

pub returns-clause-shares : goal.returns-clause-shares
returns-clause-shares c =
    let share : Stream → Share = share_in (spread c.standing_of-standing.result.level c.standing_of-standing.result.left c.served_of-served.result.streams.items) in
    c.loop-stream.invariant.items
    ∙ ap (map share) (take_all c.loop-stream.stream-index c.by_id-by_id.result.now c.loop-stream-test.false ∙ c.by_id-by_id.ensures.streams)
    ∙ shares_is c.args.total c.args.streams.now c.in_order.result.now c.served_of-served.result.streams.items
    c.standing_of-standing.result.level c.standing_of-standing.result.left c.in_order.ensures.streams c.served_of-served.ensures.streams
    c.standing_of-standing.ensures.spread

pub returns-clause-ids : goal.returns-clause-ids
returns-clause-ids c = rw (returns-clause-shares c) (ids-shares c.args.total c.args.streams.now)

pub returns-clause-rising : goal.returns-clause-rising
returns-clause-rising c = rw (returns-clause-shares c) (rising-shares c.args.total c.args.streams.now c.by_id-by_id.ensures.set.rising)
