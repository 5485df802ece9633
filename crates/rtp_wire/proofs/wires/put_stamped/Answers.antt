use Rattle.std.proofs.Common.{◌++◌, ap, ◌∙◌, rules}
use Rattle.rtp_wire.proofs.Stamping.{stamped_parts}
use Rattle.rtp_wire.proofs.wires.put_stamped.Goals as goal

pub returns-clause-items : goal.returns-clause-items
returns-clause-items c =
    stamped_parts c.args.bytes.now.items c.args.packet.now c.split_at.result.1.now c.to_be_bytes.result c.put.new.list.items c.put-2.new.list.items
    c.put-3.new.list.items c.args.place c.args.low
    (c.put.ensures.items ∙ ap (λ xs. c.args.bytes.now.items ++ xs) c.split_at.ensures.front)
    (search rules)
    c.put-2.ensures.items c.split_at.ensures.back
    (c.put-3.ensures.items ∙ ap (λ xs. c.put-2.new.list.items ++ xs) c.split_at-2.ensures.back)
