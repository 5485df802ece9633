use Rattle.std.proofs.Common.{length, take, arith, sym, ap, subst}
use Rattle.std.proofs.lemmas.List.{length-take}
use Rattle.sent_history.specs.declared.slot.Outgoing.{Outgoing}
use Rattle.sent_history.specs.Kept.{IsSentBy}
use Rattle.send_core.proofs.Recorded.{takes-packet, sent-by, recorded-more}
use Rattle.send_core.proofs.recording.record_sent.Goals as goal

pub add-requires-clause-few : goal.add-requires-clause-few
add-requires-clause-few c =
    takes-packet c.args.history.now c.loop-sent.history c.args.moment (length c.args.records.now) (take c.loop-sent.sent-index c.args.records.now) c.requires
    (omega (arith, length-take c.loop-sent.sent-index c.args.records.now, c.loop-sent-test.true)) c.loop-sent.invariant

pub add-requires-clause-order : goal.add-requires-clause-order
add-requires-clause-order c =
    subst (IsSentBy c.loop-sent.history) (sym (ap (λ (p : Outgoing). p.sent_at) c.outgoing_of.ensures))
    (sent-by c.args.history.now c.loop-sent.history c.args.moment (length c.args.records.now) (take c.loop-sent.sent-index c.args.records.now) c.requires c.loop-sent.invariant)

pub loop-sent-preserved : goal.loop-sent-preserved
loop-sent-preserved c =
    recorded-more c.args.moment c.args.history.now c.loop-sent.history c.add.new.self c.args.records.now c.loop-sent.sent-index _ c.outgoing_of.result
    c.loop-sent-test.true c.outgoing_of.ensures c.loop-sent.invariant c.add.ensures.stands
