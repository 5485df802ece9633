use Rattle.std.proofs.Common.{sym, ◌∙◌, ap}
use Rattle.link_path.specs.Receiver.{KeptReceiver, next_from}
use Rattle.live_loop.proofs.Numbers.{next-push}
use Rattle.live_loop.proofs.hearing.Hearing.take.Goals as goal

pub invariant_of-self-2 : goal.invariant_of-self-2
invariant_of-self-2 c =
    record { is = sym (ap (λ (r : KeptReceiver). next_from r.from r.taken) c.in_ok-take.ensures.state ∙ next-push c.self.inside.receiver.from c.self.inside.receiver.taken (record { number = c.args.coming.now.packet.number; at = c.args.coming.now.at })) }
