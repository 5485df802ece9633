use Rattle.live_sender.proofs.NextSends.{next-sends, next-none_before, next-none}
use Rattle.live_sender.proofs.live.LiveSender.next_send.Goals as goal

pub returns-clause-sends : goal.returns-clause-sends
returns-clause-sends c =
    next-sends c.args.self.now c.parts-parts.result.now c.parts-parts.ensures.parts c.next_send.result c.next_send.ensures.from_on c.next_send.ensures.in_time c.next_send.ensures.sends

pub returns-clause-none_before : goal.returns-clause-none_before
returns-clause-none_before c =
    next-none_before c.args.self.now c.parts-parts.result.now c.parts-parts.ensures.parts c.next_send.result c.next_send.ensures.in_time c.next_send.ensures.none_before

pub returns-clause-none : goal.returns-clause-none
returns-clause-none c = next-none c.args.self.now c.parts-parts.result.now c.parts-parts.ensures.parts c.next_send.result c.next_send.ensures.none
