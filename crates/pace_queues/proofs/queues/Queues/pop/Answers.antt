use Rattle.std.proofs.Common.{refl, arith}
use Rattle.pace_queues.proofs.Changes.{bytes-hold, accepted-hold, Kept-pop, rest-pop, loses-pop, popped-first, popped-second, popped-third, last-rank}
use Rattle.pace_queues.proofs.queues.Queues.pop.Goals as goal

pub overflow_sub-self : goal.overflow_sub-self
overflow_sub-self c = omega (arith, bytes-hold c.in_ok-first.first c.self.inside c.args.self.now c.self.invariant c.self.view_is c.in_ok-first.ensures.least)

pub overflow_sub-self-2 : goal.overflow_sub-self-2
overflow_sub-self-2 c = omega (arith, accepted-hold c.in_ok-first.first c.self.inside c.args.self.now c.self.invariant c.self.view_is c.in_ok-first.ensures.least)

pub invariant_of-self : goal.invariant_of-self
invariant_of-self c = (Kept-pop c.in_ok-first.first c.self.inside c.args.self.now c.self.invariant c.self.view_is c.in_ok-first.ensures.least _ (popped-first c.in_ok-first.first c.self.inside _ _ _ c.from.ensures c.from-2.ensures (rw c.in-Audio.is refl) c.pop_front.ensures.items)).0

pub returns-in-Audio-clause-rest : goal.returns-in-Audio-clause-rest
returns-in-Audio-clause-rest c = rest-pop c.in_ok-first.first c.self.inside c.args.self.now c.self.invariant c.self.view_is c.in_ok-first.ensures.least _ (popped-first c.in_ok-first.first c.self.inside _ _ _ c.from.ensures c.from-2.ensures (rw c.in-Audio.is refl) c.pop_front.ensures.items) c.in_ok-first.ensures.first

pub returns-in-Audio-clause-just_it : goal.returns-in-Audio-clause-just_it
returns-in-Audio-clause-just_it c = loses-pop c.in_ok-first.first c.self.inside c.args.self.now c.self.invariant c.self.view_is c.in_ok-first.ensures.least _ (popped-first c.in_ok-first.first c.self.inside _ _ _ c.from.ensures c.from-2.ensures (rw c.in-Audio.is refl) c.pop_front.ensures.items)

pub invariant_of-self-in-Retransmission : goal.invariant_of-self-in-Retransmission
invariant_of-self-in-Retransmission c = (Kept-pop c.in_ok-first.first c.self.inside c.args.self.now c.self.invariant c.self.view_is c.in_ok-first.ensures.least _ (popped-second c.in_ok-first.first c.self.inside _ _ _ c.from.ensures c.from-2.ensures (rw c.in-Retransmission.is refl) c.pop_front-in-Retransmission.ensures.items)).0

pub returns-in-Retransmission-clause-rest : goal.returns-in-Retransmission-clause-rest
returns-in-Retransmission-clause-rest c = rest-pop c.in_ok-first.first c.self.inside c.args.self.now c.self.invariant c.self.view_is c.in_ok-first.ensures.least _ (popped-second c.in_ok-first.first c.self.inside _ _ _ c.from.ensures c.from-2.ensures (rw c.in-Retransmission.is refl) c.pop_front-in-Retransmission.ensures.items) c.in_ok-first.ensures.first

pub returns-in-Retransmission-clause-just_it : goal.returns-in-Retransmission-clause-just_it
returns-in-Retransmission-clause-just_it c = loses-pop c.in_ok-first.first c.self.inside c.args.self.now c.self.invariant c.self.view_is c.in_ok-first.ensures.least _ (popped-second c.in_ok-first.first c.self.inside _ _ _ c.from.ensures c.from-2.ensures (rw c.in-Retransmission.is refl) c.pop_front-in-Retransmission.ensures.items)

pub invariant_of-self-in-Video : goal.invariant_of-self-in-Video
invariant_of-self-in-Video c = (Kept-pop c.in_ok-first.first c.self.inside c.args.self.now c.self.invariant c.self.view_is c.in_ok-first.ensures.least _ (popped-third c.in_ok-first.first c.self.inside _ _ _ c.from.ensures c.from-2.ensures (last-rank c.in_ok-first.first.class c.in-Video.is) c.pop_front-in-Video.ensures.items)).0

pub returns-in-Video-clause-rest : goal.returns-in-Video-clause-rest
returns-in-Video-clause-rest c = rest-pop c.in_ok-first.first c.self.inside c.args.self.now c.self.invariant c.self.view_is c.in_ok-first.ensures.least _ (popped-third c.in_ok-first.first c.self.inside _ _ _ c.from.ensures c.from-2.ensures (last-rank c.in_ok-first.first.class c.in-Video.is) c.pop_front-in-Video.ensures.items) c.in_ok-first.ensures.first

pub returns-in-Video-clause-just_it : goal.returns-in-Video-clause-just_it
returns-in-Video-clause-just_it c = loses-pop c.in_ok-first.first c.self.inside c.args.self.now c.self.invariant c.self.view_is c.in_ok-first.ensures.least _ (popped-third c.in_ok-first.first c.self.inside _ _ _ c.from.ensures c.from-2.ensures (last-rank c.in_ok-first.first.class c.in-Video.is) c.pop_front-in-Video.ensures.items)
