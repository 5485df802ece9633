use Rattle.std.proofs.Common.{◌<◌, length, refl, arith}
use Rattle.gcc_units.specs.declared.limits.TheConstants.{MOST_WAITING}
use Rattle.pace_queues.specs.Rings.{Fits}
use Rattle.pace_queues.proofs.Changes.{bytes-fit, accepted-fit, Kept-push, list-push, pushed-first, pushed-second, pushed-third, last-rank}
use Rattle.pace_queues.proofs.queues.Queues.push.Goals as goal

pub overflow_add-self : goal.overflow_add-self
overflow_add-self c =
    let room : length c.args.self.now < MOST_WAITING = omega (arith, c.len.ensures.len) in
    let fits : Fits c.args.ticket = record { size = omega arith; accepted_at = omega arith } in
    omega (arith, c.from.ensures, bytes-fit c.args.ticket c.self.inside c.args.self.now c.self.invariant c.self.view_is c.requires room fits)

pub overflow_add-self-2 : goal.overflow_add-self-2
overflow_add-self-2 c =
    let room : length c.args.self.now < MOST_WAITING = omega (arith, c.len.ensures.len) in
    let fits : Fits c.args.ticket = record { size = omega arith; accepted_at = omega arith } in
    omega (arith, c.from-2.ensures, accepted-fit c.args.ticket c.self.inside c.args.self.now c.self.invariant c.self.view_is c.requires room fits)

pub invariant_of-self : goal.invariant_of-self
invariant_of-self c =
    let room : length c.args.self.now < MOST_WAITING = omega (arith, c.len.ensures.len) in
    let fits : Fits c.args.ticket = record { size = omega arith; accepted_at = omega arith } in
    (Kept-push c.args.ticket c.self.inside c.args.self.now c.self.invariant c.self.view_is c.requires room fits _ (pushed-first c.args.ticket c.self.inside _ _ _ c.from.ensures c.from-2.ensures (rw c.in-Audio.is refl) c.push_back.ensures.items)).0

pub returns-in-Audio-clause-ok : goal.returns-in-Audio-clause-ok
returns-in-Audio-clause-ok c =
    let room : length c.args.self.now < MOST_WAITING = omega (arith, c.len.ensures.len) in
    let fits : Fits c.args.ticket = record { size = omega arith; accepted_at = omega arith } in
    list-push c.args.ticket c.self.inside c.args.self.now c.self.invariant c.self.view_is c.requires room fits _ (pushed-first c.args.ticket c.self.inside _ _ _ c.from.ensures c.from-2.ensures (rw c.in-Audio.is refl) c.push_back.ensures.items)

pub invariant_of-self-in-Retransmission : goal.invariant_of-self-in-Retransmission
invariant_of-self-in-Retransmission c =
    let room : length c.args.self.now < MOST_WAITING = omega (arith, c.len.ensures.len) in
    let fits : Fits c.args.ticket = record { size = omega arith; accepted_at = omega arith } in
    (Kept-push c.args.ticket c.self.inside c.args.self.now c.self.invariant c.self.view_is c.requires room fits _ (pushed-second c.args.ticket c.self.inside _ _ _ c.from.ensures c.from-2.ensures (rw c.in-Retransmission.is refl) c.push_back-in-Retransmission.ensures.items)).0

pub returns-in-Retransmission-clause-ok : goal.returns-in-Retransmission-clause-ok
returns-in-Retransmission-clause-ok c =
    let room : length c.args.self.now < MOST_WAITING = omega (arith, c.len.ensures.len) in
    let fits : Fits c.args.ticket = record { size = omega arith; accepted_at = omega arith } in
    list-push c.args.ticket c.self.inside c.args.self.now c.self.invariant c.self.view_is c.requires room fits _ (pushed-second c.args.ticket c.self.inside _ _ _ c.from.ensures c.from-2.ensures (rw c.in-Retransmission.is refl) c.push_back-in-Retransmission.ensures.items)

pub invariant_of-self-in-Video : goal.invariant_of-self-in-Video
invariant_of-self-in-Video c =
    let room : length c.args.self.now < MOST_WAITING = omega (arith, c.len.ensures.len) in
    let fits : Fits c.args.ticket = record { size = omega arith; accepted_at = omega arith } in
    (Kept-push c.args.ticket c.self.inside c.args.self.now c.self.invariant c.self.view_is c.requires room fits _ (pushed-third c.args.ticket c.self.inside _ _ _ c.from.ensures c.from-2.ensures (last-rank c.args.ticket.class c.in-Video.is) c.push_back-in-Video.ensures.items)).0

pub returns-in-Video-clause-ok : goal.returns-in-Video-clause-ok
returns-in-Video-clause-ok c =
    let room : length c.args.self.now < MOST_WAITING = omega (arith, c.len.ensures.len) in
    let fits : Fits c.args.ticket = record { size = omega arith; accepted_at = omega arith } in
    list-push c.args.ticket c.self.inside c.args.self.now c.self.invariant c.self.view_is c.requires room fits _ (pushed-third c.args.ticket c.self.inside _ _ _ c.from.ensures c.from-2.ensures (last-rank c.args.ticket.class c.in-Video.is) c.push_back-in-Video.ensures.items)
