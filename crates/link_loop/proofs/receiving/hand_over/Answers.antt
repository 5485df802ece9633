use Rattle.std.proofs.Common.{◌≤◌, sym, subst, List, arith}
use Rattle.link_path.specs.declared.TheConstants.{GREATEST_TAKEN}
use Rattle.link_path.specs.declared.link.Arrival.{Arrival}
use Rattle.link_path.specs.Receiver.{NumbersRise, next_from}
use Rattle.link_loop.proofs.Offering.{may-take, arrivals-at}
use Rattle.link_loop.proofs.receiving.hand_over.Goals as goal

pub take_all-requires : goal.take_all-requires
take_all-requires c =
    let early : c.moment.result ≤ GREATEST_TAKEN = omega (arith, c.moment.ensures, c.requires.early) in
    let ready = c.requires.ready in
    let Q : List Arrival → Type 0 = λ xs. NumbersRise (next_from c.args.looper.now.receiver.from c.args.looper.now.receiver.taken) xs in
    subst Q (sym c.as_slice.ensures.items)
    (may-take c.args.looper.now c.moment.result c.in_ok-arrived.arrived ready early (c.in_ok-arrived.ensures.items ready.settings ready.so_far.events ready.at.link))

pub returns-clause-at : goal.returns-clause-at
returns-clause-at c s m h =
    arrivals-at c.args.looper.now c.arrive.new.self c.take_all.new.receiver c.append.new.list c.in_ok-arrived.arrived c.args.t c.moment.result c.as_slice.result.now s m
    c.moment.ensures (c.in_ok-arrived.ensures.stands s m.events h.link) (c.in_ok-arrived.ensures.items s m.events h.link) c.as_slice.ensures.items
    c.in_ok-take_all.ensures c.in_ok-append.ensures h
