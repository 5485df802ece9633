use Rattle.std.proofs.Common.{◌<◌, ◌∙◌, ◌++◌, ap, sym, take, length, List, append-nil, arith}
use Rattle.std.proofs.lemmas.Bool.Decides.{nat_tests}
use Rattle.std.proofs.lemmas.List.{take_more, take_all}
use Rattle.link_path.specs.declared.link.Arrival.{Arrival}
use Rattle.link_loop.proofs.Offering.{next-of, taken-more}
use Rattle.link_loop.proofs.receiving.take_all.Goals as goal

pub loop-arrival-init : goal.loop-arrival-init
loop-arrival-init c = ap (λ (xs : List Arrival). record c.args.receiver.now { taken = xs }) (sym (append-nil c.args.receiver.now.taken))

pub take-requires : goal.take-requires
take-requires c =
    next-of c.args.receiver.now c.loop-arrival.receiver c.args.arrived.now c.loop-arrival.arrival-index (record { number = 0; at = 0 }) c.loop-arrival.invariant c.requires
    (grind (arith, nat_tests, c.loop-arrival-test.true))

pub loop-arrival-preserved : goal.loop-arrival-preserved
loop-arrival-preserved c =
    let inside : c.loop-arrival.arrival-index < length c.args.arrived.now = grind (arith, nat_tests, c.loop-arrival-test.true) in
    let d : Arrival = record { number = 0; at = 0 } in
    taken-more c.args.receiver.now c.loop-arrival.receiver c.take.new.self (take c.loop-arrival.arrival-index c.args.arrived.now) _ _ c.loop-arrival.invariant
    (take_more c.args.arrived.now c.loop-arrival.arrival-index d inside) c.in_ok-take.ensures.state

pub returns : goal.returns
returns c =
    c.loop-arrival.invariant
    ∙ ap (λ (xs : List Arrival). record c.args.receiver.now { taken = c.args.receiver.now.taken ++ xs })
    (take_all c.loop-arrival.arrival-index c.args.arrived.now (grind (arith, nat_tests, c.loop-arrival-test.false)))
