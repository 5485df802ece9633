use Rattle.std.proofs.Common.{◌<◌, ◌++◌, ◌+◌, ◌-◌, get_or, subst, length, take, replicate, None, arith}
use Rattle.std.proofs.lemmas.Bool.Decides.{nat_tests}
use Rattle.std.proofs.lemmas.List.{take_more}
use Rattle.link_path.specs.declared.link.Arrival.{Arrival}
use Rattle.link_path.specs.Division.{Run}
use Rattle.link_path.specs.Building.{IsBuilt}
use Rattle.link_path.specs.Receiver.{heard}
use Rattle.link_path.proofs.Heard.{rise-at, put-one, next-one}
use Rattle.link_path.proofs.receiver.put_all.Goals as goal

pub overflow_sub-missing : goal.overflow_sub-missing
overflow_sub-missing c =
    let inside : c.loop-arrival.arrival-index < length c.args.taken.now = grind (arith, nat_tests, c.loop-arrival-test.true) in
    let place = rise-at c.args.from c.args.taken.now c.loop-arrival.arrival-index (record { number = 0; at = 0 }) c.requires.rise inside in
    omega (arith, place.after, c.loop-arrival.invariant.next, c.from.ensures)

pub overflow_cast-arrival : goal.overflow_cast-arrival
overflow_cast-arrival c =
    let inside : c.loop-arrival.arrival-index < length c.args.taken.now = grind (arith, nat_tests, c.loop-arrival-test.true) in
    let place = rise-at c.args.from c.args.taken.now c.loop-arrival.arrival-index (record { number = 0; at = 0 }) c.requires.rise inside in
    omega (arith, place.range)

pub loop-arrival-preserved : goal.loop-arrival-preserved
loop-arrival-preserved c =
    let inside : c.loop-arrival.arrival-index < length c.args.taken.now = grind (arith, nat_tests, c.loop-arrival-test.true) in
    let d : Arrival = record { number = 0; at = 0 } in
    let more = take_more c.args.taken.now c.loop-arrival.arrival-index d inside in
    record {
      built = λ told numbers h.
          let P : Run → Type 0 = λ run. IsBuilt c.put.new.self told run in
          let walked : Run = numbers ++ heard c.args.from (take c.loop-arrival.arrival-index c.args.taken.now) in
          let missing : Run = walked ++ replicate (c.from.result - c.loop-arrival.next) None in
          subst P (put-one numbers c.args.from c.loop-arrival.next c.from.result (take c.loop-arrival.arrival-index c.args.taken.now) (take (c.loop-arrival.arrival-index + 1) c.args.taken.now)
          (get_or c.args.taken.now c.loop-arrival.arrival-index d) more c.loop-arrival.invariant.next c.from.ensures)
          (c.in_ok-put.ensures told missing (c.in_ok-put_missing.ensures told walked (c.loop-arrival.invariant.built told numbers h)));
      next = next-one c.args.from c.from-next.result (take c.loop-arrival.arrival-index c.args.taken.now) (take (c.loop-arrival.arrival-index + 1) c.args.taken.now)
          (get_or c.args.taken.now c.loop-arrival.arrival-index d) more c.from-next.ensures;
    }
