use Rattle.std.proofs.Common.{◌+◌, arith, refl}
use Rattle.turn_lock.specs.Seats.{entry}
use Rattle.turn_lock.proofs.Adding.{adds_entry}
use Rattle.turn_lock.proofs.adder.AdderObject.apply.Goals as goal

pub invariant_of-self-2 : goal.invariant_of-self-2
invariant_of-self-2 c = let h = c.self.inside.entries.items in
    adds_entry c.self.inside.total c.from.result h c.push.new.self.items (entry c.args.caller c.args.call (c.self.inside.total + c.from.result)) c.in_default.ensures.items c.self.invariant
    (omega (arith, c.number-number.ensures)) (omega (arith, c.number-number.ensures)) (omega (arith, c.from.ensures, c.number-number.ensures)) refl (omega arith)
