use Rattle.std.proofs.Common.{arith, ◌≡◌, ℤ, pos, ◌-ℤ◌, ◌<ℤ◌, to_z, of_z}
use Rattle.std.specs.Int.{w64}
use Rattle.std.proofs.lemmas.Int.{ints}
use Rattle.acked_rate.specs.declared.TheConstants.{WINDOW}
use Rattle.acked_rate.proofs.Rings.{taken-above, taken-sum}
use Rattle.acked_rate.proofs.sums.take_in.Goals as goal

-- as a word of 64 bits holds it
abbrev word : ℤ → ℤ
word z = to_z w64 (of_z w64 z)

pub returns-clause-added : goal.returns-clause-added
returns-clause-added c =
    let after : (c.args.newest -ℤ WINDOW) <ℤ c.args.arrival = omega (arith, ints) in
    let place_is : word (word (word c.args.arrival -ℤ word (word c.args.newest -ℤ pos 2000)) -ℤ pos 1) ≡ (c.args.arrival -ℤ (c.args.newest -ℤ WINDOW)) -ℤ pos 1 = omega (arith, ints) in
    rw c.from.ensures
    (taken-sum c.args.newest c.args.arrival (word (word (word c.args.arrival -ℤ word (word c.args.newest -ℤ pos 2000)) -ℤ pos 1)) c.args.ring.now.items c.add_at.new.ring.items c.args.size
    c.add_at.ensures.items c.requires.full.full place_is after c.requires.newest)

pub returns-clause-above : goal.returns-clause-above
returns-clause-above c limit late =
    let after : (c.args.newest -ℤ WINDOW) <ℤ c.args.arrival = omega (arith, ints) in
    let place_is : word (word (word c.args.arrival -ℤ word (word c.args.newest -ℤ pos 2000)) -ℤ pos 1) ≡ (c.args.arrival -ℤ (c.args.newest -ℤ WINDOW)) -ℤ pos 1 = omega (arith, ints) in
    taken-above c.args.newest c.args.arrival (word (word (word c.args.arrival -ℤ word (word c.args.newest -ℤ pos 2000)) -ℤ pos 1)) c.args.ring.now.items c.add_at.new.ring.items c.args.size
    c.add_at.ensures.items c.requires.full.full place_is after c.requires.newest limit
