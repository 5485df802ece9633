use Rattle.std.proofs.Common.{arith, ◌≡◌, ℕ, ◌<◌, ◌++◌, [], ◌∷◌, length, length-append, ap, ◌∙◌}
use Rattle.std.proofs.lemmas.List.Sums.{sum_by-append}
use Rattle.circular_buffer.specs.Buffer.{Buffer}
use Rattle.acked_rate.proofs.Rings.{kept-whole}
use Rattle.acked_rate.proofs.sums.ring_of_nothing.Goals as goal

pub loop-i-preserved : goal.loop-i-preserved
loop-i-preserved c =
    let few : length c.loop-i.ring.items < c.loop-i.ring.capacity = omega (arith, c.loop-i.invariant.count, c.loop-i.invariant.room) in
    let items : c.push_back.new.self.items ≡ c.loop-i.ring.items ++ 0 ∷ [] =
    ap (λ (b : Buffer ℕ). b.items) c.push_back.ensures.items ∙ kept-whole c.loop-i.ring.capacity c.loop-i.ring.items few in
    let room : c.push_back.new.self.capacity ≡ c.loop-i.ring.capacity = ap (λ (b : Buffer ℕ). b.capacity) c.push_back.ensures.items in
    record {
      room = room ∙ c.loop-i.invariant.room;
      count = rw items (omega (arith, c.loop-i.invariant.count, length-append c.loop-i.ring.items (0 ∷ [])));
      nothing = rw items (omega (arith, c.loop-i.invariant.nothing, sum_by-append (λ (n : ℕ). n) c.loop-i.ring.items (0 ∷ [])));
    }
