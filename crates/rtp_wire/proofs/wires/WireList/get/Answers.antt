use Rattle.std.proofs.Common.{◌≡◌, ◌<◌, ◌≤◌, ◌-◌, ℕ, List, length, get_or, take, drop, Some, sym, ap, arith}
use Rattle.std.proofs.lemmas.Option.{slice_get_past}
use Rattle.std.specs.List.{slice_get}
use Rattle.rtp_wire.specs.Starts.{start_at}
use Rattle.rtp_wire.specs.Cutting.{pieces, AreEnds}
use Rattle.rtp_wire.proofs.Pieces.{length-pieces, slice_get-pieces, in_order}
use Rattle.rtp_wire.proofs.wires.WireList.get.Goals as goal

pub returns-then-k-ends : goal.returns-then-k-ends
returns-then-k-ends c =
    let ends = c.self.inside.ends.items in
    let bytes = c.self.inside.bytes.items in
    let past : length ends ≤ c.args.k = omega (arith, ap length c.as_slice-ends.ensures.value) in
    rw (← c.self.view_is)
    (sym (slice_get_past (pieces 0 ends bytes) c.args.k (omega (arith, length-pieces 0 ends bytes))))

-- the bounds of the packet at k
bounds : (ends bytes seen : List ℕ) (k start : ℕ) → AreEnds 0 ends (length bytes) → seen ≡ ends → k < length seen → start ≡ start_at 0 seen k
    → (start ≤ get_or seen k 0) × (get_or seen k 0 ≤ length bytes)
bounds ends bytes seen k start h e lt s = rw (s, e) (in_order 0 ends (length bytes) k h (omega (arith, ap length e)))

-- and the packet
piece : (ends bytes seen all : List ℕ) (k start : ℕ) → seen ≡ ends → all ≡ bytes → k < length seen → start ≡ start_at 0 seen k
    → Some (take (get_or seen k 0 - start) (drop start all)) ≡ slice_get (pieces 0 ends bytes) k
piece ends bytes seen all k start e ea lt s = rw (s, e, ea) (sym (slice_get-pieces 0 ends bytes k (omega (arith, ap length e))))

pub slice_bounds-result-count : goal.slice_bounds-result-count
slice_bounds-result-count c =
    (bounds c.self.inside.ends.items c.self.inside.bytes.items c.as_slice-ends.result.now c.args.k c.start_of.result
    c.self.invariant.ends c.as_slice-ends.ensures.value c.if-k-ends.false c.start_of.ensures).0

pub slice_bounds-result-start : goal.slice_bounds-result-start
slice_bounds-result-start c =
    let b = bounds c.self.inside.ends.items c.self.inside.bytes.items c.as_slice-ends.result.now c.args.k c.start_of.result
    c.self.invariant.ends c.as_slice-ends.ensures.value c.if-k-ends.false c.start_of.ensures in
    omega (arith, b.0, b.1, ap length c.as_slice.ensures.value)

pub slice_bounds-result-end : goal.slice_bounds-result-end
slice_bounds-result-end c =
    let b = bounds c.self.inside.ends.items c.self.inside.bytes.items c.as_slice-ends.result.now c.args.k c.start_of.result
    c.self.invariant.ends c.as_slice-ends.ensures.value c.if-k-ends.false c.start_of.ensures in
    omega (arith, b.0, b.1, ap length c.as_slice.ensures.value)

pub returns : goal.returns
returns c =
    rw (← c.self.view_is)
    (piece c.self.inside.ends.items c.self.inside.bytes.items c.as_slice-ends.result.now c.as_slice.result.now c.args.k c.start_of.result
    c.as_slice-ends.ensures.value c.as_slice.ensures.value c.if-k-ends.false c.start_of.ensures)
