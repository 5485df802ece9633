use Rattle.std.proofs.Common.{ℕ, ◌≡◌, ◌-◌, ◌<◌, ◌≤◌, slice_index}
use Rattle.live_loop.proofs.measures.kept_below.Given as goal

abbrev pub invariant-loop-sample : goal.invariant-loop-sample
invariant-loop-sample l = (l.seen ≡ l.sample-index) × (l.above ≤ l.seen) × (l.seen - l.above < l.count) × ((k : ℕ) → l.above ≤ k → k < l.sample-index → slice_index l.samples k < l.limit)
