use Rattle.std.proofs.Common.{◌≡◌, ◌∙◌, ap, refl, arith, to_z, of_z, if◌then◌else◌}
use Rattle.std.specs.Int.{w64}
use Rattle.std.proofs.lemmas.Int.{ints, to_z-of_z}
use Rattle.overuse.specs.Detector.{State, time_above, is_over, signal_at, next_threshold}
use Rattle.overuse.proofs.Steps.{after_is, signal_is, stands_after, signals_after, room_time}
use Rattle.overuse.proofs.Detector.step.Goals as goal
use Rattle.overuse.proofs.Detector.step.Goals.{then-over, else-over}

threshold_is : (c : goal.After-self-3-1) → to_z w64 (of_z w64 c.self.inside.threshold) ≡ c.self.inside.threshold
threshold_is c = omega (arith, ints)

mean_is : (c : goal.After-self-3-1) → to_z w64 (of_z w64 c.args.m) ≡ c.args.m
mean_is c = omega (arith, ints)

time_is : (c : goal.After-self-3-1) → c.time_with-time.result ≡ time_above c.self.inside.threshold c.self.inside.time c.args.m c.args.sample.now.send_gap
time_is c = rw (threshold_is c, mean_is c) at c.time_with-time.ensures

over_is : (c : goal.After-self-3-1) → c.is_overuse-over.result ≡ is_over c.self.inside.threshold c.self.inside.before c.time_with-time.result c.args.m
over_is c = grind (arith, to_z-of_z, c.is_overuse-over.ensures)

signal_at_is : (c : goal.After-self-3-1) → c.signal_with-signal.result ≡ signal_at c.is_overuse-over.result c.self.inside.threshold c.args.m
signal_at_is c = rw (threshold_is c, mean_is c) at c.signal_with-signal.ensures

kept_is : (c : goal.After-self-3-1) → c.if-over.self ≡ (if c.is_overuse-over.result then 0 else c.time_with-time.result)
kept_is c = elim c.if-over.branch [ then-over w ↦ rw (w.self-is, w.if-over.true) refl | else-over w ↦ rw (w.self-is, w.if-over.false) refl ]

gap_is : (c : goal.After-self-3-1) → to_z w64 (of_z w64 c.args.sample.now.arrival_gap) ≡ c.args.sample.now.arrival_gap
gap_is c = omega (arith, ints)

result_is : (c : goal.After-self-3-1) → to_z w64 (of_z w64 c.adapted-self-inside.result) ≡ c.adapted-self-inside.result
result_is c = omega (arith, ints)

threshold_after : (c : goal.After-self-3-1)
    → to_z w64 (of_z w64 c.adapted-self-inside.result) ≡ next_threshold c.self.inside.threshold c.args.m c.args.sample.now.arrival_gap
threshold_after c = result_is c ∙ (rw (threshold_is c, mean_is c, gap_is c) at c.adapted-self-inside.ensures.value)

pub returns-clause-state : goal.returns-clause-state
returns-clause-state c =
    rw (← c.self.view_is, mean_is c)
    (after_is _ (record { mean = c.args.m; sample = c.args.sample.now }) _ c.time_with-time.result c.is_overuse-over.result _
    (time_is c) (over_is c) (kept_is c) (threshold_after c))

pub returns-clause-signal : goal.returns-clause-signal
returns-clause-signal c =
    rw (← c.self.view_is)
    (signal_is _ (record { mean = c.args.m; sample = c.args.sample.now }) c.time_with-time.result c.is_overuse-over.result _ (time_is c) (over_is c) (signal_at_is c))

pub returns-clause-stands : goal.returns-clause-stands
returns-clause-stands c = stands_after _ _ _ (returns-clause-state c)

pub returns-clause-signals : goal.returns-clause-signals
returns-clause-signals c = signals_after _ _ _ (returns-clause-signal c)

pub invariant_of-self : goal.invariant_of-self
invariant_of-self c =
    record {
      least = omega (arith, ints);
      greatest = omega (arith, ints);
      time = rw (ap (λ (s : State). s.time) (returns-clause-state c)) (room_time c.args.self.now (record { mean = c.args.m; sample = c.args.sample.now }) c.requires);
    }
