use Rattle.std.proofs.Common.{◌≡◌, ◌-ℤ◌, ◌*◌, arith, ap, ◌∙◌, ◌≤ℤ◌, neg_ℤ, to_z, of_z, ◌+◌, ◌≤◌, ◌++◌, ◌∷◌, []}
use Rattle.std.specs.Int.{w64}
use Rattle.std.proofs.lemmas.Int.{ints, to_z-of_z}
use Rattle.gcc_units.specs.declared.limits.TheConstants.{GREATEST_DELAY}
use Rattle.fixed_math.specs.Power.{power_q30}
use Rattle.arrival_filter.specs.declared.TheConstants.{PROCESS_NOISE, GREATEST_ERROR, FORGETTING}
use Rattle.arrival_filter.specs.Filter.{State, last_kept, cut, next_variance, moved}
use Rattle.arrival_filter.proofs.Numbers.{mean_within}
use Rattle.arrival_filter.proofs.Samples.{few_error, step_is, stands_after}
use Rattle.arrival_filter.proofs.Filter.step.Goals as goal

residual : (c : goal.After-result-1) → c.cut_to-residual.result ≡ cut (c.args.sample.now.d -ℤ c.self.inside.mean) (3 * c.isqrt-bound.result)
residual c = c.cut_to-residual.ensures.value ∙ ap (λ z. cut z (3 * c.isqrt-bound.result)) (omega (arith, ints))

variance : (c : goal.After-result-1) → c.variance_after-self-inside.result ≡ next_variance c.pow_q30-alpha.result c.self.inside.variance c.cut_to-residual.result
variance c = grind (arith, to_z-of_z, c.variance_after-self-inside.ensures.value)

mean : (c : goal.After-result-1) → c.move_by-self-inside.result ≡ moved c.self.inside.mean c.cut_to-residual.result c.gain_of-gain.result
mean c = grind (arith, to_z-of_z, c.move_by-self-inside.ensures.value)

old_mean : (c : goal.After-result-1) → to_z w64 (of_z w64 c.self.inside.mean) ≡ c.self.inside.mean
old_mean c = omega (arith, ints)

whole_residual : (c : goal.After-result-1) → to_z w64 (of_z w64 c.cut_to-residual.result) ≡ c.cut_to-residual.result
whole_residual c = omega (arith, ints)

within : (c : goal.After-result-1) → (neg_ℤ GREATEST_DELAY ≤ℤ c.move_by-self-inside.result) × (c.move_by-self-inside.result ≤ℤ GREATEST_DELAY)
within c =
    mean_within c.self.inside.mean c.args.sample.now.d c.cut_to-residual.result c.move_by-self-inside.result (3 * c.isqrt-bound.result)
    c.self.invariant.mean_low c.self.invariant.mean_high c.requires.within.low c.requires.within.high (residual c)
    (rw (old_mean c, whole_residual c) at c.move_by-self-inside.ensures.low)
    (rw (old_mean c, whole_residual c) at c.move_by-self-inside.ensures.high)

few : (c : goal.After-result-1) → c.self.inside.error + PROCESS_NOISE ≤ GREATEST_ERROR
few c = rw (ap (λ (s : State). s.error) c.self.view_is) (few_error c.args.self.now c.requires.few)

whole : (c : goal.After-result-1) → to_z w64 (of_z w64 c.move_by-self-inside.result) ≡ c.move_by-self-inside.result
whole c = let range = within c in omega (arith, ints)

pub invariant_of-self : goal.invariant_of-self
invariant_of-self c =
    let range = within c in
    record {
      mean_low = omega (arith, ints);
      mean_high = omega (arith, ints);
      least_variance = c.variance_after-self-inside.ensures.least;
      greatest_variance = c.variance_after-self-inside.ensures.greatest;
      greatest_error = omega (arith, few c);
    }

pub returns-clause-state : goal.returns-clause-state
returns-clause-state c =
    rw (← c.self.view_is)
    (step_is _ _ _ _ (3 * c.isqrt-bound.result) c.cut_to-residual.result _ c.gain_of-gain.result _ _
    (c.keep.ensures ∙ ap (λ n. last_kept (c.self.inside.intervals.items ++ n ∷ [])) c.min-interval.ensures)
    (c.pow_q30-alpha.ensures.value ∙ ap (λ n. power_q30 FORGETTING n) c.least_of.ensures.value)
    (ap (λ r. 3 * r) c.isqrt-bound.ensures.value)
    (residual c) (variance c) c.gain_of-gain.ensures.value (whole c ∙ mean c) c.error_left-self-inside.ensures.value)

pub returns-clause-stands : goal.returns-clause-stands
returns-clause-stands c = stands_after _ _ _ (returns-clause-state c)
