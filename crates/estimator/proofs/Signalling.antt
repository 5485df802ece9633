-- What one more sample changes, and what one more credit.
use Rattle.std.proofs.Common.{ℕ, ◌≡◌, ◌+◌, ◌≤◌, List, [], ◌∷◌, ◌++◌, fold, All, refl, ap, ◌∙◌, sym, arith}
use Rattle.std.proofs.lemmas.List.Elements.{All-append}
use Rattle.std.proofs.lemmas.List.Sums.{fold-append, sum_by-append}
use Rattle.gcc_units.specs.declared.shared_types.Credit.{Credit}
use Rattle.gcc_units.specs.declared.shared_types.Sample.{Sample}
use Rattle.gcc_units.specs.declared.shared_types.Signal.{Signal}
use Rattle.packet_groups.specs.Division.{GapsAreShort, total_gap}
use Rattle.packet_groups.specs.Groups.{samples}
use Rattle.packet_groups.specs.Kept as grouped
use Rattle.packet_groups.specs.declared.step.State as groups_state
use Rattle.arrival_filter.specs.Filter as filter
use Rattle.overuse.specs.Detector as detector
use Rattle.overuse.specs.StateBySteps as detected
use Rattle.estimator.specs.Signals.{step_of, steps_from, steps, signals, Follow, IsSentBy}

steps-push : (f : filter.State) (xs : List Sample) (x : Sample) → steps_from f (xs ++ x ∷ []) ≡ steps_from f xs ++ step_of (fold filter.step f xs) x ∷ []
steps-push f [] x = refl
steps-push f (y ∷ ys) x = ap (λ (zs : List detector.Step). step_of f y ∷ zs) (steps-push (filter.step f y) ys x)

steps-gap : (f : filter.State) (xs : List Sample) → detected.total_gap (steps_from f xs) ≡ total_gap xs
steps-gap f [] = refl
steps-gap f (x ∷ xs) =
    omega (
      arith,
      steps-gap (filter.step f x) xs,
      sum_by-append (λ (y : detector.Step). y.sample.send_gap) (step_of f x ∷ []) (steps_from (filter.step f x) xs),
      sum_by-append (λ (y : Sample). y.send_gap) (x ∷ []) xs,
    )

-- the send gap of a credit's sample ends before the last departure
pub gap_fits : (before : List Credit) (c : Credit) (s : Sample) (moment : ℕ) → GapsAreShort → samples (before ++ c ∷ []) ≡ samples before ++ s ∷ []
    → All (IsSentBy moment) before → All (IsSentBy moment) (c ∷ []) → detected.total_gap (steps (samples before)) + s.send_gap ≤ moment
gap_fits before c s moment short e earlier sent =
    let all : total_gap (samples before ++ s ∷ []) ≤ moment = rw (← e) (short (before ++ c ∷ []) moment (All-append (IsSentBy moment) before (c ∷ []) earlier sent)) in
    omega (arith, all, steps-gap filter.start (samples before), sum_by-append (λ (y : Sample). y.send_gap) (samples before) (s ∷ []))

signals-push : (d : detector.State) (xs : List detector.Step) (x : detector.Step)
    → detector.signals_from d (xs ++ x ∷ []) ≡ detector.signals_from d xs ++ detector.signal_of (fold detector.after d xs) x ∷ []
signals-push d [] x = refl
signals-push d (y ∷ ys) x = ap (λ (rest : List Signal). detector.signal_of d y ∷ rest) (signals-push (detector.after d y) ys x)

module _ (before : List Credit) (c : Credit) (s : Sample) (g : groups_state.State) (f : filter.State) (d : detector.State) (follow : Follow before g f d)
    (grows : samples (before ++ c ∷ []) ≡ samples before ++ s ∷ []) where
  step-same : step_of (filter.filter_state (samples before)) s ≡ step_of f s
  step-same = ap (λ (k : filter.State). step_of k s) (sym follow.filter)

  steps-grow : steps (samples (before ++ c ∷ [])) ≡ steps (samples before) ++ step_of f s ∷ []
  steps-grow =
      ap steps grows ∙ steps-push filter.start (samples before) s
      ∙ ap (λ (x : detector.Step). steps (samples before) ++ x ∷ []) step-same

  -- they follow one credit more, where it gives a sample
  pub follow_sample : (g' : groups_state.State) (f' : filter.State) (d' : detector.State) → grouped.StandsFor g' (before ++ c ∷ [])
      → f' ≡ filter.step f s → d' ≡ detector.after d (step_of f s) → Follow (before ++ c ∷ []) g' f' d'
  follow_sample g' f' d' stands ef ed = record {
    groups = stands;
    filter =
        ef ∙ ap (λ (k : filter.State). filter.step k s) follow.filter ∙ sym (fold-append filter.step filter.start (samples before) (s ∷ []))
        ∙ sym (ap filter.filter_state grows);
    detector =
        ed ∙ ap (λ (k : detector.State). detector.after k (step_of f s)) follow.detector
        ∙ sym (fold-append detector.after detector.start (steps (samples before)) (step_of f s ∷ [])) ∙ sym (ap detector.detector_state steps-grow);
  }

  -- and there is one signal more
  pub signals_sample : (signal : Signal) → signal ≡ detector.signal_of d (step_of f s) → signals (before ++ c ∷ []) ≡ signals before ++ signal ∷ []
  signals_sample signal e =
      ap detector.signals steps-grow ∙ signals-push detector.start (steps (samples before)) (step_of f s)
      ∙ ap (λ (x : Signal). signals before ++ x ∷ []) (ap (λ (k : detector.State). detector.signal_of k (step_of f s)) (sym follow.detector) ∙ sym e)
