-- The filter and the trendline beside each other: what one more sample changes.
use Rattle.std.proofs.Common.{◌≡◌, ℕ, ℤ, pos, neg_ℤ, ◌+◌, ◌*◌, ◌<◌, ◌≤◌, ◌≤ℤ◌, ◌*ℤ◌, min, to_z, of_z, w64, unwrap_or, Bool, true, false, cond, Option, None, Some, IfSome, List, [], ◌∷◌, ◌++◌, length, length-append, fold, get_or, refl, sym, ◌∙◌, ap, subst, arith}
use Rattle.std.specs.Prelude.{nat_lt}
use Rattle.std.specs.Ordering.{int_eq}
use Rattle.std.specs.Int.{int_min, int_max, int_div_euclid}
use Rattle.std.proofs.lemmas.Int.{ints, int_max_is, int_min_is}
use Rattle.std.proofs.lemmas.List.{get_or_at}
use Rattle.std.proofs.lemmas.List.Sums.{fold-append, sum_by-append}
use Rattle.gcc_units.specs.Walk.{each_by}
use Rattle.gcc_units.proofs.Walk.{each_by-push}
use Rattle.gcc_units.specs.declared.limits.TheConstants.{GREATEST_MOMENT, MOST_PACKETS}
use Rattle.gcc_units.specs.declared.shared_types.Sample.{Sample}
use Rattle.gcc_units.specs.declared.shared_types.Signal.{Signal}
use Rattle.gcc_units.specs.declared.shared_types.Signal.TheVariants.{Normal}
use Rattle.packet_groups.specs.Division.{total_gap}
use Rattle.arrival_filter.specs.Filter as filter
use Rattle.arrival_filter.specs.StateBySamples as filtered
use Rattle.overuse.specs.Detector as detector
use Rattle.overuse.specs.StateBySteps as detected
use Rattle.trendline.specs.declared.TheConstants.{MOST_POINTS, MOST_DELTAS, GREATEST_SLOPE}
use Rattle.trendline.specs.Ranges.{IsNear}
use Rattle.trendline.specs.Trend as trendline
use Rattle.trendline.proofs.Numbers.{near-times, whole}
use Rattle.trendline.specs.KeptBySamples as trended
use Rattle.estimator.specs.Signals.{step_of, steps_from, steps}
use Rattle.run_top.specs.declared.beside.Beside.{Beside}
use Rattle.run_top.specs.declared.beside.Compared.{Compared}
use Rattle.run_top.specs.Beside.{last_signal, compared_after, IsBeside, AreTaken}

-- ---- the steps of both detectors

steps_from-push : (f : filter.State) (xs : List Sample) (x : Sample) → steps_from f (xs ++ x ∷ []) ≡ steps_from f xs ++ step_of (fold filter.step f xs) x ∷ []
steps_from-push f [] x = refl
steps_from-push f (y ∷ ys) x = ap (λ (zs : List detector.Step). step_of f y ∷ zs) (steps_from-push (filter.step f y) ys x)

abbrev step_at : ℤ → Sample → detector.Step
step_at mean s = record { mean = mean; sample = s }

-- the filter's detector is given the mean after the sample
pub steps-push : (samples : List Sample) (s : Sample) (mean : ℤ) → mean ≡ (filter.filter_state (samples ++ s ∷ [])).mean
    → steps (samples ++ s ∷ []) ≡ steps samples ++ step_at mean s ∷ []
steps-push samples s mean is =
    steps_from-push filter.start samples s
    ∙ ap (λ (m : ℤ). steps samples ++ step_at m s ∷ [])
    (sym (is ∙ ap (λ (f : filter.State). f.mean) (fold-append filter.step filter.start samples (s ∷ []))))

-- the trend's detector is given the trend after it
pub trend_steps-push : (samples : List Sample) (s : Sample) (value : ℤ) → value ≡ trendline.trend (samples ++ s ∷ [])
    → trendline.steps (samples ++ s ∷ []) ≡ trendline.steps samples ++ step_at value s ∷ []
trend_steps-push samples s value is =
    each_by-push (λ before x. step_at (trendline.trend (before ++ x ∷ [])) x) [] samples s
    ∙ ap (λ (m : ℤ). trendline.steps samples ++ step_at m s ∷ []) (sym is)

-- ---- room in both detectors

gap-of : detector.Step → ℕ
gap-of x = x.sample.send_gap

steps-gap : (f : filter.State) (xs : List Sample) → detected.total_gap (steps_from f xs) ≡ total_gap xs
steps-gap f [] = refl
steps-gap f (x ∷ xs) =
    omega (
      arith,
      steps-gap (filter.step f x) xs,
      sum_by-append (λ (y : detector.Step). y.sample.send_gap) (step_of f x ∷ []) (steps_from (filter.step f x) xs),
      sum_by-append (λ (y : Sample). y.send_gap) (x ∷ []) xs,
    )

trend_steps-gap : (value : List Sample → ℤ) (before xs : List Sample)
    → detected.total_gap (each_by (λ before s. step_at (value (before ++ s ∷ [])) s) before xs) ≡ total_gap xs
trend_steps-gap value before [] = refl
trend_steps-gap value before (x ∷ xs) =
    omega (
      arith,
      trend_steps-gap value (before ++ x ∷ []) xs,
      sum_by-append (λ (y : detector.Step). y.sample.send_gap) (step_at (value (before ++ x ∷ [])) x ∷ []) (each_by (λ before s. step_at (value (before ++ s ∷ [])) s) (before ++ x ∷ []) xs),
      sum_by-append (λ (y : Sample). y.send_gap) (x ∷ []) xs,
    )

abbrev HasRoom : List detector.Step → Sample → Type 0
HasRoom steps s = detected.total_gap steps + s.send_gap ≤ GREATEST_MOMENT

room : (samples : List Sample) (s : Sample) (given : List detector.Step) → total_gap (samples ++ s ∷ []) ≤ GREATEST_MOMENT → detected.total_gap given ≡ total_gap samples → HasRoom given s
room samples s given short same = omega (arith, short, same, sum_by-append (λ (y : Sample). y.send_gap) samples (s ∷ []))

pub filter-room : (samples : List Sample) (s : Sample) → AreTaken (samples ++ s ∷ []) → HasRoom (steps samples) s
filter-room samples s taken = room samples s (steps samples) taken.gaps (steps-gap filter.start samples)

pub trend-room : (samples : List Sample) (s : Sample) → AreTaken (samples ++ s ∷ []) → HasRoom (trendline.steps samples) s
trend-room samples s taken = room samples s (trendline.steps samples) taken.gaps (trend_steps-gap trendline.trend [] samples)

pub filter-few : (samples : List Sample) (s : Sample) → AreTaken (samples ++ s ∷ []) → length samples < MOST_PACKETS
filter-few samples s taken = omega (arith, taken.within.few, length-append samples (s ∷ []))

-- ---- the slope is cut

cut-low : (low z : ℤ) → low ≤ℤ int_max low z
cut-low low z = omega (arith, ints, int_max_is low z)

cut-high : (low high z : ℤ) → low ≤ℤ high → int_max low (int_min z high) ≤ℤ high
cut-high low high z order = omega (arith, ints, int_max_is low (int_min z high), int_min_is z high, order)

abbrev IsLow : Option ℤ → Type 0
IsLow o = IfSome o (λ (z : ℤ). neg_ℤ GREATEST_SLOPE ≤ℤ z)

abbrev IsHigh : Option ℤ → Type 0
IsHigh o = IfSome o (λ (z : ℤ). z ≤ℤ GREATEST_SLOPE)

abbrev cut_to : ℤ → ℤ
cut_to z = int_max (neg_ℤ GREATEST_SLOPE) (int_min z GREATEST_SLOPE)

fit-cut : (P : Option ℤ → Type 0) → P None → ((z : ℤ) → P (Some (cut_to z))) → (b : Bool) (z : ℤ) → P (cond b None (Some (cut_to z)))
fit-cut P none some true z = none
fit-cut P none some false z = some z

fit-by : (P : Option ℤ → Type 0) → P None → ((z : ℤ) → P (Some (cut_to z))) → (rise spread : ℤ) → P (trendline.fit rise spread)
fit-by P none some rise spread = fit-cut P none some (int_eq spread (pos 0)) (int_div_euclid (pos 4 *ℤ rise) spread)

count-by : (P : Option ℤ → Type 0) → P None → ((z : ℤ) → P (Some (cut_to z))) → (b : Bool) (rise spread : ℤ) → P (cond b None (trendline.fit rise spread))
count-by P none some true rise spread = none
count-by P none some false rise spread = fit-by P none some rise spread

slope-by : (P : Option ℤ → Type 0) → P None → ((z : ℤ) → P (Some (cut_to z))) → (samples : List Sample) → P (trendline.slope samples)
unfolding trendline.slope
slope-by P none some samples =
    count-by P none some (nat_lt (length samples) MOST_POINTS) (trendline.rise_of (trendline.sums_of (trendline.last_points samples))) (trendline.spread_of (trendline.sums_of (trendline.last_points samples)))

pub slope-low : (samples : List Sample) (o : Option ℤ) → o ≡ trendline.slope samples → IsLow o
slope-low samples o is = subst IsLow (sym is) (slope-by IsLow tt (λ z. cut-low (neg_ℤ GREATEST_SLOPE) (int_min z GREATEST_SLOPE)) samples)

pub slope-high : (samples : List Sample) (o : Option ℤ) → o ≡ trendline.slope samples → IsHigh o
slope-high samples o is =
    subst IsHigh (sym is) (slope-by IsHigh tt (λ z. cut-high (neg_ℤ GREATEST_SLOPE) GREATEST_SLOPE z (omega (arith, ints))) samples)

-- and a trend of it is a whole number of 64 bits
near-slope : (o : Option ℤ) → IsLow o → IsHigh o → IsNear 1099511627776 (unwrap_or o (pos 0))
near-slope None low high = record { low = omega (arith, ints); high = omega (arith, ints) }
near-slope (Some z) low high = record { low = low; high = high }

pub trend-whole : (count n : ℕ) (o : Option ℤ) (u : ℤ) → IsLow o → IsHigh o → n ≡ min count MOST_DELTAS → u ≡ unwrap_or o (pos 0)
    → to_z w64 (of_z w64 (to_z w64 (4 * n) *ℤ to_z w64 (of_z w64 u))) ≡ trendline.trend_of count o
trend-whole count n o u low high gains slopes =
    let few : n ≤ 60 = omega (arith, gains) in
    let near : IsNear 1099511627776 u = subst (IsNear 1099511627776) (sym slopes) (near-slope o low high) in
    let gain : to_z w64 (4 * n) ≡ pos (4 * n) = omega (arith, ints) in
    let slope : to_z w64 (of_z w64 u) ≡ u = whole w64 1099511627776 u near (omega arith) in
    let product : IsNear (4 * n * 1099511627776) (pos (4 * n) *ℤ u) = near-times (4 * n) 1099511627776 u near in
    ap (λ z. to_z w64 (of_z w64 (z *ℤ to_z w64 (of_z w64 u)))) gain
    ∙ (ap (λ z. to_z w64 (of_z w64 (pos (4 * n) *ℤ z))) slope
    ∙ (whole w64 (4 * n * 1099511627776) (pos (4 * n) *ℤ u) product (omega arith)
    ∙ (ap (λ k. pos (4 * k) *ℤ u) gains ∙ ap (λ z. pos (4 * min count MOST_DELTAS) *ℤ z) slopes)))

-- ---- one sample more

pub last-push : (signals : List Signal) (s : Signal) → last_signal (signals ++ s ∷ []) ≡ s
last-push signals s = fold-append (λ (before t : Signal). t) Normal signals (s ∷ [])

pub last-is : (signals before : List Signal) (s : Signal) → signals ≡ before ++ s ∷ [] → s ≡ last_signal signals
last-is signals before s is = sym (ap last_signal is ∙ last-push before s)

abbrev pub beside_of : filter.State → detector.State → trended.Kept → detector.State → Beside
beside_of f d t e = record { filter = f; filter_detector = d; trend = t; trend_detector = e }

abbrev pub compared_of : Signal → ℤ → Signal → ℤ → Compared
compared_of f m t v = record { filter = f; mean = m; trend = t; value = v }

same-compared : (f g : Signal) (m n : ℤ) (t u : Signal) (v w : ℤ) → f ≡ g → m ≡ n → t ≡ u → v ≡ w → compared_of f m t v ≡ compared_of g n u w
same-compared f g m n t u v w a b c d = cc

-- the delay of the last sample is in its range
pub delay-within : (samples : List Sample) (s : Sample) → AreTaken (samples ++ s ∷ []) → filtered.IsWithin s
delay-within samples s taken =
    let here : get_or (samples ++ s ∷ []) (length samples) s ≡ s = get_or_at samples s [] s (length samples) refl in
    let near : trended.IsDelayWithin s = subst trended.IsDelayWithin here (taken.within.delays (length samples) s (omega (arith, length-append samples (s ∷ [])))) in
    record { low = near.low; high = near.high }

mean-is : (f : filter.State) (samples : List Sample) (mean : ℤ) → filtered.StandsFor f samples → mean ≡ f.mean → mean ≡ (filter.filter_state samples).mean
mean-is f samples mean stands is = is ∙ ap (λ (g : filter.State). g.mean) stands

value-is : (t : trended.Kept) (samples : List Sample) (count : ℕ) (slope : Option ℤ) (value : ℤ) → trended.StandsFor t samples → count ≡ t.count
    → slope ≡ trendline.slope samples → value ≡ trendline.trend_of count slope → value ≡ trendline.trend samples
value-is t samples count slope value stands counts slopes is =
    is ∙ (ap (λ n. trendline.trend_of n slope) (counts ∙ stands.count) ∙ ap (trendline.trend_of (length samples)) slopes)

module _ (before after : Beside) (samples : List Sample) (s : Sample) (mean value : ℤ) (slope : Option ℤ) (count : ℕ) (filter_says trend_says : Signal)
    (is : IsBeside before samples)
    (filter_stands : filtered.StandsFor after.filter (samples ++ s ∷ [])) (mean_of : mean ≡ after.filter.mean)
    (trend_stands : trended.StandsFor after.trend (samples ++ s ∷ [])) (counts : count ≡ after.trend.count)
    (slopes : slope ≡ trendline.slope (samples ++ s ∷ [])) (value_of : value ≡ trendline.trend_of count slope) where
  means : mean ≡ (filter.filter_state (samples ++ s ∷ [])).mean
  means = mean-is after.filter (samples ++ s ∷ []) mean filter_stands mean_of

  values : value ≡ trendline.trend (samples ++ s ∷ [])
  values = value-is after.trend (samples ++ s ∷ []) count slope value trend_stands counts slopes value_of

  pub beside-next : detected.StandsFor after.filter_detector (steps samples ++ step_at mean s ∷ [])
      → detected.StandsFor after.trend_detector (trendline.steps samples ++ step_at value s ∷ []) → IsBeside after (samples ++ s ∷ [])
  beside-next first second = record {
    filter = filter_stands;
    filter_detector = subst (detected.StandsFor after.filter_detector) (sym (steps-push samples s mean means)) first;
    trend = trend_stands;
    trend_detector = subst (detected.StandsFor after.trend_detector) (sym (trend_steps-push samples s value values)) second;
  }

  pub compared-next : detector.signals (steps samples ++ step_at mean s ∷ []) ≡ detector.signals (steps samples) ++ filter_says ∷ []
      → detector.signals (trendline.steps samples ++ step_at value s ∷ []) ≡ detector.signals (trendline.steps samples) ++ trend_says ∷ []
      → compared_of filter_says mean trend_says value ≡ compared_after (samples ++ s ∷ [])
  compared-next first second =
      same-compared filter_says _ mean _ trend_says _ value _
      (last-is _ (detector.signals (steps samples)) filter_says (ap detector.signals (steps-push samples s mean means) ∙ first)) means
      (last-is _ (detector.signals (trendline.steps samples)) trend_says (ap detector.signals (trend_steps-push samples s value values) ∙ second)) values
