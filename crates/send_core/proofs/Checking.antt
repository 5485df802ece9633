-- What the checks of a change look at, by the parts.
use Rattle.std.proofs.Common.{◌≡◌, ℕ, ◌+◌, ◌*◌, ◌≤◌, ◌&&◌, Bool, true, false, not, cond, nat_lt, nat_le, min, unwrap_or, List, [], ◌∷◌, ◌++◌, length, count_by, All, Option, None, Some, refl, ◌∙◌, ap, subst, arith}
use Rattle.std.specs.Prelude.{if◌then◌else◌}
use Rattle.std.specs.Option.{ForSome}
use Rattle.std.proofs.lemmas.Bool.Decides.{nat_tests}
use Rattle.std.proofs.lemmas.List.Elements.{All-nil, All-cons}
use Rattle.gcc_units.specs.declared.limits.TheConstants.{LEAST_RATE, GREATEST_RATE, MOST_CLUSTERS}
use Rattle.gcc_units.specs.Listed.{Listed}
use Rattle.gcc_units.specs.Rates.{IsRate}
use Rattle.pace_budget.specs.declared.bucket.TheConstants.{GREATEST_WINDOW}
use Rattle.allocator.specs.declared.stream.Stream.{Stream}
use Rattle.allocator.specs.Streams.{are_sound, ids_differ}
use Rattle.probe_clusters.specs.declared.cluster.Cluster.{Cluster}
use Rattle.probe_clusters.specs.Cluster.{waits}
use Rattle.sent_history.specs.Events.{packets}
use Rattle.send_core.specs.declared.call.Change.{Change}
use Rattle.send_core.specs.declared.call.Entry.{Entry}
use Rattle.send_core.specs.declared.checks.TheConstants.{MOST_PLANS}
use Rattle.send_core.specs.declared.parts.Parts.{Parts}
use Rattle.send_core.specs.declared.settings.Settings.{Settings}
use Rattle.send_core.specs.declared.settings.TheConstants.{LEAST_PERCENT, GREATEST_PERCENT, LEAST_WINDOW, LEAST_EXTENSION, GREATEST_EXTENSION}
use Rattle.send_core.specs.History.{sent}
use Rattle.send_core.specs.Settings.{Standing, fault_of, settings_after, passes, is_rate, has_rates, has_bounds, has_pacing, has_extension, has_room, has_clusters, start_plans, probe_plans, plans}
use Rattle.send_core.specs.Planning.{CanPlan}
use Rattle.send_core.specs.Reports.{events}
use Rattle.send_core.specs.Reply.{standing}
use Rattle.send_core.specs.Stands.{StandsFor, AreSettings}

same-standing : (f g : Bool) (s t : Settings) (ss ts : List Stream) (w v : ℕ) (b d : Bool) → f ≡ g → s ≡ t → ss ≡ ts → w ≡ v → b ≡ d
    → ◌≡◌ {A = Standing} (record { fixed = f; settings = s; streams = ss; waiting = w; started = b }) (record { fixed = g; settings = t; streams = ts; waiting = v; started = d })
same-standing f g s t ss ts w v b d e h i j k = cc

pub fault-is : (h : List Entry) (p : Parts) (change : Change) (fixed : Bool) (number waiting : ℕ) (found : Option ℕ) → StandsFor p h
    → fixed ≡ nat_lt 0 (p.accepted + number) → number ≡ length (packets (events h)) → waiting ≡ count_by waits p.clusters.items
    → found ≡ fault_of (record { fixed = fixed; settings = p.settings; streams = p.streams; waiting = waiting; started = p.started }) change
    → found ≡ fault_of (standing h) change
fault-is h p change fixed number waiting found s fixed_is counted waits_are is =
    is ∙ ap (λ st. fault_of st change)
    (same-standing fixed _ p.settings _ p.streams _ waiting _ p.started _
    (fixed_is ∙ (ap (λ n. nat_lt 0 (p.accepted + n)) (counted ∙ s.laws.number) ∙ ap (λ n. nat_lt 0 (n + length (sent h))) s.count))
    s.set s.streams_are (waits_are ∙ ap (λ cs. count_by waits cs) s.clusters.are) s.was_started)

-- ---- a change that passed

pub record HasPassed (s : Standing) (change : Change) : Type 0 where
  pub rates : has_rates change ≡ true
  pub bounds : has_bounds s.settings change ≡ true
  pub pacing : has_pacing change ≡ true
  pub extension : has_extension s.fixed s.settings change ≡ true
  pub sound : are_sound change.streams.items ≡ true
  pub differ : ids_differ change.streams.items change.removed.items ≡ true
  pub room : has_room s.streams change ≡ true
  pub clusters : has_clusters s.waiting s.started change ≡ true

none-passes : (b : Bool) (n : ℕ) (rest : Option ℕ) → cond (not b) (Some n) rest ≡ None → (b ≡ true) × (rest ≡ None)
none-passes true n rest e = (refl, e)
none-passes false n rest e = absurd cc

pub has-passed : (s : Standing) (change : Change) → fault_of s change ≡ None → HasPassed s change
has-passed s change e =
    let a = none-passes (has_rates change) 1 _ e in
    let b = none-passes (has_bounds s.settings change) 2 _ a.1 in
    let c = none-passes (has_pacing change) 3 _ b.1 in
    let d = none-passes (has_extension s.fixed s.settings change) 4 _ c.1 in
    let f = none-passes (are_sound change.streams.items) 5 _ d.1 in
    let g = none-passes (ids_differ change.streams.items change.removed.items) 6 _ f.1 in
    let h = none-passes (has_room s.streams change) 7 _ g.1 in
    let i = none-passes (has_clusters s.waiting s.started change) 8 _ h.1 in
    record { rates = a.0; bounds = b.0; pacing = c.0; extension = d.0; sound = f.0; differ = g.0; room = h.0; clusters = i.0 }

and-both : (b c : Bool) → (b && c) ≡ true → (b ≡ true) × (c ≡ true)
and-both true true e = (refl, refl)
and-both true false e = absurd cc
and-both false c e = absurd cc

-- what a change gives, where it passes a test, and else what was there
picked : (test : ℕ → Bool) (P : ℕ → Type 0) (o : Option ℕ) (d : ℕ) → passes test o ≡ true → ((n : ℕ) → test n ≡ true → P n) → P d → P (unwrap_or o d)
picked test P None d e has p = p
picked test P (Some n) d e has p = has n e

rate-least : (n : ℕ) → is_rate n ≡ true → LEAST_RATE ≤ n
rate-least n e = grind (arith, nat_tests)

rate-greatest : (n : ℕ) → is_rate n ≡ true → n ≤ GREATEST_RATE
rate-greatest n e = grind (arith, nat_tests)

rate-is : (n : ℕ) → is_rate n ≡ true → IsRate n
rate-is n e = record { least = rate-least n e; greatest = rate-greatest n e }

-- the checks of the rates
pub record HasRates (change : Change) : Type 0 where
  pub start : passes is_rate change.start ≡ true
  pub min : passes is_rate change.min ≡ true
  pub max : passes is_rate change.max ≡ true
  pub padding : passes (λ n. nat_le n GREATEST_RATE) change.padding_rate ≡ true
  pub probe : passes is_rate change.probe ≡ true

rates-each : (change : Change) → has_rates change ≡ true → HasRates change
rates-each change e =
    let a = and-both ((passes is_rate change.start && passes is_rate change.min) && (passes is_rate change.max && passes (λ n. nat_le n GREATEST_RATE) change.padding_rate)) (passes is_rate change.probe) e in
    let b = and-both (passes is_rate change.start && passes is_rate change.min) (passes is_rate change.max && passes (λ n. nat_le n GREATEST_RATE) change.padding_rate) a.0 in
    let c = and-both (passes is_rate change.start) (passes is_rate change.min) b.0 in
    let d = and-both (passes is_rate change.max) (passes (λ n. nat_le n GREATEST_RATE) change.padding_rate) b.1 in
    record { start = c.0; min = c.1; max = d.0; padding = d.1; probe = a.1 }

-- the settings after it are in their ranges
pub settings-pass : (s : Standing) (change : Change) → HasPassed s change → AreSettings s.settings → AreSettings (settings_after s.settings change)
settings-pass s change p set =
    let r : HasRates change = rates-each change p.rates in
    let pacing = and-both (passes (λ n. nat_le LEAST_PERCENT n && nat_le n GREATEST_PERCENT) change.pacing_percent) (passes (λ n. nat_le LEAST_WINDOW n && nat_le n GREATEST_WINDOW) change.window) p.pacing in
    let bounds_passed : nat_le (unwrap_or change.min s.settings.bounds.min) (unwrap_or change.max s.settings.bounds.max) ≡ true = p.bounds in
    record {
      bounds = record {
        least = picked is_rate (λ n. LEAST_RATE ≤ n) change.min s.settings.bounds.min r.min rate-least set.bounds.least;
        order = grind (arith, nat_tests, bounds_passed);
        greatest = picked is_rate (λ n. n ≤ GREATEST_RATE) change.max s.settings.bounds.max r.max rate-greatest set.bounds.greatest;
      };
      least_percent = picked _ (λ n. LEAST_PERCENT ≤ n) change.pacing_percent s.settings.pacing_percent pacing.0 (λ n e. grind (arith, nat_tests)) set.least_percent;
      greatest_percent = picked _ (λ n. n ≤ GREATEST_PERCENT) change.pacing_percent s.settings.pacing_percent pacing.0 (λ n e. grind (arith, nat_tests)) set.greatest_percent;
      window = picked _ (λ n. n ≤ GREATEST_WINDOW) change.window s.settings.window pacing.1 (λ n e. grind (arith, nat_tests)) set.window;
      padding_rate = picked _ (λ n. n ≤ GREATEST_RATE) change.padding_rate s.settings.padding_rate r.padding (λ n e. grind (arith, nat_tests)) set.padding_rate;
      least_extension = picked _ (λ n. LEAST_EXTENSION ≤ n) change.extension_id s.settings.extension_id p.extension (λ n e. grind (arith, nat_tests)) set.least_extension;
      greatest_extension = picked _ (λ n. n ≤ GREATEST_EXTENSION) change.extension_id s.settings.extension_id p.extension (λ n e. grind (arith, nat_tests)) set.greatest_extension;
    }

-- its start is a rate
start-some : (o : Option ℕ) → passes is_rate o ≡ true → ForSome o IsRate
start-some None e = λ n is. absurd cc
start-some (Some rate) e = λ n is. let same : rate ≡ n = cc in subst IsRate same (rate-is rate e)

pub start-passes : (s : Standing) (change : Change) → HasPassed s change → ForSome change.start IsRate
start-passes s change p = start-some change.start (rates-each change p.rates).start

-- ---- the clusters that it plans

times-rate : (k n : ℕ) → 1 ≤ k → IsRate n → IsRate (min GREATEST_RATE (k * n))
times-rate k n some r =
    let least : LEAST_RATE ≤ n = r.least in
    let more : n ≤ k * n = grind arith in
    record { least = omega arith; greatest = omega arith }

plans-rates : (started : Bool) (start probe : Option ℕ) → passes is_rate start ≡ true → passes is_rate probe ≡ true → All IsRate ((if started then [] else start_plans start) ++ probe_plans probe)
plans-rates true start None e f = All-nil IsRate
plans-rates true start (Some n) e f = All-cons IsRate n [] (rate-is n f) (All-nil IsRate)
plans-rates false None None e f = All-nil IsRate
plans-rates false None (Some n) e f = All-cons IsRate n [] (rate-is n f) (All-nil IsRate)
plans-rates false (Some m) None e f =
    All-cons IsRate (min GREATEST_RATE (3 * m)) (min GREATEST_RATE (6 * m) ∷ []) (times-rate 3 m (omega arith) (rate-is m e))
    (All-cons IsRate (min GREATEST_RATE (6 * m)) [] (times-rate 6 m (omega arith) (rate-is m e)) (All-nil IsRate))
plans-rates false (Some m) (Some n) e f =
    All-cons IsRate (min GREATEST_RATE (3 * m)) (min GREATEST_RATE (6 * m) ∷ n ∷ []) (times-rate 3 m (omega arith) (rate-is m e))
    (All-cons IsRate (min GREATEST_RATE (6 * m)) (n ∷ []) (times-rate 6 m (omega arith) (rate-is m e)) (All-cons IsRate n [] (rate-is n f) (All-nil IsRate)))

plans-few : (started : Bool) (start probe : Option ℕ) → length ((if started then [] else start_plans start) ++ probe_plans probe) ≤ MOST_PLANS
plans-few true start None = omega arith
plans-few true start (Some n) = omega arith
plans-few false None None = omega arith
plans-few false None (Some n) = omega arith
plans-few false (Some m) None = omega arith
plans-few false (Some m) (Some n) = omega arith

pub can-plan : (s : Standing) (change : Change) (cs : Listed Cluster) → HasPassed s change → s.waiting ≡ count_by waits cs.items → MOST_PLANS ≤ cs.spare → CanPlan cs (plans s.started change)
can-plan s change cs p counted spare =
    let r : HasRates change = rates-each change p.rates in
    let few : length (plans s.started change) ≤ MOST_PLANS = plans-few s.started change.start change.probe in
    let fits : nat_le (s.waiting + length (plans s.started change)) MOST_CLUSTERS ≡ true = p.clusters in
    record {
      rates_are = plans-rates s.started change.start change.probe r.start r.probe;
      room = omega arith;
      few = grind (arith, nat_tests, fits, counted);
    }
