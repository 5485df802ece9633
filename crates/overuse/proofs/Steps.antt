-- What a detector's state is after a list of steps.
use Rattle.std.proofs.Common.{ℕ, ◌≡◌, ◌+◌, ◌≤◌, List, [], ◌∷◌, ◌++◌, Bool, true, false, if◌then◌else◌, fold, arith, ap, ◌∙◌, sym, refl, ℤ}
use Rattle.std.proofs.lemmas.List.Sums.{fold-append, sum_by-append}
use Rattle.gcc_units.specs.declared.limits.TheConstants.{GREATEST_MOMENT}
use Rattle.gcc_units.specs.declared.shared_types.Signal.{Signal}
use Rattle.overuse.specs.Detector.{Step, State, start, after, over_at, is_over, time_at, signal_at, signal_of, next_threshold, signals_from, signals}
use Rattle.overuse.specs.StateBySteps.{StandsFor, StandsForRoom, TimesStayLow, total_gap}

none_or : (b : Bool) (n m : ℕ) → n ≤ m → (if b then 0 else n) ≤ m
none_or true n m h = omega arith
none_or false n m h = h

more_or : (b : Bool) (n g : ℕ) → (if b then n + g else 0) ≤ n + g
more_or true n g = omega arith
more_or false n g = omega arith

step_time : (s : State) (x : Step) → (after s x).time ≤ s.time + x.sample.send_gap
step_time s x = none_or (over_at s x) (time_at s x) (s.time + x.sample.send_gap) (more_or _ s.time x.sample.send_gap)

times_from : (s : State) (steps : List Step) → (fold after s steps).time ≤ s.time + total_gap steps
times_from s [] = omega arith
times_from s (x ∷ steps) =
    omega (arith, times_from (after s x) steps, step_time s x, sum_by-append (λ (y : Step). y.sample.send_gap) (x ∷ []) steps)

pub times_stay_low : TimesStayLow
times_stay_low steps = omega (arith, times_from start steps)

signals_more : (s : State) (steps : List Step) (x : Step) → signals_from s (steps ++ x ∷ []) ≡ signals_from s steps ++ signal_of (fold after s steps) x ∷ []
signals_more s [] x = refl
signals_more s (y ∷ steps) x = ap (λ (rest : List Signal). signal_of s y ∷ rest) (signals_more (after s y) steps x)

pub stands_after : (s now : State) (x : Step) → now ≡ after s x → (steps : List Step) → StandsFor s steps → StandsFor now (steps ++ x ∷ [])
stands_after s now x e steps stands = e ∙ ap (λ (old : State). after old x) stands ∙ sym (fold-append after start steps (x ∷ []))

pub signals_after : (s : State) (x : Step) (signal : Signal) → signal ≡ signal_of s x → (steps : List Step) → StandsFor s steps → signals (steps ++ x ∷ []) ≡ signals steps ++ signal ∷ []
signals_after s x signal e steps stands =
    signals_more start steps x ∙ ap (λ (now : Signal). signals steps ++ now ∷ []) (ap (λ (old : State). signal_of old x) (sym stands) ∙ sym e)

-- the state after a step, from each number of the step
pub after_is : (s : State) (x : Step) (threshold : ℤ) (time : ℕ) (over : Bool) (kept : ℕ)
    → time ≡ time_at s x
    → over ≡ is_over s.threshold s.before time x.mean
    → kept ≡ (if over then 0 else time)
    → threshold ≡ next_threshold s.threshold x.mean x.sample.arrival_gap
    → record { threshold = threshold; time = kept; before = x.mean } ≡ after s x
after_is s x threshold time over kept h1 h2 h3 h4 = rw (h4, h3, h2, h1) refl

pub signal_is : (s : State) (x : Step) (time : ℕ) (over : Bool) (signal : Signal)
    → time ≡ time_at s x
    → over ≡ is_over s.threshold s.before time x.mean
    → signal ≡ signal_at over s.threshold x.mean
    → signal ≡ signal_of s x
signal_is s x time over signal h1 h2 h3 = h3 ∙ rw (h2, h1) refl

pub room_time : (s : State) (x : Step) → StandsForRoom s x.sample.send_gap → (after s x).time ≤ GREATEST_MOMENT
room_time s x room =
    let e : s.time ≤ total_gap room.0 = rw room.1 (times_stay_low room.0) in
    omega (arith, step_time s x, room.2)
