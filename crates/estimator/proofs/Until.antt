-- Until when an estimate has come, by the calls that lead to it.
use Rattle.std.proofs.Common.{ℕ, ◌≡◌, ◌≤◌, List, [], ◌∷◌, ◌++◌, Option, Some, None, All, refl, sym, ◌∙◌, subst, arith}
use Rattle.std.specs.Option.{ForSome}
use Rattle.std.proofs.lemmas.List.Elements.{All-append, All-nil}
use Rattle.gcc_units.specs.declared.shared_types.Bounds.{Bounds}
use Rattle.gcc_units.specs.declared.shared_types.Credit.{Credit}
use Rattle.gcc_units.specs.declared.shared_types.Signal.{Signal}
use Rattle.rate_control.specs.declared.state.Mode.{Mode}
use Rattle.rate_control.specs.declared.state.Mode.TheVariants.{Increase, Hold, Decrease}
use Rattle.rate_control.specs.declared.state.State as control_state
use Rattle.rate_control.specs.Steps.{moved, elapsed, next_mode}
use Rattle.probe_clusters.specs.declared.probes.Outcome.{Outcome}
use Rattle.estimator.specs.Signals.{IsSentBy, report_signal}
use Rattle.estimator.specs.Report.{round_trip, acked_of, delay_after, delay_probed, delay_taking}
use Rattle.estimator.specs.Est.{Est, start_est, judged_est, set_est}
use Rattle.estimator.specs.Kept.{IsUntil}

abbrev IsLastBy : ℕ → control_state.State → Type 0
IsLastBy moment s = ForSome s.last (λ last. last ≤ moment)

-- ---- the moment of the last step

last-moved : (mode : Mode) (s : control_state.State) (acked : Option ℕ) (rtt dt : ℕ) → (moved mode s acked rtt dt).last ≡ s.last
last-moved Hold s acked rtt dt = refl
last-moved Decrease s None rtt dt = refl
last-moved Decrease s (Some received) rtt dt = refl
last-moved Increase s acked rtt dt = refl

last-probed : (bounds : Bounds) (s : control_state.State) (o : Option ℕ) → (delay_probed bounds s o).last ≡ s.last
last-probed bounds s None = refl
last-probed bounds s (Some rate) = refl

last-taking : (bounds : Bounds) (s : control_state.State) (results : List Outcome) → (delay_taking bounds s results).last ≡ s.last
last-taking bounds s [] = refl
last-taking bounds s (o ∷ results) = last-taking bounds (delay_probed bounds s o.result) results ∙ last-probed bounds s o.result

last-after : (heard : Option Signal) (s : control_state.State) (acked : Option ℕ) (rtt moment now : ℕ) (bounds : Bounds) → IsLastBy moment s → moment ≤ now
    → IsLastBy now (delay_after heard s acked rtt now bounds)
last-after None s acked rtt moment now bounds by later = λ last is. omega (arith, by last is)
last-after (Some signal) s acked rtt moment now bounds by later =
    let mode : Mode = next_mode s.mode signal in
    let By : Option ℕ → Type 0 = λ o. ForSome o (λ last. last ≤ now) in
    let at_now : By (Some now) = λ last is. let same : now ≡ last = cc in omega arith in
    subst By (sym (last-moved mode (record s { mode = mode; last = Some now }) acked rtt (elapsed s.last now))) at_now

-- ---- the calls

pub until-start : (rate : ℕ) → IsUntil 0 (start_est rate)
until-start rate = record { sent = All-nil (IsSentBy 0); step = λ last is. absurd cc }

pub until-later : (moment now : ℕ) (e : Est) → IsUntil moment e → moment ≤ now → IsUntil now e
until-later moment now e h later = record {
  sent = λ k c inside. let by = h.sent k c inside in omega arith;
  step = λ last is. let by = h.step last is in omega arith;
}

pub until-judged : (moment now : ℕ) (e : Est) (received : List Credit) (missing : ℕ) (bounds : Bounds) (results : List Outcome) → IsUntil moment e → moment ≤ now
    → All (IsSentBy now) received → IsUntil now (judged_est e received missing now bounds results)
until-judged moment now e received missing bounds results h later sent =
    let before = until-later moment now e h later in
    let delay : control_state.State =
    delay_after (report_signal e.credits received) e.delay (acked_of (e.credits ++ received)) (round_trip e.rtt received now) now bounds in
    let By : Option ℕ → Type 0 = λ o. ForSome o (λ last. last ≤ now) in
    record {
      sent = All-append (IsSentBy now) e.credits received before.sent sent;
      step =
          subst By (sym (last-taking bounds delay results))
          (last-after (report_signal e.credits received) e.delay (acked_of (e.credits ++ received)) (round_trip e.rtt received now) moment now bounds h.step later);
    }

pub until-set : (moment : ℕ) (e : Est) (start : Option ℕ) (bounds : Bounds) → IsUntil moment e → IsUntil moment (set_est e start bounds)
until-set moment e start bounds h = record { sent = h.sent; step = h.step }
