-- What may be given next, and what an estimator stands for after a call.
use Rattle.std.proofs.Common.{ℕ, ◌≡◌, ◌+◌, ◌≤◌, ◌<◌, List, [], ◌∷◌, ◌++◌, length, length-append, take, map, Option, unwrap_or, All, ap, ◌∙◌, sym, subst, arith}
use Rattle.std.proofs.lemmas.List.{length-take-le, length-map, map-append}
use Rattle.std.proofs.lemmas.List.Elements.{All-append, All-cons, All-nil, All-take, All-map}
use Rattle.gcc_units.specs.declared.limits.TheConstants.{GREATEST_MOMENT, MOST_STATUSES}
use Rattle.gcc_units.specs.declared.shared_types.Bounds.{Bounds}
use Rattle.gcc_units.specs.declared.shared_types.Credit.{Credit}
use Rattle.gcc_units.specs.declared.shared_types.Signal.{Signal}
use Rattle.gcc_units.specs.Rates.{bounded}
use Rattle.packet_groups.specs.declared.step.State as groups_state
use Rattle.arrival_filter.specs.Filter as filtered
use Rattle.overuse.specs.Detector as detected
use Rattle.acked_rate.specs.Received.{Add, acked}
use Rattle.acked_rate.specs.Kept as windowed
use Rattle.rate_control.specs.declared.state.State as control_state
use Rattle.rate_control.specs.Steps as control
use Rattle.loss_control.specs.declared.step.State as loss_state
use Rattle.loss_control.specs.Rule as loss_rule
use Rattle.loss_control.specs.GatheredReports as counted
use Rattle.probe_clusters.specs.declared.probes.Outcome.{Outcome}
use Rattle.estimator.specs.Signals.{Follow, IsSentBy, TakesCredits, report_signal}
use Rattle.estimator.specs.Report.{add_of, TakesAdds, round_trip, acked_of, delay_after, delay_taking, loss_taking}
use Rattle.estimator.specs.Est.{Est, judged_est, set_est}
use Rattle.estimator.specs.Kept.{Values, StandsFor, IsInRange, WasGiven, TakesReport}

-- ---- what the parts may be given

-- the packet at a place may be added next
pub takes_add : (xs : List Credit) (i : ℕ) (before after : windowed.Kept) → i < length xs → All IsInRange xs
    → (r : TakesAdds before (length xs)) → windowed.StandsFor after (r.before ++ map add_of (take i xs)) → windowed.TakesAdd after
takes_add xs i before after inside ranges r stands = (
  r.before ++ map add_of (take i xs),
  stands,
  All-append windowed.IsWithin r.before (map add_of (take i xs)) r.within (All-map windowed.IsWithin add_of (take i xs) (All-take IsInRange i xs ranges)),
  omega (arith, r.few, length-append r.before (map add_of (take i xs)), length-map (take i xs) add_of, length-take-le i xs (omega arith)),
)

pub takes_credits : (given v : Values) (received xs : List Credit) (now : ℕ) → v ≡ given → xs ≡ received → TakesReport given (length received) now
    → now ≤ GREATEST_MOMENT → All (IsSentBy now) received → TakesCredits xs v.groups v.filter v.detector
takes_credits given v received xs now same items r moment sent =
    let P : Values → Type 0 = λ u. TakesCredits xs u.groups u.filter u.detector in
    let Q : List Credit → Type 0 = λ ys. TakesCredits ys given.groups given.filter given.detector in
    subst P (sym same) (subst Q (sym items) (record {
      before = r.est.credits;
      follow = r.stands.follow;
      few = r.few_credits;
      moment = now;
      greatest = moment;
      earlier = r.until.sent;
      sent = sent;
    }))

pub takes_adds : (given v : Values) (received xs : List Credit) (now : ℕ) → v ≡ given → xs ≡ received → TakesReport given (length received) now
    → TakesAdds v.window (length xs)
takes_adds given v received xs now same items r =
    let P : Values → Type 0 = λ u. TakesAdds u.window (length xs) in
    let Q : List Credit → Type 0 = λ ys. TakesAdds given.window (length ys) in
    subst P (sym same) (subst Q (sym items) (record {
      before = map add_of r.est.credits;
      stands = r.stands.window;
      within = All-map windowed.IsWithin add_of r.est.credits r.stands.ranges;
      few = omega (arith, r.few_credits, length-map r.est.credits add_of);
    }))

-- ---- what it stands for

counts_more : (s t : loss_state.State) (reports : ℕ) (c : loss_rule.Counts) → counted.IsCounts c
    → ((xs : List loss_rule.Counts) → counted.StandsFor s xs → counted.StandsFor t (xs ++ c ∷ [])) → WasGiven s reports → WasGiven t (reports + 1)
counts_more s t reports c within stands h = record {
  counts = h.counts ++ c ∷ [];
  stands = stands h.counts h.stands;
  within = All-append counted.IsCounts h.counts (c ∷ []) h.within (All-cons counted.IsCounts c [] within (All-nil counted.IsCounts));
  number = length-append h.counts (c ∷ []) ∙ ap (λ n. n + 1) h.number;
}

counts_same : (s t : loss_state.State) (reports : ℕ) → ((xs : List loss_rule.Counts) → counted.StandsFor s xs → counted.StandsFor t xs)
    → WasGiven s reports → WasGiven t reports
counts_same s t reports stands h = record { counts = h.counts; stands = stands h.counts h.stands; within = h.within; number = h.number }

pub stands_set : (v : Values) (e : Est) (start : Option ℕ) (bounds : Bounds) (d : control_state.State) (l : loss_state.State) → StandsFor v e
    → d ≡ control.set_to v.delay start bounds → l ≡ loss_rule.with_estimate v.loss (bounded bounds (unwrap_or start v.loss.estimate))
    → ((xs : List loss_rule.Counts) → counted.StandsFor v.loss xs → counted.StandsFor l xs)
    → StandsFor (record v { delay = d; loss = l }) (set_est e start bounds)
stands_set v e start bounds d l s ed el reports = record {
  follow = s.follow;
  window = s.window;
  delay = ed ∙ ap (λ (x : control_state.State). control.set_to x start bounds) s.delay;
  loss = el ∙ ap (λ (x : loss_state.State). loss_rule.with_estimate x (bounded bounds (unwrap_or start x.estimate))) s.loss;
  signal = s.signal;
  rtt = s.rtt;
  ranges = s.ranges;
  reports = counts_same v.loss l e.reports reports s.reports;
}

module _ (v : Values) (e : Est) (received : List Credit) (missing now : ℕ) (bounds : Bounds) (results : List Outcome) (s : StandsFor v e)
    (ranges : All IsInRange received) (few : length received ≤ MOST_STATUSES) (few_missing : missing ≤ MOST_STATUSES) where
  abbrev counts : loss_rule.Counts
  counts = record { received = length received; missing = missing }

  -- after a report, from what each part makes of it
  pub stands_judged : (g : groups_state.State) (f : filtered.State) (d : detected.State)
      → ((cs : List Credit) → Follow cs v.groups v.filter v.detector → Follow (cs ++ received) g f d)
      → (heard : Option Signal) → ((cs : List Credit) → Follow cs v.groups v.filter v.detector → heard ≡ report_signal cs received)
      → (w : windowed.Kept) → ((adds : List Add) → windowed.StandsFor v.window adds → windowed.StandsFor w (adds ++ map add_of received))
      → (got : Option ℕ) → ((adds : List Add) → windowed.StandsFor w adds → got ≡ acked adds)
      → (signal : Signal) → signal ≡ unwrap_or heard v.signal
      → (rtt : ℕ) → rtt ≡ round_trip v.rtt received now
      → (delay : control_state.State) → delay ≡ delay_after heard v.delay got rtt now bounds
      → (loss : loss_state.State) → loss ≡ loss_rule.after v.loss counts now bounds
      → ((xs : List loss_rule.Counts) → counted.StandsFor v.loss xs → counted.StandsFor loss (xs ++ counts ∷ []))
      → (delay' : control_state.State) → delay' ≡ delay_taking bounds delay results
      → (loss' : loss_state.State) → loss' ≡ loss_taking bounds loss results
      → ((xs : List loss_rule.Counts) → counted.StandsFor loss xs → counted.StandsFor loss' xs)
      → StandsFor (record { groups = g; filter = f; detector = d; window = w; delay = delay'; loss = loss'; signal = signal; rtt = rtt }) (judged_est e received missing now bounds results)
  stands_judged g f d follows heard hears w adds got gets signal es rtt er delay ed loss el counts_on delay' ed' loss' el' counts_kept =
      let heard_is : heard ≡ report_signal e.credits received = hears e.credits s.follow in
      let Window : List Add → Type 0 = windowed.StandsFor w in
      let window : windowed.StandsFor w (map add_of (e.credits ++ received)) =
      subst Window (sym (map-append add_of e.credits received)) (adds (map add_of e.credits) s.window) in
      let got_is : got ≡ acked_of (e.credits ++ received) = gets _ window in
      let rtt_is : rtt ≡ round_trip e.rtt received now = er ∙ ap (λ r. round_trip r received now) s.rtt in
      let delay_is : delay ≡ delay_after (report_signal e.credits received) e.delay (acked_of (e.credits ++ received)) (round_trip e.rtt received now) now bounds =
      ed ∙ ap (λ (x : Option Signal). delay_after x v.delay got rtt now bounds) heard_is
      ∙ ap (λ (x : control_state.State). delay_after (report_signal e.credits received) x got rtt now bounds) s.delay
      ∙ ap (λ (x : Option ℕ). delay_after (report_signal e.credits received) e.delay x rtt now bounds) got_is
      ∙ ap (λ (x : ℕ). delay_after (report_signal e.credits received) e.delay (acked_of (e.credits ++ received)) x now bounds) rtt_is in
      record {
        follow = follows e.credits s.follow;
        window = window;
        delay = ed' ∙ ap (λ (x : control_state.State). delay_taking bounds x results) delay_is;
        loss = el' ∙ ap (λ (x : loss_state.State). loss_taking bounds x results) (el ∙ ap (λ (x : loss_state.State). loss_rule.after x counts now bounds) s.loss);
        signal = es ∙ ap (λ (x : Option Signal). unwrap_or x v.signal) heard_is ∙ ap (λ (x : Signal). unwrap_or (report_signal e.credits received) x) s.signal;
        rtt = rtt_is;
        ranges = All-append IsInRange e.credits received s.ranges ranges;
        reports = counts_same loss loss' (e.reports + 1) counts_kept
            (counts_more v.loss loss e.reports counts (record { received = few; missing = few_missing }) counts_on s.reports);
      }
