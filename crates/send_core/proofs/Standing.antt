-- The parts that stood for a history stand for it with one more entry.
use Rattle.std.proofs.Common.{◌≡◌, ℕ, ◌+◌, ◌-◌, ◌||◌, List, [], ◌∷◌, ◌++◌, length, fold, min, sym, ◌∙◌, ap, subst, length-append}
use Rattle.pace_budget.specs.Level.{Advance}
use Rattle.pace_budget.specs.Level as bucket
use Rattle.pace_budget.specs.Steps.{step}
use Rattle.pace_budget.proofs.Steps.{StandsFor-steps}
use Rattle.sent_history.specs.Kept as history_kept
use Rattle.probe_clusters.specs.Deeds as probes
use Rattle.estimator.specs.Kept as estimator
use Rattle.rate_control.specs.declared.state.State as control_state
use Rattle.loss_control.specs.declared.step.State as loss_state
use Rattle.pace_queues.specs.declared.ticket.Ticket.{Ticket}
use Rattle.pacer.specs.declared.pacing.Pacing.{Pacing}
use Rattle.pacer.specs.Force.{in_force}
use Rattle.pacer.specs.Pace.{unsent, padding_after}
use Rattle.pacer.specs.LeftByRecords.{spending, has_media}
use Rattle.send_core.specs.declared.call.Call.{Call}
use Rattle.send_core.specs.declared.call.Reply.{Reply}
use Rattle.send_core.specs.declared.call.Entry.{Entry}
use Rattle.send_core.specs.declared.parts.Parts.{Parts}
use Rattle.send_core.specs.declared.settings.Settings.{Settings}
use Rattle.send_core.specs.History.{AcceptedPacket, entry, later, now, accepted_by, accepted, tickets_from, sent_by, waiting}
use Rattle.send_core.specs.Settings.{settings_by, settings, streams_by, starts_by}
use Rattle.send_core.specs.Reports.{events, deeds_by, cluster_deeds}
use Rattle.send_core.specs.Estimates.{est_by, est, pacing_of}
use Rattle.send_core.specs.Levels.{rate, window, padding_rate, passing, padding_passing, floor, padding, deeds}
use Rattle.send_core.specs.Levels as levels
use Rattle.send_core.specs.Reply.{reply}
use Rattle.send_core.specs.Stands.{StandsFor, Steps, pacing_for, floor_in}
use Rattle.send_core.proofs.Pushes.{now-push, accepted-push, waiting-push, began-push, deeds-push, padding-push, events-push, cluster_deeds-push, est-push, streams-push, settings-push, started-push}
use Rattle.send_core.proofs.LawsKept.{laws-push, more-push}

advance-same : (r s m n t u w v : ℕ) → r ≡ s → m ≡ n → t ≡ u → w ≡ v → Advance r (m - t) w ≡ Advance s (n - u) v
advance-same r s m n t u w v e f g h = cc

in_force-same : (r s m n : ℕ) (ts us : List Ticket) → r ≡ s → m ≡ n → ts ≡ us → in_force r m ts ≡ in_force s n us
in_force-same r s m n ts us e f g = cc

-- the settings and the estimates ask of the pacer what the history does
pacing-is : (h : List Entry) (s : Settings) (v : estimator.Values) → s ≡ settings h → estimator.StandsFor v (est h) → pacing_for s v ≡ levels.pacing h
pacing-is h s v set stands =
    ap (λ (x : Settings). pacing_for x v) set
    ∙ (ap (λ (d : control_state.State). asked (min d.rate v.loss.estimate)) stands.delay ∙ ap (λ (l : loss_state.State). asked (min (est h).delay.rate l.estimate)) stands.loss)
  where
    asked : ℕ → Pacing
    asked goal = record {
      rate = pacing_of goal (settings h).pacing_percent;
      window = (settings h).window;
      padding_rate = (settings h).padding_rate;
      paced_audio = (settings h).paced_audio;
    }

pub stands-push : (h : List Entry) (p q : Parts) (caller : ℕ) (call : Call) (given : Reply) → StandsFor p h → Steps call given p q → given ≡ reply h call
    → StandsFor q (h ++ entry caller call given ∷ [])
stands-push h p q caller call given s steps is =
    let e : Entry = entry caller call given in
    let after : List Entry = h ++ e ∷ [] in
    let many : length (accepted after) ≡ length (accepted h) + length (accepted_by call given) =
    ap (length {A = AcceptedPacket}) (accepted-push h e) ∙ length-append (accepted h) (accepted_by call given) in
    let clock : q.pacer.moment ≡ now after = steps.clock ∙ (ap (λ m. later m call) s.clock ∙ sym (now-push h e)) in
    let moment : q.pacer.moment ≡ later (now h) call = steps.clock ∙ ap (λ m. later m call) s.clock in
    let queue : q.pacer.waiting ≡ waiting after =
    steps.queue
    ∙ (ap (λ ts. unsent (sent_by given) (ts ++ tickets_from p.accepted (accepted_by call given))) s.queue
    ∙ (ap (λ n. unsent (sent_by given) (waiting h ++ tickets_from n (accepted_by call given))) s.count
    ∙ sym (waiting-push h e s.laws.known))) in
    let window_is : p.pacer.pacing.window ≡ window h = ap (λ (x : Pacing). x.window) s.pacing in
    let padding_rate_is : p.pacer.pacing.padding_rate ≡ padding_rate h = ap (λ (x : Pacing). x.padding_rate) s.pacing in
    let passes : Advance p.pacer.rate (q.pacer.moment - p.pacer.moment) p.pacer.pacing.window ≡ passing h (later (now h) call) =
    advance-same p.pacer.rate (rate h) q.pacer.moment (later (now h) call) p.pacer.moment (now h) p.pacer.pacing.window (window h) s.in_force moment s.clock window_is in
    let pads : Advance p.pacer.pacing.padding_rate (q.pacer.moment - p.pacer.moment) p.pacer.pacing.window ≡ padding_passing h (later (now h) call) =
    advance-same p.pacer.pacing.padding_rate (padding_rate h) q.pacer.moment (later (now h) call) p.pacer.moment (now h) p.pacer.pacing.window (window h) padding_rate_is moment s.clock window_is in
    let set : q.settings ≡ settings after = steps.settings ∙ (ap (λ x. settings_by x call given) s.set ∙ sym (settings-push h e)) in
    let estimates : estimator.StandsFor q.estimator (est after) =
    subst (estimator.StandsFor q.estimator)
    (ap (λ x. est_by x (cluster_deeds h) (est h) call given) s.set ∙ sym (est-push h e))
    (steps.estimates (est h) (cluster_deeds h) s.estimates s.clusters) in
    let pacing : q.pacer.pacing ≡ levels.pacing after = steps.pacing ∙ pacing-is after q.settings q.estimator set estimates in
    record {
      count = steps.count ∙ (ap (λ n. n + length (accepted_by call given)) s.count ∙ sym many);
      clock = clock;
      queue = queue;
      media =
          subst (bucket.StandsFor q.pacer.media) (sym (deeds-push h e))
          (subst (λ z. bucket.StandsFor z (deeds h ++ levels.deeds_by h e))
          (sym (steps.media ∙ ap (λ d. fold step (step p.pacer.media d) (spending (sent_by given))) passes))
          (StandsFor-steps p.pacer.media (deeds h) (levels.deeds_by h e) s.media));
      padding_is =
          steps.padding
          ∙ (ap (λ d. fold (padding_after (floor_in p.pacer.pacing)) (step p.pacer.padding d) (sent_by given)) pads
          ∙ (ap (λ (x : Pacing). fold (padding_after (floor_in x)) (step p.pacer.padding (padding_passing h (later (now h) call))) (sent_by given)) s.pacing
          ∙ (ap (λ z. fold (padding_after (floor h)) (step z (padding_passing h (later (now h) call))) (sent_by given)) s.padding_is
          ∙ sym (padding-push h e))));
      media_began = steps.began ∙ (ap (λ b. b || has_media (sent_by given)) s.media_began ∙ sym (began-push h e));
      pacing = pacing;
      in_force = steps.rate ∙ in_force-same q.pacer.pacing.rate (levels.pacing after).rate q.pacer.moment (now after) q.pacer.waiting (waiting after) (ap (λ (x : Pacing). x.rate) pacing) clock queue;
      packets = subst (history_kept.StandsFor q.history) (sym (events-push h e)) (steps.packets (events h) s.packets);
      estimates = estimates;
      clusters =
          subst (probes.StandsFor q.clusters.items)
          (ap (λ b. cluster_deeds h ++ deeds_by b (cluster_deeds h) call given) s.was_started ∙ sym (cluster_deeds-push h e))
          (steps.clusters (cluster_deeds h) s.clusters);
      streams_are = steps.streams ∙ (ap (λ ss. streams_by ss call given) s.streams_are ∙ sym (streams-push h e));
      set = set;
      was_started = steps.started ∙ (ap (λ b. b || starts_by call given) s.was_started ∙ sym (started-push h e));
      laws = laws-push h caller call given s.laws s.more steps.few_statuses is;
      more = more-push h caller call given s.laws s.more steps.few_statuses is;
    }
