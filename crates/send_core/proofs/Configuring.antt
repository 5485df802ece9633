-- The reply to a change of settings, and what it does to the parts.
use Rattle.std.proofs.Common.{◌≡◌, ℕ, ◌≤◌, ◌||◌, Bool, true, false, cond, Option, None, Some, List, [], ◌++◌, map, max, le-ltb, refl, sym, ◌∙◌, ap, subst, arith}
use Rattle.std.proofs.lemmas.List.{append-nil}
use Rattle.std.proofs.lemmas.List.Elements.{All-nil}
use Rattle.gcc_units.specs.declared.limits.TheConstants.{GREATEST_MOMENT}
use Rattle.gcc_units.specs.declared.shared_types.Share.{Share}
use Rattle.gcc_units.specs.Listed.{Listed, bare}
use Rattle.allocator.specs.declared.stream.Stream.{Stream}
use Rattle.allocator.specs.Shares.{shares}
use Rattle.allocator.specs.Streams.{changed}
use Rattle.pacer.proofs.Records.{unsent-none}
use Rattle.pacer.specs.State.{advanced, tuned}
use Rattle.probe_clusters.specs.declared.cluster.Cluster.{Cluster}
use Rattle.probe_clusters.specs.Deeds.{Deed, Plan}
use Rattle.probe_clusters.specs.Deeds as probes
use Rattle.sent_history.specs.Balance.{HasFewStatuses}
use Rattle.estimator.specs.Est.{Est, set_est, estimate}
use Rattle.estimator.specs.Kept as estimator
use Rattle.send_core.specs.declared.call.Call.TheVariants as call_kind
use Rattle.send_core.specs.declared.call.Cause.TheVariants as cause_kind
use Rattle.send_core.specs.declared.call.Change.{Change}
use Rattle.send_core.specs.declared.call.Entry.{Entry}
use Rattle.send_core.specs.declared.call.Rates.{Rates}
use Rattle.send_core.specs.declared.call.Reply.{Reply}
use Rattle.send_core.specs.declared.call.Reply.TheVariants as reply_kind
use Rattle.send_core.specs.declared.parts.Parts.{Parts}
use Rattle.send_core.specs.declared.settings.Settings.{Settings}
use Rattle.send_core.specs.History.{later, now}
use Rattle.send_core.specs.Settings.{fault_of, settings, settings_after, is_some, plans}
use Rattle.send_core.specs.Estimates.{est, rates_of}
use Rattle.send_core.specs.Outcomes.{Configures}
use Rattle.send_core.specs.Reply.{reply, standing, configured}
use Rattle.send_core.specs.Reply as replies
use Rattle.send_core.specs.Stands.{StandsFor, Steps, pacing_for}
use Rattle.send_core.proofs.Judging.{same-parts}
use Rattle.send_core.proofs.StepsMade.{later-in_time}

-- ---- the reply

reply-checked : (h : List Entry) (at : ℕ) (change : Change) (found : Option ℕ) → at ≤ GREATEST_MOMENT → found ≡ fault_of (standing h) change
    → reply h (call_kind.Configure at change) ≡ configured h (later (now h) (call_kind.Configure at change)) change found
reply-checked h at change found early is =
    ap (λ b. cond b (reply_kind.Refused (now h) cause_kind.MomentTooLarge) (replies.reply_in_time h (later (now h) (call_kind.Configure at change)) (call_kind.Configure at change)))
    (le-ltb GREATEST_MOMENT at early)
    ∙ ap (replies.configured h (later (now h) (call_kind.Configure at change)) change) (sym is)

pub refused-answer : (h : List Entry) (p x : Parts) (at : ℕ) (change : Change) (found : Option ℕ) (check : ℕ) (given : Reply) → StandsFor p h → at ≤ GREATEST_MOMENT
    → x ≡ record p { pacer = advanced p.pacer (max p.pacer.moment at) } → found ≡ fault_of (standing h) change → found ≡ Some check
    → given ≡ reply_kind.Refused x.pacer.moment (cause_kind.Config check) → given ≡ reply h (call_kind.Configure at change)
refused-answer h p x at change found check given s early moves is fails refuses =
    let when : max p.pacer.moment at ≡ later (now h) (call_kind.Configure at change) = ap (λ m. max m at) s.clock ∙ sym (later-in_time (now h) (call_kind.Configure at change) early) in
    refuses
    ∙ (ap (λ n. reply_kind.Refused n (cause_kind.Config check)) (ap (λ (y : Parts). y.pacer.moment) moves ∙ when)
    ∙ (ap (configured h (later (now h) (call_kind.Configure at change)) change) (sym fails)
    ∙ sym (reply-checked h at change found early is)))

-- what is replied, by moment, settings and streams
abbrev told_by : Change → Est → ℕ → Settings → List Stream → Reply
told_by change e moment set ss =
    let after = set_est e change.start (settings_after set change).bounds in
    reply_kind.Configured moment (rates_of after (settings_after set change).pacing_percent) (bare (shares (estimate after).target ss))

pub configured-answer : (h : List Entry) (p x q : Parts) (at : ℕ) (change : Change) (found : Option ℕ) (ss : List Stream) (cs : Listed Cluster) (given : Reply) → StandsFor p h → at ≤ GREATEST_MOMENT
    → x ≡ record p { pacer = advanced p.pacer (max p.pacer.moment at); clusters = cs } → found ≡ fault_of (standing h) change → found ≡ None
    → ss ≡ changed p.streams change.streams.items change.removed.items → Configures change ss given x q → given ≡ reply h (call_kind.Configure at change)
configured-answer h p x q at change found ss cs given s early moves is passes streams_are c =
    let when : max p.pacer.moment at ≡ later (now h) (call_kind.Configure at change) = ap (λ m. max m at) s.clock ∙ sym (later-in_time (now h) (call_kind.Configure at change) early) in
    let x_est : estimator.StandsFor x.estimator (est h) = subst (λ v. estimator.StandsFor v (est h)) (sym (ap (λ (y : Parts). y.estimator) moves)) s.estimates in
    c.reply (est h) x_est
    ∙ (ap (λ (y : Parts). told_by change (est h) y.pacer.moment y.settings ss) moves
    ∙ (ap (λ n. told_by change (est h) n p.settings ss) when
    ∙ (ap (λ t. told_by change (est h) (later (now h) (call_kind.Configure at change)) t ss) s.set
    ∙ (ap (λ ys. told_by change (est h) (later (now h) (call_kind.Configure at change)) (settings h) ys)
    (streams_are ∙ ap (λ ys. changed ys change.streams.items change.removed.items) s.streams_are)
    ∙ (ap (configured h (later (now h) (call_kind.Configure at change)) change) (sym passes)
    ∙ sym (reply-checked h at change found early is))))))

-- ---- what it does to the parts

-- the parts after a change
abbrev pub configured_on : Parts → ℕ → Change → List Stream → estimator.Values → Listed Cluster → Parts
configured_on p moment change ss v cs = record p {
  pacer = tuned (advanced p.pacer moment) (pacing_for (settings_after p.settings change) v);
  estimator = v;
  clusters = cs;
  streams = ss;
  settings = settings_after p.settings change;
  started = p.started || is_some change.start;
}

or-no : (b : Bool) → b ≡ (b || false)
or-no true = refl
or-no false = refl

pub steps_configured : (h : List Entry) (p x q : Parts) (at : ℕ) (change : Change) (ss : List Stream) (held : Listed Cluster) (given : Reply) → StandsFor p h → at ≤ GREATEST_MOMENT
    → x ≡ record p { pacer = advanced p.pacer (max p.pacer.moment at); clusters = held } → held.items ≡ p.clusters.items
    → ss ≡ changed p.streams change.streams.items change.removed.items → Configures change ss given x q → Steps (call_kind.Configure at change) given p q
steps_configured h p x q at change ss held given s early moves kept streams_are c =
    let x_est : estimator.StandsFor x.estimator (est h) = subst (λ v. estimator.StandsFor v (est h)) (sym (ap (λ (y : Parts). y.estimator) moves)) s.estimates in
    let set : q.settings ≡ settings_after p.settings change = c.settings ∙ ap (λ (y : Parts). settings_after y.settings change) moves in
    let q_is : q ≡ configured_on p (max p.pacer.moment at) change ss q.estimator q.clusters =
    same-parts q.accepted p.accepted q.pacer (tuned (advanced p.pacer (max p.pacer.moment at)) (pacing_for (settings_after p.settings change) q.estimator)) q.history p.history q.estimator q.estimator q.clusters q.clusters
    q.streams ss q.settings (settings_after p.settings change) q.started (p.started || is_some change.start)
    (c.count ∙ ap (λ (y : Parts). y.accepted) moves)
    (c.pacer ∙ (ap (λ t. tuned x.pacer (pacing_for t q.estimator)) set ∙ ap (λ (y : Parts). tuned y.pacer (pacing_for (settings_after p.settings change) q.estimator)) moves))
    (c.packets ∙ ap (λ (y : Parts). y.history) moves) refl refl c.streams_are set
    (c.started ∙ ap (λ (y : Parts). y.started || is_some change.start) moves) in
    let estimates : (e : Est) → estimator.StandsFor p.estimator e → estimator.StandsFor q.estimator (set_est e change.start (settings_after p.settings change).bounds) =
    subst (λ (y : Parts). (e : Est) → estimator.StandsFor y.estimator e → estimator.StandsFor q.estimator (set_est e change.start (settings_after y.settings change).bounds)) moves c.estimates in
    let plans_in : (ds : List Deed) → probes.StandsFor held.items ds → probes.StandsFor q.clusters.items (ds ++ map Plan (plans p.started change)) =
    subst (λ (y : Parts). (ds : List Deed) → probes.StandsFor y.clusters.items ds → probes.StandsFor q.clusters.items (ds ++ map Plan (plans y.started change))) moves c.clusters in
    let counts : (ds : List Deed) → probes.StandsFor p.clusters.items ds → probes.StandsFor q.clusters.items (ds ++ map Plan (plans p.started change)) =
    subst (λ cs. (ds : List Deed) → probes.StandsFor cs ds → probes.StandsFor q.clusters.items (ds ++ map Plan (plans p.started change))) kept plans_in in
    subst (Steps (call_kind.Configure at change) given p) (sym q_is)
    (rw (c.reply (est h) x_est) (with_values at change ss p q.estimator q.clusters _ _ _ early streams_are estimates counts))
  where
    with_values : (at : ℕ) (change : Change) (ss : List Stream) (p : Parts) (v : estimator.Values) (cs : Listed Cluster) (moment : ℕ) (rates : Rates) (given : Listed Share)
        → at ≤ GREATEST_MOMENT → ss ≡ changed p.streams change.streams.items change.removed.items
        → ((e : Est) → estimator.StandsFor p.estimator e → estimator.StandsFor v (set_est e change.start (settings_after p.settings change).bounds))
        → ((ds : List Deed) → probes.StandsFor p.clusters.items ds → probes.StandsFor cs.items (ds ++ map Plan (plans p.started change)))
        → Steps (call_kind.Configure at change) (reply_kind.Configured moment rates given) p (configured_on p (max p.pacer.moment at) change ss v cs)
    with_values at change ss p v cs moment rates given early streams_are estimates counts = record {
      count = omega arith;
      clock = sym (later-in_time p.pacer.moment (call_kind.Configure at change) early);
      queue = sym (append-nil p.pacer.waiting) ∙ sym (unsent-none (p.pacer.waiting ++ []));
      media = refl;
      padding = refl;
      began = or-no p.pacer.began;
      pacing = refl;
      rate = refl;
      packets = λ es h. rw append-nil h;
      estimates = λ e ds s t. estimates e s;
      clusters = counts;
      streams = streams_are;
      settings = refl;
      started = refl;
      few_statuses = All-nil HasFewStatuses;
    }
