-- How a pace begins, and what it does to the parts.
use Rattle.std.proofs.Common.{◌≡◌, ℕ, ◌+◌, ℤ, pos, neg_ℤ, ◌-◌, ◌*◌, ◌≤◌, ◌||◌, Bool, true, false, List, ◌++◌, length, map, max, le-ltb, refl, sym, ◌∙◌, ap, subst, arith}
use Rattle.std.proofs.lemmas.List.{append-nil}
use Rattle.gcc_units.specs.Listed.{Listed, bare}
use Rattle.gcc_units.specs.declared.limits.TheConstants.{GREATEST_MOMENT, MOST_SENDS}
use Rattle.pace_budget.specs.Level.{Advance}
use Rattle.pace_budget.specs.Steps.{step}
use Rattle.pace_budget.proofs.Steps.{level-step}
use Rattle.pace_queues.specs.declared.ticket.Ticket.{Ticket}
use Rattle.sent_history.specs.Events.{Event, packets}
use Rattle.sent_history.specs.Balance.{HasFewStatuses}
use Rattle.sent_history.specs.Kept as history_kept
use Rattle.std.proofs.lemmas.List.Elements.{All-nil}
use Rattle.probe_clusters.specs.declared.cluster.Cluster.{Cluster}
use Rattle.probe_clusters.specs.Deeds.{clusters}
use Rattle.probe_clusters.specs.Deeds as probes
use Rattle.pacer.specs.declared.sent.Sent.{Sent}
use Rattle.pacer.specs.declared.course.Terms.{Terms}
use Rattle.pacer.specs.declared.pacing.Pacing.{Pacing}
use Rattle.pacer.specs.Course.{IsLowered, MayLower, probes_of}
use Rattle.pacer.specs.Pace.{Standing, unsent, paced, after_all}
use Rattle.pacer.proofs.LeftByRecords.{after_each, after_all-is}
use Rattle.pacer.specs.State.{State, advanced, tuned, terms, standing, left}
use Rattle.send_core.specs.declared.call.Call.TheVariants as call_kind
use Rattle.send_core.specs.declared.call.Reply.TheVariants as reply_kind
use Rattle.send_core.specs.declared.call.Entry.{Entry}
use Rattle.send_core.specs.declared.parts.Parts.{Parts}
use Rattle.send_core.specs.History.{later, now, sent, waiting, began}
use Rattle.send_core.specs.Reports.{events, added_of, cluster_deeds}
use Rattle.send_core.specs.Levels.{rate, window, padding_rate, passing, padding_passing, level_at, padding_at, floor, padding, deeds}
use Rattle.send_core.specs.Levels as levels
use Rattle.send_core.specs.Reply.{reply, terms_at, standing_at}
use Rattle.send_core.specs.declared.counts.TheConstants.{MOST_SENT}
use Rattle.send_core.specs.Stands.{MayGrow, StandsFor, Steps, pacing_for}
use Rattle.send_core.specs.Recording.{TakesSent}
use Rattle.send_core.proofs.Lowering.{lowered-later}
use Rattle.send_core.proofs.Recorded.{reports-added}
use Rattle.send_core.proofs.StepsMade.{later-in_time}

-- ---- the pacer after time has passed

abbrev pub moved : Parts → ℕ → Parts
moved p moment = record p { pacer = advanced p.pacer moment }

same-terms : (m n : ℕ) (a b : Bool) (f g : ℤ) → m ≡ n → a ≡ b → f ≡ g
    → ◌≡◌ {A = Terms} (record { moment = m; paced_audio = a; floor = f }) (record { moment = n; paced_audio = b; floor = g })
same-terms m n a b f g e h i = cc

pub terms-are : (h : List Entry) (p : Parts) (moment m : ℕ) → StandsFor p h → moment ≡ m → terms (moved p moment).pacer ≡ terms_at h m
terms-are h p moment m s same =
    same-terms moment m p.pacer.pacing.paced_audio (levels.pacing h).paced_audio _ _ same (ap (λ (x : Pacing). x.paced_audio) s.pacing)
    (ap (λ (x : Pacing). neg_ℤ (pos (x.padding_rate * x.window))) s.pacing)

same-standing : (w x : List Ticket) (m n p q : ℤ) (c d : List Cluster) (a b : Bool) (k l : ℕ) → w ≡ x → m ≡ n → p ≡ q → c ≡ d → a ≡ b → k ≡ l
    → ◌≡◌ {A = Standing} (record { waiting = w; media = m; padding = p; clusters = c; began = a; number = k })
    (record { waiting = x; media = n; padding = q; clusters = d; began = b; number = l })
same-standing w x m n p q c d a b k l e f g h i j = cc

advance-same : (r s m n t u w v : ℕ) → r ≡ s → m ≡ n → t ≡ u → w ≡ v → Advance r (m - t) w ≡ Advance s (n - u) v
advance-same r s m n t u w v e f g h = cc

pub standing-is : (h : List Entry) (p : Parts) (moment m number : ℕ) → StandsFor p h → moment ≡ m → number ≡ length (packets (events h))
    → standing (moved p moment).pacer (moved p moment).clusters.items number ≡ standing_at h m
standing-is h p moment m number s same counted =
    let window_is : p.pacer.pacing.window ≡ window h = ap (λ (x : Pacing). x.window) s.pacing in
    let padding_rate_is : p.pacer.pacing.padding_rate ≡ padding_rate h = ap (λ (x : Pacing). x.padding_rate) s.pacing in
    let passes : Advance p.pacer.rate (moment - p.pacer.moment) p.pacer.pacing.window ≡ passing h m =
    advance-same p.pacer.rate (rate h) moment m p.pacer.moment (now h) p.pacer.pacing.window (window h) s.in_force same s.clock window_is in
    let pads : Advance p.pacer.pacing.padding_rate (moment - p.pacer.moment) p.pacer.pacing.window ≡ padding_passing h m =
    advance-same p.pacer.pacing.padding_rate (padding_rate h) moment m p.pacer.moment (now h) p.pacer.pacing.window (window h) padding_rate_is same s.clock window_is in
    same-standing p.pacer.waiting (waiting h) _ (level_at h m) _ (padding_at h m) p.clusters.items (clusters (cluster_deeds h)) p.pacer.began (began h) number (length (sent h))
    s.queue
    (ap (λ d. step p.pacer.media d) passes ∙ (ap (λ z. step z (passing h m)) s.media.least ∙ sym (level-step (deeds h) (passing h m))))
    (ap (λ d. step p.pacer.padding d) pads ∙ ap (λ z. step z (padding_passing h m)) s.padding_is)
    s.clusters.are s.media_began (counted ∙ s.laws.number)

-- ---- the reply

pub paced-answer : (h : List Entry) (p x : Parts) (at number moment : ℕ) (out : List Sent) (given : Listed Sent) → StandsFor p h → at ≤ GREATEST_MOMENT
    → x ≡ record p { pacer = advanced p.pacer (max p.pacer.moment at) } → number ≡ length (packets (events h))
    → out ≡ paced MOST_SENDS (terms x.pacer) (standing x.pacer x.clusters.items number) → moment ≡ x.pacer.moment → given ≡ bare out
    → reply_kind.Paced moment given ≡ reply h (call_kind.Pace at)
paced-answer h p x at number moment out given s early moves counted runs here settled =
    let when : max p.pacer.moment at ≡ later (now h) (call_kind.Pace at) = ap (λ m. max m at) s.clock ∙ sym (later-in_time (now h) (call_kind.Pace at) early) in
    let x_moment : x.pacer.moment ≡ later (now h) (call_kind.Pace at) = ap (λ (y : Parts). y.pacer.moment) moves ∙ when in
    let begins : paced MOST_SENDS (terms x.pacer) (standing x.pacer x.clusters.items number)
    ≡ paced MOST_SENDS (terms_at h (later (now h) (call_kind.Pace at))) (standing_at h (later (now h) (call_kind.Pace at))) =
    ap (λ (y : Parts). paced MOST_SENDS (terms y.pacer) (standing y.pacer y.clusters.items number)) moves
    ∙ (ap (λ t. paced MOST_SENDS t (standing (moved p (max p.pacer.moment at)).pacer p.clusters.items number)) (terms-are h p (max p.pacer.moment at) (later (now h) (call_kind.Pace at)) s when)
    ∙ ap (λ st. paced MOST_SENDS (terms_at h (later (now h) (call_kind.Pace at))) st) (standing-is h p (max p.pacer.moment at) (later (now h) (call_kind.Pace at)) number s when counted)) in
    let all : given ≡ bare (paced MOST_SENDS (terms_at h (later (now h) (call_kind.Pace at))) (standing_at h (later (now h) (call_kind.Pace at)))) = settled ∙ ap bare (runs ∙ begins) in
    ap (λ m. reply_kind.Paced m given) (here ∙ x_moment)
    ∙ (ap (reply_kind.Paced (later (now h) (call_kind.Pace at))) all ∙ sym (reply-in_time h at early))
  where
    reply-in_time : (h : List Entry) (at : ℕ) → at ≤ GREATEST_MOMENT
        → reply h (call_kind.Pace at) ≡ reply_kind.Paced (later (now h) (call_kind.Pace at)) (bare (paced MOST_SENDS (terms_at h (later (now h) (call_kind.Pace at))) (standing_at h (later (now h) (call_kind.Pace at)))))
    reply-in_time h at early = rw (le-ltb GREATEST_MOMENT at early) refl

-- ---- what it asks of the sent history

pub takes-sent : (h : List Entry) (p : Parts) (moment more : ℕ) → StandsFor p h → MayGrow h → more ≤ MOST_SENDS → p.pacer.moment ≤ moment → TakesSent p.history moment more
takes-sent h p moment more s grows few late =
    let number : length (packets (events h)) ≡ length (sent h) = s.laws.number in
    let sent_few : length (sent h) + MOST_SENDS ≤ MOST_SENT = grows.few_sent in
    record {
      events = events h;
      stands = s.packets;
      few = omega arith;
      few_reports = omega (arith, grows.few_judged);
      order = omega (arith, s.laws.last, s.clock);
    }

-- ---- what it asks of the media level

pub may-lower : (h : List Entry) (p x : Parts) (moment : ℕ) → StandsFor p h → MayGrow h → x ≡ record p { pacer = advanced p.pacer moment }
    → MayLower MOST_SENDS x.pacer.media
may-lower h p x moment s grows moves =
    let low : IsLowered (length (sent h)) p.pacer.media = subst (IsLowered (length (sent h))) (sym s.media.least) s.laws.lowered in
    record {
      sends = length (sent h);
      lowered = subst (λ (y : Parts). IsLowered (length (sent h)) y.pacer.media) (sym moves) (lowered-later (length (sent h)) _ _ p.pacer.media low);
      room = omega (arith, grows.few_sent);
    }

-- ---- what it does to the parts

-- the parts after these sends
abbrev pub sent_on : Parts → ℕ → ℕ → List Sent → Listed Cluster → history_kept.Kept → Parts
sent_on p moment number out cs hist =
    record p {
      pacer = tuned (left (advanced p.pacer moment) (after_each (terms (advanced p.pacer moment)) (standing (advanced p.pacer moment) p.clusters.items number) out)) (pacing_for p.settings p.estimator);
      clusters = cs;
      history = hist;
    }

or-no : (b : Bool) → b ≡ (b || false)
or-no true = refl
or-no false = refl

pub steps_paced : (at moment number : ℕ) (out : List Sent) (given : Listed Sent) (s : State) (cs : Listed Cluster) (hist : history_kept.Kept) (p x q : Parts)
    → at ≤ GREATEST_MOMENT → x ≡ record p { pacer = advanced p.pacer (max p.pacer.moment at) }
    → s ≡ left x.pacer (after_all (terms x.pacer) (standing x.pacer x.clusters.items number) out)
    → ((ds : List probes.Deed) → probes.StandsFor x.clusters.items ds → probes.StandsFor cs.items (ds ++ probes_of x.pacer.moment out))
    → moment ≡ s.moment
    → ((es : List Event) → history_kept.StandsFor x.history es → history_kept.StandsFor hist (es ++ map (added_of moment) out))
    → q ≡ record x { pacer = tuned s (pacing_for x.settings x.estimator); clusters = cs; history = hist }
    → given ≡ bare out
    → Steps (call_kind.Pace at) (reply_kind.Paced moment given) p q
steps_paced at moment number out given s cs hist p x q early moves leaves counts here keeps then settled =
    let end : Standing = after_each (terms x.pacer) (standing x.pacer x.clusters.items number) out in
    let s_is : s ≡ left x.pacer end = leaves ∙ ap (left x.pacer) (after_all-is (terms x.pacer) (standing x.pacer x.clusters.items number) out) in
    let m_is : moment ≡ x.pacer.moment = here ∙ ap (λ (t : State). t.moment) s_is in
    let x_moment : x.pacer.moment ≡ max p.pacer.moment at = ap (λ (y : Parts). y.pacer.moment) moves in
    let clock : max p.pacer.moment at ≡ later p.pacer.moment (call_kind.Pace at) = sym (later-in_time p.pacer.moment (call_kind.Pace at) early) in
    let q_is : q ≡ sent_on p (max p.pacer.moment at) number out cs hist =
    then ∙ (ap (λ t. record x { pacer = tuned t (pacing_for x.settings x.estimator); clusters = cs; history = hist }) s_is
    ∙ ap (λ (y : Parts). record y { pacer = tuned (left y.pacer (after_each (terms y.pacer) (standing y.pacer y.clusters.items number) out)) (pacing_for y.settings y.estimator); clusters = cs; history = hist }) moves) in
    rw (settled, m_is ∙ x_moment, q_is) (with_out at number out cs hist p clock
    (subst (λ (y : Parts). (ds : List probes.Deed) → probes.StandsFor y.clusters.items ds → probes.StandsFor cs.items (ds ++ probes_of y.pacer.moment out)) moves counts)
    (subst (λ (y : Parts). (es : List Event) → history_kept.StandsFor y.history es → history_kept.StandsFor hist (es ++ map (added_of y.pacer.moment) out)) moves
    (subst (λ n. (es : List Event) → history_kept.StandsFor x.history es → history_kept.StandsFor hist (es ++ map (added_of n) out)) m_is keeps)))
  where
    with_out : (at number : ℕ) (out : List Sent) (cs : Listed Cluster) (hist : history_kept.Kept) (p : Parts)
        → max p.pacer.moment at ≡ later p.pacer.moment (call_kind.Pace at)
        → ((ds : List probes.Deed) → probes.StandsFor p.clusters.items ds → probes.StandsFor cs.items (ds ++ probes_of (max p.pacer.moment at) out))
        → ((es : List Event) → history_kept.StandsFor p.history es → history_kept.StandsFor hist (es ++ map (added_of (max p.pacer.moment at)) out))
        → Steps (call_kind.Pace at) (reply_kind.Paced (max p.pacer.moment at) (bare out)) p (sent_on p (max p.pacer.moment at) number out cs hist)
    with_out at number out cs hist p clock counts keeps = record {
      count = omega arith;
      clock = clock;
      queue = ap (unsent out) (sym (append-nil p.pacer.waiting));
      media = refl;
      padding = refl;
      began = refl;
      pacing = refl;
      rate = refl;
      packets = keeps;
      estimates = λ e ds s t. s;
      clusters = counts;
      streams = refl;
      settings = refl;
      started = or-no p.started;
      few_statuses = rw (reports-added (max p.pacer.moment at) out) (All-nil HasFewStatuses);
    }
