-- What was judged may go to the estimator, and the reply to a report.
use Rattle.std.proofs.Common.{◌≡◌, ℕ, suc, ℤ, ◌+◌, ◌<◌, ◌≤◌, ◌||◌, Bool, true, false, Option, None, Some, Ok, IfSome, List, [], ◌∷◌, ◌++◌, length, map, max, All, slice_get, get_or, cond, le-ltb, append_assoc, refl, sym, ◌∙◌, ap, subst, arith}
use Rattle.std.proofs.lemmas.List.{append-nil}
use Rattle.std.proofs.lemmas.List.Elements.{All-weaker, All-nil, All-cons}
use Rattle.std.proofs.lemmas.Option.{slice_get_within, slice_get-get_or}
use Rattle.gcc_units.specs.declared.limits.TheConstants.{GREATEST_MOMENT, MOST_REPORTS, MOST_SENDS, MOST_STATUSES}
use Rattle.gcc_units.specs.declared.shared_types.Credit.{Credit}
use Rattle.gcc_units.specs.declared.shared_types.Judged.{Judged}
use Rattle.twcc_report.specs.Spelling.{Feedback}
use Rattle.twcc_report.specs.Reading.{read_of}
use Rattle.sent_history.specs.declared.slot.Outgoing.{Outgoing}
use Rattle.sent_history.specs.Balance.{HasFewStatuses}
use Rattle.sent_history.specs.Events.{Event, reported, packets, reports}
use Rattle.sent_history.specs.Crediting.{told, judged, IsOfPacket, ArrivesInRange}
use Rattle.sent_history.specs.Kept as history_kept
use Rattle.probe_clusters.specs.declared.cluster.Cluster.{Cluster}
use Rattle.probe_clusters.specs.Deeds.{Deed, Note, takings, rates, clusters, clusters_from}
use Rattle.probe_clusters.specs.Deeds as probes
use Rattle.estimator.specs.Signals.{IsSentBy}
use Rattle.estimator.specs.Report.{found, NamesPlanned}
use Rattle.estimator.specs.Est.{Est, judged_est, estimate}
use Rattle.estimator.specs.Kept.{IsInRange}
use Rattle.estimator.proofs.Until.{until-later}
use Rattle.estimator.specs.Kept as estimator
use Rattle.gcc_units.specs.declared.shared_types.Share.{Share}
use Rattle.gcc_units.specs.declared.shared_types.Signal.{Signal}
use Rattle.gcc_units.specs.Listed.{Listed, bare}
use Rattle.allocator.specs.declared.stream.Stream.{Stream}
use Rattle.allocator.specs.Shares.{shares}
use Rattle.pacer.proofs.Records.{unsent-none}
use Rattle.pacer.specs.State.{State, advanced, tuned}
use Rattle.send_core.specs.declared.call.Rates.{Rates}
use Rattle.send_core.specs.declared.settings.Settings.{Settings}
use Rattle.send_core.specs.Settings.{settings}
use Rattle.send_core.specs.declared.call.Call.TheVariants as call_kind
use Rattle.send_core.specs.declared.call.Cause.TheVariants as cause_kind
use Rattle.send_core.specs.declared.call.Entry.{Entry}
use Rattle.send_core.specs.declared.call.Reply.{Reply}
use Rattle.send_core.specs.declared.call.Reply.TheVariants as reply_kind
use Rattle.send_core.specs.declared.parts.Parts.{Parts}
use Rattle.send_core.specs.History.{later, now, sent}
use Rattle.send_core.specs.Reports.{events, cluster_deeds}
use Rattle.send_core.specs.Estimates.{est, rates_of}
use Rattle.send_core.specs.Outcomes.{TakesJudged, Credits}
use Rattle.send_core.specs.Reply.{reply, credited}
use Rattle.send_core.specs.Reply as replies
use Rattle.send_core.specs.declared.counts.TheConstants.{MOST_SENT}
use Rattle.send_core.specs.Stands.{IsPlanned, IsOutgoing, MayGrow, StandsFor, Steps, pacing_for}
use Rattle.send_core.proofs.StepsMade.{later-in_time}

-- ---- what is known of each credit

pub All-slice_get : {X : Type 0} (P : X → Type 0) (xs : List X) (n : ℕ) (x : X) → All P xs → slice_get xs n ≡ Some x → P x
All-slice_get P xs n x all is =
    let below : n < length xs = slice_get_within xs n x is in
    let here : Some (get_or xs n x) ≡ Some x = sym (slice_get-get_or xs n x below) ∙ is in
    let same : get_or xs n x ≡ x = cc in
    subst P same (all n x below)

length-clusters : (ds : List Deed) (k : ℕ) (rs : List ℕ) → length (clusters_from ds k rs) ≡ length rs
length-clusters ds k [] = refl
length-clusters ds k (r ∷ rs) = ap suc (length-clusters ds (k + 1) rs)

pub length-planned : (ds : List Deed) → length (clusters ds) ≡ length (rates ds)
length-planned ds = length-clusters ds 0 (rates ds)

-- a credit of a packet that was sent
pub record IsSound (moment planned : ℕ) (c : Credit) : Type 0 where
  pub sent : c.sent_at ≤ moment
  pub range : IsInRange c
  pub cluster : IsPlanned planned c.cluster

sound : (moment planned : ℕ) (ps : List Outgoing) (c : Credit) → All (IsOutgoing moment planned) ps → IsOfPacket ps c → ArrivesInRange c → IsSound moment planned c
sound moment planned ps c all of range =
    let o : IsOutgoing moment planned (record { sent_at = c.sent_at; size = c.size; cluster = c.cluster }) =
    All-slice_get (IsOutgoing moment planned) ps c.number (record { sent_at = c.sent_at; size = c.size; cluster = c.cluster }) all of in
    record { sent = o.sent; range = record { low = range.low; high = range.high; size = o.size }; cluster = o.cluster }

sound-all : (moment planned : ℕ) (ps : List Outgoing) (cs : List Credit) → All (IsOutgoing moment planned) ps → All (IsOfPacket ps) cs → All ArrivesInRange cs → All (IsSound moment planned) cs
sound-all moment planned ps cs all of range = λ k d below. sound moment planned ps (get_or cs k d) all (of k d below) (range k d below)

planned-is : (planned : ℕ) (cs : List Cluster) (o : Option ℕ) → planned ≡ length cs → IsPlanned planned o → IfSome o (λ id. id < length cs)
planned-is planned cs None e h = tt
planned-is planned cs (Some id) e h = subst (λ n. id < n) e h

-- ---- what was judged may go to the estimator

pub judged-taken : (h : List Entry) (p x : Parts) (moment count : ℕ) (verdict : Judged) (hist : history_kept.Kept) → StandsFor p h → MayGrow h
    → x ≡ record p { pacer = advanced p.pacer moment; history = hist } → p.pacer.moment ≤ moment
    → length verdict.received.items + verdict.missing + verdict.unknown + verdict.repeated ≡ count → count ≤ MOST_STATUSES
    → All (IsOfPacket (packets (events h))) verdict.received.items → All ArrivesInRange verdict.received.items
    → TakesJudged x verdict
judged-taken h p x moment count verdict hist s grows moves late sum few of arrives = rw moves (
    let received : List Credit = verdict.received.items in
    let facts : All (IsSound (now h) (length (rates (cluster_deeds h)))) received = sound-all (now h) (length (rates (cluster_deeds h))) (packets (events h)) received s.laws.outgoing of arrives in
    let on_time : now h ≤ moment = omega (arith, s.clock) in
    let credits_few : length (est h).credits ≤ length (sent h) = s.laws.few_credits in
    let sent_few : length (sent h) + MOST_SENDS ≤ MOST_SENT = grows.few_sent in
    let reports_few : (est h).reports ≤ length (reports (events h)) = s.laws.judged in
    let judged_few : length (reports (events h)) < MOST_REPORTS = grows.few_judged in
    let many : length p.clusters.items ≡ length (rates (cluster_deeds h)) = ap length s.clusters.are ∙ length-planned (cluster_deeds h) in
    record {
      received = omega arith;
      missing = omega arith;
      ranges = All-weaker (IsSound (now h) (length (rates (cluster_deeds h)))) IsInRange (λ c f. f.range) received facts;
      sent = All-weaker (IsSound (now h) (length (rates (cluster_deeds h)))) (IsSentBy moment) (λ c f. let early : c.sent_at ≤ now h = f.sent in omega arith) received facts;
      report = record {
        est = est h;
        stands = s.estimates;
        until = until-later (now h) moment (est h) s.laws.until on_time;
        few_reports = omega arith;
        few_credits = omega arith;
      };
      notes = record {
        before = length (est h).credits;
        reached = record {
          deeds = cluster_deeds h;
          stands = s.clusters;
          within = record { few_sends = omega (arith, s.laws.within.few_sends); few_credits = s.laws.within.few_credits; sizes = s.laws.within.sizes };
        };
        few = omega arith;
        named = All-weaker (IsSound (now h) (length (rates (cluster_deeds h)))) (NamesPlanned p.clusters.items)
            (λ c f. planned-is (length (rates (cluster_deeds h))) p.clusters.items c.cluster (sym many) f.cluster) received facts;
      };
    })

-- ---- the reply to a report

-- what is replied, by moment, settings and streams
abbrev told_by : Judged → Est → List Deed → ℕ → Settings → List Stream → Reply
told_by verdict e ds moment set ss =
    let after = judged_est e verdict.received.items verdict.missing moment set.bounds (found ds verdict.received.items) in
    reply_kind.Credited moment verdict (estimate after).signal (estimate after).m (estimate after).acked (rates_of after set.pacing_percent) (bare (shares (estimate after).target ss))

reply-read : (h : List Entry) (at : ℕ) (bytes : Listed ℕ) (report : Feedback) → at ≤ GREATEST_MOMENT → read_of bytes.items ≡ Ok report
    → reply h (call_kind.Report at bytes) ≡ credited h (later (now h) (call_kind.Report at bytes)) (told (judged (events h) report))
reply-read h at bytes report early read =
    ap (λ b. cond b (reply_kind.Refused (now h) cause_kind.MomentTooLarge) (replies.reply_in_time h (later (now h) (call_kind.Report at bytes)) (call_kind.Report at bytes)))
    (le-ltb GREATEST_MOMENT at early)
    ∙ ap (replies.reported h (later (now h) (call_kind.Report at bytes))) read

pub credited-answer : (h : List Entry) (p x q : Parts) (at : ℕ) (bytes : Listed ℕ) (report : Feedback) (verdict : Judged) (given : Reply) (hist : history_kept.Kept) → StandsFor p h
    → at ≤ GREATEST_MOMENT → x ≡ record p { pacer = advanced p.pacer (max p.pacer.moment at); history = hist } → read_of bytes.items ≡ Ok report
    → verdict ≡ told (judged (events h) report) → Credits verdict given x q → given ≡ reply h (call_kind.Report at bytes)
credited-answer h p x q at bytes report verdict given hist s early moves read judges credits =
    let when : max p.pacer.moment at ≡ later (now h) (call_kind.Report at bytes) = ap (λ m. max m at) s.clock ∙ sym (later-in_time (now h) (call_kind.Report at bytes) early) in
    let x_est : estimator.StandsFor x.estimator (est h) = subst (λ v. estimator.StandsFor v (est h)) (sym (ap (λ (y : Parts). y.estimator) moves)) s.estimates in
    let x_clusters : probes.StandsFor x.clusters.items (cluster_deeds h) = subst (λ v. probes.StandsFor v (cluster_deeds h)) (sym (ap (λ (y : Parts). y.clusters.items) moves)) s.clusters in
    credits.reply (est h) (cluster_deeds h) x_est x_clusters
    ∙ (ap (λ (y : Parts). told_by verdict (est h) (cluster_deeds h) y.pacer.moment y.settings y.streams) moves
    ∙ (ap (λ n. told_by verdict (est h) (cluster_deeds h) n p.settings p.streams) when
    ∙ (ap (λ t. told_by verdict (est h) (cluster_deeds h) (later (now h) (call_kind.Report at bytes)) t p.streams) s.set
    ∙ (ap (λ ss. told_by verdict (est h) (cluster_deeds h) (later (now h) (call_kind.Report at bytes)) (settings h) ss) s.streams_are
    ∙ (ap (λ v. credited h (later (now h) (call_kind.Report at bytes)) v) judges
    ∙ sym (reply-read h at bytes report early read))))))

-- ---- what it does to the parts

-- the parts after a report that was judged
abbrev pub judged_on : Parts → ℕ → history_kept.Kept → estimator.Values → Listed Cluster → Parts
judged_on p moment hist v cs = record p { pacer = tuned (advanced p.pacer moment) (pacing_for p.settings v); history = hist; estimator = v; clusters = cs }

pub same-parts : (a b : ℕ) (c d : State) (i j : history_kept.Kept) (k l : estimator.Values) (m n : Listed Cluster) (o r : List Stream) (s t : Settings) (u v : Bool)
    → a ≡ b → c ≡ d → i ≡ j → k ≡ l → m ≡ n → o ≡ r → s ≡ t → u ≡ v
    → ◌≡◌ {A = Parts} (record { accepted = a; pacer = c; history = i; estimator = k; clusters = m; streams = o; settings = s; started = u })
    (record { accepted = b; pacer = d; history = j; estimator = l; clusters = n; streams = r; settings = t; started = v })
same-parts a b c d i j k l m n o r s t u v e f g h x y z w = cc

or-no : (b : Bool) → b ≡ (b || false)
or-no true = refl
or-no false = refl

pub steps_credited : (h : List Entry) (p x q : Parts) (at : ℕ) (bytes : Listed ℕ) (report : Feedback) (verdict : Judged) (given : Reply) (hist : history_kept.Kept) → StandsFor p h
    → at ≤ GREATEST_MOMENT → x ≡ record p { pacer = advanced p.pacer (max p.pacer.moment at); history = hist } → read_of bytes.items ≡ Ok report
    → ((es : List Event) → history_kept.StandsFor p.history es → history_kept.StandsFor hist (es ++ reported report ∷ [])) → HasFewStatuses report
    → Credits verdict given x q → Steps (call_kind.Report at bytes) given p q
steps_credited h p x q at bytes report verdict given hist s early moves read keeps few credits =
    let x_est : estimator.StandsFor x.estimator (est h) = subst (λ v. estimator.StandsFor v (est h)) (sym (ap (λ (y : Parts). y.estimator) moves)) s.estimates in
    let x_clusters : probes.StandsFor x.clusters.items (cluster_deeds h) = subst (λ v. probes.StandsFor v (cluster_deeds h)) (sym (ap (λ (y : Parts). y.clusters.items) moves)) s.clusters in
    let m : ℕ = max p.pacer.moment at in
    let q_is : q ≡ judged_on p (max p.pacer.moment at) hist q.estimator q.clusters =
    same-parts q.accepted p.accepted q.pacer (tuned (advanced p.pacer (max p.pacer.moment at)) (pacing_for p.settings q.estimator)) q.history hist q.estimator q.estimator q.clusters q.clusters
    q.streams p.streams q.settings p.settings q.started p.started
    (credits.count ∙ ap (λ (y : Parts). y.accepted) moves)
    (credits.pacer ∙ (ap (λ t. tuned x.pacer (pacing_for t q.estimator)) (credits.settings ∙ ap (λ (y : Parts). y.settings) moves)
    ∙ ap (λ (y : Parts). tuned y.pacer (pacing_for p.settings q.estimator)) moves))
    (credits.packets ∙ ap (λ (y : Parts). y.history) moves) refl refl
    (credits.streams ∙ ap (λ (y : Parts). y.streams) moves) (credits.settings ∙ ap (λ (y : Parts). y.settings) moves) (credits.started ∙ ap (λ (y : Parts). y.started) moves) in
    let estimates : (e : Est) (ds : List Deed) → estimator.StandsFor p.estimator e → probes.StandsFor p.clusters.items ds
    → estimator.StandsFor q.estimator (judged_est e verdict.received.items verdict.missing (max p.pacer.moment at) p.settings.bounds (found ds verdict.received.items)) =
    subst (λ (y : Parts). (e : Est) (ds : List Deed) → estimator.StandsFor y.estimator e → probes.StandsFor y.clusters.items ds
    → estimator.StandsFor q.estimator (judged_est e verdict.received.items verdict.missing y.pacer.moment y.settings.bounds (found ds verdict.received.items))) moves credits.estimates in
    let counts : (ds : List Deed) → probes.StandsFor p.clusters.items ds
    → probes.StandsFor q.clusters.items ((ds ++ map Note verdict.received.items) ++ takings (found ds verdict.received.items)) =
    subst (λ (y : Parts). (ds : List Deed) → probes.StandsFor y.clusters.items ds
    → probes.StandsFor q.clusters.items ((ds ++ map Note verdict.received.items) ++ takings (found ds verdict.received.items))) moves credits.clusters in
    subst (Steps (call_kind.Report at bytes) given p) (sym q_is)
    (rw (credits.reply (est h) (cluster_deeds h) x_est x_clusters)
    (with_values at bytes report verdict hist p q.estimator q.clusters _ _ _ _ _ _ early read keeps few estimates counts (ap (λ (y : Parts). y.pacer.moment) moves)))
  where
    with_values : (at : ℕ) (bytes : Listed ℕ) (report : Feedback) (verdict : Judged) (hist : history_kept.Kept) (p : Parts) (v : estimator.Values) (cs : Listed Cluster)
        (moment : ℕ) (signal : Signal) (m : ℤ) (acked : Option ℕ) (rates : Rates) (given : Listed Share)
        → at ≤ GREATEST_MOMENT → read_of bytes.items ≡ Ok report
        → ((es : List Event) → history_kept.StandsFor p.history es → history_kept.StandsFor hist (es ++ reported report ∷ [])) → HasFewStatuses report
        → ((e : Est) (ds : List Deed) → estimator.StandsFor p.estimator e → probes.StandsFor p.clusters.items ds
        → estimator.StandsFor v (judged_est e verdict.received.items verdict.missing (max p.pacer.moment at) p.settings.bounds (found ds verdict.received.items)))
        → ((ds : List Deed) → probes.StandsFor p.clusters.items ds → probes.StandsFor cs.items ((ds ++ map Note verdict.received.items) ++ takings (found ds verdict.received.items)))
        → moment ≡ max p.pacer.moment at
        → Steps (call_kind.Report at bytes) (reply_kind.Credited moment verdict signal m acked rates given) p (judged_on p (max p.pacer.moment at) hist v cs)
    with_values at bytes report verdict hist p v cs moment signal m acked rates given early read keeps few estimates counts here = record {
      count = omega arith;
      clock = sym (later-in_time p.pacer.moment (call_kind.Report at bytes) early);
      queue = sym (append-nil p.pacer.waiting) ∙ sym (unsent-none (p.pacer.waiting ++ []));
      media = refl;
      padding = refl;
      began = or-no p.pacer.began;
      pacing = refl;
      rate = refl;
      packets = λ es h. rw read (keeps es h);
      estimates = λ e ds s t. rw here (estimates e ds s t);
      clusters = λ ds h. subst (probes.StandsFor cs.items) (append_assoc ds (map Note verdict.received.items) (takings (found ds verdict.received.items))) (counts ds h);
      streams = refl;
      settings = refl;
      started = or-no p.started;
      few_statuses = rw read (All-cons HasFewStatuses report [] few (All-nil HasFewStatuses));
    }
