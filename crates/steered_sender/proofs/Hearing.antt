-- A report that was judged: what the control may be given of it, and where that leads.
use Rattle.std.proofs.Common.{◌≡◌, ℕ, ℤ, ◌+◌, ◌≤◌, Bool, true, false, cond, Option, None, Some, Result, Ok, Err, List, [], ◌∷◌, ◌++◌, All, length, get_or, map, nat_lt, refl, sym, ◌∙◌, ap, subst, arith, length-append, append_assoc}
use Rattle.std.proofs.lemmas.List.{append-nil, get_or-append-add}
use Rattle.std.proofs.lemmas.List.Elements.{All-weaker, All-head}
use Rattle.std.specs.Option.{ForSome}
use Rattle.std.proofs.lemmas.Grind.{flat_map-append}
use Rattle.gcc_units.specs.Listed.{Listed}
use Rattle.gcc_units.specs.Rates.{IsBounds}
use Rattle.gcc_units.specs.declared.limits.TheConstants.{GREATEST_MOMENT, MOST_STATUSES, MOST_WAITING}
use Rattle.gcc_units.specs.declared.shared_types.Credit.{Credit}
use Rattle.gcc_units.specs.declared.shared_types.Judged.{Judged}
use Rattle.gcc_units.specs.declared.shared_types.Share.{Share}
use Rattle.gcc_units.specs.declared.shared_types.Signal.{Signal}
use Rattle.gcc_units.specs.declared.class.Class.{Class}
use Rattle.rtp_wire.specs.declared.packet.WireFault.{WireFault}
use Rattle.rtp_wire.specs.Place.{place_of}
use Rattle.twcc_report.specs.declared.fault.ReportFault.{ReportFault}
use Rattle.twcc_report.specs.Spelling.{Feedback}
use Rattle.twcc_report.specs.Reading.{read_of}
use Rattle.sent_history.specs.Balance.{HasFewStatuses}
use Rattle.sent_history.specs.Events.{report_in, packets, reports}
use Rattle.sent_history.specs.Events as event
use Rattle.sent_history.specs.Crediting.{account, told, judged, verdicts, credits_in, IsOfPacket, ArrivesInRange}
use Rattle.sent_history.specs.Laws.{credits_of_packets, credits_few, missing_few, statuses_counted}
use Rattle.sent_history.specs.Pushes.{account_packets}
use Rattle.probe_clusters.specs.declared.cluster.Cluster.{Cluster}
use Rattle.probe_clusters.specs.Deeds.{Deed, Note, rates, takings}
use Rattle.probe_clusters.specs.Deeds as probes
use Rattle.pacer.specs.State.{advanced}
use Rattle.estimator.specs.Signals.{IsSentBy}
use Rattle.estimator.specs.Est.{Est, found}
use Rattle.estimator.specs.Kept.{IsInRange}
use Rattle.estimator.specs.Report.{round_trip, IsSmall, TakesNotes}
use Rattle.level_control.specs.declared.Answer.{Answer}
use Rattle.level_control.specs.declared.state.State.{State}
use Rattle.level_control.specs.Rule.{Gathers}
use Rattle.send_core.specs.declared.call.Call.TheVariants as call_kind
use Rattle.send_core.specs.declared.call.Cause.TheVariants as cause_kind
use Rattle.send_core.specs.declared.call.Entry.{Entry}
use Rattle.send_core.specs.declared.call.Rates.{Rates}
use Rattle.send_core.specs.declared.call.Reply.{Reply}
use Rattle.send_core.specs.declared.call.Reply.TheVariants as reply_kind
use Rattle.send_core.specs.declared.parts.Parts.{Parts}
use Rattle.send_core.specs.History.{entry, accepted, waiting, later, now}
use Rattle.send_core.specs.Settings.{settings, started}
use Rattle.send_core.specs.Reports.{events, events_by, reported_of, cluster_deeds}
use Rattle.send_core.specs.Estimates.{est}
use Rattle.send_core.specs.Outcomes as outcomes
use Rattle.send_core.specs.Reply.{extension_id, enqueued, reply, reported, reply_in_time}
use Rattle.send_core.specs.Stands.{MayGrow}
use Rattle.send_core.proofs.Judging.{judged-taken}
use Rattle.send_core.proofs.Pushes.{est-push, events-push, now-push}
use Rattle.live_sender.specs.Live.{Live}
use Rattle.live_sender.specs.Live as live
use Rattle.live_sender.proofs.Living.{judged-reported}
use Rattle.steered_sender.specs.declared.steering.Steering.{Steering}
use Rattle.steered_sender.specs.Measures.{IsTimely}
use Rattle.steered_sender.specs.Steered.{answered, steered, state_after, answer_to, wanted_by}
use Rattle.steered_sender.specs.Steps.{Steers, TakesJudged, Hears}
use Rattle.steered_sender.proofs.Pushing.{IsQuiet, quiet-accepted, quiet-refused, steers-push, rates-judged, later-least, last-later, or-no}

-- ---- what the reply says

pub record IsFrom (h : List Entry) (at : ℕ) (bytes : Listed ℕ) (moment : ℕ) (verdict : Judged) : Type 0 where
  pub report : Feedback
  pub read : read_of bytes.items ≡ Ok report
  pub when : moment ≡ later (now h) (call_kind.Report at bytes)
  pub judges : verdict ≡ told (judged (events h) report)

pub is-from : (h : List Entry) (at : ℕ) (bytes : Listed ℕ) (moment : ℕ) (verdict : Judged) (signal : Signal) (m : ℤ) (acked : Option ℕ) (rs : Rates) (given : Listed Share)
    → reply_kind.Credited moment verdict signal m acked rs given ≡ reply h (call_kind.Report at bytes) → IsFrom h at bytes moment verdict
is-from h at bytes moment verdict signal m acked rs given is = by_time (nat_lt GREATEST_MOMENT at) is
  where
    when : ℕ
    when = later (now h) (call_kind.Report at bytes)

    by_read : (o : Result Feedback ReportFault) → read_of bytes.items ≡ o → reply_kind.Credited moment verdict signal m acked rs given ≡ reported h when o → IsFrom h at bytes moment verdict
    by_read (Err fault) e is = absurd cc
    by_read (Ok report) e is = record { report = report; read = e; when = cc; judges = cc }

    by_time : (b : Bool) → reply_kind.Credited moment verdict signal m acked rs given ≡ cond b (reply_kind.Refused (now h) cause_kind.MomentTooLarge) (reply_in_time h when (call_kind.Report at bytes))
        → IsFrom h at bytes moment verdict
    by_time true is = absurd cc
    by_time false is = by_read (read_of bytes.items) refl is

-- ---- what is known of the last ones

pub All-end : {X : Type 0} (P : X → Type 0) (xs ys : List X) → All P (xs ++ ys) → All P ys
All-end P xs ys all = λ k d below.
    subst P (get_or-append-add xs ys k d) (all (length xs + k) d (rw (length-append xs ys) (omega arith)))

-- ---- it may be given to the control

pub takes : (h : List Entry) (caller at : ℕ) (bytes : Listed ℕ) (moment : ℕ) (verdict : Judged) (signal : Signal) (m : ℤ) (acked : Option ℕ) (rs : Rates) (given : Listed Share)
    (before after : Live) (s : Steering) → live.StandsFor before h → MayGrow h → Steers s h
    → live.StandsFor after (h ++ entry caller (call_kind.Report at bytes) (reply_kind.Credited moment verdict signal m acked rs given) ∷ [])
    → reply_kind.Credited moment verdict signal m acked rs given ≡ reply h (call_kind.Report at bytes) → TakesJudged s moment verdict
takes h caller at bytes moment verdict signal m acked rs given before after s stands grows steers stands_after is =
    let f : IsFrom h at bytes moment verdict = is-from h at bytes moment verdict signal m acked rs given is in
    let e : Entry = entry caller (call_kind.Report at bytes) (reply_kind.Credited moment verdict signal m acked rs given) in
    let late : now h ≤ moment = subst (λ n. now h ≤ n) (sym f.when) (later-least (now h) (call_kind.Report at bytes)) in
    let now_is : now (h ++ e ∷ []) ≡ moment = now-push h e ∙ sym f.when in
    let in_time : moment ≤ GREATEST_MOMENT = subst (λ n. n ≤ GREATEST_MOMENT) now_is stands_after.parts.laws.in_time in
    let credits_are : (est (h ++ e ∷ [])).credits ≡ (est h).credits ++ verdict.received.items = ap (λ (x : Est). x.credits) (est-push h e) in
    let ranges : All IsInRange verdict.received.items =
    All-end IsInRange (est h).credits verdict.received.items (subst (All IsInRange) credits_are stands_after.parts.estimates.ranges) in
    let sent : All (IsSentBy (now (h ++ e ∷ []))) verdict.received.items =
    All-end (IsSentBy (now (h ++ e ∷ []))) (est h).credits verdict.received.items (subst (All (IsSentBy (now (h ++ e ∷ [])))) credits_are stands_after.parts.laws.until.sent) in
    let reports_are : reports (events (h ++ e ∷ [])) ≡ reports (events h) ++ f.report ∷ [] =
    ap reports (events-push h e ∙ ap (λ o. events h ++ reported_of o) f.read) ∙ flat_map-append report_in (events h) (event.reported f.report ∷ []) in
    let few_all : All HasFewStatuses (f.report ∷ []) =
    All-end HasFewStatuses (reports (events h)) (f.report ∷ []) (subst (All HasFewStatuses) reports_are stands_after.parts.more.few_statuses) in
    let few : length f.report.statuses ≤ MOST_STATUSES = All-head HasFewStatuses f.report [] few_all in
    let received_few : length (credits_in (verdicts (account (events h)) f.report)) ≤ length f.report.statuses = credits_few (account (events h)) f.report in
    let missing_are_few : (told (judged (events h) f.report)).missing ≤ length f.report.statuses = missing_few (account (events h)) f.report in
    let of_all : All (IsOfPacket (packets (events h))) (credits_in (verdicts (account (events h)) f.report)) =
    subst (λ ps. All (IsOfPacket ps) (credits_in (verdicts (account (events h)) f.report))) (account_packets (events h)) (credits_of_packets (account (events h)) f.report) in
    let of : All (IsOfPacket (packets (events h))) verdict.received.items = subst (λ (v : Judged). All (IsOfPacket (packets (events h))) v.received.items) (sym f.judges) of_all in
    let arrives : All ArrivesInRange verdict.received.items = All-weaker IsInRange ArrivesInRange (λ c r. record { low = r.low; high = r.high }) verdict.received.items ranges in
    let sum : length verdict.received.items + verdict.missing + verdict.unknown + verdict.repeated ≡ length f.report.statuses =
    subst (λ (v : Judged). length v.received.items + v.missing + v.unknown + v.repeated ≡ length f.report.statuses) (sym f.judges) (statuses_counted (account (events h)) f.report) in
    let x : Parts = record before.parts { pacer = advanced before.parts.pacer moment; history = before.parts.history } in
    let clock : before.parts.pacer.moment ≡ now h = stands.parts.clock in
    let t : outcomes.TakesJudged x verdict =
    judged-taken h before.parts x moment (length f.report.statuses) verdict before.parts.history stands.parts grows refl (subst (λ n. n ≤ moment) (sym clock) late) sum few of arrives in
    let same : before.parts.clusters.items ≡ s.clusters.items = stands.parts.clusters.are ∙ sym steers.clusters.are in
    record {
      moment = in_time;
      received = t.received;
      missing = t.missing;
      timely = timely_all (now (h ++ e ∷ [])) verdict.received.items stands_after.parts.laws.in_time ranges sent;
      small = All-weaker IsInRange IsSmall (λ c r. r.size) verdict.received.items ranges;
      notes = subst (λ (cs : List Cluster). TakesNotes cs verdict.received.items) same t.notes;
      short = steers.short;
      order = last-later s.level.last (now h) moment late steers.last;
      bounds = subst IsBounds (sym steers.bounds) stands.parts.laws.set.bounds;
      few = (length (reports (events h)), steers.gathers, grows.few_judged);
    }
  where
    timely_all : (n : ℕ) (cs : List Credit) → n ≤ GREATEST_MOMENT → All IsInRange cs → All (IsSentBy n) cs → All IsTimely cs
    timely_all n cs le ranges sent = λ k d below.
        let r : IsInRange (get_or cs k d) = ranges k d below in
        let by : (get_or cs k d).sent_at ≤ n = sent k d below in
        record { low = r.low; high = r.high; sent = omega (arith, by, le) }

-- ---- what it answers

pub answer-is : (h : List Entry) (moment : ℕ) (verdict : Judged) (acked : Option ℕ) (told : Answer) (before after : Steering) → Steers before h → Hears moment verdict acked told before after
    → told ≡ answer_to (steered before.start h).state (cluster_deeds h) (settings h).bounds (est h).rtt moment verdict acked
answer-is h moment verdict acked told before after s c =
    let ds : List Deed = cluster_deeds h in
    c.told_is ds s.clusters s.planned
    ∙ (ap (λ (x : State). answer_to x ds before.bounds before.rtt moment verdict acked) s.level
    ∙ (ap (λ b. answer_to (steered before.start h).state ds b before.rtt moment verdict acked) s.bounds
    ∙ ap (λ r. answer_to (steered before.start h).state ds (settings h).bounds r moment verdict acked) s.round_trip))

pub answers-none : (start : ℕ) (h : List Entry) (given : Reply)
    → ((moment : ℕ) (verdict : Judged) (signal : Signal) (m : ℤ) (acked : Option ℕ) (rs : Rates) (shares : Listed Share) → given ≡ reply_kind.Credited moment verdict signal m acked rs shares → ⊥)
    → None ≡ answered start h given
answers-none start h (reply_kind.Accepted moment index) never = refl
answers-none start h (reply_kind.Paced moment records) never = refl
answers-none start h (reply_kind.Credited moment verdict signal m acked rs shares) never = absurd (never _ _ _ _ _ _ _ refl)
answers-none start h (reply_kind.Configured moment rs shares) never = refl
answers-none start h (reply_kind.Refused moment cause) never = refl

-- ---- where it leads

pub heard-moves : (h : List Entry) (caller at : ℕ) (bytes : Listed ℕ) (moment : ℕ) (verdict : Judged) (signal : Signal) (m : ℤ) (acked : Option ℕ) (rs : Rates) (given : Listed Share)
    (answered : Answer) (before after : Steering) → Steers before h → Hears moment verdict acked answered before after
    → reply_kind.Credited moment verdict signal m acked rs given ≡ reply h (call_kind.Report at bytes)
    → Steers after (h ++ entry caller (call_kind.Report at bytes) (reply_kind.Credited moment verdict signal m acked rs given) ∷ [])
heard-moves h caller at bytes moment verdict signal m acked rs given answered before after s c is =
    let f : IsFrom h at bytes moment verdict = is-from h at bytes moment verdict signal m acked rs given is in
    let e : Entry = entry caller (call_kind.Report at bytes) (reply_kind.Credited moment verdict signal m acked rs given) in
    let ds : List Deed = cluster_deeds h in
    let os = found ds verdict.received.items in
    let one : length (reports (events_by (call_kind.Report at bytes) (reply_kind.Credited moment verdict signal m acked rs given))) ≡ 1 =
    judged-reported h at bytes (reply_kind.Credited moment verdict signal m acked rs given) is in
    let count : length (reports (events h)) + 1 ≡ length (reports (events h)) + length (reports (events_by (call_kind.Report at bytes) (reply_kind.Credited moment verdict signal m acked rs given))) =
    ap (λ n. length (reports (events h)) + n) (sym one) in
    steers-push h e before after (record {
      start = c.start;
      level = c.level ds s.clusters s.planned
          ∙ (ap (λ (x : State). state_after x ds before.bounds before.rtt moment verdict acked) s.level
          ∙ (ap (λ b. state_after (steered before.start h).state ds b before.rtt moment verdict acked) s.bounds
          ∙ ap (λ r. state_after (steered before.start h).state ds (settings h).bounds r moment verdict acked) s.round_trip));
      wanted = c.wanted ∙ ap (λ a. Some (wanted_by a)) (answer-is h moment verdict acked answered before after s c);
      clusters = subst (probes.StandsFor after.clusters.items) (append_assoc ds (map Note verdict.received.items) (takings os)) (c.clusters ds s.clusters);
      planned = ap (λ (l : Listed ℕ). l.items) c.planned ∙ (s.planned ∙ (sym (append-nil (rates ds)) ∙ sym (ap (λ xs. rates ds ++ xs) (rates-judged verdict.received.items os))));
      was_started = c.was_started ∙ (s.was_started ∙ or-no (started h));
      bounds = c.bounds ∙ s.bounds;
      rtt = c.rtt ∙ ap (λ r. round_trip r verdict.received.items moment) s.round_trip;
      short = c.short;
      gathers = subst (λ n. Gathers n after.level) count (c.gathers (length (reports (events h))) s.gathers);
      last = subst (λ n. ForSome after.level.last (λ last. last ≤ n)) f.when c.last;
    })

-- ---- a report that is not judged

pub report-refused : (h : List Entry) (at : ℕ) (bytes : Listed ℕ) (given : Reply) → given ≡ reply h (call_kind.Report at bytes)
    → ((moment : ℕ) (verdict : Judged) (signal : Signal) (m : ℤ) (acked : Option ℕ) (rs : Rates) (shares : Listed Share) → given ≡ reply_kind.Credited moment verdict signal m acked rs shares → ⊥)
    → IsQuiet (call_kind.Report at bytes) given
report-refused h at bytes given is never = by_time (nat_lt GREATEST_MOMENT at) is
  where
    when : ℕ
    when = later (now h) (call_kind.Report at bytes)

    by_read : (o : Result Feedback ReportFault) → given ≡ reported h when o → IsQuiet (call_kind.Report at bytes) given
    by_read (Err fault) is = subst (IsQuiet (call_kind.Report at bytes)) (sym is) (quiet-refused (call_kind.Report at bytes) when (cause_kind.Report fault))
    by_read (Ok report) is = absurd (never _ _ _ _ _ _ _ is)

    by_time : (b : Bool) → given ≡ cond b (reply_kind.Refused (now h) cause_kind.MomentTooLarge) (reply_in_time h when (call_kind.Report at bytes)) → IsQuiet (call_kind.Report at bytes) given
    by_time true is = subst (IsQuiet (call_kind.Report at bytes)) (sym is) (quiet-refused (call_kind.Report at bytes) (now h) cause_kind.MomentTooLarge)
    by_time false is = by_read (read_of bytes.items) is

-- ---- a packet

pub enqueue-quiet : (h : List Entry) (at : ℕ) (class : Class) (wire : Listed ℕ) (given : Reply) → given ≡ reply h (call_kind.Enqueue at class wire) → IsQuiet (call_kind.Enqueue at class wire) given
enqueue-quiet h at class wire given is = subst (IsQuiet (call_kind.Enqueue at class wire)) (sym is) (by_time (nat_lt GREATEST_MOMENT at))
  where
    when : ℕ
    when = later (now h) (call_kind.Enqueue at class wire)

    by_room : (b : Bool) → IsQuiet (call_kind.Enqueue at class wire) (cond b (reply_kind.Accepted when (length (accepted h))) (reply_kind.Refused when (cause_kind.QueueFull MOST_WAITING)))
    by_room true = quiet-accepted (call_kind.Enqueue at class wire) when (length (accepted h))
    by_room false = quiet-refused (call_kind.Enqueue at class wire) when (cause_kind.QueueFull MOST_WAITING)

    by_place : (o : Result ℕ WireFault) → IsQuiet (call_kind.Enqueue at class wire) (enqueued h when o)
    by_place (Err fault) = quiet-refused (call_kind.Enqueue at class wire) when (cause_kind.Wire fault)
    by_place (Ok place) = by_room (nat_lt (length (waiting h)) MOST_WAITING)

    by_time : (b : Bool) → IsQuiet (call_kind.Enqueue at class wire) (cond b (reply_kind.Refused (now h) cause_kind.MomentTooLarge) (reply_in_time h when (call_kind.Enqueue at class wire)))
    by_time true = quiet-refused (call_kind.Enqueue at class wire) (now h) cause_kind.MomentTooLarge
    by_time false = by_place (place_of (extension_id h) wire.items)
