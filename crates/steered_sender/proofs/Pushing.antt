-- The steering stands for a history with one more entry.
use Rattle.std.proofs.Common.{◌≡◌, ℕ, ◌+◌, ◌≤◌, ◌==◌, ◌||◌, Bool, true, false, cond, Option, None, List, [], ◌∷◌, ◌++◌, length, map, max, refl, sym, ◌∙◌, ap, subst, arith, nat_lt, length-append}
use Rattle.std.specs.Option.{ForSome}
use Rattle.std.proofs.lemmas.List.{append-nil}
use Rattle.std.proofs.lemmas.Grind.{flat_map-append}
use Rattle.gcc_units.proofs.Walk.{walk-push}
use Rattle.gcc_units.specs.declared.limits.TheConstants.{GREATEST_MOMENT}
use Rattle.gcc_units.specs.declared.shared_types.Credit.{Credit}
use Rattle.twcc_report.specs.Spelling.{Feedback}
use Rattle.sent_history.specs.Events.{report_in, reports}
use Rattle.probe_clusters.specs.declared.cluster.Cluster.{Cluster}
use Rattle.probe_clusters.specs.declared.probes.Outcome.{Outcome}
use Rattle.probe_clusters.specs.Deeds.{Deed, Plan, Note, rate_by, rates, takings}
use Rattle.probe_clusters.specs.Deeds as probes
use Rattle.pacer.specs.declared.sent.Sent.{Sent}
use Rattle.pacer.specs.declared.sent.Kind.{Kind}
use Rattle.pacer.specs.declared.sent.Kind.TheVariants as kind
use Rattle.pacer.specs.Course.{probe_as, probe_by, probes_of}
use Rattle.live_sender.proofs.Living.{judged-paced}
use Rattle.level_control.specs.declared.TheConstants.{GREATEST_ROUND_TRIP}
use Rattle.level_control.specs.Rule.{Gathers}
use Rattle.send_core.specs.declared.call.Call.{Call}
use Rattle.send_core.specs.declared.call.Call.TheVariants as call_kind
use Rattle.send_core.specs.declared.call.Cause.{Cause}
use Rattle.send_core.specs.declared.call.Change.{Change}
use Rattle.send_core.specs.declared.call.Rates.{Rates}
use Rattle.send_core.specs.declared.call.Reply.{Reply}
use Rattle.send_core.specs.declared.call.Reply.TheVariants as reply_kind
use Rattle.send_core.specs.declared.call.Entry.{Entry}
use Rattle.gcc_units.specs.Listed.{Listed}
use Rattle.gcc_units.specs.declared.shared_types.Share.{Share}
use Rattle.send_core.specs.History.{entry, at_of, later, now}
use Rattle.send_core.specs.Settings.{settings, settings_by, settings_after, started, starts_by, is_some, plans}
use Rattle.send_core.specs.Reports.{events, events_by, cluster_deeds, deeds_by}
use Rattle.send_core.specs.Estimates.{est, est_by}
use Rattle.send_core.proofs.Pushes.{now-push, settings-push, started-push, events-push, cluster_deeds-push, est-push}
use Rattle.steered_sender.specs.declared.steering.Steering.{Steering}
use Rattle.steered_sender.specs.declared.steering.TheConstants.{CONTROL_CALLER}
use Rattle.steered_sender.specs.Steered.{Steered, steered_by, begun, steered, set_by}
use Rattle.steered_sender.specs.Steps.{Steers, Changes, bounds_with}

-- what the entry makes of the control
abbrev pub next_steered : ℕ → List Entry → Entry → Steered
next_steered start h e = steered_by (est h) (cluster_deeds h) (settings h) (steered start h) e.caller e.call e.reply

abbrev pub new_deeds : List Entry → Entry → List Deed
new_deeds h e = deeds_by (started h) (cluster_deeds h) e.call e.reply

pub steered-push : (start : ℕ) (h : List Entry) (e : Entry) → steered start (h ++ e ∷ []) ≡ next_steered start h e
steered-push start h e =
    walk-push (λ before (s : Steered) (x : Entry). steered_by (est before) (cluster_deeds before) (settings before) s x.caller x.call x.reply) (begun start) h e

-- how many reports were judged
pub reports-push : (h : List Entry) (e : Entry) → length (reports (events (h ++ e ∷ []))) ≡ length (reports (events h)) + length (reports (events_by e.call e.reply))
reports-push h e =
    ap (λ es. length (reports es)) (events-push h e)
    ∙ (ap (length {A = Feedback}) (flat_map-append report_in (events h) (events_by e.call e.reply)) ∙ length-append (reports (events h)) (reports (events_by e.call e.reply)))

pub rates-append : (ds es : List Deed) → rates (ds ++ es) ≡ rates ds ++ rates es
rates-append ds es = flat_map-append rate_by ds es

pub rates-planned : (rs : List ℕ) → rates (map Plan rs) ≡ rs
rates-planned [] = refl
rates-planned (r ∷ rs) = ap (λ xs. r ∷ xs) (rates-planned rs)

rates-noted : (cs : List Credit) → rates (map Note cs) ≡ []
rates-noted [] = refl
rates-noted (c ∷ cs) = rates-noted cs

rates-taken : (os : List Outcome) → rates (takings os) ≡ []
rates-taken [] = refl
rates-taken (o ∷ os) = rates-taken os

-- credits and results plan nothing
pub rates-judged : (cs : List Credit) (os : List Outcome) → rates (map Note cs ++ takings os) ≡ []
rates-judged cs os = rates-append (map Note cs) (takings os) ∙ (ap (λ rs. rs ++ rates (takings os)) (rates-noted cs) ∙ rates-taken os)

-- what an entry has to have done
pub record Moves (h : List Entry) (e : Entry) (before after : Steering) : Type 0 where
  pub start : after.start ≡ before.start
  pub level : after.level ≡ (next_steered before.start h e).state
  pub wanted : after.wanted ≡ (next_steered before.start h e).wanted
  pub clusters : probes.StandsFor after.clusters.items (cluster_deeds h ++ new_deeds h e)
  pub planned : after.planned.items ≡ rates (cluster_deeds h) ++ rates (new_deeds h e)
  pub was_started : after.started ≡ (started h || starts_by e.call e.reply)
  pub bounds : after.bounds ≡ (settings_by (settings h) e.call e.reply).bounds
  pub rtt : after.rtt ≡ (est_by (settings h) (cluster_deeds h) (est h) e.call e.reply).rtt
  pub short : after.rtt ≤ GREATEST_ROUND_TRIP
  pub gathers : Gathers (length (reports (events h)) + length (reports (events_by e.call e.reply))) after.level
  pub last : ForSome after.level.last (λ last. last ≤ later (now h) e.call)

pub steers-push : (h : List Entry) (e : Entry) (before after : Steering) → Moves h e before after → Steers after (h ++ e ∷ [])
steers-push h e before after m =
    let same : steered after.start (h ++ e ∷ []) ≡ next_steered before.start h e = ap (λ n. steered n (h ++ e ∷ [])) m.start ∙ steered-push before.start h e in
    record {
      level = m.level ∙ sym (ap (λ (s : Steered). s.state) same);
      wanted = m.wanted ∙ sym (ap (λ (s : Steered). s.wanted) same);
      clusters = subst (probes.StandsFor after.clusters.items) (sym (cluster_deeds-push h e)) m.clusters;
      planned = m.planned ∙ (sym (rates-append (cluster_deeds h) (new_deeds h e)) ∙ sym (ap rates (cluster_deeds-push h e)));
      was_started = m.was_started ∙ sym (started-push h e);
      bounds = m.bounds ∙ sym (ap (λ s. s.bounds) (settings-push h e));
      round_trip = m.rtt ∙ sym (ap (λ x. x.rtt) (est-push h e));
      short = m.short;
      gathers = subst (λ n. Gathers n after.level) (sym (reports-push h e)) m.gathers;
      last = subst (λ n. ForSome after.level.last (λ last. last ≤ n)) (sym (now-push h e)) m.last;
    }

-- ---- moments do not go back

pub later-least : (n : ℕ) (call : Call) → n ≤ later n call
later-least n call = by_test (nat_lt GREATEST_MOMENT (at_of call))
  where
    by_test : (b : Bool) → n ≤ cond b n (max n (at_of call))
    by_test true = omega arith
    by_test false = omega arith

pub last-later : (o : Option ℕ) (n m : ℕ) → n ≤ m → ForSome o (λ last. last ≤ n) → ForSome o (λ last. last ≤ m)
last-later o n m le h = λ last is. let early : last ≤ n = h last is in omega arith

pub or-no : (b : Bool) → b ≡ (b || false)
or-no true = refl
or-no false = refl

-- ---- an entry that moves nothing but time

pub record IsQuiet (call : Call) (given : Reply) : Type 0 where
  pub steers_on : (h : List Entry) (start caller : ℕ) → next_steered start h (entry caller call given) ≡ record { state = (steered start h).state; wanted = None }
  pub no_deeds : (b : Bool) (ds : List Deed) → deeds_by b ds call given ≡ []
  pub no_start : starts_by call given ≡ false
  pub same_set : (h : List Entry) → settings_by (settings h) call given ≡ settings h
  pub same_est : (h : List Entry) → est_by (settings h) (cluster_deeds h) (est h) call given ≡ est h
  pub no_reports : reports (events_by call given) ≡ []

pub quiet-moves : (h : List Entry) (caller : ℕ) (call : Call) (given : Reply) (before after : Steering) → IsQuiet call given → Steers before h
    → after ≡ record before { wanted = None } → Steers after (h ++ entry caller call given ∷ [])
quiet-moves h caller call given before after q s is = rw is (
    steers-push h (entry caller call given) before (record before { wanted = None }) (record {
      start = refl;
      level = s.level ∙ sym (ap (λ (x : Steered). x.state) (q.steers_on h before.start caller));
      wanted = sym (ap (λ (x : Steered). x.wanted) (q.steers_on h before.start caller));
      clusters = rw (q.no_deeds (started h) (cluster_deeds h), append-nil (cluster_deeds h)) s.clusters;
      planned = s.planned ∙ (sym (append-nil (rates (cluster_deeds h))) ∙ sym (ap (λ ds. rates (cluster_deeds h) ++ rates ds) (q.no_deeds (started h) (cluster_deeds h))));
      was_started = s.was_started ∙ (or-no (started h) ∙ sym (ap (λ b. started h || b) q.no_start));
      bounds = s.bounds ∙ sym (ap (λ t. t.bounds) (q.same_set h));
      rtt = s.round_trip ∙ sym (ap (λ x. x.rtt) (q.same_est h));
      short = s.short;
      gathers = let none : length (reports (events h)) + length (reports (events_by call given)) ≡ length (reports (events h)) = rw q.no_reports (omega arith) in
          subst (λ n. Gathers n before.level) (sym none) s.gathers;
      last = last-later before.level.last (now h) (later (now h) call) (later-least (now h) call) s.last;
    }))

pub quiet-refused : (call : Call) (moment : ℕ) (cause : Cause) → IsQuiet call (reply_kind.Refused moment cause)
quiet-refused (call_kind.Enqueue at class wire) moment cause = record { steers_on = λ h start caller. refl; no_deeds = λ b ds. refl; no_start = refl; same_set = λ h. refl; same_est = λ h. refl; no_reports = refl }
quiet-refused (call_kind.Pace at) moment cause = record { steers_on = λ h start caller. refl; no_deeds = λ b ds. refl; no_start = refl; same_set = λ h. refl; same_est = λ h. refl; no_reports = refl }
quiet-refused (call_kind.Report at bytes) moment cause = record { steers_on = λ h start caller. refl; no_deeds = λ b ds. refl; no_start = refl; same_set = λ h. refl; same_est = λ h. refl; no_reports = refl }
quiet-refused (call_kind.Configure at change) moment cause = record { steers_on = λ h start caller. refl; no_deeds = λ b ds. refl; no_start = refl; same_set = λ h. refl; same_est = λ h. refl; no_reports = refl }

pub quiet-accepted : (call : Call) (moment index : ℕ) → IsQuiet call (reply_kind.Accepted moment index)
quiet-accepted (call_kind.Enqueue at class wire) moment index = record { steers_on = λ h start caller. refl; no_deeds = λ b ds. refl; no_start = refl; same_set = λ h. refl; same_est = λ h. refl; no_reports = refl }
quiet-accepted (call_kind.Pace at) moment index = record { steers_on = λ h start caller. refl; no_deeds = λ b ds. refl; no_start = refl; same_set = λ h. refl; same_est = λ h. refl; no_reports = refl }
quiet-accepted (call_kind.Report at bytes) moment index = record { steers_on = λ h start caller. refl; no_deeds = λ b ds. refl; no_start = refl; same_set = λ h. refl; same_est = λ h. refl; no_reports = refl }
quiet-accepted (call_kind.Configure at change) moment index = record { steers_on = λ h start caller. refl; no_deeds = λ b ds. refl; no_start = refl; same_set = λ h. refl; same_est = λ h. refl; no_reports = refl }

-- ---- an accepted change

pub changed-moves : (h : List Entry) (caller at : ℕ) (change : Change) (moment : ℕ) (told : Rates) (shares : Listed Share) (own : Bool) (before after : Steering)
    → Steers before h → Changes own change before after → (caller == CONTROL_CALLER) ≡ own
    → Steers after (h ++ entry caller (call_kind.Configure at change) (reply_kind.Configured moment told shares) ∷ [])
changed-moves h caller at change moment told shares own before after s c is =
    let bounds_are : after.bounds ≡ (settings_after (settings h) change).bounds = c.bounds ∙ ap (λ b. bounds_with b change) s.bounds in
    let planned_are : plans before.started change ≡ plans (started h) change = ap (λ b. plans b change) s.was_started in
    steers-push h (entry caller (call_kind.Configure at change) (reply_kind.Configured moment told shares)) before after (record {
      start = c.start;
      level = c.level ∙ (ap (λ x. set_by x own change after.bounds) s.level
          ∙ (ap (λ b. set_by (steered before.start h).state own change b) bounds_are ∙ ap (λ b. set_by (steered before.start h).state b change (settings_after (settings h) change).bounds) (sym is)));
      wanted = c.wanted;
      clusters = subst (λ rs. probes.StandsFor after.clusters.items (cluster_deeds h ++ map Plan rs)) planned_are (c.clusters (cluster_deeds h) s.clusters);
      planned = c.planned ∙ (ap (λ rs. rs ++ plans before.started change) s.planned ∙ (ap (λ rs. rates (cluster_deeds h) ++ rs) planned_are
          ∙ sym (ap (λ rs. rates (cluster_deeds h) ++ rs) (rates-planned (plans (started h) change)))));
      was_started = c.was_started ∙ ap (λ b. b || is_some change.start) s.was_started;
      bounds = bounds_are;
      rtt = c.rtt ∙ s.round_trip;
      short = subst (λ n. n ≤ GREATEST_ROUND_TRIP) (sym c.rtt) s.short;
      gathers = let none : length (reports (events h)) + 0 ≡ length (reports (events h)) = omega arith in
          subst (λ n. Gathers n after.level) (sym none) (c.gathers (length (reports (events h))) s.gathers);
      last = subst (λ o. ForSome o (λ last. last ≤ later (now h) (call_kind.Configure at change))) (sym c.last)
          (last-later before.level.last (now h) (later (now h) (call_kind.Configure at change)) (later-least (now h) (call_kind.Configure at change)) s.last);
    })

-- ---- a pace

pub paced-moves : (h : List Entry) (caller at moment : ℕ) (records : Listed Sent) (before after : Steering) → Steers before h → before.wanted ≡ None
    → after ≡ record before { clusters = after.clusters } → ((ds : List Deed) → probes.StandsFor before.clusters.items ds → probes.StandsFor after.clusters.items (ds ++ probes_of moment records.items))
    → Steers after (h ++ entry caller (call_kind.Pace at) (reply_kind.Paced moment records) ∷ [])
paced-moves h caller at moment records before after s none is follows =
    let e : Entry = entry caller (call_kind.Pace at) (reply_kind.Paced moment records) in
    let moved : Moves h e before (record before { clusters = after.clusters }) = record {
      start = refl;
      level = s.level;
      wanted = none;
      clusters = follows (cluster_deeds h) s.clusters;
      planned = s.planned ∙ (sym (append-nil (rates (cluster_deeds h))) ∙ sym (ap (λ rs. rates (cluster_deeds h) ++ rs) (rates-probed moment records.items)));
      was_started = s.was_started ∙ or-no (started h);
      bounds = s.bounds;
      rtt = s.round_trip;
      short = s.short;
      gathers = subst (λ n. Gathers (length (reports (events h)) + n) before.level) (sym (judged-paced at (reply_kind.Paced moment records)))
          (let plus : length (reports (events h)) + 0 ≡ length (reports (events h)) = omega arith in subst (λ n. Gathers n before.level) (sym plus) s.gathers);
      last = last-later before.level.last (now h) (later (now h) (call_kind.Pace at)) (later-least (now h) (call_kind.Pace at)) s.last;
    } in
    subst (λ (x : Steering). Steers x (h ++ e ∷ [])) (sym is) (steers-push h e before (record before { clusters = after.clusters }) moved)
  where
    rates-probed : (moment : ℕ) (rs : List Sent) → rates (probes_of moment rs) ≡ []
    rates-probed moment [] = refl
    rates-probed moment (r ∷ rs) = rates-append (probe_by moment r) (probes_of moment rs) ∙ (ap (λ xs. xs ++ rates (probes_of moment rs)) (none-planned r.kind r.size) ∙ rates-probed moment rs)
      where
        none-planned : (k : Kind) (size : ℕ) → rates (probe_as moment k size) ≡ []
        none-planned kind.Audio size = refl
        none-planned kind.Media size = refl
        none-planned (kind.Probe id) size = refl
        none-planned kind.Padding size = refl

-- where nothing is wanted, the steering stays as it is
pub quiet-stays : (h : List Entry) (caller : ℕ) (call : Call) (given : Reply) (s : Steering) → IsQuiet call given → Steers s h → s.wanted ≡ None → Steers s (h ++ entry caller call given ∷ [])
quiet-stays h caller call given s q steers none = quiet-moves h caller call given s s q steers (ap (λ o. record s { wanted = o }) none)

-- room for more plans changes nothing
pub with-room : (h : List Entry) (s : Steering) (cs : Listed Cluster) (ps : Listed ℕ) → Steers s h → cs.items ≡ s.clusters.items → ps.items ≡ s.planned.items → Steers (record s { clusters = cs; planned = ps }) h
with-room h s cs ps steers same same_rates = record {
  level = steers.level;
  wanted = steers.wanted;
  clusters = subst (λ xs. probes.StandsFor xs (cluster_deeds h)) (sym same) steers.clusters;
  planned = same_rates ∙ steers.planned;
  was_started = steers.was_started;
  bounds = steers.bounds;
  round_trip = steers.round_trip;
  short = steers.short;
  gathers = steers.gathers;
  last = steers.last;
}
