-- What each kind of outcome does to the parts.
use Rattle.std.proofs.Common.{◌≡◌, ℕ, ◌+◌, ◌<◌, ◌≤◌, ◌||◌, Bool, true, false, List, [], ◌++◌, length, Ok, Err, Result, nat_lt, cond, refl, sym, ◌∙◌, ap, subst, arith, max, lt-ltb, le-ltb}
use Rattle.std.proofs.lemmas.List.{append-nil}
use Rattle.std.proofs.lemmas.Bool.Decides.{nat_tests}
use Rattle.std.proofs.lemmas.List.Elements.{All-nil}
use Rattle.gcc_units.specs.declared.class.Class.{Class}
use Rattle.gcc_units.specs.Listed.{Listed}
use Rattle.gcc_units.specs.declared.limits.TheConstants.{GREATEST_MOMENT, GREATEST_PACKET, LEAST_PACKET}
use Rattle.rtp_wire.specs.declared.packet.WireFault.{WireFault}
use Rattle.rtp_wire.specs.declared.packet.WireFault.TheVariants.{Short, Long}
use Rattle.rtp_wire.specs.Place.{place_of}
use Rattle.allocator.specs.declared.stream.Stream.{Stream}
use Rattle.pace_queues.specs.declared.ticket.Ticket.{Ticket}
use Rattle.sent_history.specs.Balance.{HasFewStatuses}
use Rattle.probe_clusters.specs.Deeds as probes
use Rattle.estimator.specs.Est.{Est}
use Rattle.estimator.specs.Kept as estimator
use Rattle.pacer.proofs.Records.{unsent-none}
use Rattle.pacer.specs.State.{State, advanced, accepted, tuned}
use Rattle.send_core.specs.declared.call.Call.{Call}
use Rattle.send_core.specs.declared.call.Call.TheVariants as call_kind
use Rattle.send_core.specs.declared.call.Cause.{Cause}
use Rattle.send_core.specs.declared.call.Reply.{Reply}
use Rattle.send_core.specs.declared.call.Reply.TheVariants as reply_kind
use Rattle.send_core.specs.declared.parts.Parts.{Parts}
use Rattle.send_core.specs.declared.settings.Settings.{Settings}
use Rattle.send_core.specs.History.{at_of, later, accepted_by, sent_by}
use Rattle.send_core.specs.Settings.{settings_by, streams_by, starts_by}
use Rattle.send_core.specs.Reports.{events_by, deeds_by}
use Rattle.send_core.specs.Estimates.{est_by}
use Rattle.send_core.specs.Stands.{Steps, pacing_for}

-- ---- a packet that can be read is small

long_fails : (b c : Bool) (rest : Result ℕ WireFault) (place : ℕ) → cond b (Err Short) (cond c (Err Long) rest) ≡ Ok place → c ≡ false
long_fails true c rest place is = absurd cc
long_fails false true rest place is = absurd cc
long_fails false false rest place is = refl

pub place_of-small : (id : ℕ) (bytes : List ℕ) (place : ℕ) → place_of id bytes ≡ Ok place → length bytes ≤ GREATEST_PACKET
unfolding place_of
place_of-small id bytes place is =
    let short : nat_lt GREATEST_PACKET (length bytes) ≡ false = long_fails (nat_lt (length bytes) LEAST_PACKET) (nat_lt GREATEST_PACKET (length bytes)) _ place is in
    grind (arith, nat_tests)

-- ---- the moment of a call

pub later-late : (moment : ℕ) (call : Call) → GREATEST_MOMENT < at_of call → later moment call ≡ moment
later-late moment call late = rw (lt-ltb GREATEST_MOMENT (at_of call) late) refl

pub later-in_time : (moment : ℕ) (call : Call) → at_of call ≤ GREATEST_MOMENT → later moment call ≡ max moment (at_of call)
later-in_time moment call early = rw (le-ltb GREATEST_MOMENT (at_of call) early) refl

-- ---- a call that changes nothing but the moment and what follows

pub record ChangesNothing (call : Call) (given : Reply) : Type 0 where
  pub accepts : accepted_by call given ≡ []
  pub sends : sent_by given ≡ []
  pub events : events_by call given ≡ []
  pub estimates : (s : Settings) (ds : List probes.Deed) (e : Est) → est_by s ds e call given ≡ e
  pub deeds : (b : Bool) (ds : List probes.Deed) → deeds_by b ds call given ≡ []
  pub streams : (ss : List Stream) → streams_by ss call given ≡ ss
  pub settings : (s : Settings) → settings_by s call given ≡ s
  pub starts : starts_by call given ≡ false

pub refused-nothing : (call : Call) (moment : ℕ) (cause : Cause) → ChangesNothing call (reply_kind.Refused moment cause)
refused-nothing (call_kind.Enqueue at class wire) moment cause = record { accepts = refl; sends = refl; events = refl; estimates = λ s ds e. refl; deeds = λ b ds. refl; streams = λ ss. refl; settings = λ s. refl; starts = refl }
refused-nothing (call_kind.Pace at) moment cause = record { accepts = refl; sends = refl; events = refl; estimates = λ s ds e. refl; deeds = λ b ds. refl; streams = λ ss. refl; settings = λ s. refl; starts = refl }
refused-nothing (call_kind.Report at bytes) moment cause = record { accepts = refl; sends = refl; events = refl; estimates = λ s ds e. refl; deeds = λ b ds. refl; streams = λ ss. refl; settings = λ s. refl; starts = refl }
refused-nothing (call_kind.Configure at change) moment cause = record { accepts = refl; sends = refl; events = refl; estimates = λ s ds e. refl; deeds = λ b ds. refl; streams = λ ss. refl; settings = λ s. refl; starts = refl }

pub or-no : (b : Bool) → b ≡ (b || false)
or-no true = refl
or-no false = refl

-- parts whose time passed, and whose pacer was tuned
abbrev pub only_moved : Parts → ℕ → Parts
only_moved p moment = record p { pacer = tuned (advanced p.pacer moment) (pacing_for p.settings p.estimator) }

steps_moved : (call : Call) (given : Reply) (p : Parts) (moment : ℕ) → ChangesNothing call given → moment ≡ later p.pacer.moment call → Steps call given p (only_moved p moment)
steps_moved call given p moment n clock = record {
  count = rw n.accepts (omega arith);
  clock = clock;
  queue = rw (n.accepts, n.sends) (sym (append-nil p.pacer.waiting) ∙ sym (unsent-none (p.pacer.waiting ++ [])));
  media = rw n.sends refl;
  padding = rw n.sends refl;
  began = rw n.sends (or-no p.pacer.began);
  pacing = refl;
  rate = refl;
  packets = λ es s. rw n.events (rw append-nil s);
  estimates = λ e ds s t. subst (estimator.StandsFor p.estimator) (sym (n.estimates p.settings ds e)) s;
  clusters = λ ds s. subst (λ xs. probes.StandsFor p.clusters.items (ds ++ xs)) (sym (n.deeds p.started ds)) (rw append-nil s);
  streams = sym (n.streams p.streams);
  settings = sym (n.settings p.settings);
  started = rw n.starts (or-no p.started);
  few_statuses = rw n.events (All-nil HasFewStatuses);
}

-- refused by its moment
pub steps_late : (call : Call) (moment : ℕ) (cause : Cause) (given : Reply) (p q : Parts) → GREATEST_MOMENT < at_of call → given ≡ reply_kind.Refused moment cause
    → q ≡ only_moved p p.pacer.moment → Steps call given p q
steps_late call moment cause given p q late is moved =
    rw (is, moved) (steps_moved call (reply_kind.Refused moment cause) p p.pacer.moment (refused-nothing call moment cause) (sym (later-late p.pacer.moment call late)))

-- refused in time
pub steps_refused : (call : Call) (moment : ℕ) (cause : Cause) (given : Reply) (p x q : Parts) → at_of call ≤ GREATEST_MOMENT → given ≡ reply_kind.Refused moment cause
    → x ≡ record p { pacer = advanced p.pacer (max p.pacer.moment (at_of call)) }
    → q ≡ record x { pacer = tuned x.pacer (pacing_for x.settings x.estimator) } → Steps call given p q
steps_refused call moment cause given p x q early is moved tunes =
    rw (is, tunes, moved) (steps_moved call (reply_kind.Refused moment cause) p (max p.pacer.moment (at_of call)) (refused-nothing call moment cause) (sym (later-in_time p.pacer.moment call early)))

-- ---- a packet that is accepted

abbrev pub new_ticket : ℕ → Class → ℕ → ℕ → Ticket
new_ticket index class size moment = record { index = index; class = class; size = size; accepted_at = moment }

pub steps_accepted : (at : ℕ) (class : Class) (wire : Listed ℕ) (size moment moment_two index : ℕ) (s : State) (p x q : Parts)
    → at ≤ GREATEST_MOMENT → size ≡ length wire.items
    → x ≡ record p { pacer = advanced p.pacer (max p.pacer.moment at) } → moment ≡ x.pacer.moment → index ≡ x.accepted
    → s ≡ accepted x.pacer (new_ticket index class size moment)
    → q ≡ record x { accepted = x.accepted + 1; pacer = tuned s (pacing_for x.settings x.estimator) } → moment_two ≡ q.pacer.moment
    → Steps (call_kind.Enqueue at class wire) (reply_kind.Accepted moment_two index) p q
steps_accepted at class wire size moment moment_two index s p x q early sized moved here indexed waits tunes then =
    rw (then, tunes, waits, here, indexed, moved, sized) (record {
      count = refl;
      clock = sym (later-in_time p.pacer.moment (call_kind.Enqueue at class wire) early);
      queue = sym (unsent-none _);
      media = refl;
      padding = refl;
      began = or-no p.pacer.began;
      pacing = refl;
      rate = refl;
      packets = λ es s. rw append-nil s;
      estimates = λ e ds s t. s;
      clusters = λ ds s. rw append-nil s;
      streams = refl;
      settings = refl;
      started = or-no p.started;
      few_statuses = All-nil HasFewStatuses;
    })

-- refused where as many wait as may
pub steps_full : (call : Call) (moment : ℕ) (cause : Cause) (given : Reply) (s : State) (p x q : Parts) → at_of call ≤ GREATEST_MOMENT → given ≡ reply_kind.Refused moment cause
    → x ≡ record p { pacer = advanced p.pacer (max p.pacer.moment (at_of call)) } → s ≡ x.pacer
    → q ≡ record x { pacer = tuned s (pacing_for x.settings x.estimator) } → Steps call given p q
steps_full call moment cause given s p x q early is moved full tunes =
    steps_refused call moment cause given p x q early is moved (tunes ∙ ap (λ t. record x { pacer = tuned t (pacing_for x.settings x.estimator) }) full)
