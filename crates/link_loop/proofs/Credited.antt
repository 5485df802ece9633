-- The credits of a history are the statuses of its reports that say received.
use Rattle.std.proofs.Common.{◌≡◌, ℕ, ℤ, pos, ◌+◌, ◌%◌, ◌<◌, ◌≤◌, Bool, true, false, cond, nat_lt, Option, Some, None, List, [], ◌∷◌, ◌++◌, length, map, All, refl, sym, ◌∙◌, ap, ap₂, subst, append-nil, append_assoc, arith, length-append}
use Rattle.std.specs.Prelude.{Result, Ok, Err}
use Rattle.std.proofs.lemmas.Int.{ints}
use Rattle.std.proofs.lemmas.Bool.{le-ltb}
use Rattle.std.proofs.lemmas.List.{map-append}
use Rattle.std.proofs.lemmas.List.Elements.{All-nil}
use Rattle.gcc_units.specs.Listed.{Listed, bare}
use Rattle.gcc_units.proofs.Walk.{flat_map-push}
use Rattle.gcc_units.specs.declared.limits.TheConstants.{GREATEST_MOMENT, KEPT_PACKETS, MOST_WAITING}
use Rattle.gcc_units.specs.declared.shared_types.Credit.{Credit}
use Rattle.rtp_wire.specs.declared.packet.WireFault.{WireFault}
use Rattle.rtp_wire.specs.Place.{place_of}
use Rattle.twcc_report.specs.Spelling.{Feedback}
use Rattle.twcc_report.specs.Reading.{read_of}
use Rattle.twcc_report.specs.Canonical.{canonical}
use Rattle.sent_history.specs.Events.{Event, reported}
use Rattle.sent_history.specs.Crediting.{Account, account, after, judged, verdicts, credits_in}
use Rattle.sent_history.specs.Crediting as crediting
use Rattle.sent_history.specs.Pushes.{account-push, account_packets}
use Rattle.pacer.specs.declared.sent.Sent.{Sent}
use Rattle.send_core.specs.declared.call.Call.{Call}
use Rattle.send_core.specs.declared.call.Call.TheVariants as call
use Rattle.send_core.specs.declared.call.Reply.{Reply}
use Rattle.send_core.specs.declared.call.Reply.TheVariants as given
use Rattle.send_core.specs.declared.call.Cause.TheVariants as cause
use Rattle.send_core.specs.declared.call.Entry.{Entry}
use Rattle.send_core.specs.History.{entry, at_of, later, now, accepted, sent, waiting}
use Rattle.send_core.specs.Settings.{fault_of}
use Rattle.send_core.specs.Reports.{added_of, reported_of, events_by, events}
use Rattle.send_core.specs.Reply.{extension_id, enqueued, credited, configured, standing, reply_in_time, reply}
use Rattle.send_core.specs.Reply as core
use Rattle.send_laws.specs.Credits.{credits}
use Rattle.send_laws.specs.InRange.{all_credits}
use Rattle.send_laws.proofs.Counting.{packets-sent}
use Rattle.link_path.specs.Told.{told, all_told, statuses_in}
use Rattle.link_path.proofs.Telling.{told-length}
use Rattle.link_loop.specs.Kept.{IsRead}
use Rattle.link_loop.specs.ClosedLoop.{pair_of, received_from}
use Rattle.link_loop.proofs.Verdicts.{received-append, GoesOn, pairs-are, still-below, IsSmall, unwrapped-small}

-- ---- calls that hand in no report

abbrev pub HasNoReport : Call → Type 0
HasNoReport (call.Report at bytes) = ⊥
HasNoReport (call.Enqueue at class wire) = Unit {0}
HasNoReport (call.Pace at) = Unit {0}
HasNoReport (call.Configure at change) = Unit {0}

-- the account has the same credits and the same reference
record IsStill (es fs : List Event) : Type 0 where
  credited : (account fs).credited ≡ (account es).credited
  reference : (account fs).reference ≡ (account es).reference

record CreditsNothing (h : List Entry) (c : Call) (r : Reply) : Type 0 where
  none : credits r ≡ []
  still : IsStill (events h) (events h ++ events_by c r)

still-nothing : (es : List Event) → IsStill es (es ++ [])
still-nothing es =
    record { credited = ap (λ (fs : List Event). (account fs).credited) (append-nil es); reference = ap (λ (fs : List Event). (account fs).reference) (append-nil es) }

still-added : (moment : ℕ) (es : List Event) (records : List Sent) → IsStill es (es ++ map (added_of moment) records)
still-added moment es [] = still-nothing es
still-added moment es (r ∷ rs) =
    let one : account (es ++ added_of moment r ∷ []) ≡ after (account es) (added_of moment r) = account-push es (added_of moment r) in
    let more : IsStill (es ++ added_of moment r ∷ []) ((es ++ added_of moment r ∷ []) ++ map (added_of moment) rs) = still-added moment (es ++ added_of moment r ∷ []) rs in
    let all : (es ++ added_of moment r ∷ []) ++ map (added_of moment) rs ≡ es ++ map (added_of moment) (r ∷ rs) = append_assoc es (added_of moment r ∷ []) (map (added_of moment) rs) in
    subst (IsStill es) all
    (record { credited = more.credited ∙ ap (λ (a : Account). a.credited) one; reference = more.reference ∙ ap (λ (a : Account). a.reference) one })

nothing : (h : List Entry) (c : Call) (r : Reply) → credits r ≡ [] → events_by c r ≡ [] → CreditsNothing h c r
nothing h c r none no_events =
    record { none = none; still = subst (λ (fs : List Event). IsStill (events h) (events h ++ fs)) (sym no_events) (still-nothing (events h)) }

nothing-in_time : (h : List Entry) (m : ℕ) (c : Call) → HasNoReport c → CreditsNothing h c (reply_in_time h m c)
nothing-in_time h m (call.Enqueue at class wire) quiet = by_place (place_of (extension_id h) wire.items)
  where
    c : Call
    c = call.Enqueue at class wire

    by_test : (b : Bool) → CreditsNothing h c (cond b (given.Accepted m (length (accepted h))) (given.Refused m (cause.QueueFull MOST_WAITING)))
    by_test true = nothing h c (given.Accepted m (length (accepted h))) refl refl
    by_test false = nothing h c (given.Refused m (cause.QueueFull MOST_WAITING)) refl refl

    by_place : (o : Result ℕ WireFault) → CreditsNothing h c (enqueued h m o)
    by_place (Err fault) = nothing h c (given.Refused m (cause.Wire fault)) refl refl
    by_place (Ok place) = by_test (nat_lt (length (waiting h)) MOST_WAITING)
nothing-in_time h m (call.Pace at) quiet = record { none = refl; still = still-added m (events h) _ }
nothing-in_time h m (call.Report at bytes) quiet = absurd quiet
nothing-in_time h m (call.Configure at change) quiet = by_check (fault_of (standing h) change)
  where
    c : Call
    c = call.Configure at change

    by_check : (o : Option ℕ) → CreditsNothing h c (configured h m change o)
    by_check None = record { none = refl; still = still-nothing (events h) }
    by_check (Some check) = record { none = refl; still = still-nothing (events h) }

nothing-by : (h : List Entry) (c : Call) → HasNoReport c → CreditsNothing h c (reply h c)
nothing-by h c quiet = by_time (nat_lt GREATEST_MOMENT (at_of c))
  where
    refused : (c : Call) → HasNoReport c → events_by c (given.Refused (now h) cause.MomentTooLarge) ≡ []
    refused (call.Enqueue at class wire) quiet_ = refl
    refused (call.Pace at) quiet_ = refl
    refused (call.Report at bytes) quiet_ = absurd quiet_
    refused (call.Configure at change) quiet_ = refl

    by_time : (b : Bool) → CreditsNothing h c (cond b (given.Refused (now h) cause.MomentTooLarge) (reply_in_time h (later (now h) c) c))
    by_time true = nothing h c (given.Refused (now h) cause.MomentTooLarge) refl (refused c quiet)
    by_time false = nothing-in_time h (later (now h) c) c quiet

-- ---- the call of a report

-- its bytes spell the report
record Hands (c : Call) (f : Feedback) (h : List Entry) : Type 0 where
  gives : credits (reply h c) ≡ credits_in (judged (events h) f)
  adds : events_by c (reply h c) ≡ reported f ∷ []

hands : (h : List Entry) (at : ℕ) (bytes : Listed ℕ) (f : Feedback) → at ≤ GREATEST_MOMENT → read_of bytes.items ≡ Ok f → Hands (call.Report at bytes) f h
hands h at bytes f early reads =
    record { gives = ap credits is; adds = ap (events_by c) is ∙ ap reported_of reads }
  where
    c : Call
    c = call.Report at bytes

    m : ℕ
    m = later (now h) c

    by_time : (b : Bool) → b ≡ false → cond b (given.Refused (now h) cause.MomentTooLarge) (reply_in_time h m c) ≡ credited h m (crediting.told (judged (events h) f))
    by_time true e = absurd cc
    by_time false e = ap (core.reported h m) reads

    is : reply h c ≡ credited h m (crediting.told (judged (events h) f))
    is = by_time (nat_lt GREATEST_MOMENT at) (le-ltb GREATEST_MOMENT at early)

-- ---- what was credited

-- the reference counts from 0 on
pub record IsNatural (f : Feedback) : Type 0 where
  pub value : ℕ
  pub is : f.reference ≡ pos value

-- the credits are the statuses that say received, all credited numbers were told of, and the last reference is in its range
pub record IsCredited (reports : List Feedback) (h : List Entry) : Type 0 where
  pub pairs : map pair_of (all_credits h) ≡ received_from 0 (all_told reports)
  pub below : All (λ n. n < length (statuses_in reports)) (account (events h)).credited
  pub reference : IsSmall (account (events h)).reference

-- so it is where no more packets were sent than are kept
abbrev pub MayBeCredited : List Feedback → List Entry → Type 0
MayBeCredited reports h = length (sent h) ≤ KEPT_PACKETS → All IsRead reports → IsCredited reports h

events-push : (h : List Entry) (caller : ℕ) (c : Call) → events (h ++ entry caller c (reply h c) ∷ []) ≡ events h ++ events_by c (reply h c)
events-push h caller c = flat_map-push (λ (e : Entry). events_by e.call e.reply) h (entry caller c (reply h c))

credits-push : (h : List Entry) (caller : ℕ) (c : Call) → all_credits (h ++ entry caller c (reply h c) ∷ []) ≡ all_credits h ++ credits (reply h c)
credits-push h caller c = flat_map-push (λ (e : Entry). credits e.reply) h (entry caller c (reply h c))

pub credited-quiet : (reports : List Feedback) (h : List Entry) (caller : ℕ) (c : Call) → HasNoReport c → IsCredited reports h → IsCredited reports (h ++ entry caller c (reply h c) ∷ [])
credited-quiet reports h caller c quiet is =
    let nothing_ : CreditsNothing h c (reply h c) = nothing-by h c quiet in
    let same : events (h ++ entry caller c (reply h c) ∷ []) ≡ events h ++ events_by c (reply h c) = events-push h caller c in
    let numbers : (account (events (h ++ entry caller c (reply h c) ∷ []))).credited ≡ (account (events h)).credited =
    ap (λ (es : List Event). (account es).credited) same ∙ nothing_.still.credited in
    let reference : (account (events (h ++ entry caller c (reply h c) ∷ []))).reference ≡ (account (events h)).reference =
    ap (λ (es : List Event). (account es).reference) same ∙ nothing_.still.reference in
    record {
      pairs =
          ap (map pair_of) (credits-push h caller c ∙ ap (λ (cs : List Credit). all_credits h ++ cs) nothing_.none ∙ append-nil (all_credits h)) ∙ is.pairs;
      below = subst (All (λ n. n < length (statuses_in reports))) (sym numbers) is.below;
      reference = subst IsSmall (sym reference) is.reference;
    }

-- the report goes on where these end, and tells of packets that were sent
pub credited-report : (reports : List Feedback) (h : List Entry) (caller at : ℕ) (f : Feedback) → at ≤ GREATEST_MOMENT → length (sent h) ≤ KEPT_PACKETS
    → f.base ≡ length (statuses_in reports) % 65536 → length (statuses_in reports) + length f.statuses ≤ length (sent h) → IsNatural f → IsRead f
    → IsCredited reports h → IsCredited (reports ++ f ∷ []) (h ++ entry caller (call.Report at (bare (canonical f))) (reply h (call.Report at (bare (canonical f)))) ∷ [])
credited-report reports h caller at f early few base room natural read is =
    let c : Call = call.Report at (bare (canonical f)) in
    let a : Account = account (events h) in
    let before : ℕ = length (statuses_in reports) in
    let handed : Hands c f h = hands h at (bare (canonical f)) f early read.reads in
    let packets_are : length a.packets ≡ length (sent h) = ap length (account_packets (events h)) ∙ packets-sent h in
    let value_small : natural.value < 8388608 = omega (arith, ints, natural.is, read.high) in
    let small : IsSmall f.reference = record { value = natural.value; is = natural.is; small = value_small } in
    let goes : GoesOn a before f =
    record {
      base = base;
      room = omega (arith, room, packets_are);
      few = omega (arith, few, packets_are);
      below = is.below;
      reference = unwrapped-small a.reference f.reference is.reference small;
    } in
    let next : account (events (h ++ entry caller c (reply h c) ∷ [])) ≡ after a (reported f) =
    ap account (events-push h caller c ∙ ap (λ (es : List Event). events h ++ es) handed.adds) ∙ account-push (events h) (reported f) in
    let statuses_are : statuses_in (reports ++ f ∷ []) ≡ statuses_in reports ++ f.statuses = flat_map-push (λ (g : Feedback). g.statuses) reports f in
    let told_are : all_told (reports ++ f ∷ []) ≡ all_told reports ++ told f = flat_map-push told reports f in
    let count : before + length (told f) ≡ length (statuses_in (reports ++ f ∷ [])) =
    omega (arith, told-length reports, told-length (reports ++ f ∷ []), ap length told_are, length-append (all_told reports) (told f)) in
    record {
      pairs =
          ap (map pair_of) (credits-push h caller c ∙ ap (λ (cs : List Credit). all_credits h ++ cs) handed.gives)
          ∙ map-append pair_of (all_credits h) (credits_in (verdicts a f))
          ∙ ap₂ (λ (xs ys : List (ℕ × ℤ)). xs ++ ys) is.pairs (pairs-are a before f goes)
          ∙ ap (λ n. received_from 0 (all_told reports) ++ received_from n (told f)) (sym (omega (arith, told-length reports)))
          ∙ sym (received-append 0 (all_told reports) (told f))
          ∙ ap (received_from 0) (sym told_are);
      below =
          subst (λ (b : Account). All (λ n. n < length (statuses_in (reports ++ f ∷ []))) b.credited) (sym next)
          (still-below a before (length (statuses_in (reports ++ f ∷ []))) f goes count);
      reference = subst (λ (b : Account). IsSmall b.reference) (sym next) (subst IsSmall (sym goes.reference) small);
    }

-- before any call
pub credited-first : IsCredited [] []
unfolding account
credited-first = record { pairs = refl; below = All-nil (λ n. n < 0); reference = record { value = 0; is = refl; small = omega arith } }
