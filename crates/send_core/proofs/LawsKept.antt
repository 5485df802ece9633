-- One more entry keeps the laws of a history.
use Rattle.std.proofs.Common.{◌≡◌, ℕ, suc, zero, ◌+◌, ◌≤◌, ◌&&◌, ◌||◌, ◌==◌, Bool, true, false, not, cond, nat_lt, nat_le, max, Option, None, Some, unwrap_or, Result, Ok, Err, List, [], ◌∷◌, ◌++◌, length, map, fold, count_by, All, slice_get, get_or, refl, sym, ◌∙◌, ap, subst, arith, length-append, append_assoc, eqb-true}
use Rattle.std.proofs.lemmas.List.{append-nil, length-map}
use Rattle.std.proofs.lemmas.List.Sums.{sum_by-append}
use Rattle.std.proofs.lemmas.List.Elements.{All-nil, All-cons, All-head, All-tail, All-append, All-weaker, All-map, All-filter}
use Rattle.std.proofs.lemmas.Bool.Decides.{nat_tests}
use Rattle.std.proofs.lemmas.Int.{ints}
use Rattle.std.proofs.lemmas.Grind.{flat_map-append}
use Rattle.gcc_units.specs.declared.class.Class.{Class}
use Rattle.gcc_units.specs.declared.limits.TheConstants.{LEAST_RATE, GREATEST_RATE, GREATEST_MOMENT, GREATEST_PACKET, MOST_SENDS, MOST_WAITING}
use Rattle.gcc_units.specs.declared.shared_types.Credit.{Credit}
use Rattle.gcc_units.specs.Listed.{Listed, bare}
use Rattle.rtp_wire.specs.declared.packet.WireFault.{WireFault}
use Rattle.rtp_wire.specs.Place.{place_of}
use Rattle.twcc_report.specs.declared.fault.ReportFault.{ReportFault}
use Rattle.twcc_report.specs.Spelling.{Feedback}
use Rattle.twcc_report.specs.Reading.{read_of}
use Rattle.pace_budget.specs.declared.bucket.TheConstants.{GREATEST_WINDOW}
use Rattle.sent_history.specs.declared.slot.Outgoing.{Outgoing}
use Rattle.sent_history.specs.Events.{Event, packet_in, report_in, packets, reports}
use Rattle.sent_history.specs.Crediting.{account, credits_in, judged, told, IsOfPacket}
use Rattle.sent_history.specs.Balance.{HasFewStatuses}
use Rattle.sent_history.specs.Pushes.{added_credited, reported_credited}
use Rattle.sent_history.specs.Laws.{judged_of_packets, credited_few}
use Rattle.probe_clusters.specs.declared.probes.Outcome.{Outcome}
use Rattle.probe_clusters.specs.Deeds.{Deed, Plan, Note, Send, rate_by, rates, clusters_from, clusters, is_send, is_note, IsSizeWithin, IsWithin, takings}
use Rattle.estimator.specs.Kept.{IsUntil}
use Rattle.estimator.proofs.Until.{until-start, until-later, until-judged, until-set}
use Rattle.estimator.specs.Est.{Est, found}
use Rattle.pacer.specs.declared.sent.Sent.{Sent}
use Rattle.pacer.specs.declared.sent.Kind.{Kind}
use Rattle.pacer.specs.declared.sent.Kind.TheVariants as kind
use Rattle.pacer.specs.Course.{IsSmall, probe_as, probes_of, IsSmallRecord}
use Rattle.pacer.specs.Pace.{NamesBelow, paced}
use Rattle.pacer.proofs.Sends.{paced-few, paced-known, paced-small, IsForPlanned, paced-planned}
use Rattle.pacer.proofs.Sends as sends
use Rattle.send_core.specs.declared.call.Call.{Call}
use Rattle.send_core.specs.declared.call.Call.TheVariants as call_kind
use Rattle.send_core.specs.declared.call.Change.{Change}
use Rattle.send_core.specs.declared.call.Reply.{Reply}
use Rattle.send_core.specs.declared.call.Reply.TheVariants as reply_kind
use Rattle.send_core.specs.declared.call.Cause.{Cause}
use Rattle.send_core.specs.declared.call.Cause.TheVariants as cause
use Rattle.send_core.specs.declared.call.Entry.{Entry}
use Rattle.send_core.specs.declared.settings.Settings.{Settings}
use Rattle.send_core.specs.declared.settings.TheConstants.{START_RATE, LEAST_PERCENT, GREATEST_PERCENT, LEAST_WINDOW, LEAST_EXTENSION, GREATEST_EXTENSION}
use Rattle.send_core.specs.History.{entry, AcceptedPacket, at_of, later, now, accepted_by, accepted, ticket_of, tickets_from, tickets, sent_by, sent, waiting, has_packets}
use Rattle.send_core.specs.Settings.{settings_by, settings, settings_after, started, plans, is_rate, passes, has_rates, has_bounds, has_pacing, has_extension, fault_of}
use Rattle.send_core.specs.Settings as checks
use Rattle.send_core.specs.Reports.{cluster_of, outgoing_of, added_of, reported_of, events_by, events, deeds_by, cluster_deeds}
use Rattle.send_core.specs.Estimates.{est_by, est}
use Rattle.send_core.specs.Settled.{credits_by}
use Rattle.send_core.specs.Reply.{extension_id, enqueued, terms_at, standing_at, credited, configured, standing, reply_in_time, reply}
use Rattle.send_core.specs.Reply as replies
use Rattle.send_core.specs.Stands.{MoreLaws, IsReadable, AreSettings, IsPlanned, IsOutgoing, Laws}
use Rattle.send_core.proofs.Pushes.{now-push, accepted-push, sent-push, settings-push, events-push, cluster_deeds-push, est-push, waiting-below, NamesBelow-more}
use Rattle.send_core.proofs.Lowering.{lowered-push}
use Rattle.send_core.proofs.StepsMade.{place_of-small, ChangesNothing, refused-nothing}

-- ---- the moment of a call

pub later-more : (moment : ℕ) (call : Call) → moment ≤ later moment call
later-more moment call = by_test (nat_lt GREATEST_MOMENT (at_of call))
  where
    by_test : (b : Bool) → moment ≤ cond b moment (max moment (at_of call))
    by_test true = omega arith
    by_test false = omega arith

pub later-in_range : (moment : ℕ) (call : Call) → moment ≤ GREATEST_MOMENT → later moment call ≤ GREATEST_MOMENT
later-in_range moment call early = by_test (nat_lt GREATEST_MOMENT (at_of call)) refl
  where
    by_test : (b : Bool) → nat_lt GREATEST_MOMENT (at_of call) ≡ b → cond b moment (max moment (at_of call)) ≤ GREATEST_MOMENT
    by_test true is = early
    by_test false is = let within : at_of call ≤ GREATEST_MOMENT = grind (arith, nat_tests) in omega arith

-- ---- lists

count_by-append : {X : Type 0} (p : X → Bool) (xs ys : List X) → count_by p (xs ++ ys) ≡ count_by p xs + count_by p ys
count_by-append {X} p xs ys = sum_by-append (λ (x : X). cond (p x) 1 0) xs ys

slice_get-has : {X : Type 0} (P : X → Type 0) (xs : List X) (n : ℕ) (x : X) → All P xs → slice_get xs n ≡ Some x → P x
slice_get-has P [] n x all is = absurd cc
slice_get-has P (y ∷ ys) zero x all is = let same : y ≡ x = cc in subst P same (All-head P y ys all)
slice_get-has P (y ∷ ys) (suc n) x all is = slice_get-has P ys n x (All-tail P y ys all) is

-- ---- events

packets-append : (es fs : List Event) → packets (es ++ fs) ≡ packets es ++ packets fs
packets-append es fs = flat_map-append packet_in es fs

reports-append : (es fs : List Event) → reports (es ++ fs) ≡ reports es ++ reports fs
reports-append es fs = flat_map-append report_in es fs

packets-added : (moment : ℕ) (records : List Sent) → packets (map (added_of moment) records) ≡ map (outgoing_of moment) records
packets-added moment [] = refl
packets-added moment (r ∷ rs) = ap (λ ps. outgoing_of moment r ∷ ps) (packets-added moment rs)

reports-added : (moment : ℕ) (records : List Sent) → reports (map (added_of moment) records) ≡ []
reports-added moment [] = refl
reports-added moment (r ∷ rs) = reports-added moment rs

credited-added : (moment : ℕ) (es : List Event) (records : List Sent) → (account (es ++ map (added_of moment) records)).credited ≡ (account es).credited
credited-added moment es [] = ap (λ fs. (account fs).credited) (append-nil es)
credited-added moment es (r ∷ rs) =
    ap (λ fs. (account fs).credited) (sym (append_assoc es (added_of moment r ∷ []) (map (added_of moment) rs)))
    ∙ (credited-added moment (es ++ added_of moment r ∷ []) rs ∙ added_credited es (outgoing_of moment r))

-- where all packets were sent by a moment, the last was
last-by : (moment first : ℕ) (ps : List Outgoing) → first ≤ moment → All (λ (p : Outgoing). p.sent_at ≤ moment) ps
    → fold (λ (m : ℕ) (p : Outgoing). p.sent_at) first ps ≤ moment
last-by moment first [] le all = le
last-by moment first (p ∷ ps) le all =
    last-by moment p.sent_at ps (All-head (λ (q : Outgoing). q.sent_at ≤ moment) p ps all) (All-tail (λ (q : Outgoing). q.sent_at ≤ moment) p ps all)

outgoing-more : (m n count more : ℕ) (ps : List Outgoing) → m ≤ n → count ≤ more → All (IsOutgoing m count) ps → All (IsOutgoing n more) ps
outgoing-more m n count more ps later_by further all = All-weaker (IsOutgoing m count) (IsOutgoing n more) one ps all
  where
    planned : (o : Option ℕ) → IsPlanned count o → IsPlanned more o
    planned None h = tt
    planned (Some id) h = omega arith

    one : (p : Outgoing) → IsOutgoing m count p → IsOutgoing n more p
    one p h = record { sent = omega (arith, h.sent); size = h.size; cluster = planned p.cluster h.cluster }

-- ---- clusters

rates-append : (ds es : List Deed) → rates (ds ++ es) ≡ rates ds ++ rates es
rates-append ds es = flat_map-append rate_by ds es

length-clusters_from : (ds : List Deed) (id : ℕ) (rs : List ℕ) → length (clusters_from ds id rs) ≡ length rs
length-clusters_from ds id [] = refl
length-clusters_from ds id (r ∷ rs) = ap suc (length-clusters_from ds (id + 1) rs)

-- a cluster for each that was planned
pub length-clusters : (ds : List Deed) → length (clusters ds) ≡ length (rates ds)
length-clusters ds = length-clusters_from ds 0 (rates ds)

within-append : (s t c d : ℕ) (ds es : List Deed) → IsWithin s c ds → IsWithin t d es → IsWithin (s + t) (c + d) (ds ++ es)
within-append s t c d ds es a b = record {
  few_sends = omega (arith, count_by-append is_send ds es, a.few_sends, b.few_sends);
  few_credits = omega (arith, count_by-append is_note ds es, a.few_credits, b.few_credits);
  sizes = All-append IsSizeWithin ds es a.sizes b.sizes;
}

within-none : IsWithin 0 0 []
within-none = record { few_sends = omega arith; few_credits = omega arith; sizes = All-nil IsSizeWithin }

within-wider : (s t c d : ℕ) (ds : List Deed) → s ≤ t → c ≤ d → IsWithin s c ds → IsWithin t d ds
within-wider s t c d ds sends credits h = record { few_sends = omega (arith, h.few_sends); few_credits = omega (arith, h.few_credits); sizes = h.sizes }

within-one : (s c t d : ℕ) (e : Deed) (ds : List Deed) → cond (is_send e) 1 0 + s ≤ t → cond (is_note e) 1 0 + c ≤ d → IsSizeWithin e → IsWithin s c ds → IsWithin t d (e ∷ ds)
within-one s c t d e ds sends notes size h =
    let sends_of : ℕ = cond (is_send e) 1 0 in
    let notes_of : ℕ = cond (is_note e) 1 0 in
    within-wider (sends_of + s) t (notes_of + c) d (e ∷ ds) sends notes
    (within-append sends_of s notes_of c (e ∷ []) ds (record { few_sends = omega arith; few_credits = omega arith; sizes = All-cons IsSizeWithin e [] size (All-nil IsSizeWithin) }) h)

within-plans : (rs : List ℕ) → IsWithin 0 0 (map Plan rs)
within-plans [] = within-none
within-plans (r ∷ rs) = within-one 0 0 0 0 (Plan r) (map Plan rs) (omega arith) (omega arith) tt (within-plans rs)

within-takings : (os : List Outcome) → IsWithin 0 0 (takings os)
within-takings [] = within-none
within-takings (o ∷ os) = within-one 0 0 0 0 _ (takings os) (omega arith) (omega arith) tt (within-takings os)

within-notes : (cs : List Credit) → All (λ (c : Credit). c.size ≤ GREATEST_PACKET) cs → IsWithin 0 (length cs) (map Note cs)
within-notes [] small = within-none
within-notes (c ∷ cs) small =
    within-one 0 (length cs) 0 (suc (length cs)) (Note c) (map Note cs) (omega arith) (omega arith)
    (All-head (λ (d : Credit). d.size ≤ GREATEST_PACKET) c cs small) (within-notes cs (All-tail (λ (d : Credit). d.size ≤ GREATEST_PACKET) c cs small))

within-noted : (cs : List Credit) (os : List Outcome) → All (λ (c : Credit). c.size ≤ GREATEST_PACKET) cs → IsWithin 0 (length cs) (map Note cs ++ takings os)
within-noted cs os small =
    within-wider (0 + 0) 0 (length cs + 0) (length cs) (map Note cs ++ takings os) (omega arith) (omega arith)
    (within-append 0 0 (length cs) 0 (map Note cs) (takings os) (within-notes cs small) (within-takings os))

within-probes : (moment : ℕ) (records : List Sent) → All IsSmallRecord records → IsWithin (length records) 0 (probes_of moment records)
within-probes moment [] small = within-none
within-probes moment (r ∷ rs) small = by_kind r.kind (All-head IsSmallRecord r rs small) (within-probes moment rs (All-tail IsSmallRecord r rs small))
  where
    wider : (ds : List Deed) → IsWithin (length rs) 0 ds → IsWithin (suc (length rs)) 0 ds
    wider ds h = within-wider (length rs) (suc (length rs)) 0 0 ds (omega arith) (omega arith) h

    by_kind : (k : Kind) → r.size ≤ GREATEST_PACKET → IsWithin (length rs) 0 (probes_of moment rs) → IsWithin (suc (length rs)) 0 (probe_as moment k r.size ++ probes_of moment rs)
    by_kind kind.Audio size h = wider _ h
    by_kind kind.Media size h = wider _ h
    by_kind (kind.Probe id) size h = within-one (length rs) 0 (suc (length rs)) 0 (Send id r.size moment) (probes_of moment rs) (omega arith) (omega arith) size h
    by_kind kind.Padding size h = wider _ h

-- ---- what a call with its reply adds

-- the reports that it judges have few statuses
abbrev pub HasFew : Call → Reply → Type 0
HasFew call given = All HasFewStatuses (reports (events_by call given))

pub record Adds (h : List Entry) (call : Call) (given : Reply) : Type 0 where
  pub few : length (sent_by given) ≤ MOST_SENDS
  pub small_sends : All IsSmallRecord (sent_by given)
  pub known : All (NamesBelow (length (accepted h))) (sent_by given)
  pub readable : All (IsReadable (settings_by (settings h) call given).extension_id) (accepted h ++ accepted_by call given)
  pub set : AreSettings (settings_by (settings h) call given)
  pub outgoing : All (IsOutgoing (later (now h) call) (length (rates (cluster_deeds h)))) (packets (events_by call given))
  pub number : length (packets (events_by call given)) ≡ length (sent_by given)
  pub few_reports : length (reports (events_by call given)) ≤ 1
  pub within : IsWithin (length (sent_by given)) (length (credits_by given)) (deeds_by (started h) (cluster_deeds h) call given)
  pub credits : (est_by (settings h) (cluster_deeds h) (est h) call given).credits ≡ (est h).credits ++ credits_by given
  pub credited : (account (events h ++ events_by call given)).credited ≡ (account (events h)).credited ++ map (λ (c : Credit). c.number) (credits_by given)
  pub judged : (est_by (settings h) (cluster_deeds h) (est h) call given).reports ≤ (est h).reports + length (reports (events_by call given))
  pub until : IsUntil (later (now h) call) (est_by (settings h) (cluster_deeds h) (est h) call given)

-- a call that changes nothing but the moment and what follows
adds-nothing : (h : List Entry) (call : Call) (given : Reply) → Laws h → ChangesNothing call given → credits_by given ≡ [] → Adds h call given
adds-nothing h call given laws n none = record {
  few = rw n.sends (omega arith);
  small_sends = rw n.sends (All-nil IsSmallRecord);
  known = rw n.sends (All-nil (NamesBelow (length (accepted h))));
  readable = rw (n.accepts, n.settings (settings h)) (rw append-nil laws.readable);
  set = rw (n.settings (settings h)) laws.set;
  outgoing = rw n.events (All-nil (IsOutgoing (later (now h) call) (length (rates (cluster_deeds h)))));
  number = rw (n.events, n.sends) refl;
  few_reports = rw n.events (omega arith);
  within = rw (n.sends, none, n.deeds (started h) (cluster_deeds h)) within-none;
  credits = ap (λ (e : Est). e.credits) (n.estimates (settings h) (cluster_deeds h) (est h)) ∙ (sym (append-nil (est h).credits) ∙ ap (λ cs. (est h).credits ++ cs) (sym none));
  credited = rw (n.events, none) (ap (λ es. (account es).credited) (append-nil (events h)) ∙ sym (append-nil (account (events h)).credited));
  judged = rw (n.estimates (settings h) (cluster_deeds h) (est h)) (omega arith);
  until = rw (n.estimates (settings h) (cluster_deeds h) (est h)) (until-later (now h) (later (now h) call) (est h) laws.until (later-more (now h) call));
}

adds-refused : (h : List Entry) (call : Call) (moment : ℕ) (why : Cause) → Laws h → Adds h call (reply_kind.Refused moment why)
adds-refused h call moment why laws = adds-nothing h call (reply_kind.Refused moment why) laws (refused-nothing call moment why) refl

adds-accepted : (h : List Entry) (at : ℕ) (class : Class) (wire : Listed ℕ) (moment index place : ℕ) → Laws h → place_of (extension_id h) wire.items ≡ Ok place
    → Adds h (call_kind.Enqueue at class wire) (reply_kind.Accepted moment index)
adds-accepted h at class wire moment index place laws is =
    let readable : IsReadable (extension_id h) (record { class = class; wire = wire.items; moment = moment }) =
    record { place = place; is_place = is; small = place_of-small (extension_id h) wire.items place is } in
    record {
      few = omega arith;
      small_sends = All-nil IsSmallRecord;
      known = All-nil (NamesBelow (length (accepted h)));
      readable = All-append (IsReadable (extension_id h)) (accepted h) _ laws.readable (All-cons (IsReadable (extension_id h)) _ [] readable (All-nil (IsReadable (extension_id h))));
      set = laws.set;
      outgoing = All-nil (IsOutgoing (later (now h) (call_kind.Enqueue at class wire)) (length (rates (cluster_deeds h))));
      number = refl;
      few_reports = omega arith;
      within = within-none;
      credits = sym (append-nil (est h).credits);
      credited = ap (λ es. (account es).credited) (append-nil (events h)) ∙ sym (append-nil (account (events h)).credited);
      judged = omega arith;
      until = until-later (now h) (later (now h) (call_kind.Enqueue at class wire)) (est h) laws.until (later-more (now h) (call_kind.Enqueue at class wire));
    }

-- ---- packets that were sent

-- the packets that wait are small
pub waiting-small : (h : List Entry) → Laws h → All IsSmall (waiting h)
waiting-small h laws = All-filter _ IsSmall (tickets h) (small 0 (accepted h) laws.readable)
  where
    small : (k : ℕ) (ps : List AcceptedPacket) → All (IsReadable (extension_id h)) ps → All IsSmall (tickets_from k ps)
    small k [] all = All-nil IsSmall
    small k (p ∷ ps) all =
        let readable : IsReadable (extension_id h) p = All-head (IsReadable (extension_id h)) p ps all in
        All-cons IsSmall (ticket_of k p) (tickets_from (k + 1) ps) readable.small (small (k + 1) ps (All-tail (IsReadable (extension_id h)) p ps all))

planned_as : (count : ℕ) (k : Kind) → sends.IsPlanned count k → IsPlanned count (cluster_of k)
planned_as count kind.Audio h = tt
planned_as count kind.Media h = tt
planned_as count (kind.Probe id) h = h
planned_as count kind.Padding h = tt

outgoing-sent : (moment count : ℕ) (records : List Sent) → All IsSmallRecord records → All (IsForPlanned count) records → All (IsOutgoing moment count) (map (outgoing_of moment) records)
outgoing-sent moment count records small planned =
    All-map (IsOutgoing moment count) (outgoing_of moment) records
    (λ k d l. record { sent = omega arith; size = small k d l; cluster = planned_as count (get_or records k d).kind (planned k d l) })

-- these packets are sent at the moment of the call
adds-sent : (h : List Entry) (at : ℕ) (records : List Sent) → Laws h → length records ≤ MOST_SENDS → All (NamesBelow (length (accepted h))) records
    → All IsSmallRecord records → All (IsForPlanned (length (rates (cluster_deeds h)))) records
    → Adds h (call_kind.Pace at) (reply_kind.Paced (later (now h) (call_kind.Pace at)) (bare records))
adds-sent h at records laws few known small planned =
    let moment : ℕ = later (now h) (call_kind.Pace at) in
    record {
      few = few;
      small_sends = small;
      known = known;
      readable = rw append-nil laws.readable;
      set = laws.set;
      outgoing = rw (packets-added moment records) (outgoing-sent moment (length (rates (cluster_deeds h))) records small planned);
      number = ap (length {A = Outgoing}) (packets-added moment records) ∙ length-map records (outgoing_of moment);
      few_reports = rw (reports-added moment records) (omega arith);
      within = within-probes moment records small;
      credits = sym (append-nil (est h).credits);
      credited = credited-added moment (events h) records ∙ sym (append-nil (account (events h)).credited);
      judged = omega arith;
      until = until-later (now h) moment (est h) laws.until (later-more (now h) (call_kind.Pace at));
    }

adds-paced : (h : List Entry) (at : ℕ) → Laws h → Adds h (call_kind.Pace at) (reply_in_time h (later (now h) (call_kind.Pace at)) (call_kind.Pace at))
adds-paced h at laws =
    let moment : ℕ = later (now h) (call_kind.Pace at) in
    adds-sent h at (paced MOST_SENDS (terms_at h moment) (standing_at h moment)) laws
    (paced-few MOST_SENDS (terms_at h moment) (standing_at h moment))
    (paced-known MOST_SENDS (length (accepted h)) (terms_at h moment) (standing_at h moment) (waiting-below h))
    (paced-small MOST_SENDS (terms_at h moment) (standing_at h moment) (waiting-small h laws))
    (subst (λ n. All (IsForPlanned n) (paced MOST_SENDS (terms_at h moment) (standing_at h moment))) (length-clusters (cluster_deeds h))
    (paced-planned MOST_SENDS (terms_at h moment) (standing_at h moment)))

-- ---- reports that were judged

-- what is credited was sent by this moment, and is small
pub credits-outgoing : (h : List Entry) (report : Feedback) → Laws h
    → All (λ (c : Credit). IsOutgoing (now h) (length (rates (cluster_deeds h))) (record { sent_at = c.sent_at; size = c.size; cluster = c.cluster })) (credits_in (judged (events h) report))
credits-outgoing h report laws =
    All-weaker (IsOfPacket (packets (events h)))
    (λ (c : Credit). IsOutgoing (now h) (length (rates (cluster_deeds h))) (record { sent_at = c.sent_at; size = c.size; cluster = c.cluster }))
    (λ c is. slice_get-has (IsOutgoing (now h) (length (rates (cluster_deeds h)))) (packets (events h)) c.number _ laws.outgoing is)
    (credits_in (judged (events h) report)) (judged_of_packets (events h) report)

adds-credited : (h : List Entry) (at : ℕ) (bytes : Listed ℕ) (report : Feedback) → Laws h → read_of bytes.items ≡ Ok report
    → Adds h (call_kind.Report at bytes) (credited h (later (now h) (call_kind.Report at bytes)) (told (judged (events h) report)))
adds-credited h at bytes report laws is =
    let moment : ℕ = later (now h) (call_kind.Report at bytes) in
    let received : List Credit = credits_in (judged (events h) report) in
    let of_packets = credits-outgoing h report laws in
    let later_by : now h ≤ moment = later-more (now h) (call_kind.Report at bytes) in
    record {
      few = omega arith;
      small_sends = All-nil IsSmallRecord;
      known = All-nil (NamesBelow (length (accepted h)));
      readable = rw append-nil laws.readable;
      set = laws.set;
      outgoing = rw is (All-nil (IsOutgoing moment (length (rates (cluster_deeds h)))));
      number = rw is refl;
      few_reports = rw is (omega arith);
      within = within-noted received (found (cluster_deeds h) received) (λ k d l. (of_packets k d l).size);
      credits = refl;
      credited = rw is (reported_credited (events h) report);
      judged = rw is (omega arith);
      until = until-judged (now h) moment (est h) received (told (judged (events h) report)).missing (settings h).bounds (found (cluster_deeds h) received) laws.until later_by
          (λ k d l. (let by = of_packets k d l in omega (arith, by.sent, later_by)));
    }

-- ---- changes that were checked

both : (a b : Bool) → (a && b) ≡ true → (a ≡ true) × (b ≡ true)
both true b h = (refl, h)
both false b h = absurd cc

-- a check that passes, and what the later ones say
passing : (b : Bool) (k : ℕ) (rest : Option ℕ) → cond (not b) (Some k) rest ≡ None → (b ≡ true) × (rest ≡ None)
passing true k rest h = (refl, h)
passing false k rest h = absurd cc

-- what the first four checks ask
record IsSound (s : checks.Standing) (change : Change) : Type 0 where
  rates : has_rates change ≡ true
  bounds : has_bounds s.settings change ≡ true
  pacing : has_pacing change ≡ true
  extension : has_extension s.fixed s.settings change ≡ true

sound : (s : checks.Standing) (change : Change) → fault_of s change ≡ None → IsSound s change
sound s change h =
    let one = passing (has_rates change) 1 _ h in
    let two = passing (has_bounds s.settings change) 2 _ one.1 in
    let three = passing (has_pacing change) 3 _ two.1 in
    let four = passing (has_extension s.fixed s.settings change) 4 _ three.1 in
    record { rates = one.0; bounds = two.0; pacing = three.0; extension = four.0 }

-- what holds of the value that stays, and of each that passes, holds of the one after the change
chosen : (P : ℕ → Type 0) (test : ℕ → Bool) (o : Option ℕ) (stays : ℕ) → ((n : ℕ) → test n ≡ true → P n) → passes test o ≡ true → P stays → P (unwrap_or o stays)
chosen P test None stays has h p = p
chosen P test (Some n) stays has h p = has n h

rate_tests : (n : ℕ) → is_rate n ≡ true → (LEAST_RATE ≤ n) × (n ≤ GREATEST_RATE)
rate_tests n h = (grind (arith, nat_tests), grind (arith, nat_tests))

within_tests : (low high n : ℕ) → (nat_le low n && nat_le n high) ≡ true → (low ≤ n) × (n ≤ high)
within_tests low high n h = (grind (arith, nat_tests), grind (arith, nat_tests))

-- the settings after a change are in their ranges
pub set-after : (s : checks.Standing) (change : Change) → AreSettings s.settings → fault_of s change ≡ None → AreSettings (settings_after s.settings change)
set-after s change was passes_all =
    let checked : IsSound s change = sound s change passes_all in
    let least : Bool = passes is_rate change.start && passes is_rate change.min in
    let greatest : Bool = passes is_rate change.max && passes (λ n. nat_le n GREATEST_RATE) change.padding_rate in
    let rates = both least greatest (both (least && greatest) (passes is_rate change.probe) checked.rates).0 in
    let low = both (passes is_rate change.start) (passes is_rate change.min) rates.0 in
    let high = both (passes is_rate change.max) (passes (λ n. nat_le n GREATEST_RATE) change.padding_rate) rates.1 in
    let pacing = both (passes (λ n. nat_le LEAST_PERCENT n && nat_le n GREATEST_PERCENT) change.pacing_percent) (passes (λ n. nat_le LEAST_WINDOW n && nat_le n GREATEST_WINDOW) change.window) checked.pacing in
    let order : nat_le (unwrap_or change.min s.settings.bounds.min) (unwrap_or change.max s.settings.bounds.max) ≡ true = checked.bounds in
    record {
      bounds = record {
        least = chosen (λ n. LEAST_RATE ≤ n) is_rate change.min s.settings.bounds.min (λ n t. (rate_tests n t).0) low.1 was.bounds.least;
        order = grind (arith, nat_tests);
        greatest = chosen (λ n. n ≤ GREATEST_RATE) is_rate change.max s.settings.bounds.max (λ n t. (rate_tests n t).1) high.0 was.bounds.greatest;
      };
      least_percent = chosen (λ n. LEAST_PERCENT ≤ n) _ change.pacing_percent s.settings.pacing_percent (λ n t. (within_tests LEAST_PERCENT GREATEST_PERCENT n t).0) pacing.0 was.least_percent;
      greatest_percent = chosen (λ n. n ≤ GREATEST_PERCENT) _ change.pacing_percent s.settings.pacing_percent (λ n t. (within_tests LEAST_PERCENT GREATEST_PERCENT n t).1) pacing.0 was.greatest_percent;
      window = chosen (λ n. n ≤ GREATEST_WINDOW) _ change.window s.settings.window (λ n t. (within_tests LEAST_WINDOW GREATEST_WINDOW n t).1) pacing.1 was.window;
      padding_rate = chosen (λ n. n ≤ GREATEST_RATE) _ change.padding_rate s.settings.padding_rate (λ n t. grind (arith, nat_tests)) high.1 was.padding_rate;
      least_extension = chosen (λ n. LEAST_EXTENSION ≤ n) _ change.extension_id s.settings.extension_id
          (λ n t. (within_tests LEAST_EXTENSION GREATEST_EXTENSION n (both _ (not s.fixed || (n == s.settings.extension_id)) t).0).0) checked.extension was.least_extension;
      greatest_extension = chosen (λ n. n ≤ GREATEST_EXTENSION) _ change.extension_id s.settings.extension_id
          (λ n t. (within_tests LEAST_EXTENSION GREATEST_EXTENSION n (both _ (not s.fixed || (n == s.settings.extension_id)) t).0).1) checked.extension was.greatest_extension;
    }

-- an ID that may not change is as it was
fixed_extension : (s : checks.Standing) (change : Change) → fault_of s change ≡ None → s.fixed ≡ true → unwrap_or change.extension_id s.settings.extension_id ≡ s.settings.extension_id
fixed_extension s change passes_all fixed =
    chosen (λ n. n ≡ s.settings.extension_id) _ change.extension_id s.settings.extension_id
    (λ n t. same n s.fixed fixed (both _ (not s.fixed || (n == s.settings.extension_id)) t).1) (sound s change passes_all).extension refl
  where
    same : (n : ℕ) (b : Bool) → b ≡ true → (not b || (n == s.settings.extension_id)) ≡ true → n ≡ s.settings.extension_id
    same n true e t = eqb-true n s.settings.extension_id t
    same n false e t = absurd cc

readable-after : (h : List Entry) (change : Change) → Laws h → fault_of (standing h) change ≡ None → All (IsReadable (settings_after (settings h) change).extension_id) (accepted h)
readable-after h change laws passes_all = by_test (has_packets h) refl
  where
    by_test : (b : Bool) → has_packets h ≡ b → All (IsReadable (settings_after (settings h) change).extension_id) (accepted h)
    by_test true is = subst (λ id. All (IsReadable id) (accepted h)) (sym (fixed_extension (standing h) change passes_all is)) laws.readable
    by_test false is = λ k d l. absurd (let none : length (accepted h) + length (sent h) ≤ 0 = grind (arith, nat_tests) in omega arith)

adds-configured : (h : List Entry) (at : ℕ) (change : Change) → Laws h → fault_of (standing h) change ≡ None
    → Adds h (call_kind.Configure at change) (configured h (later (now h) (call_kind.Configure at change)) change None)
adds-configured h at change laws passes_all =
    let moment : ℕ = later (now h) (call_kind.Configure at change) in
    record {
      few = omega arith;
      small_sends = All-nil IsSmallRecord;
      known = All-nil (NamesBelow (length (accepted h)));
      readable = rw append-nil (readable-after h change laws passes_all);
      set = set-after (standing h) change laws.set passes_all;
      outgoing = All-nil (IsOutgoing moment (length (rates (cluster_deeds h))));
      number = refl;
      few_reports = omega arith;
      within = within-plans (plans (started h) change);
      credits = sym (append-nil (est h).credits);
      credited = ap (λ es. (account es).credited) (append-nil (events h)) ∙ sym (append-nil (account (events h)).credited);
      judged = omega arith;
      until = until-later (now h) moment _ (until-set (now h) (est h) change.start (settings_after (settings h) change).bounds laws.until) (later-more (now h) (call_kind.Configure at change));
    }

-- ---- the reply to any call

adds-in_time : (h : List Entry) (call : Call) → Laws h → Adds h call (reply_in_time h (later (now h) call) call)
adds-in_time h (call_kind.Enqueue at class wire) laws = by_place (place_of (extension_id h) wire.items) refl
  where
    moment : ℕ
    moment = later (now h) (call_kind.Enqueue at class wire)

    by_place : (o : Result ℕ WireFault) → place_of (extension_id h) wire.items ≡ o → Adds h (call_kind.Enqueue at class wire) (enqueued h moment o)
    by_place (Err fault) is = adds-refused h (call_kind.Enqueue at class wire) moment (cause.Wire fault) laws
    by_place (Ok place) is = by_room (nat_lt (length (waiting h)) MOST_WAITING)
      where
        by_room : (b : Bool) → Adds h (call_kind.Enqueue at class wire)
            (cond b (reply_kind.Accepted moment (length (accepted h))) (reply_kind.Refused moment (cause.QueueFull MOST_WAITING)))
        by_room true = adds-accepted h at class wire moment (length (accepted h)) place laws is
        by_room false = adds-refused h (call_kind.Enqueue at class wire) moment (cause.QueueFull MOST_WAITING) laws
adds-in_time h (call_kind.Pace at) laws = adds-paced h at laws
adds-in_time h (call_kind.Report at bytes) laws = by_read (read_of bytes.items) refl
  where
    moment : ℕ
    moment = later (now h) (call_kind.Report at bytes)

    by_read : (o : Result Feedback ReportFault) → read_of bytes.items ≡ o → Adds h (call_kind.Report at bytes) (replies.reported h moment o)
    by_read (Err fault) is = adds-refused h (call_kind.Report at bytes) moment (cause.Report fault) laws
    by_read (Ok report) is = adds-credited h at bytes report laws is
adds-in_time h (call_kind.Configure at change) laws = by_check (fault_of (standing h) change) refl
  where
    moment : ℕ
    moment = later (now h) (call_kind.Configure at change)

    by_check : (o : Option ℕ) → fault_of (standing h) change ≡ o → Adds h (call_kind.Configure at change) (configured h moment change o)
    by_check None is = adds-configured h at change laws is
    by_check (Some check) is = adds-refused h (call_kind.Configure at change) moment (cause.Config check) laws

pub adds : (h : List Entry) (call : Call) (given : Reply) → Laws h → given ≡ reply h call → Adds h call given
adds h call given laws is = subst (Adds h call) (sym is) (by_time (nat_lt GREATEST_MOMENT (at_of call)))
  where
    by_time : (b : Bool) → Adds h call (cond b (reply_kind.Refused (now h) cause.MomentTooLarge) (reply_in_time h (later (now h) call) call))
    by_time true = adds-refused h call (now h) cause.MomentTooLarge laws
    by_time false = adds-in_time h call laws

-- ---- laws beside `Laws`

-- what more every history keeps, so that no more is credited than was sent
more_after : (h : List Entry) (e : Entry) → MoreLaws h → HasFew e.call e.reply → Adds h e.call e.reply → MoreLaws (h ++ e ∷ [])
more_after h e more few adds = record {
  few_statuses = subst (λ es. All HasFewStatuses (reports es)) (sym (events-push h e))
      (rw (reports-append (events h) (events_by e.call e.reply)) (All-append HasFewStatuses (reports (events h)) (reports (events_by e.call e.reply)) more.few_statuses few));
  credited =
      let credits : length (est (h ++ e ∷ [])).credits ≡ length (est h).credits + length (credits_by e.reply) =
      ap (λ (x : Est). length x.credits) (est-push h e) ∙ (ap (length {A = Credit}) adds.credits ∙ length-append (est h).credits (credits_by e.reply)) in
      let numbers : length (account (events (h ++ e ∷ []))).credited ≡ length (account (events h)).credited + length (credits_by e.reply) =
      ap (λ es. length (account es).credited) (events-push h e)
      ∙ (ap (length {A = ℕ}) adds.credited
      ∙ (length-append (account (events h)).credited (map (λ (c : Credit). c.number) (credits_by e.reply))
      ∙ ap (λ n. length (account (events h)).credited + n) (length-map (credits_by e.reply) (λ (c : Credit). c.number)))) in
      omega (arith, credits, numbers, more.credited);
}

laws_after : (h : List Entry) (e : Entry) → Laws h → Adds h e.call e.reply → MoreLaws (h ++ e ∷ []) → Laws (h ++ e ∷ [])
laws_after h e laws adds more =
    let after : List Entry = h ++ e ∷ [] in
    let longer : length after ≡ length h + 1 = length-append h (e ∷ []) in
    let sends : sent after ≡ sent h ++ sent_by e.reply = sent-push h e in
    let gone : length (sent after) ≡ length (sent h) + length (sent_by e.reply) = ap (length {A = Sent}) sends ∙ length-append (sent h) (sent_by e.reply) in
    let accepts : accepted after ≡ accepted h ++ accepted_by e.call e.reply = accepted-push h e in
    let further : length (accepted h) ≤ length (accepted after) =
    omega (arith, ap (length {A = AcceptedPacket}) accepts, length-append (accepted h) (accepted_by e.call e.reply)) in
    let moment : now after ≡ later (now h) e.call = now-push h e in
    let deeds : cluster_deeds after ≡ cluster_deeds h ++ deeds_by (started h) (cluster_deeds h) e.call e.reply = cluster_deeds-push h e in
    let plans_more : length (rates (cluster_deeds h)) ≤ length (rates (cluster_deeds after)) =
    omega (
      arith,
      ap (λ ds. length (rates ds)) deeds,
      ap (length {A = ℕ}) (rates-append (cluster_deeds h) (deeds_by (started h) (cluster_deeds h) e.call e.reply)),
      length-append (rates (cluster_deeds h)) (rates (deeds_by (started h) (cluster_deeds h) e.call e.reply)),
    ) in
    let new_packets : packets (events after) ≡ packets (events h) ++ packets (events_by e.call e.reply) =
    ap packets (events-push h e) ∙ packets-append (events h) (events_by e.call e.reply) in
    let new_reports : reports (events after) ≡ reports (events h) ++ reports (events_by e.call e.reply) =
    ap reports (events-push h e) ∙ reports-append (events h) (events_by e.call e.reply) in
    let estimates : est after ≡ est_by (settings h) (cluster_deeds h) (est h) e.call e.reply = est-push h e in
    let credits : length (est after).credits ≡ length (est h).credits + length (credits_by e.reply) =
    ap (λ (x : Est). length x.credits) estimates ∙ (ap (length {A = Credit}) adds.credits ∙ length-append (est h).credits (credits_by e.reply)) in
    let IsSent : Outgoing → Type 0 = IsOutgoing (now after) (length (rates (cluster_deeds after))) in
    let outgoing : All IsSent (packets (events after)) =
    rw new_packets (All-append IsSent (packets (events h)) (packets (events_by e.call e.reply))
    (outgoing-more (now h) (now after) _ _ (packets (events h)) (rw moment (later-more (now h) e.call)) plans_more laws.outgoing)
    (outgoing-more (later (now h) e.call) (now after) _ _ (packets (events_by e.call e.reply)) (rw moment (omega arith)) plans_more adds.outgoing)) in
    let number : length (packets (events after)) ≡ length (sent after) =
    omega (arith, ap (length {A = Outgoing}) new_packets, length-append (packets (events h)) (packets (events_by e.call e.reply)), gone, laws.number, adds.number) in
    record {
      in_time = rw moment (later-in_range (now h) e.call laws.in_time);
      few = omega (arith, gone, longer, laws.few, adds.few);
      lowered = lowered-push h e adds.small_sends laws.lowered;
      known = rw sends (All-append (NamesBelow (length (accepted after))) (sent h) (sent_by e.reply)
          (NamesBelow-more (length (accepted h)) (length (accepted after)) (sent h) further laws.known)
          (NamesBelow-more (length (accepted h)) (length (accepted after)) (sent_by e.reply) further adds.known));
      readable = subst (λ (s : Settings). All (IsReadable s.extension_id) (accepted after)) (sym (settings-push h e))
          (subst (λ ps. All (IsReadable (settings_by (settings h) e.call e.reply).extension_id) ps) (sym accepts) adds.readable);
      set = subst AreSettings (sym (settings-push h e)) adds.set;
      outgoing = outgoing;
      number = number;
      few_reports = omega (arith, longer, ap (length {A = Feedback}) new_reports, length-append (reports (events h)) (reports (events_by e.call e.reply)), laws.few_reports, adds.few_reports);
      last = last-by (now after) 0 (packets (events after)) (omega arith) (λ k d l. (outgoing k d l).sent);
      within = rw (gone, credits, deeds) (within-append (length (sent h)) (length (sent_by e.reply)) (length (est h).credits) (length (credits_by e.reply)) (cluster_deeds h) _ laws.within adds.within);
      few_credits = omega (arith, more.credited, credited_few (events after) more.few_statuses, number);
      judged = omega (arith, ap (length {A = Feedback}) new_reports, length-append (reports (events h)) (reports (events_by e.call e.reply)), ap (λ (x : Est). x.reports) estimates, laws.judged, adds.judged);
      until = rw (moment, estimates) adds.until;
    }

pub more-push : (h : List Entry) (caller : ℕ) (call : Call) (given : Reply) → Laws h → MoreLaws h → HasFew call given → given ≡ reply h call
    → MoreLaws (h ++ entry caller call given ∷ [])
more-push h caller call given laws more few is = more_after h (entry caller call given) more few (adds h call given laws is)

pub laws-push : (h : List Entry) (caller : ℕ) (call : Call) (given : Reply) → Laws h → MoreLaws h → HasFew call given → given ≡ reply h call
    → Laws (h ++ entry caller call given ∷ [])
laws-push h caller call given laws more few is =
    laws_after h (entry caller call given) laws (adds h call given laws is) (more-push h caller call given laws more few is)

-- ---- the first

pub laws-first : Laws []
laws-first = record {
  in_time = omega arith;
  few = omega arith;
  lowered = omega (arith, ints);
  known = All-nil (NamesBelow 0);
  readable = All-nil (IsReadable (extension_id []));
  set = record {
    bounds = record { least = omega arith; order = omega arith; greatest = omega arith };
    least_percent = omega arith;
    greatest_percent = omega arith;
    window = omega arith;
    padding_rate = omega arith;
    least_extension = omega arith;
    greatest_extension = omega arith;
  };
  outgoing = All-nil (IsOutgoing 0 0);
  number = refl;
  few_reports = omega arith;
  last = omega arith;
  within = within-none;
  few_credits = omega arith;
  judged = omega arith;
  until = until-start START_RATE;
}

pub more-first : MoreLaws []
unfolding account
more-first = record { few_statuses = All-nil HasFewStatuses; credited = refl }

-- ---- reports that are read

-- a report that the call's bytes spell has few statuses
abbrev pub ReadsFew : Call → Type 0
ReadsFew (call_kind.Enqueue at class wire) = Unit {0}
ReadsFew (call_kind.Pace at) = Unit {0}
ReadsFew (call_kind.Report at bytes) = (report : Feedback) → read_of bytes.items ≡ Ok report → HasFewStatuses report
ReadsFew (call_kind.Configure at change) = Unit {0}

has_few-read : (o : Result Feedback ReportFault) → ((report : Feedback) → o ≡ Ok report → HasFewStatuses report) → All HasFewStatuses (reports (reported_of o))
has_few-read (Err fault) few = All-nil HasFewStatuses
has_few-read (Ok report) few = All-cons HasFewStatuses report [] (few report refl) (All-nil HasFewStatuses)

has_few-paced : (moment : ℕ) (records : List Sent) → All HasFewStatuses (reports (map (added_of moment) records))
has_few-paced moment records = rw (reports-added moment records) (All-nil HasFewStatuses)

pub has_few : (call : Call) (given : Reply) → ReadsFew call → HasFew call given
has_few call (reply_kind.Paced moment records) few = has_few-paced moment records.items
has_few (call_kind.Report at bytes) (reply_kind.Credited moment judged signal m acked rates shares) few = has_few-read (read_of bytes.items) few
has_few call given few = All-nil HasFewStatuses
