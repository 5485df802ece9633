-- What one more entry does to the lists and numbers of a history.
use Rattle.std.proofs.Common.{◌≡◌, ℕ, pos, suc, ◌+◌, ◌≤◌, ◌||◌, Bool, true, false, Option, None, Some, List, [], ◌∷◌, ◌++◌, length, All, refl, ◌∙◌, ap, arith, length-append, get_or}
use Rattle.std.specs.List.{list_any}
use Rattle.std.proofs.lemmas.List.Sums.{fold-append}
use Rattle.std.proofs.lemmas.List.Folds.{list_any-append}
use Rattle.std.proofs.lemmas.List.Elements.{All-nil, All-cons, All-filter}
use Rattle.gcc_units.proofs.Walk.{walk-push, flat_map-push, flat_each-push}
use Rattle.probe_clusters.specs.Deeds.{Deed}
use Rattle.estimator.specs.Est.{Est, start_est}
use Rattle.pace_queues.specs.declared.ticket.Ticket.{Ticket}
use Rattle.pace_queues.specs.Waiting.{HasIndexBelow}
use Rattle.pacer.specs.declared.sent.Sent.{Sent}
use Rattle.pacer.specs.Pace.{IsBelow, NamesBelow, unsent, is_media}
use Rattle.pacer.specs.LeftByRecords.{has_media}
use Rattle.pacer.proofs.Records.{unsent-append, unsent-then, unsent-later}
use Rattle.send_core.specs.declared.call.Call.{Call}
use Rattle.send_core.specs.declared.call.Call.TheVariants.{Enqueue}
use Rattle.send_core.specs.declared.call.Reply.{Reply}
use Rattle.send_core.specs.declared.call.Reply.TheVariants.{Accepted}
use Rattle.send_core.specs.declared.call.Entry.{Entry}
use Rattle.send_core.specs.declared.settings.TheConstants.{START_RATE}
use Rattle.send_core.specs.History.{later, now, AcceptedPacket, accepted_by, accepted, ticket_of, tickets_from, tickets, sent_by, sent, waiting, began}
use Rattle.send_core.specs.Settings.{start_settings, settings_by, settings, streams_by, streams, starts_by, started}
use Rattle.send_core.specs.Reports.{events_by, events, deeds_by, cluster_deeds}
use Rattle.send_core.specs.Estimates.{est_by, est}
use Rattle.send_core.specs.Levels.{deeds, padding_by, padding}
use Rattle.send_core.specs.Levels as levels

pub now-push : (h : List Entry) (e : Entry) → now (h ++ e ∷ []) ≡ later (now h) e.call
now-push h e = fold-append (λ m (x : Entry). later m x.call) 0 h (e ∷ [])

pub accepted-push : (h : List Entry) (e : Entry) → accepted (h ++ e ∷ []) ≡ accepted h ++ accepted_by e.call e.reply
accepted-push h e = flat_map-push (λ (x : Entry). accepted_by x.call x.reply) h e

pub sent-push : (h : List Entry) (e : Entry) → sent (h ++ e ∷ []) ≡ sent h ++ sent_by e.reply
sent-push h e = flat_map-push (λ (x : Entry). sent_by x.reply) h e

-- ---- tickets

pub tickets-append : (k : ℕ) (ps qs : List AcceptedPacket) → tickets_from k (ps ++ qs) ≡ tickets_from k ps ++ tickets_from (k + length ps) qs
tickets-append k [] qs = let e : k + 0 ≡ k = omega arith in rw e refl
tickets-append k (p ∷ ps) qs =
    let e : k + suc (length ps) ≡ k + 1 + length ps = omega arith in
    rw e (ap (λ ts. ticket_of k p ∷ ts) (tickets-append (k + 1) ps qs))

pub tickets-below : (k most : ℕ) (ps : List AcceptedPacket) → k + length ps ≤ most → All (HasIndexBelow most) (tickets_from k ps)
tickets-below k most [] few = All-nil (HasIndexBelow most)
tickets-below k most (p ∷ ps) few =
    All-cons (HasIndexBelow most) (ticket_of k p) (tickets_from (k + 1) ps) (omega arith) (tickets-below (k + 1) most ps (omega arith))

pub tickets-late : (least k : ℕ) (ps : List AcceptedPacket) → least ≤ k → All (λ (t : Ticket). least ≤ t.index) (tickets_from k ps)
tickets-late least k [] late = All-nil (λ (t : Ticket). least ≤ t.index)
tickets-late least k (p ∷ ps) late =
    All-cons (λ (t : Ticket). least ≤ t.index) (ticket_of k p) (tickets_from (k + 1) ps) late (tickets-late least (k + 1) ps (omega arith))

pub waiting-below : (h : List Entry) → All (HasIndexBelow (length (accepted h))) (waiting h)
waiting-below h =
    All-filter _ (HasIndexBelow (length (accepted h))) (tickets h) (tickets-below 0 (length (accepted h)) (accepted h) (omega arith))

pub waiting-push : (h : List Entry) (e : Entry) → All (NamesBelow (length (accepted h))) (sent h)
    → waiting (h ++ e ∷ []) ≡ unsent (sent_by e.reply) (waiting h ++ tickets_from (length (accepted h)) (accepted_by e.call e.reply))
waiting-push h e known =
    let new : List Ticket = tickets_from (length (accepted h)) (accepted_by e.call e.reply) in
    let first : 0 + length (accepted h) ≡ length (accepted h) = omega arith in
    let all : tickets (h ++ e ∷ []) ≡ tickets h ++ new =
    ap (tickets_from 0) (accepted-push h e)
    ∙ (tickets-append 0 (accepted h) (accepted_by e.call e.reply)
    ∙ ap (λ n. tickets h ++ tickets_from n (accepted_by e.call e.reply)) first) in
    let late : unsent (sent h) new ≡ new =
    unsent-later (length (accepted h)) (sent h) known new (tickets-late (length (accepted h)) (length (accepted h)) (accepted_by e.call e.reply) (omega arith)) in
    ap (λ rs. unsent rs (tickets (h ++ e ∷ []))) (sent-push h e)
    ∙ (ap (λ ts. unsent (sent h ++ sent_by e.reply) ts) all
    ∙ (unsent-then (sent h) (sent_by e.reply) (tickets h ++ new)
    ∙ ap (unsent (sent_by e.reply)) (unsent-append (sent h) (tickets h) new ∙ ap (λ ts. waiting h ++ ts) late)))

-- ---- settings and streams

pub settings-push : (h : List Entry) (e : Entry) → settings (h ++ e ∷ []) ≡ settings_by (settings h) e.call e.reply
settings-push h e = fold-append (λ s (x : Entry). settings_by s x.call x.reply) start_settings h (e ∷ [])

pub streams-push : (h : List Entry) (e : Entry) → streams (h ++ e ∷ []) ≡ streams_by (streams h) e.call e.reply
streams-push h e = fold-append (λ ss (x : Entry). streams_by ss x.call x.reply) [] h (e ∷ [])

or-nil : (a b : Bool) → (a || (b || false)) ≡ (a || b)
or-nil true b = refl
or-nil false true = refl
or-nil false false = refl

pub started-push : (h : List Entry) (e : Entry) → started (h ++ e ∷ []) ≡ (started h || starts_by e.call e.reply)
started-push h e = list_any-append (λ (x : Entry). starts_by x.call x.reply) h (e ∷ []) ∙ or-nil (started h) (starts_by e.call e.reply)

-- ---- reports, clusters and estimates

pub events-push : (h : List Entry) (e : Entry) → events (h ++ e ∷ []) ≡ events h ++ events_by e.call e.reply
events-push h e = flat_map-push (λ (x : Entry). events_by x.call x.reply) h e

pub cluster_deeds-push : (h : List Entry) (e : Entry)
    → cluster_deeds (h ++ e ∷ []) ≡ cluster_deeds h ++ deeds_by (started h) (cluster_deeds h) e.call e.reply
cluster_deeds-push h e = walk-push (λ before (ds : List Deed) (x : Entry). ds ++ deeds_by (started before) ds x.call x.reply) [] h e

pub est-push : (h : List Entry) (e : Entry) → est (h ++ e ∷ []) ≡ est_by (settings h) (cluster_deeds h) (est h) e.call e.reply
est-push h e =
    walk-push (λ before (x : Est) (y : Entry). est_by (settings before) (cluster_deeds before) x y.call y.reply) (start_est START_RATE) h e

-- ---- levels

pub began-push : (h : List Entry) (e : Entry) → began (h ++ e ∷ []) ≡ (began h || has_media (sent_by e.reply))
began-push h e =
    ap (list_any (λ (r : Sent). is_media r.kind)) (sent-push h e)
    ∙ list_any-append (λ (r : Sent). is_media r.kind) (sent h) (sent_by e.reply)

pub deeds-push : (h : List Entry) (e : Entry) → deeds (h ++ e ∷ []) ≡ deeds h ++ levels.deeds_by h e
deeds-push h e = flat_each-push levels.deeds_by h e

pub padding-push : (h : List Entry) (e : Entry) → padding (h ++ e ∷ []) ≡ padding_by h (padding h) e
padding-push h e = walk-push padding_by (pos 0) h e

-- ---- counts

pub accepted_by-few : (call : Call) (given : Reply) → length (accepted_by call given) ≤ 1
accepted_by-few (Enqueue at class wire) (Accepted moment index) = omega arith
accepted_by-few call given = omega arith

-- an entry accepts one packet at most
pub accepted-few : (h : List Entry) → length (accepted h) ≤ length h
accepted-few [] = omega arith
accepted-few (e ∷ es) =
    let one : length (accepted_by e.call e.reply) ≤ 1 = accepted_by-few e.call e.reply in
    let more : length (accepted es) ≤ length es = accepted-few es in
    rw (length-append (accepted_by e.call e.reply)) (omega arith)

-- what is of an earlier packet is of an earlier packet still
pub NamesBelow-more : (count more : ℕ) (records : List Sent) → count ≤ more → All (NamesBelow count) records → All (NamesBelow more) records
NamesBelow-more count more records le all = λ k d l. further (get_or records k d) (all k d l)
  where
    further : (r : Sent) → NamesBelow count r → NamesBelow more r
    further r below = still r.index below
      where
        still : (o : Option ℕ) → IsBelow count o → IsBelow more o
        still None h = tt
        still (Some index) h = omega arith
