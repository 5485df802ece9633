-- What a refused call leaves as it was.
use Rattle.std.proofs.Common.{◌≡◌, ◌||◌, Bool, List, [], ◌∷◌, ◌++◌, sym, ◌∙◌, ap}
use Rattle.std.proofs.lemmas.List.{append-nil}
use Rattle.pacer.specs.declared.sent.Sent.{Sent}
use Rattle.pacer.specs.Pace.{padding_after, unsent}
use Rattle.std.specs.Prelude.{fold}
use Rattle.pace_budget.specs.Steps.{step}
use Rattle.send_core.specs.declared.call.Call.{Call}
use Rattle.send_core.specs.declared.call.Reply.{Reply}
use Rattle.send_core.specs.declared.call.Reply.TheVariants.{Accepted, Paced, Credited, Configured, Refused}
use Rattle.send_core.specs.declared.call.Entry.{Entry}
use Rattle.send_core.specs.Estimates.{est}
use Rattle.send_core.specs.History.{AcceptedPacket, later, now, accepted, sent, tickets_from, waiting}
use Rattle.send_core.specs.Levels.{deeds, passing, padding_passing, padding, padding_at, floor, spending}
use Rattle.send_core.specs.Refusals.{IsRefused}
use Rattle.send_core.specs.Reports.{events, cluster_deeds}
use Rattle.send_core.specs.Settings.{settings, streams, started}
use Rattle.send_core.proofs.Pushes.{accepted-push, sent-push, settings-push, streams-push, started-push, events-push, cluster_deeds-push, est-push, deeds-push, padding-push}
use Rattle.send_core.proofs.StepsMade.{ChangesNothing, refused-nothing, or-no}

pub changes-nothing : (call : Call) (given : Reply) → IsRefused given → ChangesNothing call given
changes-nothing call (Refused moment cause) r = refused-nothing call moment cause
changes-nothing call (Accepted moment index) r = absurd r
changes-nothing call (Paced moment records) r = absurd r
changes-nothing call (Credited moment judged signal m acked rates shares) r = absurd r
changes-nothing call (Configured moment rates shares) r = absurd r

nothing-of : (e : Entry) → IsRefused e.reply → ChangesNothing e.call e.reply
nothing-of e r = changes-nothing e.call e.reply r

pub settings-stay : (h : List Entry) (e : Entry) → IsRefused e.reply → settings (h ++ e ∷ []) ≡ settings h
settings-stay h e r = settings-push h e ∙ (nothing-of e r).settings (settings h)

pub streams-stay : (h : List Entry) (e : Entry) → IsRefused e.reply → streams (h ++ e ∷ []) ≡ streams h
streams-stay h e r = streams-push h e ∙ (nothing-of e r).streams (streams h)

pub started-stays : (h : List Entry) (e : Entry) → IsRefused e.reply → started (h ++ e ∷ []) ≡ started h
started-stays h e r = started-push h e ∙ (ap (λ (b : Bool). started h || b) (nothing-of e r).starts ∙ sym (or-no (started h)))

pub clusters-stay : (h : List Entry) (e : Entry) → IsRefused e.reply → cluster_deeds (h ++ e ∷ []) ≡ cluster_deeds h
clusters-stay h e r =
    cluster_deeds-push h e ∙ (ap (λ ds. cluster_deeds h ++ ds) ((nothing-of e r).deeds (started h) (cluster_deeds h)) ∙ append-nil (cluster_deeds h))

pub estimates-stay : (h : List Entry) (e : Entry) → IsRefused e.reply → est (h ++ e ∷ []) ≡ est h
estimates-stay h e r = est-push h e ∙ (nothing-of e r).estimates (settings h) (cluster_deeds h) (est h)

pub accepted-stay : (h : List Entry) (e : Entry) → IsRefused e.reply → accepted (h ++ e ∷ []) ≡ accepted h
accepted-stay h e r = accepted-push h e ∙ (ap (λ ps. accepted h ++ ps) (nothing-of e r).accepts ∙ append-nil (accepted h))

pub sent-stay : (h : List Entry) (e : Entry) → IsRefused e.reply → sent (h ++ e ∷ []) ≡ sent h
sent-stay h e r = sent-push h e ∙ (ap (λ rs. sent h ++ rs) (nothing-of e r).sends ∙ append-nil (sent h))

pub waiting-stay : (h : List Entry) (e : Entry) → IsRefused e.reply → waiting (h ++ e ∷ []) ≡ waiting h
waiting-stay h e r =
    ap (λ (rs : List Sent). unsent rs (tickets_from 0 (accepted (h ++ e ∷ [])))) (sent-stay h e r)
    ∙ ap (λ (ps : List AcceptedPacket). unsent (sent h) (tickets_from 0 ps)) (accepted-stay h e r)

pub events-stay : (h : List Entry) (e : Entry) → IsRefused e.reply → events (h ++ e ∷ []) ≡ events h
events-stay h e r = events-push h e ∙ (ap (λ es. events h ++ es) (nothing-of e r).events ∙ append-nil (events h))

pub media-passes : (h : List Entry) (e : Entry) → IsRefused e.reply → deeds (h ++ e ∷ []) ≡ deeds h ++ passing h (later (now h) e.call) ∷ []
media-passes h e r = deeds-push h e ∙ ap (λ (rs : List Sent). deeds h ++ passing h (later (now h) e.call) ∷ spending rs) (nothing-of e r).sends

pub padding-passes : (h : List Entry) (e : Entry) → IsRefused e.reply → padding (h ++ e ∷ []) ≡ padding_at h (later (now h) e.call)
padding-passes h e r =
    padding-push h e
    ∙ ap (λ (rs : List Sent). fold (padding_after (floor h)) (step (padding h) (padding_passing h (later (now h) e.call))) rs) (nothing-of e r).sends
