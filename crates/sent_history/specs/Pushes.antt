-- What one event more adds to the packets, the reports and the account.
use Rattle.std.proofs.Common.{◌≡◌, ℕ, List, [], ◌∷◌, ◌++◌, map, ap, sym, ◌∙◌, append_assoc, append-nil}
use Rattle.std.specs.List.{fold}
use Rattle.std.proofs.lemmas.List.Sums.{fold-append}
use Rattle.std.proofs.lemmas.Grind.{flat_map-append}
use Rattle.gcc_units.specs.declared.shared_types.Credit.{Credit}
use Rattle.twcc_report.specs.Spelling.{Feedback}
use Rattle.sent_history.specs.declared.slot.Outgoing.{Outgoing}
use Rattle.sent_history.specs.Events.{Event, added, reported, packet_in, report_in, packets, reports, last_sent_at}
use Rattle.sent_history.specs.Crediting.{Account, start, after, account, credits_in, judged}

pub account-push : (events : List Event) (e : Event) → account (events ++ e ∷ []) ≡ after (account events) e
unfolding account
account-push events e = fold-append after start events (e ∷ [])

packets_from : (a : Account) (events : List Event) → (fold after a events).packets ≡ a.packets ++ packets events
packets_from a [] = sym (append-nil a.packets)
packets_from a (added p ∷ events) = packets_from (after a (added p)) events ∙ append_assoc a.packets (p ∷ []) (packets events)
packets_from a (reported r ∷ events) = packets_from (after a (reported r)) events

-- the account's packets are those that were added
pub account_packets : (events : List Event) → (account events).packets ≡ packets events
unfolding account
account_packets events = packets_from start events

-- ---- one event more

pub added_more : (events : List Event) (p : Outgoing) → packets (events ++ added p ∷ []) ≡ packets events ++ p ∷ []
added_more events p = flat_map-append packet_in events (added p ∷ [])

pub added_reports : (events : List Event) (p : Outgoing) → reports (events ++ added p ∷ []) ≡ reports events
added_reports events p = flat_map-append report_in events (added p ∷ []) ∙ append-nil (reports events)

pub added_last : (events : List Event) (p : Outgoing) → last_sent_at (events ++ added p ∷ []) ≡ p.sent_at
added_last events p =
    let with : ℕ → Outgoing → ℕ = λ (moment : ℕ) (q : Outgoing). q.sent_at in
    ap (λ (ps : List Outgoing). fold with 0 ps) (added_more events p) ∙ fold-append with 0 (packets events) (p ∷ [])

pub reported_packets : (events : List Event) (r : Feedback) → packets (events ++ reported r ∷ []) ≡ packets events
reported_packets events r = flat_map-append packet_in events (reported r ∷ []) ∙ append-nil (packets events)

pub reported_more : (events : List Event) (r : Feedback) → reports (events ++ reported r ∷ []) ≡ reports events ++ r ∷ []
reported_more events r = flat_map-append report_in events (reported r ∷ [])

-- the numbers credited so far
pub added_credited : (events : List Event) (p : Outgoing) → (account (events ++ added p ∷ [])).credited ≡ (account events).credited
added_credited events p = ap (λ (a : Account). a.credited) (account-push events (added p))

pub reported_credited : (events : List Event) (r : Feedback)
    → (account (events ++ reported r ∷ [])).credited ≡ (account events).credited ++ map (λ (c : Credit). c.number) (credits_in (judged events r))
reported_credited events r = ap (λ (a : Account). a.credited) (account-push events (reported r))
