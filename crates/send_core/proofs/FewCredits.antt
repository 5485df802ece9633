-- A report credits no more packets than it names received.
use Rattle.std.proofs.Common.{◌≡◌, ℕ, ℤ, ◌+◌, ◌≤◌, Bool, true, false, cond, Option, None, Some, List, [], ◌∷◌, length, length-append, map, count_by, subst, sym, arith}
use Rattle.std.specs.List.{enumerate_from}
use Rattle.std.proofs.lemmas.List.Sums.{sum_by-cons}
use Rattle.gcc_units.specs.Unwrapping.{unwrapped}
use Rattle.gcc_units.specs.declared.shared_types.Judged.{Judged}
use Rattle.twcc_report.specs.Spelling.{Feedback}
use Rattle.twcc_report.specs.declared.report.Status.{Status}
use Rattle.twcc_report.specs.declared.report.Status.TheVariants.{NotReceived, Small, Large}
use Rattle.sent_history.specs.declared.slot.Outgoing.{Outgoing}
use Rattle.sent_history.specs.Events.{Event}
use Rattle.sent_history.specs.Crediting.{Account, is_received, has, verdict_on, kept_packet, verdict_if, verdict, verdict_at, number_at, arrival, credit_in, credits_in, told, judged, account}

on-few : (credited missed : Bool) (n : ℕ) (packet : Outgoing) (status : Status) (arrived : ℤ)
    → length (credit_in (verdict_on credited missed n packet status arrived)) ≤ cond (is_received status) 1 0
unfolding verdict_on
on-few true missed n packet status arrived = omega arith
on-few false true n packet NotReceived arrived = omega arith
on-few false false n packet NotReceived arrived = omega arith
on-few false missed n packet (Small d) arrived = omega arith
on-few false missed n packet (Large d) arrived = omega arith

one-few : (a : Account) (status : Status) (o : Option ℕ) (arrived : ℤ) → length (credit_in (verdict a status o arrived)) ≤ cond (is_received status) 1 0
unfolding verdict
one-few a status None arrived = omega arith
one-few a status (Some n) arrived = by_kept (kept_packet a.packets n)
  where
    by_kept : (o : Option Outgoing) → length (credit_in (verdict_if a n status arrived o)) ≤ cond (is_received status) 1 0
    by_kept None = omega arith
    by_kept (Some packet) = on-few (has a.credited n) (has a.missed n) n packet status arrived

all-few : (a : Account) (report : Feedback) (k : ℕ) (statuses : List Status)
    → length (credits_in (map (verdict_at a report) (enumerate_from k statuses))) ≤ count_by is_received statuses
all-few a report k [] = omega arith
all-few a report k (s ∷ statuses) =
    let one : length (credit_in (verdict_at a report (k, s))) ≤ cond (is_received s) 1 0 =
    one-few a s (number_at a report.base k) (arrival (unwrapped a.reference report.reference) report.statuses k) in
    let more : length (credits_in (map (verdict_at a report) (enumerate_from (k + 1) statuses))) ≤ count_by is_received statuses = all-few a report (k + 1) statuses in
    let all : count_by is_received (s ∷ statuses) ≡ cond (is_received s) 1 0 + count_by is_received statuses = sum_by-cons (λ (x : Status). cond (is_received x) 1 0) s statuses in
    rw (length-append (credit_in (verdict_at a report (k, s)))) (omega arith)

pub credits-few : (events : List Event) (report : Feedback) (given : Judged) → given ≡ told (judged events report)
    → length given.received.items ≤ count_by is_received report.statuses
credits-few events report given is =
    subst (λ (j : Judged). length j.received.items ≤ count_by is_received report.statuses) (sym is) (all-few (account events) report 0 report.statuses)
