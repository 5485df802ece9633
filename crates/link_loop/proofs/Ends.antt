-- The end of a closed loop.
use Rattle.std.proofs.Common.{◌≡◌, ℕ, ◌+◌, ◌≤◌, List, ◌++◌, map, All, ◌∙◌, ap, arith}
use Rattle.twcc_report.specs.Spelling.{Feedback}
use Rattle.send_core.specs.declared.call.Entry.{Entry}
use Rattle.send_core.specs.History.{sent}
use Rattle.send_laws.proofs.Numbering.{all-numbered}
use Rattle.link_path.specs.declared.link.LinkSettings.{LinkSettings}
use Rattle.link_path.specs.declared.link.Arrival.{Arrival}
use Rattle.link_path.specs.Link.{Offer, offers, held, delivered, arrivals, dropped}
use Rattle.link_path.specs.KeptLink.{IsLink}
use Rattle.link_path.proofs.LinkRuns.{whole}
use Rattle.link_loop.specs.declared.TheConstants.{MOST_MILLIS}
use Rattle.link_loop.specs.Looping.{Looping, looping}
use Rattle.link_loop.specs.Kept.{IsRead, IsInOrder}
use Rattle.link_loop.specs.ClosedLoop.{offers_of, count_of, numbers, IsClosedLoop}
use Rattle.link_loop.proofs.Order.{order-looping}
use Rattle.link_loop.proofs.Closed.{IsTold, told-looping}
use Rattle.link_loop.proofs.Split.{IsFront, front-looping}
use Rattle.link_loop.proofs.Full.{not-over}
use Rattle.link_loop.proofs.Reported.{IsReported, reported-looping, told-delivered}
use Rattle.link_loop.proofs.Crediting.{credited-looping}
use Rattle.link_loop.proofs.Once.{numbers-append, offer_number, split, same-numbers, each-once}

pub closed : (s : LinkSettings) (n : ℕ) → IsLink s → 1 ≤ n → n ≤ MOST_MILLIS → All IsRead (looping s n).reports
    → IsClosedLoop s n (looping s n).history (delivered s (looping s n).events) (held s (looping s n).events) (dropped s (offers (looping s n).events)) (looping s n).reports
closed s n link some few read =
    let m : Looping = looping s n in
    let order : IsInOrder s m = order-looping s n link in
    let told : IsTold n m = told-looping s n few in
    let all : delivered s m.events ++ held s m.events ≡ arrivals s (offers m.events) = whole s m.events link order.bytes in
    let front : IsFront n m.over (delivered s m.events) (arrivals s (offers_of m.history)) = front-looping s n (arrivals s (offers_of m.history)) link (all ∙ ap (arrivals s) told.offered) in
    let reported : IsReported m.receiver m.reports (delivered s m.events) m.over = reported-looping s n link few in
    record {
      legal = order.legal;
      spelled = told.spelled;
      dropped_are = ap (dropped s) told.offered;
      arrivals_are = all ∙ ap (arrivals s) told.offered;
      last = front.last;
      last_is = omega (arith, front.early, some);
      last_of_all = λ room. omega (arith, front.now (not-over s n room), some);
      delivered_are = front.is;
      once = λ k.
          let parts = numbers-append k (delivered s m.events) (held s m.events) in
          let whole_ = ap (λ (xs : List Arrival). count_of k (numbers xs)) all in
          let offered = split s k (offers m.events) in
          let as_sent = ap (λ (os : List Offer). count_of k (map offer_number os)) told.offered ∙ ap (count_of k) (same-numbers m.history) in
          let sums : count_of k (numbers (delivered s m.events)) + count_of k (dropped s (offers m.events)) + count_of k (numbers (held s m.events)) ≡ count_of k (map offer_number (offers m.events)) =
          omega (arith, parts, whole_, offered) in
          sums ∙ as_sent ∙ each-once k (sent m.history) (all-numbered m.history order.legal.each);
      told = told-delivered m.receiver m.reports (delivered s m.events) m.over reported;
      bases = reported.based;
      credited = λ kept. (credited-looping s n link few kept read).pairs;
    }

pub closed-by : (s : LinkSettings) (n : ℕ) (history : List Entry) (out inside : List Arrival) (lost : List ℕ) (reports : List Feedback) → IsLink s → 1 ≤ n → n ≤ MOST_MILLIS
    → All IsRead (looping s n).reports → history ≡ (looping s n).history → out ≡ delivered s (looping s n).events → inside ≡ held s (looping s n).events → lost ≡ dropped s (offers (looping s n).events)
    → reports ≡ (looping s n).reports → IsClosedLoop s n history out inside lost reports
closed-by s n history out inside lost reports link some few read a b c d e = rw (a, b, c, d, e) (closed s n link some few read)
