-- What the counters tell is what a history comes to.
use Rattle.std.proofs.Common.{◌≡◌, List, length}
use Rattle.sent_history.specs.Balance.{expired}
use Rattle.sent_history.specs.Crediting.{outstanding}
use Rattle.sent_history.specs.Events.{reports}
use Rattle.send_core.specs.declared.call.Entry.{Entry}
use Rattle.send_core.specs.History.{accepted, sent, waiting}
use Rattle.send_core.specs.Reports.{events}
use Rattle.live_sender.specs.declared.looking.Counters.{Counters}
use Rattle.live_sender.specs.Sums.{credited, missing, refused, totals_of}
use Rattle.capi.specs.Looking.{total_told, stats_told, stats_after}

pub stats-are : (c : Counters) (h : List Entry) → c.sent ≡ length (sent h) → c.sent_as ≡ totals_of (sent h)
    → c.credited ≡ credited h → c.missing ≡ missing h → c.expired ≡ expired (events h) → c.refused ≡ refused h
    → c.accepted ≡ length (accepted h) → c.waiting ≡ length (waiting h) → c.outstanding ≡ outstanding (events h) → c.judged ≡ length (reports (events h))
    → stats_told c ≡ stats_after h
stats-are c h s kinds cr m x r a w o j = λ i. record {
  sent = s i;
  audio = total_told (kinds i).audio;
  media = total_told (kinds i).media;
  probes = total_told (kinds i).probes;
  padding = total_told (kinds i).padding;
  credited = cr i;
  missing = m i;
  expired = x i;
  refused = r i;
  accepted = a i;
  waiting = w i;
  outstanding = o i;
  judged = j i;
}
