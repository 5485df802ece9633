use Rattle.std.proofs.Common.{◌≡◌, ◌+◌, List, length, sym, ◌∙◌, ap, subst, arith}
use Rattle.sent_history.specs.Balance.{expired}
use Rattle.sent_history.specs.Crediting.{outstanding}
use Rattle.sent_history.specs.Events.{packets}
use Rattle.sent_history.specs.Kept as history_kept
use Rattle.send_core.specs.declared.call.Entry.{Entry}
use Rattle.send_core.specs.declared.parts.Parts.{Parts}
use Rattle.send_core.specs.Reports.{events}
use Rattle.live_sender.specs.declared.sums.Sums.{Sums}
use Rattle.live_sender.specs.Live.{StandsFor}
use Rattle.live_sender.specs.Sums.{credited}
use Rattle.sent_history.specs.Laws.{packets_balance}
use Rattle.live_sender.proofs.live.LiveSender.counters.Goals as goal
use Rattle.live_sender.proofs.live.LiveSender.counters.Goals.{After-from}

-- all that were sent are credited, outstanding or expired
balance : (c : After-from) (h : List Entry) → StandsFor c.args.self.now h
    → c.sent-sent.result ≡ c.sums-sums.result.credited + c.outstanding-outstanding.result + expired (events h)
balance c h s =
    let kept : history_kept.StandsFor c.parts-parts.result.now.history (events h) = subst (λ (p : Parts). history_kept.StandsFor p.history (events h)) (sym c.parts-parts.ensures.parts) s.parts.packets in
    let many : c.sent-sent.result ≡ length (packets (events h)) = c.sent-sent.ensures (events h) kept in
    let waits : c.outstanding-outstanding.result ≡ outstanding (events h) = c.outstanding-outstanding.ensures (events h) kept in
    let credits : c.sums-sums.result.credited ≡ credited h = ap (λ (x : Sums). x.credited) c.sums-sums.ensures ∙ ap (λ (x : Sums). x.credited) s.sums in
    omega (arith, many, waits, credits, packets_balance (events h) s.parts.more.few_statuses)

pub overflow_sub-result-2 : goal.overflow_sub-result-2
overflow_sub-result-2 c = omega (arith, c.from.ensures, balance c c.parts-parts.ensures.stands.0 c.parts-parts.ensures.stands.1)

pub returns-clause-expired : goal.returns-clause-expired
returns-clause-expired c = λ h s.
    omega (arith, c.from.ensures, balance (goal.at.returns-clause-expired c).After-from h s)
