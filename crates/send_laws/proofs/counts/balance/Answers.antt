use Rattle.std.proofs.Common.{arith, List, ap}
use Rattle.sent_history.specs.Crediting.{outstanding}
use Rattle.sent_history.specs.Balance.{expired}
use Rattle.send_core.specs.declared.call.Entry.{Entry}
use Rattle.send_core.specs.Reports.{events}
use Rattle.send_laws.proofs.counts.balance.Goals as goal

pub returns-clause-expired : goal.returns-clause-expired
returns-clause-expired c =
    let entries = c.journal-journal.ensures.entries in
    omega (arith, ap (λ (h : List Entry). expired (events h)) entries, ap (λ (h : List Entry). outstanding (events h)) entries)
