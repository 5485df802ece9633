use Rattle.std.proofs.Common.{subst, ◌*◌, ◌≤◌, sum}
use Rattle.nack_rtx.specs.Resending.{account}
use Rattle.nack_rtx.proofs.Repeats.{resends_count, sum_few, sound}
use Rattle.nack_rtx.proofs.laws.resends_are_few.Goals as goal

pub returns-clause-count : goal.returns-clause-count
returns-clause-count c = λ s media a seqs each. resends_count s media a seqs each

pub returns-clause-few : goal.returns-clause-few
returns-clause-few c = λ s events.
    let ok = sound s events in
    subst (λ k. sum (account s events).resent ≤ s.repeats * k) ok.each (sum_few (account s events).resent s.repeats ok.few)
