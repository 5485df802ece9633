use Rattle.std.proofs.Common.{◌≡◌, ◌*◌, ◌^◌, ◌≤◌, length, take}
use Rattle.send_core.specs.History.{sent}
use Rattle.send_laws.proofs.counts.sent_in.Given as goal

abbrev pub invariant-loop-k : goal.invariant-loop-k
invariant-loop-k l = record {
  count_is : l.count ≡ length (sent (take l.k l.journal.items));
  few : l.count ≤ 2 ^ 32 * l.k;
}
