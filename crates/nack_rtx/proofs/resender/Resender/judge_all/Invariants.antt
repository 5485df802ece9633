use Rattle.std.proofs.Common.{◌+◌, ◌≤◌, take}
use Rattle.nack_rtx.specs.Resending.{Account}
use Rattle.nack_rtx.specs.Keeping.{Keeps}
use Rattle.nack_rtx.specs.Answering.{Works}
use Rattle.nack_rtx.proofs.resender.Resender.judge_all.Given as goal

abbrev pub invariant-loop-seq : goal.invariant-loop-seq
invariant-loop-seq l = record {
  works : (a : Account) → Keeps l.self a → Works l.self l.answering l.self.settings l.nack.media a (take l.seq-index l.nack.lost.items);
  few : l.answering.answered.unknown + l.answering.answered.spent ≤ l.seq-index;
}
