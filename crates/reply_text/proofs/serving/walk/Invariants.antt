use Rattle.reply_text.specs.Verdict.{Begins}
use Rattle.reply_text.specs.Walking.{ArePlaced}
use Rattle.reply_text.specs.Looking.{AreTargets}
use Rattle.reply_text.proofs.serving.walk.Given as goal

abbrev pub invariant-loop-k : goal.invariant-loop-k
invariant-loop-k l = record {
  begins : Begins l.lines l.actors l.text l.k l.sender l.rest;
  placed : ArePlaced l.lines l.actors l.sender l.cursors;
  targets : AreTargets l.sender l.targets.items;
}
