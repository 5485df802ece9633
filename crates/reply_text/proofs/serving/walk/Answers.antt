use Rattle.std.proofs.Common.{◌≡◌, ℕ, List, [], ◌∷◌, ◌++◌, Some, sym, ◌∙◌, ap, subst, arith}
use Rattle.std.proofs.lemmas.Bool.Decides.{Decides-eqb}
use Rattle.std.proofs.lemmas.Slice.Eq.{strip_prefix_is}
use Rattle.gcc_units.specs.Listed.{Listed}
use Rattle.send_core.specs.declared.call.Entry.{Entry}
use Rattle.send_core.specs.Reply.{target}
use Rattle.reply_text.specs.Verdict.{title, line}
use Rattle.reply_text.specs.Walking.{IsServed}
use Rattle.reply_text.specs.Looking.{AreTargets}
use Rattle.reply_text.proofs.Exact.{few_calls}
use Rattle.reply_text.proofs.Lefts.{left_begins}
use Rattle.reply_text.proofs.NextLines.{placed_first, targets_first, targets_on, begins_more}
use Rattle.reply_text.proofs.serving.walk.Goals as goal

pub loop-k-init : goal.loop-k-init
loop-k-init c =
    let none : c.in_ok-sender.sender ≡ [] = c.in_ok-sender.ensures in
    let kept : c.keep.new.targets.items ≡ c.target.result ∷ [] = c.in_ok-keep.ensures ∙ ap (λ (l : Listed ℕ). l.items ++ c.target.result ∷ []) c.new-targets.ensures in
    let is : c.target.result ≡ target [] = c.target.ensures.target ∙ ap target none in
    record {
      begins = (none, strip_prefix_is Decides-eqb c.args.text.now title (Some c.in-Some.rest) c.in-Some.ensures.cases);
      placed = placed_first c.args.lines.now c.args.actors c.in_ok-sender.sender none;
      targets = subst (λ (h : List Entry). AreTargets h c.keep.new.targets.items) (sym none) (subst (λ ts. AreTargets [] ts) (sym kept) (targets_first c.target.result is (omega (arith, c.target.type_inv))));
    }

pub step-requires-clause-room : goal.step-requires-clause-room
step-requires-clause-room c =
    let long = (left_begins c.args.lines.now c.args.actors c.args.text.now c.loop-k.k c.loop-k.sender c.loop-k.rest.now c.loop-k.invariant.begins).1 in
    omega (arith, long, few_calls c.args.lines.now, c.count_calls-k-end.ensures)

pub returns-in_default-2 : goal.returns-in_default-2
returns-in_default-2 c =
    line c.loop-k.sender c.loop-k.rest.now (omega (arith, c.count_calls-k-end.ensures)) c.loop-k.invariant.begins (rw c.in_default-2.is at c.in_ok-more.ensures.bad)

pub loop-k-preserved : goal.loop-k-preserved
loop-k-preserved c =
    let served : IsServed c.args.lines.now c.args.actors c.loop-k.sender c.step.new.sender c.loop-k.rest.now c.in-Some-2.more.now = rw c.in-Some-2.is at c.in_ok-more.ensures.good in
    record {
      begins = begins_more c.args.lines.now c.args.actors c.args.text.now c.loop-k.k c.loop-k.sender c.step.new.sender c.loop-k.rest.now c.in-Some-2.more.now c.loop-k.invariant.begins served;
      placed = rw c.in-Some-2.is at c.in_ok-more.ensures.placed;
      targets = targets_on c.loop-k.sender c.step.new.sender served.served c.loop-k.targets.items c.keep-in-loop-k.new.targets.items c.target-in-loop-k.result c.loop-k.invariant.targets served.grown
          c.target-in-loop-k.ensures.target (omega (arith, c.target-in-loop-k.type_inv)) c.in_ok-keep-2.ensures;
    }
