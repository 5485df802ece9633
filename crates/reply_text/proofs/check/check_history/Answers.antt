use Rattle.std.proofs.Common.{◌≡◌, List, length, true, false, sym, ◌∙◌, subst}
use Rattle.call_trace.specs.declared.trace.Line.{Line}
use Rattle.reply_text.specs.declared.serving.Walked.{Walked}
use Rattle.reply_text.specs.Verdict.{calls, Begins, DiffersAt}
use Rattle.reply_text.specs.Walking.{IsWalked}
use Rattle.reply_text.specs.Looking.{AreTargets}
use Rattle.reply_text.proofs.Lefts.{begins_merges}
use Rattle.reply_text.proofs.Verdicts.{differs_legal, differs_differs, legal_legal, legal_nowhere, all_right, all_wrong}
use Rattle.reply_text.proofs.check.check_history.Goals as goal

-- ---- a bad line

bad_at : (c : goal.In-Bad) → DiffersAt c.args.trace.now.lines.items c.args.trace.now.actors c.args.text.now c.in-Bad.entry
bad_at c =
    let walked : DiffersAt c.as_slice-lines.result.now c.args.trace.now.actors c.args.text.now c.in-Bad.entry
    = subst (λ (w : Walked). IsWalked c.as_slice-lines.result.now c.args.trace.now.actors c.args.text.now w) c.in-Bad.is c.in_ok-entry.ensures in
    subst (λ (ls : List Line). DiffersAt ls c.args.trace.now.actors c.args.text.now c.in-Bad.entry) c.as_slice-lines.ensures.items walked

pub returns-in-Bad-clause-legal : goal.returns-in-Bad-clause-legal
returns-in-Bad-clause-legal c = differs_legal c.args.trace.now.lines.items c.args.trace.now.actors c.args.text.now c.requires.actors c.requires.each c.in-Bad.entry (bad_at c)

pub returns-in-Bad-clause-differs : goal.returns-in-Bad-clause-differs
returns-in-Bad-clause-differs c = differs_differs c.args.trace.now.lines.items c.args.trace.now.actors c.args.text.now c.requires.actors c.requires.each c.in-Bad.entry (bad_at c)

-- ---- a good line for each call

pub is_ending-requires-clause-merges : goal.is_ending-requires-clause-merges
is_ending-requires-clause-merges c =
    let walked : Begins c.as_slice-lines.result.now c.args.trace.now.actors c.args.text.now (length (calls c.as_slice-lines.result.now)) c.in-All.served.sender c.in-All.rest.now × AreTargets c.in-All.served.sender c.in-All.served.targets.items
    = subst (λ (w : Walked). IsWalked c.as_slice-lines.result.now c.args.trace.now.actors c.args.text.now w) c.in-All.is c.in_ok-entry.ensures in
    begins_merges c.as_slice-lines.result.now c.args.trace.now.actors c.args.text.now c.in-All.served.sender c.in-All.rest.now walked.0

pub returns-then-branch-clause-legal : goal.returns-then-branch-clause-legal
returns-then-branch-clause-legal c = legal_legal c.args.trace.now.lines.items c.args.trace.now.actors c.args.text.now c.requires.actors c.requires.each (all_right c.as_slice-lines.result.now c.args.trace.now.lines.items c.args.trace.now.actors c.args.text.now c.in-All.served c.in-All.rest c.in_ok-entry.field-0 c.as_slice-lines.ensures.items c.in-All.is c.in_ok-entry.ensures
    c.requires.lines (c.in_ok-is_ending-in-All.ensures.0 c.if-branch.true))

pub returns-then-branch-clause-differs : goal.returns-then-branch-clause-differs
returns-then-branch-clause-differs c = legal_nowhere c.args.trace.now.lines.items c.args.trace.now.actors c.args.text.now c.requires.actors c.requires.each (all_right c.as_slice-lines.result.now c.args.trace.now.lines.items c.args.trace.now.actors c.args.text.now c.in-All.served c.in-All.rest c.in_ok-entry.field-0 c.as_slice-lines.ensures.items c.in-All.is c.in_ok-entry.ensures
    c.requires.lines (c.in_ok-is_ending-in-All.ensures.0 c.if-branch.true))

pub returns-clause-legal : goal.returns-clause-legal
returns-clause-legal c = differs_legal c.args.trace.now.lines.items c.args.trace.now.actors c.args.text.now c.requires.actors c.requires.each c.count_calls.result (all_wrong c.as_slice-lines.result.now c.args.trace.now.lines.items c.args.trace.now.actors c.args.text.now c.in-All.served c.in-All.rest c.in_ok-entry.field-0 c.as_slice-lines.ensures.items c.in-All.is c.in_ok-entry.ensures
    (λ good. let is = sym c.if-branch.false ∙ c.in_ok-is_ending-in-All.ensures.1 good in absurd (let w : false ≡ true = is in cc)) c.count_calls.result c.count_calls.ensures)

pub returns-clause-differs : goal.returns-clause-differs
returns-clause-differs c = differs_differs c.args.trace.now.lines.items c.args.trace.now.actors c.args.text.now c.requires.actors c.requires.each c.count_calls.result (all_wrong c.as_slice-lines.result.now c.args.trace.now.lines.items c.args.trace.now.actors c.args.text.now c.in-All.served c.in-All.rest c.in_ok-entry.field-0 c.as_slice-lines.ensures.items c.in-All.is c.in_ok-entry.ensures
    (λ good. let is = sym c.if-branch.false ∙ c.in_ok-is_ending-in-All.ensures.1 good in absurd (let w : false ≡ true = is in cc)) c.count_calls.result c.count_calls.ensures)
