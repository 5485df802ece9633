use Rattle.std.proofs.Common.{◌-◌, refl, sym, ◌∙◌, subst}
use Rattle.send_core.specs.Reply.{IsAnswered}
use Rattle.send_laws.proofs.Finding.{none-sent, some-sent, was-planned, first-before, span-within}
use Rattle.send_laws.proofs.probes.span_cluster.Goals as goal

pub returns-in_default-clause-none : goal.returns-in_default-clause-none
returns-in_default-clause-none c = (
  λ e. none-sent c.args.id c.journal-journal.result.now.items c.args.sender.now c.sends_for-sends.result c.journal-journal.ensures.entries c.sends_for-sends.ensures c.in_default.is,
  λ e. refl,
)

pub unreachable-requires : goal.unreachable-requires
unreachable-requires c =
    was-planned c.args.id c.journal-journal.result.now.items c.sends_for-sends.result c.in-Some.first
    (subst IsAnswered (sym c.journal-journal.ensures.entries) c.journal-journal.ensures.legal.each) c.sends_for-sends.ensures c.in-Some.is
    (sym c.rate_of.ensures ∙ c.in_default-rate_of.is)

pub returns-clause-none : goal.returns-clause-none
returns-clause-none c = (
  λ e. absurd cc,
  λ none. absurd (some-sent c.args.id c.journal-journal.result.now.items c.args.sender.now c.sends_for-sends.result c.in-Some.first c.journal-journal.ensures.entries
      c.sends_for-sends.ensures c.in-Some.is none),
)

pub returns-clause-bound : goal.returns-clause-bound
returns-clause-bound c =
    span-within c.args.id c.journal-journal.result.now.items c.args.sender.now c.sends_for-sends.result c.in-Some.first c.in-Some-rate_of.rate (c.sends_for-sends.result.last - c.in-Some.first)
    c.journal-journal.ensures.entries c.journal-journal.ensures.legal.each c.sends_for-sends.ensures c.in-Some.is (sym c.rate_of.ensures ∙ c.in-Some-rate_of.is) refl

pub overflow_sub-result : goal.overflow_sub-result
overflow_sub-result c =
    first-before c.args.id c.journal-journal.result.now.items c.args.sender.now c.sends_for-sends.result c.in-Some.first c.journal-journal.ensures.entries
    c.journal-journal.ensures.legal.each c.sends_for-sends.ensures c.in-Some.is
