use Rattle.std.proofs.Common.{◌∙◌, ap}
use Rattle.gcc_units.specs.Listed.{Listed}
use Rattle.send_core.specs.declared.call.Entry.{Entry}
use Rattle.send_core.proofs.Tallies.{tally_some, tally_none}
use Rattle.send_core.proofs.journal.Journal.tally.Goals as goal

pub returns-clause-some : goal.returns-clause-some
returns-clause-some c = tally_some c.self.inside.entries.items c.args.self.now.items c.self.inside.tallies.items c.args.n c.copied.result c.self.invariant.tallies
    (ap (λ (v : Listed Entry). v.items) c.self.view_is) (c.copied.ensures ∙ c.get.ensures)

pub returns-clause-none : goal.returns-clause-none
returns-clause-none c = tally_none c.self.inside.entries.items c.args.self.now.items c.self.inside.tallies.items c.args.n c.copied.result c.self.invariant.tallies
    (ap (λ (v : Listed Entry). v.items) c.self.view_is) (c.copied.ensures ∙ c.get.ensures)
