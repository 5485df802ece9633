use Rattle.std.proofs.Common.{ap, ℕ}
use Rattle.gcc_units.specs.Listed.{Listed}
use Rattle.link_path.specs.declared.link.Arrival.{Arrival}
use Rattle.link_loop.proofs.Ends.{closed-by}
use Rattle.link_loop.proofs.running.run_loop.Goals as goal

pub returns-clause-closed : goal.returns-clause-closed
returns-clause-closed c =
    closed-by c.args.settings c.args.millis _ _ _ _ _ c.requires.settings c.requires.some c.requires.most c.in_ok-end.ensures.read c.in_ok-end.ensures.sender (ap (λ (l : Listed Arrival). l.items) c.in_ok-end.ensures.delivered)
    (ap (λ (l : Listed Arrival). l.items) c.in_ok-end.ensures.inside) (ap (λ (l : Listed ℕ). l.items) c.in_ok-end.ensures.dropped) c.in_ok-end.ensures.reports
