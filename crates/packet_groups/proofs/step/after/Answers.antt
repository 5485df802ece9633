use Rattle.packet_groups.proofs.Bounds.{kept_with}
use Rattle.packet_groups.proofs.step.after.Goals as goal

pub returns-then-joins-clause-kept : goal.returns-then-joins-clause-kept
returns-then-joins-clause-kept c =
    rw (c.next-then-joins.ensures, c.end_of-last.ensures) (kept_with c.args.state c.in-Some.group c.args.credit.now c.in-Some.is c.requires.kept c.requires.within c.if-credit-group.false)
