use Rattle.level_control.proofs.drains.rate_before.Goals as goal

pub returns-in-Some-clause-bound : goal.returns-in-Some-clause-bound
returns-in-Some-clause-bound c = (c.requires.rest.drain c.in-Some.drain c.in-Some.is).before
