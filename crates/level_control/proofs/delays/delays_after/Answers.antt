use Rattle.level_control.proofs.delays.delays_after.Goals as goal

pub next_delays-requires-clause-kept : goal.next_delays-requires-clause-kept
next_delays-requires-clause-kept c = c.requires.kept c.in-Some.delays c.in-Some.is
