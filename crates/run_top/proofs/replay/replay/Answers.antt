use Rattle.run_top.proofs.replay.replay.Goals as goal

pub print_trace-requires : goal.print_trace-requires
print_trace-requires c = c.in_ok-trace.ensures.fits.few_lines
