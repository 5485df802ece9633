use Rattle.std.proofs.Common.{◌++◌, ap, ◌∙◌, arith}
use Rattle.gcc_units.proofs.Walk.{flat_map-push}
use Rattle.twcc_report.specs.Runs.{symbols_of_run, all_symbols_of}
use Rattle.twcc_report.proofs.InRuns.{run_taken}
use Rattle.twcc_report.proofs.runs.push_chunk.Goals as goal

pub returns : goal.returns
returns c =
    ap all_symbols_of c.in_ok-push.ensures.items
    ∙ flat_map-push symbols_of_run c.args.runs.now.items _
    ∙ ap (λ xs. all_symbols_of c.args.runs.now.items ++ xs) (run_taken c.args.word c.min.result c.args.left (omega arith) c.min.ensures)
