use Rattle.std.proofs.lemmas.Result.{err_from_is_err_and}
use Rattle.twcc_report.specs.Reading.{statuses_at}
use Rattle.twcc_report.specs.Runs.{expanded, all_symbols_of}
use Rattle.twcc_report.proofs.InRuns.{no_run, runs_go_on, runs_end, runs_are_done}
use Rattle.twcc_report.proofs.runs.read_status_runs.Goals as goal

pub returns-in_err-rest : goal.returns-in_err-rest
returns-in_err-rest c =
    let p = err_from_is_err_and c.from_residual-in_err-rest.result c.from_residual-in_err-rest.ensures.1 in
    rw (p.1, p.2)
    (runs_end c.in_err-rest.field-0.0 (expanded c.loop-symbol.runs.items) c.args.symbols.now c.loop-symbol.symbol-index c.loop-symbol.rest.now no_run
    (statuses_at (all_symbols_of c.args.symbols.now) c.args.bytes.now) c.loop-symbol-test.true c.in_err-rest.ensures c.loop-symbol.invariant)

pub loop-symbol-preserved : goal.loop-symbol-preserved
loop-symbol-preserved c =
    runs_go_on (expanded c.loop-symbol.runs.items) (expanded c.read_run.new.runs.items) c.args.symbols.now c.loop-symbol.symbol-index c.loop-symbol.rest.now c.in_ok-rest.rest.now no_run
    (statuses_at (all_symbols_of c.args.symbols.now) c.args.bytes.now) c.loop-symbol-test.true c.in_ok-rest.ensures c.loop-symbol.invariant

pub returns : goal.returns
returns c =
    runs_are_done (expanded c.loop-symbol.runs.items) c.args.symbols.now c.loop-symbol.symbol-index c.loop-symbol.rest.now
    (statuses_at (all_symbols_of c.args.symbols.now) c.args.bytes.now) c.loop-symbol-test.false c.loop-symbol.invariant
