use Rattle.std.proofs.Common.{◌+◌, ◌-◌, arith}
use Rattle.std.proofs.lemmas.Result.{err_from_is_err_and}
use Rattle.twcc_report.specs.Reading.{statuses_at}
use Rattle.twcc_report.specs.Runs.{expanded, symbols_of_run, with_front}
use Rattle.twcc_report.proofs.InRuns.{lost_is_read, run_goes_on, run_ends, run_is_done}
use Rattle.twcc_report.proofs.runs.read_run.Goals as goal

pub returns-then-run-eq0 : goal.returns-then-run-eq0
returns-then-run-eq0 c =
    lost_is_read (expanded c.args.runs.now.items) (expanded c.push_run.new.runs.items) c.args.run.count c.args.run.symbol c.args.bytes.now
    c.if-run-eq0.true c.in_ok-push_run.ensures

pub returns-in_err-status : goal.returns-in_err-status
returns-in_err-status c =
    let p = err_from_is_err_and c.from_residual-in_err-status.result c.from_residual-in_err-status.ensures.1 in
    rw (p.1, p.2)
    (run_ends c.in_err-status.field-0.0 (expanded c.loop-k.runs.items) (c.args.run.count - c.loop-k._k) (c.args.run.count - (c.loop-k._k + 1)) c.args.run.symbol c.loop-k.rest.now
    (with_front (expanded c.args.runs.now.items) (statuses_at (symbols_of_run c.args.run) c.args.bytes.now))
    (omega (arith, c.loop-k-test.true)) c.in_err-status.ensures c.loop-k.invariant)

pub loop-k-preserved : goal.loop-k-preserved
loop-k-preserved c =
    run_goes_on (expanded c.loop-k.runs.items) (expanded c.push_run-in-loop-k.new.runs.items) (c.args.run.count - c.loop-k._k) (c.args.run.count - (c.loop-k._k + 1)) c.args.run.symbol c.loop-k.rest.now
    c.in_ok-status.status c.in_ok-status.behind.now
    (with_front (expanded c.args.runs.now.items) (statuses_at (symbols_of_run c.args.run) c.args.bytes.now))
    (omega (arith, c.loop-k-test.true)) c.in_ok-push_run-2.ensures c.in_ok-status.ensures c.loop-k.invariant

pub returns : goal.returns
returns c =
    run_is_done (expanded c.loop-k.runs.items) (c.args.run.count - c.loop-k._k) c.args.run.symbol c.loop-k.rest.now
    (with_front (expanded c.args.runs.now.items) (statuses_at (symbols_of_run c.args.run) c.args.bytes.now))
    (omega (arith, c.loop-k-test.false)) c.loop-k.invariant
