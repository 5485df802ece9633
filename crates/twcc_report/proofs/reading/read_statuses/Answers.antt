use Rattle.std.proofs.Common.{[], ◌∷◌, length, ap, ◌∙◌, arith, length-append}
use Rattle.std.proofs.lemmas.Result.{err_from_is_err_and}
use Rattle.twcc_report.specs.Reading.{statuses_at}
use Rattle.twcc_report.proofs.Statuses.{goes_on, ends, is_done}
use Rattle.twcc_report.proofs.reading.read_statuses.Goals as goal

pub returns-in_err-status-clause-statuses : goal.returns-in_err-status-clause-statuses
returns-in_err-status-clause-statuses c =
    let p = err_from_is_err_and c.from_residual-in_err-status.result c.from_residual-in_err-status.ensures.1 in
    rw (p.1, p.2)
    (ends c.in_err-status.field-0.0 c.loop-symbol.statuses.items c.args.symbols.now c.loop-symbol.symbol-index c.loop-symbol.rest.now
    (statuses_at c.args.symbols.now c.args.bytes.now) c.loop-symbol-test.true c.in_err-status.ensures c.loop-symbol.invariant.0)

pub loop-symbol-preserved : goal.loop-symbol-preserved
loop-symbol-preserved c = (
  rw c.push_reserved.ensures.items
      (goes_on c.loop-symbol.statuses.items c.args.symbols.now c.loop-symbol.symbol-index c.loop-symbol.rest.now c.in_ok-status.status c.in_ok-status.behind.now
      (statuses_at c.args.symbols.now c.args.bytes.now) c.loop-symbol-test.true c.in_ok-status.ensures c.loop-symbol.invariant.0),
  omega (arith, ap length c.push_reserved.ensures.items, length-append c.loop-symbol.statuses.items (c.in_ok-status.status ∷ [])),
  c.push_reserved.ensures.capacity ∙ c.loop-symbol.invariant.2,
)

pub returns-clause-statuses : goal.returns-clause-statuses
returns-clause-statuses c =
    is_done c.loop-symbol.statuses.items c.args.symbols.now c.loop-symbol.symbol-index c.loop-symbol.rest.now
    (statuses_at c.args.symbols.now c.args.bytes.now) c.loop-symbol-test.false c.loop-symbol.invariant.0
