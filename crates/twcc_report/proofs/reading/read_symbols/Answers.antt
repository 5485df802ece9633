use Rattle.std.proofs.Common.{length, ap, ◌∙◌, ◌++◌, ◌-◌, take, arith}
use Rattle.twcc_report.specs.Chunks.{symbols_of}
use Rattle.twcc_report.proofs.Gathering.{goes_on, too_few, is_done}
use Rattle.twcc_report.proofs.reading.read_symbols.Goals as goal

pub returns-then-rest-lt2-clause-symbols : goal.returns-then-rest-lt2-clause-symbols
returns-then-rest-lt2-clause-symbols c =
    too_few c.args.count c.args.body.now c.loop-rest.symbols.items c.loop-rest.rest.now (omega arith) c.if-rest-lt2.true c.loop-rest.invariant.0

pub loop-rest-preserved : goal.loop-rest-preserved
loop-rest-preserved c = (
  goes_on c.args.count c.args.body.now c.loop-rest.symbols.items c.loop-rest.rest.now c.split_at.result.1.now c.push_symbols.new.symbols.items
      (omega arith) c.if-rest-lt2.false c.split_at.ensures.back
      (c.push_symbols.ensures.items ∙ ap (λ w. c.loop-rest.symbols.items ++ take (c.args.count - length c.loop-rest.symbols.items) (symbols_of w)) c.number16.ensures)
      c.loop-rest.invariant.0,
  omega arith,
)

pub returns-clause-symbols : goal.returns-clause-symbols
returns-clause-symbols c =
    is_done c.args.count c.args.body.now c.loop-rest.symbols.items c.loop-rest.rest.now (omega arith) c.loop-rest.invariant.0
