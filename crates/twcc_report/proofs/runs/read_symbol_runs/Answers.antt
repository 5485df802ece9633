use Rattle.std.proofs.Common.{◌-◌, ◌++◌, length, min, take, ap, ◌∙◌, arith}
use Rattle.twcc_report.specs.Chunks.{symbols_of}
use Rattle.twcc_report.specs.Runs.{all_symbols_of}
use Rattle.twcc_report.proofs.Gathering.{goes_on, too_few, is_done}
use Rattle.twcc_report.proofs.InRuns.{left_over}
use Rattle.twcc_report.proofs.runs.read_symbol_runs.Goals as goal

pub returns-then-rest-lt2 : goal.returns-then-rest-lt2
returns-then-rest-lt2 c =
    too_few c.args.count c.args.body.now (all_symbols_of c.loop-left.runs.items) c.loop-left.rest.now (omega (arith, c.loop-left.invariant.1)) c.if-rest-lt2.true c.loop-left.invariant.0

pub loop-left-preserved : goal.loop-left-preserved
loop-left-preserved c =
    let symbols = all_symbols_of c.loop-left.runs.items in
    let word = c.number16-word.result in (
      goes_on c.args.count c.args.body.now symbols c.loop-left.rest.now c.split_at.result.1.now (all_symbols_of c.push_chunk.new.runs.items)
          (omega (arith, c.loop-left.invariant.1)) c.if-rest-lt2.false c.split_at.ensures.back
          (c.in_ok-push_chunk.ensures
          ∙ ap (λ n. symbols ++ take n (symbols_of word)) c.loop-left.invariant.1
          ∙ ap (λ w. symbols ++ take (c.args.count - length symbols) (symbols_of w)) c.number16-word.ensures)
          c.loop-left.invariant.0,
      left_over word c.loop-left.left c.args.count _ symbols (all_symbols_of c.push_chunk.new.runs.items)
          (ap (λ n. c.loop-left.left - n) (c.min.ensures ∙ ap (λ n. min n c.loop-left.left) c.symbol_count.ensures)) c.loop-left.invariant.1 c.in_ok-push_chunk.ensures,
    )

pub returns : goal.returns
returns c =
    is_done c.args.count c.args.body.now (all_symbols_of c.loop-left.runs.items) c.loop-left.rest.now (omega (arith, c.loop-left.invariant.1)) c.loop-left.invariant.0
