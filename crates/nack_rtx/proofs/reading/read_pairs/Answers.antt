use Rattle.std.proofs.Common.{[], ap, sym, ◌∙◌, arith}
use Rattle.gcc_units.specs.Listed.{bare}
use Rattle.nack_rtx.specs.Naming.{named_in}
use Rattle.nack_rtx.specs.Running.{adding}
use Rattle.nack_rtx.proofs.Naming.{goes_on, named-end}
use Rattle.nack_rtx.proofs.reading.read_pairs.Goals as goal

pub loop-rest-preserved : goal.loop-rest-preserved
loop-rest-preserved c =
    goes_on c.loop-rest.named c.add_pair.new.named (adding [] (named_in c.args.pairs.now)) c.loop-rest.rest.now c.split_at.result.1.now c.number16.result c.number16-in-loop-rest.result
    (omega arith) c.number16.ensures c.number16-in-loop-rest.ensures c.split_at.ensures.back c.in_ok-add_pair.ensures c.loop-rest.invariant

pub returns : goal.returns
returns c =
    c.into_list.ensures
    ∙ ap bare (ap (adding c.loop-rest.named) (sym (named-end c.loop-rest.rest.now c.loop-rest-test.false)) ∙ c.loop-rest.invariant)
