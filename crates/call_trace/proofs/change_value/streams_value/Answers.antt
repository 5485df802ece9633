use Rattle.std.proofs.Common.{◌∙◌, subst}
use Rattle.std.specs.List.{All}
use Rattle.std.proofs.lemmas.List.{take_all}
use Rattle.std.proofs.lemmas.List.Elements.{All-more}
use Rattle.call_trace.specs.Settings.{IsSmallStream}
use Rattle.call_trace.specs.Written.{stream_json}
use Rattle.call_trace.proofs.WrittenLists.{one_pushed, all_pushed, same_list}
use Rattle.call_trace.proofs.change_value.streams_value.Goals as goal

pub loop-stream-preserved : goal.loop-stream-preserved
loop-stream-preserved c = record {
  written = one_pushed stream_json _ _ _ c.args.streams.now c.loop-stream.stream-index _ c.loop-stream.invariant.written c.in_ok-push.ensures.ok c.in_ok-stream_value.ensures.written c.loop-stream-test.true;
  small = All-more IsSmallStream c.args.streams.now c.loop-stream.stream-index _ c.loop-stream-test.true c.loop-stream.invariant.small c.in_ok-stream_value.ensures.small;
}

pub returns-clause-written : goal.returns-clause-written
returns-clause-written c = c.some_list.ensures ∙ same_list stream_json _ _ (all_pushed stream_json _ _ _ c.loop-stream.invariant.written c.loop-stream-test.false)

pub returns-clause-small : goal.returns-clause-small
returns-clause-small c = subst (All IsSmallStream) (take_all _ c.args.streams.now c.loop-stream-test.false) c.loop-stream.invariant.small
