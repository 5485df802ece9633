use Rattle.std.proofs.Common.{◌∙◌}
use Rattle.call_trace.specs.Written.{whole_json}
use Rattle.call_trace.proofs.WrittenLists.{one_pushed, all_pushed, same_list, each_small}
use Rattle.call_trace.proofs.change_value.ids_value.Goals as goal

pub loop-id-preserved : goal.loop-id-preserved
loop-id-preserved c = one_pushed whole_json _ _ _ c.args.ids.now c.loop-id.id-index 0 c.loop-id.invariant c.in_ok-push.ensures.ok c.from.ensures c.loop-id-test.true

pub returns-clause-written : goal.returns-clause-written
returns-clause-written c = c.some_list.ensures ∙ same_list whole_json _ _ (all_pushed whole_json _ _ _ c.loop-id.invariant c.loop-id-test.false)

pub returns-clause-small : goal.returns-clause-small
returns-clause-small c = each_small c.args.ids.now c.type_inv.ids
