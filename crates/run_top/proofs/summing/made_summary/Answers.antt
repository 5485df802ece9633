use Rattle.std.proofs.Common.{◌<◌, length, List, sym, subst}
use Rattle.send_core.specs.declared.call.Entry.{Entry}
use Rattle.run_top.proofs.Made.{made_some}
use Rattle.run_top.proofs.summing.made_summary.Goals as goal

pub summary-requires : goal.summary-requires
summary-requires c =
    subst (λ (h : List Entry). 0 < length h) (sym c.in_ok-sender.ensures)
    (made_some c.args.seed c.args.calls c.requires.some (c.made_traces_have_all_calls.ensures c.args.seed c.args.calls 1))
