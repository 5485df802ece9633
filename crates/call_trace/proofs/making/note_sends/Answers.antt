use Rattle.std.proofs.Common.{◌+◌, ◌∙◌, ◌++◌, ap, sym, arith, vec_len}
use Rattle.send_core.specs.declared.call.Reply.{Reply}
use Rattle.call_trace.specs.Making.{moments_by}
use Rattle.call_trace.proofs.Asking.{resized}
use Rattle.call_trace.proofs.making.note_sends.Goals as goal

pub returns-in_ok-resize : goal.returns-in_ok-resize
returns-in_ok-resize c =
    c.in_ok-resize.ensures.items
    ∙ (resized c.args.moments.now.items c.in-Paced.sent.items (vec_len c.args.moments.now) (c.len.result + c.len-in-Paced.result) c.in-Paced.at (omega (arith, c.args.moments.now.ok.0)) (omega (arith, c.len.ensures, c.len-in-Paced.ensures))
    ∙ ap (λ (r : Reply). c.args.moments.now.items ++ moments_by r) (sym c.in-Paced.is))
