use Rattle.std.proofs.Common.{◌++◌, ◌∙◌, ap}
use Rattle.send_core.specs.declared.call.Reply.{Reply}
use Rattle.send_core.specs.History.{entry}
use Rattle.reply_text.specs.Text.{line_of}
use Rattle.reply_text.proofs.serving.serve.Goals as goal

pub returns-in-Ok-clause-line : goal.returns-in-Ok-clause-line
returns-in-Ok-clause-line c =
    c.in_ok-push_line-in-Ok.ensures c.args.call
    ∙ (ap (λ xs. xs ++ line_of (entry c.args.caller c.args.call c.in-Ok.answer.reply)) c.new-line.ensures.bytes
    ∙ ap (λ (r : Reply). line_of (entry c.args.caller c.args.call r)) c.in-Ok.ensures.reply)
