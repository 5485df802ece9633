use Rattle.std.proofs.Common.{◌∙◌, ap, sym, arith}
use Rattle.std.proofs.lemmas.Bool.Decides.{nat_tests}
use Rattle.std.proofs.lemmas.Result.{on_ok_weaker}
use Rattle.send_core.specs.Reply.{reply}
use Rattle.call_trace.specs.declared.making.Maker.{Maker}
use Rattle.call_trace.specs.Makers.{making}
use Rattle.call_trace.proofs.Asking.{asked-full, served, counted-push, making-push}
use Rattle.call_trace.proofs.making.Maker.ask.Goals as goal

pub returns-then-is_done-clause-making : goal.returns-then-is_done-clause-making
returns-then-is_done-clause-making c = sym (asked-full c.args.call (making c.args.self.now) (grind (arith, nat_tests, c.if-is_done.ensures)))

pub returns-in-Ok-clause-making : goal.returns-in-Ok-clause-making
returns-in-Ok-clause-making c =
    on_ok_weaker c.note_sends.result
    (λ more. making-push c.args.self.now _ c.args.call c.in-Ok.answer.reply (served c.args.self.now c.count.new.self c.apply.new.self c.note_sends.new.moments c.args.call c.in-Ok.answer.reply c.count.ensures c.in-Ok.ensures.grows more)
    (c.in-Ok.ensures.reply ∙ ap (λ (k : Maker). reply k.sender c.args.call) c.count.ensures) (grind (arith, nat_tests, c.if-is_done.ensures)))
    c.note_sends.ensures

pub returns-in-Ok-clause-counted : goal.returns-in-Ok-clause-counted
returns-in-Ok-clause-counted c =
    on_ok_weaker c.note_sends.result
    (λ more. counted-push c.args.self.now _ c.args.call c.in-Ok.answer.reply (served c.args.self.now c.count.new.self c.apply.new.self c.note_sends.new.moments c.args.call c.in-Ok.answer.reply c.count.ensures c.in-Ok.ensures.grows more)
    c.requires)
    c.note_sends.ensures
