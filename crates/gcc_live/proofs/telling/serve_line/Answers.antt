use Rattle.std.proofs.Common.{◌+◌, refl, ap}
use Rattle.gcc_units.specs.Listed.{Listed}
use Rattle.call_trace.specs.Ordered.{ordered}
use Rattle.reply_text.specs.declared.seen.Seen.{Seen}
use Rattle.gcc_live.proofs.Lines.{told-ask, told-look}
use Rattle.gcc_live.proofs.telling.serve_line.Goals as goal

pub returns-in_ok-push_line-in-Ask-clause-told : goal.returns-in_ok-push_line-in-Ask-clause-told
returns-in_ok-push_line-in-Ask-clause-told c = λ lines are.
    told-ask c.args.sender.now c.serve.new.sender c.args.told.now (record { text = c.push_line.new.text; calls = c.args.told.now.calls + 1; glances = c.args.told.now.glances }) lines c.args.line c.in-Ask.call c.in_ok-reply-in-Ask.reply are c.in-Ask.is
    (c.in_ok-reply-in-Ask.ensures.reply (ordered lines) are.stands) (c.in_ok-reply-in-Ask.ensures.stands (ordered lines) c.args.line.actor are.stands) (c.in_ok-push_line-in-Ask.ensures c.in-Ask.call) refl refl

pub returns-in-Ok-clause-told : goal.returns-in-Ok-clause-told
returns-in-Ok-clause-told c = λ lines are.
    told-look c.args.sender.now c.args.told.now (record { text = c.args.told.now.text; calls = c.args.told.now.calls; glances = c.push.new.self }) lines c.args.line c.target.result are c.in-Look.is
    (c.target.ensures.target (ordered lines) are.stands) refl refl (ap (λ (s : Listed Seen). s.items) c.in-Ok.ensures.ok)
