use Rattle.std.proofs.Common.{◌+◌, sym, ◌∙◌, ap, subst, add-zero}
use Rattle.send_core.specs.History.{entry}
use Rattle.live_sender.specs.Live.{StandsFor}
use Rattle.call_trace.specs.Ordered.{ordered}
use Rattle.gcc_live.specs.Summing.{bytes_of}
use Rattle.gcc_live.proofs.Lines.{asked-more, looked-more, bytes-more}
use Rattle.gcc_live.proofs.made.serve_line.Goals as goal

pub returns-in_ok-reply-in-Ask-clause-stands : goal.returns-in_ok-reply-in-Ask-clause-stands
returns-in_ok-reply-in-Ask-clause-stands c = λ lines stands.
    subst (StandsFor c.serve.new.sender) (sym (asked-more lines c.args.line c.in-Ask.call c.in_ok-reply-in-Ask.reply c.in-Ask.is (c.in_ok-reply-in-Ask.ensures.reply (ordered lines) stands)))
    (c.in_ok-reply-in-Ask.ensures.stands (ordered lines) c.args.line.actor stands)

pub returns-in_ok-reply-in-Ask-clause-bytes : goal.returns-in_ok-reply-in-Ask-clause-bytes
returns-in_ok-reply-in-Ask-clause-bytes c = λ lines stands.
    ap bytes_of (asked-more lines c.args.line c.in-Ask.call c.in_ok-reply-in-Ask.reply c.in-Ask.is (c.in_ok-reply-in-Ask.ensures.reply (ordered lines) stands))
    ∙ (bytes-more (ordered lines) (entry c.args.line.actor c.in-Ask.call c.in_ok-reply-in-Ask.reply)
    ∙ ap (λ n. bytes_of (ordered lines) + n) (sym c.bytes_by.ensures.bytes))

pub returns-in-Look-clause-stands : goal.returns-in-Look-clause-stands
returns-in-Look-clause-stands c = λ lines stands. subst (StandsFor c.args.sender.now) (sym (looked-more lines c.args.line c.in-Look.is)) stands

pub returns-in-Look-clause-bytes : goal.returns-in-Look-clause-bytes
returns-in-Look-clause-bytes c = λ lines stands. ap bytes_of (looked-more lines c.args.line c.in-Look.is) ∙ sym (add-zero (bytes_of (ordered lines)))
