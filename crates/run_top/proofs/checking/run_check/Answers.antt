use Rattle.std.proofs.Common.{◌∙◌, subst}
use Rattle.run_top.specs.declared.words.Command.TheVariants as command
use Rattle.run_top.specs.Check.{verdict_text, ended_by}
use Rattle.run_top.specs.Served.{IsWritten}
use Rattle.run_top.proofs.Served.{served-text, verdict-well}
use Rattle.run_top.proofs.checking.run_check.Goals as goal

pub returns-in-Ok-verdict_text : goal.returns-in-Ok-verdict_text
returns-in-Ok-verdict_text g c =
    let text = subst (λ t. IsWritten t c.ended_by.result c.write_text.result (g.K.Sink.written c.args.sink.now) (g.K.Sink.written c.write_text.new.sink) (g.K.Sink.faults c.args.sink.now) (g.K.Sink.faults c.write_text.new.sink))
    (c.as_bytes.ensures.value ∙ c.in-Ok-verdict_text.ensures) c.write_text.ensures in
    let written = subst (λ e. IsWritten (verdict_text c.in-Ok.verdict) e c.write_text.result (g.K.Sink.written c.args.sink.now) (g.K.Sink.written c.write_text.new.sink) (g.K.Sink.faults c.args.sink.now) (g.K.Sink.faults c.write_text.new.sink))
    c.ended_by.ensures text in
    served-text command.Check (verdict_text c.in-Ok.verdict) (ended_by c.in-Ok.verdict) c.write_text.result
    (g.S.Source.left c.args.source.now) (g.S.Source.left c.source_verdict.new.source) (g.S.Source.faults c.args.source.now) (g.S.Source.faults c.source_verdict.new.source)
    (g.K.Sink.written c.args.sink.now) (g.K.Sink.written c.write_text.new.sink) (g.K.Sink.faults c.args.sink.now) (g.K.Sink.faults c.write_text.new.sink)
    (verdict-well c.in-Ok.verdict) c.in-Ok.ensures.read c.in-Ok.ensures.verdict written
