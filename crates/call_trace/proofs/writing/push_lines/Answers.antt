use Rattle.std.proofs.Common.{◌∙◌, subst}
use Rattle.std.proofs.lemmas.List.Elements.{All-more}
use Rattle.call_trace.specs.declared.trace.Line.{Line}
use Rattle.call_trace.specs.Written.{IsSpelled}
use Rattle.call_trace.proofs.Spelling.{lines_pushed}
use Rattle.call_trace.proofs.writing.push_lines.Goals as goal

pub loop-line-preserved : goal.loop-line-preserved
loop-line-preserved c =
    let line = c.line-item.result in
    let P : Line → Type 0 = λ l. IsSpelled l.actor l.action in
    record {
      written = lines_pushed _ _ _ _ _ c.args.lines.now c.loop-line.line-index line c.loop-line.invariant.written c.in_ok-push_str.ensures.bytes c.in_ok-push_str-2.ensures.bytes (c.as_str.ensures.value ∙ c.in_ok-line_text.ensures.written) c.line-item.is c.loop-line-test.true;
      spells = All-more P c.args.lines.now c.loop-line.line-index line c.loop-line-test.true c.loop-line.invariant.spells (subst P c.line-item.is c.in_ok-line_text.ensures.spells);
    }
