use Rattle.std.proofs.Common.{◌≡◌, ap, subst, sym, ◌++◌, ◌∙◌}
use Rattle.std.specs.List.{All, flat_map}
use Rattle.std.specs.String.{string_bytes}
use Rattle.std.proofs.Common.{List, ℕ, map}
use Rattle.gcc_units.specs.Listed.{Listed, bare}
use Rattle.call_trace.specs.declared.trace.Line.{Line}
use Rattle.call_trace.specs.Fields.{fed}
use Rattle.call_trace.specs.Plain.{plain, settled}
use Rattle.call_trace.specs.Grammar.{IsTrace}
use Rattle.call_trace.specs.Written.{line_text, IsSpelled, trace_text}
use Rattle.call_trace.proofs.Spelling.{trace_spelled, whole_text}
use Rattle.call_trace.proofs.writing.write_trace.Goals as goal

pub returns-clause-written : goal.returns-clause-written
returns-clause-written c =
    let trace = plain c.args.trace.now in
    let lines : string_bytes c.push_lines.new.text ≡ string_bytes c.in_ok-text.text ++ flat_map fed (map line_text trace.lines) =
    c.in_ok-push_lines.ensures.written ∙ ap (λ (ls : List Line). string_bytes c.in_ok-text.text ++ flat_map fed (map line_text ls)) c.as_slice.ensures.items in
    c.in_ok-bytes.ensures ∙ ap bare (whole_text trace _ _ _ c.in_ok-text.ensures.ok lines c.in_ok-push_str.ensures.bytes)

pub returns-clause-spells : goal.returns-clause-spells
returns-clause-spells c =
    let trace = plain c.args.trace.now in
    let P : Line → Type 0 = λ l. IsSpelled l.actor l.action in
    let written = returns-clause-written c in
    let items : c.in_ok-bytes.bytes.items ≡ trace_text trace = ap (λ (b : Listed ℕ). b.items) written in
    let spelled = trace_spelled trace c.requires (subst (All P) c.as_slice.ensures.items c.in_ok-push_lines.ensures.spells) in
    subst (λ (t : List ℕ). IsTrace t (settled trace)) (sym items) spelled
