use Rattle.std.proofs.Common.{◌≡◌, ap, sym, ◌∙◌, subst, Result, Ok}
use Rattle.gcc_units.specs.Listed.{bare}
use Rattle.twcc_report.specs.declared.fault.ReportFault.{ReportFault}
use Rattle.twcc_report.specs.Spelling.{Feedback, view}
use Rattle.twcc_report.specs.Reading.{read_of}
use Rattle.send_core.specs.Reports.{events, findings_read}
use Rattle.send_core.proofs.parts.Parts.findings.Goals as goal

pub returns : goal.returns
returns c = λ h s.
    let read : read_of c.args.bytes.now.items ≡ Ok (view c.in-Ok.report) = subst (λ bs. read_of bs ≡ Ok (view c.in-Ok.report)) c.as_slice.ensures.items c.in-Ok.ensures.exact in
    c.in_ok-found.ensures (events h) s.packets ∙ ap (λ (r : Result Feedback ReportFault). bare (findings_read (events h) r)) (sym read)
