use Rattle.std.proofs.Common.{◌∙◌, ap, sym, subst, map, All, List}
use Rattle.std.proofs.lemmas.Result.{on_ok_weaker}
use Rattle.twcc_report.specs.Spelling.{Feedback, view}
use Rattle.twcc_report.specs.declared.report.Report.{Report}
use Rattle.link_path.specs.Receiver.{next_reports, told_all}
use Rattle.link_loop.specs.Looping.{all_served}
use Rattle.link_loop.specs.Kept.{IsAt, HasSpelling}
use Rattle.link_loop.proofs.Steps.{have-spellings}
use Rattle.link_loop.proofs.Frames.{at-told, reports-due}
use Rattle.link_loop.proofs.receiving.report.Goals as goal

pub serve_all-requires-clause-writable : goal.serve_all-requires-clause-writable
serve_all-requires-clause-writable c =
    subst (All HasSpelling) (sym c.as_slice.ensures.items) (have-spellings c.in_ok-reports.reports.items c.in_ok-reports.ensures.writable)

pub returns-clause-at : goal.returns-clause-at
returns-clause-at c =
    on_ok_weaker c.serve_all.result
    (λ served s m h.
    let told = at-told c.args.looper.now c.reports.new.self s m c.in_ok-reports.ensures.state h in
    let are = ap (λ (rs : List Report). map view rs) c.as_slice.ensures.items ∙ c.in_ok-reports.ensures.value ∙ ap next_reports h.receiver in
    subst (IsAt c.serve_all.new.looper s)
    (ap (λ (fs : List Feedback). all_served c.args.t fs (record m { receiver = told_all m.receiver })) are ∙ sym (reports-due c.args.t m c.if-t-ne40.false))
    (served s (record m { receiver = told_all m.receiver }) told))
    c.serve_all.ensures.at
