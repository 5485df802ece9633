use Rattle.std.proofs.Common.{◌≡◌, ℕ, ◌≤◌, false, List, length, sym, ◌∙◌, ap, subst}
use Rattle.std.proofs.Common.{is_err}
use Rattle.probe_clusters.specs.declared.cluster.Cluster.{Cluster}
use Rattle.send_core.specs.Reports.{cluster_deeds}
use Rattle.send_core.proofs.Judging.{length-planned}
use Rattle.live_sender.proofs.Summing.{may-grow}
use Rattle.steered_sender.proofs.Results.{unless-err}
use Rattle.steered_sender.proofs.serving.report_both.Goals as goal

pub note_report-step-requires-clause-answered : goal.note_report-step-requires-clause-answered
note_report-step-requires-clause-answered c =
    let r = c.requires.stands in
    (r.0, c.args.at, c.args.bytes.now, c.args.sender.now, c.report.new.self, r.2, r.1, may-grow r.0 (c.in-Ok.ensures.served r.0 r.1), c.in-Ok.ensures.stands r.0 0 r.1, c.in-Ok.ensures.reply r.0 r.1)

pub note_report-step-requires-clause-room : goal.note_report-step-requires-clause-room
note_report-step-requires-clause-room c =
    let r = c.requires.stands in
    let count : length c.args.steering.now.clusters.items ≡ c.len.result =
    ap (λ (cs : List Cluster). length cs) r.2.clusters.are ∙ (length-planned (cluster_deeds r.0) ∙ (sym (ap (λ (rs : List ℕ). length rs) r.2.planned) ∙ sym c.len.ensures)) in
    subst (λ (n : ℕ). n ≤ c.reserve.new.self.spare) (sym count) (unless-err _ c.reserve.result (sym c.is_err.ensures.value ∙ c.if-is_err.false) c.reserve.ensures.room)

pub returns-in-Ok-clause-steering : goal.returns-in-Ok-clause-steering
returns-in-Ok-clause-steering c = λ h caller stands steers. c.note_report-step.ensures.steering h caller c.args.at c.args.bytes.now steers (c.in-Ok.ensures.reply h stands)
