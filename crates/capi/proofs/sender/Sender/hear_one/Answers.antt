use Rattle.std.proofs.Common.{◌≡◌, ℕ, Bool, if◌then◌else◌, List, ◌++◌, sym, ◌∙◌, ap, subst}
use Rattle.gcc_units.specs.Listed.{Listed, bare}
use Rattle.sent_history.specs.declared.finding.Finding.{Finding}
use Rattle.send_core.specs.declared.call.Entry.{Entry}
use Rattle.send_core.specs.declared.call.Reply.{Reply}
use Rattle.send_core.specs.declared.call.Call.TheVariants.{Report}
use Rattle.send_core.specs.Reply.{reply}
use Rattle.send_core.specs.Reports.{findings_by}
use Rattle.live_sender.specs.Replies.{is_judged}
use Rattle.steered_sender.specs.Standing.{Kept, StandsFor, served}
use Rattle.capi.specs.Serving.{Serving}
use Rattle.capi.specs.Hearing.{findings_told}
use Rattle.capi.proofs.Findings.{findings-more, told-if}
use Rattle.capi.proofs.sender.Sender.hear_one.Goals as goal

pub returns-in-Ok-clause-findings : goal.returns-in-Ok-clause-findings
returns-in-Ok-clause-findings c h stands =
    let steered : Kept = c.self.inside.steered in
    let is_steered : steered ≡ c.args.self.now.steered = ap (λ (s : Serving). s.steered) c.self.view_is in
    let stood : StandsFor steered h = subst (λ (k : Kept). StandsFor k h) (sym is_steered) stands in
    let k : List Entry = served steered h in
    let report : List ℕ = c.args.report.now in
    let old : List Finding = c.self.inside.findings.items in
    let given : Reply = reply k (Report c.args.at (bare report)) in
    let copied : c.in_ok-bytes.bytes ≡ bare report = c.in_ok-bytes.ensures.bytes in
    let is : c.in-Ok.field-0.reply ≡ given = c.in-Ok.ensures.reply h stood ∙ ap (λ (b : Listed ℕ). reply k (Report c.args.at b)) copied in
    let found : c.as_slice.result.now ≡ findings_by k report =
    c.as_slice.ensures.items ∙ ap (λ (l : Listed Finding). l.items) (c.in_ok-found.ensures h stood) ∙ ap (λ (b : Listed ℕ). findings_by k b.items) copied in
    let judged : c.is_judged.result ≡ is_judged given = c.is_judged.ensures ∙ ap is_judged is in
    let appended : c.append_if.new.findings.items ≡ old ++ findings_told k report given =
    c.append_if.ensures
    ∙ ap (λ (b : Bool). if b then c.reserve.new.findings.items ++ c.as_slice.result.now else c.reserve.new.findings.items) judged
    ∙ ap (λ (xs : List Finding). if is_judged given then c.reserve.new.findings.items ++ xs else c.reserve.new.findings.items) found
    ∙ ap (λ (xs : List Finding). if is_judged given then xs ++ findings_by k report else xs) c.reserve.ensures.items
    ∙ told-if old k report given in
    findings-more c.self.inside.told old (findings_told k report given) c.append_if.new.findings.items c.self.invariant appended
    ∙ ap (λ (s : Serving). s.findings ++ findings_told (served s.steered h) report (reply (served s.steered h) (Report c.args.at (bare report)))) c.self.view_is
