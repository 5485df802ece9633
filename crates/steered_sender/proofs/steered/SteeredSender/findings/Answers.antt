use Rattle.std.proofs.Common.{List, ap, sym, ◌∙◌, subst}
use Rattle.gcc_units.specs.Listed.{bare}
use Rattle.twcc_report.specs.Reading.{read_of}
use Rattle.sent_history.specs.Events.{Event}
use Rattle.send_core.specs.Reports.{events, findings_read}
use Rattle.steered_sender.specs.Steered.{with_wanted}
use Rattle.steered_sender.specs.Standing.{Kept, StandsFor, wanted_of}
use Rattle.steered_sender.proofs.Limits.{events-asked}
use Rattle.steered_sender.proofs.steered.SteeredSender.findings.Goals as goal

pub returns-clause-found : goal.returns-clause-found
returns-clause-found c h stands =
    let t : StandsFor (record { sender = c.self.inside.sender; steering = c.self.inside.steering }) h = subst (λ (k : Kept). StandsFor k h) (sym c.self.view_is) stands in
    c.in_ok-found.ensures.found h t.sender
    ∙ ap (λ (es : List Event). bare (findings_read es (read_of c.args.bytes.now.items))) (sym (events-asked h (wanted_of c.self.inside.steering)))
    ∙ ap (λ (k : Kept). bare (findings_read (events (with_wanted h (wanted_of k.steering))) (read_of c.args.bytes.now.items))) c.self.view_is
