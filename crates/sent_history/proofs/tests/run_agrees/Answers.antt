use Rattle.std.proofs.Common.{◌≡◌, ◌+◌, ◌≤◌, [], ◌∷◌, ◌++◌, List, length, ap, ◌∙◌, arith, length-append}
use Rattle.twcc_report.specs.Spelling.{Feedback}
use Rattle.sent_history.specs.declared.slot.Outgoing.{Outgoing}
use Rattle.sent_history.specs.Events.{Event, added, reported, packets, reports}
use Rattle.sent_history.specs.Pushes.{added_more, added_reports, added_last, reported_packets, reported_more}
use Rattle.sent_history.proofs.tests.run_agrees.Goals as goal

pub loop-number-preserved : goal.loop-number-preserved
loop-number-preserved g c =
    let events : List Event = c.loop-number.invariant.0 in
    let p : Outgoing = c.packet.result in (
      events ++ added p ∷ [],
      c.add.ensures.stands events c.loop-number.invariant.1,
      ap length (added_more events p) ∙ length-append (packets events) (p ∷ []) ∙ ap (λ n. n + 1) c.loop-number.invariant.2,
      ap length (added_reports events p) ∙ c.loop-number.invariant.3,
      omega (arith, added_last events p, c.packet.ensures),
    )

pub loop-row-preserved : goal.loop-row-preserved
loop-row-preserved g c =
    let events : List Event = c.loop-row.invariant.0 in
    let report : Feedback = c.in_ok-report.report in (
      events ++ reported report ∷ [],
      c.in_ok-judged.ensures.stands events c.loop-row.invariant.1,
      omega (arith, ap length (reported_packets events report), c.loop-row.invariant.2),
      ap length (reported_more events report) ∙ length-append (reports events) (report ∷ []) ∙ ap (λ n. n + 1) c.loop-row.invariant.3,
    )
