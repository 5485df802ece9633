use Rattle.std.proofs.Common.{arith, ◌≡◌, ℕ, List, length, subst, sym}
use Rattle.twcc_report.specs.Spelling.{Feedback, view}
use Rattle.call_trace.specs.MadeReports.{words_at, report, AreNear}
use Rattle.call_trace.proofs.Arriving.{IsSpellable, report-spellable}
use Rattle.call_trace.proofs.made_reports.report_bytes.Goals as goal

spelled : (state ms : List ℕ) (reports covered : ℕ) (f : Feedback) → AreNear ms → f ≡ report (words_at state) reports covered ms → IsSpellable f (length ms)
spelled state ms reports covered f near is = subst (λ (g : Feedback). IsSpellable g (length ms)) (sym is) (report-spellable (words_at state) ms reports covered near)

pub write_report-requires-clause-some : goal.write_report-requires-clause-some
write_report-requires-clause-some c =
    let spellable : IsSpellable (view c.in_ok-report.report) (length c.args.moments.now) = spelled c.args.words.now c.args.moments.now c.args.reports c.args.covered (view c.in_ok-report.report) c.requires.near c.in_ok-report.ensures.report in
    omega (arith, spellable.count, c.requires.some)

pub write_report-requires-clause-few : goal.write_report-requires-clause-few
write_report-requires-clause-few c =
    let spellable : IsSpellable (view c.in_ok-report.report) (length c.args.moments.now) = spelled c.args.words.now c.args.moments.now c.args.reports c.args.covered (view c.in_ok-report.report) c.requires.near c.in_ok-report.ensures.report in
    omega (arith, spellable.count, c.requires.few)

pub write_report-requires-clause-low : goal.write_report-requires-clause-low
write_report-requires-clause-low c =
    let spellable : IsSpellable (view c.in_ok-report.report) (length c.args.moments.now) = spelled c.args.words.now c.args.moments.now c.args.reports c.args.covered (view c.in_ok-report.report) c.requires.near c.in_ok-report.ensures.report in
    spellable.low

pub write_report-requires-clause-high : goal.write_report-requires-clause-high
write_report-requires-clause-high c =
    let spellable : IsSpellable (view c.in_ok-report.report) (length c.args.moments.now) = spelled c.args.words.now c.args.moments.now c.args.reports c.args.covered (view c.in_ok-report.report) c.requires.near c.in_ok-report.ensures.report in
    spellable.high
