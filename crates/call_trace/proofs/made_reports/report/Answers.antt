use Rattle.std.proofs.Common.{◌<◌, ◌^◌, ◌∙◌, ap, sym, length, arith, ◌/◌, w32, to_z}
use Rattle.std.proofs.lemmas.Int.{ints, to_z_pos}
use Rattle.call_trace.specs.MadeReports.{words_at, first_or}
use Rattle.gcc_units.specs.Listed.{Listed}
use Rattle.twcc_report.specs.declared.report.Status.{Status}
use Rattle.call_trace.proofs.Arriving.{arrivals-length, AreClose, first-close, report-is}
use Rattle.call_trace.proofs.made_reports.report.Goals as goal

pub statuses-requires-clause-few : goal.statuses-requires-clause-few
statuses-requires-clause-few c =
    omega (arith, ap length c.deref-2.ensures.value, ap length c.in_ok-arrivals.ensures.arrivals, arrivals-length (words_at c.args.words.now) c.args.moments.now, c.requires.few)

pub statuses-requires-clause-early : goal.statuses-requires-clause-early
statuses-requires-clause-early c =
    let close : AreClose c.deref-2.result.now c.first_or-reference.result =
    first-close (words_at c.args.words.now) c.args.moments.now c.fastest.result c.first_or-reference.result c.deref-2.result.now c.requires.near (c.deref-2.ensures.value ∙ c.in_ok-arrivals.ensures.arrivals) c.fastest.ensures
    (c.first_or-reference.ensures ∙ ap (first_or c.fastest.result) (c.deref.ensures.value ∙ sym c.deref-2.ensures.value)) in
    omega (arith, close.early)

pub statuses-requires-clause-near : goal.statuses-requires-clause-near
statuses-requires-clause-near c =
    let close : AreClose c.deref-2.result.now c.first_or-reference.result =
    first-close (words_at c.args.words.now) c.args.moments.now c.fastest.result c.first_or-reference.result c.deref-2.result.now c.requires.near (c.deref-2.ensures.value ∙ c.in_ok-arrivals.ensures.arrivals) c.fastest.ensures
    (c.first_or-reference.ensures ∙ ap (first_or c.fastest.result) (c.deref.ensures.value ∙ sym c.deref-2.ensures.value)) in
    close.each

pub overflow_cast-result-2 : goal.overflow_cast-result-2
overflow_cast-result-2 c =
    let close : AreClose c.deref-2.result.now c.first_or-reference.result =
    first-close (words_at c.args.words.now) c.args.moments.now c.fastest.result c.first_or-reference.result c.deref-2.result.now c.requires.near (c.deref-2.ensures.value ∙ c.in_ok-arrivals.ensures.arrivals) c.fastest.ensures
    (c.first_or-reference.ensures ∙ ap (first_or c.fastest.result) (c.deref.ensures.value ∙ sym c.deref-2.ensures.value)) in
    omega (arith, ints, close.early)

pub returns-clause-report : goal.returns-clause-report
returns-clause-report c =
    let there_is = c.deref-2.ensures.value ∙ c.in_ok-arrivals.ensures.arrivals in
    let first_is = c.first_or-reference.ensures ∙ ap (first_or c.fastest.result) (c.deref.ensures.value ∙ sym c.deref-2.ensures.value) in
    let close : AreClose c.deref-2.result.now c.first_or-reference.result =
    first-close (words_at c.args.words.now) c.args.moments.now c.fastest.result c.first_or-reference.result c.deref-2.result.now c.requires.near there_is c.fastest.ensures first_is in
    let small : c.first_or-reference.result / 256 < 2 ^ 31 = omega (arith, close.early) in
    report-is (words_at c.args.words.now) c.args.moments.now c.args.reports c.args.covered c.fastest.result c.first_or-reference.result (to_z w32 (c.first_or-reference.result / 256)) c.deref-2.result.now c.in_ok-statuses.statuses.items
    there_is c.fastest.ensures first_is (to_z_pos w32 (c.first_or-reference.result / 256) small) (ap (λ (l : Listed Status). l.items) c.in_ok-statuses.ensures)
