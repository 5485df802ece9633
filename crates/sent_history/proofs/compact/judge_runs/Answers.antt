use Rattle.std.proofs.Common.{◌≡◌, ℤ, ◌+◌, ◌%◌, ◌≤◌, ◌+ℤ◌, ◌++◌, List, length, drop, get_or, count_by, ap, ◌∙◌, arith, to_z, of_z, w64, length-append}
use Rattle.std.proofs.lemmas.Int.{ints}
use Rattle.std.proofs.lemmas.List.Sums.{sum_by-append}
use Rattle.twcc_report.specs.declared.compact.StatusRun.{StatusRun}
use Rattle.twcc_report.specs.declared.report.Status.{Status}
use Rattle.twcc_report.specs.Runs.{statuses_of, expanded}
use Rattle.sent_history.specs.declared.slot.Verdict.{Verdict}
use Rattle.sent_history.specs.Crediting.{is_received}
use Rattle.sent_history.specs.Judging.{slot_verdict, running}
use Rattle.sent_history.specs.Fresh.{bit}
use Rattle.sent_history.specs.InRuns.{run_len, run_delta}
use Rattle.sent_history.proofs.ByRuns.{no_run, split_runs, len_of, length_running, judged_run, all_in_range}
use Rattle.sent_history.proofs.compact.judge_runs.Goals as goal

pub loop-run-preserved : goal.loop-run-preserved
loop-run-preserved c =
    let runs : List StatusRun = c.args.runs.now in
    let i = c.loop-run.run-index in
    let run : StatusRun = get_or runs i no_run in
    let judge = slot_verdict c.args.slots.now c.args.sent in
    let so_far = c.loop-run.invariant.all in
    let before : List Verdict = so_far.0 in
    let arrived : ℤ = to_z w64 c.loop-run.arrival-bits in
    let vs : List Verdict = running judge c.args.sent c.loop-run.low arrived (statuses_of run) in
    let then : ℤ = to_z w64 (of_z w64 (arrived +ℤ to_z w64 (of_z w64 c.run_delta-arrival.result))) in
    let split : length (expanded (drop i runs)) ≡ run_len run + length (expanded (drop (i + 1) runs)) =
    ap length (split_runs runs i no_run c.loop-run-test.true) ∙ length-append (statuses_of run) (expanded (drop (i + 1) runs)) ∙ ap (λ n. n + length (expanded (drop (i + 1) runs))) (len_of run) in
    let few : length (expanded (drop i runs)) ≤ length (expanded runs) = omega (arith, so_far.2) in
    let d : to_z w64 (of_z w64 c.run_delta-arrival.result) ≡ c.run_delta-arrival.result =
    omega (arith, ints, c.run_delta-arrival.ensures.low, c.run_delta-arrival.ensures.high, split, few, c.requires.few) in
    let sum : then ≡ (arrived +ℤ run_delta run) =
    omega (arith, ints, d, c.run_delta-arrival.ensures.value, c.run_delta-arrival.ensures.low, c.run_delta-arrival.ensures.high, c.loop-run.invariant.early, c.loop-run.invariant.late, split, few, c.requires.few) in
    let credits : count_by is_received (expanded (drop i runs)) ≡ count_by is_received (statuses_of run) + count_by is_received (expanded (drop (i + 1) runs)) =
    ap (count_by is_received) (split_runs runs i no_run c.loop-run-test.true) ∙ sum_by-append (λ (s : Status). bit (is_received s)) (statuses_of run) (expanded (drop (i + 1) runs)) in
    record {
      all = (
        before ++ vs,
        c.tell_run.ensures.told before so_far.1,
        omega (arith, length-append before vs, length_running judge c.args.sent c.loop-run.low arrived (statuses_of run), len_of run, split, so_far.2),
        ap (λ n. (before ++ vs) ++ running judge c.args.sent ((c.loop-run.low + n) % 65536) then (expanded (drop (i + 1) runs))) c.run_len-low.ensures
            ∙ ap (λ z. (before ++ vs) ++ running judge c.args.sent ((c.loop-run.low + run_len run) % 65536) z (expanded (drop (i + 1) runs))) sum
            ∙ judged_run judge c.args.sent c.loop-run.low arrived runs i before _ c.loop-run.auto.low-fits.fits c.loop-run-test.true so_far.3,
        all_in_range before vs so_far.4 c.tell_run.ensures.arrivals,
      );
      early = omega (arith, ints, sum, c.run_delta-arrival.ensures.value, c.run_delta-arrival.ensures.low, c.loop-run.invariant.early, split, few);
      late = omega (arith, ints, sum, c.run_delta-arrival.ensures.value, c.run_delta-arrival.ensures.high, c.loop-run.invariant.late, split, few);
      room = omega (arith, credits, c.tell_run.ensures.room, c.loop-run.invariant.room);
    }
