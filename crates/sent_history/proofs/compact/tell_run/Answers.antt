use Rattle.std.proofs.Common.{◌≤◌, ℤ, ◌+ℤ◌, [], length, ap, sym, subst, refl, arith, All}
use Rattle.std.proofs.lemmas.Int.{ints}
use Rattle.std.proofs.lemmas.List.Elements.{All-nil}
use Rattle.gcc_units.specs.Unwrapping.{named_number}
use Rattle.twcc_report.specs.declared.compact.StatusRun.{StatusRun}
use Rattle.twcc_report.specs.Runs.{statuses_of}
use Rattle.sent_history.specs.Crediting.{is_received, delta_of, credit_in, credits_in, ArrivesInRange}
use Rattle.sent_history.specs.Judging.{slot_verdict, running}
use Rattle.sent_history.specs.Fresh.{bit}
use Rattle.sent_history.specs.InRuns.{is_received_run}
use Rattle.sent_history.proofs.Runs.{still_in_range}
use Rattle.sent_history.proofs.ByRuns.{few_in, received_of, lost_in_range}
use Rattle.sent_history.proofs.compact.tell_run.Goals as goal

pub tell-requires-clause-room : goal.tell-requires-clause-room
tell-requires-clause-room c =
    let few : length (credit_in c.verdict_at.result) ≤ bit (is_received c.in-One.status) =
    few_in c.verdict_at.result c.args.slots.now c.args.sent c.in-One.status (named_number c.args.sent c.args.low) _ c.verdict_at.ensures in
    omega (
      arith,
      few,
      c.requires.room,
      received_of c.args.run,
      ap (λ (r : StatusRun). bit (is_received_run r)) c.in-One.is,
    )

pub returns-in-Lost-clause-arrivals : goal.returns-in-Lost-clause-arrivals
returns-in-Lost-clause-arrivals c =
    subst (λ (r : StatusRun). All ArrivesInRange (credits_in (running (slot_verdict c.args.slots.now c.args.sent) c.args.sent c.args.low c.args.arrival (statuses_of r)))) (sym c.in-Lost.is)
    (lost_in_range c.args.slots.now c.args.sent c.args.low c.in-Lost.count c.args.arrival)

pub returns-in-One-clause-room : goal.returns-in-One-clause-room
returns-in-One-clause-room c =
    let few : length (credit_in c.verdict_at.result) ≤ bit (is_received c.in-One.status) =
    few_in c.verdict_at.result c.args.slots.now c.args.sent c.in-One.status (named_number c.args.sent c.args.low) _ c.verdict_at.ensures in
    omega (
      arith,
      few,
      c.tell.ensures.room,
      received_of c.args.run,
      ap (λ (r : StatusRun). bit (is_received_run r)) c.in-One.is,
    )

pub returns-in-One-clause-arrivals : goal.returns-in-One-clause-arrivals
returns-in-One-clause-arrivals c =
    let then : ℤ = c.args.arrival +ℤ delta_of c.in-One.status in
    subst (λ (r : StatusRun). All ArrivesInRange (credits_in (running (slot_verdict c.args.slots.now c.args.sent) c.args.sent c.args.low c.args.arrival (statuses_of r)))) (sym c.in-One.is)
    (still_in_range c.args.slots.now c.args.sent c.in-One.status (named_number c.args.sent c.args.low) then [] _ refl
    (omega (arith, ints, c.delta_of.ensures.value, c.delta_of.ensures.low, c.delta_of.ensures.high, c.requires.early, c.requires.late))
    (omega (arith, ints, c.delta_of.ensures.value, c.delta_of.ensures.low, c.delta_of.ensures.high, c.requires.early, c.requires.late)) (All-nil ArrivesInRange))
