use Rattle.std.proofs.Common.{◌≡◌, ℕ, ◌≤◌, List, [], length, max, count_by, Ok, ap, ◌∙◌, subst, arith}
use Rattle.sent_history.specs.Crediting.{is_received}
use Rattle.gcc_units.specs.declared.shared_types.Credit.{Credit}
use Rattle.pacer.specs.declared.sent.Sent.{Sent}
use Rattle.gcc_units.specs.declared.limits.TheConstants.{GREATEST_MOMENT, MOST_STATUSES}
use Rattle.send_core.specs.declared.call.Call.TheVariants as call_kind
use Rattle.send_core.proofs.StepsMade.{steps_late, steps_refused}
use Rattle.twcc_report.specs.Reading.{read_of}
use Rattle.send_core.specs.Reports.{events}
use Rattle.send_core.proofs.FewCredits.{credits-few}
use Rattle.send_core.proofs.Judging.{judged-taken, credited-answer, steps_credited}
use Rattle.send_core.proofs.parts.Parts.report.Goals as goal

pub returns-then-at-gt-GREATEST_MOMENT-clause-steps :
    goal.returns-then-at-gt-GREATEST_MOMENT-clause-steps
returns-then-at-gt-GREATEST_MOMENT-clause-steps c =
    steps_late (call_kind.Report c.args.at c.args.bytes.now) _ _ c.refuse_late.result c.args.self.now c.refuse_late.new.self
    c.if-at-gt-GREATEST_MOMENT.true c.refuse_late.ensures.reply c.refuse_late.ensures.parts

pub returns-in-Err-Fault-clause-steps : goal.returns-in-Err-Fault-clause-steps
returns-in-Err-Fault-clause-steps c =
    let early : c.args.at ≤ GREATEST_MOMENT = omega arith in
    steps_refused (call_kind.Report c.args.at c.args.bytes.now) _ _ c.refuse.result c.args.self.now c.move_to.new.self c.refuse.new.self
    early c.refuse.ensures.reply c.move_to.ensures c.refuse.ensures.parts

pub credited-requires-clause-judged : goal.credited-requires-clause-judged
credited-requires-clause-judged c =
    judged-taken c.requires.0 c.args.self.now c.move_to-2.new.self (max c.args.self.now.pacer.moment c.args.at) (length c.in-Ok.report.statuses) c.in_ok-judged.judged c.credit.new.self
    c.requires.1 c.requires.2 c.move_to-2.ensures (omega arith) c.in_ok-judged.ensures.sum (omega (arith, c.in-Ok.ensures.fits.few))
    (c.in_ok-judged.ensures.packets (events c.requires.0) c.requires.1.packets) c.in_ok-judged.ensures.arrivals

pub returns-clause-answer : goal.returns-clause-answer
returns-clause-answer c = λ h s.
    let early : c.args.at ≤ GREATEST_MOMENT = omega arith in
    let read : read_of c.args.bytes.now.items ≡ Ok c.in-Ok.report = subst (λ bs. read_of bs ≡ Ok c.in-Ok.report) c.as_slice.ensures.items c.in-Ok.ensures.exact in
    credited-answer h c.args.self.now c.move_to-2.new.self c.credited.new.self c.args.at c.args.bytes.now c.in-Ok.report c.in_ok-judged.judged c.credited.result c.credit.new.self s
    early c.move_to-2.ensures read (c.in_ok-judged.ensures.judged (events h) s.packets) c.credited.ensures.credits

pub returns-clause-steps : goal.returns-clause-steps
returns-clause-steps c =
    let early : c.args.at ≤ GREATEST_MOMENT = omega arith in
    let read : read_of c.args.bytes.now.items ≡ Ok c.in-Ok.report = subst (λ bs. read_of bs ≡ Ok c.in-Ok.report) c.as_slice.ensures.items c.in-Ok.ensures.exact in
    let few : length c.in-Ok.report.statuses ≤ MOST_STATUSES = omega (arith, c.in-Ok.ensures.fits.few) in
    steps_credited c.requires.0 c.args.self.now c.move_to-2.new.self c.credited.new.self c.args.at c.args.bytes.now c.in-Ok.report c.in_ok-judged.judged c.credited.result c.credit.new.self c.requires.1
    early c.move_to-2.ensures read c.in_ok-judged.ensures.stands few c.credited.ensures.credits

pub returns-clause-room : goal.returns-clause-room
returns-clause-room c =
    let few : length c.in_ok-judged.judged.received.items ≤ c.count_received.result =
    within _ _ _ (c.count_received.ensures ∙ ap (count_by is_received) c.runs.ensures) (credits-few (events c.requires.0) c.in-Ok.report c.in_ok-judged.judged (c.in_ok-judged.ensures.judged (events c.requires.0) c.requires.1.packets)) in
    record {
      no_records = c.in_ok-rooms-2.ensures.no_records;
      no_credits = c.in_ok-rooms-2.ensures.no_credits;
      no_shares = c.in_ok-rooms-2.ensures.no_shares;
      records = none _ _ c.credited.ensures.sends;
      credits = fits _ _ _ _ c.credited.ensures.received few c.in_ok-rooms-2.ensures.credits;
      shares = omega (arith, c.credited.ensures.shares, c.in_ok-rooms-2.ensures.shares);
    }
  where
    within : (n m most : ℕ) → most ≡ m → n ≤ m → n ≤ most
    within n m most e h = omega arith

    none : (records : List Sent) (n : ℕ) → records ≡ [] → length records ≤ n
    none records n e = rw e (omega arith)

    fits : (a b : List Credit) (n m : ℕ) → a ≡ b → length b ≤ n → n ≤ m → length a ≤ m
    fits a b n m e h k = rw e (omega arith)
