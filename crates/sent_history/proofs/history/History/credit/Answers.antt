use Rattle.std.proofs.Common.{◌≡◌, ℕ, ◌+◌, ◌-◌, ◌<◌, length, slice_index_or, pos, ◌*ℤ◌, refl, ap, sym, ◌∙◌, subst, arith, to_z, of_z, w32, w64}
use Rattle.std.specs.List.{enumerate_from}
use Rattle.std.proofs.lemmas.Int.{ints}
use Rattle.std.proofs.lemmas.List.{length-map}
use Rattle.std.proofs.lemmas.List.FromFn.{length-enumerate_from}
use Rattle.gcc_units.specs.Unwrapping.{unwrapped}
use Rattle.twcc_report.specs.Spelling.{Feedback}
use Rattle.twcc_report.specs.Runs.{expanded}
use Rattle.sent_history.specs.declared.slot.Slot.{Slot}
use Rattle.sent_history.specs.Stretches.{Agrees}
use Rattle.sent_history.specs.Judging.{slot_verdict, running, all_marks}
use Rattle.sent_history.specs.Kept.{Kept, Keeps}
use Rattle.sent_history.specs.Events.{reported}
use Rattle.sent_history.specs.Crediting.{account, told, judged, verdict_at}
use Rattle.sent_history.specs.Laws.{judged_of_packets}
use Rattle.sent_history.specs.Pushes.{account-push}
use Rattle.sent_history.proofs.Accounts.{IsNear, last_near, next_near}
use Rattle.sent_history.proofs.Slots.{keeps_agreed, agreed_of, judged_are}
use Rattle.sent_history.proofs.Telling.{total, told_total}
use Rattle.sent_history.proofs.history.History.credit.Goals as goal

pub unwrap24-reference-requires-clause-last_low : goal.unwrap24-reference-requires-clause-last_low
unwrap24-reference-requires-clause-last_low c =
    let near : IsNear 9007199254740992 c.self.inside.reference =
    last_near c.args.self.now c.self.inside.reference (ap (λ (k : Kept). k.reference) c.self.view_is) c.requires.room in
    omega (arith, ints, near.low, near.high)

pub unwrap24-reference-requires-clause-last_high : goal.unwrap24-reference-requires-clause-last_high
unwrap24-reference-requires-clause-last_high c =
    let near : IsNear 9007199254740992 c.self.inside.reference =
    last_near c.args.self.now c.self.inside.reference (ap (λ (k : Kept). k.reference) c.self.view_is) c.requires.room in
    omega (arith, ints, near.low, near.high)

pub overflow_mul-reference : goal.overflow_mul-reference
overflow_mul-reference c =
    let near : IsNear 9007199263129600 c.unwrap24-reference.result =
    next_near c.args.self.now c.self.inside.reference _ c.unwrap24-reference.result (ap (λ (k : Kept). k.reference) c.self.view_is) c.requires.room c.unwrap24-reference.ensures.nearest in
    omega (arith, ints, near.low, near.high)

pub judge_runs-requires-clause-low : goal.judge_runs-requires-clause-low
judge_runs-requires-clause-low c =
    let near : IsNear 9007199263129600 c.unwrap24-reference.result =
    next_near c.args.self.now c.self.inside.reference _ c.unwrap24-reference.result (ap (λ (k : Kept). k.reference) c.self.view_is) c.requires.room c.unwrap24-reference.ensures.nearest in
    omega (arith, ints, near.low, near.high)

pub judge_runs-requires-clause-high : goal.judge_runs-requires-clause-high
judge_runs-requires-clause-high c =
    let near : IsNear 9007199263129600 c.unwrap24-reference.result =
    next_near c.args.self.now c.self.inside.reference _ c.unwrap24-reference.result (ap (λ (k : Kept). k.reference) c.self.view_is) c.requires.room c.unwrap24-reference.ensures.nearest in
    omega (arith, ints, near.low, near.high)

pub returns-clause-stands : goal.returns-clause-stands
returns-clause-stands c = λ events stands.
    let h : Kept = record { sent = c.self.inside.sent; slots = c.self.inside.slots; reference = c.self.inside.reference } in
    let keep : Keeps h (account events) = subst (λ (k : Kept). Keeps k (account events)) (sym c.self.view_is) stands in
    let last : IsNear 9007199254740992 c.self.inside.reference =
    last_near c.args.self.now c.self.inside.reference (ap (λ (k : Kept). k.reference) c.self.view_is) c.requires.room in
    let near : IsNear 9007199263129600 c.unwrap24-reference.result =
    next_near c.args.self.now c.self.inside.reference _ c.unwrap24-reference.result (ap (λ (k : Kept). k.reference) c.self.view_is) c.requires.room c.unwrap24-reference.ensures.nearest in
    let report : Feedback = c.args.report.now in
    let is_last : to_z w64 (of_z w64 c.self.inside.reference) ≡ c.self.inside.reference = omega (arith, ints, last.low, last.high) in
    let is_low : to_z w32 (of_z w32 c.reference.result) ≡ report.reference = omega (arith, ints, c.reference.ensures, c.requires.low, c.requires.high) in
    let is_next : to_z w64 (of_z w64 c.unwrap24-reference.result) ≡ c.unwrap24-reference.result = omega (arith, ints, near.low, near.high) in
    let next : to_z w64 (of_z w64 c.unwrap24-reference.result) ≡ unwrapped h.reference report.reference =
    is_next ∙ c.unwrap24-reference.ensures.value ∙ ap (λ z. unwrapped z (to_z w32 (of_z w32 c.reference.result))) is_last ∙ ap (λ z. unwrapped h.reference z) is_low in
    rw (account-push events (reported report))
    (keeps_agreed h (account events) report c.mark_runs.new.slots (to_z w64 (of_z w64 c.unwrap24-reference.result)) (omega (arith, c.base-base.ensures)) keep c.mark_runs.ensures.length
    (agreed_of c.mark_runs.new.slots h.slots h.slots h.sent report.base (expanded c.runs-runs.result.now) report.statuses refl c.runs-runs.ensures
    (subst (λ b. (k : ℕ) (d : Slot) → k < length h.slots
    → Agrees (slice_index_or c.mark_runs.new.slots k d) (all_marks h.sent b (expanded c.runs-runs.result.now) (h.sent - length h.slots + k) (slice_index_or h.slots k d))) c.base-base.ensures
    c.mark_runs.ensures.marks)) next)

pub returns-clause-judged : goal.returns-clause-judged
returns-clause-judged c = λ events stands.
    let h : Kept = record { sent = c.self.inside.sent; slots = c.self.inside.slots; reference = c.self.inside.reference } in
    let keep : Keeps h (account events) = subst (λ (k : Kept). Keeps k (account events)) (sym c.self.view_is) stands in
    let last : IsNear 9007199254740992 c.self.inside.reference =
    last_near c.args.self.now c.self.inside.reference (ap (λ (k : Kept). k.reference) c.self.view_is) c.requires.room in
    let near : IsNear 9007199263129600 c.unwrap24-reference.result =
    next_near c.args.self.now c.self.inside.reference _ c.unwrap24-reference.result (ap (λ (k : Kept). k.reference) c.self.view_is) c.requires.room c.unwrap24-reference.ensures.nearest in
    let report : Feedback = c.args.report.now in
    let is_last : to_z w64 (of_z w64 c.self.inside.reference) ≡ c.self.inside.reference = omega (arith, ints, last.low, last.high) in
    let is_low : to_z w32 (of_z w32 c.reference.result) ≡ report.reference = omega (arith, ints, c.reference.ensures, c.requires.low, c.requires.high) in
    let value : c.unwrap24-reference.result ≡ unwrapped h.reference report.reference =
    c.unwrap24-reference.ensures.value ∙ ap (λ z. unwrapped z (to_z w32 (of_z w32 c.reference.result))) is_last ∙ ap (λ z. unwrapped h.reference z) is_low in
    let product : to_z w64 (of_z w64 (pos 256 *ℤ to_z w64 (of_z w64 c.unwrap24-reference.result))) ≡ (pos 256 *ℤ c.unwrap24-reference.result) =
    omega (arith, ints, near.low, near.high) in
    c.in_ok-judged.ensures.verdicts
    ∙ ap (λ b. told (running (slot_verdict h.slots h.sent) h.sent b (to_z w64 (of_z w64 (pos 256 *ℤ to_z w64 (of_z w64 c.unwrap24-reference.result)))) (expanded c.runs-runs.result.now))) c.base-base.ensures
    ∙ ap told (judged_are h (account events) report h.slots (to_z w64 (of_z w64 (pos 256 *ℤ to_z w64 (of_z w64 c.unwrap24-reference.result)))) (expanded c.runs-runs.result.now)
    (omega (arith, c.base-base.ensures)) keep refl (product ∙ ap (λ z. pos 256 *ℤ z) value) c.runs-runs.ensures)

pub returns-clause-sum : goal.returns-clause-sum
returns-clause-sum c =
    let room = c.requires.room in
    let report : Feedback = c.args.report.now in
    ap total (returns-clause-judged c room.0 room.1)
    ∙ told_total (judged room.0 report)
    ∙ length-map (enumerate_from 0 report.statuses) (verdict_at (account room.0) report)
    ∙ length-enumerate_from 0 report.statuses

pub returns-clause-packets : goal.returns-clause-packets
returns-clause-packets c = λ events stands. rw (returns-clause-judged c events stands) (judged_of_packets events c.args.report.now)
