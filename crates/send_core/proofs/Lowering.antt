-- How far the packets that were sent may have lowered the media level.
use Rattle.std.proofs.Common.{◌≡◌, ℕ, ℤ, pos, ◌+◌, ◌≤◌, ◌+ℤ◌, List, [], ◌∷◌, ◌++◌, length, fold, All, refl, ◌∙◌, ap, subst, sym, arith, length-append}
use Rattle.std.specs.Int.{int_min}
use Rattle.std.proofs.lemmas.Int.{ints, clamps}
use Rattle.std.proofs.lemmas.List.Elements.{All-head, All-tail}
use Rattle.gcc_units.specs.declared.limits.TheConstants.{GREATEST_PACKET}
use Rattle.pace_budget.specs.Level.{Spend, Probe, level}
use Rattle.pace_budget.specs.Level as bucket
use Rattle.pace_budget.specs.Steps.{step}
use Rattle.pace_budget.proofs.Steps.{StandsFor-steps}
use Rattle.pacer.specs.declared.sent.Sent.{Sent}
use Rattle.pacer.specs.declared.sent.Kind.{Kind}
use Rattle.pacer.specs.declared.sent.Kind.TheVariants as kind
use Rattle.pacer.specs.LeftByRecords.{spending}
use Rattle.pacer.specs.Course.{IsLowered, IsSmallRecord}
use Rattle.pacer.specs.Pace.{deed_by}
use Rattle.send_core.specs.declared.call.Entry.{Entry}
use Rattle.send_core.specs.History.{later, now, sent_by, sent}
use Rattle.send_core.specs.Levels.{passing, deeds}
use Rattle.send_core.specs.Levels as levels
use Rattle.send_core.proofs.Pushes.{sent-push, deeds-push}

-- time that passes takes it no lower
pub lowered-later : (n gain cut : ℕ) (before : ℤ) → IsLowered n before → IsLowered n (int_min (before +ℤ pos gain) (pos cut))
lowered-later n gain cut before low = omega (arith, ints, clamps)

-- each packet takes it lower by no more than the most that one may take
lowered-sends : (records : List Sent) (n : ℕ) (before : ℤ) → All IsSmallRecord records → IsLowered n before
    → IsLowered (n + length records) (fold step before (spending records))
lowered-sends [] n before small low = let same : n + 0 ≡ n = omega arith in rw same low
lowered-sends (r ∷ rs) n before small low =
    let sum : n + length (r ∷ rs) ≡ (n + 1) + length rs = omega arith in
    rw sum (by_kind r.kind (All-head IsSmallRecord r rs small) (λ after h. lowered-sends rs (n + 1) after (All-tail IsSmallRecord r rs small) h))
  where
    by_kind : (k : Kind) → r.size ≤ GREATEST_PACKET → ((after : ℤ) → IsLowered (n + 1) after → IsLowered ((n + 1) + length rs) (fold step after (spending rs)))
        → IsLowered ((n + 1) + length rs) (fold step before (deed_by k r.size ++ spending rs))
    by_kind kind.Audio size rest = rest before (omega (arith, ints))
    by_kind kind.Media size rest = rest (step before (Spend r.size)) (omega (arith, ints))
    by_kind (kind.Probe id) size rest = rest (step before (Probe r.size)) (omega (arith, ints))
    by_kind kind.Padding size rest = rest before (omega (arith, ints))

pub lowered-push : (h : List Entry) (e : Entry) → All IsSmallRecord (sent_by e.reply) → IsLowered (length (sent h)) (level (deeds h))
    → IsLowered (length (sent (h ++ e ∷ []))) (level (deeds (h ++ e ∷ [])))
lowered-push h e small low =
    let count : length (sent (h ++ e ∷ [])) ≡ length (sent h) + length (sent_by e.reply) =
    ap (length {A = Sent}) (sent-push h e) ∙ length-append (sent h) (sent_by e.reply) in
    let passed : ℤ = step (level (deeds h)) (passing h (later (now h) e.call)) in
    let steps : bucket.StandsFor (fold step passed (spending (sent_by e.reply))) (deeds h ++ levels.deeds_by h e) =
    StandsFor-steps (level (deeds h)) (deeds h) (levels.deeds_by h e) (record { least = refl }) in
    let after : fold step passed (spending (sent_by e.reply)) ≡ level (deeds (h ++ e ∷ [])) = steps.least ∙ ap level (sym (deeds-push h e)) in
    subst (λ n. IsLowered n (level (deeds (h ++ e ∷ [])))) (sym count)
    (subst (IsLowered (length (sent h) + length (sent_by e.reply))) after
    (lowered-sends (sent_by e.reply) (length (sent h)) passed small (lowered-later (length (sent h)) _ _ (level (deeds h)) low)))
