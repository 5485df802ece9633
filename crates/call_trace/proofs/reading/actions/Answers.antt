use Rattle.std.proofs.Common.{◌≡◌, ◌+◌, ◌<◌, ◌≤◌, ◌∷◌, [], ◌++◌, length, List, ℕ, Bool, true, false, sym, ◌∙◌, ap, nat_eq, codes, arith, length-append}
use Rattle.std.specs.Result.{is_err}
use Rattle.std.specs.Cmp.Lexicographic.{pointwise}
use Rattle.gcc_units.specs.declared.limits.TheConstants.{MOST_LINES}
use Rattle.call_trace.specs.Reading.{is_end}
use Rattle.call_trace.proofs.Pushed.{pushed, still_bare}
use Rattle.call_trace.proofs.Loop.{ends, too_many, bad_line, good_line, no_more}
use Rattle.call_trace.proofs.reading.actions.Goals as goal

-- the test for the line `end`
told : (line word : List ℕ) (b v : Bool) → b ≡ pointwise nat_eq line word → word ≡ codes "end" → b ≡ v → is_end line ≡ v
told line word b v is end v-is = rw end at (sym is ∙ v-is)

pub returns-then-eq-clause-read : goal.returns-then-eq-clause-read
returns-then-eq-clause-read c =
    let end : is_end c.in-Some.line.now ≡ true = told c.in-Some.line.now c.as_slice.result.now c.eq.result true c.eq.ensures c.as_slice.ensures c.if-eq.true in
    ends _ _ _ _ _ _ _ _ _ c.loop-line.invariant.reading (record { cut = c.in-Some.ensures.some }) end

pub returns-then-count-clause-err : goal.returns-then-count-clause-err
returns-then-count-clause-err c =
    let other : is_end c.in-Some.line.now ≡ false = told c.in-Some.line.now c.as_slice.result.now c.eq.result false c.eq.ensures c.as_slice.ensures c.if-eq.false in
    let high : MOST_LINES + 1 < c.loop-line.count = omega arith in
    rw c.at_line.ensures (too_many _ _ _ _ _ _ _ _ _ c.loop-line.invariant.reading (record { cut = c.in-Some.ensures.some }) other high)

pub returns-in-Err-clause-err : goal.returns-in-Err-clause-err
returns-in-Err-clause-err c =
    let other : is_end c.in-Some.line.now ≡ false = told c.in-Some.line.now c.as_slice.result.now c.eq.result false c.eq.ensures c.as_slice.ensures c.if-eq.false in
    let low : c.loop-line.count ≤ MOST_LINES + 1 = omega arith in
    rw c.at_line-in-Err.ensures (bad_line _ _ _ _ _ _ _ _ _ c.loop-line.invariant.reading (record { cut = c.in-Some.ensures.some }) c.in-Err.bad other low c.in-Err.ensures)

pub loop-line-preserved : goal.loop-line-preserved
loop-line-preserved c =
    let other : is_end c.in-Some.line.now ≡ false = told c.in-Some.line.now c.as_slice.result.now c.eq.result false c.eq.ensures c.as_slice.ensures c.if-eq.false in
    let low : c.loop-line.count ≤ MOST_LINES + 1 = omega arith in
    let ok : is_err c.push.result ≡ false = sym c.is_err.ensures.value ∙ c.if-is_err.false in
    let grown = pushed c.push.result _ c.push.ensures.ok ok in
    let items : c.push.new.self.items ≡ c.loop-line.lines.items ++ c.in-Ok.first ∷ [] = ap (λ l. l.items) grown in
    record {
      reading = good_line _ _ _ _ _ _ _ _ _ c.loop-line.invariant.reading (record { cut = c.in-Some.ensures.some }) c.in-Ok.first c.push.new.self.items other low c.in-Ok.ensures items;
      bare = still_bare c.push.new.self c.loop-line.lines c.in-Ok.first grown c.loop-line.invariant.bare;
      few = omega arith;
      count = omega (arith, ap length items, length-append c.loop-line.lines.items (c.in-Ok.first ∷ []), c.loop-line.invariant.count);
      short = omega (arith, c.in-Some.ensures.shorter, c.loop-line.invariant.short);
    }

pub returns-clause-err : goal.returns-clause-err
returns-clause-err c = rw c.at_line-2.ensures (no_more _ _ _ _ _ _ _ c.loop-line.invariant.reading c.in_default.ensures.none)
