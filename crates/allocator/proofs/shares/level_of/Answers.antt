use Rattle.std.proofs.Common.{◌≡◌, ◌+◌, ◌≤◌, ap, sym, ◌∙◌, subst, arith}
use Rattle.allocator.specs.declared.line.Line.{Line}
use Rattle.allocator.specs.Shares.{sum_at}
use Rattle.allocator.proofs.Levels.{no_level}
use Rattle.allocator.proofs.Walk.{IsWalk, none_there, point_at, walk_starts, walk_bounded, next_falls, next_slope, last_slope, next_sum, next_ahead, gone_within, walk_stops, walk_ends, walk_skips, walk_passes}
use Rattle.allocator.proofs.shares.level_of.Goals as goal
use Rattle.allocator.proofs.shares.level_of.Goals.{then-is_marked+else-point-line, else-point-line-via-then-point-line+else-total-sum_at, else-point-line-via-else-point-line, else-is_marked}

pub returns-then-total-line : goal.returns-then-total-line
returns-then-total-line c =
    let start : c.start_of-line.result.constant ≡ sum_at 0 c.args.served.now = ap (λ (l : Line). l.constant) c.start_of-line.ensures in
    sym (no_level c.args.total c.args.served.now (omega arith))

pub loop-point-init : goal.loop-point-init
loop-point-init c =
    let start : c.start_of-line.result.constant ≡ sum_at 0 c.args.served.now = ap (λ (l : Line). l.constant) c.start_of-line.ensures in
    subst (λ (l : Line). IsWalk c.args.total c.args.served.now c.args.marks.now c.args.points.now 0 l.at l.rise l.fall l.constant) (sym c.start_of-line.ensures)
    (walk_starts c.args.total c.args.served.now c.args.marks.now c.args.points.now (omega arith))

pub sum_at-requires-clause-rise : goal.sum_at-requires-clause-rise
sum_at-requires-clause-rise c =
    let b = walk_bounded c.args.total c.args.served.now c.args.marks.now c.args.points.now c.loop-point.point-index c.loop-point.line.at c.loop-point.line.rise c.loop-point.line.fall c.loop-point.line.constant
    (record { sound = c.requires.sound; few = c.requires.few; are = c.requires.points; few_points = c.requires.few_points; within = c.requires.within }) c.loop-point.invariant in b.rise

pub sum_at-requires-clause-constant : goal.sum_at-requires-clause-constant
sum_at-requires-clause-constant c =
    let b = walk_bounded c.args.total c.args.served.now c.args.marks.now c.args.points.now c.loop-point.point-index c.loop-point.line.at c.loop-point.line.rise c.loop-point.line.fall c.loop-point.line.constant
    (record { sound = c.requires.sound; few = c.requires.few; are = c.requires.points; few_points = c.requires.few_points; within = c.requires.within }) c.loop-point.invariant in b.constant

pub sum_at-requires-clause-fall : goal.sum_at-requires-clause-fall
sum_at-requires-clause-fall c =
    next_falls c.args.total c.args.served.now c.args.marks.now c.args.points.now c.loop-point.point-index c.loop-point.line.at c.loop-point.line.rise c.loop-point.line.fall c.loop-point.line.constant
    (record { sound = c.requires.sound; few = c.requires.few; are = c.requires.points; few_points = c.requires.few_points; within = c.requires.within }) c.loop-point.invariant c.loop-point-test.true c.if-point-line.true

pub level_within-requires-clause-slope : goal.level_within-requires-clause-slope
level_within-requires-clause-slope c =
    λ h. next_slope c.args.total c.args.served.now c.args.marks.now c.args.points.now c.loop-point.point-index c.loop-point.line.at c.loop-point.line.rise c.loop-point.line.fall c.loop-point.line.constant
    (record { sound = c.requires.sound; few = c.requires.few; are = c.requires.points; few_points = c.requires.few_points; within = c.requires.within }) c.loop-point.invariant c.loop-point-test.true c.if-point-line.true

pub returns-then-total-sum_at : goal.returns-then-total-sum_at
returns-then-total-sum_at c =
    let same : sum_at (point_at c.args.points.now c.loop-point.point-index).level c.args.served.now ≡ c.sum_at.result =
    next_sum c.args.total c.args.served.now c.args.marks.now c.args.points.now c.loop-point.point-index c.loop-point.line.at c.loop-point.line.rise c.loop-point.line.fall c.loop-point.line.constant c.sum_at.result
    (record { sound = c.requires.sound; few = c.requires.few; are = c.requires.points; few_points = c.requires.few_points; within = c.requires.within }) c.loop-point.invariant c.loop-point-test.true c.if-point-line.true c.sum_at.ensures in
    sym (walk_stops c.args.total c.args.served.now c.args.marks.now c.args.points.now c.loop-point.point-index c.loop-point.line.at c.loop-point.line.rise c.loop-point.line.fall c.loop-point.line.constant c.level_within.result
    (record { sound = c.requires.sound; few = c.requires.few; are = c.requires.points; few_points = c.requires.few_points; within = c.requires.within }) c.loop-point.invariant c.loop-point-test.true c.if-point-line.true (omega arith)
    (record { at_least = c.level_within.ensures.at; at_most = c.level_within.ensures.top; fits = c.level_within.ensures.fits; greatest = c.level_within.ensures.greatest }))

pub pass-requires-clause-rise : goal.pass-requires-clause-rise
pass-requires-clause-rise c =
    let b = walk_bounded c.args.total c.args.served.now c.args.marks.now c.args.points.now c.loop-point.point-index c.loop-point.line.at c.loop-point.line.rise c.loop-point.line.fall c.loop-point.line.constant
    (record { sound = c.requires.sound; few = c.requires.few; are = c.requires.points; few_points = c.requires.few_points; within = c.requires.within }) c.loop-point.invariant in b.rise

pub pass-requires-clause-fall : goal.pass-requires-clause-fall
pass-requires-clause-fall c =
    let b = walk_bounded c.args.total c.args.served.now c.args.marks.now c.args.points.now c.loop-point.point-index c.loop-point.line.at c.loop-point.line.rise c.loop-point.line.fall c.loop-point.line.constant
    (record { sound = c.requires.sound; few = c.requires.few; are = c.requires.points; few_points = c.requires.few_points; within = c.requires.within }) c.loop-point.invariant in b.fall

pub pass-requires-clause-constant : goal.pass-requires-clause-constant
pass-requires-clause-constant c =
    let b = walk_bounded c.args.total c.args.served.now c.args.marks.now c.args.points.now c.loop-point.point-index c.loop-point.line.at c.loop-point.line.rise c.loop-point.line.fall c.loop-point.line.constant
    (record { sound = c.requires.sound; few = c.requires.few; are = c.requires.points; few_points = c.requires.few_points; within = c.requires.within }) c.loop-point.invariant in b.constant

pub pass-requires-clause-gone : goal.pass-requires-clause-gone
pass-requires-clause-gone c =
    gone_within c.args.total c.args.served.now c.args.marks.now c.args.points.now c.loop-point.point-index c.loop-point.line.rise c.loop-point.line.fall c.loop-point.line.constant
    none_there c.requires.points c.loop-point.invariant.kept c.loop-point-test.true (sym c.is_marked.ensures ∙ c.if-is_marked.true)

pub loop-point-preserved : goal.loop-point-preserved
loop-point-preserved c =
    elim c.if-is_marked.branch [
      | then-is_marked+else-point-line w ↦
          subst (λ (l : Line). IsWalk c.args.total c.args.served.now c.args.marks.now c.args.points.now (c.loop-point.point-index + 1) l.at l.rise l.fall l.constant) (sym w.line-is)
          (walk_passes c.args.total c.args.served.now c.args.marks.now c.args.points.now c.loop-point.point-index c.loop-point.line.at c.loop-point.line.rise c.loop-point.line.fall c.loop-point.line.constant w.pass.new.self.at w.pass.new.self.rise w.pass.new.self.fall w.pass.new.self.constant
          (record { sound = c.requires.sound; few = c.requires.few; are = c.requires.points; few_points = c.requires.few_points; within = c.requires.within }) c.loop-point.invariant c.loop-point-test.true (sym c.is_marked.ensures ∙ w.if-is_marked.true)
          (elim w.else-point-line.branch [
            | else-point-line-via-then-point-line+else-total-sum_at v ↦
                (let same : sum_at (point_at c.args.points.now c.loop-point.point-index).level c.args.served.now ≡ v.sum_at.result =
                next_sum c.args.total c.args.served.now c.args.marks.now c.args.points.now c.loop-point.point-index c.loop-point.line.at c.loop-point.line.rise c.loop-point.line.fall c.loop-point.line.constant v.sum_at.result
                (record { sound = c.requires.sound; few = c.requires.few; are = c.requires.points; few_points = c.requires.few_points; within = c.requires.within }) c.loop-point.invariant c.loop-point-test.true v.if-point-line.true v.sum_at.ensures in
                omega arith)
            | else-point-line-via-else-point-line v ↦
                (let ahead = next_ahead c.args.total c.args.served.now c.args.marks.now c.args.points.now c.loop-point.point-index c.loop-point.line.at c.loop-point.line.rise c.loop-point.line.fall c.loop-point.line.constant c.loop-point.invariant c.loop-point-test.true in
                let same : c.loop-point.line.at ≡ (point_at c.args.points.now c.loop-point.point-index).level = omega arith in
                subst (λ n. sum_at n c.args.served.now ≤ c.args.total) same c.loop-point.invariant.fits)
          ])
          w.pass.ensures.at w.pass.ensures.rise w.pass.ensures.fall w.pass.ensures.constant)
      | else-is_marked w ↦
          subst (λ (l : Line). IsWalk c.args.total c.args.served.now c.args.marks.now c.args.points.now (c.loop-point.point-index + 1) l.at l.rise l.fall l.constant) (sym w.line-is)
          (walk_skips c.args.total c.args.served.now c.args.marks.now c.args.points.now c.loop-point.point-index c.loop-point.line.at c.loop-point.line.rise c.loop-point.line.fall c.loop-point.line.constant c.loop-point.invariant c.loop-point-test.true (sym c.is_marked.ensures ∙ w.if-is_marked.false))
    ]

pub level_within-requires-2-clause-slope : goal.level_within-requires-2-clause-slope
level_within-requires-2-clause-slope c =
    λ h. last_slope c.args.total c.args.served.now c.args.marks.now c.args.points.now c.loop-point.point-index c.loop-point.line.at c.loop-point.line.rise c.loop-point.line.fall c.loop-point.line.constant
    (record { sound = c.requires.sound; few = c.requires.few; are = c.requires.points; few_points = c.requires.few_points; within = c.requires.within }) c.loop-point.invariant c.loop-point-test.false

pub returns : goal.returns
returns c =
    sym (walk_ends c.args.total c.args.served.now c.args.marks.now c.args.points.now c.loop-point.point-index c.loop-point.line.at c.loop-point.line.rise c.loop-point.line.fall c.loop-point.line.constant c.level_within-2.result
    (record { sound = c.requires.sound; few = c.requires.few; are = c.requires.points; few_points = c.requires.few_points; within = c.requires.within }) c.loop-point.invariant c.loop-point-test.false
    (record { at_least = c.level_within-2.ensures.at; at_most = c.level_within-2.ensures.top; fits = c.level_within-2.ensures.fits; greatest = c.level_within-2.ensures.greatest }))
