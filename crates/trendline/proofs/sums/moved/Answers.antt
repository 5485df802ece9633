use Rattle.std.proofs.Common.{ℤ, ◌+ℤ◌, FitsSigned, to_z, of_z, arith, rules, ap, sym, ◌∙◌, subst}
use Rattle.std.specs.Int.{w64}
use Rattle.trendline.specs.declared.sums.Point.{Point}
use Rattle.trendline.specs.declared.TheConstants.{GREATEST_TIME}
use Rattle.trendline.specs.Ranges.{IsPointSmall, most_delay}
use Rattle.trendline.proofs.Numbers.{moved-fits, moved-is}
use Rattle.trendline.proofs.sums.moved.Goals as goal

pub overflow_add-result : goal.overflow_add-result
overflow_add-result c =
    let f : FitsSigned w64 c.args.last.x = search rules in
    let g : FitsSigned w64 c.args.sample.now.arrival_gap = search rules in
    moved-fits GREATEST_TIME c.args.last.x c.args.sample.now.arrival_gap f g c.requires.x (omega arith)

pub overflow_add-result-2 : goal.overflow_add-result-2
overflow_add-result-2 c =
    let f : FitsSigned w64 c.args.last.y = search rules in
    let g : FitsSigned w64 c.args.sample.now.d = search rules in
    moved-fits most_delay c.args.last.y c.args.sample.now.d f g c.requires.y (omega arith)

pub returns-clause-value : goal.returns-clause-value
returns-clause-value c =
    let f : FitsSigned w64 c.args.last.x = search rules in
    let g : FitsSigned w64 c.args.sample.now.arrival_gap = search rules in
    let h : FitsSigned w64 c.args.last.y = search rules in
    let k : FitsSigned w64 c.args.sample.now.d = search rules in
    let x_is = moved-is GREATEST_TIME c.args.last.x c.args.sample.now.arrival_gap f g c.requires.x (omega arith) in
    let y_is = moved-is most_delay c.args.last.y c.args.sample.now.d h k c.requires.y (omega arith) in
    let make : ℤ → ℤ → Point = λ x y. record { x = x; y = y } in
    ap (λ z. make z (to_z w64 (of_z w64 (to_z w64 (of_z w64 c.args.last.y) +ℤ to_z w64 (of_z w64 c.args.sample.now.d))))) x_is
    ∙ ap (λ z. make (c.args.last.x +ℤ c.args.sample.now.arrival_gap) z) y_is

pub returns-clause-small : goal.returns-clause-small
returns-clause-small c = let P : Point → Type 0 = IsPointSmall in subst P (sym (returns-clause-value c)) c.requires
