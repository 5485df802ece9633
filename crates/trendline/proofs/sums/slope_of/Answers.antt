use Rattle.std.proofs.Common.{◌≡◌, ℤ, pos, neg_ℤ, ◌*ℤ◌, unsigned_abs, Some, FitsSigned, to_z, of_z, ap, sym, subst, ◌∙◌, arith, rules}
use Rattle.std.specs.Int.{w64, w128, int_max, int_min}
use Rattle.std.proofs.lemmas.Int.{to_z-of_z, fits_signed_from_abs}
use Rattle.fixed_math.specs.Floor.{floor_div}
use Rattle.trendline.specs.declared.TheConstants.{GREATEST_SLOPE}
use Rattle.trendline.specs.Trend.{fit, rise_of}
use Rattle.trendline.specs.Ranges.{IsNear, most_product, most_squares}
use Rattle.trendline.proofs.Numbers.{times-fits, rise-not_least, rise-whole, whole, fits-near, nonzero-of, fit-none, fit-some}
use Rattle.trendline.proofs.sums.slope_of.Goals as goal

pub spread-spread-requires : goal.spread-spread-requires
spread-spread-requires c = c.requires

pub rise-requires : goal.rise-requires
rise-requires c = c.requires

pub overflow_mul-rise : goal.overflow_mul-rise
overflow_mul-rise c = times-fits 4 most_product c.rise.result c.rise.ensures.small (omega arith) (omega arith)

pub div_euclid-slope-requires-clause-no_overflow : goal.div_euclid-slope-requires-clause-no_overflow
div_euclid-slope-requires-clause-no_overflow c divisor least = rise-not_least most_product c.rise.result c.rise.ensures.small (omega arith) least

pub div_euclid-slope-requires-clause-nonzero : goal.div_euclid-slope-requires-clause-nonzero
div_euclid-slope-requires-clause-nonzero c = nonzero-of most_squares c.spread-spread.result c.spread-spread.ensures.small (omega arith) c.if-spread-eq0.false

pub overflow_sub-clamp : goal.overflow_sub-clamp
overflow_sub-clamp c = fits_signed_from_abs w64 (neg_ℤ GREATEST_SLOPE) (omega arith)

pub overflow_cast-clamp : goal.overflow_cast-clamp
overflow_cast-clamp c = fits_signed_from_abs w128 (neg_ℤ GREATEST_SLOPE) (omega arith)

pub overflow_cast-clamp-2 : goal.overflow_cast-clamp-2
overflow_cast-clamp-2 c = fits_signed_from_abs w128 GREATEST_SLOPE (omega arith)

cut : (c : goal.After-clamp) → IsNear (unsigned_abs GREATEST_SLOPE) c.clamp.result
cut c = record { low = c.clamp.ensures.lower_bound; high = c.clamp.ensures.upper_bound }

-- in 128 bits
cut_is : (c : goal.After-clamp) → to_z w128 (of_z w128 c.clamp.result) ≡ c.clamp.result
cut_is c = whole w128 (unsigned_abs GREATEST_SLOPE) c.clamp.result (cut c) (omega arith)

pub overflow_cast-result : goal.overflow_cast-result
overflow_cast-result c =
    let P : ℤ → Type 0 = FitsSigned w64 in
    subst P (sym (cut_is c)) (fits-near w64 (unsigned_abs GREATEST_SLOPE) c.clamp.result (cut c) (omega arith))

pub returns-then-spread-eq0 : goal.returns-then-spread-eq0
returns-then-spread-eq0 c =
    fit-none (rise_of c.args.sums) c.spread-spread.result most_squares c.spread-spread.ensures.small (omega arith) c.if-spread-eq0.true
    ∙ ap (λ z. fit (rise_of c.args.sums) z) c.spread-spread.ensures.value

pub returns : goal.returns
returns c =
    let quotient : FitsSigned w128 c.div_euclid-slope.result = search rules in
    let slope_is : c.div_euclid-slope.result ≡ floor_div (pos 4 *ℤ c.rise.result) c.spread-spread.result =
    c.div_euclid-slope.ensures
    ∙ ap (λ z. floor_div z (to_z w128 (of_z w128 c.spread-spread.result))) (rise-whole 4 most_product c.rise.result c.rise.ensures.small (omega arith) (omega arith))
    ∙ ap (λ z. floor_div (pos 4 *ℤ c.rise.result) z) (whole w128 most_squares c.spread-spread.result c.spread-spread.ensures.small (omega arith)) in
    let cut_of : c.clamp.result ≡ int_max (neg_ℤ GREATEST_SLOPE) (int_min c.div_euclid-slope.result GREATEST_SLOPE) =
    c.clamp.ensures.value ∙ ap (λ z. int_max (neg_ℤ GREATEST_SLOPE) (int_min z GREATEST_SLOPE)) (to_z-of_z w128 c.div_euclid-slope.result quotient) in
    ap (λ z. Some (to_z w64 (of_z w64 z))) (cut_is c)
    ∙ ap Some (whole w64 (unsigned_abs GREATEST_SLOPE) c.clamp.result (cut c) (omega arith))
    ∙ fit-some c.rise.result c.spread-spread.result c.div_euclid-slope.result c.clamp.result c.if-spread-eq0.false slope_is cut_of
    ∙ ap (λ z. fit z c.spread-spread.result) c.rise.ensures.value
    ∙ ap (λ z. fit (rise_of c.args.sums) z) c.spread-spread.ensures.value
