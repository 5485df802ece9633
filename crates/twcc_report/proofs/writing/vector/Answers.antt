use Rattle.std.proofs.Common.{◌+◌, ◌*◌, ◌<◌, get_or, sym, ap, ◌∙◌, arith}
use Rattle.twcc_report.specs.Canonical.{with_digits}
use Rattle.twcc_report.proofs.Digits.{next_digit, digit_fits, with_digits-more, with_digits-none, no_digits}
use Rattle.twcc_report.proofs.writing.vector.Goals as goal

pub loop-k-init : goal.loop-k-init
loop-k-init c = (sym (with_digits-none c.args.base c.args.bits c.args.symbols.now), no_digits c.args.bits c.args.base)

pub overflow_mul-word : goal.overflow_mul-word
overflow_mul-word c =
    let digit : get_or c.args.symbols.now c.loop-k.k 0 < c.args.base = c.requires.digits c.loop-k.k c.loop-k-test.true in
    omega (arith, digit_fits c.args.bits c.args.base c.loop-k.word c.loop-k.k c.args.places _ 65536 c.loop-k.invariant.1 digit c.loop-k-test.true c.requires.fits)

pub overflow_add-word : goal.overflow_add-word
overflow_add-word c =
    let digit : get_or c.args.symbols.now c.loop-k.k 0 < c.args.base = c.requires.digits c.loop-k.k c.loop-k-test.true in
    omega (arith, c.symbol_or_zero.ensures, digit_fits c.args.bits c.args.base c.loop-k.word c.loop-k.k c.args.places _ 65536 c.loop-k.invariant.1 digit c.loop-k-test.true c.requires.fits)

pub loop-k-preserved : goal.loop-k-preserved
loop-k-preserved c =
    let symbol = get_or c.args.symbols.now c.loop-k.k 0 in
    let digit : symbol < c.args.base = c.requires.digits c.loop-k.k c.loop-k-test.true in (
      ap (λ w. w * c.args.base + c.symbol_or_zero.result) c.loop-k.invariant.0
          ∙ ap (λ s. with_digits c.args.base c.args.bits c.loop-k.k c.args.symbols.now * c.args.base + s) c.symbol_or_zero.ensures
          ∙ sym (with_digits-more c.args.base c.args.bits c.loop-k.k c.args.symbols.now),
      omega (arith, c.symbol_or_zero.ensures, next_digit c.args.bits c.args.base c.loop-k.word c.loop-k.k symbol c.loop-k.invariant.1 digit),
    )
