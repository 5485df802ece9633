use Rattle.std.proofs.Common.{◌≡◌, ◌+◌, ◌*◌, ◌≤◌, ◌⊎◌, inl, inr, length, get_or, sym, ap, ◌∙◌, arith}
use Rattle.twcc_report.specs.Canonical.{run_len}
use Rattle.twcc_report.proofs.Chosen.{run_len-bounds, symbol_below, one_bit_digits, two_bit_digits, is_run_where, is_one_bit_where, is_two_bit_where}
use Rattle.twcc_report.proofs.writing.next_chunk.Goals as goal

pub overflow_cast-result-then-run-ge-LONG_RUN : goal.overflow_cast-result-then-run-ge-LONG_RUN
overflow_cast-result-then-run-ge-LONG_RUN c = let bounds = run_len-bounds c.args.symbols.now in omega (arith, bounds.0, c.run_len-run.ensures)

pub overflow_add-result : goal.overflow_add-result
overflow_add-result c =
    let bounds = run_len-bounds c.args.symbols.now in
    omega (arith, bounds.0, c.run_len-run.ensures, symbol_below c.args.symbols.now 0 c.requires.symbols)

pub returns-then-run-ge-LONG_RUN : goal.returns-then-run-ge-LONG_RUN
returns-then-run-ge-LONG_RUN c =
    let e = c.run_len-run.ensures in
    let which : (7 ≤ run_len c.args.symbols.now) ⊎ (run_len c.args.symbols.now ≡ length c.args.symbols.now) = elim c.then-run-ge-LONG_RUN.either [
      | inl long ↦ inl (omega (arith, long, e))
      | inr ends ↦ inr (omega (arith, ends, e))
    ] in
    ap (λ n. get_or c.args.symbols.now 0 0 * 8192 + n) e ∙ sym (is_run_where c.args.symbols.now which)

pub returns-then-fits_one_bit : goal.returns-then-fits_one_bit
returns-then-fits_one_bit c =
    let e = c.run_len-run.ensures in
    c.vector.ensures
    ∙ sym (is_one_bit_where c.args.symbols.now (omega (arith, e, c.if-run-ge-LONG_RUN.false)) (λ ends. c.if-run-symbols.false (e ∙ ends))
    (sym c.fits_one_bit.ensures ∙ c.if-fits_one_bit.true))

pub returns : goal.returns
returns c =
    let e = c.run_len-run.ensures in
    c.vector-2.ensures
    ∙ sym (is_two_bit_where c.args.symbols.now (omega (arith, e, c.if-run-ge-LONG_RUN.false)) (λ ends. c.if-run-symbols.false (e ∙ ends))
    (sym c.fits_one_bit.ensures ∙ c.if-fits_one_bit.false))

pub vector-requires-clause-digits : goal.vector-requires-clause-digits
vector-requires-clause-digits c = one_bit_digits 14 c.args.symbols.now (sym c.fits_one_bit.ensures ∙ c.if-fits_one_bit.true)

pub vector-requires-2-clause-digits : goal.vector-requires-2-clause-digits
vector-requires-2-clause-digits c = two_bit_digits 7 c.args.symbols.now c.requires.symbols
