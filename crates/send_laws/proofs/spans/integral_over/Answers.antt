use Rattle.std.proofs.Common.{◌≡◌, ◌+◌, ◌*◌, ◌-◌, take, drop, ◌∙◌, ap, arith}
use Rattle.std.proofs.lemmas.Int.{ints}
use Rattle.pacer.specs.declared.pacing.Tally.{Tally}
use Rattle.send_laws.specs.Budgets.{rate_in, integral_of}
use Rattle.send_laws.proofs.Summing.{moment-at, now-rises, now-in_range, integral-none, integral-more, widened, product-is}
use Rattle.send_laws.proofs.spans.integral_over.Goals as goal

pub loop-k-init : goal.loop-k-init
loop-k-init c =
    integral-none c.args.budget c.args.journal.now.items c.args.i c.moment_of-before.result
    (c.moment_of-before.ensures ∙ moment-at c.args.journal.now.items c.args.i c.entry_at.result.now c.entry_at.ensures c.requires.legal.each)

pub overflow_sub-moment : goal.overflow_sub-moment
overflow_sub-moment c =
    omega (
      arith,
      c.loop-k.invariant.moment_is,
      c.moment_of-moment.ensures,
      moment-at c.args.journal.now.items c.loop-k.k c.entry_at-in-loop-k.result.now c.entry_at-in-loop-k.ensures c.requires.legal.each,
      now-rises c.args.journal.now.items c.loop-k.k c.entry_at-in-loop-k.result.now c.entry_at-in-loop-k.ensures,
    )

pub loop-k-preserved : goal.loop-k-preserved
loop-k-preserved c =
    integral-more c.args.budget c.args.journal.now.items c.args.i c.loop-k.k c.loop-k.integral c.loop-k.before c.rate-rate.result c.moment_of-moment.result
    (c.loop-k.integral + c.from.result * c.from-in-loop-k.result) c.entry_at-in-loop-k.result.now c.loop-k.auto.k c.entry_at-in-loop-k.ensures c.loop-k.invariant
    (c.rate-rate.ensures ∙ ap (λ (t : Tally). rate_in c.args.budget t) c.tally_at.ensures) (omega arith)
    (c.moment_of-moment.ensures ∙ moment-at c.args.journal.now.items c.loop-k.k c.entry_at-in-loop-k.result.now c.entry_at-in-loop-k.ensures c.requires.legal.each)
    (ap (λ n. c.loop-k.integral + n) (product-is c.from.result c.from-in-loop-k.result c.rate-rate.result (c.moment_of-moment.result - c.loop-k.before) c.from.ensures c.from-in-loop-k.ensures))

pub overflow_cast-result : goal.overflow_cast-result
overflow_cast-result c = omega (arith, ints, c.loop-k.invariant.little, c.loop-k.invariant.moment_is, now-in_range (take c.loop-k.k c.args.journal.now.items))

pub returns : goal.returns
returns c =
    let last : c.loop-k.k ≡ c.args.j + 1 = omega arith in
    widened c.loop-k.integral _
    (omega (arith, c.loop-k.invariant.little, c.loop-k.invariant.moment_is, now-in_range (take c.loop-k.k c.args.journal.now.items)))
    (c.loop-k.invariant.total_is
    ∙ ap (λ k. integral_of c.args.budget (take (c.args.i + 1) c.args.journal.now.items) (drop (c.args.i + 1) (take k c.args.journal.now.items))) last)
