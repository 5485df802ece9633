use Rattle.std.proofs.Common.{◌≡◌, ◌++◌, [], ◌∷◌, refl, sym, subst}
use Rattle.send_laws.specs.Budgets.{IsCount}
use Rattle.send_laws.proofs.BudgetCounts.{counted_by, count-more}
use Rattle.send_laws.proofs.budget.Budget.with_packet.Goals as goal

pub returns-in-Media-Media-clause-counts : goal.returns-in-Media-Media-clause-counts
returns-in-Media-Media-clause-counts c = λ records h.
    let same : counted_by c.args.self c.args.packet.now.kind c.args.packet.now.size c.args.so_far ≡ c.with_size.result =
    rw (c.in-Media-Media.is-0, c.in-Media-Media.is-1) (sym c.with_size.ensures) in
    subst (IsCount c.args.self (records ++ c.args.packet.now ∷ [])) same (count-more c.args.self records c.args.packet.now c.args.so_far h)

pub returns-in-Media-Probe-clause-counts : goal.returns-in-Media-Probe-clause-counts
returns-in-Media-Probe-clause-counts c = λ records h.
    let same : counted_by c.args.self c.args.packet.now.kind c.args.packet.now.size c.args.so_far ≡ c.with_probe.result =
    rw (c.in-Media-Probe.is-0, c.in-Media-Probe.is-1) (sym c.with_probe.ensures) in
    subst (IsCount c.args.self (records ++ c.args.packet.now ∷ [])) same (count-more c.args.self records c.args.packet.now c.args.so_far h)

pub returns-in-Media-Audio-clause-counts : goal.returns-in-Media-Audio-clause-counts
returns-in-Media-Audio-clause-counts c = λ records h.
    let same : counted_by c.args.self c.args.packet.now.kind c.args.packet.now.size c.args.so_far ≡ c.args.so_far = rw (c.in-Media-Audio.is-0, c.in-Media-Audio.is-1) refl in
    subst (IsCount c.args.self (records ++ c.args.packet.now ∷ [])) same (count-more c.args.self records c.args.packet.now c.args.so_far h)

pub returns-in-Media-Padding-clause-counts : goal.returns-in-Media-Padding-clause-counts
returns-in-Media-Padding-clause-counts c = λ records h.
    let same : counted_by c.args.self c.args.packet.now.kind c.args.packet.now.size c.args.so_far ≡ c.args.so_far = rw (c.in-Media-Padding.is-0, c.in-Media-Padding.is-1) refl in
    subst (IsCount c.args.self (records ++ c.args.packet.now ∷ [])) same (count-more c.args.self records c.args.packet.now c.args.so_far h)
