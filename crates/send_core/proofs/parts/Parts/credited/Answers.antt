use Rattle.std.proofs.Common.{◌≡◌, rules, w64}
use Rattle.std.proofs.lemmas.Int.{to_z-of_z}
use mir.Val.{to_z, of_z}
use Rattle.send_core.proofs.OutcomesMade.{credits_made}
use Rattle.send_core.proofs.parts.Parts.credited.Goals as goal

pub returns-clause-credits : goal.returns-clause-credits
returns-clause-credits c =
    let same : to_z w64 (of_z w64 c.judge-estimate.result.m) ≡ c.judge-estimate.result.m = search (rules, to_z-of_z) in
    rw c.trimmed.ensures (credits_made c.args.judged c.judge-estimate.result _ c.moment.result c.moment-2.result c.rates_of.result c.shares_of.result c.judge-estimate.new.self c.judge-estimate.new.clusters
    c.args.self.now c.tune.new.self c.moment.ensures.value c.tune.ensures c.moment-2.ensures.value same c.rates_of.ensures c.shares_of.ensures.value
    c.judge-estimate.ensures.stands c.judge-estimate.ensures.clusters c.judge-estimate.ensures.answer)
