use Rattle.std.proofs.Common.{sym, ◌∙◌, subst}
use Rattle.live_sender.specs.Live as live
use Rattle.steered_sender.specs.Standing.{StandsFor}
use Rattle.capi.specs.Serving.{Serving}
use Rattle.capi.proofs.Counted.{stats-are}
use Rattle.capi.proofs.sender.Sender.stats.Goals as goal

pub returns : goal.returns
returns c = λ h s.
    let e = c.counters.ensures in
    let whole : StandsFor c.self.inside.steered h = subst (λ (v : Serving). StandsFor v.steered h) (sym c.self.view_is) s in
    let stands : live.StandsFor c.sender.result.now h = c.sender.ensures.stands h whole in
    c.stats_told.ensures
    ∙ stats-are c.counters.result h (e.sent h stands) (e.sent_as h stands) (e.credited h stands) (e.missing h stands) (e.expired h stands) (e.refused h stands)
    (e.accepted h stands) (e.waiting h stands) (e.outstanding h stands) (e.judged h stands)
