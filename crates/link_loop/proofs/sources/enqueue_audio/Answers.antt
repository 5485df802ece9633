use Rattle.std.proofs.Common.{subst}
use Rattle.std.proofs.lemmas.Result.{on_ok_weaker}
use Rattle.link_loop.specs.Kept.{IsAt}
use Rattle.link_loop.proofs.Frames.{audio-is}
use Rattle.link_loop.proofs.sources.enqueue_audio.Goals as goal

pub returns-clause-at : goal.returns-clause-at
returns-clause-at c =
    on_ok_weaker c.ask.result
    (λ asked s m h.
    subst (IsAt c.ask.new.self s)
    (audio-is c.args.t c.moment-at.result c.from-count.result c.from.result c.in_ok-wire.wire c.args.looper.now s m h c.if-t-ne0.false c.moment-at.ensures c.in_ok-wire.ensures
    c.from.ensures c.from-count.ensures c.requires.sound.audio)
    (asked s m h))
    c.ask.ensures.at
