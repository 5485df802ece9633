use Rattle.std.proofs.Common.{◌<◌, ◌∙◌, ap, sym, subst, take, length, None, List, arith}
use Rattle.std.proofs.lemmas.Bool.Decides.{nat_tests}
use Rattle.std.proofs.lemmas.List.{take_more, take_all}
use Rattle.pacer.specs.declared.sent.Sent.{Sent}
use Rattle.pacer.specs.declared.sent.Kind.TheVariants as kind
use Rattle.link_loop.specs.Looping.{with_offers}
use Rattle.link_loop.specs.Kept.{IsAt}
use Rattle.link_loop.proofs.Offering.{offers-more, offers-none}
use Rattle.link_loop.proofs.pacing.offer_all.Goals as goal

pub loop-record-init : goal.loop-record-init
loop-record-init c = record { at = λ s m h. offers-none c.args.now c.args.looper.now s m h; sound = λ h. h }

pub loop-record-preserved : goal.loop-record-preserved
loop-record-preserved c =
    let inside : c.loop-record.record-index < length c.args.records.now = grind (arith, nat_tests, c.loop-record-test.true) in
    let d : Sent = record { number = 0; index = None; kind = kind.Audio; size = 0 } in
    let more = take_more c.args.records.now c.loop-record.record-index d inside in
    record {
      at = λ s m h.
          subst (IsAt c.offer.new.looper s)
          (sym (ap (λ (rs : List Sent). with_offers c.args.now rs m) more ∙ offers-more c.args.now (take c.loop-record.record-index c.args.records.now) _ m))
          (c.in_ok-offer.ensures.at s (with_offers c.args.now (take c.loop-record.record-index c.args.records.now) m) (c.loop-record.invariant.at s m h));
      sound = λ h. c.in_ok-offer.ensures.sound (c.loop-record.invariant.sound h);
    }

pub returns-clause-at : goal.returns-clause-at
returns-clause-at c s m h =
    let all = take_all c.loop-record.record-index c.args.records.now (grind (arith, nat_tests, c.loop-record-test.false)) in
    subst (IsAt c.loop-record.looper s) (ap (λ (rs : List Sent). with_offers c.args.now rs m) all) (c.loop-record.invariant.at s m h)

pub returns-clause-sound : goal.returns-clause-sound
returns-clause-sound c h = c.loop-record.invariant.sound h
