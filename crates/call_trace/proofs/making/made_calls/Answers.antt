use Rattle.std.proofs.Common.{◌∙◌, ap, sym, subst, inl, inr, arith}
use Rattle.std.proofs.lemmas.Bool.Decides.{nat_tests}
use Rattle.call_trace.specs.Making.{millisecond}
use Rattle.call_trace.specs.Makers.{IsSteady}
use Rattle.call_trace.proofs.Framing.{milliseconds-none, milliseconds-more}
use Rattle.call_trace.proofs.MadeLines.{all-made}
use Rattle.call_trace.proofs.Steadiness.{milliseconds-steady}
use Rattle.call_trace.proofs.making.made_calls.Goals as goal
use Rattle.call_trace.proofs.making.made_calls.Goals.{else-loop-t-test, then-loop-t-test+then-is_done}

pub loop-t-init : goal.loop-t-init
loop-t-init c = record { making = c.in_ok-maker.ensures.making ∙ milliseconds-none c.args.seed c.args.calls; counted = c.in_ok-maker.ensures.counted }

pub millisecond-requires-clause-steady : goal.millisecond-requires-clause-steady
millisecond-requires-clause-steady c = subst (IsSteady c.loop-t.t) (sym c.loop-t.invariant.making) (milliseconds-steady c.args.seed c.args.calls c.loop-t.t)

pub loop-t-preserved : goal.loop-t-preserved
loop-t-preserved c = record {
  making = c.in_ok-millisecond.ensures.making ∙ (ap (millisecond c.loop-t.t) c.loop-t.invariant.making ∙ sym (milliseconds-more c.args.seed c.args.calls c.loop-t.t));
  counted = c.in_ok-millisecond.ensures.counted;
}

pub returns : goal.returns
returns c =
    all-made c.args.seed c.args.calls c.loop-t.t c.loop-t.maker (omega (arith, c.loop-t.auto.t-end)) c.loop-t.invariant.making
    (elim c.loop-t-test.branch [ else-loop-t-test w ↦ inl (omega (arith, w.loop-t-test.false)) | then-loop-t-test+then-is_done w ↦ inr (grind (arith, nat_tests, w.if-is_done.ensures)) ])
