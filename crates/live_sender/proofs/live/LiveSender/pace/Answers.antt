use Rattle.std.proofs.Common.{◌≡◌, ℕ, ◌+◌, None, cond, List, [], ◌∷◌, ◌++◌, refl, sym, ◌∙◌, ap, subst, arith}
use Rattle.pacer.specs.declared.sent.Sent.{Sent}
use Rattle.pacer.specs.Pace.{names}
use Rattle.send_core.specs.declared.call.Call.TheVariants as call
use Rattle.send_core.specs.declared.call.Entry.{Entry}
use Rattle.send_core.specs.History.{entry}
use Rattle.send_core.specs.Stands.{MayGrow}
use Rattle.send_core.proofs.LawsKept.{adds}
use Rattle.live_sender.specs.Held.{kept}
use Rattle.live_sender.specs.Live.{Live, StandsFor}
use Rattle.live_sender.proofs.Leaving.{can-leave, wires-leave}
use Rattle.live_sender.proofs.Living.{live-push, bytes-paced, judged-paced}
use Rattle.live_sender.proofs.Summing.{Fit, may-grow, missing-paced, sums-fit, sums-push}
use Rattle.live_sender.proofs.live.LiveSender.pace.Goals as goal
use Rattle.live_sender.proofs.live.LiveSender.pace.Goals.{In-Ok-pace_parts}

pub stamp_all-wires-requires-clause-ready : goal.stamp_all-wires-requires-clause-ready
stamp_all-wires-requires-clause-ready c =
    can-leave c.self.invariant.0 (record { parts = c.self.inside.parts; packets = c.self.inside.packets; judged = c.self.inside.judged; sums = c.self.inside.sums }) c.args.at c.id_of-id.result c.in-Ok-pace_parts.reply
    c.self.invariant.1 (c.in-Ok-pace_parts.ensures.answer c.self.invariant.0 c.self.invariant.1.parts) c.id_of-id.ensures

after : (c : goal.After-add) (before : Live) (h : List Entry) (caller : ℕ) → before ≡ record { parts = c.self.inside.parts; packets = c.self.inside.packets; judged = c.self.inside.judged; sums = c.self.inside.sums } → StandsFor before h
    → StandsFor (record { parts = c.pace_parts.new.parts; packets = c.free.new.self; judged = c.self.inside.judged; sums = c.add.new.self }) (h ++ entry caller (call.Pace c.args.at) c.in-Ok-pace_parts.reply ∷ [])
after c before h caller is stands =
    let s : StandsFor (record { parts = c.self.inside.parts; packets = c.self.inside.packets; judged = c.self.inside.judged; sums = c.self.inside.sums }) h = subst (λ (l : Live). StandsFor l h) is stands in
    live-push h (record { parts = c.self.inside.parts; packets = c.self.inside.packets; judged = c.self.inside.judged; sums = c.self.inside.sums })
    (record { parts = c.pace_parts.new.parts; packets = c.free.new.self; judged = c.self.inside.judged; sums = c.add.new.self })
    caller (call.Pace c.args.at) c.in-Ok-pace_parts.reply s c.in-Ok-pace_parts.ensures.steps
    (c.in-Ok-pace_parts.ensures.answer h s.parts)
    (bytes-paced h (record { parts = c.self.inside.parts; packets = c.self.inside.packets; judged = c.self.inside.judged; sums = c.self.inside.sums }) c.free.new.self caller c.args.at c.in-Ok-pace_parts.reply s
    (λ k. c.free.ensures k ∙ ap (λ (rs : List Sent). cond (names k rs) None (kept c.self.inside.packets k)) c.records_of.ensures))
    (plus c.self.inside.judged _ (judged-paced c.args.at c.in-Ok-pace_parts.reply))
    (sums-push h c.self.inside.sums c.add.new.self caller (call.Pace c.args.at) c.in-Ok-pace_parts.reply s.sums (adds h (call.Pace c.args.at) c.in-Ok-pace_parts.reply s.parts.laws (c.in-Ok-pace_parts.ensures.answer h s.parts))
    (missing-paced h c.args.at c.in-Ok-pace_parts.reply (c.in-Ok-pace_parts.ensures.answer h s.parts)) c.add.ensures.sent c.add.ensures.credited c.add.ensures.missing c.add.ensures.refused)
  where
    plus : (m n : ℕ) → n ≡ 0 → m ≡ m + n
    plus m n e = omega (arith, e)

grows : (c : In-Ok-pace_parts) → MayGrow c.self.invariant.0
grows c = may-grow c.self.invariant.0 (sym (c.is_exhausted.ensures c.self.invariant.0 (subst (λ (l : Live). StandsFor l c.self.invariant.0) c.self.view_is c.self.invariant.1)) ∙ c.if-is_exhausted.false)

fits : (c : In-Ok-pace_parts) → Fit c.self.inside.sums c.in-Ok-pace_parts.reply
fits c =
    sums-fit c.self.invariant.0 (record { parts = c.self.inside.parts; packets = c.self.inside.packets; judged = c.self.inside.judged; sums = c.self.inside.sums }) c.pace_parts.new.parts (call.Pace c.args.at) c.in-Ok-pace_parts.reply c.self.invariant.1 (grows c) c.in-Ok-pace_parts.ensures.steps
    (c.in-Ok-pace_parts.ensures.answer c.self.invariant.0 c.self.invariant.1.parts)
    (missing-paced c.self.invariant.0 c.args.at c.in-Ok-pace_parts.reply (c.in-Ok-pace_parts.ensures.answer c.self.invariant.0 c.self.invariant.1.parts))

pub add-requires-clause-sent : goal.add-requires-clause-sent
add-requires-clause-sent c = (fits (goal.at.add-requires-clause-sent c).In-Ok-pace_parts).sent

pub add-requires-clause-credited : goal.add-requires-clause-credited
add-requires-clause-credited c = (fits (goal.at.add-requires-clause-credited c).In-Ok-pace_parts).credited

pub add-requires-clause-missing : goal.add-requires-clause-missing
add-requires-clause-missing c = (fits (goal.at.add-requires-clause-missing c).In-Ok-pace_parts).missing

pub invariant_of-self-2 : goal.invariant_of-self-2
invariant_of-self-2 c = (
  c.self.invariant.0 ++ entry 0 (call.Pace c.args.at) c.in-Ok-pace_parts.reply ∷ [],
  after c (record { parts = c.self.inside.parts; packets = c.self.inside.packets; judged = c.self.inside.judged; sums = c.self.inside.sums }) c.self.invariant.0 0 refl c.self.invariant.1,
)

pub returns-clause-reply : goal.returns-clause-reply
returns-clause-reply c = λ h s.
    c.in-Ok-pace_parts.ensures.answer h (subst (λ (l : Live). StandsFor l h) (sym c.self.view_is) s).parts

pub returns-clause-wires : goal.returns-clause-wires
returns-clause-wires c = λ h s.
    let t : StandsFor (record { parts = c.self.inside.parts; packets = c.self.inside.packets; judged = c.self.inside.judged; sums = c.self.inside.sums }) h = subst (λ (l : Live). StandsFor l h) (sym c.self.view_is) s in
    c.stamp_all-wires.ensures
    ∙ wires-leave h (record { parts = c.self.inside.parts; packets = c.self.inside.packets; judged = c.self.inside.judged; sums = c.self.inside.sums }) c.args.at c.id_of-id.result c.in-Ok-pace_parts.reply
    t (c.in-Ok-pace_parts.ensures.answer h t.parts) c.id_of-id.ensures

pub returns-clause-stands : goal.returns-clause-stands
returns-clause-stands c = λ h caller s. after c c.args.self.now h caller (sym c.self.view_is) s
