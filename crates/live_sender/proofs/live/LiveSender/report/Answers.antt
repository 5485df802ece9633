use Rattle.std.proofs.Common.{ℕ, ◌+◌, List, [], ◌∷◌, ◌++◌, sym, ◌∙◌, ap, subst, arith, refl}
use Rattle.send_core.specs.declared.call.Call.TheVariants as call
use Rattle.send_core.specs.declared.call.Entry.{Entry}
use Rattle.send_core.specs.History.{entry}
use Rattle.send_core.specs.Stands.{MayGrow}
use Rattle.live_sender.specs.Live.{Live, StandsFor}
use Rattle.live_sender.specs.Replies.{is_judged}
use Rattle.send_core.proofs.LawsKept.{adds}
use Rattle.live_sender.proofs.Living.{live-push, bytes-stay, judged-reported}
use Rattle.live_sender.proofs.Summing.{Fit, may-grow, judged-fits, missing-judged, sums-fit, sums-push}
use Rattle.live_sender.proofs.live.LiveSender.report.Goals as goal
use Rattle.live_sender.proofs.live.LiveSender.report.Goals.{In-Ok}

grows : (c : In-Ok) → MayGrow c.self.invariant.0
grows c = may-grow c.self.invariant.0 (sym (c.is_exhausted.ensures c.self.invariant.0 (subst (λ (l : Live). StandsFor l c.self.invariant.0) c.self.view_is c.self.invariant.1)) ∙ c.if-is_exhausted.false)

fits : (c : In-Ok) → Fit c.self.inside.sums c.in-Ok.reply
fits c =
    sums-fit c.self.invariant.0 (record { parts = c.self.inside.parts; packets = c.self.inside.packets; judged = c.self.inside.judged; sums = c.self.inside.sums }) c.report.new.self (call.Report c.args.at c.args.bytes.now) c.in-Ok.reply c.self.invariant.1 (grows c) c.in-Ok.ensures.steps
    (c.in-Ok.ensures.answer c.self.invariant.0 c.self.invariant.1.parts)
    (missing-judged c.self.invariant.0 c.args.at c.args.bytes.now c.in-Ok.reply (c.in-Ok.ensures.answer c.self.invariant.0 c.self.invariant.1.parts))

pub overflow_add-self : goal.overflow_add-self
overflow_add-self c =
    omega (arith, judged-fits c.self.invariant.0 c.self.inside.judged c.judged_by.result (is_judged c.in-Ok.reply) (grows (goal.at.overflow_add-self c).In-Ok) c.self.invariant.1.judged c.judged_by.ensures)

pub add-requires-clause-sent : goal.add-requires-clause-sent
add-requires-clause-sent c = (fits (goal.at.add-requires-clause-sent c).In-Ok).sent

pub add-requires-clause-credited : goal.add-requires-clause-credited
add-requires-clause-credited c = (fits (goal.at.add-requires-clause-credited c).In-Ok).credited

pub add-requires-clause-missing : goal.add-requires-clause-missing
add-requires-clause-missing c = (fits (goal.at.add-requires-clause-missing c).In-Ok).missing

after : (c : goal.After-drop-room-3) (h : List Entry) (caller : ℕ) → StandsFor (record { parts = c.self.inside.parts; packets = c.self.inside.packets; judged = c.self.inside.judged; sums = c.self.inside.sums }) h
    → StandsFor (record { parts = c.report.new.self; packets = c.self.inside.packets; judged = c.self.inside.judged + c.judged_by.result; sums = c.add.new.self }) (h ++ entry caller (call.Report c.args.at c.args.bytes.now) c.in-Ok.reply ∷ [])
after c h caller s =
    live-push h (record { parts = c.self.inside.parts; packets = c.self.inside.packets; judged = c.self.inside.judged; sums = c.self.inside.sums }) (record { parts = c.report.new.self; packets = c.self.inside.packets; judged = c.self.inside.judged + c.judged_by.result; sums = c.add.new.self }) caller (call.Report c.args.at c.args.bytes.now) c.in-Ok.reply s c.in-Ok.ensures.steps
    (c.in-Ok.ensures.answer h s.parts)
    (bytes-stay h (record { parts = c.self.inside.parts; packets = c.self.inside.packets; judged = c.self.inside.judged; sums = c.self.inside.sums }) caller (call.Report c.args.at c.args.bytes.now) c.in-Ok.reply s refl c.in-Ok.ensures.none)
    (ap (λ n. c.self.inside.judged + n) (c.judged_by.ensures ∙ sym (judged-reported h c.args.at c.args.bytes.now c.in-Ok.reply (c.in-Ok.ensures.answer h s.parts))))
    (sums-push h c.self.inside.sums c.add.new.self caller (call.Report c.args.at c.args.bytes.now) c.in-Ok.reply s.sums (adds h (call.Report c.args.at c.args.bytes.now) c.in-Ok.reply s.parts.laws (c.in-Ok.ensures.answer h s.parts))
    (missing-judged h c.args.at c.args.bytes.now c.in-Ok.reply (c.in-Ok.ensures.answer h s.parts)) c.add.ensures.sent c.add.ensures.credited c.add.ensures.missing c.add.ensures.refused)

pub invariant_of-self-2 : goal.invariant_of-self-2
invariant_of-self-2 c = (c.self.invariant.0 ++ entry 0 (call.Report c.args.at c.args.bytes.now) c.in-Ok.reply ∷ [], after c c.self.invariant.0 0 c.self.invariant.1)

pub returns-clause-reply : goal.returns-clause-reply
returns-clause-reply c = λ h s. c.in-Ok.ensures.answer h (subst (λ (l : Live). StandsFor l h) (sym c.self.view_is) s).parts

pub returns-clause-stands : goal.returns-clause-stands
returns-clause-stands c = λ h caller s. after c h caller (subst (λ (l : Live). StandsFor l h) (sym c.self.view_is) s)
