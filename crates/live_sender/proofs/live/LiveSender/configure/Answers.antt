use Rattle.std.proofs.Common.{ℕ, List, [], ◌∷◌, ◌++◌, refl, sym, ◌∙◌, subst}
use Rattle.send_core.specs.declared.call.Call.TheVariants as call
use Rattle.send_core.specs.declared.call.Entry.{Entry}
use Rattle.send_core.specs.History.{entry}
use Rattle.live_sender.specs.Live.{Live, StandsFor}
use Rattle.live_sender.proofs.Living.{live-push, bytes-stay, judged-configured, plus-none}
use Rattle.live_sender.proofs.Summing.{sums-note, none-configured}
use Rattle.live_sender.proofs.live.LiveSender.configure.Goals as goal

after : (c : goal.After-drop-room-3) (h : List Entry) (caller : ℕ) → StandsFor (record { parts = c.self.inside.parts; packets = c.self.inside.packets; judged = c.self.inside.judged; sums = c.self.inside.sums }) h → StandsFor (record { parts = c.configure.new.self; packets = c.self.inside.packets; judged = c.self.inside.judged; sums = c.note.new.self }) (h ++ entry caller (call.Configure c.args.at c.args.change.now) c.in-Ok.reply ∷ [])
after c h caller s =
    live-push h (record { parts = c.self.inside.parts; packets = c.self.inside.packets; judged = c.self.inside.judged; sums = c.self.inside.sums }) (record { parts = c.configure.new.self; packets = c.self.inside.packets; judged = c.self.inside.judged; sums = c.note.new.self }) caller (call.Configure c.args.at c.args.change.now) c.in-Ok.reply s c.in-Ok.ensures.steps
    (c.in-Ok.ensures.answer h s.parts)
    (bytes-stay h (record { parts = c.self.inside.parts; packets = c.self.inside.packets; judged = c.self.inside.judged; sums = c.self.inside.sums }) caller (call.Configure c.args.at c.args.change.now) c.in-Ok.reply s refl c.in-Ok.ensures.none)
    (plus-none c.self.inside.judged _ (judged-configured c.args.at c.args.change.now c.in-Ok.reply c.in-Ok.ensures.none))
    (sums-note h c.self.inside.sums c.note.new.self (entry caller (call.Configure c.args.at c.args.change.now) c.in-Ok.reply) s.sums c.in-Ok.ensures.none (none-configured c.args.at c.args.change.now c.in-Ok.reply c.in-Ok.ensures.none) c.note.ensures)

pub invariant_of-self-2 : goal.invariant_of-self-2
invariant_of-self-2 c = (c.self.invariant.0 ++ entry 0 (call.Configure c.args.at c.args.change.now) c.in-Ok.reply ∷ [], after c c.self.invariant.0 0 c.self.invariant.1)

pub returns-clause-reply : goal.returns-clause-reply
returns-clause-reply c = λ h s. c.in-Ok.ensures.answer h (subst (λ (l : Live). StandsFor l h) (sym c.self.view_is) s).parts

pub returns-clause-stands : goal.returns-clause-stands
returns-clause-stands c = λ h caller s. after c h caller (subst (λ (l : Live). StandsFor l h) (sym c.self.view_is) s)

pub returns-clause-served : goal.returns-clause-served
returns-clause-served c = λ h s. sym (c.is_exhausted.ensures h s) ∙ c.if-is_exhausted.false
