use Rattle.std.proofs.Common.{◌≡◌, ℕ, ◌==◌, None, Some, cond, Bool, List, [], ◌∷◌, ◌++◌, sym, ◌∙◌, ap, subst}
use Rattle.gcc_units.specs.Listed.{Listed}
use Rattle.send_core.specs.declared.call.Call.TheVariants as call
use Rattle.send_core.specs.declared.call.Entry.{Entry}
use Rattle.send_core.specs.History.{entry}
use Rattle.send_core.specs.Reply.{reply}
use Rattle.send_core.specs.Stands.{Steps}
use Rattle.live_sender.specs.Held.{kept}
use Rattle.live_sender.specs.Live.{Live, StandsFor}
use Rattle.live_sender.specs.Replies.{is_accepted}
use Rattle.live_sender.proofs.Living.{live-push, bytes-enqueued, judged-enqueued, plus-none, same-packet, kept-only_if}
use Rattle.live_sender.proofs.Summing.{sums-note, none-enqueued}
use Rattle.live_sender.proofs.live.LiveSender.enqueue.Goals as goal

-- the packet that the parts read is the one that was handed in
same : (c : goal.After-note) → c.in-Some.kept.now ≡ c.args.wire
same c = same-packet c.self.inside.parts.accepted c.in-Some.kept.now c.args.wire _ _ c.in-Some.ensures (c.in_default.ensures.ok c.self.inside.parts.accepted)

answer : (c : goal.After-note) (h : List Entry) → StandsFor (record { parts = c.self.inside.parts; packets = c.self.inside.packets; judged = c.self.inside.judged; sums = c.self.inside.sums }) h
    → c.enqueue-reply.result ≡ reply h (call.Enqueue c.args.at c.args.class c.args.wire)
answer c h s = c.enqueue-reply.ensures.answer h s.parts ∙ ap (λ (w : Listed ℕ). reply h (call.Enqueue c.args.at c.args.class w)) (same c)

after : (c : goal.After-note) (h : List Entry) (caller : ℕ) → StandsFor (record { parts = c.self.inside.parts; packets = c.self.inside.packets; judged = c.self.inside.judged; sums = c.self.inside.sums }) h
    → StandsFor (record { parts = c.enqueue-reply.new.self; packets = c.keep_only_if.new.self; judged = c.self.inside.judged; sums = c.note.new.self }) (h ++ entry caller (call.Enqueue c.args.at c.args.class c.args.wire) c.enqueue-reply.result ∷ [])
after c h caller s =
    live-push h (record { parts = c.self.inside.parts; packets = c.self.inside.packets; judged = c.self.inside.judged; sums = c.self.inside.sums })
    (record { parts = c.enqueue-reply.new.self; packets = c.keep_only_if.new.self; judged = c.self.inside.judged; sums = c.note.new.self })
    caller (call.Enqueue c.args.at c.args.class c.args.wire) c.enqueue-reply.result s
    (subst (λ (w : Listed ℕ). Steps (call.Enqueue c.args.at c.args.class w) c.enqueue-reply.result c.self.inside.parts c.enqueue-reply.new.self) (same c) c.enqueue-reply.ensures.steps)
    (answer c h s)
    (bytes-enqueued h (record { parts = c.self.inside.parts; packets = c.self.inside.packets; judged = c.self.inside.judged; sums = c.self.inside.sums }) c.keep_only_if.new.self caller c.args.at c.args.class c.args.wire
    c.enqueue-reply.result s c.enqueue-reply.ensures.sends
    (λ k.
    c.keep_only_if.ensures k
    ∙ (ap (λ (b : Bool). cond b (kept c.keep.new.self k) (cond (c.self.inside.parts.accepted == k) None (kept c.keep.new.self k))) c.is_accepted.ensures
    ∙ (kept-only_if (is_accepted c.enqueue-reply.result) (c.self.inside.parts.accepted == k) (kept c.keep.new.self k) (kept c.self.inside.packets k) c.args.wire (c.in_default.ensures.ok k)
    ∙ ap (λ n. cond (n == k) (cond (is_accepted c.enqueue-reply.result) (Some c.args.wire) None) (kept c.self.inside.packets k)) s.parts.count))))
    (plus-none c.self.inside.judged _ (judged-enqueued c.args.at c.args.class c.args.wire c.enqueue-reply.result c.enqueue-reply.ensures.sends))
    (sums-note h c.self.inside.sums c.note.new.self (entry caller (call.Enqueue c.args.at c.args.class c.args.wire) c.enqueue-reply.result) s.sums c.enqueue-reply.ensures.sends
    (none-enqueued c.args.at c.args.class c.args.wire c.enqueue-reply.result c.enqueue-reply.ensures.sends) c.note.ensures)

pub invariant_of-self-2 : goal.invariant_of-self-2
invariant_of-self-2 c =
    (c.self.invariant.0 ++ entry 0 (call.Enqueue c.args.at c.args.class c.args.wire) c.enqueue-reply.result ∷ [], after c c.self.invariant.0 0 c.self.invariant.1)

pub returns-clause-reply : goal.returns-clause-reply
returns-clause-reply c = λ h s. answer c h (subst (λ (l : Live). StandsFor l h) (sym c.self.view_is) s)

pub returns-clause-stands : goal.returns-clause-stands
returns-clause-stands c = λ h caller s. after c h caller (subst (λ (l : Live). StandsFor l h) (sym c.self.view_is) s)
