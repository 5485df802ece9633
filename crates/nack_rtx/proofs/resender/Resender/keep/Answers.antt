use Rattle.std.proofs.Common.{◌≡◌, ℕ, ◌+◌, [], ◌∷◌, ◌++◌, Some, List, length, set, ap, sym, ◌∙◌, arith}
use Rattle.circular_buffer.specs.Buffer.{Buffer, keep_last}
use Rattle.nack_rtx.specs.declared.TheConstants.{MOST_STORED}
use Rattle.nack_rtx.specs.Held.{Held}
use Rattle.nack_rtx.specs.Resending.{is_kept}
use Rattle.nack_rtx.proofs.Kept.{stands_not, stands_kept}
use Rattle.nack_rtx.proofs.resender.Resender.keep.Goals as goal

pub returns-then-not-is_kept-clause-stands : goal.returns-then-not-is_kept-clause-stands
returns-then-not-is_kept-clause-stands c = λ events stands.
    let v : _ ≡ c.args.self.now = c.self.view_is in
    stands_not c.args.self.now events c.args.wire.now.bytes
    (ap (λ (h : Held). is_kept h.settings c.args.wire.now.bytes) (sym v) ∙ sym c.is_kept.ensures.kept ∙ c.if-not-is_kept.true) stands

pub returns-clause-stands : goal.returns-clause-stands
returns-clause-stands c = λ events stands.
    let v : _ ≡ c.args.self.now = c.self.view_is in
    stands_kept c.args.self.now _ events c.args.wire.now.bytes c.rtp_seq.result stands
    (ap (λ (h : Held). is_kept h.settings c.args.wire.now.bytes) (sym v) ∙ sym c.is_kept.ensures.kept ∙ c.if-not-is_kept.false)
    (ap (λ (h : Held). h.settings) v)
    (ap (λ (h : Held). length h.places) (sym v) ∙ c.self.invariant.2)
    (omega arith)
    c.rtp_seq.ensures
    (ap (λ (b : Buffer (List ℕ)). b.items) c.push.ensures
    ∙ ap (λ k. keep_last k (c.self.inside.packets.items ++ c.in_ok-packet.packet ∷ [])) c.self.invariant.0
    ∙ ap (λ (p : List ℕ). keep_last MOST_STORED (c.self.inside.packets.items ++ p ∷ [])) c.in_ok-packet.ensures
    ∙ ap (λ (h : Held). keep_last MOST_STORED (h.packets ++ c.args.wire.now.bytes ∷ [])) v)
    (c.push-2.ensures ∙ ap (λ (h : Held). keep_last MOST_STORED (h.counts ++ 0 ∷ [])) v)
    (ap (λ (h : Held). set h.places c.rtp_seq.result (Some h.kept)) v)
    (ap (λ (h : Held). h.kept + 1) v)
    (ap (λ (h : Held). h.resends) v)
