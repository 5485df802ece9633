use Rattle.std.proofs.Common.{◌≡◌, ℕ, ◌-◌, ◌%◌, List, ap, sym, ◌∙◌, refl, arith}
use Rattle.std.specs.Prelude.{slice_get}
use Rattle.std.specs.Option.{option_copied}
use Rattle.gcc_units.specs.Listed.{Listed, bare}
use Rattle.nack_rtx.specs.declared.TheConstants.{MOST_STORED}
use Rattle.nack_rtx.specs.declared.resender.Resend.{Resend}
use Rattle.nack_rtx.specs.Packets.{resent_packet}
use Rattle.nack_rtx.specs.Held.{Held}
use Rattle.nack_rtx.proofs.Judged.{no_packet, no_counts, of_spent, of_again}
use Rattle.nack_rtx.proofs.resender.Resender.judge.Goals as goal

pub returns-in_default-get : goal.returns-in_default-get
returns-in_default-get c = λ a keep.
    absurd (no_packet c.args.self.now c.args.counts.now c.args.resends a c.args.media c.args.seq keep
    (c.if-media-self.false ∙ ap (λ (h : Held). h.settings.media) c.self.view_is) (omega arith) c.in-Some.place (sym c.in-Some.ensures.place)
    (ap (λ (h : Held). slice_get h.packets (c.in-Some.place - (c.args.self.now.kept - MOST_STORED))) (sym c.self.view_is)
    ∙ ap (λ k. slice_get c.self.inside.packets.items (c.in-Some.place - k)) (sym c.first.ensures)
    ∙ sym c.get.ensures ∙ ap option_copied c.in_default-get.is))

pub returns-in_default-get-2 : goal.returns-in_default-get-2
returns-in_default-get-2 c = λ a keep.
    absurd (no_counts c.args.self.now c.args.counts.now c.args.resends a c.args.media c.args.seq keep
    (c.if-media-self.false ∙ ap (λ (h : Held). h.settings.media) c.self.view_is) (omega arith) c.in-Some.place (sym c.in-Some.ensures.place)
    (ap (λ k. slice_get c.args.counts.now (c.in-Some.place - k)) (sym c.first-2.ensures)
    ∙ sym c.get-2.ensures ∙ c.in_default-get-2.is))

pub returns-then-count-self : goal.returns-then-count-self
returns-then-count-self c = λ a keep.
    of_spent c.args.self.now c.args.counts.now c.args.resends a c.args.media c.args.seq keep
    (c.if-media-self.false ∙ ap (λ (h : Held). h.settings.media) c.self.view_is) (omega arith) c.in-Some.place c.in-Some-get-2.count (sym c.in-Some.ensures.place)
    (ap (λ k. slice_get c.args.counts.now (c.in-Some.place - k)) (sym c.first-2.ensures) ∙ sym c.get-2.ensures ∙ c.in-Some-get-2.is)
    (omega (arith, c.if-count-self.true, ap (λ (h : Held). h.settings.repeats) c.self.view_is))

pub returns : goal.returns
returns c = λ a keep.
    let payload : c.self.inside.settings.payload ≡ c.args.self.now.settings.payload = ap (λ (h : Held). h.settings.payload) c.self.view_is in
    let rtx : c.self.inside.settings.rtx ≡ c.args.self.now.settings.rtx = ap (λ (h : Held). h.settings.rtx) c.self.view_is in
    let number : ℕ = c.args.resends % 65536 in
    let bytes : List ℕ = c.in-Some-get.stored.now in
    of_again c.args.self.now c.args.counts.now c.args.resends a c.args.media c.args.seq keep
    (c.if-media-self.false ∙ ap (λ (h : Held). h.settings.media) c.self.view_is) (omega arith) c.in-Some.place c.in-Some-get-2.count number bytes
    (record { seq = c.args.seq; packet = c.in_ok-packet.packet }) (sym c.in-Some.ensures.place)
    (ap (λ (h : Held). slice_get h.packets (c.in-Some.place - (c.args.self.now.kept - MOST_STORED))) (sym c.self.view_is)
    ∙ ap (λ k. slice_get c.self.inside.packets.items (c.in-Some.place - k)) (sym c.first.ensures)
    ∙ sym c.get.ensures ∙ ap option_copied c.in-Some-get.is)
    (ap (λ k. slice_get c.args.counts.now (c.in-Some.place - k)) (sym c.first-2.ensures) ∙ sym c.get-2.ensures ∙ c.in-Some-get-2.is)
    (omega (arith, c.if-count-self.false, ap (λ (h : Held). h.settings.repeats) c.self.view_is))
    refl
    (ap (λ (p : Listed ℕ). made c.args.seq p) (c.in_ok-packet.ensures
    ∙ ap (λ k. bare (resent_packet k number c.self.inside.settings.rtx bytes)) payload
    ∙ ap (λ k. bare (resent_packet c.args.self.now.settings.payload number k bytes)) rtx))
  where
    made : ℕ → Listed ℕ → Resend
    made seq packet = record { seq = seq; packet = packet }
