use Rattle.std.proofs.Common.{Some, ◌+◌, refl, sym, ◌∙◌, ap}
use Rattle.send_laws.proofs.Finding.{sends-more}
use Rattle.send_laws.proofs.probes.with_packet.Goals as goal

pub returns-then-is_for-clause-sends : goal.returns-then-is_for-clause-sends
returns-then-is_for-clause-sends c = λ ds h.
    sends-more c.args.id c.args.moment ds c.args.packet.now c.args.so_far _ (sym c.is_for.ensures ∙ c.if-is_for.true) h
    (ap (λ n. c.args.so_far.bytes + n) c.from.ensures) refl (ap Some c.unwrap_or.ensures) refl
