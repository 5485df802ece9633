use Rattle.std.proofs.Common.{◌≡◌, ℕ, ◌+◌, ◌∷◌, [], ◌++◌, length, refl, sym, ap, subst, ◌∙◌}
use Rattle.gcc_units.specs.Listed.{Listed}
use Rattle.nack_rtx.specs.Spelling.{view}
use Rattle.nack_rtx.specs.declared.resender.Answered.{Answered}
use Rattle.shared_sender.specs.Served.{journal_of}
use Rattle.resending.specs.declared.nack_line.NackLine.{NackLine}
use Rattle.resending.specs.declared.server.Server.{Server}
use Rattle.resending.specs.Alone.{IsCause}
use Rattle.resending.proofs.Lines.{on_one, if_err}
use Rattle.resending.proofs.Nacks.{answered-is, nack-served, length-nack}
use Rattle.resending.proofs.server.Server.answer.Goals as goal

pub returns-clause-served : goal.returns-clause-served
returns-clause-served g c =
    let old = c.args.self.now in
    let now : Server = record { seat = c.enqueue_all.new.seat; resender = c.answer.new.self; extension_id = old.extension_id; nacks = c.push.new.self; glances = old.glances } in
    let nack = view c.args.nack.now in
    let answered = c.in-Ok.answered in
    on_one c.enqueue_all.result
    (λ grows s v stands alone.
    let is = stands (c.enqueue_all.ensures.before alone) in
    nack-served s v old now c.args.at nack answered is (answered-is s v old nack answered is c.in-Ok.ensures.told) (grows alone) c.answer.ensures.settings c.in-Ok.ensures.stands refl
    (ap (λ (l : Listed NackLine). l.items) c.in-Ok-push.ensures.ok
    ∙ (ap (λ (n : ℕ). old.nacks.items ++ record { named = n; resent = c.len-2.result; unknown = answered.unknown; spent = answered.spent } ∷ []) c.len.ensures
    ∙ ap (λ (n : ℕ). old.nacks.items ++ record { named = length nack.lost; resent = n; unknown = answered.unknown; spent = answered.spent } ∷ []) c.len-2.ensures)) refl) c.enqueue_all.ensures.grows

pub returns-clause-stopped : goal.returns-clause-stopped
returns-clause-stopped g c =
    let old = c.args.self.now in
    let nack = view c.args.nack.now in
    let answered = c.in-Ok.answered in
    if_err c.enqueue_all.result
    (λ why stopped s v stands alone.
    let x = stopped alone in
    let is = stands x.before in
    let count : length (journal_of old.seat.seen) + length answered.resends.items ≡ length v.history + length answered.resends.items = ap (λ n. n + length answered.resends.items) (ap length is.history) in
    subst (IsCause why)
    (count ∙ (ap (λ (a : Answered). length v.history + length a.resends.items) (answered-is s v old nack answered is c.in-Ok.ensures.told) ∙ sym (length-nack s v c.args.at nack))) x.cause) c.enqueue_all.ensures.stopped
