use Rattle.std.proofs.Common.{sym, ap, subst, ◌∙◌, ℕ, Option, length}
use Rattle.resending.specs.Serving.{served_call}
use Rattle.resending.specs.Alone.{IsAlone, IsAnswered}
use Rattle.resending.specs.Standing.{id_after}
use Rattle.resending.proofs.Lines.{on_both, if_err, call-served, call-stopped}
use Rattle.resending.proofs.server.Server.call.Goals as goal

pub note-requires : goal.note-requires
note-requires g c = c.in_ok-answer.ensures.as_many

pub returns-clause-served : goal.returns-clause-served
returns-clause-served g c =
    let old = c.args.self.now in
    let n = c.note.ensures in
    let answer = c.in_ok-answer.answer in
    on_both c.note.result
    (λ kept id s v stands alone.
    let a = c.in_ok-answer.ensures.answered (subst IsAlone n.seat alone) in
    call-served s v old c.note.new.self c.args.call answer (stands a.before) (subst (IsAnswered old.seat c.args.call answer) (sym n.seat) a) n.lists.0 n.lists.1 n.settings kept
    (id ∙ ap (λ (o : Option ℕ). id_after old.extension_id o answer.reply) c.named_by-named.ensures)) n.kept n.id

pub returns-clause-stopped : goal.returns-clause-stopped
returns-clause-stopped g c =
    let old = c.args.self.now in
    let n = c.note.ensures in
    let answer = c.in_ok-answer.answer in
    if_err c.note.result
    (λ why stopped s v stands alone.
    let a = c.in_ok-answer.ensures.answered (subst IsAlone n.seat alone) in
    call-stopped s v old c.note.new.self c.args.call answer why (length (served_call v c.args.call).history) (stands a.before)
    (subst (IsAnswered old.seat c.args.call answer) (sym n.seat) a) stopped) n.stopped
