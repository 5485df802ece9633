use Rattle.std.proofs.Common.{true, false, None, refl, sym, ◌∙◌}
use Rattle.send_core.specs.declared.call.Call.TheVariants as call
use Rattle.steered_sender.specs.Replies.{is_configured}
use Rattle.steered_sender.proofs.Answering.{may-change, moves-when, quiet-when}
use Rattle.steered_sender.proofs.Pushing.{quiet-moves}
use Rattle.steered_sender.proofs.serving.note_change.Goals as goal

pub change-requires-clause-can : goal.change-requires-clause-can
change-requires-clause-can c =
    let r = c.requires.answered in
    (may-change r.0 r.1 c.args.change.now c.args.given.now c.args.steering.now r.2 r.3 r.4 (sym c.is_configured.ensures ∙ c.if-is_configured.true) c.requires.room).can

pub returns-then-is_configured-clause-stands : goal.returns-then-is_configured-clause-stands
returns-then-is_configured-clause-stands c = λ h caller at steers answered own.
    moves-when h caller at c.args.change.now c.args.given.now c.args.own c.args.steering.now c.change.new.self (sym c.is_configured.ensures ∙ c.if-is_configured.true) steers c.change.ensures own

pub returns-else-is_configured-clause-stands : goal.returns-else-is_configured-clause-stands
returns-else-is_configured-clause-stands c = λ h caller at steers answered own.
    quiet-moves h caller (call.Configure at c.args.change.now) c.args.given.now c.args.steering.now (record c.args.steering.now { wanted = None })
    (quiet-when h at c.args.change.now c.args.given.now answered (sym c.is_configured.ensures ∙ c.if-is_configured.false)) steers refl
