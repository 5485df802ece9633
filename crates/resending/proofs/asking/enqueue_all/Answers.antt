use Rattle.std.proofs.Common.{rules, ◌+◌, length, map, ap, ◌∙◌, arith}
use Rattle.std.proofs.lemmas.List.{length-map}
use Rattle.std.proofs.lemmas.Result.{err_from_is_err_and}
use Rattle.std.proofs.lemmas.Iterator.Adapters.{YieldsList-from_vec}
use Rattle.std.proofs.lemmas.Iterator.Consumers.{YieldsList-turn}
use Rattle.shared_sender.specs.Served.{journal_of}
use Rattle.resending.specs.Serving.{resend_call}
use Rattle.resending.proofs.Lines.{cause-more}
use Rattle.resending.proofs.Nacks.{length-called}
use Rattle.resending.proofs.asking.enqueue_all.Goals as goal

pub returns-in_err-ask-clause-stopped : goal.returns-in_err-ask-clause-stopped
returns-in_err-ask-clause-stopped g c =
    let inv = c.loop-resend.invariant in
    let gives = c.into_iter-resend-iterator.ensures.into_iter_gives in
    let items = c.into_vec-resend-items.ensures.items in
    let t = YieldsList-turn (YieldsList-from_vec c.args.resends.items (gives.0 ∙ items) (search rules)) c.loop-resend.yielded c.loop-resend.resend-iterator c.loop-resend.yielded_by c.next.result c.next.new.self c.in-Some.resend c.in-Some.is c.next.ensures.steps in
    let p = err_from_is_err_and c.from_residual.result c.from_residual.ensures.1 in
    rw (p.1, p.2)
    (λ alone.
    let x = c.in_err-ask.ensures.stopped alone in
    let many = ap length (inv.grows x.before) in
    let called = length-called (journal_of c.args.seat.now.seen) (map (resend_call c.args.at) c.loop-resend.yielded) in
    let mapped = length-map c.loop-resend.yielded (resend_call c.args.at) in
    record {
      before = inv.before x.before;
      cause = cause-more c.in_err-ask.field-0.0 (length (journal_of c.loop-resend.seat.seen) + 1) (length (journal_of c.args.seat.now.seen) + length c.args.resends.items) x.cause
          (omega (arith, many, called, mapped, t.0));
    })
