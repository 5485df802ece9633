use Rattle.std.proofs.Common.{rules, ◌++◌, ◌∷◌, [], length, sym, subst, ◌∙◌, arith, length-append}
use Rattle.std.proofs.lemmas.Result.{err_from_is_err_and}
use Rattle.std.proofs.lemmas.Iterator.Adapters.{YieldsList-from_vec}
use Rattle.std.proofs.lemmas.Iterator.Consumers.{YieldsList-turn}
use Rattle.resending.specs.Serving.{Serving, serving}
use Rattle.resending.specs.Alone.{IsCause}
use Rattle.resending.specs.Standing.{IsAt}
use Rattle.resending.proofs.Lines.{serving-none, serving-push}
use Rattle.resending.proofs.serving.serve_lines.Goals as goal

pub loop-line-init : goal.loop-line-init
loop-line-init g c = record {
  seated = c.requires.seated;
  served = λ s stands alone. subst (λ (v : Serving). IsAt s v c.args.server.now) (sym (serving-none s)) (stands alone);
}

pub loop-line-preserved : goal.loop-line-preserved
loop-line-preserved g c =
    let inv = c.loop-line.invariant in
    let lines = c.loop-line.yielded in
    record {
      seated = c.in_ok-serve.ensures.seated;
      served = λ s stands alone.
          subst (λ (v : Serving). IsAt s v c.serve.new.self) (sym (serving-push s lines c.in-Some.line))
          (c.in_ok-serve.ensures.served s (serving s lines) (inv.served s stands) alone);
    }

pub returns-in_err-serve-clause-stopped : goal.returns-in_err-serve-clause-stopped
returns-in_err-serve-clause-stopped g c =
    let inv = c.loop-line.invariant in
    let lines = c.loop-line.yielded in
    let line = c.in-Some.line in
    let gives = c.into_iter-line-iterator.ensures.into_iter_gives in
    let items = c.into_vec-line-items.ensures.items in
    let t = YieldsList-turn (YieldsList-from_vec c.args.lines.items (gives.0 ∙ items) (search rules)) lines c.loop-line.line-iterator c.loop-line.yielded_by c.next.result c.next.new.self line c.in-Some.is c.next.ensures.steps in
    let p = err_from_is_err_and c.from_residual.result c.from_residual.ensures.1 in
    rw (p.1, p.2)
    (λ s stands alone. (
      lines ++ line ∷ [],
      (let n = length-append lines (line ∷ []) in omega (arith, n, t.0)),
      subst (λ (v : Serving). IsCause c.in_err-serve.field-0.0 (length v.history)) (sym (serving-push s lines line))
          (c.in_err-serve.ensures.stopped s (serving s lines) (inv.served s stands) alone),
    ))
