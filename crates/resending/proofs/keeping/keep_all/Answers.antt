use Rattle.std.proofs.Common.{◌≡◌, ◌+◌, ◌++◌, List, take, ℕ, sym, ap, subst, ◌∙◌, append_assoc}
use Rattle.std.proofs.lemmas.Result.{err_from_is_err_and}
use Rattle.pacer.specs.declared.sent.Sent.{Sent}
use Rattle.nack_rtx.specs.Keeping.{StandsFor}
use Rattle.nack_rtx.specs.Resending.{Event}
use Rattle.resending.specs.Serving.{kept_among, kept_as}
use Rattle.resending.specs.Standing.{CanRead}
use Rattle.resending.proofs.Lines.{all_at, kept-next}
use Rattle.resending.proofs.keeping.keep_all.Goals as goal

pub returns-in_err-keep_one-clause-stopped : goal.returns-in_err-keep_one-clause-stopped
returns-in_err-keep_one-clause-stopped c =
    let p = err_from_is_err_and c.from_residual.result c.from_residual.ensures.1 in
    rw (p.1, p.2)
    (λ all. c.in_err-keep_one.ensures.stopped (all_at (CanRead c.args.id) c.args.wires.now.items c.loop-k.k c.wire_at.result.now all c.wire_at.ensures))

pub loop-k-preserved : goal.loop-k-preserved
loop-k-preserved c =
    let ws : List (List ℕ) = c.args.wires.now.items in
    let rs : List Sent = c.args.sent.now.items in
    let k : ℕ = c.loop-k.k in
    let inv = c.loop-k.invariant in
    let before : List Event = kept_among (take k ws) (take k rs) in
    let more : List Event = kept_as c.wire_at.result.now c.sent_at.result.now.index in
    let next : kept_among (take (k + 1) ws) (take (k + 1) rs) ≡ before ++ more = kept-next ws rs k c.wire_at.result.now c.sent_at.result.now c.wire_at.ensures c.sent_at.ensures in
    record {
      settings = c.keep_one.ensures.settings ∙ inv.settings;
      kept = λ events stands.
          subst (StandsFor c.keep_one.new.resender) (append_assoc events before more ∙ ap (λ es. events ++ es) (sym next))
          (c.in_ok-keep_one.ensures.kept (events ++ before) (inv.kept events stands));
    }
