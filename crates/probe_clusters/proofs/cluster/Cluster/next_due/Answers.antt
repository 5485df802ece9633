use Rattle.std.proofs.Common.{Some, sym, ◌∙◌, ap, arith}
use Rattle.probe_clusters.proofs.Dues.{first-counted}
use Rattle.probe_clusters.proofs.cluster.Cluster.next_due.Goals as goal

pub returns : goal.returns
returns c =
    first-counted c.args.self.now c.args.from c.from-3.result c.level.result c.from-2.result c.div_ceil-lasts.result c.in_time-2.result
    (c.in_ok-first.was ∙ ap Some (sym c.from-3.ensures)) (sym c.is_due.ensures ∙ c.if-is_due.false)
    c.level.ensures c.from-2.ensures (omega (arith, c.if-self-eq0.false)) c.div_ceil-lasts.ensures c.in_time-2.ensures
