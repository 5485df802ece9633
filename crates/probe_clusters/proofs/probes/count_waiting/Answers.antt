use Rattle.std.proofs.Common.{sym, ◌∙◌}
use Rattle.probe_clusters.proofs.Passed.{count_by-over}
use Rattle.probe_clusters.proofs.probes.count_waiting.Goals as goal

pub returns : goal.returns
returns c = c.count_in.ensures ∙ sym (count_by-over c.args.over c.args.clusters.now c.requires)
