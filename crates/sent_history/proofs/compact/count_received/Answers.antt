use Rattle.std.proofs.Common.{◌∙◌, arith}
use Rattle.std.proofs.lemmas.List.Sums.{count_by-le-length}
use Rattle.twcc_report.specs.Runs.{expanded}
use Rattle.sent_history.specs.Crediting.{is_received}
use Rattle.sent_history.proofs.ByRuns.{received_in}
use Rattle.sent_history.proofs.compact.count_received.Goals as goal

pub overflow_cast-result : goal.overflow_cast-result
overflow_cast-result c = omega (arith, c.received_runs.ensures, received_in c.args.runs.now, count_by-le-length is_received (expanded c.args.runs.now), c.requires)

pub returns : goal.returns
returns c = c.received_runs.ensures ∙ received_in c.args.runs.now
