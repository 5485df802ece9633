use Rattle.trace_laws.proofs.Bytes.{replayed-exact}
use Rattle.trace_laws.proofs.replayed_credits_are_exact.Goals as goal

pub returns : goal.returns
returns c = replayed-exact
