use Rattle.trace_laws.proofs.Bytes.{printed-exact}
use Rattle.trace_laws.proofs.printed_credits_are_exact.Goals as goal

pub returns : goal.returns
returns c = printed-exact
