use Rattle.trace_laws.proofs.Bytes.{reports-bytes}
use Rattle.trace_laws.proofs.trace_reports_are_bytes.Goals as goal

pub returns : goal.returns
returns c = reports-bytes
