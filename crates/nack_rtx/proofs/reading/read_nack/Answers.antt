use Rattle.std.proofs.Common.{subst, arith}
use Rattle.nack_rtx.specs.Spelling.{view}
use Rattle.nack_rtx.specs.Reading.{Gives}
use Rattle.nack_rtx.proofs.Outcomes.{by_checks, spelled_is_read}
use Rattle.nack_rtx.proofs.Told.{found, cause}
use Rattle.nack_rtx.proofs.reading.read_nack.Goals as goal

pub returns-clause-found : goal.returns-clause-found
returns-clause-found c = found c.args.bytes.now c.read.result (by_checks c.args.bytes.now (λ i. omega (arith, c.type_inv.bytes i))) c.read.ensures.exact

pub returns-clause-only : goal.returns-clause-only
returns-clause-only c = λ n spells. subst (λ r. Gives view c.read.result r) (spelled_is_read c.args.bytes.now n spells) c.read.ensures.exact

pub returns-clause-fault : goal.returns-clause-fault
returns-clause-fault c = cause c.args.bytes.now c.read.result (by_checks c.args.bytes.now (λ i. omega (arith, c.type_inv.bytes i))) c.read.ensures.exact

pub returns-clause-refused : goal.returns-clause-refused
returns-clause-refused c = λ fault first.
    subst (λ r. Gives view c.read.result r) (((by_checks c.args.bytes.now (λ i. omega (arith, c.type_inv.bytes i))).faults fault).1 first) c.read.ensures.exact
