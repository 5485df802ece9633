use Rattle.std.proofs.Common.{subst, arith}
use Rattle.twcc_report.specs.Spelling.{Feedback}
use Rattle.twcc_report.specs.Reading.{Gives}
use Rattle.twcc_report.proofs.Outcomes.{by_checks, spelled_is_read}
use Rattle.twcc_report.proofs.Told.{found, fits, cause}
use Rattle.twcc_report.proofs.runs.read_compact.Goals as goal

pub returns-clause-found : goal.returns-clause-found
returns-clause-found c = found (λ f. f) c.args.bytes.now c.read.result (by_checks c.args.bytes.now (λ i. omega (arith, c.type_inv.bytes i))) c.read.ensures

pub returns-clause-fits : goal.returns-clause-fits
returns-clause-fits c = fits (λ f. f) c.args.bytes.now c.read.result (by_checks c.args.bytes.now (λ i. omega (arith, c.type_inv.bytes i))) c.read.ensures

pub returns-clause-only : goal.returns-clause-only
returns-clause-only c = λ f fit spells. subst (λ r. Gives (λ (g : Feedback). g) c.read.result r) (spelled_is_read c.args.bytes.now f fit spells) c.read.ensures

pub returns-clause-cause : goal.returns-clause-cause
returns-clause-cause c = cause (λ f. f) c.args.bytes.now c.read.result (by_checks c.args.bytes.now (λ i. omega (arith, c.type_inv.bytes i))) c.read.ensures

pub returns-clause-refused : goal.returns-clause-refused
returns-clause-refused c = λ fault first.
    subst (λ r. Gives (λ (g : Feedback). g) c.read.result r) (((by_checks c.args.bytes.now (λ i. omega (arith, c.type_inv.bytes i))).faults fault).1 first) c.read.ensures
