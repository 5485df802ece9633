use Rattle.twcc_report.proofs.Spelled.{canonical_spells, canonical_is_read}
use Rattle.twcc_report.proofs.laws.canonical_is_a_spelling.Goals as goal

pub returns-clause-spells : goal.returns-clause-spells
returns-clause-spells c = λ f fits. canonical_spells f fits.few

pub returns-clause-read : goal.returns-clause-read
returns-clause-read c = λ f fits. canonical_is_read f fits
