use Rattle.level_control.proofs.laws.rates_grow_slowly.Goals as goal
use Rattle.level_control.proofs.Growing.{all-grow-slowly}

pub returns-clause-reports : goal.returns-clause-reports
returns-clause-reports c = all-grow-slowly
