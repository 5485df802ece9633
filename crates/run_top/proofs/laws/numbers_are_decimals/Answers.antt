use Rattle.run_top.proofs.Decimals.{number_is, is_number}
use Rattle.run_top.proofs.laws.numbers_are_decimals.Goals as goal

pub returns : goal.returns
returns c = λ text n. (number_is text n, is_number text n)
