use Rattle.reply_text.proofs.Steps.{differs_one}
use Rattle.reply_text.proofs.Exact.{legal_differs}
use Rattle.reply_text.proofs.laws.texts_differ_at_one_place.Goals as goal

pub returns-clause-one : goal.returns-clause-one
returns-clause-one c = λ lines actors text j k few. differs_one lines actors text few j k

pub returns-clause-none : goal.returns-clause-none
returns-clause-none c = λ lines actors text k few below legal. legal_differs lines actors text few below legal k
