use Rattle.reply_text.proofs.Exact.{legal_one}
use Rattle.reply_text.proofs.laws.legal_texts_have_one_history.Goals as goal

pub returns : goal.returns
returns c = legal_one
