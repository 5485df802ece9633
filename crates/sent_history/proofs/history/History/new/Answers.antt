use Rattle.std.proofs.Common.{refl, arith, ap, length}
use Rattle.sent_history.specs.Crediting.{account}
use Rattle.sent_history.proofs.history.History.new.Goals as goal

pub returns : goal.returns
unfolding account
returns c =
    let none = c.in_ok-new.ensures in
    record {
      sent = refl;
      window = ap length none;
      slots = λ k d lt. absurd (omega (arith, ap length none));
      reference = refl;
    }
