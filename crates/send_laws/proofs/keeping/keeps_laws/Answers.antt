use Rattle.std.proofs.Common.{subst}
use Rattle.send_core.specs.Reply.{IsAnswered}
use Rattle.send_laws.specs.Credits.{AreByteReports}
use Rattle.send_laws.proofs.Ordering.{in-order, all-fresh}
use Rattle.send_laws.proofs.Numbering.{all-numbered}
use Rattle.send_laws.proofs.Crediting.{credited-exactly}
use Rattle.send_laws.proofs.Remaining.{credited-are, told-once, told-balanced}
use Rattle.send_laws.proofs.keeping.keeps_laws.Goals as goal

pub returns : goal.returns
returns c =
    let legal : IsAnswered c.args.sender.now = c.journal.ensures.legal.each in
    let bytes : AreByteReports c.args.sender.now = subst AreByteReports c.journal.ensures.entries c.entries_have_bytes.ensures in
    record {
      order = λ before rest e is. in-order before rest e (subst IsAnswered is legal);
      fresh = all-fresh c.args.sender.now legal;
      numbers = all-numbered c.args.sender.now legal;
      credit = λ before rest e report n is. credited-exactly before rest e report n (subst IsAnswered is legal);
      told = credited-are c.args.sender.now legal;
      once = told-once c.args.sender.now legal bytes;
      balance = told-balanced c.args.sender.now legal bytes;
    }
