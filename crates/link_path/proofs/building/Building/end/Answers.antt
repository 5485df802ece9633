use Rattle.std.proofs.Common.{arith}
use Rattle.std.proofs.lemmas.Bool.Decides.{nat_tests}
use Rattle.link_path.specs.Division.{divided}
use Rattle.link_path.proofs.Built.{begun-length}
use Rattle.link_path.proofs.Heard.{ended-with, closed-with}
use Rattle.link_path.proofs.building.Building.end.Goals as goal

pub returns-then-is_empty : goal.returns-then-is_empty
returns-then-is_empty c told numbers h =
    let long = begun-length c.args.self.now told (divided numbers).ended (divided numbers).last h in
    ended-with c.args.self.now told (divided numbers).ended (divided numbers).last (grind (arith, nat_tests, long, c.is_empty.ensures, c.if-is_empty.true)) h

pub returns : goal.returns
returns c told numbers h =
    let long = begun-length c.args.self.now told (divided numbers).ended (divided numbers).last h in
    closed-with c.close.new.self told (divided numbers).ended (divided numbers).last (grind (arith, nat_tests, long, c.is_empty.ensures, c.if-is_empty.false))
    (c.in_ok-close.ensures.at told (divided numbers).ended (divided numbers).last h)
