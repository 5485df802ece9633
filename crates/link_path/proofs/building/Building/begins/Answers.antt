use Rattle.std.proofs.Common.{◌≡◌, length, ◌∙◌, arith}
use Rattle.std.proofs.lemmas.Bool.Decides.{nat_tests}
use Rattle.link_path.proofs.Built.{begun-length, full-begins, missing-stays, received-begins}
use Rattle.link_path.proofs.building.Building.begins.Goals as goal

pub returns-then-len-ge-MOST_STATUSES-clause-value : goal.returns-then-len-ge-MOST_STATUSES-clause-value
returns-then-len-ge-MOST_STATUSES-clause-value c told ended run h =
    let long : c.len.result ≡ length run = c.len.ensures ∙ begun-length c.args.self.now told ended run h in
    full-begins run c.args.there (grind (arith, nat_tests, long, c.if-len-ge-MOST_STATUSES.true))

pub returns-in-None-clause-value : goal.returns-in-None-clause-value
returns-in-None-clause-value c told ended run h =
    let long : c.len.result ≡ length run = c.len.ensures ∙ begun-length c.args.self.now told ended run h in
    rw c.in-None.is (missing-stays run (grind (arith, nat_tests, long, c.if-len-ge-MOST_STATUSES.false)))

pub returns-in-Some-clause-value : goal.returns-in-Some-clause-value
returns-in-Some-clause-value c told ended run h =
    let long : c.len.result ≡ length run = c.len.ensures ∙ begun-length c.args.self.now told ended run h in
    rw (c.in-Some.is, c.saturating_sub.ensures, c.unwrap_or.ensures, h.last c.in-Some.time)
    (received-begins run c.in-Some.time (grind (arith, nat_tests, long, c.if-len-ge-MOST_STATUSES.false)))
