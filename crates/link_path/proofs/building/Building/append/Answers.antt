use Rattle.std.proofs.Common.{◌∙◌, ap, ◌-◌}
use Rattle.link_path.proofs.Runs.{near-by}
use Rattle.link_path.proofs.Built.{missing-at, received-at}
use Rattle.link_path.proofs.building.Building.append.Goals as goal

pub returns-in_default : goal.returns-in_default
returns-in_default c told ended run h =
    rw c.in_default.is (missing-at c.args.self.now c.push.new.statuses told ended run h c.in_ok-push.ensures)

pub status_of-requires : goal.status_of-requires
status_of-requires c =
    rw (c.saturating_sub.ensures, c.unwrap_or-from.ensures) (near-by c.args.self.now.last c.in-Some.time (c.requires.near c.in-Some.time c.in-Some.is))

pub returns : goal.returns
returns c told ended run h =
    rw c.in-Some.is (received-at c.args.self.now c.push-2.new.statuses c.unwrap_or.result c.saturating_sub.result c.in-Some.time told ended run h
    (rw c.status_of.ensures at c.in_ok-push-2.ensures) (c.saturating_sub.ensures ∙ ap (λ l. c.in-Some.time - l) c.unwrap_or-from.ensures) c.unwrap_or.ensures)
