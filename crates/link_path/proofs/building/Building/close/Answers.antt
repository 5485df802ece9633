use Rattle.std.proofs.Common.{◌≡◌, ◌∙◌, ap, length, arith, pos, ◌/◌, to_z}
use Rattle.std.specs.Int.{w32}
use Rattle.std.proofs.lemmas.Int.{ints}
use Rattle.gcc_units.specs.Listed.{Listed}
use Rattle.twcc_report.specs.declared.report.Status.{Status}
use Rattle.link_path.proofs.Built.{closed-at}
use Rattle.link_path.proofs.building.Building.close.Goals as goal

pub returns-clause-at : goal.returns-clause-at
returns-clause-at c told ended run h =
    let reference_is : to_z w32 (c.unwrap_or.result / 256) ≡ pos (c.unwrap_or.result / 256) = omega (arith, ints) in
    closed-at c.args.self.now c.push_report.new.reports c.replace-statuses.new.dest _ c.unwrap_or-self.result c.len.result told ended run h
    (rw c.replace-statuses.ensures.value at c.in_ok-push_report.ensures)
    (ap (λ (l : Listed Status). l.items) (c.replace-statuses.ensures.after ∙ c.new.ensures))
    (reference_is ∙ ap (λ n. pos (n / 256)) c.unwrap_or.ensures)
    c.unwrap_or-self.ensures
    (c.len.ensures ∙ ap (λ (l : Listed Status). length l.items) c.replace-statuses.ensures.value)
