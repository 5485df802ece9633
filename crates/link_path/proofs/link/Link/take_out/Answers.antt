use Rattle.std.proofs.Common.{◌≡◌, List, ◌++◌, take, ap, ◌∙◌, arith}
use Rattle.std.proofs.lemmas.List.{take_all}
use Rattle.gcc_units.specs.Listed.{Listed, bare}
use Rattle.link_path.specs.declared.link.Arrival.{Arrival}
use Rattle.link_path.specs.KeptLink.{KeptLink}
use Rattle.link_path.proofs.Offered.{keeps-asked, none-behind}
use Rattle.link_path.proofs.link.Link.take_out.Goals as goal

pub invariant_of-self : goal.invariant_of-self
invariant_of-self c =
    keeps-asked c.self.inside.settings c.self.inside.free c.len-count.result c.self.inside.inside.items c.move_out.new.inside.items c.self.invariant c.move_out.ensures.inside

pub returns-clause-items : goal.returns-clause-items
returns-clause-items c s events h =
    let none = c.in_ok-reserve.ensures.items ∙ ap (λ (l : Listed Arrival). l.items) c.new-arrivals.ensures in
    let moved = c.move_out.ensures.arrivals ∙ ap (λ (xs : List Arrival). xs ++ take c.len-count.result c.self.inside.inside.items) none in
    let all : take c.len-count.result c.self.inside.inside.items ≡ c.self.inside.inside.items = take_all c.len-count.result c.self.inside.inside.items (omega (arith, c.len-count.ensures)) in
    c.settle.ensures ∙ ap (λ (xs : List Arrival). bare xs) (moved ∙ all ∙ ap (λ (k : KeptLink). k.inside) c.self.view_is ∙ h.inside)

pub returns-clause-left : goal.returns-clause-left
returns-clause-left c =
    none-behind c.args.self.now c.self.inside.settings c.self.inside.free c.len-count.result c.self.inside.inside.items c.move_out.new.inside.items
    c.self.view_is (omega (arith, c.len-count.ensures)) c.move_out.ensures.inside
