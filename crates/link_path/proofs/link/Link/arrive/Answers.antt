use Rattle.std.proofs.Common.{List, ◌++◌, take, ap, ◌∙◌, arith}
use Rattle.std.proofs.lemmas.List.Sums.{prefix_len-le-length}
use Rattle.gcc_units.specs.Listed.{Listed, bare}
use Rattle.link_path.specs.declared.link.Arrival.{Arrival}
use Rattle.link_path.specs.Link.{has_arrived}
use Rattle.link_path.proofs.Offered.{given-is, keeps-asked, stands-asked}
use Rattle.link_path.proofs.link.Link.arrive.Goals as goal

pub move_out-requires-clause-there : goal.move_out-requires-clause-there
move_out-requires-clause-there c = omega (arith, c.count_arrived-count.ensures, prefix_len-le-length (has_arrived c.args.now) c.self.inside.inside.items)

pub invariant_of-self : goal.invariant_of-self
invariant_of-self c =
    keeps-asked c.self.inside.settings c.self.inside.free c.count_arrived-count.result c.self.inside.inside.items c.move_out.new.inside.items c.self.invariant c.move_out.ensures.inside

pub returns-clause-items : goal.returns-clause-items
returns-clause-items c s events h =
    let given = given-is c.args.self.now c.self.inside.settings c.self.inside.free c.count_arrived-count.result c.args.now c.self.inside.inside.items s events c.self.view_is h c.self.invariant c.count_arrived-count.ensures in
    let none = c.in_ok-reserve.ensures.items ∙ ap (λ (l : Listed Arrival). l.items) c.new-arrivals.ensures in
    let moved = c.move_out.ensures.arrivals ∙ ap (λ (xs : List Arrival). xs ++ take c.count_arrived-count.result c.self.inside.inside.items) none in
    c.settle.ensures ∙ ap (λ (xs : List Arrival). bare xs) (moved ∙ given)

pub returns-clause-stands : goal.returns-clause-stands
returns-clause-stands c s events h =
    stands-asked c.args.self.now c.self.inside.settings c.self.inside.free c.count_arrived-count.result c.args.now c.self.inside.inside.items c.move_out.new.inside.items
    s events c.self.view_is h c.self.invariant c.count_arrived-count.ensures c.move_out.ensures.inside
