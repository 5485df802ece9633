use Rattle.std.proofs.Common.{◌≡◌, ℕ, false, List, replicate, length, Bool, get_or, ap, sym, ◌∙◌}
use Rattle.std.proofs.lemmas.List.{get_or-replicate, length-replicate}
use Rattle.gcc_units.specs.Listed.{Listed}
use Rattle.nack_rtx.specs.Naming.{has}
use Rattle.nack_rtx.proofs.named.Named.new.Goals as goal

pub invariant_of-result : goal.invariant_of-result
invariant_of-result c =
    let flags : c.in_ok-vec.field-0.items ≡ replicate 65536 false = c.in_ok-vec.ensures.items_if_clones_equal (λ y e. e) in
    record { all = ap (length {A = Bool}) flags ∙ length-replicate 65536 false; flags = λ n lt. ap (λ (xs : List Bool). get_or xs n false) flags ∙ get_or-replicate 65536 n false false lt ∙ sym (ap (λ (l : Listed ℕ). has l.items n) c.new.ensures) }
