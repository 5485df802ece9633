use Rattle.std.proofs.Common.{◌≡◌, List, ℕ, Ok, ap, sym, ◌∙◌}
use Rattle.gcc_units.specs.Listed.{Listed}
use Rattle.nack_rtx.specs.Naming.{named_in, first_of}
use Rattle.gcc_units.specs.Numbers.{number32}
use Rattle.nack_rtx.specs.Spelling.{Asked}
use Rattle.nack_rtx.specs.Reading.{nack_of, pair_bytes_in}
use Rattle.nack_rtx.proofs.Numbers.{from_nothing}
use Rattle.nack_rtx.proofs.reading.read.Goals as goal

made : ℕ → ℕ → List ℕ → Asked
made s m lost = record { sender = s; media = m; lost = lost }

pub returns-clause-exact : goal.returns-clause-exact
unfolding nack_of made
returns-clause-exact c =
    let bytes : List ℕ = c.args.bytes.now in
    let named : List ℕ = named_in (pair_bytes_in bytes c.in_ok-padding.padding) in
    let lost : first_of named ≡ c.in_ok-lost.lost.items = sym (from_nothing named) ∙ sym (ap (λ (l : Listed ℕ). l.items) c.in_ok-lost.ensures) in
    rw c.in_ok-padding.ensures.padding
    (ap Ok
    (ap (λ s. made s (number32 bytes 8) (first_of named)) (sym c.number32.ensures)
    ∙ ap (λ m. made c.number32.result m (first_of named)) (sym c.number32-2.ensures)
    ∙ ap (λ (xs : List ℕ). made c.number32.result c.number32-2.result xs) lost))
