use Rattle.std.proofs.Common.{ℕ, ◌++◌, sym, ◌∙◌, ap}
use Rattle.std.proofs.lemmas.List.{append-nil}
use Rattle.gcc_units.specs.Listed.{Listed}
use Rattle.send_core.proofs.Pushes.{accepted_by-few}
use Rattle.send_core.proofs.PlacesFound.{one-place, no-place}
use Rattle.send_core.proofs.journal.note_place.Goals as goal

pub returns-then-is_accepted : goal.returns-then-is_accepted
returns-then-is_accepted c =
    ap (λ (v : Listed ℕ). v.items) c.put.ensures
    ∙ ap (λ ns. c.args.places.now.items ++ ns) (one-place c.args.number _ (accepted_by-few c.args.entry.now.call c.args.entry.now.reply) (sym c.is_accepted.ensures ∙ c.if-is_accepted.true))

pub returns-else-is_accepted : goal.returns-else-is_accepted
returns-else-is_accepted c =
    sym (append-nil c.args.places.now.items)
    ∙ ap (λ ns. c.args.places.now.items ++ ns) (no-place c.args.number _ (accepted_by-few c.args.entry.now.call c.args.entry.now.reply) (sym c.is_accepted.ensures ∙ c.if-is_accepted.false))
