use Rattle.std.proofs.Common.{◌≡◌, ◌++◌, [], ◌∷◌, sym, ◌∙◌, ap}
use Rattle.gcc_units.specs.Listed.{Listed}
use Rattle.pacer.specs.declared.pacing.Tally.{Tally}
use Rattle.send_core.specs.declared.call.Entry.{Entry}
use Rattle.send_core.specs.Estimates.{target}
use Rattle.send_core.specs.Levels.{tally_of}
use Rattle.send_core.specs.Places.{places_from, tallies_from}
use Rattle.send_core.proofs.PlacesFound.{places-more}
use Rattle.send_core.proofs.Tallies.{tallies-push}
use Rattle.send_core.proofs.journal.Journal.add.Goals as goal

pub invariant_of-self : goal.invariant_of-self
invariant_of-self c =
    let now : c.put-2.new.self.items ≡ c.self.inside.entries.items ++ c.args.entry ∷ [] = ap (λ (v : Listed Entry). v.items) c.put-2.ensures in
    let tallies : c.put.new.self.items ≡ c.self.inside.tallies.items ++ c.args.tally ∷ [] = ap (λ (v : Listed Tally). v.items) c.put.ensures in
    let same : c.args.self.now.items ≡ c.self.inside.entries.items = sym (ap (λ (v : Listed Entry). v.items) c.self.view_is) in
    record {
      places = c.note_place.ensures ∙ (places-more c.self.inside.entries.items c.args.entry c.self.inside.places.items c.len.result c.self.invariant.places c.len.ensures ∙ ap (places_from 0) (sym now));
      tallies =
          tallies
          ∙ (ap (λ ts. ts ++ c.args.tally ∷ []) c.self.invariant.tallies
          ∙ (ap (λ t. tallies_from [] c.self.inside.entries.items ++ t ∷ []) (c.requires.tally ∙ ap (λ h. tally_of (h ++ c.args.entry ∷ [])) same)
          ∙ (sym (tallies-push [] c.self.inside.entries.items c.args.entry) ∙ ap (tallies_from []) (sym now))));
      goal = c.requires.target ∙ (ap (λ h. target (h ++ c.args.entry ∷ [])) same ∙ ap target (sym now));
    }
