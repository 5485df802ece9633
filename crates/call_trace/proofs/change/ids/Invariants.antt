use Rattle.std.proofs.Common.{◌≡◌, drop}
use Rattle.serde_json.specs.View.{items_view}
use Rattle.gcc_units.specs.Listed.{bare}
use Rattle.call_trace.specs.ChangeReading.{id_at}
use Rattle.call_trace.proofs.Listing.{IsListing}
use Rattle.call_trace.proofs.change.ids.Given as goal

abbrev pub invariant-loop-value : goal.invariant-loop-value
invariant-loop-value l = record {
  listing : IsListing id_at l.list.items (drop l.value-index l.value-items) (items_view l.value-items);
  settled : l.list ≡ bare l.list.items;
}
