use Rattle.std.proofs.Common.{◌≡◌, ◌<◌, List, length, map, slice_get, Some, sym, ◌∙◌, ap, subst}
use Rattle.gcc_units.specs.Listed.{Listed}
use Rattle.send_core.specs.declared.call.Entry.{Entry}
use Rattle.send_core.specs.History.{accepted, wire_in}
use Rattle.send_core.proofs.PlacesFound.{has_place, no_entry, placed, no_pace, no_report, no_configure, enqueued_wire}
use Rattle.send_core.proofs.journal.Journal.packet.Goals as goal

pub unreachable-requires : goal.unreachable-requires
unreachable-requires c =
    let same : c.args.self.now.items ≡ c.self.inside.entries.items = sym (ap (λ (v : Listed Entry). v.items) c.self.view_is) in
    has_place c.self.inside.entries.items c.self.inside.places.items c.args.index c.self.invariant.places
    (subst (λ (h : List Entry). c.args.index < length (accepted h)) same c.requires) c.in_default.ensures

pub unreachable-requires-in_default-get : goal.unreachable-requires-in_default-get
unreachable-requires-in_default-get c =
    no_entry c.self.inside.entries.items c.self.inside.places.items c.args.index c.in-Some.place.now c.self.invariant.places c.in-Some.ensures c.in_default-get.ensures

pub unreachable-requires-in-Pace : goal.unreachable-requires-in-Pace
unreachable-requires-in-Pace c =
    no_pace c.self.inside.entries.items c.args.index c.in-Some-get.entry.now c.in-Pace.at
    (placed c.self.inside.entries.items c.self.inside.places.items c.args.index c.in-Some.place.now c.in-Some-get.entry.now c.self.invariant.places c.in-Some.ensures c.in-Some-get.ensures)
    c.in-Pace.is

pub unreachable-requires-in-Report : goal.unreachable-requires-in-Report
unreachable-requires-in-Report c =
    no_report c.self.inside.entries.items c.args.index c.in-Some-get.entry.now c.in-Report.at c.in-Report.bytes
    (placed c.self.inside.entries.items c.self.inside.places.items c.args.index c.in-Some.place.now c.in-Some-get.entry.now c.self.invariant.places c.in-Some.ensures c.in-Some-get.ensures)
    c.in-Report.is

pub unreachable-requires-in-Configure : goal.unreachable-requires-in-Configure
unreachable-requires-in-Configure c =
    no_configure c.self.inside.entries.items c.args.index c.in-Some-get.entry.now c.in-Configure.at c.in-Configure.change
    (placed c.self.inside.entries.items c.self.inside.places.items c.args.index c.in-Some.place.now c.in-Some-get.entry.now c.self.invariant.places c.in-Some.ensures c.in-Some-get.ensures)
    c.in-Configure.is

pub returns : goal.returns
returns c =
    let same : c.args.self.now.items ≡ c.self.inside.entries.items = sym (ap (λ (v : Listed Entry). v.items) c.self.view_is) in
    ap (λ (h : List Entry). slice_get (map wire_in (accepted h)) c.args.index) same
    ∙ (enqueued_wire c.self.inside.entries.items c.args.index c.in-Some-get.entry.now c.in-Enqueue.at c.in-Enqueue.class c.in-Enqueue.wire
    (placed c.self.inside.entries.items c.self.inside.places.items c.args.index c.in-Some.place.now c.in-Some-get.entry.now c.self.invariant.places c.in-Some.ensures c.in-Some-get.ensures)
    c.in-Enqueue.is
    ∙ ap Some (sym c.as_slice.ensures.items))
