use Rattle.std.proofs.Common.{◌∷◌, [], ◌++◌, List, ap, ◌∙◌}
use Rattle.gcc_units.specs.Listed.{Listed}
use Rattle.shared_sender.specs.Served.{journal_of}
use Rattle.reply_text.specs.declared.seen.Seen.{Seen}
use Rattle.resending.proofs.Lone.{alone_before, nothing_seen}
use Rattle.resending.proofs.Lines.{glance-is}
use Rattle.resending.proofs.server.Server.look.Goals as goal

pub returns-in-Ok-clause-served : goal.returns-in-Ok-clause-served
returns-in-Ok-clause-served c s v stands alone =
    let old = c.args.self.now in
    let now = c.glance-glance.new.seat in
    let e = c.glance-glance.ensures in
    let g : Seen = record { actor = 0; calls = c.glance-glance.result.calls; target = c.glance-glance.result.target } in
    let is = stands (alone_before old.seat now c.requires.own e.mine e.seen alone) in
    let same = ap journal_of (nothing_seen old.seat now c.requires.own e.mine e.seen alone) ∙ is.history in
    record {
      history = same;
      settings = is.settings;
      events = is.events;
      id = is.id;
      nacks = is.nacks;
      glances = ap (λ (l : Listed Seen). l.items) c.in-Ok.ensures.ok
          ∙ (ap (λ (gs : List Seen). gs ++ g ∷ []) is.glances ∙ ap (λ (x : Seen). v.glances ++ x ∷ []) (glance-is now.seen v.history c.glance-glance.result.calls c.glance-glance.result.target e.calls e.target same));
    }
