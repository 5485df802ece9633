use Rattle.std.proofs.Common.{◌≡◌, ◌+◌, true, false, sym, ◌∙◌, arith}
use Rattle.link_path.specs.Link.{Offer, is_full}
use Rattle.link_path.proofs.Rising.{rises-push}
use Rattle.link_path.proofs.Offered.{soon, stands-dropped, stands-kept}
use Rattle.link_path.proofs.link.Link.offer.Goals as goal

pub returns-then-is_full-clause-stands : goal.returns-then-is_full-clause-stands
returns-then-is_full-clause-stands c s events h =
    let o : Offer = record { number = c.args.number; size = c.args.size; moment = c.args.now } in
    let full : is_full c.self.inside.settings c.self.inside.free o ≡ true = sym (rw c.max-start.ensures at c.is_full.ensures) ∙ c.if-is_full.true in
    stands-dropped c.args.self.now c.self.inside.settings c.self.inside.free c.self.inside.inside.items s events o c.self.view_is h full

pub invariant_of-self-2 : goal.invariant_of-self-2
invariant_of-self-2 c =
    record {
      link = c.self.invariant.link;
      soon = soon c.self.inside.settings c.args.now c.max-start.result c.args.size c.line_time.result c.self.invariant.link c.requires.moment (sym c.is_full.ensures ∙ c.if-is_full.false) c.line_time.ensures.most;
      order = rw c.in_ok-keep.ensures.items (rises-push 0 c.self.inside.inside.items (c.self.inside.free + c.self.inside.settings.delay) _ c.self.invariant.order (omega (arith, c.line_time.ensures.some c.requires.some)));
      few = c.keep.ensures.few;
    }

pub returns-clause-stands : goal.returns-clause-stands
returns-clause-stands c s events h =
    let o : Offer = record { number = c.args.number; size = c.args.size; moment = c.args.now } in
    let goes : is_full c.self.inside.settings c.self.inside.free o ≡ false = sym (rw c.max-start.ensures at c.is_full.ensures) ∙ c.if-is_full.false in
    stands-kept c.args.self.now c.self.inside.settings c.self.inside.free c.max-start.result c.line_time.result c.self.inside.inside.items c.keep.new.inside.items
    s events o c.self.view_is h goes c.max-start.ensures c.line_time.ensures.value c.in_ok-keep.ensures.items
