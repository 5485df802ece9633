use Rattle.std.proofs.Common.{List, [], ◌∷◌, ◌++◌, sym, ◌∙◌, ap, arith}
use Rattle.send_core.specs.declared.call.Entry.{Entry}
use Rattle.send_core.specs.History.{entry}
use Rattle.estimator.specs.declared.estimate.Estimate.{Estimate}
use Rattle.send_core.specs.Estimates.{est, target}
use Rattle.send_core.specs.Levels.{tally_of}
use Rattle.rtp_wire.specs.Wires.{bare_wires}
use Rattle.send_core.specs.Stands.{StandsFor}
use Rattle.send_core.specs.Wires.{wires}
use Rattle.send_core.proofs.FewCalls.{grows-short}
use Rattle.send_core.proofs.Legality.{IsLegal-push}
use Rattle.send_core.proofs.Standing.{stands-push}
use Rattle.send_core.proofs.Applied.{readable-all, known-all, tally-is, wires-are}
use Rattle.send_core.proofs.sender.Sender.apply.Goals as goal

pub serve-requires-clause-stands : goal.serve-requires-clause-stands
serve-requires-clause-stands c =
    (c.self.inside.journal.items, c.self.invariant.1, grows-short c.self.inside.journal.items c.self.invariant.1.laws (omega (arith, c.len.ensures)))

pub stamp_all-requires-clause-readable : goal.stamp_all-requires-clause-readable
stamp_all-requires-clause-readable c = readable-all c.self.inside.journal.items c.reserve.new.self.items c.self.inside.parts c.self.invariant.1 c.reserve.ensures.items

pub stamp_all-requires-clause-known : goal.stamp_all-requires-clause-known
stamp_all-requires-clause-known c =
    known-all c.self.inside.journal.items c.reserve.new.self.items c.self.inside.parts c.args.call c.in-Ok-serve.reply c.self.invariant.1 c.reserve.ensures.items
    (c.in-Ok-serve.ensures.answer c.self.inside.journal.items c.self.invariant.1)

pub add-requires-clause-tally : goal.add-requires-clause-tally
add-requires-clause-tally c =
    let h : List Entry = c.self.inside.journal.items in
    let stands : StandsFor c.serve.new.self (c.self.inside.journal.items ++ entry c.args.caller c.args.call c.in-Ok-serve.reply ∷ []) =
    stands-push c.self.inside.journal.items c.self.inside.parts c.serve.new.self c.args.caller c.args.call c.in-Ok-serve.reply c.self.invariant.1 c.in-Ok-serve.ensures.steps
    (c.in-Ok-serve.ensures.answer c.self.inside.journal.items c.self.invariant.1) in
    c.tally-tally.ensures
    ∙ (tally-is (c.self.inside.journal.items ++ entry c.args.caller c.args.call c.in-Ok-serve.reply ∷ []) c.serve.new.self stands
    ∙ ap (λ es. tally_of (es ++ entry c.args.caller c.args.call c.in-Ok-serve.reply ∷ [])) (sym c.reserve.ensures.items))

pub add-requires-clause-target : goal.add-requires-clause-target
add-requires-clause-target c =
    let stands : StandsFor c.serve.new.self (c.self.inside.journal.items ++ entry c.args.caller c.args.call c.in-Ok-serve.reply ∷ []) =
    stands-push c.self.inside.journal.items c.self.inside.parts c.serve.new.self c.args.caller c.args.call c.in-Ok-serve.reply c.self.invariant.1 c.in-Ok-serve.ensures.steps
    (c.in-Ok-serve.ensures.answer c.self.inside.journal.items c.self.invariant.1) in
    ap (λ (e : Estimate). e.target) (c.current-target.ensures.value (est (c.self.inside.journal.items ++ entry c.args.caller c.args.call c.in-Ok-serve.reply ∷ [])) stands.estimates)
    ∙ ap (λ es. target (es ++ entry c.args.caller c.args.call c.in-Ok-serve.reply ∷ [])) (sym c.reserve.ensures.items)

pub returns-clause-wires : goal.returns-clause-wires
returns-clause-wires c =
    c.stamp_all.ensures ∙ (wires-are c.self.inside.journal.items c.reserve.new.self.items c.self.inside.parts c.in-Ok-serve.reply c.twin.result c.self.invariant.1 c.reserve.ensures.items c.twin.ensures ∙ ap (λ h. bare_wires (wires h c.twin.result)) c.self.view_is)

pub invariant_of-self-2 : goal.invariant_of-self-2
invariant_of-self-2 c =
    let h : List Entry = c.self.inside.journal.items in
    rw (c.add.ensures, c.reserve.ensures.items) (
      IsLegal-push h c.args.caller c.args.call c.in-Ok-serve.reply c.self.invariant.0 (omega (arith, c.len.ensures)) (c.in-Ok-serve.ensures.answer h c.self.invariant.1),
      stands-push h c.self.inside.parts _ c.args.caller c.args.call c.in-Ok-serve.reply c.self.invariant.1 c.in-Ok-serve.ensures.steps (c.in-Ok-serve.ensures.answer h c.self.invariant.1),
    )
