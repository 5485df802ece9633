use Rattle.std.proofs.Common.{◌≡◌, List, [], ◌∷◌, ◌++◌, sym, ap, subst}
use Rattle.send_core.specs.declared.call.Call.TheVariants.{Configure}
use Rattle.send_core.specs.declared.call.Entry.{Entry}
use Rattle.send_core.specs.declared.call.Reply.{Reply}
use Rattle.send_core.specs.History.{entry}
use Rattle.steered_sender.specs.Standing.{StandsFor, served}
use Rattle.capi.specs.Serving.{Serving, with_call}
use Rattle.capi.proofs.sender.Sender.serve_change.Goals as goal

pub returns-clause-stands : goal.returns-clause-stands
returns-clause-stands c = λ answered history caller user s.
    let t : StandsFor c.self.inside.steered history = subst (λ (v : Serving). StandsFor v.steered history) (sym c.self.view_is) s in
    let same : served c.self.inside.steered history ≡ served c.args.self.now.steered history = ap (λ (v : Serving). served v.steered history) c.self.view_is in
    subst (λ (k : List Entry). StandsFor c.configure.new.self (with_call k caller (Configure c.args.at c.args.change.now))) same
    (subst (λ (g : Reply). StandsFor c.configure.new.self (served c.self.inside.steered history ++ entry caller (Configure c.args.at c.args.change.now) g ∷ [])) (c.in-Ok.ensures.reply history t) (c.in-Ok.ensures.stands history caller t user))
