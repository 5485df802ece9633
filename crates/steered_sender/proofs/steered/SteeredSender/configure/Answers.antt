use Rattle.std.proofs.Common.{◌≡◌, List, [], ◌∷◌, ◌++◌, refl, sym, ◌∙◌, ap, subst}
use Rattle.send_core.specs.declared.call.Call.TheVariants as call
use Rattle.send_core.specs.declared.call.Entry.{Entry}
use Rattle.send_core.specs.History.{entry}
use Rattle.live_sender.specs.Live.{Live}
use Rattle.live_sender.specs.Live as live
use Rattle.steered_sender.specs.Steered.{with_wanted}
use Rattle.steered_sender.specs.Standing.{Kept, StandsFor, SteersIf, served, wanted_of}
use Rattle.steered_sender.proofs.Limits.{exhausted-asked}
use Rattle.steered_sender.proofs.Results.{by-result, at-ok, on-err, both-ok, ok-so, if-err-so}
use Rattle.steered_sender.proofs.steered.SteeredSender.configure.Goals as goal

pub configure_if-requires : goal.configure_if-requires
configure_if-requires c =
    let h : List Entry = c.self.invariant.0 in
    let t : StandsFor (record { sender = c.self.inside.sender; steering = c.self.inside.steering }) h = c.self.invariant.1 in
    let m : List Entry = with_wanted h (wanted_of c.self.inside.steering) in
    let x : live.StandsFor c.serve_if.new.sender m = c.in-Ok.ensures.sender h t.sender in
    let y : SteersIf c.serve_if.new.steering m = c.in-Ok.ensures.steering h t.sender t.steering in
    record { stands = (m, x, y) }

pub invariant_of-self-in-Ok : goal.invariant_of-self-in-Ok
invariant_of-self-in-Ok c =
    let h : List Entry = c.self.invariant.0 in
    let t : StandsFor (record { sender = c.self.inside.sender; steering = c.self.inside.steering }) h = c.self.invariant.1 in
    let m : List Entry = with_wanted h (wanted_of c.self.inside.steering) in
    let x : live.StandsFor c.serve_if.new.sender m = c.in-Ok.ensures.sender h t.sender in
    let y : SteersIf c.serve_if.new.steering m = c.in-Ok.ensures.steering h t.sender t.steering in
    by-result _ c.configure_if.result
    (λ r is. (
      m ++ entry 0 (call.Configure c.args.at c.args.change.now) r ∷ [],
      record { sender = at-ok _ c.configure_if.result r is c.configure_if.ensures.sender m 0 x; steering = at-ok _ c.configure_if.result r is c.configure_if.ensures.steering m 0 x y refl },
    ))
    (λ e is. (m, record { sender = subst (λ (l : Live). live.StandsFor l m) (sym (on-err _ c.configure_if.result e is c.configure_if.ensures.err)) x; steering = on-err _ c.configure_if.result e is c.configure_if.ensures.err_steering m y }))

pub returns-in-Ok-clause-stands : goal.returns-in-Ok-clause-stands
returns-in-Ok-clause-stands c =
    both-ok _ _ _ c.configure_if.result c.configure_if.ensures.sender c.configure_if.ensures.steering (λ r p q h caller s other.
    let t : StandsFor (record { sender = c.self.inside.sender; steering = c.self.inside.steering }) h = subst (λ (k : Kept). StandsFor k h) (sym c.self.view_is) s in
    let m : List Entry = with_wanted h (wanted_of c.self.inside.steering) in
    let same : m ≡ served c.args.self.now h = ap (λ (k : Kept). served k h) c.self.view_is in
    let x : live.StandsFor c.serve_if.new.sender m = c.in-Ok.ensures.sender h t.sender in
    let y : SteersIf c.serve_if.new.steering m = c.in-Ok.ensures.steering h t.sender t.steering in
    subst (λ (n : List Entry). StandsFor (record { sender = c.configure_if.new.sender; steering = c.configure_if.new.steering }) (n ++ entry caller (call.Configure c.args.at c.args.change.now) r ∷ [])) same
    (record { sender = p m caller x; steering = q m caller x y other }))

pub returns-in-Ok-clause-served : goal.returns-in-Ok-clause-served
returns-in-Ok-clause-served c =
    ok-so _ _ c.configure_if.result c.configure_if.ensures.served (λ f h s.
    let t : StandsFor (record { sender = c.self.inside.sender; steering = c.self.inside.steering }) h = subst (λ (k : Kept). StandsFor k h) (sym c.self.view_is) s in
    let m : List Entry = with_wanted h (wanted_of c.self.inside.steering) in
    sym (exhausted-asked h (wanted_of c.self.inside.steering)) ∙ f m (c.in-Ok.ensures.sender h t.sender))

pub returns-in-Ok-clause-exhausted : goal.returns-in-Ok-clause-exhausted
returns-in-Ok-clause-exhausted c =
    if-err-so _ _ c.configure_if.result c.configure_if.ensures.exhausted (λ e f is h s.
    let t : StandsFor (record { sender = c.self.inside.sender; steering = c.self.inside.steering }) h = subst (λ (k : Kept). StandsFor k h) (sym c.self.view_is) s in
    let m : List Entry = with_wanted h (wanted_of c.self.inside.steering) in
    sym (exhausted-asked h (wanted_of c.self.inside.steering)) ∙ f is m (c.in-Ok.ensures.sender h t.sender))
