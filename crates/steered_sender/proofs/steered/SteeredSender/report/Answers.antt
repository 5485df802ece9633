use Rattle.std.proofs.Common.{◌≡◌, inl, inr, Option, List, [], ◌∷◌, ◌++◌, sym, ◌∙◌, ap, subst}
use Rattle.send_core.specs.declared.call.Call.TheVariants as call
use Rattle.send_core.specs.declared.call.Entry.{Entry}
use Rattle.send_core.specs.History.{entry}
use Rattle.live_sender.specs.Live.{Live}
use Rattle.live_sender.specs.Live as live
use Rattle.steered_sender.specs.declared.steering.Steering.{Steering}
use Rattle.steered_sender.specs.Steered.{with_wanted}
use Rattle.steered_sender.specs.Standing.{Kept, StandsFor, SteersIf, IsBehind, served, wanted_of}
use Rattle.steered_sender.proofs.Behind.{with-asked}
use Rattle.steered_sender.proofs.Limits.{exhausted-asked}
use Rattle.steered_sender.proofs.Results.{by-result, on-ok, on-err}
use Rattle.steered_sender.proofs.steered.SteeredSender.report.Goals as goal

pub report_if-requires-clause-stands : goal.report_if-requires-clause-stands
report_if-requires-clause-stands c =
    let h : List Entry = c.self.invariant.0 in
    let t : StandsFor (record { sender = c.self.inside.sender; steering = c.self.inside.steering }) h = c.self.invariant.1 in
    let m : List Entry = with_wanted h (wanted_of c.self.inside.steering) in
    let x : live.StandsFor c.serve_if.new.sender m = c.in_default.ensures.sender h t.sender in
    let y : SteersIf c.serve_if.new.steering m = c.in_default.ensures.steering h t.sender t.steering in
    (m, x, y)

pub invariant_of-self-in-Err-report_if : goal.invariant_of-self-in-Err-report_if
invariant_of-self-in-Err-report_if c =
    let h : List Entry = c.self.invariant.0 in
    let t : StandsFor (record { sender = c.self.inside.sender; steering = c.self.inside.steering }) h = c.self.invariant.1 in
    let m : List Entry = with_wanted h (wanted_of c.self.inside.steering) in
    let x : live.StandsFor c.serve_if.new.sender m = c.in_default.ensures.sender h t.sender in
    let y : SteersIf c.serve_if.new.steering m = c.in_default.ensures.steering h t.sender t.steering in (
      m,
      record {
        sender = subst (λ (l : Live). live.StandsFor l m) (sym c.in-Err-report_if.ensures.err) x;
        steering = subst (λ (o : Option Steering). SteersIf o m) (sym c.in-Err-report_if.ensures.err_steering) y;
      },
    )

pub serve_if-requires-in-Ok : goal.serve_if-requires-in-Ok
serve_if-requires-in-Ok c =
    let h : List Entry = c.self.invariant.0 in
    let t : StandsFor (record { sender = c.self.inside.sender; steering = c.self.inside.steering }) h = c.self.invariant.1 in
    let m : List Entry = with_wanted h (wanted_of c.self.inside.steering) in
    let x : live.StandsFor c.serve_if.new.sender m = c.in_default.ensures.sender h t.sender in
    let y : SteersIf c.serve_if.new.steering m = c.in_default.ensures.steering h t.sender t.steering in
    (m ++ entry 0 (call.Report c.args.at c.args.bytes.now) c.in-Ok.reply ∷ [], c.in-Ok.ensures.sender m 0 x, c.in-Ok.ensures.steering m 0 x y)

pub invariant_of-self-in-Ok : goal.invariant_of-self-in-Ok
invariant_of-self-in-Ok c =
    let h : List Entry = c.self.invariant.0 in
    let t : StandsFor (record { sender = c.self.inside.sender; steering = c.self.inside.steering }) h = c.self.invariant.1 in
    let m : List Entry = with_wanted h (wanted_of c.self.inside.steering) in
    let x : live.StandsFor c.serve_if.new.sender m = c.in_default.ensures.sender h t.sender in
    let y : SteersIf c.serve_if.new.steering m = c.in_default.ensures.steering h t.sender t.steering in
    let n : List Entry = m ++ entry 0 (call.Report c.args.at c.args.bytes.now) c.in-Ok.reply ∷ [] in
    let u : live.StandsFor c.report_if.new.sender n = c.in-Ok.ensures.sender m 0 x in
    let v : SteersIf c.report_if.new.steering n = c.in-Ok.ensures.steering m 0 x y in
    by-result _ c.serve_if-in-Ok.result
    (λ r is. (
      with_wanted n (wanted_of c.report_if.new.steering),
      record { sender = on-ok _ c.serve_if-in-Ok.result r is c.serve_if-in-Ok.ensures.sender n u; steering = on-ok _ c.serve_if-in-Ok.result r is c.serve_if-in-Ok.ensures.steering n u v },
    ))
    (λ e is. (
      n,
      record {
        sender = subst (λ (l : Live). live.StandsFor l n) (sym (on-err _ c.serve_if-in-Ok.result e is c.serve_if-in-Ok.ensures.err)) u;
        steering = on-err _ c.serve_if-in-Ok.result e is c.serve_if-in-Ok.ensures.err_steering n v;
      },
    ))

pub returns-in-Ok-clause-stands : goal.returns-in-Ok-clause-stands
returns-in-Ok-clause-stands c = λ h caller s.
    let t : StandsFor (record { sender = c.self.inside.sender; steering = c.self.inside.steering }) h = subst (λ (k : Kept). StandsFor k h) (sym c.self.view_is) s in
    let m : List Entry = with_wanted h (wanted_of c.self.inside.steering) in
    let same : m ≡ served c.args.self.now h = ap (λ (k : Kept). served k h) c.self.view_is in
    let x : live.StandsFor c.serve_if.new.sender m = c.in_default.ensures.sender h t.sender in
    let y : SteersIf c.serve_if.new.steering m = c.in_default.ensures.steering h t.sender t.steering in
    let n : List Entry = m ++ entry caller (call.Report c.args.at c.args.bytes.now) c.in-Ok.reply ∷ [] in
    let u : live.StandsFor c.report_if.new.sender n = c.in-Ok.ensures.sender m caller x in
    let v : SteersIf c.report_if.new.steering n = c.in-Ok.ensures.steering m caller x y in
    let now : Kept = record { sender = c.serve_if-in-Ok.new.sender; steering = c.serve_if-in-Ok.new.steering } in
    let behind : IsBehind now n =
    by-result _ c.serve_if-in-Ok.result
    (λ r is. inr (subst (λ (k : List Entry). StandsFor now k) (with-asked c.report_if.new.steering c.serve_if-in-Ok.new.steering n c.serve_if-in-Ok.ensures.start v)
    (record { sender = on-ok _ c.serve_if-in-Ok.result r is c.serve_if-in-Ok.ensures.sender n u; steering = on-ok _ c.serve_if-in-Ok.result r is c.serve_if-in-Ok.ensures.steering n u v })))
    (λ e is. inl (record {
      sender = subst (λ (l : Live). live.StandsFor l n) (sym (on-err _ c.serve_if-in-Ok.result e is c.serve_if-in-Ok.ensures.err)) u;
      steering = on-err _ c.serve_if-in-Ok.result e is c.serve_if-in-Ok.ensures.err_steering n v;
    })) in
    subst (λ (k : List Entry). IsBehind now (k ++ entry caller (call.Report c.args.at c.args.bytes.now) c.in-Ok.reply ∷ [])) same behind

pub returns-in-Err-report_if-clause-exhausted : goal.returns-in-Err-report_if-clause-exhausted
returns-in-Err-report_if-clause-exhausted c = λ is h s.
    let t : StandsFor (record { sender = c.self.inside.sender; steering = c.self.inside.steering }) h = subst (λ (k : Kept). StandsFor k h) (sym c.self.view_is) s in
    let m : List Entry = with_wanted h (wanted_of c.self.inside.steering) in
    sym (exhausted-asked h (wanted_of c.self.inside.steering)) ∙ c.in-Err-report_if.ensures.exhausted is m (c.in_default.ensures.sender h t.sender)

pub returns-in-Ok-clause-served : goal.returns-in-Ok-clause-served
returns-in-Ok-clause-served c = λ h s.
    let t : StandsFor (record { sender = c.self.inside.sender; steering = c.self.inside.steering }) h = subst (λ (k : Kept). StandsFor k h) (sym c.self.view_is) s in
    let m : List Entry = with_wanted h (wanted_of c.self.inside.steering) in
    sym (exhausted-asked h (wanted_of c.self.inside.steering)) ∙ c.in-Ok.ensures.served m (c.in_default.ensures.sender h t.sender)
