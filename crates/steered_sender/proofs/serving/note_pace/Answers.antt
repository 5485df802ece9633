use Rattle.std.proofs.Common.{List, [], ◌∷◌, ◌++◌, All, length, refl, sym, subst}
use Rattle.probe_clusters.specs.Deeds as probes
use Rattle.pacer.specs.declared.sent.Sent.{Sent}
use Rattle.pacer.specs.Course.{HasRoom, probes_of, IsSmallRecord}
use Rattle.send_core.specs.declared.call.Call.TheVariants as call
use Rattle.send_core.specs.declared.call.Reply.{Reply}
use Rattle.send_core.specs.History.{entry}
use Rattle.steered_sender.specs.declared.steering.Steering.{Steering}
use Rattle.steered_sender.specs.Following.{AreForDue}
use Rattle.steered_sender.specs.Steps.{Steers}
use Rattle.steered_sender.proofs.Pacing.{may-follow-given, pace-refused}
use Rattle.steered_sender.proofs.Pushing.{paced-moves, quiet-stays}
use Rattle.steered_sender.proofs.serving.note_pace.Goals as goal

pub follow_all-requires-clause-due : goal.follow_all-requires-clause-due
follow_all-requires-clause-due c =
    let r = c.requires.answered in
    let f = may-follow-given r.0 r.1 c.args.given.now c.in-Paced.at c.in-Paced.sent c.args.steering.now r.2 r.3 r.4 c.in-Paced.is r.5 in
    subst (λ (rs : List Sent). AreForDue c.in-Paced.at c.args.steering.now.clusters.items rs) (sym c.as_slice.ensures.items) f.due

pub follow_all-requires-clause-small : goal.follow_all-requires-clause-small
follow_all-requires-clause-small c =
    let r = c.requires.answered in
    let f = may-follow-given r.0 r.1 c.args.given.now c.in-Paced.at c.in-Paced.sent c.args.steering.now r.2 r.3 r.4 c.in-Paced.is r.5 in
    subst (λ (rs : List Sent). All IsSmallRecord rs) (sym c.as_slice.ensures.items) f.small

pub follow_all-requires-clause-room : goal.follow_all-requires-clause-room
follow_all-requires-clause-room c =
    let r = c.requires.answered in
    let f = may-follow-given r.0 r.1 c.args.given.now c.in-Paced.at c.in-Paced.sent c.args.steering.now r.2 r.3 r.4 c.in-Paced.is r.5 in
    subst (λ (rs : List Sent). HasRoom (length rs) c.args.steering.now.clusters.items) (sym c.as_slice.ensures.items) f.room

pub returns-in-Paced-clause-steering : goal.returns-in-Paced-clause-steering
returns-in-Paced-clause-steering c = λ h caller at steers answered.
    let new : Steering = record c.args.steering.now { clusters = c.follow_all.new.clusters } in
    subst (λ (g : Reply). Steers new (h ++ entry caller (call.Pace at) g ∷ [])) (sym c.in-Paced.is)
    (paced-moves h caller at c.in-Paced.at c.in-Paced.sent c.args.steering.now new steers c.requires.nothing refl
    (λ ds s. subst (λ (rs : List Sent). probes.StandsFor c.follow_all.new.clusters.items (ds ++ probes_of c.in-Paced.at rs)) c.as_slice.ensures.items (c.follow_all.ensures ds s)))

pub returns-in_default-clause-steering : goal.returns-in_default-clause-steering
returns-in_default-clause-steering c = λ h caller at steers answered.
    quiet-stays h caller (call.Pace at) c.args.given.now c.args.steering.now (pace-refused h at c.args.given.now answered c.in_default.not-Paced) steers c.requires.nothing
