use Rattle.std.proofs.Common.{◌<◌, ◌∙◌, ◌∷◌, [], ap, sym, subst, take, length, map, List, arith}
use Rattle.std.proofs.lemmas.Bool.Decides.{nat_tests}
use Rattle.std.proofs.lemmas.List.{take_more, take_all}
use Rattle.twcc_report.specs.Spelling.{view}
use Rattle.twcc_report.specs.declared.report.Report.{Report}
use Rattle.link_loop.specs.Looping.{all_served}
use Rattle.link_loop.specs.Kept.{IsAt, HasSpelling}
use Rattle.link_loop.proofs.Steps.{all_served-push}
use Rattle.link_loop.proofs.receiving.serve_all.Goals as goal

pub loop-report-init : goal.loop-report-init
loop-report-init c = record { at = λ s m h. h; sound = c.requires.sound }

pub serve_report-requires-clause-sound : goal.serve_report-requires-clause-sound
serve_report-requires-clause-sound c = c.loop-report.invariant.sound

pub serve_report-requires-clause-writable : goal.serve_report-requires-clause-writable
serve_report-requires-clause-writable c =
    let inside : c.loop-report.report-index < length c.args.reports.now = grind (arith, nat_tests, c.loop-report-test.true) in
    subst HasSpelling (sym c.report-item.is) (c.requires.writable c.loop-report.report-index c.report-item.result inside)

pub loop-report-preserved : goal.loop-report-preserved
loop-report-preserved c =
    let inside : c.loop-report.report-index < length c.args.reports.now = grind (arith, nat_tests, c.loop-report-test.true) in
    let more = take_more c.args.reports.now c.loop-report.report-index c.report-item.result inside in
    record {
      at = λ s m h.
          subst (IsAt c.serve_report.new.looper s)
          (sym (ap (λ (rs : List Report). all_served c.args.t (map view rs) m) more
          ∙ (all_served-push c.args.t (take c.loop-report.report-index c.args.reports.now) _ m
          ∙ ap (λ (r : Report). all_served c.args.t (view r ∷ []) (all_served c.args.t (map view (take c.loop-report.report-index c.args.reports.now)) m)) (sym c.report-item.is))))
          (c.in_ok-serve_report.ensures.at s (all_served c.args.t (map view (take c.loop-report.report-index c.args.reports.now)) m) (c.loop-report.invariant.at s m h));
      sound = c.in_ok-serve_report.ensures.sound;
    }

pub returns-clause-at : goal.returns-clause-at
returns-clause-at c s m h =
    let all = take_all c.loop-report.report-index c.args.reports.now (grind (arith, nat_tests, c.loop-report-test.false)) in
    subst (IsAt c.loop-report.looper s) (ap (λ (rs : List Report). all_served c.args.t (map view rs) m) all) (c.loop-report.invariant.at s m h)

pub returns-clause-sound : goal.returns-clause-sound
returns-clause-sound c = c.loop-report.invariant.sound
