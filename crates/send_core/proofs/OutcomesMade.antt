-- What a judged report and an accepted change do to the parts.
use Rattle.std.proofs.Common.{◌≡◌, ℕ, ℤ, List, ◌++◌, map, refl, ◌∙◌, ap, subst}
use Rattle.gcc_units.specs.declared.shared_types.Judged.{Judged}
use Rattle.gcc_units.specs.declared.shared_types.Share.{Share}
use Rattle.gcc_units.specs.Listed.{Listed, bare}
use Rattle.allocator.specs.Shares.{shares}
use Rattle.pacer.specs.State.{tuned}
use Rattle.probe_clusters.specs.declared.cluster.Cluster.{Cluster}
use Rattle.probe_clusters.specs.Deeds.{Deed, Note, takings}
use Rattle.probe_clusters.specs.Deeds as probes
use Rattle.estimator.specs.declared.estimate.Estimate.{Estimate}
use Rattle.estimator.specs.Report.{found}
use Rattle.estimator.specs.Est.{Est, judged_est, estimate}
use Rattle.estimator.specs.Kept as estimator
use Rattle.send_core.specs.declared.call.Rates.{Rates}
use Rattle.send_core.specs.declared.call.Reply.TheVariants as reply_kind
use Rattle.send_core.specs.declared.parts.Parts.{Parts}
use Rattle.send_core.specs.Estimates.{rates_told}
use Rattle.send_core.specs.Outcomes.{Credits}
use Rattle.send_core.specs.Stands.{pacing_for}

-- ---- a judged report

pub credits_made : (verdict : Judged) (told : Estimate) (m : ℤ) (moment moment_two : ℕ) (rates : Rates) (given : Listed Share) (est : estimator.Values) (cs : Listed Cluster) (p q : Parts)
    → moment ≡ p.pacer.moment
    → q ≡ record p { estimator = est; clusters = cs; pacer = tuned p.pacer (pacing_for p.settings est) }
    → moment_two ≡ q.pacer.moment → m ≡ told.m
    → rates ≡ rates_told told q.settings.pacing_percent → given ≡ bare (shares told.target q.streams)
    → ((e : Est) (ds : List Deed) → estimator.StandsFor p.estimator e → probes.StandsFor p.clusters.items ds
    → estimator.StandsFor est (judged_est e verdict.received.items verdict.missing moment p.settings.bounds (found ds verdict.received.items)))
    → ((ds : List Deed) → probes.StandsFor p.clusters.items ds → probes.StandsFor cs.items ((ds ++ map Note verdict.received.items) ++ takings (found ds verdict.received.items)))
    → ((e : Est) (ds : List Deed) → estimator.StandsFor p.estimator e → probes.StandsFor p.clusters.items ds
    → told ≡ estimate (judged_est e verdict.received.items verdict.missing moment p.settings.bounds (found ds verdict.received.items)))
    → Credits verdict (reply_kind.Credited moment_two verdict told.signal m told.acked rates given) p q
credits_made verdict told m moment moment_two rates given est cs p q here then after m_is rates_are shares_are stands counts answers =
    rw (m_is, rates_are, shares_are, after, then) (record {
      count = refl;
      pacer = refl;
      packets = refl;
      streams = refl;
      settings = refl;
      started = refl;
      estimates = λ e ds s t. subst (λ n. estimator.StandsFor est (judged_est e verdict.received.items verdict.missing n p.settings.bounds (found ds verdict.received.items))) here (stands e ds s t);
      clusters = counts;
      reply = λ e ds s t.
          ap (λ (x : Estimate). reply_kind.Credited p.pacer.moment verdict x.signal x.m x.acked (rates_told x p.settings.pacing_percent) (bare (shares x.target p.streams)))
          (answers e ds s t ∙ ap (λ n. estimate (judged_est e verdict.received.items verdict.missing n p.settings.bounds (found ds verdict.received.items))) here);
    })
