-- What the control is told of a report, by the steps that find it.
use Rattle.std.proofs.Common.{◌≡◌, ℕ, Option, List, ◌++◌, map, count_by, nat_lt, ◌∙◌, ap}
use Rattle.gcc_units.specs.declared.shared_types.Credit.{Credit}
use Rattle.gcc_units.specs.declared.shared_types.Judged.{Judged}
use Rattle.probe_clusters.specs.declared.cluster.Cluster.{Cluster}
use Rattle.probe_clusters.specs.Cluster.{waits}
use Rattle.probe_clusters.specs.Clusters.{outcomes}
use Rattle.probe_clusters.specs.Deeds.{Deed, Note, rates, clusters}
use Rattle.estimator.specs.Report.{round_trip}
use Rattle.level_control.specs.declared.state.Report.{Report}
use Rattle.level_control.specs.declared.state.Probed.{Probed}
use Rattle.steered_sender.specs.Measures.{report_of, probed_of}
use Rattle.steered_sender.specs.Steered.{told_of, results, is_any_waiting}

pub record IsTold (ds : List Deed) (rtt now : ℕ) (judged : Judged) (acked : Option ℕ) (report : Report) (given : List Probed) (count : ℕ) : Type 0 where
  pub report_is : report ≡ told_of rtt now judged acked
  pub results_are : given ≡ results ds judged.received.items
  pub waits_is : nat_lt 0 count ≡ is_any_waiting ds

pub is-told : (ds : List Deed) (rtt now : ℕ) (judged : Judged) (acked : Option ℕ) (report : Report) (given taken : List Probed) (count found_rtt : ℕ) (received : List Credit) (planned : List ℕ) (noted : List Cluster)
    → received ≡ judged.received.items → found_rtt ≡ round_trip rtt received now → report ≡ report_of now judged acked found_rtt → given ≡ taken → taken ≡ probed_of planned (outcomes noted)
    → planned ≡ rates ds → noted ≡ clusters (ds ++ map Note received) → count ≡ count_by waits (clusters ds) → IsTold ds rtt now judged acked report given count
is-told ds rtt now judged acked report given taken count found_rtt received planned noted a b c d e f g h = record {
  report_is = c ∙ ap (report_of now judged acked) (b ∙ ap (λ cs. round_trip rtt cs now) a);
  results_are = d ∙ (e ∙ (ap (λ rs. probed_of rs (outcomes noted)) f ∙ ap (λ cs. probed_of (rates ds) (outcomes cs)) (g ∙ ap (λ cs. clusters (ds ++ map Note cs)) a)));
  waits_is = ap (nat_lt 0) h;
}
