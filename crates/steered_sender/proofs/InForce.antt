-- The target after a change that the control asked for.
use Rattle.std.proofs.Common.{◌≡◌, ℕ, min, true, List, ◌∙◌, ap, arith}
use Rattle.gcc_units.specs.Rates.{bounded}
use Rattle.probe_clusters.specs.Deeds.{Deed}
use Rattle.estimator.specs.Est.{Est, estimate}
use Rattle.send_core.specs.declared.call.Call.TheVariants as call_kind
use Rattle.send_core.specs.declared.call.Entry.{Entry}
use Rattle.send_core.specs.declared.call.Reply.{Reply}
use Rattle.send_core.specs.declared.call.Reply.TheVariants as reply_kind
use Rattle.send_core.specs.declared.settings.Settings.{Settings}
use Rattle.send_core.specs.Estimates.{est, est_by}
use Rattle.send_core.specs.History.{entry, now}
use Rattle.send_core.specs.Reply.{reply}
use Rattle.send_core.specs.Reports.{cluster_deeds}
use Rattle.send_core.specs.Settings.{settings}
use Rattle.send_core.proofs.Pushes.{est-push}
use Rattle.steered_sender.specs.declared.steering.TheConstants.{CONTROL_CALLER}
use Rattle.steered_sender.specs.declared.steering.Wanted.{Wanted}
use Rattle.steered_sender.specs.Laws.{TargetIsTheRateAskedFor}
use Rattle.steered_sender.specs.Replies.{is_configured}
use Rattle.steered_sender.specs.Steered.{change_for}

lesser-same : (n : ℕ) → min n n ≡ n
lesser-same n = omega arith

put : (s : Settings) (ds : List Deed) (x : Est) (at : ℕ) (w : Wanted) (given : Reply) → is_configured given ≡ true
    → (estimate (est_by s ds x (call_kind.Configure at (change_for w)) given)).target ≡ bounded s.bounds w.rate
put s ds x at w (reply_kind.Configured moment told shares) holds = lesser-same (bounded s.bounds w.rate)
put s ds x at w (reply_kind.Accepted moment index) holds = absurd cc
put s ds x at w (reply_kind.Paced moment records) holds = absurd cc
put s ds x at w (reply_kind.Credited moment judged signal m acked told shares) holds = absurd cc
put s ds x at w (reply_kind.Refused moment cause) holds = absurd cc

pub in-force : TargetIsTheRateAskedFor
in-force h w holds =
    let e : Entry = entry CONTROL_CALLER (call_kind.Configure (now h) (change_for w)) (reply h (call_kind.Configure (now h) (change_for w))) in
    ap (λ (x : Est). (estimate x).target) (est-push h e) ∙ put (settings h) (cluster_deeds h) (est h) (now h) w e.reply holds
