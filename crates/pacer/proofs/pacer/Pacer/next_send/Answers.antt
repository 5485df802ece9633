use Rattle.std.proofs.Common.{◌≡◌, ◌||◌, false, is_some, sym, ◌∙◌, ap, subst}
use Rattle.pace_queues.specs.Waiting.{next}
use Rattle.probe_clusters.specs.Clusters.{due}
use Rattle.probe_clusters.specs.Moments.{IsFirstFrom}
use Rattle.pacer.specs.Next.{is_free, is_open}
use Rattle.pacer.specs.State.{State}
use Rattle.pacer.proofs.Rising.{first-due, first-send, none_before-is, none-is}
use Rattle.pacer.proofs.pacer.Pacer.next_send.Goals as goal

held : (c : goal.After-sooner) → is_free c.args.self.now (next c.args.self.now.waiting) ≡ false
held c = sym c.is_free.ensures ∙ c.if-is_free.false

first : (c : goal.After-sooner) → IsFirstFrom c.args.self.now.moment (λ t. is_some (due c.args.clusters.now.items t) || is_open c.args.self.now (next c.args.self.now.waiting) t) c.sooner.result
first c =
    first-send c.args.self.now c.args.clusters.now.items c.next_due.result c.next_open.result c.sooner.result (held c)
    (subst (λ n. IsFirstFrom n (λ t. is_some (due c.args.clusters.now.items t)) c.next_due.result) (ap (λ (s : State). s.moment) c.self.view_is)
    (first-due c.args.clusters.now.items c.self.inside.moment c.next_due.result c.next_due.ensures.from_on c.next_due.ensures.in_time c.next_due.ensures.due c.next_due.ensures.none_before c.next_due.ensures.none))
    c.next_open.ensures c.sooner.ensures

pub returns-clause-none_before : goal.returns-clause-none_before
returns-clause-none_before c = none_before-is c.args.self.now c.args.clusters.now.items c.sooner.result (held c) (first c)

pub returns-clause-none : goal.returns-clause-none
returns-clause-none c = none-is c.args.self.now c.args.clusters.now.items c.sooner.result (held c) (first c)
