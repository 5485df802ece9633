-- What a send leaves is fit for the next one.
use Rattle.std.proofs.Common.{◌≡◌, ℕ, ℤ, ◌+◌, ◌-ℤ◌, ◌≤◌, arith, not, List, [], ◌∷◌, ◌++◌, Option, Some, All, sym, ◌∙◌, ap, subst}
use Rattle.std.proofs.lemmas.Int.{ints}
use Rattle.std.proofs.lemmas.List.Elements.{All-filter}
use Rattle.gcc_units.specs.declared.limits.TheConstants.{GREATEST_PACKET}
use Rattle.pace_budget.specs.Level.{bits}
use Rattle.pace_queues.specs.declared.ticket.Ticket.{Ticket}
use Rattle.probe_clusters.specs.declared.cluster.Cluster.{Cluster}
use Rattle.probe_clusters.specs.Deeds.{Deed, StandsFor, send}
use Rattle.pacer.specs.declared.sent.Sent.{Sent}
use Rattle.pacer.specs.declared.sent.Kind.TheVariants as kind
use Rattle.pacer.specs.declared.course.Course.{Course}
use Rattle.pacer.specs.declared.course.Terms.{Terms}
use Rattle.pacer.specs.Course.{IsSmall, IsFit, IsLowered, probe_by, probe_as}
use Rattle.pacer.specs.Pace.{names, unsent}

pub fit-after : (terms : Terms) (c d : Course) (r : Sent) → IsFit terms c → d.queues ≡ unsent (r ∷ []) c.queues → IsFit terms d
fit-after terms c d r fit left = record {
  small = subst (λ ts. All IsSmall ts) (sym left) (All-filter (λ (t : Ticket). not (names t.index (r ∷ []))) IsSmall c.queues fit.small);
  low = fit.low;
  high = fit.high;
}

-- one packet lowers the level by no more than the most that one may take
pub lowered-by : (size sends : ℕ) (old new : ℤ) → size ≤ GREATEST_PACKET → new ≡ old -ℤ bits size → IsLowered sends old → IsLowered (sends + 1) new
lowered-by size sends old new small is low = omega (arith, ints)

-- a packet that was sent for the cluster that is due
pub probed : (moment : ℕ) (r : Sent) (id : ℕ) (new : List Cluster) (ds : List Deed) → r.kind ≡ kind.Probe id → (o : Option ℕ) → o ≡ Some id
    → StandsFor new (ds ++ send o r.size moment) → StandsFor new (ds ++ probe_by moment r)
probed moment r id new ds is o due stands =
    subst (λ es. StandsFor new (ds ++ es)) (ap (λ i. send i r.size moment) due ∙ sym (ap (λ k. probe_as moment k r.size) is)) stands
