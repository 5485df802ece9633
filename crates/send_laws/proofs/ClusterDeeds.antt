-- What an entry does to the clusters: the rates that it plans, and the packets that it sends for one of them.
use Rattle.std.proofs.Common.{◌≡◌, ℕ, Bool, List, [], ◌∷◌, ◌++◌, map, refl, ap}
use Rattle.gcc_units.specs.declared.shared_types.Credit.{Credit}
use Rattle.probe_clusters.specs.declared.probes.Outcome.{Outcome}
use Rattle.probe_clusters.specs.Deeds.{Deed, Plan, Note, rates, sizes, moments, takings}
use Rattle.send_core.specs.declared.call.Call.{Call}
use Rattle.send_core.specs.declared.call.Call.TheVariants.{Configure}
use Rattle.send_core.specs.declared.call.Reply.{Reply}
use Rattle.send_core.specs.declared.call.Reply.TheVariants.{Paced, Credited, Configured}
use Rattle.send_core.specs.Settings.{plans}
use Rattle.send_core.specs.Reports.{deeds_by}
use Rattle.send_laws.specs.ProbeSends.{sends_in, plans_by}
use Rattle.send_laws.proofs.Probing.{no-rates, no-notes, no-plans}

note-rates : (cs : List Credit) (os : List Outcome) → rates (map Note cs ++ takings os) ≡ []
note-rates [] [] = refl
note-rates [] (o ∷ os) = note-rates [] os
note-rates (c ∷ cs) os = note-rates cs os

plan-rates : (rs : List ℕ) → rates (map Plan rs) ≡ rs
plan-rates [] = refl
plan-rates (r ∷ rs) = ap (λ l. r ∷ l) (plan-rates rs)

pub rates-by : (b : Bool) (ds : List Deed) (c : Call) (r : Reply) → rates (deeds_by b ds c r) ≡ plans_by b c r
rates-by b ds (Configure at change) (Configured moment told shares) = plan-rates (plans b change)
rates-by b ds call (Paced moment records) = no-rates moment records.items
rates-by b ds call (Credited moment judged signal m acked told shares) = note-rates judged.received.items _
rates-by b ds call given = refl

pub sizes-by : (id : ℕ) (b : Bool) (ds : List Deed) (c : Call) (r : Reply) → sizes id (deeds_by b ds c r) ≡ sizes id (sends_in r)
sizes-by id b ds (Configure at change) (Configured moment told shares) = (no-plans id (plans b change)).no_sizes
sizes-by id b ds call (Paced moment records) = refl
sizes-by id b ds call (Credited moment judged signal m acked told shares) = (no-notes id judged.received.items _).no_sizes
sizes-by id b ds call given = refl

pub moments-by : (id : ℕ) (b : Bool) (ds : List Deed) (c : Call) (r : Reply) → moments id (deeds_by b ds c r) ≡ moments id (sends_in r)
moments-by id b ds (Configure at change) (Configured moment told shares) = (no-plans id (plans b change)).no_moments
moments-by id b ds call (Paced moment records) = refl
moments-by id b ds call (Credited moment judged signal m acked told shares) = (no-notes id judged.received.items _).no_moments
moments-by id b ds call given = refl
