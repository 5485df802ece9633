-- What the definitions say in other words: the credits' least and greatest, and that a result is taken once.
use Rattle.std.specs.Prelude.{◌≡◌, ℕ, ◌≤◌, ◌≤ℤ◌, false, true, List, ◌∷◌, ◌++◌, length, map, sum_by, All, Any}
use Rattle.std.specs.Option.{ForSome}
use Rattle.gcc_units.specs.declared.shared_types.Credit.{Credit}
use Rattle.probe_clusters.specs.declared.cluster.Cluster.{Cluster}
use Rattle.probe_clusters.specs.declared.heard.Heard.{Heard}
use Rattle.probe_clusters.specs.Heard.{heard_of}
use Rattle.probe_clusters.specs.Cluster.{waits, is_ready}
use Rattle.probe_clusters.specs.Deeds.{Deed, Note, NamedBelow, StandsFor, cluster_of, takings}
use Rattle.probe_clusters.specs.Clusters.{after_outcomes, noted_all, outcomes}

-- the first arrived sooner, or with the other and has no greater number
pub record IsNoLater (a b : Credit) : Type 0 where
  pub arrival : a.arrival ≤ℤ b.arrival
  pub number : (a.arrival ≡ b.arrival) → a.number ≤ b.number

-- the sums of these credits, and their least and greatest
pub record IsOf (credits : List Credit) (h : Heard) : Type 0 where
  pub count : h.count ≡ length credits
  pub bytes : h.bytes ≡ sum_by (λ (c : Credit). c.size) credits
  pub sent_least : All (λ (c : Credit). h.sent_least ≤ c.sent_at) credits
  pub has_sent_least : Any (λ (c : Credit). h.sent_least ≡ c.sent_at) credits
  pub sent_greatest : All (λ (c : Credit). c.sent_at ≤ h.sent_greatest) credits
  pub has_sent_greatest : Any (λ (c : Credit). h.sent_greatest ≡ c.sent_at) credits
  pub arrival_greatest : All (λ (c : Credit). c.arrival ≤ℤ h.arrival_greatest) credits
  pub has_arrival_greatest : Any (λ (c : Credit). h.arrival_greatest ≡ c.arrival) credits
  pub earliest : All (IsNoLater h.earliest) credits
  pub has_earliest : Any (λ (c : Credit). h.earliest ≡ c) credits
  pub latest : All (λ (c : Credit). c.number ≤ h.latest.number) credits
  pub has_latest : Any (λ (c : Credit). h.latest ≡ c) credits

-- the law of the credits of a cluster
abbrev pub CreditsTogether : Type 0
CreditsTogether = (c : Credit) (cs : List Credit) → ForSome (heard_of (c ∷ cs)) (IsOf (c ∷ cs))

-- it is not ready, and its credits are as they were
pub record IsDone (before after : Cluster) : Type 0 where
  pub not_ready : is_ready after ≡ false
  pub heard : after.heard ≡ before.heard

-- once a result was taken, no deed brings it back or changes what it was taken from
abbrev pub TakenOnce : Type 0
TakenOnce = (ds es : List Deed) (id rate : ℕ) → (cluster_of ds id rate).taken ≡ true → IsDone (cluster_of ds id rate) (cluster_of (ds ++ es) id rate)

-- once a cluster no longer waits, no deed makes it wait again
abbrev pub WaitsOnce : Type 0
WaitsOnce = (ds es : List Deed) (id rate : ℕ) → waits (cluster_of ds id rate) ≡ false → waits (cluster_of (ds ++ es) id rate) ≡ false

-- credits, noted one after another, leave clusters that stand for the deeds with these notes at their end
abbrev pub CreditsStand : Type 0
CreditsStand = (cs : List Cluster) (ds : List Deed) (credits : List Credit) → All (λ (c : Credit). NamedBelow (length cs) c.cluster) credits → StandsFor cs ds
    → StandsFor (noted_all credits cs) (ds ++ map (λ (c : Credit). Note c) credits)

-- outcomes, taken one after another, leave clusters that stand for the deeds with these takings at their end
abbrev pub OutcomesStand : Type 0
OutcomesStand = (cs : List Cluster) (ds : List Deed) → StandsFor cs ds → StandsFor (after_outcomes cs) (ds ++ takings (outcomes cs))
