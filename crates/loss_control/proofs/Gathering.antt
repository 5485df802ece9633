-- What one more report does to the counts that are gathered.
use Rattle.std.proofs.Common.{◌≡◌, ℕ, ◌+◌, ◌*◌, ◌≤◌, ◌<◌, ◌^◌, Bool, true, false, if◌then◌else◌, List, [], ◌∷◌, ◌++◌, length, sum_by, All, unwrap_or, refl, sym, ap, ◌∙◌, append_assoc, arith}
use Rattle.std.proofs.lemmas.List.{append-nil}
use Rattle.std.proofs.lemmas.List.Sums.{sum_by-append, sum_by-le}
use Rattle.gcc_units.specs.declared.shared_types.Bounds.{Bounds}
use Rattle.loss_control.specs.declared.step.State.{State}
use Rattle.loss_control.specs.Rule.{Counts, after, gathered, renewed, in_bounds, is_due}
use Rattle.loss_control.specs.GatheredReports.{StandsFor, TakesReport}
use Rattle.gcc_units.specs.declared.limits.TheConstants.{MOST_STATUSES}

gathered-stands : (s : State) (c : Counts) (since : ℕ) (reports : List Counts) → StandsFor s reports → StandsFor (gathered s c since) (reports ++ c ∷ [])
gathered-stands s c since reports stands = record {
  judged = stands.judged;
  gathered = stands.gathered ++ c ∷ [];
  split = ap (λ (cs : List Counts). cs ++ c ∷ []) stands.split ∙ append_assoc stands.judged stands.gathered (c ∷ []);
  received = omega (arith, stands.received, sum_by-append (λ (d : Counts). d.received) stands.gathered (c ∷ []));
  missing = omega (arith, stands.missing, sum_by-append (λ (d : Counts). d.missing) stands.gathered (c ∷ []));
}

judged-stands : (s : State) (now : ℕ) (bounds : Bounds) (due : Bool) (reports : List Counts)
    → StandsFor s reports → StandsFor (in_bounds bounds (if due then renewed s now else s)) reports
judged-stands s now bounds true reports stands = record { judged = reports; gathered = []; split = sym (append-nil reports); received = refl; missing = refl }
judged-stands s now bounds false reports stands = record {
  judged = stands.judged;
  gathered = stands.gathered;
  split = stands.split;
  received = stands.received;
  missing = stands.missing;
}

-- one more report
pub after-stands : (s : State) (c : Counts) (now : ℕ) (bounds : Bounds) (reports : List Counts) → StandsFor s reports → StandsFor (after s c now bounds) (reports ++ c ∷ [])
after-stands s c now bounds reports stands =
    let since : ℕ = unwrap_or s.since now in
    let g : State = gathered s c since in
    judged-stands g now bounds (is_due since now (g.received + g.missing)) (reports ++ c ∷ []) (gathered-stands s c since reports stands)

few-of : (f : Counts → ℕ) (all judged gathered : List Counts) → all ≡ judged ++ gathered → All (λ c. f c ≤ MOST_STATUSES) all → sum_by f gathered ≤ length all * MOST_STATUSES
few-of f all judged gathered split low =
    omega (arith, sum_by-le f MOST_STATUSES all low, ap (sum_by f) split, sum_by-append f judged gathered)

-- the counts of fewer reports than the most are few
pub counts-few : (s : State) → TakesReport s → (s.received < 2 ^ 46) × (s.missing < 2 ^ 46)
counts-few s (reports, stands, counts, few) =
    let received : sum_by (λ (c : Counts). c.received) stands.gathered ≤ length reports * MOST_STATUSES =
    few-of (λ (c : Counts). c.received) reports stands.judged stands.gathered stands.split (λ k d l. (counts k d l).received) in
    let missing : sum_by (λ (c : Counts). c.missing) stands.gathered ≤ length reports * MOST_STATUSES =
    few-of (λ (c : Counts). c.missing) reports stands.judged stands.gathered stands.split (λ k d l. (counts k d l).missing) in
    (rw stands.received (omega arith), rw stands.missing (omega arith))
