-- How many samples there are, and how long their send gaps are together.
use Rattle.std.proofs.Common.{ℕ, ◌≡◌, ◌+◌, ◌≤◌, Bool, true, false, nat_le, nat_lt, if◌then◌else◌, List, [], ◌∷◌, ◌++◌, length, length-append, append_assoc, append-nil, All, Option, Some, None, option_map, refl, ap, ◌∙◌, sym, subst, arith}
use Rattle.std.proofs.lemmas.List.Sums.{sum_by-append, list_all-from_AllPass}
use Rattle.std.proofs.lemmas.Bool.Decides.{nat_tests}
use Rattle.gcc_units.specs.declared.shared_types.Credit.{Credit}
use Rattle.gcc_units.specs.declared.shared_types.Sample.{Sample}
use Rattle.packet_groups.specs.declared.step.Point.{Point}
use Rattle.packet_groups.specs.declared.step.Group.{Group}
use Rattle.packet_groups.specs.declared.step.State.{State}
use Rattle.packet_groups.specs.Groups.{joins, difference, is_behind, samples}
use Rattle.packet_groups.specs.Kept.{with, begun, after_in, after, moment_of, StandsFor, listed}
use Rattle.packet_groups.specs.Division.{total_gap, SamplesAreFew, GapsAreShort}
use Rattle.packet_groups.proofs.Placing.{grows}

-- the departure of the group before
abbrev departure : Option Point → ℕ
departure None = 0
departure (Some p) = p.sent_at

-- send gaps of this length end at the group before, and it lies no later than the current one
record Ends (now : State) (gaps : ℕ) : Type 0 where
  short : gaps ≤ departure now.before
  ordered : departure now.before ≤ moment_of now.current

ends-begun : (g : Group) (before : Option Point) (c : Credit) (gaps : ℕ) → Ends (record { current = Some g; before = before }) gaps → g.last.sent_at ≤ c.sent_at
    → Ends (record { current = Some (begun c); before = Some g.last }) (gaps + total_gap (listed (option_map (λ b. difference b g.last) before)))
ends-begun g None c gaps h behind = record { short = omega (arith, h.short, h.ordered); ordered = behind }
ends-begun g (Some p) c gaps h behind = record { short = omega (arith, h.short, h.ordered); ordered = behind }

ends-or : (g : Group) (before : Option Point) (c : Credit) (gaps : ℕ) (left joined : Bool) → nat_lt c.sent_at g.last.sent_at ≡ left
    → Ends (record { current = Some g; before = before }) gaps
    → (x : State × Option Sample)
    → x ≡ (if left then (record { current = Some g; before = before }, None) else (if joined then (record { current = Some (with g c); before = before }, None)
    else (record { current = Some (begun c); before = Some g.last }, option_map (λ b. difference b g.last) before)))
    → Ends x.0 (gaps + total_gap (listed x.1))
ends-or g before c gaps true joined e h x is = rw is (record { short = omega (arith, h.short); ordered = h.ordered })
ends-or g before c gaps false true e h x is = let behind : g.last.sent_at ≤ c.sent_at = grind (arith, nat_tests) in rw is (record { short = omega (arith, h.short); ordered = omega (arith, h.ordered) })
ends-or g before c gaps false false e h x is = let behind : g.last.sent_at ≤ c.sent_at = grind (arith, nat_tests) in rw is (ends-begun g before c gaps h behind)

ends-after : (current : Option Group) (before : Option Point) (c : Credit) (gaps : ℕ) → Ends (record { current = current; before = before }) gaps
    → Ends (after_in current before c).0 (gaps + total_gap (listed (after_in current before c).1))
ends-after None before c gaps h = record { short = omega (arith, h.short, h.ordered); ordered = omega arith }
ends-after (Some g) before c gaps h = ends-or g before c gaps (nat_lt c.sent_at g.last.sent_at) (joins g c) refl h _ refl

-- some state stands for the credits, and their samples end where it says
record Reached (credits : List Credit) : Type 0 where
  now : State
  stands : StandsFor now credits
  ends : Ends now (total_gap (samples credits))
  few : length (samples credits) ≤ length credits

listed-one : (s : Option Sample) → length (listed s) ≤ 1
listed-one None = omega arith
listed-one (Some s) = omega arith

one-more : (credits : List Credit) (c : Credit) → Reached credits → Reached (credits ++ c ∷ [])
one-more credits c h =
    let g = grows h.now credits c h.stands in
    let next = (after h.now c).1 in
    let gaps : total_gap (samples (credits ++ c ∷ [])) ≡ total_gap (samples credits) + total_gap (listed next) =
    ap (λ (ss : List Sample). total_gap ss) g.sample ∙ sum_by-append (λ (s : Sample). s.send_gap) (samples credits) (listed next) in
    let count : length (samples (credits ++ c ∷ [])) ≡ length (samples credits) + length (listed next) =
    ap (λ (ss : List Sample). length ss) g.sample ∙ length-append (samples credits) (listed next) in
    record {
      now = (after h.now c).0;
      stands = g.stands;
      ends = rw gaps (ends-after h.now.current h.now.before c (total_gap (samples credits)) h.ends);
      few = omega (arith, h.few, count, listed-one next, length-append credits (c ∷ []));
    }

reached-from : (credits rest : List Credit) → Reached credits → Reached (credits ++ rest)
reached-from credits [] h = rw (append-nil credits) h
reached-from credits (c ∷ rest) h =
    let P : List Credit → Type 0 = Reached in subst P (append_assoc credits (c ∷ []) rest) (reached-from (credits ++ c ∷ []) rest (one-more credits c h))

reached : (credits : List Credit) → Reached credits
reached credits =
    reached-from [] credits (record {
      now = record { current = None; before = None };
      stands = record { is = refl; latest = λ moment. grind (arith, nat_tests) };
      ends = record { short = omega arith; ordered = omega arith };
      few = omega arith;
    })

pub samples_are_few : SamplesAreFew
samples_are_few credits = (reached credits).few

behind-all : (credits : List Credit) (moment : ℕ) → All (λ (c : Credit). c.sent_at ≤ moment) credits → is_behind credits moment ≡ true
behind-all credits moment h =
    list_all-from_AllPass (λ (c : Credit). nat_le c.sent_at moment) credits (λ k d in_range. let here = h k d in_range in grind (arith, nat_tests))

pub gaps_are_short : GapsAreShort
gaps_are_short credits moment h =
    let r = reached credits in
    let behind : nat_le (moment_of r.now.current) moment ≡ true = sym (r.stands.latest moment) ∙ behind-all credits moment h in
    let last : moment_of r.now.current ≤ moment = grind (arith, nat_tests) in
    omega (arith, r.ends.short, r.ends.ordered)
