-- The gaps of the samples of one sender are differences of arrivals, so they sum to one.
use Rattle.std.proofs.Common.{ℕ, zero, suc, ℤ, pos, ◌≡◌, ◌+ℤ◌, ◌-ℤ◌, ◌-◌, Bool, true, false, if◌then◌else◌, unsigned_abs, List, [], ◌∷◌, ◌++◌, take, All, fold, arith, refl, sym, subst}
use Rattle.std.proofs.lemmas.Int.{ints, clamps}
use Rattle.std.proofs.lemmas.List.Sums.{fold-append}
use Rattle.std.proofs.lemmas.List.Elements.{All-nil, All-cons, All-head, All-tail, All-append}
use Rattle.gcc_units.specs.declared.shared_types.Credit.{Credit}
use Rattle.gcc_units.specs.declared.shared_types.Sample.{Sample}
use Rattle.gcc_units.specs.declared.limits.TheConstants.{JOURNAL_ARRIVAL, GREATEST_DELAY}
use Rattle.packet_groups.specs.Groups.{Run, end_of, last_of, summary, alone, longer, joins, placed, division, grouped_after, grouped, is_behind, delay, difference, differences, samples}
use Rattle.packet_groups.specs.Kept as kept
use Rattle.packet_groups.specs.Division.{SamplesAreFew}
use Rattle.trendline.specs.declared.TheConstants.{GREATEST_TIME}
use Rattle.trendline.specs.Trend.{total, gap_of}
use Rattle.trendline.specs.Ranges.{IsNear}
use Rattle.trendline.specs.KeptBySamples.{IsDelayWithin, GapsStayWithin}

-- ---- what the runs end with

-- the run ends with an arrival in its range
abbrev EndsWithin : Run → Type 0
EndsWithin r = IsNear (unsigned_abs JOURNAL_ARRIVAL) (last_of r).arrival

near-arrival : (c : Credit) → kept.IsOfJournal c → IsNear (unsigned_abs JOURNAL_ARRIVAL) c.arrival
near-arrival c h = record { low = omega (arith, ints, h.low); high = omega (arith, ints, h.high) }

ends-longer : (r : Run) (c : Credit) → kept.IsOfJournal c → EndsWithin (longer r c)
ends-longer r c h =
    let same : last_of (longer r c) ≡ c = fold-append (λ (b : Credit) (d : Credit). d) r.first r.more (c ∷ []) in
    let P : Credit → Type 0 = λ d. IsNear (unsigned_abs JOURNAL_ARRIVAL) d.arrival in
    subst P (sym same) (near-arrival c h)

ends-one : (r : Run) (c : Credit) (b : Bool) → EndsWithin r → kept.IsOfJournal c → All EndsWithin (if b then longer r c ∷ [] else r ∷ alone c ∷ [])
ends-one r c true h k = All-cons EndsWithin (longer r c) [] (ends-longer r c k) (All-nil EndsWithin)
ends-one r c false h k =
    All-cons EndsWithin r (alone c ∷ []) h (All-cons EndsWithin (alone c) [] (near-arrival c k) (All-nil EndsWithin))

ends-placed : (runs : List Run) (c : Credit) → All EndsWithin runs → kept.IsOfJournal c → All EndsWithin (placed runs c)
ends-placed [] c h k = All-cons EndsWithin (alone c) [] (near-arrival c k) (All-nil EndsWithin)
ends-placed (r ∷ []) c h k = ends-one r c (joins (summary r) c) (All-head EndsWithin r [] h) k
ends-placed (r ∷ s ∷ runs) c h k =
    All-cons EndsWithin r (placed (s ∷ runs) c) (All-head EndsWithin r (s ∷ runs) h) (ends-placed (s ∷ runs) c (All-tail EndsWithin r (s ∷ runs) h) k)

ends-all : (runs : List Run) (credits : List Credit) → All EndsWithin runs → All kept.IsOfJournal credits → All EndsWithin (fold placed runs credits)
ends-all runs [] h k = h
ends-all runs (c ∷ credits) h k =
    ends-all (placed runs c) credits (ends-placed runs c h (All-head kept.IsOfJournal c credits k)) (All-tail kept.IsOfJournal c credits k)

one-or : (b : Bool) (c : Credit) → kept.IsOfJournal c → All kept.IsOfJournal (if b then c ∷ [] else [])
one-or true c h = All-cons kept.IsOfJournal c [] h (All-nil kept.IsOfJournal)
one-or false c h = All-nil kept.IsOfJournal

grouped-within : (before credits : List Credit) → All kept.IsOfJournal credits → All kept.IsOfJournal (grouped_after before credits)
grouped-within before [] h = h
grouped-within before (c ∷ credits) h =
    All-append kept.IsOfJournal (if is_behind before c.sent_at then c ∷ [] else []) (grouped_after (before ++ c ∷ []) credits)
    (one-or (is_behind before c.sent_at) c (All-head kept.IsOfJournal c credits h))
    (grouped-within (before ++ c ∷ []) credits (All-tail kept.IsOfJournal c credits h))

division-ends : (credits : List Credit) → All kept.IsOfJournal credits → All EndsWithin (division (grouped credits))
division-ends credits h = ends-all [] (grouped credits) (All-nil EndsWithin) (grouped-within [] credits h)

-- ---- delays

near-delay : (send_gap : ℕ) (arrival_gap : ℤ) → IsNear (unsigned_abs GREATEST_DELAY) (delay send_gap arrival_gap)
near-delay send_gap arrival_gap = record { low = omega (arith, ints, clamps); high = omega (arith, ints, clamps) }

delays-within : (runs : List Run) → All IsDelayWithin (differences runs)
delays-within [] = All-nil IsDelayWithin
delays-within (r ∷ []) = All-nil IsDelayWithin
delays-within (r ∷ s ∷ []) = All-nil IsDelayWithin
delays-within (r ∷ s ∷ t ∷ runs) =
    All-cons IsDelayWithin (difference (end_of (last_of r)) (end_of (last_of s))) (differences (s ∷ t ∷ runs)) (near-delay ((last_of s).sent_at - (last_of r).sent_at) ((last_of s).arrival -ℤ (last_of r).arrival)) (delays-within (s ∷ t ∷ runs))

-- ---- times

-- the first gaps lead from an arrival to another one
record Leads (from : ℤ) (samples : List Sample) : Type 0 where
  near : (k : ℕ) → IsNear (unsigned_abs JOURNAL_ARRIVAL) (total gap_of (take k samples) +ℤ from)

none-near : (from : ℤ) → IsNear (unsigned_abs JOURNAL_ARRIVAL) from → IsNear (unsigned_abs JOURNAL_ARRIVAL) (pos 0 +ℤ from)
none-near from h = record { low = omega (arith, ints, h.low); high = omega (arith, ints, h.high) }

leads-none : (from : ℤ) → IsNear (unsigned_abs JOURNAL_ARRIVAL) from → Leads from []
leads-none from h = record { near = near }
  where
    near : (k : ℕ) → IsNear (unsigned_abs JOURNAL_ARRIVAL) (total gap_of (take k []) +ℤ from)
    near zero = none-near from h
    near (suc k) = none-near from h

leads-more : (from : ℤ) (x : Sample) (samples : List Sample) (next : ℤ) → IsNear (unsigned_abs JOURNAL_ARRIVAL) from → x.arrival_gap ≡ next -ℤ from → Leads next samples
    → Leads from (x ∷ samples)
leads-more from x samples next h gap rest = record { near = near }
  where
    near : (k : ℕ) → IsNear (unsigned_abs JOURNAL_ARRIVAL) (total gap_of (take k (x ∷ samples)) +ℤ from)
    near zero = none-near from h
    near (suc k) =
        let there = rest.near k in
        let same : total gap_of (take k samples) +ℤ next ≡ (x.arrival_gap +ℤ total gap_of (take k samples)) +ℤ from = rw gap (omega (arith, ints)) in
        let P : ℤ → Type 0 = λ z. IsNear (unsigned_abs JOURNAL_ARRIVAL) z in
        subst P same there

leads : (r : Run) (runs : List Run) → All EndsWithin (r ∷ runs) → Leads (last_of r).arrival (differences (r ∷ runs))
leads r [] h = leads-none (last_of r).arrival (All-head EndsWithin r [] h)
leads r (s ∷ []) h = leads-none (last_of r).arrival (All-head EndsWithin r (s ∷ []) h)
leads r (s ∷ t ∷ runs) h =
    leads-more (last_of r).arrival (difference (end_of (last_of r)) (end_of (last_of s))) (differences (s ∷ t ∷ runs)) (last_of s).arrival
    (All-head EndsWithin r (s ∷ t ∷ runs) h) refl (leads s (t ∷ runs) (All-tail EndsWithin r (s ∷ t ∷ runs) h))

near-time : (z from : ℤ) → IsNear (unsigned_abs JOURNAL_ARRIVAL) (z +ℤ from) → IsNear (unsigned_abs JOURNAL_ARRIVAL) from → IsNear GREATEST_TIME z
near-time z from h k = record { low = omega (arith, ints, h.low, h.high, k.low, k.high); high = omega (arith, ints, h.low, h.high, k.low, k.high) }

no-time : (k : ℕ) → IsNear GREATEST_TIME (total gap_of (take k []))
no-time zero = record { low = omega (arith, ints); high = omega (arith, ints) }
no-time (suc k) = record { low = omega (arith, ints); high = omega (arith, ints) }

times-within : (runs : List Run) → All EndsWithin runs → (k : ℕ) → IsNear GREATEST_TIME (total gap_of (take k (differences runs)))
times-within [] h k = no-time k
times-within (r ∷ runs) h k =
    near-time (total gap_of (take k (differences (r ∷ runs)))) (last_of r).arrival ((leads r runs h).near k) (All-head EndsWithin r runs h)

pub gaps_stay_within : SamplesAreFew → GapsStayWithin
gaps_stay_within few credits within count =
    record {
      few = omega (arith, few credits, count);
      delays = delays-within (division (grouped credits));
      times = times-within (division (grouped credits)) (division-ends credits within);
    }
