-- What one more packet does to a window, and the rate that a window says.
use Rattle.std.proofs.Common.{◌≡◌, ℕ, ℤ, ◌-ℤ◌, ◌≤ℤ◌, ◌+◌, ◌*◌, ◌≤◌, Bool, true, false, int_lt, min, Option, Some, None, List, [], ◌∷◌, ◌++◌, fold, length, sum, All, get_or, if◌then◌else◌, refl, sym, ap, ◌∙◌, subst, arith, length-append}
use Rattle.std.specs.Option.{ForSome}
use Rattle.std.proofs.lemmas.Int.{ints, clamps}
use Rattle.std.proofs.lemmas.Option.{same_Some}
use Rattle.std.proofs.lemmas.List.Elements.{All-push}
use Rattle.std.proofs.lemmas.List.Sums.{fold-append, sum_by-append, sum_by-le}
use Rattle.circular_buffer.specs.Buffer.{Buffer}
use Rattle.gcc_units.specs.declared.limits.TheConstants.{GREATEST_PACKET, MOST_PACKETS, GREATEST_RATE}
use Rattle.acked_rate.specs.declared.TheConstants.{WINDOW, RATE_OF_BYTE}
use Rattle.acked_rate.specs.declared.sums.Span.{Span}
use Rattle.acked_rate.specs.Received.{Add, widened, span_of, weight, size_above, acked}
use Rattle.acked_rate.specs.Ring.{Sum, IsFull, first_in, moved, steps_to, sums_of, timed}
use Rattle.acked_rate.specs.Kept.{Kept, IsKept, IsFilled, StandsFor, TakesAdd, IsWithin, IsSpan, IsUntil, AgreesAbove, sum_above}
use Rattle.acked_rate.proofs.Rings.{slid-above, timed-all}

-- ---- the span

-- an arrival that widens a span within range
pub widened-within : (span : Option Span) (x : Add) → ForSome span IsSpan → IsWithin x → IsSpan (widened span x.arrival)
widened-within None x within here = record { low = here.low; order = omega (arith, ints); high = here.high }
widened-within (Some s) x within here = record { low = omega (arith, ints, clamps, (within s refl).low, here.low); order = omega (arith, ints, clamps, (within s refl).order); high = omega (arith, ints, clamps, (within s refl).high, here.high) }

-- it ends where the span ended, or later
pub widened-until : (span : Option Span) (arrival : ℤ) → IsUntil span (widened span arrival).newest
widened-until None arrival = tt
widened-until (Some s) arrival = omega (arith, ints, clamps)

-- ---- what it stands for

some-stays : (s : Span) (adds : List Add) → fold (λ span (x : Add). Some (widened span x.arrival)) (Some s) adds ≡ None → ⊥
some-stays s [] e = cc
some-stays s (x ∷ adds) e = some-stays (widened (Some s) x.arrival) adds e

none-given : (adds : List Add) → None ≡ span_of adds → adds ≡ []
none-given [] e = refl
none-given (x ∷ adds) e = absurd (some-stays (widened None x.arrival) adds (sym e))

agrees : (span : Option Span) (sums : List Sum) (adds : List Add) (arrival limit : ℤ)
    → span ≡ span_of adds → AgreesAbove span sums adds → ((widened span arrival).newest -ℤ WINDOW) ≤ℤ limit → sum_above limit sums ≡ size_above limit adds
agrees None sums adds arrival limit none empty h = rw (empty, none-given adds none) refl
agrees (Some s) sums adds arrival limit span above h = above limit (omega (arith, ints, clamps))

pub add-stands : (now : Kept) (adds : List Add) (x : Add) (span : Span) (sums : List Sum)
    → StandsFor now adds → span ≡ widened now.span x.arrival
    → ((limit : ℤ) → (span.newest -ℤ WINDOW) ≤ℤ limit → sum_above limit sums ≡ sum_above limit now.sums + weight limit x)
    → StandsFor (record { span = Some span; sums = sums }) (adds ++ x ∷ [])
add-stands now adds x span sums stands span_is above = record {
  span = ap Some (span_is ∙ ap (λ s. widened s x.arrival) stands.span) ∙ sym (fold-append (λ s (y : Add). Some (widened s y.arrival)) None adds (x ∷ []));
  above = λ limit h. omega (arith, above limit h, agrees now.span now.sums adds x.arrival limit stands.span stands.above (rw span_is at h), sum_by-append (weight limit) adds (x ∷ []));
}

-- ---- how much it keeps

weight-least : (limit : ℤ) (x : Add) → weight limit x ≤ x.size
weight-least limit x = one (int_lt limit x.arrival) x.size
  where
    one : (b : Bool) (n : ℕ) → (if b then n else 0) ≤ n
    one true n = omega arith
    one false n = omega arith

size-few : (limit : ℤ) (adds : List Add) → All IsWithin adds → size_above limit adds ≤ length adds * GREATEST_PACKET
size-few limit adds within = sum_by-le (weight limit) GREATEST_PACKET adds (λ k d l. omega (arith, weight-least limit (get_or adds k d), (within k d l).size))

pub add-few : (now : Kept) (x : Add) (span : Span) (ring : List ℕ)
    → TakesAdd now → IsWithin x → span ≡ widened now.span x.arrival
    → ((limit : ℤ) → (span.newest -ℤ WINDOW) ≤ℤ limit → sum_above limit (timed (first_in span.newest) ring) ≡ sum_above limit now.sums + weight limit x)
    → sum ring ≤ MOST_PACKETS * GREATEST_PACKET
add-few now x span ring (adds, stands, within, few) here span_is above =
    let sums : List Sum = timed (first_in span.newest) ring in
    let more : StandsFor (record { span = Some span; sums = sums }) (adds ++ x ∷ []) = add-stands now adds x span sums stands span_is above in
    let start : ℤ = span.newest -ℤ WINDOW in
    omega (arith, timed-all start (first_in span.newest) ring (omega (arith, ints)), more.above start (omega (arith, ints)), size-few start (adds ++ x ∷ []) (All-push IsWithin adds x within here), length-append adds (x ∷ []))

-- what is kept with one more packet
pub add-keeps : (now : Kept) (known : Option Span) (x : Add) (span : Span) (ring : Buffer ℕ) (all : ℕ)
    → IsFull ring → all ≡ sum ring.items → ForSome known IsSpan → TakesAdd now → IsWithin x → known ≡ now.span → span ≡ widened known x.arrival
    → ((limit : ℤ) → (span.newest -ℤ WINDOW) ≤ℤ limit → sum_above limit (timed (first_in span.newest) ring.items) ≡ sum_above limit now.sums + weight limit x)
    → IsKept (Some span) ring all
add-keeps now known x span ring all full total within takes here known_is span_is above = record {
  full = full;
  span = λ s e. subst IsSpan (same_Some span s e) (rw span_is (widened-within known x within here));
  filled = tt;
  total = total;
  few = add-few now x span ring.items takes here (span_is ∙ ap (λ (k : Option Span). widened k x.arrival) known_is) above;
}

-- what counts after the ring moved on and took a packet
pub add-above : (now : Kept) (known : Option Span) (ring on new : List ℕ) (steps : ℕ) (x : Add) (span : Span)
    → record { span = known; sums = sums_of known ring } ≡ now → IsFilled known ring → span ≡ widened known x.arrival
    → steps ≡ steps_to known span.newest → on ≡ moved steps ring
    → ((limit : ℤ) → (span.newest -ℤ WINDOW) ≤ℤ limit → sum_above limit (timed (first_in span.newest) new) ≡ sum_above limit (timed (first_in span.newest) on) + weight limit x)
    → (limit : ℤ) → (span.newest -ℤ WINDOW) ≤ℤ limit → sum_above limit (timed (first_in span.newest) new) ≡ sum_above limit now.sums + weight limit x
add-above now known ring on new steps x span view_is filled span_is steps_is on_is above limit late =
    let until : IsUntil known span.newest = rw span_is (widened-until known x.arrival) in
    let slid : sum_above limit (timed (first_in span.newest) on) ≡ sum_above limit (sums_of known ring) =
    rw (on_is, steps_is) (slid-above known span.newest ring limit filled until late) in
    let viewed : sum_above limit (sums_of known ring) ≡ sum_above limit now.sums = ap (λ (k : Kept). sum_above limit k.sums) view_is in
    omega (arith, above limit late, slid, viewed)

-- ---- the rate

-- what a ring that has a span stands for
pub stands-at : (now : Kept) (known : Option Span) (ring : List ℕ) (s : Span) (adds : List Add)
    → record { span = known; sums = sums_of known ring } ≡ now → known ≡ Some s → StandsFor now adds
    → StandsFor (record { span = Some s; sums = timed (first_in s.newest) ring }) adds
stands-at now known ring s adds view_is was stands =
    let Stands : Option Span → Type 0 = λ o. StandsFor (record { span = o; sums = sums_of o ring }) adds in
    let Viewed : Kept → Type 0 = λ k. StandsFor k adds in
    subst Stands was (subst Viewed (sym view_is) stands)

pub short-rate : (s : Span) (sums : List Sum) (adds : List Add) → StandsFor (record { span = Some s; sums = sums }) adds
    → int_lt (s.newest -ℤ s.oldest) WINDOW ≡ true → None ≡ acked adds
short-rate s sums adds stands short = rw (← stands.span, short) refl

pub full-rate : (s : Span) (ring : List ℕ) (adds : List Add) → StandsFor (record { span = Some s; sums = timed (first_in s.newest) ring }) adds
    → int_lt (s.newest -ℤ s.oldest) WINDOW ≡ false
    → Some (min (RATE_OF_BYTE * sum ring) GREATEST_RATE) ≡ acked adds
full-rate s ring adds stands full =
    rw (← stands.span, full, ← stands.above (s.newest -ℤ WINDOW) (omega (arith, ints)), timed-all (s.newest -ℤ WINDOW) (first_in s.newest) ring (omega (arith, ints))) refl
