-- Arrivals that rise: those that have arrived stand at the front.
use Rattle.std.proofs.Common.{◌≡◌, ℕ, suc, zero, ◌+◌, ◌<◌, ◌≤◌, Bool, true, false, nat_le, List, [], ◌∷◌, ◌++◌, take, drop, All, refl, ap, arith}
use Rattle.std.specs.List.{AllPairs, filter, prefix_len}
use Rattle.std.proofs.lemmas.Bool.Decides.{nat_tests}
use Rattle.std.proofs.lemmas.List.Elements.{All-nil, All-cons}
use Rattle.std.proofs.lemmas.List.Kept.{AllPairs-cons}
use Rattle.link_path.specs.declared.link.Arrival.{Arrival}
use Rattle.link_path.specs.Link.{has_arrived, is_on_its_way}
use Rattle.link_path.specs.KeptLink.{RisesBetween}

pub rises-lower : (new low : ℕ) (xs : List Arrival) (high : ℕ) → new ≤ low → RisesBetween low xs high → RisesBetween new xs high
rises-lower new low [] high h r = omega arith
rises-lower new low (a ∷ later) high h r = (omega (arith, r.0), r.1)

pub rises-push : (low : ℕ) (xs : List Arrival) (high : ℕ) (a : Arrival) → RisesBetween low xs high → high < a.at → RisesBetween low (xs ++ a ∷ []) a.at
rises-push low [] high a r h = (omega arith, omega arith)
rises-push low (b ∷ later) high a r h = (r.0, rises-push b.at later high a r.1 h)

pub rises-drop : (n low : ℕ) (xs : List Arrival) (high : ℕ) → RisesBetween low xs high → RisesBetween low (drop n xs) high
rises-drop zero low xs high r = r
rises-drop (suc n) low [] high r = r
rises-drop (suc n) low (a ∷ later) high r = rises-lower low a.at (drop n later) high (omega (arith, r.0)) (rises-drop n a.at later high r.1)

all-later : (low : ℕ) (xs : List Arrival) (high : ℕ) → RisesBetween low xs high → All (λ (b : Arrival). low < b.at) xs
all-later low [] high r = All-nil (λ (b : Arrival). low < b.at)
all-later low (a ∷ later) high r =
    All-cons (λ (b : Arrival). low < b.at) a later r.0 (all-later low later high (rises-lower low a.at later high (omega (arith, r.0)) r.1))

pub pairs : (low : ℕ) (xs : List Arrival) (high : ℕ) → RisesBetween low xs high → AllPairs (λ (a b : Arrival). a.at < b.at) xs
pairs low [] high r = λ i j d l m. absurd (omega arith)
pairs low (a ∷ later) high r = AllPairs-cons (λ (b c : Arrival). b.at < c.at) a later (all-later a.at later high r.1) (pairs a.at later high r.1)

-- ---- the front that arrived

late : (at moment low : ℕ) → moment ≤ low → low < at → nat_le at moment ≡ false
late at moment low h l = grind (arith, nat_tests)

later-than : (at moment : ℕ) → nat_le at moment ≡ false → moment ≤ at
later-than at moment e = grind (arith, nat_tests)

one-more : (n : ℕ) → 1 + n ≡ suc n
one-more n = omega arith

none-arrived : (moment low : ℕ) (xs : List Arrival) (high : ℕ) → moment ≤ low → RisesBetween low xs high → filter (has_arrived moment) xs ≡ []
none-arrived moment low [] high h r = refl
none-arrived moment low (a ∷ later) high h r =
    let e : nat_le a.at moment ≡ false = late a.at moment low h r.0 in
    rw e (none-arrived moment a.at later high (omega (arith, r.0)) r.1)

all-on-their-way : (moment low : ℕ) (xs : List Arrival) (high : ℕ) → moment ≤ low → RisesBetween low xs high → filter (is_on_its_way moment) xs ≡ xs
all-on-their-way moment low [] high h r = refl
all-on-their-way moment low (a ∷ later) high h r =
    let e : nat_le a.at moment ≡ false = late a.at moment low h r.0 in
    rw e (ap (λ (ys : List Arrival). a ∷ ys) (all-on-their-way moment a.at later high (omega (arith, r.0)) r.1))

-- the list is cut where the first packet is that has not arrived
pub record IsCut (moment : ℕ) (xs : List Arrival) : Type 0 where
  pub arrived : filter (has_arrived moment) xs ≡ take (prefix_len (has_arrived moment) xs) xs
  pub left : filter (is_on_its_way moment) xs ≡ drop (prefix_len (has_arrived moment) xs) xs

cut-one : (moment : ℕ) (a : Arrival) (later : List Arrival) (high : ℕ) (b : Bool) → nat_le a.at moment ≡ b → RisesBetween a.at later high
    → IsCut moment later → IsCut moment (a ∷ later)
cut-one moment a later high true e r cut =
    record {
      arrived = rw (e, one-more (prefix_len (has_arrived moment) later)) (ap (λ (ys : List Arrival). a ∷ ys) cut.arrived);
      left = rw (e, one-more (prefix_len (has_arrived moment) later)) cut.left;
    }
cut-one moment a later high false e r cut =
    record {
      arrived = rw e (none-arrived moment a.at later high (later-than a.at moment e) r);
      left = rw e (ap (λ (ys : List Arrival). a ∷ ys) (all-on-their-way moment a.at later high (later-than a.at moment e) r));
    }

pub cut : (moment low : ℕ) (xs : List Arrival) (high : ℕ) → RisesBetween low xs high → IsCut moment xs
cut moment low [] high r = record { arrived = refl; left = refl }
cut moment low (a ∷ later) high r = cut-one moment a later high (nat_le a.at moment) refl r.1 (cut moment a.at later high r.1)
