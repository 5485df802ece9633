-- Base, floor and mean change, from the list of all reports that credited something.
use Rattle.std.specs.Prelude.{ℕ, ℤ, ◌≡◌, ◌+◌, ◌-◌, ◌/◌, ◌++◌, ◌==◌, ◌||◌, min, true, false, List, [], ◌∷◌, All, map, filter, fold, Option, Some, None}
use Rattle.std.specs.Int.{int_min}
use Rattle.level_control.specs.declared.state.Delays.{Delays}
use Rattle.level_control.specs.declared.delays.TheConstants.{CHANGE_PARTS, GREATEST_CHANGE}
use Rattle.level_control.specs.Delays.{apart, floor_of, spell_of}
use Rattle.level_control.specs.Given.{Given, Seen, seen, after_all, AreInOrder}

abbrev pub lesser : Option ℤ → Option ℤ → Option ℤ
lesser None other = other
lesser (Some one) None = Some one
lesser (Some one) (Some other) = Some (int_min one other)

-- the least of some delays, if there are any
abbrev pub least : List ℤ → Option ℤ
least [] = None
least (one ∷ others) = lesser (Some one) (least others)

abbrev pub delays_of : List Seen → List ℤ
delays_of xs = map (λ (x : Seen). x.delay) xs

-- ---- the base

pub record IsNoTurn (x : Seen) : Type 0 where
  pub cut : x.cut ≡ false
  pub ended : x.ended ≡ false

abbrev pub EndsNone : List Seen → Type 0
EndsNone xs = All (λ (x : Seen). x.ended ≡ false) xs

-- the reports from the last cut on whose drain has ended; all, where none has
pub data AreSinceCut (all since : List Seen) : Type 0 where
  none_ended : EndsNone all → since ≡ all → AreSinceCut all since
  one_ended : (front inside rest : List Seen) (cut end : Seen) → all ≡ front ++ since → since ≡ cut ∷ (inside ++ end ∷ rest)
      → cut.cut ≡ true → All IsNoTurn inside → end.ended ≡ true → EndsNone rest → AreSinceCut all since

-- The base is their least delay.
pub record IsBaseOf (all : List Seen) (base : Option ℤ) : Type 0 where
  pub since : List Seen
  pub are_since : AreSinceCut all since
  pub least : base ≡ least (delays_of since)

-- ---- the floor

-- those whose spell is that of a moment, or one less
abbrev pub in_spells : ℕ → List Seen → List Seen
in_spells spell xs = filter (λ (x : Seen). spell_of x.now == spell || spell_of x.now + 1 == spell) xs

-- ---- the mean change

-- by how much each delay differs from the one before it
abbrev pub differences : ℤ → List ℤ → List ℕ
differences last [] = []
differences last (next ∷ more) = apart next last ∷ differences next more

-- Each change, no more than the greatest that counts, takes the place of a sixteenth of those before it.
abbrev pub mean_change : List ℕ → ℕ
mean_change steps = fold (λ (c step : ℕ). c + min GREATEST_CHANGE step - c / CHANGE_PARTS) 0 steps

abbrev pub change_of : List ℤ → ℕ
change_of [] = 0
change_of (first ∷ more) = mean_change (differences first more)

-- ---- the laws

abbrev pub BasesAreThoseOfTheList : Type 0
BasesAreThoseOfTheList = (start : ℕ) (given : List Given) (k : Delays) → (after_all start given).delays ≡ Some k → IsBaseOf (seen start given) (Some k.base)

abbrev pub ChangesAreThoseOfTheList : Type 0
ChangesAreThoseOfTheList = (start : ℕ) (given : List Given) (k : Delays) → (after_all start given).delays ≡ Some k → k.change ≡ change_of (delays_of (seen start given))

-- the floor, where moments do not run back, is the least delay of the last report's spell and the one before it
abbrev pub FloorsAreThoseOfTheList : Type 0
FloorsAreThoseOfTheList =
    (start : ℕ) (given : List Given) (k : Delays) (earlier : List Seen) (last : Seen) → (after_all start given).delays ≡ Some k → AreInOrder (seen start given)
    → seen start given ≡ earlier ++ last ∷ [] → Some (floor_of k) ≡ least (delays_of (in_spells (spell_of last.now) (seen start given)))
