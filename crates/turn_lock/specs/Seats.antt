-- What contracts see of a turn, its seats and its notes.
use Rattle.std.specs.Prelude.{◌≡◌, ℕ, ◌<◌, List, [], ◌∷◌, ◌++◌, map}
use Rattle.std.specs.List.{range_with_len, Contains}
pub use Rattle.atomic_table.specs.Seated.{TableId}
use Rattle.turn_lock.specs.declared.entry.Entry.{Entry}
use Rattle.turn_lock.specs.declared.view.View.{View}

-- a turn: which one it is, and how many seats it has
pub record TurnIs : Type 0 where
  pub of : TableId
  pub seats : ℕ

-- a seat: of which turn it is, its number, the history as it last saw it, and its own entries in
-- that
pub record SeatIs (C R : Type 0) : Type 0 where
  pub of : TableId
  pub number : ℕ
  pub seen : List (Entry C R)
  pub mine : List (Entry C R)

-- a note: of which turn it is, and the history that its seat had seen
pub record NoteIs (C R : Type 0) : Type 0 where
  pub of : TableId
  pub seen : List (Entry C R)

abbrev pub entry : {C R : Type 0} → ℕ → C → R → Entry C R
entry k c r = record { caller = k; call = c; reply = r }

module _ {C R : Type 0} where
  -- what stands first are the own entries
  abbrev pub own_of : List (ℕ × List (Entry C R)) → List (Entry C R)
  own_of [] = []
  own_of (p ∷ ps) = p.1

  abbrev pub seat_is : TableId → ℕ → View C R → SeatIs C R
  seat_is of k v = record { of = of; number = k; seen = v.seen; mine = own_of v.kept }

  abbrev pub note_is : TableId → View C R → NoteIs C R
  note_is of v = record { of = of; seen = v.seen }

  -- a seat that has seen the empty history
  abbrev pub new_seat : TableId → ℕ → SeatIs C R
  new_seat of k = record { of = of; number = k; seen = []; mine = [] }

  -- the seats from number a on, n of them
  abbrev pub new_seats : TableId → ℕ → ℕ → List (SeatIs C R)
  new_seats of a n = map (new_seat of) (range_with_len a n)

  -- what was seen begins with what had been seen and ends with this call, which is one more of the
  -- seat's own
  abbrev pub Adds : SeatIs C R → C → R → SeatIs C R → Type 0
  Adds old call reply new =
      (between : List (Entry C R)) × (new.seen ≡ (old.seen ++ between) ++ entry old.number call reply ∷ [])
      × (new.mine ≡ old.mine ++ entry old.number call reply ∷ [])

  -- each number below n is that of a seat in the list
  abbrev pub HasEvery : ℕ → List (SeatIs C R) → Type 0
  HasEvery n seats = (k : ℕ) → k < n → (s : SeatIs C R) × Contains seats s × (s.number ≡ k)
