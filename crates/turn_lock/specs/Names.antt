-- Seats in a row, by their names: for a caller that works them in a vector and puts them together
-- again.
use Rattle.std.proofs.Common.{ℕ, List, map}
use Rattle.std.specs.List.{range_with_len}
use Rattle.turn_lock.specs.Seats.{TableId, SeatIs}

-- a seat's name: of which turn it is, and its number
abbrev pub name : {C R : Type 0} → SeatIs C R → TableId × ℕ
name s = (s.of, s.number)

abbrev pub names : {C R : Type 0} → List (SeatIs C R) → List (TableId × ℕ)
names seats = map name seats

-- the names of all seats of a turn, in order
abbrev pub all_names : TableId → ℕ → List (TableId × ℕ)
all_names of n = map (λ k. (of, k)) (range_with_len 0 n)
