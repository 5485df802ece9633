-- Packets that stand one behind the other, and where each ends.
use Rattle.std.specs.Prelude.{◌≡◌, ℕ, ◌+◌, ◌-◌, ◌^◌, ◌<◌, ◌≤◌, List, [], ◌∷◌, length, take, drop}
use Rattle.std.specs.Vec.{vec_len, vec_capacity}
use Rattle.rtp_wire.specs.declared.wires.WireList.TheInside.{Inside}
use Rattle.rtp_wire.specs.Wires.{Wires}

-- the pieces of some bytes from a place on, each up to its end
abbrev pub pieces : ℕ → List ℕ → List ℕ → List (List ℕ)
pieces start [] bytes = []
pieces start (end ∷ ends) bytes = take (end - start) (drop start bytes) ∷ pieces end ends bytes

-- From the start on the ends do not fall, and the last of them is the end of all.
abbrev pub AreEnds : ℕ → List ℕ → ℕ → Type 0
AreEnds start [] total = start ≡ total
AreEnds start (end ∷ ends) total = (start ≤ end) × AreEnds end ends total

abbrev pub wires_of : Inside → Wires
wires_of a = record { items = pieces 0 a.ends.items a.bytes.items; room = a.room; byte_room = a.byte_room }

-- the ends are those of the bytes, and there is as much room as is promised
pub record IsWhole (a : Inside) : Type 0 where
  pub ends : AreEnds 0 a.ends.items (length a.bytes.items)
  pub room : vec_len a.ends + a.room ≤ vec_capacity a.ends
  pub few : vec_len a.ends + a.room < 2 ^ 32
  pub byte_room : vec_len a.bytes + a.byte_room ≤ vec_capacity a.bytes
