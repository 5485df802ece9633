-- Packets that carry a transport-wide sequence number.
use Rattle.std.specs.Prelude.{ℕ, ◌+◌, ◌*◌, List, [], ◌∷◌, ◌++◌, take, drop, replicate}
use Rattle.std.specs.Int.{w16, to_be_bytes}

-- the packet with the two bytes at a place replaced by a number
abbrev pub stamped : List ℕ → ℕ → ℕ → List ℕ
stamped bytes place low = take place bytes ++ (to_be_bytes w16 low ++ drop (place + 2) bytes)

-- The padding packet of a number: its fixed header with the number also as sequence number and "PADD" as SSRC,
-- an extension of one word with the number, 235 zero bytes, and the count 236 of the padding.
abbrev pub padding_front : ℕ → List ℕ
padding_front low = 176 ∷ 127 ∷ to_be_bytes w16 low ++ (0 ∷ 0 ∷ 0 ∷ 0 ∷ 80 ∷ 65 ∷ 68 ∷ 68 ∷ [])

abbrev pub padding_extension : ℕ → ℕ → List ℕ
padding_extension low id = 190 ∷ 222 ∷ 0 ∷ 1 ∷ (16 * id + 1) ∷ to_be_bytes w16 low ++ 0 ∷ []

abbrev pub padding_packet : ℕ → ℕ → List ℕ
padding_packet low id = padding_front low ++ (padding_extension low id ++ (replicate 235 0 ++ 236 ∷ []))
