-- Fields of bytes, the high byte first.
use Rattle.std.specs.Prelude.{ℕ, ◌+◌, ◌*◌, List, slice_index}

-- the fields of 16 and of 32 bits at a place
abbrev pub number16 : List ℕ → ℕ → ℕ
number16 bytes i = slice_index bytes i * 256 + slice_index bytes (i + 1)

abbrev pub number32 : List ℕ → ℕ → ℕ
number32 bytes i = number16 bytes i * 65536 + number16 bytes (i + 2)
