-- Packet chunks of two bytes, each of which stands for symbols
-- (draft-holmer-rmcat-transport-wide-cc-extensions-01, sections 3.1.3 and 3.1.4).
use Rattle.std.specs.Prelude.{ℕ, zero, suc, ◌+◌, ◌-◌, ◌*◌, ◌/◌, ◌%◌, ◌^◌, ◌<◌, ◌≤◌, ◌≡◌, List, [], ◌∷◌, ◌++◌, length, take, map, nat_lt, if◌then◌else◌}
use Rattle.std.specs.Int.{w16, to_be_bytes}
use Rattle.std.specs.List.{flat_map, range_with_len, AllByRecursion}

-- how many symbols a chunk has: the length of a run, fourteen of one bit, or seven of two bits
abbrev pub symbol_count : ℕ → ℕ
symbol_count word = if nat_lt word 32768 then word % 8192 else (if nat_lt word 49152 then 14 else 7)

-- its symbol k
abbrev pub symbol_at : ℕ → ℕ → ℕ
symbol_at word k = if nat_lt word 32768 then word / 8192 else (if nat_lt word 49152 then word / 2 ^ (13 - k) % 2 else word / 2 ^ (2 * (6 - k)) % 4)

unfoldable pub symbols_of : ℕ → List ℕ
symbols_of word = map (symbol_at word) (range_with_len 0 (symbol_count word))

-- chunks as bytes
abbrev pub chunk_bytes : List ℕ → List ℕ
chunk_bytes chunks = flat_map (to_be_bytes w16) chunks

-- The chunks give count symbols: all of them enough, and those before the last too few.
pub record AreChunks (count : ℕ) (chunks : List ℕ) : Type 0 where
  pub fit : AllByRecursion (λ w. w < 65536) chunks
  pub enough : count ≤ length (flat_map symbols_of chunks)
  pub no_more : (k : ℕ) → k < length chunks → length (flat_map symbols_of (take k chunks)) < count

-- The bytes begin with chunks that give count symbols, and then come these bytes.
pub record BeginsWith (count : ℕ) (bytes chunks rest : List ℕ) : Type 0 where
  pub parts : bytes ≡ chunk_bytes chunks ++ rest
  pub are_chunks : AreChunks count chunks

-- bytes as numbers of 16 bits; a last single byte is left out
abbrev pub words : List ℕ → List ℕ
words (high ∷ low ∷ bytes) = (high * 256 + low) ∷ words bytes
words bytes = []

-- what all the bytes say when they are read as chunks
abbrev pub all_symbols : List ℕ → List ℕ
all_symbols bytes = flat_map symbols_of (words bytes)

-- the bytes behind the chunks that give n symbols
unfoldable pub behind_chunks : ℕ → List ℕ → List ℕ
behind_chunks zero bytes = bytes
behind_chunks (suc n) (high ∷ low ∷ bytes) = behind_chunks (suc n - length (symbols_of (high * 256 + low))) bytes
behind_chunks (suc n) bytes = []
