-- The canonical spelling of a report, which is the one that writing gives (this project's own rule).
use Rattle.std.specs.Prelude.{ℕ, zero, suc, ◌+◌, ◌-◌, ◌*◌, ◌/◌, ◌%◌, List, [], ◌∷◌, ◌++◌, length, take, map, slice_index, replicate, take_while, Bool, nat_lt, nat_le, ◌==◌, ◌||◌, if◌then◌else◌}
use Rattle.std.specs.List.{flat_map, list_all}
use Rattle.twcc_report.specs.Chunks.{symbol_count, chunk_bytes}
use Rattle.twcc_report.specs.Spelling.{Feedback, symbol, delta, header}

-- how many symbols from here on are equal, at most 8,191
unfoldable pub run_len : List ℕ → ℕ
run_len symbols = length (take_while (λ s. s == slice_index symbols 0) (take 8191 symbols))

-- The run is long, or reaches the last symbol.
abbrev pub is_run : List ℕ → Bool
is_run symbols = nat_le 7 (run_len symbols) || run_len symbols == length symbols

-- The next fourteen symbols, or all that are left, are 0 or 1.
abbrev pub fits_one_bit : List ℕ → Bool
fits_one_bit symbols = list_all (λ s. nat_lt s 2) (take 14 symbols)

-- a number that begins with these bits, and behind them has the first n symbols as digits, with 0 where there are no more
unfoldable pub with_digits : ℕ → ℕ → ℕ → List ℕ → ℕ
with_digits base bits zero symbols = bits
with_digits base bits (suc n) symbols = with_digits base bits n symbols * base + slice_index symbols n

-- the chunks of each kind: first bit 0, a symbol and the length of its run; bits 10 and fourteen symbols of one bit; bits 11 and seven
-- symbols of two bits
abbrev pub run_chunk : List ℕ → ℕ
run_chunk symbols = slice_index symbols 0 * 8192 + run_len symbols

abbrev pub one_bit_chunk : List ℕ → ℕ
one_bit_chunk symbols = with_digits 2 2 14 symbols

abbrev pub two_bit_chunk : List ℕ → ℕ
two_bit_chunk symbols = with_digits 4 3 7 symbols

-- the chunk that comes next, where these symbols are left
unfoldable pub next_chunk : List ℕ → ℕ
next_chunk symbols = if is_run symbols then run_chunk symbols else (if fits_one_bit symbols then one_bit_chunk symbols else two_bit_chunk symbols)

-- the chunks for symbols of which the first n have theirs: each stands for as many as it has places
unfoldable pub chunks_behind : ℕ → List ℕ → List ℕ
chunks_behind n [] = []
chunks_behind (suc n) (s ∷ symbols) = chunks_behind n symbols
chunks_behind zero (s ∷ symbols) = next_chunk (s ∷ symbols) ∷ chunks_behind (symbol_count (next_chunk (s ∷ symbols)) - 1) symbols

abbrev pub chunks_for : List ℕ → List ℕ
chunks_for symbols = chunks_behind 0 symbols

-- zero bytes up to whole words of four
abbrev pub filled_up : List ℕ → List ℕ
filled_up bytes = bytes ++ replicate ((4 - length bytes % 4) % 4) 0

-- what stands behind the header
abbrev pub body : Feedback → List ℕ
body f = filled_up (chunk_bytes (chunks_for (map symbol f.statuses)) ++ flat_map delta f.statuses)

-- The padding bit is clear. The length field counts the words of all the bytes, less one.
abbrev pub canonical : Feedback → List ℕ
canonical f = header 0 ((20 + length (body f)) / 4 - 1) f ++ body f
