-- Lines, fields and numbers. A line is the bytes before a line feed, and its fields are parted by one space.
use Rattle.std.specs.Prelude.{◌≡◌, ◌≢◌, ℕ, ◌+◌, ◌-◌, ◌*◌, ◌^◌, nat_lt, nat_le, ◌==◌, ◌&&◌, Bool, if◌then◌else◌, List, [], ◌∷◌, ◌++◌, Option, Some, None}
use Rattle.std.specs.List.{before_first, after_first, flat_map, All}

abbrev pub is_byte : ℕ → ℕ → Bool
is_byte byte b = b == byte

abbrev pub is_space : ℕ → Bool
is_space = is_byte 32

abbrev pub is_feed : ℕ → Bool
is_feed = is_byte 10

-- the first field; where no space stands, it is all that is left
abbrev pub field : List ℕ → List ℕ
field bytes = before_first is_space bytes

-- what stands behind the space after it; a field that is not there is empty
abbrev pub behind : List ℕ → List ℕ
behind bytes = after_first is_space bytes

-- whole lines without their line feeds, and what stands behind the last line feed
pub record Cut : Type 0 where
  pub whole : List (List ℕ)
  pub rest : List ℕ

-- a byte more at the front of the first line
abbrev pub begun : ℕ → List (List ℕ) → List ℕ → Cut
begun b [] rest = record { whole = []; rest = b ∷ rest }
begun b (l ∷ ls) rest = record { whole = (b ∷ l) ∷ ls; rest = rest }

unfoldable pub lines_of : List ℕ → Cut
lines_of [] = record { whole = []; rest = [] }
lines_of (b ∷ bytes) =
    if is_feed b then record { whole = [] ∷ (lines_of bytes).whole; rest = (lines_of bytes).rest }
    else begun b (lines_of bytes).whole (lines_of bytes).rest

-- no line feed stands in a line
abbrev pub IsLineText : List ℕ → Type 0
IsLineText line = All (λ b. b ≢ 10) line

-- a line with its line feed
abbrev pub fed : List ℕ → List ℕ
fed line = line ++ 10 ∷ []

-- the bytes are these lines with their line feeds, and then the rest; no other line feed is there
pub record IsCut (bytes : List ℕ) (cut : Cut) : Type 0 where
  pub joined : bytes ≡ flat_map fed cut.whole ++ cut.rest
  pub whole : All IsLineText cut.whole
  pub rest : IsLineText cut.rest

abbrev pub is_digit : ℕ → Bool
is_digit d = nat_le 48 d && nat_le d 57

-- the number that digits give behind those of another one, where it is below 2^64
abbrev pub value_after : ℕ → List ℕ → Option ℕ
value_after n [] = Some n
value_after n (d ∷ ds) = if is_digit d && nat_lt (n * 10 + (d - 48)) (2 ^ 64) then value_after (n * 10 + (d - 48)) ds else None

-- a number in decimal, without sign and without a leading zero
abbrev pub number_of : List ℕ → Option ℕ
number_of [] = None
number_of (d ∷ []) = value_after 0 (d ∷ [])
number_of (d ∷ e ∷ ds) = if d == 48 then None else value_after 0 (d ∷ e ∷ ds)
