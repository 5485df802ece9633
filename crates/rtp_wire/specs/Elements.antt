-- The one-byte form of a header extension, by its elements (RFC 8285, section 4.2).
use Rattle.std.specs.Prelude.{◌≡◌, ◌≢◌, ℕ, ◌+◌, ◌-◌, ◌*◌, ◌%◌, ◌<◌, ◌≤◌, ◌⊎◌, List, [], ◌∷◌, ◌++◌, length}
use Rattle.std.specs.List.{flat_map, AllByRecursion}

-- a byte of padding, or an element with its ID and its data
pub data Piece : Type 0 where
  pad : Piece
  element : ℕ → List ℕ → Piece

-- a byte 0; or a byte with the ID and the length less one, and then the data
abbrev pub piece_bytes : Piece → List ℕ
piece_bytes pad = 0 ∷ []
piece_bytes (element number content) = (16 * number + (length content - 1)) ∷ content

-- It is passed over: an element is not ours, which has our ID and two bytes.
abbrev pub IsOther : ℕ → Piece → Type 0
IsOther id pad = Unit {0}
IsOther id (element number content) =
    (1 ≤ number) × (number ≤ 14) × (1 ≤ length content) × (length content ≤ 16) × (number ≡ id → length content ≢ 2)

-- The extension begins with what is passed over, and then come these bytes.
pub record Continues (id : ℕ) (extension rest : List ℕ) : Type 0 where
  pub others : List Piece
  pub passed : AllByRecursion (IsOther id) others
  pub parts : extension ≡ flat_map piece_bytes others ++ rest

-- Our element follows, and its data stands at this place of the extension.
pub record IsNumberAt (id : ℕ) (extension : List ℕ) (at : ℕ) : Type 0 where
  pub high : ℕ
  pub low : ℕ
  pub rest : List ℕ
  pub behind : Continues id extension ((16 * id + 1) ∷ high ∷ low ∷ rest)
  pub place : at + length rest + 2 ≡ length extension

-- nothing follows, or a byte that ends the elements: ID 0 with a length, or ID 15
abbrev pub IsEnd : List ℕ → Type 0
IsEnd [] = Unit {0}
IsEnd (b ∷ rest) = ((1 ≤ b) × (b ≤ 15)) ⊎ (240 ≤ b)

pub record HasNoNumber (id : ℕ) (extension : List ℕ) : Type 0 where
  pub rest : List ℕ
  pub behind : Continues id extension rest
  pub ends : IsEnd rest

-- An element follows that passes the extension's end.
pub record IsCutOff (id : ℕ) (extension : List ℕ) : Type 0 where
  pub head : ℕ
  pub rest : List ℕ
  pub behind : Continues id extension (head ∷ rest)
  pub low : 16 ≤ head
  pub high : head ≤ 239
  pub passes_end : length rest < head % 16 + 1

-- Each extension is of one of these kinds, and of no two; and our element's place is the only one.
pub record IsOfOneKind (id : ℕ) (extension : List ℕ) : Type 0 where
  pub one : ((at : ℕ) × IsNumberAt id extension at) ⊎ (HasNoNumber id extension ⊎ IsCutOff id extension)
  pub not_none : (at : ℕ) → IsNumberAt id extension at → HasNoNumber id extension → ⊥
  pub not_cut : (at : ℕ) → IsNumberAt id extension at → IsCutOff id extension → ⊥
  pub not_both : HasNoNumber id extension → IsCutOff id extension → ⊥
  pub same : (at also : ℕ) → IsNumberAt id extension at → IsNumberAt id extension also → at ≡ also
