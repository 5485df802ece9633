-- The twelve bytes of the header.
use Rattle.std.proofs.Common.{◌≡◌, ℕ, zero, suc, ◌+◌, ◌-◌, ◌*◌, ◌/◌, ◌%◌, ◌^◌, ◌<◌, ◌≤◌, List, [], ◌∷◌, ◌++◌, length, drop, get_or, refl, sym, ap, subst, ◌∙◌, arith, w16, w32}
use Rattle.std.specs.Int.{to_be_bytes}
use Rattle.gcc_units.specs.Numbers.{number16, number32}
use Rattle.nack_rtx.specs.Spelling.{header}
use Rattle.nack_rtx.proofs.Pairs.{IsBytes}

-- a cell of a list
cell : (xs : List ℕ) (i y : ℕ) (t : List ℕ) → i < length xs → get_or xs i 0 ≡ y → drop (suc i) xs ≡ t → drop i xs ≡ y ∷ t
cell [] i y t lt h e = absurd (omega arith)
cell (x ∷ xs) zero y t lt h e = ap (λ k. k ∷ xs) h ∙ ap (λ (ys : List ℕ). y ∷ ys) e
cell (x ∷ xs) (suc i) y t lt h e = cell xs i y t (omega arith) h e

bytes2 : (bytes : List ℕ) (i : ℕ) (rest : List ℕ) → IsBytes bytes → i + 2 ≤ length bytes → drop (suc (suc i)) bytes ≡ rest
    → drop i bytes ≡ to_be_bytes w16 (number16 bytes i) ++ rest
bytes2 bytes i rest fits long e =
    let at : i + 1 ≡ suc i = omega arith in
    cell bytes i (number16 bytes i / 256 % 256) ((number16 bytes i % 256) ∷ rest) (omega arith) (omega (arith, fits i, fits (i + 1)))
    (cell bytes (suc i) (number16 bytes i % 256) rest (omega arith) (ap (λ k. get_or bytes k 0) (sym at) ∙ omega (arith, fits i, fits (i + 1))) e)

bytes4 : (bytes : List ℕ) (i : ℕ) (rest : List ℕ) → IsBytes bytes → i + 4 ≤ length bytes → drop (suc (suc (suc (suc i)))) bytes ≡ rest
    → drop i bytes ≡ to_be_bytes w32 (number32 bytes i) ++ rest
bytes4 bytes i rest fits long e =
    let a = fits i in
    let b = fits (i + 1) in
    let c = fits (i + 2) in
    let d = fits (i + 2 + 1) in
    let n1 : i + 1 ≡ suc i = omega arith in
    let n2 : i + 2 ≡ suc (suc i) = omega arith in
    let n3 : i + 2 + 1 ≡ suc (suc (suc i)) = omega arith in
    let n : ℕ = number32 bytes i in
    cell bytes i (n / 16777216 % 256) _ (omega arith) (omega (arith, a, b, c, d))
    (cell bytes (suc i) (n / 65536 % 256) _ (omega arith) (ap (λ k. get_or bytes k 0) (sym n1) ∙ omega (arith, a, b, c, d))
    (cell bytes (suc (suc i)) (n / 256 % 256) _ (omega arith) (ap (λ k. get_or bytes k 0) (sym n2) ∙ omega (arith, a, b, c, d))
    (cell bytes (suc (suc (suc i))) (n % 256) rest (omega arith) (ap (λ k. get_or bytes k 0) (sym n3) ∙ omega (arith, a, b, c, d)) e)))

-- what the checks of the header ask
pub record IsHeader (bytes : List ℕ) : Type 0 where
  pub long : 16 ≤ length bytes
  pub words : length bytes ≡ 4 * number16 bytes 2 + 4
  pub version : get_or bytes 0 0 / 64 ≡ 2
  pub format : get_or bytes 0 0 % 32 ≡ 1
  pub kind : get_or bytes 1 0 ≡ 205

as_read : (bytes : List ℕ) → IsBytes bytes → IsHeader bytes
    → bytes ≡ header (get_or bytes 0 0 / 32 % 2) (number16 bytes 2) (number32 bytes 4) (number32 bytes 8) ++ drop 12 bytes
as_read bytes fits h =
    cell bytes 0 (129 + 32 * (get_or bytes 0 0 / 32 % 2)) _ (omega (arith, h.long)) (omega (arith, h.version, h.format, fits 0))
    (cell bytes 1 205 _ (omega (arith, h.long)) h.kind
    (bytes2 bytes 2 _ fits (omega (arith, h.long))
    (bytes4 bytes 4 _ fits (omega (arith, h.long))
    (bytes4 bytes 8 _ fits (omega (arith, h.long)) refl))))

pub header_parts : (bytes : List ℕ) → IsBytes bytes → IsHeader bytes
    → bytes ≡ header (get_or bytes 0 0 / 32 % 2) (length bytes / 4 - 1) (number32 bytes 4) (number32 bytes 8) ++ drop 12 bytes
header_parts bytes fits h =
    let words : number16 bytes 2 ≡ length bytes / 4 - 1 = omega (arith, h.words, fits 2, fits 3) in
    as_read bytes fits h ∙ ap (λ k. header (get_or bytes 0 0 / 32 % 2) k (number32 bytes 4) (number32 bytes 8) ++ drop 12 bytes) words

-- ---- a header that is spelled is read

-- what a header and a body are read as
pub record AreHeaded (bytes body : List ℕ) (bit sender media : ℕ) : Type 0 where
  pub head : IsHeader bytes
  pub bit_is : get_or bytes 0 0 / 32 % 2 ≡ bit
  pub sender_is : number32 bytes 4 ≡ sender
  pub media_is : number32 bytes 8 ≡ media
  pub body_is : drop 12 bytes ≡ body
  pub len : length bytes ≡ 12 + length body

headed : (bit words sender media : ℕ) (body : List ℕ) → bit < 2 → sender < 2 ^ 32 → media < 2 ^ 32 → 4 ≤ length body
    → length (header bit words sender media ++ body) ≡ 4 * words + 4 → words < 65536
    → AreHeaded (header bit words sender media ++ body) body bit sender media
headed bit words sender media body bits s m some len small = record {
  head = record { long = omega (arith, some); words = omega (arith, len); version = omega arith; format = omega arith; kind = refl };
  bit_is = omega arith;
  sender_is = omega arith;
  media_is = omega arith;
  body_is = refl;
  len = omega arith;
}

pub header_again : (bytes body : List ℕ) (bit words sender media : ℕ) → bit < 2 → sender < 2 ^ 32 → media < 2 ^ 32 → 4 ≤ length body
    → length bytes ≡ 4 * words + 4 → words < 65536 → bytes ≡ header bit words sender media ++ body
    → AreHeaded bytes body bit sender media
header_again bytes body bit words sender media bits s m some len small e =
    subst (λ (bs : List ℕ). length bs ≡ 4 * words + 4 → AreHeaded bs body bit sender media) (sym e)
    (λ l. headed bit words sender media body bits s m some l small) len
