-- The twenty bytes of the header.
use Rattle.std.proofs.Common.{◌≡◌, ◌≢◌, ℕ, ℤ, pos, negsuc, zero, suc, ◌+◌, ◌-◌, ◌*◌, ◌/◌, ◌%◌, ◌<◌, ◌≤◌, ◌≤ℤ◌, ◌<ℤ◌, ◌-ℤ◌, inl, inr, List, [], ◌∷◌, ◌++◌, length, drop, get_or, refl, sym, ap, subst, ◌∙◌, arith, w16, w32}
use Rattle.std.specs.Int.{to_be_bytes, cast_unsigned}
use Rattle.std.proofs.lemmas.Int.{ints}
use Rattle.std.proofs.lemmas.Bool.{cases_lt, lt-ltb, le-ltb}
use Rattle.twcc_report.specs.declared.report.Status.{Status}
use Rattle.std.specs.List.{AllByRecursion}
use Rattle.gcc_units.specs.Numbers.{number16, number32}
use Rattle.twcc_report.specs.Spelling.{Feedback, Fits, StatusFits, twos_complement24, low24, header}
use Rattle.twcc_report.proofs.Chunking.{IsBytes}

-- the report that the header and the statuses make
abbrev pub made : List ℕ → List Status → Feedback
made bytes statuses = record {
  sender = number32 bytes 4;
  media = number32 bytes 8;
  base = number16 bytes 12;
  reference = twos_complement24 (get_or bytes 16 0 * 65536 + number16 bytes 17);
  feedback = get_or bytes 19 0;
  statuses = statuses;
}

-- a cell of a list
cell : (xs : List ℕ) (i y : ℕ) (t : List ℕ) → i < length xs → get_or xs i 0 ≡ y → drop (suc i) xs ≡ t → drop i xs ≡ y ∷ t
cell [] i y t lt h e = absurd (omega arith)
cell (x ∷ xs) zero y t lt h e = ap (λ k. k ∷ xs) h ∙ ap (λ (ys : List ℕ). y ∷ ys) e
cell (x ∷ xs) (suc i) y t lt h e = cell xs i y t (omega arith) h e

-- ---- the reference

same_low24 : (m n : ℕ) → m / 65536 % 256 ≡ n / 65536 % 256 → m / 256 % 256 ≡ n / 256 % 256 → m % 256 ≡ n % 256 → low24 m ≡ low24 n
same_low24 m n a b c =
    ap (λ k. k ∷ (m / 256 % 256) ∷ (m % 256) ∷ []) a ∙ ap (λ k. (n / 65536 % 256) ∷ k ∷ (m % 256) ∷ []) b ∙ ap (λ k. (n / 65536 % 256) ∷ (n / 256 % 256) ∷ k ∷ []) c

pub low24_again : (n : ℕ) → n < 16777216 → low24 (cast_unsigned w32 (twos_complement24 n)) ≡ low24 n
low24_again n h = elim (cases_lt n 8388608) [
  | inl low ↦ rw (lt-ltb n 8388608 low) refl
  | inr high ↦
      let k : cast_unsigned w32 (pos n -ℤ pos 16777216) ≡ 4278190080 + n = omega (arith, ints) in
      rw (le-ltb n 8388608 high) (ap low24 k ∙ same_low24 (4278190080 + n) n (omega arith) (omega arith) (omega arith))
]

pub reference_bounds : (n : ℕ) → n < 16777216 → (negsuc 8388607 ≤ℤ twos_complement24 n) × (twos_complement24 n <ℤ pos 8388608)
reference_bounds n h = elim (cases_lt n 8388608) [
  | inl low ↦ rw (lt-ltb n 8388608 low) (omega (arith, ints), omega (arith, ints))
  | inr high ↦ rw (le-ltb n 8388608 high) (omega (arith, ints), omega (arith, ints))
]

word24 : (n : ℕ) → n / 65536 % 256 * 65536 + (n / 256 % 256 * 256 + n % 256) ≡ n % 16777216
word24 n = omega arith

-- the reference that its 24 bits spell
pub reference_again : (z : ℤ) → negsuc 8388607 ≤ℤ z → z <ℤ pos 8388608
    → twos_complement24 (cast_unsigned w32 z / 65536 % 256 * 65536 + (cast_unsigned w32 z / 256 % 256 * 256 + cast_unsigned w32 z % 256)) ≡ z
reference_again (pos n) low high =
    let small : n < 8388608 = omega (arith, ints) in
    let same : n % 16777216 ≡ n = omega arith in
    ap twos_complement24 (word24 n ∙ same) ∙ rw (lt-ltb n 8388608 small) refl
reference_again (negsuc n) low high =
    let small : n < 8388608 = omega (arith, ints) in
    let k : cast_unsigned w32 (negsuc n) ≡ 4294967296 - suc n = refl in
    let same : (4294967296 - suc n) % 16777216 ≡ 16777216 - suc n = omega arith in
    let big : 8388608 ≤ 16777216 - suc n = omega arith in
    let back : pos (16777216 - suc n) -ℤ pos 16777216 ≡ negsuc n = omega (arith, ints) in
    ap twos_complement24 (word24 (4294967296 - suc n) ∙ same) ∙ rw (le-ltb (16777216 - suc n) 8388608 big) back

-- ---- the bytes

bytes2 : (bytes : List ℕ) (i : ℕ) (rest : List ℕ) → IsBytes bytes → i + 2 ≤ length bytes → drop (suc (suc i)) bytes ≡ rest
    → drop i bytes ≡ to_be_bytes w16 (number16 bytes i) ++ rest
bytes2 bytes i rest fits long e =
    let at : i + 1 ≡ suc i = omega arith in
    cell bytes i (number16 bytes i / 256 % 256) ((number16 bytes i % 256) ∷ rest) (omega arith) (omega (arith, fits i, fits (i + 1)))
    (cell bytes (suc i) (number16 bytes i % 256) rest (omega arith) (ap (λ k. get_or bytes k 0) (sym at) ∙ omega (arith, fits i, fits (i + 1))) e)

bytes4 : (bytes : List ℕ) (i : ℕ) (rest : List ℕ) → IsBytes bytes → i + 4 ≤ length bytes → drop (suc (suc (suc (suc i)))) bytes ≡ rest
    → drop i bytes ≡ to_be_bytes w32 (number32 bytes i) ++ rest
bytes4 bytes i rest fits long e =
    let a = fits i in
    let b = fits (i + 1) in
    let c = fits (i + 2) in
    let d = fits (i + 2 + 1) in
    let n1 : i + 1 ≡ suc i = omega arith in
    let n2 : i + 2 ≡ suc (suc i) = omega arith in
    let n3 : i + 2 + 1 ≡ suc (suc (suc i)) = omega arith in
    let n : ℕ = number32 bytes i in
    cell bytes i (n / 16777216 % 256) _ (omega arith) (omega (arith, a, b, c, d))
    (cell bytes (suc i) (n / 65536 % 256) _ (omega arith) (ap (λ k. get_or bytes k 0) (sym n1) ∙ omega (arith, a, b, c, d))
    (cell bytes (suc (suc i)) (n / 256 % 256) _ (omega arith) (ap (λ k. get_or bytes k 0) (sym n2) ∙ omega (arith, a, b, c, d))
    (cell bytes (suc (suc (suc i))) (n % 256) rest (omega arith) (ap (λ k. get_or bytes k 0) (sym n3) ∙ omega (arith, a, b, c, d)) e)))

-- what the checks of the header ask
pub record IsHeader (bytes : List ℕ) (count : ℕ) : Type 0 where
  pub long : 20 ≤ length bytes
  pub words : length bytes ≡ 4 * number16 bytes 2 + 4
  pub version : get_or bytes 0 0 / 64 ≡ 2
  pub format : get_or bytes 0 0 % 32 ≡ 15
  pub kind : get_or bytes 1 0 ≡ 205
  pub some : number16 bytes 14 ≢ 0
  pub count_is : count ≡ number16 bytes 14

-- a header by its length, its status count and the bytes of its reference
abbrev header_of : List ℕ → ℕ → ℕ → List ℕ → List ℕ
header_of bytes words count reference =
    (143 + 32 * (get_or bytes 0 0 / 32 % 2)) ∷ 205 ∷ to_be_bytes w16 words ++ to_be_bytes w32 (number32 bytes 4) ++ to_be_bytes w32 (number32 bytes 8)
    ++ to_be_bytes w16 (number16 bytes 12) ++ to_be_bytes w16 count ++ reference ++ (get_or bytes 19 0) ∷ []

as_read : (bytes : List ℕ) (count bits : ℕ) → IsBytes bytes → IsHeader bytes count → bits ≡ get_or bytes 16 0 * 65536 + number16 bytes 17
    → bytes ≡ header_of bytes (number16 bytes 2) (number16 bytes 14) (low24 bits) ++ drop 20 bytes
as_read bytes count bits fits h e =
    cell bytes 0 (143 + 32 * (get_or bytes 0 0 / 32 % 2)) _ (omega (arith, h.long)) (omega (arith, h.version, h.format, fits 0))
    (cell bytes 1 205 _ (omega (arith, h.long)) h.kind
    (bytes2 bytes 2 _ fits (omega (arith, h.long))
    (bytes4 bytes 4 _ fits (omega (arith, h.long))
    (bytes4 bytes 8 _ fits (omega (arith, h.long))
    (bytes2 bytes 12 _ fits (omega (arith, h.long))
    (bytes2 bytes 14 _ fits (omega (arith, h.long))
    (cell bytes 16 (bits / 65536 % 256) _ (omega (arith, h.long)) (omega (arith, e, fits 16, fits 17, fits 18))
    (cell bytes 17 (bits / 256 % 256) _ (omega (arith, h.long)) (omega (arith, e, fits 16, fits 17, fits 18))
    (cell bytes 18 (bits % 256) _ (omega (arith, h.long)) (omega (arith, e, fits 16, fits 17, fits 18))
    (cell bytes 19 (get_or bytes 19 0) (drop 20 bytes) (omega (arith, h.long)) refl refl))))))))))

pub header_parts : (bytes : List ℕ) (statuses : List Status) → IsBytes bytes → IsHeader bytes (length statuses)
    → bytes ≡ header (get_or bytes 0 0 / 32 % 2) (length bytes / 4 - 1) (made bytes statuses) ++ drop 20 bytes
header_parts bytes statuses fits h =
    let bits : ℕ = get_or bytes 16 0 * 65536 + number16 bytes 17 in
    let small : bits < 16777216 = omega (arith, fits 16, fits 17, fits 18) in
    let words : number16 bytes 2 ≡ length bytes / 4 - 1 = omega (arith, h.words, fits 2, fits 3) in
    as_read bytes (length statuses) bits fits h refl
    ∙ ap (λ k. header_of bytes k (number16 bytes 14) (low24 bits) ++ drop 20 bytes) words
    ∙ ap (λ k. header_of bytes (length bytes / 4 - 1) k (low24 bits) ++ drop 20 bytes) (sym h.count_is)
    ∙ ap (λ (xs : List ℕ). header_of bytes (length bytes / 4 - 1) (length statuses) xs ++ drop 20 bytes) (sym (low24_again bits small))

pub made_fits : (bytes : List ℕ) (statuses : List Status) → IsBytes bytes → IsHeader bytes (length statuses) → AllByRecursion StatusFits statuses → Fits (made bytes statuses)
made_fits bytes statuses fits h each =
    let small : get_or bytes 16 0 * 65536 + number16 bytes 17 < 16777216 = omega (arith, fits 16, fits 17, fits 18) in
    let b = reference_bounds (get_or bytes 16 0 * 65536 + number16 bytes 17) small in
    record {
      sender = omega (arith, fits 4, fits 5, fits 6, fits 7);
      media = omega (arith, fits 8, fits 9, fits 10, fits 11);
      base = omega (arith, fits 12, fits 13);
      low = b.0;
      high = b.1;
      feedback = fits 19;
      some = omega (arith, h.some, h.count_is);
      few = omega (arith, h.count_is, fits 14, fits 15);
      statuses = each;
    }

abbrev of_fields : ℕ → ℕ → ℕ → ℤ → ℕ → List Status → Feedback
of_fields s m b r k ss = record { sender = s; media = m; base = b; reference = r; feedback = k; statuses = ss }

same_report : (f g : Feedback) → f.sender ≡ g.sender → f.media ≡ g.media → f.base ≡ g.base → f.reference ≡ g.reference
    → f.feedback ≡ g.feedback → f.statuses ≡ g.statuses → f ≡ g
same_report f g a b c d e h =
    ap (λ x. of_fields x f.media f.base f.reference f.feedback f.statuses) a
    ∙ ap (λ x. of_fields g.sender x f.base f.reference f.feedback f.statuses) b
    ∙ ap (λ x. of_fields g.sender g.media x f.reference f.feedback f.statuses) c
    ∙ ap (λ x. of_fields g.sender g.media g.base x f.feedback f.statuses) d
    ∙ ap (λ x. of_fields g.sender g.media g.base g.reference x f.statuses) e
    ∙ ap (λ (x : List Status). of_fields g.sender g.media g.base g.reference g.feedback x) h

-- ---- a header that is spelled is read

is_header : (bit words : ℕ) (f : Feedback) (body : List ℕ) → bit < 2 → Fits f → length (header bit words f ++ body) ≡ 4 * words + 4 → words < 65536
    → IsHeader (header bit words f ++ body) (length f.statuses)
is_header bit words f body bits fits len small = record {
  long = omega arith;
  words = omega (arith, len);
  version = omega arith;
  format = omega arith;
  kind = refl;
  some = λ none. omega (arith, fits.some, fits.few, none);
  count_is = omega (arith, fits.few);
}

same_made : (bit words : ℕ) (f : Feedback) (body : List ℕ) → bit < 2 → Fits f → made (header bit words f ++ body) f.statuses ≡ f
same_made bit words f body bits fits =
    let s : number32 (header bit words f ++ body) 4 ≡ f.sender = omega (arith, fits.sender) in
    let m : number32 (header bit words f ++ body) 8 ≡ f.media = omega (arith, fits.media) in
    let b : number16 (header bit words f ++ body) 12 ≡ f.base = omega (arith, fits.base) in
    let r : (made (header bit words f ++ body) f.statuses).reference ≡ f.reference = reference_again f.reference fits.low fits.high in
    same_report (made (header bit words f ++ body) f.statuses) f s m b r refl refl

pub header_again : (bytes body : List ℕ) (bit words : ℕ) (f : Feedback) → bit < 2 → Fits f → length bytes ≡ 4 * words + 4 → words < 65536 → bytes ≡ header bit words f ++ body
    → IsHeader bytes (length f.statuses) × (made bytes f.statuses ≡ f) × (get_or bytes 0 0 / 32 % 2 ≡ bit) × (drop 20 bytes ≡ body)
header_again bytes body bit words f bits fits len small e =
    subst (λ (bs : List ℕ). length bs ≡ 4 * words + 4 → IsHeader bs (length f.statuses) × (made bs f.statuses ≡ f) × (get_or bs 0 0 / 32 % 2 ≡ bit) × (drop 20 bs ≡ body)) (sym e)
    (λ l. (is_header bit words f body bits fits l small, same_made bit words f body bits fits, omega arith, refl)) len
