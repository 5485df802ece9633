-- Bytes are whole lines, each with its line feed, and a rest without one.
use Rattle.std.proofs.Common.{◌≡◌, ℕ, suc, ◌+◌, ◌<◌, ◌≤◌, false, List, [], ◌∷◌, ◌++◌, length, get_or, take, drop, refl, ap, ◌∙◌, arith}
use Rattle.std.specs.List.{position_or_len, before_first, after_first}
use Rattle.std.proofs.lemmas.Bool.{eqb-true}
use Rattle.std.proofs.lemmas.List.{get_or-take, length-take}
use Rattle.std.proofs.lemmas.List.Sums.{split_at_first, fails_before_first, passes_at_first}
use Rattle.call_trace.specs.Fields.{is_byte, is_feed, lines_of}

-- none of the bytes is this one
abbrev pub Lacks : ℕ → List ℕ → Type 0
Lacks mark [] = Unit {0}
Lacks mark (x ∷ xs) = (is_byte mark x ≡ false) × Lacks mark xs

pub Lacks-from_each : (mark : ℕ) (xs : List ℕ) → ((k : ℕ) → k < length xs → is_byte mark (get_or xs k 0) ≡ false) → Lacks mark xs
Lacks-from_each mark [] each = tt
Lacks-from_each mark (x ∷ xs) each = (each 0 (omega arith), Lacks-from_each mark xs (λ k lt. each (suc k) (omega arith)))

pub Lacks-before_first : (mark : ℕ) (bytes : List ℕ) → Lacks mark (before_first (is_byte mark) bytes)
Lacks-before_first mark bytes = Lacks-from_each mark (before_first (is_byte mark) bytes) (λ k lt.
    let short : k < position_or_len (is_byte mark) bytes = omega (arith, length-take (position_or_len (is_byte mark) bytes) bytes) in
    rw (get_or-take (position_or_len (is_byte mark) bytes) bytes k 0 short) (fails_before_first (is_byte mark) bytes k 0 short))

-- a line is the bytes before the first line feed
pub line_first : (xs ys : List ℕ) → Lacks 10 xs → lines_of (xs ++ 10 ∷ ys) ≡ record { whole = xs ∷ (lines_of ys).whole; rest = (lines_of ys).rest }
unfolding lines_of
line_first [] ys lacks = refl
line_first (x ∷ xs) ys lacks = rw (lacks.0, line_first xs ys lacks.1) refl

-- bytes without a line feed are no whole line
pub no_line : (bytes : List ℕ) → Lacks 10 bytes → lines_of bytes ≡ record { whole = []; rest = bytes }
unfolding lines_of
no_line [] lacks = refl
no_line (b ∷ bytes) lacks = rw (lacks.0, no_line bytes lacks.1) refl

-- the first line feed ends the first line
pub line_at : (bytes : List ℕ) (feed : ℕ) → feed ≡ position_or_len is_feed bytes → feed < length bytes
    → lines_of bytes ≡ record { whole = take feed bytes ∷ (lines_of (drop (feed + 1) bytes)).whole; rest = (lines_of (drop (feed + 1) bytes)).rest }
line_at bytes feed is lt =
    let inside : position_or_len is_feed bytes < length bytes = omega arith in
    let byte : get_or bytes (position_or_len is_feed bytes) 0 ≡ 10 = eqb-true _ _ (passes_at_first is_feed bytes 0 inside) in
    let cut : bytes ≡ before_first is_feed bytes ++ 10 ∷ after_first is_feed bytes = rw byte at (split_at_first is_feed bytes 0 inside) in
    rw is (ap lines_of cut ∙ line_first (before_first is_feed bytes) (after_first is_feed bytes) (Lacks-before_first 10 bytes))

pub none_at : (bytes : List ℕ) (feed : ℕ) → feed ≡ position_or_len is_feed bytes → length bytes ≤ feed → lines_of bytes ≡ record { whole = []; rest = bytes }
none_at bytes feed is le =
    no_line bytes (Lacks-from_each 10 bytes (λ k lt. fails_before_first is_feed bytes k 0 (omega arith)))
