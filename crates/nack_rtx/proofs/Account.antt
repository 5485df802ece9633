-- The account, one packet or one number more.
use Rattle.std.proofs.Common.{◌≡◌, ℕ, zero, suc, ◌+◌, ◌-◌, ◌<◌, ◌≤◌, ◌==◌, inl, inr, Bool, true, false, cond, List, [], ◌∷◌, ◌++◌, length, drop, get_or, Option, Some, None, refl, sym, ap, subst, ◌∙◌, arith, length-append, length-drop, get_or-drop}
use Rattle.std.specs.Prelude.{slice_get, slice_index_or}
use Rattle.std.proofs.lemmas.List.{drop-append-le}
use Rattle.std.proofs.lemmas.Option.{slice_get-get_or}
use Rattle.std.proofs.lemmas.Bool.{cases_lt, lt-ltb, le-ltb, le-leb, lt-leb}
use Rattle.rtp_wire.specs.Place.{field16}
use Rattle.circular_buffer.specs.Buffer.{keep_last}
use Rattle.nack_rtx.specs.declared.TheConstants.{MOST_STORED}
use Rattle.nack_rtx.specs.declared.resender.RtxSettings.{RtxSettings}
use Rattle.nack_rtx.specs.declared.resender.Verdict.{Verdict}
use Rattle.nack_rtx.specs.declared.resender.Verdict.TheVariants.{Unknown, Spent, Again}
use Rattle.nack_rtx.specs.Resending.{Account, or_else, last_from, if_newest, stored, verdict_on, verdict}
use Rattle.nack_rtx.specs.Held.{Held}
use Rattle.nack_rtx.specs.Keeping.{Keeps, not_before, found}

-- ---- the newest of a list

drop_none : {X : Type 0} (m : ℕ) → drop {A = X} m [] ≡ []
drop_none zero = refl
drop_none (suc m) = refl

drop_twice : {X : Type 0} (m n : ℕ) (xs : List X) → drop n (drop m xs) ≡ drop (m + n) xs
drop_twice zero n xs = let e : n ≡ 0 + n = omega arith in ap (λ k. drop k xs) e
drop_twice (suc m) n [] = drop_none n ∙ sym (drop_none (suc m + n))
drop_twice (suc m) n (x ∷ xs) = let e : suc (m + n) ≡ suc m + n = omega arith in drop_twice m n xs ∙ ap (λ k. drop k (x ∷ xs)) e

-- one more at the end of the newest
pub newest-push : {X : Type 0} (n : ℕ) (xs : List X) (x : X) → keep_last n (keep_last n xs ++ x ∷ []) ≡ keep_last n (xs ++ x ∷ [])
newest-push {X} n xs x =
    let g : ℕ = length xs - n in
    let ys : List X = xs ++ x ∷ [] in
    let inside : g ≤ length xs = omega arith in
    let same : drop g xs ++ x ∷ [] ≡ drop g ys = sym (drop-append-le g xs (x ∷ []) inside) in
    let len : length ys ≡ length xs + 1 = length-append xs (x ∷ []) in
    let end : g + (length ys - g - n) ≡ length ys - n = omega (arith, len) in
    ap (λ (zs : List X). drop (length zs - n) zs) same
    ∙ ap (λ k. drop (k - n) (drop g ys)) (length-drop g ys)
    ∙ drop_twice g (length ys - g - n) ys
    ∙ ap (λ k. drop k ys) end

-- what stands at a place of the newest
pub newest-get : {X : Type 0} (n : ℕ) (xs : List X) (place : ℕ) (d : X) → place < length xs → length xs - n ≤ place
    → slice_get (keep_last n xs) (place - (length xs - n)) ≡ Some (get_or xs place d)
newest-get n xs place d lt le =
    let g : ℕ = length xs - n in
    let at : g + (place - g) ≡ place = omega arith in
    let len : place - g < length (drop g xs) = omega (arith, length-drop g xs) in
    slice_get-get_or (drop g xs) (place - g) d len ∙ ap Some (get_or-drop g xs (place - g) d ∙ ap (λ k. get_or xs k d) at)

-- ---- the last packet with a number

or_if : (b : Bool) (m : ℕ) (x y : Option ℕ) → or_else (cond b (Some m) y) x ≡ cond b (Some m) (or_else y x)
or_if true m x y = refl
or_if false m x y = refl

pub last-push : (seq at : ℕ) (packets : List (List ℕ)) (p : List ℕ)
    → last_from seq at (packets ++ p ∷ []) ≡ cond (field16 2 p == seq) (Some (at + length packets)) (last_from seq at packets)
last-push seq at [] p = let e : at ≡ at + 0 = omega arith in ap (λ k. cond (field16 2 p == seq) (Some k) None) e
last-push seq at (q ∷ qs) p =
    let e : at + 1 + length qs ≡ at + suc (length qs) = omega arith in
    ap (λ o. or_else o (cond (field16 2 q == seq) (Some at) None)) (last-push seq (at + 1) qs p)
    ∙ or_if (field16 2 p == seq) (at + 1 + length qs) (cond (field16 2 q == seq) (Some at) None) (last_from seq (at + 1) qs)
    ∙ ap (λ k. cond (field16 2 p == seq) (Some k) (or_else (last_from seq (at + 1) qs) (cond (field16 2 q == seq) (Some at) None))) e

-- a place that is found is one of these
abbrev pub IsWithin : ℕ → ℕ → Option ℕ → Type 0
IsWithin low high None = Unit {0}
IsWithin low high (Some place) = (low ≤ place) × (place < high)

within_or : (low high : ℕ) (o : Option ℕ) (b : Bool) → low < high → IsWithin (low + 1) high o → IsWithin low high (or_else o (cond b (Some low) None))
within_or low high None true lt w = (omega arith, lt)
within_or low high None false lt w = tt
within_or low high (Some place) b lt w = (omega (arith, w.0), w.1)

pub last_within : (seq at : ℕ) (packets : List (List ℕ)) → IsWithin at (at + length packets) (last_from seq at packets)
last_within seq at [] = tt
last_within seq at (q ∷ qs) =
    let e : at + 1 + length qs ≡ at + suc (length qs) = omega arith in
    within_or at (at + suc (length qs)) (last_from seq (at + 1) qs) (field16 2 q == seq) (omega arith)
    (subst (λ k. IsWithin (at + 1) k (last_from seq (at + 1) qs)) e (last_within seq (at + 1) qs))

pub newest_place : (count : ℕ) (o : Option ℕ) → not_before (count - MOST_STORED) o ≡ if_newest count o
newest_place count None = refl
newest_place count (Some place) = elim (cases_lt place (count - MOST_STORED)) [
  | inl lt ↦ let past : place + MOST_STORED < count = omega arith in rw (lt-ltb place (count - MOST_STORED) lt, lt-leb count (place + MOST_STORED) past) refl
  | inr ge ↦ let near : count ≤ place + MOST_STORED = omega arith in rw (le-ltb place (count - MOST_STORED) ge, le-leb count (place + MOST_STORED) near) refl
]

pub found_is : (h : Held) (a : Account) (seq : ℕ) → Keeps h a → seq < 65536 → found h seq ≡ stored a.packets seq
found_is h a seq keep lt =
    ap (λ k. not_before (k - MOST_STORED) (slice_index_or h.places seq None)) keep.kept
    ∙ ap (not_before (length a.packets - MOST_STORED)) (keep.places seq lt)
    ∙ newest_place (length a.packets) (last_from seq 0 a.packets)

-- a stored place is that of a packet, and one of the newest
abbrev pub IsStored : ℕ → Option ℕ → Type 0
IsStored count None = Unit {0}
IsStored count (Some place) = (place < count) × (count ≤ place + MOST_STORED)

newest_is : (count : ℕ) (o : Option ℕ) → IsWithin 0 count o → IsStored count (if_newest count o)
newest_is count None w = tt
newest_is count (Some place) w = elim (cases_lt (place + MOST_STORED) count) [
  | inl lt ↦ rw (lt-leb count (place + MOST_STORED) lt) tt
  | inr le ↦ rw (le-leb count (place + MOST_STORED) le) (w.1, le)
]

pub stored_is : (packets : List (List ℕ)) (seq : ℕ) → IsStored (length packets) (stored packets seq)
stored_is packets seq =
    let all : 0 + length packets ≡ length packets = omega arith in
    newest_is (length packets) (last_from seq 0 packets) (subst (λ k. IsWithin 0 k (last_from seq 0 packets)) all (last_within seq 0 packets))

-- ---- a verdict

abbrev pub Counts : Account → Verdict → Type 0
Counts a Unknown = Unit {0}
Counts a Spent = Unit {0}
Counts a (Again place times resend) = (place < length a.packets) × (length a.packets ≤ place + MOST_STORED) × (times ≡ get_or a.resent place 0 + 1)

counts_on : (s : RtxSettings) (a : Account) (seq : ℕ) (o : Option ℕ) → IsStored (length a.packets) o → Counts a (verdict_on s a seq o)
counts_on s a seq None is = tt
counts_on s a seq (Some place) is = elim (cases_lt (get_or a.resent place 0) s.repeats) [
  | inl lt ↦ rw (lt-ltb (get_or a.resent place 0) s.repeats lt) (is.0, is.1, refl)
  | inr le ↦ rw (le-ltb (get_or a.resent place 0) s.repeats le) tt
]

counts_if : (s : RtxSettings) (a : Account) (seq : ℕ) (b : Bool) → Counts a (cond b (verdict_on s a seq (stored a.packets seq)) Unknown)
counts_if s a seq true = counts_on s a seq (stored a.packets seq) (stored_is a.packets seq)
counts_if s a seq false = tt

pub verdict_counts : (s : RtxSettings) (media : ℕ) (a : Account) (seq : ℕ) → Counts a (verdict s media a seq)
verdict_counts s media a seq = counts_if s a seq (media == s.media)
