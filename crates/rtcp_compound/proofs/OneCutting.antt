-- Bytes are cut into packets of RTCP in one way.
use Rattle.std.proofs.Common.{◌≡◌, ℕ, ◌+◌, ◌*◌, ◌<◌, List, [], ◌∷◌, ◌++◌, length, take, drop, slice_index, All, refl, ap, sym, ◌∙◌, arith, append_assoc, length-append, length-drop, ◌-◌}
use Rattle.std.proofs.lemmas.List.{get_or_append_left}
use Rattle.std.proofs.lemmas.List.Elements.{All-head, All-tail}
use Rattle.std.proofs.Math.Seq.{drop-append_seam, take-append_seam}
use Rattle.gcc_units.specs.Numbers.{number16}
use Rattle.rtcp_compound.specs.Compound.{IsPacket, joined, ArePackets, BeginsWithNone, FailsAt}

-- how long a packet at the front is, by the bytes alone
len_told : (packet behind : List ℕ) → IsPacket packet → length packet ≡ 4 * number16 (packet ++ behind) 2 + 4
len_told packet behind is =
    let two : slice_index (packet ++ behind) 2 ≡ slice_index packet 2 = get_or_append_left packet behind 0 2 (omega (arith, is.head)) in
    let three : slice_index (packet ++ behind) 3 ≡ slice_index packet 3 = get_or_append_left packet behind 0 3 (omega (arith, is.head)) in
    rw two (rw three is.whole)

same_first : (p q r s : List ℕ) → IsPacket p → IsPacket q → p ++ r ≡ q ++ s → (p ≡ q) × (r ≡ s)
same_first p q r s ip iq e =
    let n : length p ≡ length q = len_told p r ip ∙ ap (λ (xs : List ℕ). 4 * number16 xs 2 + 4) e ∙ sym (len_told q s iq) in (
      sym (take-append_seam p r) ∙ ap (take (length p)) e ∙ ap (λ (k : ℕ). take k (q ++ s)) n ∙ take-append_seam q s,
      sym (drop-append_seam p r) ∙ ap (drop (length p)) e ∙ ap (λ (k : ℕ). drop k (q ++ s)) n ∙ drop-append_seam q s,
    )

-- a packet is never nothing
not_empty : (p r : List ℕ) → IsPacket p → [] ≡ p ++ r → ⊥
not_empty p r is e =
    let n : 0 ≡ length p + length r = ap length e ∙ length-append p r in
    omega (arith, is.head)

same_packets : (a b : List (List ℕ)) → All IsPacket a → All IsPacket b → joined a ≡ joined b → a ≡ b
same_packets [] [] ia ib e = refl
same_packets [] (y ∷ b) ia ib e = absurd (not_empty y (joined b) (All-head IsPacket y b ib) e)
same_packets (x ∷ a) [] ia ib e = absurd (not_empty x (joined a) (All-head IsPacket x a ia) (sym e))
same_packets (x ∷ a) (y ∷ b) ia ib e =
    let first = same_first x y (joined a) (joined b) (All-head IsPacket x a ia) (All-head IsPacket y b ib) e in
    ap (λ (p : List ℕ). p ∷ a) first.0 ∙ ap (λ (ps : List (List ℕ)). y ∷ ps) (same_packets a b (All-tail IsPacket x a ia) (All-tail IsPacket y b ib) first.1)

never : (a b : List (List ℕ)) (rest : List ℕ) → All IsPacket a → All IsPacket b → joined a ≡ joined b ++ rest → BeginsWithNone rest → 0 < length rest → ⊥
never [] b rest ia ib e none some =
    let n : 0 ≡ length (joined b) + length rest = ap length e ∙ length-append (joined b) rest in
    omega arith
never (x ∷ a) [] rest ia ib e none some = none x (joined a) (All-head IsPacket x a ia) (sym e)
never (x ∷ a) (y ∷ b) rest ia ib e none some =
    let first = same_first x y (joined a) (joined b ++ rest) (All-head IsPacket x a ia) (All-head IsPacket y b ib) (e ∙ append_assoc y (joined b) rest) in
    never a b rest (All-tail IsPacket x a ia) (All-tail IsPacket y b ib) first.1 none some

same_place : (a b : List (List ℕ)) (rest other : List ℕ) → All IsPacket a → All IsPacket b → joined a ++ rest ≡ joined b ++ other
    → BeginsWithNone rest → BeginsWithNone other → length (joined a) ≡ length (joined b)
same_place [] [] rest other ia ib e none nor = refl
same_place [] (y ∷ b) rest other ia ib e none nor = absurd (none y (joined b ++ other) (All-head IsPacket y b ib) (e ∙ append_assoc y (joined b) other))
same_place (x ∷ a) [] rest other ia ib e none nor = absurd (nor x (joined a ++ rest) (All-head IsPacket x a ia) (sym e ∙ append_assoc x (joined a) rest))
same_place (x ∷ a) (y ∷ b) rest other ia ib e none nor =
    let first = same_first x y (joined a ++ rest) (joined b ++ other) (All-head IsPacket x a ia) (All-head IsPacket y b ib)
    (sym (append_assoc x (joined a) rest) ∙ e ∙ append_assoc y (joined b) other) in
    let more = same_place a b rest other (All-tail IsPacket x a ia) (All-tail IsPacket y b ib) first.1 none nor in
    length-append x (joined a) ∙ ap (λ (p : List ℕ). length p + length (joined a)) first.0 ∙ ap (λ (n : ℕ). length y + n) more ∙ sym (length-append y (joined b))

-- ---- the laws

pub one_list : (bytes : List ℕ) (a b : List (List ℕ)) → ArePackets a bytes → ArePackets b bytes → a ≡ b
one_list bytes a b is other = same_packets a b is.each other.each (is.whole ∙ sym other.whole)

pub one_place : (bytes : List ℕ) (a b : ℕ) → FailsAt bytes a → FailsAt bytes b → a ≡ b
one_place bytes a b is other =
    is.place_is ∙ same_place is.packets other.packets (drop a bytes) (drop b bytes) is.each other.each (sym is.front ∙ other.front) is.none other.none ∙ sym other.place_is

pub apart : (bytes : List ℕ) (packets : List (List ℕ)) (place : ℕ) → ArePackets packets bytes → FailsAt bytes place → ⊥
apart bytes packets place are fails =
    let left : length (drop place bytes) ≡ length bytes - place = length-drop place bytes in
    never packets fails.packets (drop place bytes) are.each fails.each (are.whole ∙ fails.front) fails.none (omega (arith, left, fails.some))
