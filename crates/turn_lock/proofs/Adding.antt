-- The object of the tests after one more entry, and its seats in a row.
use Rattle.std.proofs.Common.{◌≡◌, ℕ, ◌+◌, ◌*◌, ◌%◌, ◌<◌, ◌≤◌, List, [], ◌∷◌, ◌++◌, length, set, get_or, sym, ap, subst, ◌∙◌, arith, length-append}
use Rattle.gcc_units.specs.declared.limits.TheConstants.{BOARD_LENGTHS}
use Rattle.turn_lock.specs.declared.entry.Entry.{Entry}
use Rattle.turn_lock.specs.Seats.{TableId, SeatIs}
use Rattle.turn_lock.specs.Names.{names, all_names}
use Rattle.turn_lock.proofs.Names.{all_of_turn, count_of_turn, name_stays}
use Rattle.turn_lock.specs.Adding.{total_of, IsAdding}

total_more : (h : List (Entry ℕ ℕ)) (e : Entry ℕ ℕ) → total_of (h ++ e ∷ []) ≡ total_of h + e.call
total_more [] e = omega arith
total_more (d ∷ h) e = let r = total_more h e in omega arith

adding_more : (t : ℕ) (h : List (Entry ℕ ℕ)) (e : Entry ℕ ℕ) → IsAdding t h → e.call % 2 ≡ 0 → e.reply ≡ t + total_of h + e.call → IsAdding t (h ++ e ∷ [])
adding_more t [] e a even r = (even, (let z : t + 0 ≡ t = omega arith in r ∙ ap (λ n. n + e.call) z), tt)
adding_more t (d ∷ h) e a even r = (a.0, a.1, adding_more (t + d.call) h e a.2 even (omega arith))

abbrev pub Sound : ℕ → List (Entry ℕ ℕ) → Type 0
Sound total h = IsAdding 0 h × (total ≡ total_of h) × (total ≤ 1000 * length h) × (length h < BOARD_LENGTHS)

pub adds_entry : (total n : ℕ) (h new : List (Entry ℕ ℕ)) (e : Entry ℕ ℕ) → new ≡ h ++ e ∷ [] → Sound total h → e.call % 2 ≡ 0 → e.call ≤ 1000 → n ≡ e.call → e.reply ≡ total + n → length h + 1 < BOARD_LENGTHS → Sound (total + n) new
adds_entry total n h new e is s even small same reply room =
    let t = total_more h e in
    let l = length-append h (e ∷ []) in
    let q = s.1 in
    subst (Sound (total + n)) (sym is) (adding_more 0 h e s.0 even (omega arith), omega arith, (let b = s.2 in omega arith), omega arith)

pub within_turn : (of : TableId) (n k len : ℕ) (seats : List (SeatIs ℕ ℕ)) → names seats ≡ all_names of n → len ≡ length seats → k < n → k < len
within_turn of n k len seats e l below = let c = count_of_turn of n seats e in omega arith

pub of_turn_at : (of : TableId) (n k : ℕ) (seats : List (SeatIs ℕ ℕ)) (s : SeatIs ℕ ℕ) → names seats ≡ all_names of n → k < n → s ≡ get_or seats k s → s.of ≡ of
of_turn_at of n k seats s e below at = let c = count_of_turn of n seats e in ap (λ (x : SeatIs ℕ ℕ). x.of) at ∙ all_of_turn of n seats e k s (omega arith)

-- the names of all, after one seat changed and kept its name
pub names_kept : (of : TableId) (n k : ℕ) (seats : List (SeatIs ℕ ℕ)) (old new : SeatIs ℕ ℕ) → names seats ≡ all_names of n → k < n → old ≡ get_or seats k old → new.of ≡ old.of → new.number ≡ old.number → names (set seats k new) ≡ names seats
names_kept of n k seats old new e below at p q = let c = count_of_turn of n seats e in name_stays seats k old new (omega arith) at p q
