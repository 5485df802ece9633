-- What each kind of step makes of a view, and what it tells its caller.
use Rattle.std.specs.Prelude.{◌≡◌, ◌≢◌, ℕ, ◌+◌, ◌%◌, ◌^◌, ◌≤◌, true, false, List, [], ◌∷◌, ◌++◌, Option, Some, None}
use mathlib.Core.Option.{some}
use lib.ListN.{get_elem?}
use Rattle.atomic_table.specs.Table.{Me, rest}
use Rattle.turn_lock.specs.declared.entry.Entry.{Entry}
use Rattle.turn_lock.specs.declared.view.View.{View}
use Rattle.turn_lock.specs.Rule.{by, BeginsWith}

module _ {C R : Type 0} where
  -- nothing is known, and no number is kept: what is left of a view that another took in
  abbrev pub blank : View C R
  blank = record { ticket = None; holds = false; seen = []; heard = []; kept = []; given = 0 }

  -- the first seat, which has given n numbers out: its own is 0
  abbrev pub giver : ℕ → View C R
  giver n = record { ticket = None; holds = false; seen = []; heard = []; kept = (0, []) ∷ []; given = n }

  -- drawn: the ticket is its own
  abbrev pub with_ticket : ℕ → View C R → View C R
  with_ticket t v = record { ticket = Some t; holds = v.holds; seen = v.seen; heard = v.heard; kept = v.kept; given = v.given }

  -- served: it holds the slot, and has seen the whole history
  abbrev pub served : List (Entry C R) → View C R → View C R
  served log v = record { ticket = v.ticket; holds = true; seen = log; heard = v.heard; kept = v.kept; given = v.given }

  -- an entry more for the number that the view has of its own
  abbrev pub add_own : Entry C R → List (ℕ × List (Entry C R)) → List (ℕ × List (Entry C R))
  add_own e [] = []
  add_own e (p ∷ ps) = (p.0, p.1 ++ e ∷ []) ∷ ps

  -- committed: it has seen the entry, which is its own
  abbrev pub adds : Entry C R → View C R → View C R
  adds e v = record { ticket = v.ticket; holds = v.holds; seen = v.seen ++ e ∷ []; heard = v.heard; kept = add_own e v.kept; given = v.given }

  -- passed on: no ticket and no mark
  abbrev pub leaves : View C R → View C R
  leaves v = record { ticket = None; holds = false; seen = v.seen; heard = v.heard; kept = v.kept; given = v.given }

  -- read: it has seen the whole history
  abbrev pub reads : List (Entry C R) → View C R → View C R
  reads log v = record { ticket = v.ticket; holds = v.holds; seen = log; heard = []; kept = v.kept; given = v.given }

  -- split: one number more is given out
  abbrev pub grown : View C R → View C R
  grown v = record { ticket = v.ticket; holds = v.holds; seen = v.seen; heard = v.heard; kept = v.kept; given = v.given + 1 }

  -- the new seat has that number, has seen as much, and has no entries
  abbrev pub newcomer : View C R → View C R
  newcomer v = record { ticket = None; holds = false; seen = v.seen; heard = []; kept = (v.given, []) ∷ []; given = 0 }

  -- a note has seen as much, and has no number
  abbrev pub told : View C R → View C R
  told v = record { ticket = None; holds = false; seen = v.seen; heard = []; kept = []; given = 0 }

  -- joined: it keeps what both keep, and has heard of what the other had seen
  abbrev pub joined : View C R → View C R → View C R
  joined v w = record { ticket = v.ticket; holds = v.holds; seen = v.seen; heard = w.seen; kept = v.kept ++ w.kept; given = 0 }

  -- between calls: no ticket, no mark, no slot
  abbrev pub Idle : {S : Type 0} → Me S (View C R) → Type 0
  Idle m = (m.0.ticket ≡ None) × (m.0.holds ≡ false) × (m.1 ≡ [])

  -- what stands first in kept are the entries under its number
  abbrev pub Owns : List (Entry C R) → List (ℕ × List (Entry C R)) → Type 0
  Owns log [] = Unit {0}
  Owns log (p ∷ ps) = by p.0 log ≡ p.1

-- of a seat, with the slots that are with it
module _ {T C R : Type 0} where
  -- the number that was found is the remainder of the ticket
  abbrev pub draw : Me (Option T) (View C R) → ℕ → Me (Option T) (View C R) → Type 0
  draw m found n = (t : ℕ) × (t % 2 ^ 64 ≡ found) × (n ≡ (with_ticket t m.0, m.1))

module _ {T C R : Type 0} (history : T → List (Entry C R)) (legal : List (Entry C R) → Type 0) where
  -- the slot is with the seat, and the value in it has the history that the seat has seen
  abbrev pub Takes : Me (Option T) (View C R) → Me (Option T) (View C R) → Type 0
  Takes m n =
      (x : T) × (n ≡ (served (history x) m.0, (0, Some x) ∷ m.1))
      × BeginsWith (history x) m.0.seen × legal (history x) × Owns (history x) m.0.kept

  -- where the ticket is served the slot is taken, else nothing changes
  abbrev pub look : Me (Option T) (View C R) → ℕ → Me (Option T) (View C R) → Type 0
  look m found n = (t : ℕ) → m.0.ticket ≡ Some t → (t % 2 ^ 64 ≡ found → Takes m n) × (t % 2 ^ 64 ≢ found → n ≡ m)

-- the value at hand has one entry more than was seen, and that is what was committed
module _ {T C R : Type 0} (history : T → List (Entry C R)) where
  abbrev pub commit : Me (Option T) (View C R) → Me (Option T) (View C R) → Type 0
  commit m n = (x : T) (e : Entry C R) → m.1 ≡ (0, Some x) ∷ [] → history x ≡ m.0.seen ++ e ∷ [] → n ≡ (adds e m.0, m.1)

-- the slot is given back
abbrev pub pass_on : {T C R : Type 0} → Me (Option T) (View C R) → Me (Option T) (View C R) → Type 0
pass_on m n = n ≡ (leaves m.0, rest m.1)

module _ {T C R : Type 0} (legal : List (Entry C R) → Type 0) (board : List (Entry C R) → ℕ) where
  -- the board that was found is that of a legal history, which is seen from now on
  abbrev pub read : Me (Option T) (View C R) → ℕ → Me (Option T) (View C R) → Type 0
  read m found n =
      (log : List (Entry C R)) × (n ≡ (reads log m.0, m.1)) × (found ≡ board log)
      × BeginsWith log m.0.seen × BeginsWith log m.0.heard × legal log × Owns log m.0.kept

-- a seat's view has its number, and keeps its own entries under it
abbrev pub IsNumbered : {C R : Type 0} → ℕ → View C R → Type 0
IsNumbered {C} {R} number v = (mine : List (Entry C R)) × (more : List (ℕ × List (Entry C R))) × (v.kept ≡ (number, mine) ∷ more)

-- of the holder before it commits: the value in its slot has one entry more than it has seen, a
-- legal one under its own number, and b is the board
pub record Settles {T C R : Type 0} (history : T → List (Entry C R)) (legal : List (Entry C R) → Type 0) (board : List (Entry C R) → ℕ) (number b : ℕ) (m : Me (Option T) (View C R)) (x : T) (e : Entry C R) : Type 0 where
  pub with_it : m.1 ≡ (0, Some x) ∷ []
  pub holds : m.0.holds ≡ true
  pub numbered : IsNumbered number m.0
  pub own : e.caller ≡ number
  pub entry : history x ≡ m.0.seen ++ e ∷ []
  pub is_legal : legal (history x)
  pub shown : b ≡ board (history x)

-- of the caller whose ticket is served: the value is in hand, and its history is what the seat has
-- now seen
abbrev pub Claimed : {T C R : Type 0} → (T → List (Entry C R)) → (List (Entry C R) → Type 0) → Me (Option T) (View C R) → T → Me (Option T) (View C R) → Type 0
Claimed history legal m x n =
    (t : ℕ) × (n ≡ (served (history x) (with_ticket t m.0), (0, None) ∷ []))
    × BeginsWith (history x) m.0.seen × legal (history x) × Owns (history x) m.0.kept

-- a note has no ticket, no slot and no number
abbrev pub IsNote : {S C R : Type 0} → Me S (View C R) → Type 0
IsNote m = Idle m × (m.0.kept ≡ [])

-- of the view that took all others in: it has seen a beginning of the history, what it keeps under
-- a number is what the history has of it, and no number from `all` on has an entry
pub record Ends {C R : Type 0} (all : ℕ) (log : List (Entry C R)) (v : View C R) : Type 0 where
  pub seen : BeginsWith log v.seen
  pub kept : (j k : ℕ) (es : List (Entry C R)) → get_elem? v.kept j ≡ some (k, es) → by k log ≡ es
  pub others : (k : ℕ) → all ≤ k → by k log ≡ []

-- another was taken in and the board was read: the history that is seen now begins with what both
-- had seen
abbrev pub Absorbs : {S C R : Type 0} → (List (Entry C R) → Type 0) → Me S (View C R) → Me S (View C R) → Me S (View C R) → Type 0
Absorbs {S} {C} {R} legal m o n =
    (log : List (Entry C R)) × (n ≡ (reads log (joined m.0 o.0), []))
    × BeginsWith log m.0.seen × BeginsWith log o.0.seen × legal log × Owns log (m.0.kept ++ o.0.kept)
