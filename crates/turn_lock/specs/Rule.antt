-- What holds of the lock between any two atomic steps. The words of the table are the board, the
-- next ticket and the served ticket, and its one slot is the home of the value. Tickets are counted
-- without bound here, and a word has the count's remainder.
use Rattle.std.specs.Prelude.{◌≡◌, ◌≢◌, ℕ, ◌+◌, ◌%◌, ◌^◌, ◌<◌, ◌≤◌, ◌==◌, true, false, if◌then◌else◌, List, [], ◌∷◌, ◌++◌, length, slice_index, Option, Some, None}
use Rattle.std.specs.List.{filter}
use mathlib.Core.Option.{some}
use lib.ListN.{get_elem?}
use Rattle.atomic_table.specs.Table.{State}
use Rattle.gcc_units.specs.declared.limits.TheConstants.{BOARD_LENGTHS}
use Rattle.turn_lock.specs.declared.entry.Entry.{Entry}
use Rattle.turn_lock.specs.declared.view.View.{View}

-- a sum over all views
abbrev pub total : {A : Type 0} → (A → ℕ) → List A → ℕ
total f [] = 0
total f (x ∷ xs) = f x + total f xs

-- of the places of a list, no two have elements that are related so
abbrev pub NoTwo : {A : Type 0} → (A → A → Type 0) → List A → Type 0
NoTwo {A} Q l = (i j : ℕ) (v w : A) → get_elem? l i ≡ some v → get_elem? l j ≡ some w → Q v w → i ≡ j

-- a ticket waits in the line of `count` tickets that begins with the served one
abbrev pub InLine : ℕ → ℕ → Option ℕ → Type 0
InLine serving count None = Unit {0}
InLine serving count (Some t) = (serving ≤ t) × (t < serving + count)

abbrev pub one_if_some : Option ℕ → ℕ
one_if_some None = 0
one_if_some (Some t) = 1

module _ {C R : Type 0} where
  -- the entries of the caller k, in order
  abbrev pub by : ℕ → List (Entry C R) → List (Entry C R)
  by k log = filter (λ e. e.caller == k) log

  -- the history log begins with seen
  abbrev pub BeginsWith : List (Entry C R) → List (Entry C R) → Type 0
  BeginsWith log seen = (rest : List (Entry C R)) × (log ≡ seen ++ rest)

  -- 1 where the view has a ticket
  abbrev pub waits : View C R → ℕ
  waits v = one_if_some v.ticket

  -- how many numbers the view keeps
  abbrev pub numbers : View C R → ℕ
  numbers v = length v.kept

  -- how often the view keeps the number k
  abbrev pub times : ℕ → View C R → ℕ
  times k v = total (λ p. if p.0 == k then 1 else 0) v.kept

  abbrev pub SameTicket : View C R → View C R → Type 0
  SameTicket v w = (t : ℕ) × (v.ticket ≡ Some t) × (w.ticket ≡ Some t)

  abbrev pub BothGive : View C R → View C R → Type 0
  BothGive v w = (v.given ≢ 0) × (w.given ≢ 0)

  -- legal, with fewer entries than a board can tell apart, whose number the board tells
  abbrev pub Lawful : (List (Entry C R) → Type 0) → (List (Entry C R) → ℕ) → List (Entry C R) → Type 0
  Lawful legal board log = legal log × (length log < BOARD_LENGTHS) × (board log % BOARD_LENGTHS ≡ length log)

-- what holds of one view, where the history is log, `count` views have a ticket and `made` numbers
-- are given out
pub record Fits {C R : Type 0} (legal : List (Entry C R) → Type 0) (log : List (Entry C R)) (serving count made : ℕ) (v : View C R) : Type 0 where
  pub in_line : InLine serving count v.ticket
  pub has_number : waits v ≤ numbers v
  pub served : v.holds ≡ true → (v.ticket ≡ Some serving) × (v.seen ≡ log)
  pub is_legal : legal v.seen
  pub seen : BeginsWith log v.seen
  pub heard : BeginsWith log v.heard
  pub kept : (j k : ℕ) (es : List (Entry C R)) → get_elem? v.kept j ≡ some (k, es) → (by k log ≡ es) × (k < made)
  pub gives : v.given ≢ 0 → v.given ≡ made

-- what holds of all of it: there is one history, of which each view has a part
pub record Kept {T C R : Type 0} (all : ℕ) (history : T → List (Entry C R)) (legal : List (Entry C R) → Type 0) (board : List (Entry C R) → ℕ) (s : State (Option T) (View C R)) : Type 0 where
  pub log : List (Entry C R)
  pub serving : ℕ
  pub made : ℕ
  pub wide : length s.words ≡ 3
  pub shown : slice_index s.words 0 ≡ board log
  pub next : slice_index s.words 1 ≡ (serving + total waits s.views) % 2 ^ 64
  pub now : slice_index s.words 2 ≡ serving % 2 ^ 64
  pub is_legal : legal log
  pub start : legal []
  pub few : (made ≤ all) × (all < 2 ^ 64)
  pub given_out : total numbers s.views ≡ made
  pub once : (k : ℕ) → total (times k) s.views ≤ 1
  pub each : (i : ℕ) (v : View C R) → get_elem? s.views i ≡ some v → Fits legal log serving (total waits s.views) made v
  pub apart : NoTwo SameTicket s.views
  pub one_gives : NoTwo BothGive s.views
  pub unmade : (k : ℕ) → made ≤ k → by k log ≡ []
  pub home : ((i : ℕ) (v : View C R) → get_elem? s.views i ≡ some v → v.holds ≡ false) → (x : T) × (get_elem? s.homes 0 ≡ some (some (Some x))) × (history x ≡ log)
