-- Loss windows, from the list of all reports.
use Rattle.std.specs.Prelude.{ℕ, ◌≡◌, ◌≤◌, ◌+◌, Bool, nat_le, if◌then◌else◌, List, [], ◌∷◌, ◌++◌, filter, sum_by, Some}
use Rattle.level_control.specs.declared.state.Report.{Report}
use Rattle.level_control.specs.declared.state.Losses.{Losses}
use Rattle.level_control.specs.declared.state.State.{State}
use Rattle.level_control.specs.declared.losses.TheConstants.{LOSS_PERIOD, FEWEST_PACKETS}
use Rattle.level_control.specs.Losses.{after_losses}
use Rattle.level_control.specs.Given.{Given, reported, setting, given_to, after_all}
use Rattle.level_control.specs.Rule.{started}

-- a report, and whether its losses led to a cut
pub record Told : Type 0 where
  pub report : Report
  pub lossy : Bool

abbrev pub told_in : State → Given → List Told
told_in s (reported x results waits bounds) = record { report = x; lossy = (after_losses s x).lossy } ∷ []
told_in s (setting start bounds) = []

abbrev pub told_from : State → List Given → List Told
told_from s [] = []
told_from s (g ∷ given) = told_in s g ++ told_from (given_to s g) given

abbrev pub told : ℕ → List Given → List Told
told start given = told_from (started start) given

-- what was counted since a moment
abbrev pub counting : ℕ → List Told → List Told
counting since xs = filter (λ (x : Told). nat_le since x.report.now) xs

abbrev pub received_in : ℕ → List Told → ℕ
received_in since xs = sum_by (λ (x : Told). x.report.received) (counting since xs)

abbrev pub missing_in : ℕ → List Told → ℕ
missing_in since xs = sum_by (λ (x : Told). x.report.missing) (counting since xs)

-- Reports that end with this one fill a window: it comes a period after the window began, and enough is counted.
pub record Fills (since : ℕ) (before : List Told) (x : Told) : Type 0 where
  pub period : since + LOSS_PERIOD ≤ x.report.now
  pub packets : FEWEST_PACKETS ≤ received_in since (before ++ x ∷ []) + missing_in since (before ++ x ∷ [])

-- when the next window begins
abbrev pub next_since : Told → ℕ
next_since x = if x.lossy then x.report.now + x.report.rtt else x.report.now

-- none of the reports, in turn, fills the window that those before it began
abbrev pub StaysOpen : ℕ → List Told → List Told → Type 0
StaysOpen since before [] = Unit {0}
StaysOpen since before (x ∷ more) = (Fills since before x → ⊥) × StaysOpen since (before ++ x ∷ []) more

-- a window that is full: its reports, and the one that filled it
pub record Window : Type 0 where
  pub before : List Told
  pub end : Told

-- The reports from a window's beginning on are these windows, each the shortest that it can be, and an open one.
abbrev pub AreWindows : ℕ → List Window → List Told → List Told → Type 0
AreWindows since [] current xs = (xs ≡ current) × StaysOpen since [] current
AreWindows since (w ∷ more) current xs =
    (rest : List Told) × (xs ≡ w.before ++ w.end ∷ rest) × StaysOpen since [] w.before × Fills since w.before w.end × AreWindows (next_since w.end) more current rest

-- when the open window began
abbrev pub since_after : ℕ → List Window → ℕ
since_after since [] = since
since_after since (w ∷ more) = since_after (next_since w.end) more

-- the counts since the last window was full, of a division that begins with the first report
pub record AreCounts (first : Told) (more : List Told) (l : Losses) : Type 0 where
  pub windows : List Window
  pub current : List Told
  pub division : AreWindows first.report.now windows current (first ∷ more)
  pub since : l.since ≡ Some (since_after first.report.now windows)
  pub received : l.received ≡ received_in (since_after first.report.now windows) current
  pub missing : l.missing ≡ missing_in (since_after first.report.now windows) current

-- After a list that holds a report, the window and its counts are those of the list.
abbrev pub LossesAreThoseOfTheList : Type 0
LossesAreThoseOfTheList = (start : ℕ) (given : List Given) (first : Told) (more : List Told) → told start given ≡ first ∷ more → AreCounts first more (after_all start given).losses
