-- What is kept while a list of reports is built.
use Rattle.std.specs.Prelude.{◌≡◌, ℕ, ◌+◌, ◌*◌, ◌/◌, ◌%◌, Option, List, length, map}
use Rattle.std.specs.Option.{unwrap_or}
use Rattle.twcc_report.specs.Spelling.{view}
use Rattle.link_path.specs.declared.building.Building.{Building}
use Rattle.link_path.specs.Division.{Run, Told, divided, first_time, last_time, numbers_in, statuses, reports_on}

-- the reports on these runs are built, and the next one so far
pub record IsAt (b : Building) (told : Told) (ended : List Run) (run : Run) : Type 0 where
  pub done : map view b.reports.items ≡ reports_on told ended
  pub begun : (time : ℕ) → b.statuses.items ≡ statuses (256 * (first_time time run / 256)) run
  pub first : (time : ℕ) → unwrap_or b.first time ≡ first_time time run
  pub last : (time : ℕ) → unwrap_or b.last time ≡ last_time time run
  pub before : b.before ≡ last_time told.last (numbers_in ended)
  pub base : b.base ≡ (told.numbers + length (numbers_in ended)) % 65536
  pub feedback : b.feedback ≡ (told.reports + length ended) % 256

-- all these numbers were put in
abbrev pub IsBuilt : Building → Told → List (Option ℕ) → Type 0
IsBuilt b told numbers = IsAt b told (divided numbers).ended (divided numbers).last
