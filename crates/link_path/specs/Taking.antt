-- All packets that a receiver took and all lists that it was asked for, and all its reports.
use Rattle.std.specs.Prelude.{◌≡◌, ◌%◌, List, [], ◌∷◌, ◌++◌, length, fold}
use Rattle.std.specs.List.{flat_map}
use Rattle.gcc_units.specs.Walk.{walk}
use Rattle.twcc_report.specs.Spelling.{Feedback}
use Rattle.link_path.specs.declared.link.Arrival.{Arrival}
use Rattle.link_path.specs.Division.{Told, last_time, runs_of, reports_on}
use Rattle.link_path.specs.Receiver.{KeptReceiver, heard, next_from}

-- a packet that is taken, or a list of reports
pub data Step : Type 0 where
  took : Arrival → Step
  listed : Step

abbrev pub arrival_in : Step → List Arrival
arrival_in (took a) = a ∷ []
arrival_in listed = []

-- all packets that were taken
abbrev pub takes : List Step → List Arrival
takes steps = flat_map arrival_in steps

abbrev pub listed_at : List Step → List Arrival → Step → List Arrival
listed_at before xs (took a) = xs
listed_at before xs listed = takes before

-- those that were taken before the last list
abbrev pub listed_takes : List Step → List Arrival
listed_takes steps = walk listed_at [] steps

abbrev pub fresh_with : List Arrival → Step → List Arrival
fresh_with xs (took a) = xs ++ a ∷ []
fresh_with xs listed = []

-- those that were taken since
abbrev pub fresh : List Step → List Arrival
fresh steps = fold fresh_with [] steps

-- what earlier lists told
abbrev pub told_of : List Step → List Feedback → Told
told_of before reports =
    record { reports = length reports; numbers = next_from 0 (listed_takes before); last = last_time 0 (heard 0 (listed_takes before)) }

-- a list tells of the numbers behind those of earlier lists, up to the greatest taken
abbrev pub reported_at : List Step → List Feedback → Step → List Feedback
reported_at before reports (took a) = reports
reported_at before reports listed = reports ++ reports_on (told_of before reports) (runs_of (heard (next_from 0 (listed_takes before)) (fresh before)))

-- all reports, list by list
abbrev pub reported : List Step → List Feedback
reported steps = walk reported_at [] steps

-- The receiver took these packets, and was asked for these lists.
pub record StandsFor (now : KeptReceiver) (steps : List Step) : Type 0 where
  pub from : now.from ≡ next_from 0 (listed_takes steps)
  pub last : now.last ≡ last_time 0 (heard 0 (listed_takes steps))
  pub feedback : now.feedback ≡ length (reported steps) % 256
  pub taken : now.taken ≡ fresh steps
