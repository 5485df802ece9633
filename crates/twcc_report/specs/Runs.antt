-- Lists told in runs: so many of one thing stand as one item.
use Rattle.std.specs.Prelude.{ℕ, Bool, ◌==◌, ◌&&◌, nat_lt, List, [], ◌∷◌, ◌++◌, replicate, Result, Ok}
use Rattle.std.specs.List.{flat_map}
use Rattle.twcc_report.specs.declared.fault.ReportFault.{ReportFault}
use Rattle.twcc_report.specs.declared.report.Status.{Status}
use Rattle.twcc_report.specs.declared.report.Status.TheVariants.{NotReceived}
use Rattle.twcc_report.specs.declared.compact.StatusRun.{StatusRun}
use Rattle.twcc_report.specs.declared.compact.StatusRun.TheVariants.{Lost, One}
use Rattle.twcc_report.specs.declared.runs.SymbolRun.{SymbolRun}
use Rattle.twcc_report.specs.Reading.{◌>>=◌}

-- the statuses that a run stands for, and those of all runs
abbrev pub statuses_of : StatusRun → List Status
statuses_of (Lost n) = replicate n NotReceived
statuses_of (One status) = status ∷ []

abbrev pub expanded : List StatusRun → List Status
expanded runs = flat_map statuses_of runs

-- the symbols that runs of symbols stand for
abbrev pub symbols_of_run : SymbolRun → List ℕ
symbols_of_run run = replicate run.count run.symbol

abbrev pub all_symbols_of : List SymbolRun → List ℕ
all_symbols_of runs = flat_map symbols_of_run runs

-- whether a run has the reserved symbol
abbrev pub is_reserved : SymbolRun → Bool
is_reserved run = run.symbol == 3 && nat_lt 0 run.count

-- what was read before, and what is still read
abbrev pub with_front : List Status → Result (List Status × List ℕ) ReportFault → Result (List Status × List ℕ) ReportFault
with_front front read = read >>= λ x. Ok (front ++ x.0, x.1)
