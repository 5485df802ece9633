-- The text of a comparison: a line for each sample of a history's credits, and how many there are.
use Rattle.std.specs.Prelude.{◌≡◌, ℕ, ◌≤◌, List, [], ◌∷◌, ◌++◌, length, codes, All, Result, Ok}
use Rattle.std.specs.List.{flat_map}
use Rattle.std.specs.String.{string_bytes}
use Rattle.std.specs.Fmt.{decimal, signed_decimal}
use Rattle.gcc_units.specs.declared.limits.TheConstants.{JOURNAL_PACKETS}
use Rattle.gcc_units.specs.declared.shared_types.Credit.{Credit}
use Rattle.gcc_units.specs.declared.shared_types.Sample.{Sample}
use Rattle.gcc_units.specs.Walk.{each_by}
use Rattle.packet_groups.specs.Groups.{samples}
use Rattle.packet_groups.specs.Kept as grouped
use Rattle.send_core.specs.declared.call.Entry.{Entry}
use Rattle.send_laws.specs.InRange.{all_credits}
use Rattle.call_trace.specs.declared.fault.TraceFault.{TraceFault}
use Rattle.call_trace.specs.Plain.{Plain}
use Rattle.call_trace.specs.Grammar.{IsTrace}
use Rattle.call_trace.specs.Ordered.{ordered}
use Rattle.reply_text.specs.Text.{signal_text}
use Rattle.run_top.specs.declared.beside.Compared.{Compared}
use Rattle.run_top.specs.declared.comparing.Comparing.{Comparing}
use Rattle.run_top.specs.Beside.{IsBeside, compared_after}

-- `<k> filter <signal> <mean> trend <signal> <value>`
abbrev pub compared_line : ℕ → Compared → List ℕ
compared_line k c =
    decimal k ++ codes " filter " ++ signal_text c.filter ++ codes " " ++ signed_decimal c.mean
    ++ codes " trend " ++ signal_text c.trend ++ codes " " ++ signed_decimal c.value ++ codes "\n"

-- the line of each sample, which are numbered from 0
abbrev pub compared_lines : List Sample → List ℕ
compared_lines samples = flat_map (λ (line : List ℕ). line) (each_by (λ before s. compared_line (length before) (compared_after (before ++ s ∷ []))) [] samples)

-- all lines, and the number of samples
abbrev pub compared_text : List Sample → List ℕ
compared_text samples = compared_lines samples ++ codes "samples " ++ decimal (length samples) ++ codes "\n"

-- the comparison of a history, by the credits that its replies list
abbrev pub comparison : List Entry → List ℕ
comparison history = compared_text (samples (all_credits history))

-- ---- what the code keeps

-- Groups and parts were given these credits, and the lines are those of their samples.
pub record IsSoFar (c : Comparing) (credits : List Credit) : Type 0 where
  pub groups : grouped.StandsFor c.groups credits
  pub beside : IsBeside c.beside (samples credits)
  pub text : string_bytes c.text ≡ compared_lines (samples credits)

-- few credits, in the ranges of a journal's
pub record AreInRange (credits : List Credit) : Type 0 where
  pub within : All grouped.IsOfJournal credits
  pub few : length credits ≤ JOURNAL_PACKETS

-- With these credits, those that it was given are few, and in their ranges.
abbrev pub TakesCredits : Comparing → List Credit → Type 0
TakesCredits c more = (credits : List Credit) × IsSoFar c credits × AreInRange (credits ++ more)

-- the bytes spell a trace, and this is its comparison
abbrev pub IsComparison : List ℕ → List ℕ → Result Plain TraceFault → Type 0
IsComparison bytes text read = (trace : Plain) × (read ≡ Ok trace) × IsTrace bytes trace × (text ≡ comparison (ordered trace.lines))
