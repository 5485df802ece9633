-- The two budgets: what is counted of each, and the rate that it grows at.
use Rattle.std.specs.Prelude.{◌≡◌, ℕ, ◌+◌, List, fold}
use Rattle.pacer.specs.declared.pacing.Tally.{Tally}
use Rattle.pacer.specs.declared.sent.Sent.{Sent}
use Rattle.send_core.specs.declared.call.Entry.{Entry}
use Rattle.send_core.specs.Levels.{tally_of}
use Rattle.send_laws.specs.declared.budget.Budget.{Budget}
use Rattle.send_laws.specs.declared.budget.Counted.{Counted}
use Rattle.send_laws.specs.declared.budget.Budget.TheVariants.{Media, Padding}
use Rattle.send_laws.specs.Spans.{all_spent, spent_bytes, last_as, integral, padding_bytes, padding_last_as, padding_integral}

-- the bytes of what is counted: for media with the probes before the last of it
abbrev pub bytes_of : Budget → List Sent → ℕ
bytes_of Media records = spent_bytes records
bytes_of Padding records = padding_bytes records

-- all that was taken, for media with the probes behind the last of it too
abbrev pub taken_of : Budget → List Sent → ℕ
taken_of Media records = all_spent records
taken_of Padding records = padding_bytes records

abbrev pub last_by : Budget → ℕ → Sent → ℕ
last_by Media last r = last_as last r.kind r.size
last_by Padding last r = padding_last_as last r.kind r.size

-- the size of the last of them, or the size given where there is none
abbrev pub last_from : Budget → ℕ → List Sent → ℕ
last_from budget last records = fold (last_by budget) last records

-- this was counted of these records
pub record IsCount (budget : Budget) (records : List Sent) (c : Counted) : Type 0 where
  pub bytes : c.bytes ≡ bytes_of budget records
  pub taken : c.bytes + c.since ≡ taken_of budget records
  pub last : c.last ≡ last_from budget 0 records

abbrev pub rate_in : Budget → Tally → ℕ
rate_in Media t = t.rate
rate_in Padding t = t.padding_rate

-- the rate that the budget grows at after these entries
abbrev pub rate_of : Budget → List Entry → ℕ
rate_of budget history = rate_in budget (tally_of history)

abbrev pub integral_of : Budget → List Entry → List Entry → ℕ
integral_of Media before rest = integral before rest
integral_of Padding before rest = padding_integral before rest
