-- Reading a change of the settings, value by value, up to the first that is bad.
use Rattle.std.specs.Prelude.{ℕ, ◌^◌, nat_lt, Bool, if◌then◌else◌, List, [], ◌∷◌, codes, Option, Some, None, option_and_then, Result, Ok, Err, ⊤}
use Rattle.serde_json.specs.Data.{Data, Items, no_items, item}
use Rattle.serde_json.specs.Find.{get, as_array, as_bool, as_number, as_object, as_u64}
use Rattle.gcc_units.specs.Listed.{Listed, bare}
use Rattle.allocator.specs.declared.stream.Stream.{Stream}
use Rattle.send_core.specs.declared.call.Change.{Change}
use Rattle.call_trace.specs.declared.fault.TheConstants.{NO_OBJECT, WRONG_KEY, WRONG_VALUE}
use Rattle.call_trace.specs.Steps.{◌>>=◌, or_reason}
use Rattle.call_trace.specs.Settings.{json_of, fine_keys}

abbrev pub small_of : ℕ → Option ℕ
small_of n = if nat_lt n (2 ^ 32) then Some n else None

abbrev pub whole_in : Data → Option ℕ
whole_in d = option_and_then as_u64 (as_number d)

abbrev pub small_in : Data → Option ℕ
small_in d = option_and_then small_of (whole_in d)

abbrev pub needed_at : {A : Type 0} → (Data → Option A) → Option Data → Result A ℕ
needed_at value_in None = Err WRONG_VALUE
needed_at value_in (Some d) = or_reason WRONG_VALUE (value_in d)

abbrev pub present : {A : Type 0} → Result A ℕ → Result (Option A) ℕ
present (Ok x) = Ok (Some x)
present (Err r) = Err r

abbrev pub optional_at : {A : Type 0} → (Data → Option A) → Option Data → Result (Option A) ℕ
optional_at value_in None = Ok None
optional_at value_in (Some d) = present (or_reason WRONG_VALUE (value_in d))

unfoldable pub stream_at : Data → Result Stream ℕ
stream_at d = do
  id ← needed_at small_in (get (codes "id") d)
  min ← needed_at whole_in (get (codes "min") d)
  max ← needed_at whole_in (get (codes "max") d)
  weight ← needed_at small_in (get (codes "weight") d)
  enforced ← needed_at as_bool (get (codes "enforced") d)
  Ok (record { id = id; min = min; max = max; weight = weight; enforced = enforced })

abbrev pub id_at : Data → Result ℕ ℕ
id_at d = or_reason WRONG_VALUE (small_in d)

unfoldable pub items_at : {A : Type 0} → (Data → Result A ℕ) → Items → Result (List A) ℕ
items_at read no_items = Ok []
items_at read (item d ds) = do
  x ← read d
  xs ← items_at read ds
  Ok (x ∷ xs)

abbrev pub listed : {A : Type 0} → Result (List A) ℕ → Result (Listed A) ℕ
listed (Ok xs) = Ok (bare xs)
listed (Err r) = Err r

abbrev pub list_at : {A : Type 0} → (Data → Result A ℕ) → Option Data → Result (Listed A) ℕ
list_at read None = Ok (bare [])
list_at read (Some d) = or_reason WRONG_VALUE (as_array d) >>= λ ds. listed (items_at read ds)

abbrev pub checked : Bool → Result ⊤ ℕ
checked fine = if fine then Ok tt else Err WRONG_KEY

unfoldable pub change_at : Data → Result Change ℕ
change_at d = do
  ms ← or_reason NO_OBJECT (as_object d)
  fine ← checked (fine_keys ms)
  start ← optional_at whole_in (get (codes "start") d)
  min ← optional_at whole_in (get (codes "min") d)
  max ← optional_at whole_in (get (codes "max") d)
  pacing_percent ← optional_at whole_in (get (codes "pacing_percent") d)
  window ← optional_at whole_in (get (codes "window") d)
  padding_rate ← optional_at whole_in (get (codes "padding_rate") d)
  paced_audio ← optional_at as_bool (get (codes "paced_audio") d)
  extension_id ← optional_at whole_in (get (codes "extension_id") d)
  probe ← optional_at whole_in (get (codes "probe") d)
  streams ← list_at stream_at (get (codes "streams") d)
  removed ← list_at id_at (get (codes "removed") d)
  Ok (record { streams = streams; removed = removed; start = start; min = min; max = max; pacing_percent = pacing_percent; window = window; padding_rate = padding_rate; paced_audio = paced_audio; extension_id = extension_id; probe = probe })

-- the change that a text spells, or why it spells none
abbrev pub json_at : List ℕ → Result Change ℕ
json_at text = or_reason NO_OBJECT (json_of text) >>= change_at
