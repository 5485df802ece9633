-- The lines on senders that served made traces.
use Rattle.std.specs.Prelude.{ℕ, ◌+◌, ◌%◌, ◌^◌, List, ◌++◌, codes, length, sum_by}
use Rattle.std.specs.Fmt.{decimal}
use Rattle.std.specs.List.{flat_map, range_with_len}
use Rattle.pacer.specs.declared.sent.Sent.{Sent}
use Rattle.send_core.specs.declared.call.Entry.{Entry}
use Rattle.send_core.specs.History.{sent}
use Rattle.send_core.specs.Estimates.{target}
use Rattle.call_trace.specs.Making.{made}
use Rattle.call_trace.specs.Ordered.{ordered}

abbrev pub size_of : Sent → ℕ
size_of r = r.size

-- the bytes of all packets that were sent
abbrev pub bytes_of : List Entry → ℕ
bytes_of history = sum_by size_of (sent history)

-- `calls <calls> packets <packets> bytes <bytes> target <target>`
abbrev pub sum_text : ℕ → ℕ → ℕ → ℕ → List ℕ
sum_text calls packets bytes target =
    codes "calls " ++ decimal calls ++ codes " packets " ++ decimal packets ++ codes " bytes " ++ decimal bytes ++ codes " target " ++ decimal target ++ codes "\n"

-- the line on a history of so many calls
abbrev pub sum_line : ℕ → List Entry → List ℕ
sum_line calls history = sum_text calls (length (sent history)) (bytes_of history) (target history)

-- the seed of the sender of this number, counted from 0
abbrev pub seed_of : ℕ → ℕ → ℕ
seed_of seed k = (seed + k) % 2 ^ 64

-- the line of the sender that served the made trace of so many calls
abbrev pub line_at : ℕ → ℕ → ℕ → List ℕ
line_at seed calls k = sum_line calls (ordered (made (seed_of seed k) calls 1).lines)

-- the lines of so many senders, one after the other
abbrev pub lines_of : ℕ → ℕ → ℕ → List ℕ
lines_of senders calls seed = flat_map (line_at seed calls) (range_with_len 0 senders)
