-- What the queue's sums say of how long its packets have waited.
use Rattle.std.proofs.Common.{◌≡◌, ℕ, ◌+◌, ◌-◌, ◌*◌, ◌/◌, ◌≤◌, max, List, [], ◌∷◌, length, sum_by, All, ◌∙◌, ap, arith}
use Rattle.std.proofs.lemmas.List.Elements.{All-head, All-tail}
use Rattle.std.proofs.lemmas.List.Sums.{sum_by-cons}
use Rattle.gcc_units.specs.declared.limits.TheConstants.{GREATEST_PACKET}
use Rattle.pace_queues.specs.declared.ticket.Ticket.{Ticket}
use Rattle.pace_queues.specs.Waiting.{size_of, accepted_at_of}
use Rattle.pacer.specs.declared.force.TheConstants.{DRAIN_TIME, LEAST_DRAIN_TIME}
use Rattle.pacer.specs.Force.{age, waited, ceiling, drain}
use Rattle.pacer.specs.State.{IsDue}

-- ages and moments are the moment, once for each packet
pub ages : (moment : ℕ) (ts : List Ticket) → All (IsDue moment) ts → sum_by (age moment) ts + sum_by accepted_at_of ts ≡ length ts * moment
ages moment [] all = omega arith
ages moment (t ∷ ts) all =
    let here : IsDue moment t = All-head (IsDue moment) t ts all in
    let came : t.accepted_at ≤ moment = here.came in
    let h : sum_by (age moment) ts + sum_by accepted_at_of ts ≡ length ts * moment = ages moment ts (All-tail (IsDue moment) t ts all) in
    omega (arith, h, sum_by-cons (age moment) t ts, sum_by-cons accepted_at_of t ts)

pub moments-few : (moment : ℕ) (ts : List Ticket) → All (IsDue moment) ts → sum_by accepted_at_of ts ≤ length ts * moment
moments-few moment ts all = omega (arith, ages moment ts all)

pub bytes-few : (moment : ℕ) (ts : List Ticket) → All (IsDue moment) ts → sum_by size_of ts ≤ GREATEST_PACKET * length ts
bytes-few moment [] all = omega arith
bytes-few moment (t ∷ ts) all =
    let here : IsDue moment t = All-head (IsDue moment) t ts all in
    let small : t.size ≤ GREATEST_PACKET = here.small in
    omega (arith, bytes-few moment ts (All-tail (IsDue moment) t ts all), sum_by-cons size_of t ts)

-- the average as the code has it
average-is : (moment : ℕ) (ts : List Ticket) → All (IsDue moment) ts → (length ts * moment - sum_by accepted_at_of ts) / length ts ≡ waited moment ts
average-is moment ts all =
    let same : length ts * moment - sum_by accepted_at_of ts ≡ sum_by (age moment) ts = omega (arith, ages moment ts all) in
    ap (λ n. n / length ts) same

pub drain-is : (moment : ℕ) (ts : List Ticket) (count sum bytes average time : ℕ) → All (IsDue moment) ts → count ≡ length ts → (count ≡ 0 → ⊥)
    → sum ≡ sum_by accepted_at_of ts → bytes ≡ sum_by size_of ts → average ≡ (count * moment - sum) / count
    → time ≡ max LEAST_DRAIN_TIME (DRAIN_TIME - average) → ceiling (8000000 * bytes) time ≡ drain moment ts
drain-is moment [] count sum bytes average time all counted some summed sized averaged timed = absurd (some counted)
drain-is moment (t ∷ ts) count sum bytes average time all counted some summed sized averaged timed =
    let waits : average ≡ waited moment (t ∷ ts) =
    averaged ∙ (ap (λ n. (n * moment - sum) / n) counted ∙ (ap (λ s. (length (t ∷ ts) * moment - s) / length (t ∷ ts)) summed ∙ average-is moment (t ∷ ts) all)) in
    let lasts : time ≡ max LEAST_DRAIN_TIME (DRAIN_TIME - waited moment (t ∷ ts)) = timed ∙ ap (λ n. max LEAST_DRAIN_TIME (DRAIN_TIME - n)) waits in
    ap (λ b. ceiling (8000000 * b) time) sized ∙ ap (λ n. ceiling (8000000 * sum_by size_of (t ∷ ts)) n) lasts
