-- What the credits of one cluster's packets say, and the rate that they give.
use Rattle.std.specs.Prelude.{ℕ, ℤ, ◌-ℤ◌, ◌+◌, ◌-◌, ◌*◌, ◌/◌, Bool, ◌&&◌, ◌||◌, nat_lt, nat_le, int_lt, max, min, unsigned_abs, if◌then◌else◌, List, [], ◌∷◌, length, sum_by, fold, Option, Some, None}
use Rattle.std.specs.Int.{int_max}
use Rattle.std.specs.Ordering.{int_eq}
use Rattle.gcc_units.specs.declared.shared_types.Credit.{Credit}
use Rattle.gcc_units.specs.declared.limits.TheConstants.{LEAST_RATE, GREATEST_RATE, ARRIVAL_MICROSECONDS, BYTE}
use Rattle.probe_clusters.specs.declared.heard.Heard.{Heard}
use Rattle.probe_clusters.specs.declared.TheConstants.{GREATEST_SPAN, MOST_TIMES, UNLOADED_PERCENT, TAKEN_PERCENT}

-- ---- the credits together

-- of two credits, the one with the greater number
abbrev pub later_of : Credit → Credit → Credit
later_of a b = if nat_lt a.number b.number then b else a

-- it arrived before the other, or at the same time and has the lesser number
abbrev pub is_earlier : Credit → Credit → Bool
is_earlier b a = int_lt b.arrival a.arrival || (int_eq b.arrival a.arrival && nat_lt b.number a.number)

-- of two credits, the one that arrived first, and of those that arrived together the one with the lesser number
abbrev pub earlier_of : Credit → Credit → Credit
earlier_of a b = if is_earlier b a then b else a

-- what these credits say together
abbrev pub heard_of : List Credit → Option Heard
heard_of [] = None
heard_of (c ∷ cs) = Some (record {
  count = length (c ∷ cs);
  bytes = sum_by (λ (d : Credit). d.size) (c ∷ cs);
  sent_least = fold (λ (m : ℕ) (d : Credit). min m d.sent_at) c.sent_at cs;
  sent_greatest = fold (λ (m : ℕ) (d : Credit). max m d.sent_at) c.sent_at cs;
  arrival_greatest = fold (λ (a : ℤ) (d : Credit). int_max a d.arrival) c.arrival cs;
  earliest = fold earlier_of c cs;
  latest = fold later_of c cs;
})

-- with one credit more
abbrev pub heard_with : Option Heard → Credit → Heard
heard_with None c = record {
  count = 1;
  bytes = c.size;
  sent_least = c.sent_at;
  sent_greatest = c.sent_at;
  arrival_greatest = c.arrival;
  earliest = c;
  latest = c;
}
heard_with (Some h) c = record {
  count = h.count + 1;
  bytes = h.bytes + c.size;
  sent_least = min h.sent_least c.sent_at;
  sent_greatest = max h.sent_greatest c.sent_at;
  arrival_greatest = int_max h.arrival_greatest c.arrival;
  earliest = earlier_of h.earliest c;
  latest = later_of h.latest c;
}

-- ---- the rate that they give

-- from the first departure to the last, in microseconds
abbrev pub send_time : Heard → ℕ
send_time h = h.sent_greatest - h.sent_least

-- from the first arrival to the last, in microseconds
abbrev pub arrival_time : Heard → ℕ
arrival_time h = ARRIVAL_MICROSECONDS * unsigned_abs (h.arrival_greatest -ℤ h.earliest.arrival)

-- a time that a rate can be taken over
abbrev pub is_span : ℕ → Bool
is_span time = nat_lt 0 time && nat_le time GREATEST_SPAN

-- so many bytes in so many microseconds, in bit/s
abbrev pub rate_over : ℕ → ℕ → ℕ
rate_over bytes time = BYTE * bytes / time

-- the rate of sending: the last packet begins no interval
abbrev pub send_rate : Heard → ℕ
send_rate h = rate_over (h.bytes - h.latest.size) (send_time h)

-- the rate of arriving: the first packet ends no interval
abbrev pub arrival_rate : Heard → ℕ
arrival_rate h = rate_over (h.bytes - h.earliest.size) (arrival_time h)

abbrev pub cut : ℕ → ℕ
cut rate = max LEAST_RATE (min GREATEST_RATE rate)

-- what a rate of sending and one of arriving say of the path: the part that it can take where it was
-- overloaded, and else the lesser
abbrev pub estimated : ℕ → ℕ → ℕ
estimated send arrival = if nat_lt (100 * arrival) (UNLOADED_PERCENT * send) then TAKEN_PERCENT * arrival / 100 else min send arrival

-- no result where packets arrived far faster than they were sent
abbrev pub judged : ℕ → ℕ → Option ℕ
judged send arrival = if nat_lt (MOST_TIMES * send) arrival then None else Some (cut (estimated send arrival))

-- the result of a cluster with these credits, where they give one
abbrev pub result_heard : Heard → Option ℕ
result_heard h = if is_span (send_time h) && is_span (arrival_time h) then judged (send_rate h) (arrival_rate h) else None

-- no credit gives no result
abbrev pub result_of : Option Heard → Option ℕ
result_of None = None
result_of (Some h) = result_heard h
