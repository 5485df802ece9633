-- The link: a line with a rate, a queue before it that drops what does not fit, and a delay behind it.
use Rattle.std.specs.Prelude.{ℕ, ◌+◌, ◌-◌, ◌*◌, ◌/◌, max, Bool, not, nat_lt, nat_le, if◌then◌else◌, List, [], ◌∷◌, ◌++◌, fold, filter}
use Rattle.std.specs.Int.{div_ceil}
use Rattle.std.specs.List.{flat_map}
use Rattle.gcc_units.specs.Walk.{walk, each_by}
use Rattle.gcc_units.specs.declared.limits.TheConstants.{BYTE}
use Rattle.link_path.specs.declared.link.LinkSettings.{LinkSettings}
use Rattle.link_path.specs.declared.link.Arrival.{Arrival}
use Rattle.link_path.specs.declared.link.Fate.{Fate}
use Rattle.link_path.specs.declared.link.Fate.TheVariants.{Dropped, Arrives}

-- a packet offered at a moment
pub record Offer : Type 0 where
  pub number : ℕ
  pub size : ℕ
  pub moment : ℕ

-- ---- one packet, where the line is free from a moment on

-- when its sending begins
abbrev pub start : ℕ → Offer → ℕ
start free o = max free o.moment

-- the bytes that the line still has to send when it is offered, with its own
abbrev pub queued : LinkSettings → ℕ → Offer → ℕ
queued s free o = s.rate * (start free o - o.moment) / BYTE + o.size

abbrev pub is_full : LinkSettings → ℕ → Offer → Bool
is_full s free o = nat_lt s.queue (queued s free o)

-- how long it takes on the line, in whole microseconds, rounded up
abbrev pub line_time : LinkSettings → Offer → ℕ
line_time s o = div_ceil (BYTE * o.size) s.rate

-- when it is sent
abbrev pub sent_by : LinkSettings → ℕ → Offer → ℕ
sent_by s free o = start free o + line_time s o

-- from when on the line is free after it
abbrev pub free_with : LinkSettings → ℕ → Offer → ℕ
free_with s free o = if is_full s free o then free else sent_by s free o

-- ---- all packets that are offered

-- from when on the line is free
abbrev pub free_after : LinkSettings → List Offer → ℕ
free_after s os = fold (free_with s) 0 os

-- whether a packet is dropped that is offered after these
abbrev pub is_dropped : LinkSettings → List Offer → Offer → Bool
is_dropped s before o = is_full s (free_after s before) o

-- when it arrives, where it is not dropped
abbrev pub arrival_at : LinkSettings → List Offer → Offer → ℕ
arrival_at s before o = sent_by s (free_after s before) o + s.delay

abbrev pub fate : LinkSettings → List Offer → Offer → Fate
fate s before o = if is_dropped s before o then Dropped else Arrives (arrival_at s before o)

-- the fates of all, each by the packets offered before it
abbrev pub fates : LinkSettings → List Offer → List Fate
fates s os = each_by (fate s) [] os

-- the arrival that it has, or none
abbrev pub arrival_of : LinkSettings → List Offer → Offer → List Arrival
arrival_of s before o = if is_dropped s before o then [] else record { number = o.number; at = arrival_at s before o } ∷ []

-- all packets that are not dropped
abbrev pub arrivals : LinkSettings → List Offer → List Arrival
arrivals s os = flat_map (λ (xs : List Arrival). xs) (each_by (arrival_of s) [] os)

-- the number of a packet that is dropped, or none
abbrev pub dropped_of : LinkSettings → List Offer → Offer → List ℕ
dropped_of s before o = if is_dropped s before o then o.number ∷ [] else []

-- the numbers of all packets that are dropped
abbrev pub dropped : LinkSettings → List Offer → List ℕ
dropped s os = flat_map (λ (xs : List ℕ). xs) (each_by (dropped_of s) [] os)

-- ---- offers, and moments at which what arrived was asked for

pub data Event : Type 0 where
  offered : Offer → Event
  asked : ℕ → Event

abbrev pub offer_in : Event → List Offer
offer_in (offered o) = o ∷ []
offer_in (asked moment) = []

abbrev pub offers : List Event → List Offer
offers events = flat_map offer_in events

abbrev pub has_arrived : ℕ → Arrival → Bool
has_arrived moment a = nat_le a.at moment

abbrev pub is_on_its_way : ℕ → Arrival → Bool
is_on_its_way moment a = not (has_arrived moment a)

-- what is inside after one more event: a packet goes in where it is not dropped, and what arrived goes out
abbrev pub held_with : LinkSettings → List Event → List Arrival → Event → List Arrival
held_with s before inside (offered o) = inside ++ arrival_of s (offers before) o
held_with s before inside (asked moment) = filter (is_on_its_way moment) inside

abbrev pub held : LinkSettings → List Event → List Arrival
held s events = walk (held_with s) [] events

-- what one more event takes out
abbrev pub given : LinkSettings → List Event → Event → List Arrival
given s before (offered o) = []
given s before (asked moment) = filter (has_arrived moment) (held s before)

-- all that was taken out, in order
abbrev pub delivered : LinkSettings → List Event → List Arrival
delivered s events = flat_map (λ (xs : List Arrival). xs) (each_by (given s) [] events)
