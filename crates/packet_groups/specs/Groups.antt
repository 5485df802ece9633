-- Packet groups and the samples that they give.
use Rattle.std.specs.Prelude.{ℕ, ℤ, pos, neg_ℤ, ◌-ℤ◌, ◌*ℤ◌, ◌-◌, ◌*◌, ◌/◌, Bool, ◌&&◌, ◌||◌, nat_le, int_lt, if◌then◌else◌, List, [], ◌∷◌, ◌++◌, fold}
use Rattle.std.specs.List.{list_all}
use Rattle.std.specs.Int.{int_min, int_max}
use Rattle.gcc_units.specs.declared.shared_types.Credit.{Credit}
use Rattle.gcc_units.specs.declared.shared_types.Sample.{Sample}
use Rattle.gcc_units.specs.declared.limits.TheConstants.{GREATEST_DELAY, ARRIVAL_MICROSECONDS}
use Rattle.packet_groups.specs.declared.TheConstants.{GROUP_TIME, BURST_GAP, ARRIVAL_Q16, MILLISECOND_Q16}
use Rattle.packet_groups.specs.declared.step.Point.{Point}
use Rattle.packet_groups.specs.declared.step.Group.{Group}

-- ---- which credits are grouped

-- sent no earlier than each of these
abbrev pub is_behind : List Credit → ℕ → Bool
is_behind before moment = list_all (λ (b : Credit). nat_le b.sent_at moment) before

-- those of the credits that are grouped, with these before them
abbrev pub grouped_after : List Credit → List Credit → List Credit
grouped_after before [] = []
grouped_after before (c ∷ credits) =
    (if is_behind before c.sent_at then c ∷ [] else []) ++ grouped_after (before ++ c ∷ []) credits

-- the credits that are grouped: each that was sent no earlier than every one before it
abbrev pub grouped : List Credit → List Credit
grouped credits = grouped_after [] credits

-- ---- the division into groups

-- the departure and the arrival of a packet
abbrev pub end_of : Credit → Point
end_of c = record { sent_at = c.sent_at; arrival = c.arrival }

-- It arrives sooner after the last packet than it was sent after it, and soon.
abbrev pub is_burst : ℤ → ℕ → Bool
is_burst arrival_gap send_gap = int_lt arrival_gap BURST_GAP && int_lt (pos ARRIVAL_MICROSECONDS *ℤ arrival_gap) (pos send_gap)

-- It was sent soon after the group's first packet, or is one burst with the last one.
abbrev pub joins : Group → Credit → Bool
joins g c = nat_le (c.sent_at - g.first) GROUP_TIME || is_burst (c.arrival -ℤ g.last.arrival) (c.sent_at - g.last.sent_at)

-- neighbouring credits, of which there is at least one
pub record Run : Type 0 where
  pub first : Credit
  pub more : List Credit

abbrev pub last_of : Run → Credit
last_of run = fold (λ (b : Credit) (c : Credit). c) run.first run.more

-- the run's first departure and its last packet
abbrev pub summary : Run → Group
summary run = record { first = run.first.sent_at; last = end_of (last_of run) }

abbrev pub alone : Credit → Run
alone c = record { first = c; more = [] }

abbrev pub longer : Run → Credit → Run
longer run c = record { first = run.first; more = run.more ++ c ∷ [] }

-- with one more credit, which joins the last run or begins one
abbrev pub placed : List Run → Credit → List Run
placed [] c = alone c ∷ []
placed (r ∷ []) c = if joins (summary r) c then longer r c ∷ [] else r ∷ alone c ∷ []
placed (r ∷ s ∷ runs) c = r ∷ placed (s ∷ runs) c

-- the credits, divided into groups
abbrev pub division : List Credit → List Run
division credits = fold placed [] credits

-- ---- the samples

abbrev pub delay : ℕ → ℤ → ℤ
delay send_gap arrival_gap =
    int_max (neg_ℤ GREATEST_DELAY) (int_min (ARRIVAL_Q16 *ℤ arrival_gap -ℤ pos (MILLISECOND_Q16 * send_gap / 1000)) GREATEST_DELAY)

-- the sample of two groups, from their last packets
abbrev pub difference : Point → Point → Sample
difference first second =
    let send_gap = second.sent_at - first.sent_at in
    let arrival_gap = second.arrival -ℤ first.arrival in
    record { d = delay send_gap arrival_gap; send_gap = send_gap; arrival_gap = arrival_gap }

-- the differences of neighbouring runs, the last run left out
abbrev pub differences : List Run → List Sample
differences [] = []
differences (r ∷ []) = []
differences (r ∷ s ∷ []) = []
differences (r ∷ s ∷ t ∷ runs) = difference (end_of (last_of r)) (end_of (last_of s)) ∷ differences (s ∷ t ∷ runs)

-- the samples of all these credits
abbrev pub samples : List Credit → List Sample
samples credits = differences (division (grouped credits))
