-- What the end of a closed loop is, told by the history of its calls.
use Rattle.std.specs.Prelude.{◌≡◌, ℕ, ℤ, ◌+◌, ◌<◌, ◌≤◌, nat_lt, ◌==◌, if◌then◌else◌, Option, Some, None, List, [], ◌∷◌, ◌++◌, length, map, filter, count_by}
use Rattle.std.specs.List.{flat_map}
use Rattle.gcc_units.specs.declared.limits.TheConstants.{KEPT_PACKETS, MOST_ENTRIES}
use Rattle.gcc_units.specs.declared.shared_types.Credit.{Credit}
use Rattle.twcc_report.specs.Spelling.{Feedback}
use Rattle.twcc_report.specs.Canonical.{canonical}
use Rattle.send_core.specs.declared.call.Call.{Call}
use Rattle.send_core.specs.declared.call.Call.TheVariants as call
use Rattle.send_core.specs.declared.call.Reply.{Reply}
use Rattle.send_core.specs.declared.call.Reply.TheVariants as given
use Rattle.send_core.specs.declared.call.Entry.{Entry}
use Rattle.send_core.specs.History.{sent}
use Rattle.send_core.specs.Reply.{IsLegal}
use Rattle.send_laws.specs.InRange.{all_credits}
use Rattle.call_trace.specs.Making.{moment}
use Rattle.link_path.specs.declared.link.LinkSettings.{LinkSettings}
use Rattle.link_path.specs.declared.link.Arrival.{Arrival}
use Rattle.link_path.specs.Link.{Offer, arrivals, dropped, has_arrived}
use Rattle.link_path.specs.Told.{all_told, statuses_in, AreBased, times_of}
use Rattle.link_loop.specs.Looping.{offer_of}

-- ---- what a history offers and reports

abbrev pub offers_in : Reply → List Offer
offers_in (given.Paced moment records) = map (offer_of moment) records.items
offers_in (given.Accepted moment index) = []
offers_in (given.Credited moment judged signal m acked rates shares) = []
offers_in (given.Configured moment rates shares) = []
offers_in (given.Refused moment cause) = []

-- all that was sent, each packet at the moment of its pace
abbrev pub offers_of : List Entry → List Offer
offers_of history = flat_map (λ (e : Entry). offers_in e.reply) history

abbrev pub report_in : Call → List (List ℕ)
report_in (call.Report at bytes) = bytes.items ∷ []
report_in (call.Enqueue at class wire) = []
report_in (call.Pace at) = []
report_in (call.Configure at change) = []

-- the bytes of all reports
abbrev pub reports_in : List Entry → List (List ℕ)
reports_in history = flat_map (λ (e : Entry). report_in e.call) history

-- ---- how often a number stands in a list

abbrev pub count_of : ℕ → List ℕ → ℕ
count_of k numbers = count_by (λ n. n == k) numbers

abbrev pub number_of : Arrival → ℕ
number_of a = a.number

abbrev pub numbers : List Arrival → List ℕ
numbers xs = map number_of xs

-- ---- who was received, and when

-- the packet of a credit, and its arrival in quarter-milliseconds
abbrev pub pair_of : Credit → ℕ × ℤ
pair_of c = (c.number, c.arrival)

-- of the numbers from one on, each that arrived, and when
abbrev pub received_from : ℕ → List (Option ℤ) → List (ℕ × ℤ)
received_from number [] = []
received_from number (None ∷ later) = received_from (number + 1) later
received_from number (Some time ∷ later) = (number, time) ∷ received_from (number + 1) later

-- ---- the end

pub record IsClosedLoop (s : LinkSettings) (millis : ℕ) (history : List Entry) (delivered inside : List Arrival) (lost : List ℕ) (reports : List Feedback) : Type 0 where
  -- each reply is the one that the calls before it determine
  pub legal : IsLegal history
  -- the reports of the history are the canonical spellings of these, one each and in order
  pub spelled : reports_in history ≡ map canonical reports
  -- the packets that were dropped are those that the link drops of all that was sent
  pub dropped_are : lost ≡ dropped s (offers_of history)
  -- what was delivered and what is inside are, one behind the other, all packets that the link does not drop, each with its arrival
  pub arrivals_are : delivered ++ inside ≡ arrivals s (offers_of history)
  -- what was delivered is the front of them: those that arrive by the last millisecond in which the receiver was given what had arrived
  pub last : ℕ
  pub last_is : last < millis
  -- and that is the last one of the run, unless the journal was full
  pub last_of_all : length history < MOST_ENTRIES → last + 1 ≡ millis
  pub delivered_are : delivered ≡ filter (has_arrived (moment last)) (arrivals s (offers_of history))
  -- each number that was sent is that of one packet: delivered, dropped or inside
  pub once : (k : ℕ) → count_of k (numbers delivered) + count_of k lost + count_of k (numbers inside) ≡ (if nat_lt k (length (sent history)) then 1 else 0)
  -- the statuses of the reports are, one behind the other, those of the numbers from 0 on: received with its arrival where the number was delivered
  pub told : all_told reports ≡ times_of delivered 0 (length (statuses_in reports))
  -- each report begins where the ones before it end
  pub bases : AreBased 0 reports
  -- where no packet was forgotten, since no more were sent than are kept, the credits are, one behind the other, the statuses that say
  -- received: each of them once, with its number and its arrival, and no others
  pub credited : length (sent history) ≤ KEPT_PACKETS → map pair_of (all_credits history) ≡ received_from 0 (all_told reports)
