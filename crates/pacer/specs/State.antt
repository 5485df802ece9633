-- What a pacer stands at, and what each call makes of it.
use Rattle.std.specs.Prelude.{ℕ, ℤ, pos, neg_ℤ, ◌-◌, ◌*◌, ◌≤◌, Bool, false, List, [], ◌∷◌, ◌++◌, All}
use Rattle.gcc_units.specs.declared.limits.TheConstants.{GREATEST_RATE, GREATEST_MOMENT, GREATEST_PACKET}
use Rattle.pace_budget.specs.declared.bucket.TheConstants.{GREATEST_WINDOW}
use Rattle.pace_budget.specs.Level.{Advance}
use Rattle.pace_budget.specs.Steps.{step}
use Rattle.pace_queues.specs.declared.ticket.Ticket.{Ticket}
use Rattle.probe_clusters.specs.declared.cluster.Cluster.{Cluster}
use Rattle.pacer.specs.declared.pacing.Pacing.{Pacing}
use Rattle.pacer.specs.declared.pacing.Tally.{Tally}
use Rattle.pacer.specs.declared.pacing.TheConstants.{START_PACING, START_WINDOW}
use Rattle.pacer.specs.Pace.{Standing}
use Rattle.pacer.specs.declared.course.Terms.{Terms}
use Rattle.pacer.specs.Force.{in_force}

-- its moment, what waits, both levels, whether media was sent, the settings, and the rate in force
pub record State : Type 0 where
  pub moment : ℕ
  pub waiting : List Ticket
  pub media : ℤ
  pub padding : ℤ
  pub began : Bool
  pub pacing : Pacing
  pub rate : ℕ

abbrev pub start : State
start = record {
  moment = 0;
  waiting = [];
  media = pos 0;
  padding = pos 0;
  began = false;
  pacing = record { rate = START_PACING; window = START_WINDOW; padding_rate = 0; paced_audio = false };
  rate = START_PACING;
}

-- time passes at the rates that are in force
abbrev pub advanced : State → ℕ → State
advanced s now = record s {
  moment = now;
  media = step s.media (Advance s.rate (now - s.moment) s.pacing.window);
  padding = step s.padding (Advance s.pacing.padding_rate (now - s.moment) s.pacing.window);
}

-- one packet more waits
abbrev pub accepted : State → Ticket → State
accepted s ticket = record s { waiting = s.waiting ++ ticket ∷ [] }

-- what holds all through a pace
abbrev pub terms : State → Terms
terms s = record { moment = s.moment; paced_audio = s.pacing.paced_audio; floor = neg_ℤ (pos (s.pacing.padding_rate * s.pacing.window)) }

-- how a pace begins
abbrev pub standing : State → List Cluster → ℕ → Standing
standing s clusters number =
    record { waiting = s.waiting; media = s.media; padding = s.padding; clusters = clusters; began = s.began; number = number }

-- what a pace leaves
abbrev pub left : State → Standing → State
left s end = record s { waiting = end.waiting; media = end.media; padding = end.padding; began = end.began }

-- new settings, and the rate in force formed anew
abbrev pub tuned : State → Pacing → State
tuned s pacing = record s { pacing = pacing; rate = in_force pacing.rate s.moment s.waiting }

abbrev pub tally : State → Tally
tally s = record { rate = s.rate; window = s.pacing.window; padding_rate = s.pacing.padding_rate }

-- ---- ranges

-- a ticket that was accepted by now, of a packet that is not too large
pub record IsDue (moment : ℕ) (t : Ticket) : Type 0 where
  pub small : t.size ≤ GREATEST_PACKET
  pub came : t.accepted_at ≤ moment

pub record IsPacing (p : Pacing) : Type 0 where
  pub rate : p.rate ≤ GREATEST_RATE
  pub window : p.window ≤ GREATEST_WINDOW
  pub padding_rate : p.padding_rate ≤ GREATEST_RATE

pub record IsKept (s : State) : Type 0 where
  pub in_time : s.moment ≤ GREATEST_MOMENT
  pub due : All (IsDue s.moment) s.waiting
  pub pacing : IsPacing s.pacing
  pub rate : s.rate ≤ GREATEST_RATE
