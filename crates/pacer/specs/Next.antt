-- When a pace would send something, if no other call came before it.
use Rattle.std.specs.Prelude.{ℕ, ℤ, pos, ◌-◌, ◌&&◌, Bool, false, not, min, Option, None, Some, List, int_lt}
use Rattle.pace_budget.specs.Level.{Advance}
use Rattle.pace_budget.specs.Steps.{step}
use Rattle.pace_queues.specs.declared.ticket.Ticket.{Ticket}
use Rattle.probe_clusters.specs.declared.cluster.Cluster.{Cluster}
use Rattle.pacer.specs.declared.sent.Sent.{Sent}
use Rattle.pacer.specs.Pace.{is_audio, rule}
use Rattle.pacer.specs.State.{State, advanced, terms, standing}

-- what a pace at a later moment would send first
abbrev pub first_at : State → List Cluster → ℕ → ℕ → Option Sent
first_at s clusters number moment = rule (terms (advanced s moment)) (standing (advanced s moment) clusters number)

-- ---- what may be sent

-- the packet is audio that is not held back
abbrev pub is_free : State → Option Ticket → Bool
is_free s None = false
is_free s (Some t) = is_audio t.class && not s.pacing.paced_audio

-- a level is above 0 once time has passed at this rate and under this window
abbrev pub is_above : ℤ → ℕ → ℕ → ℕ → ℕ → Bool
is_above level rate window from moment = int_lt (pos 0) (step level (Advance rate (moment - from) window))

-- the media level is above 0 where a packet waits; the padding level is, where none does and media was sent before
abbrev pub is_open : State → Option Ticket → ℕ → Bool
is_open s None moment = is_above s.padding s.pacing.padding_rate s.pacing.window s.moment moment && s.began
is_open s (Some t) moment = is_above s.media s.rate s.pacing.window s.moment moment

-- the lesser of two moments, of those that there are
abbrev pub sooner : Option ℕ → Option ℕ → Option ℕ
sooner None b = b
sooner (Some a) None = Some a
sooner (Some a) (Some b) = Some (min a b)
