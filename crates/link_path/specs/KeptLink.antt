-- What is kept of a link, and the offers and questions that it stands for.
use Rattle.std.specs.Prelude.{◌≡◌, ℕ, ◌+◌, ◌^◌, ◌<◌, ◌≤◌, List, [], ◌∷◌, length}
use Rattle.gcc_units.specs.declared.limits.TheConstants.{GREATEST_RATE, LEAST_RATE}
use Rattle.link_path.specs.declared.TheConstants.{LEAST_QUEUE, GREATEST_QUEUE, LONGEST_DELAY}
use Rattle.link_path.specs.declared.link.LinkSettings.{LinkSettings}
use Rattle.link_path.specs.declared.link.Arrival.{Arrival}
use Rattle.link_path.specs.Link.{Offer, Event, offers, free_after, held}

-- the settings that a link may have
pub record IsLink (s : LinkSettings) : Type 0 where
  pub least_rate : LEAST_RATE ≤ s.rate
  pub greatest_rate : s.rate ≤ GREATEST_RATE
  pub least_queue : LEAST_QUEUE ≤ s.queue
  pub greatest_queue : s.queue ≤ GREATEST_QUEUE
  pub longest_delay : s.delay ≤ LONGEST_DELAY

-- a packet has a byte
abbrev pub HasBytes : Offer → Type 0
HasBytes o = 1 ≤ o.size

pub record KeptLink : Type 0 where
  pub settings : LinkSettings
  pub free : ℕ
  pub inside : List Arrival

-- each arrives after the one before it, the first after one moment and the last no later than another
abbrev pub RisesBetween : ℕ → List Arrival → ℕ → Type 0
RisesBetween low [] high = low ≤ high
RisesBetween low (a ∷ later) high = (low < a.at) × RisesBetween a.at later high

pub record IsKeptLink (s : LinkSettings) (free : ℕ) (inside : List Arrival) : Type 0 where
  pub link : IsLink s
  pub soon : free < 2 ^ 51
  pub order : RisesBetween 0 inside (free + s.delay)
  pub few : length inside < 2 ^ 32

-- The link with these settings was offered these packets, and asked at these moments.
pub record StandsFor (now : KeptLink) (s : LinkSettings) (events : List Event) : Type 0 where
  pub settings : now.settings ≡ s
  pub free : now.free ≡ free_after s (offers events)
  pub inside : now.inside ≡ held s events
