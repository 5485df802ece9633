-- The way behind the line: a delay, losses and jitter.
use Rattle.std.specs.Prelude.{◌≡◌, ℕ, ◌+◌, ◌*◌, ◌^◌, ◌<◌, ◌≤◌, ◌⊎◌, max, nat_le, if◌then◌else◌, Option, Some, None, List, [], ◌∷◌, ◌++◌}
use Rattle.live_loop.specs.declared.line.Begun.{Begun}
use Rattle.live_loop.specs.declared.way.Coming.{Coming}
use Rattle.live_loop.specs.declared.way.Manners.{Manners}

-- what is kept: when the last packet arrives that was sent so far, and the packets on the way
pub record KeptWay : Type 0 where
  pub manners : Manners
  pub last : ℕ
  pub packets : List Coming

pub record AreManners (m : Manners) : Type 0 where
  pub delay : m.delay ≤ 2 ^ 24
  pub jitter : m.jitter ≤ 2 ^ 24

-- a packet that is held up so long arrives after its delay, and after those before it
abbrev pub coming_at : KeptWay → Begun → ℕ → ℕ
coming_at w b late = max w.last (b.sent + w.manners.delay + late)

abbrev pub coming : KeptWay → Begun → ℕ → KeptWay
coming w b late = record w { last = coming_at w b late; packets = w.packets ++ (record { packet = b.packet; at = coming_at w b late }) ∷ [] }

-- it is lost, or it is held up for no longer than the jitter
abbrev pub IsSent : KeptWay → Begun → KeptWay → Type 0
IsSent before b after = (after ≡ before) ⊎ ((late : ℕ) × (late ≤ before.manners.jitter) × (after ≡ coming before b late))

-- the first on the way, where it arrives by a moment
abbrev pub arrived : ℕ → List Coming → Option Coming
arrived now [] = None
arrived now (c ∷ later) = if nat_le c.at now then Some c else None
