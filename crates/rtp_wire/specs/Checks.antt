-- What is asked of a packet, check by check in their order.
use Rattle.std.specs.Prelude.{◌≡◌, ℕ, ◌+◌, ◌/◌, ◌%◌, ◌<◌, ◌≤◌, ◌↔◌, List, length, slice_index, Ok, Err}
use Rattle.gcc_units.specs.declared.limits.TheConstants.{LEAST_PACKET, GREATEST_PACKET}
use Rattle.rtp_wire.specs.declared.packet.WireFault.{WireFault}
use Rattle.rtp_wire.specs.declared.packet.WireFault.TheVariants.{Short, Long, Version, BadExtension, NoExtension}
use Rattle.rtp_wire.specs.Place.{field16, sources_end, extension_start, extension_len, extension, place_of}
use Rattle.rtp_wire.specs.Elements.{IsNumberAt, IsCutOff}

pub data Check : Type 0 where
  fixed_header : Check
  size : Check
  version : Check
  sources : Check
  extension_bit : Check
  extension_head : Check
  one_byte_form : Check
  extension_words : Check
  elements : Check
  number : Check

-- which check comes when
abbrev pub order : Check → ℕ
order fixed_header = 1
order size = 2
order version = 3
order sources = 4
order extension_bit = 5
order extension_head = 6
order one_byte_form = 7
order extension_words = 8
order elements = 9
order number = 10

-- what it asks
abbrev pub Passes : Check → ℕ → List ℕ → Type 0
-- the fixed header is there
Passes fixed_header id bytes = LEAST_PACKET ≤ length bytes
-- the packet is no larger than the greatest
Passes size id bytes = length bytes ≤ GREATEST_PACKET
-- the first two bits are the version, 2
Passes version id bytes = slice_index bytes 0 / 64 ≡ 2
-- the contributing sources are there
Passes sources id bytes = sources_end bytes ≤ length bytes
-- the bit of the extension is set
Passes extension_bit id bytes = slice_index bytes 0 / 16 % 2 ≡ 1
-- the extension's profile and length are there
Passes extension_head id bytes = extension_start bytes ≤ length bytes
-- the profile is 0xBEDE
Passes one_byte_form id bytes = field16 (sources_end bytes) bytes ≡ 48862
-- the extension's words are there
Passes extension_words id bytes = extension_start bytes + extension_len bytes ≤ length bytes
-- no element passes the extension's end
Passes elements id bytes = IsCutOff id (extension bytes) → ⊥
-- our element is there
Passes number id bytes = (at : ℕ) × IsNumberAt id (extension bytes) at

-- the fault where it fails
abbrev pub fault_of : Check → WireFault
fault_of fixed_header = Short
fault_of size = Long
fault_of version = Version
fault_of sources = Short
fault_of extension_bit = NoExtension
fault_of extension_head = BadExtension
fault_of one_byte_form = NoExtension
fault_of extension_words = BadExtension
fault_of elements = BadExtension
fault_of number = NoExtension

-- The check fails, and each one before it passes.
pub record FailsFirst (check : Check) (id : ℕ) (bytes : List ℕ) : Type 0 where
  pub fails : Passes check id bytes → ⊥
  pub before : (earlier : Check) → order earlier < order check → Passes earlier id bytes

-- All checks pass, and the data of our element stands at this place of the packet.
pub record IsPlace (id : ℕ) (bytes : List ℕ) (place : ℕ) : Type 0 where
  pub passes : (check : Check) → Passes check id bytes
  pub at : ℕ
  pub number : IsNumberAt id (extension bytes) at
  pub place_is : place ≡ extension_start bytes + at

-- What reading a packet gives is told by the first check that fails, or by our element's place.
pub record IsByChecks (id : ℕ) (bytes : List ℕ) : Type 0 where
  pub faults : (fault : WireFault) → (place_of id bytes ≡ Err fault) ↔ ((check : Check) × FailsFirst check id bytes × (fault_of check ≡ fault))
  pub places : (place : ℕ) → (place_of id bytes ≡ Ok place) ↔ IsPlace id bytes place
