-- From the low bits that a report carries to the whole number.
use Rattle.std.specs.Prelude.{◌≡◌, ℕ, ℤ, pos, neg_ℤ, ◌-◌, ◌%◌, ◌+ℤ◌, ◌-ℤ◌, ◌*ℤ◌, ◌<◌, ◌≤◌, ◌≤ℤ◌, ◌<ℤ◌, nat_lt, Option, Some, None, if◌then◌else◌}
use Rattle.std.specs.Int.{int_rem_euclid}

-- n is the greatest number below sent that is low modulo 65,536
pub record IsGreatest (sent low n : ℕ) : Type 0 where
  pub below : n < sent
  pub same : n % 65536 ≡ low
  pub greatest : (m : ℕ) → m < sent → m % 65536 ≡ low → m ≤ n

-- that number, where there is one
abbrev pub named_number : ℕ → ℕ → Option ℕ
named_number sent low = if nat_lt low sent then Some (sent - 1 - (sent - 1 - low) % 65536) else None

-- from -2^23 to 2^23 - 1, and equal to z modulo 2^24
abbrev pub signed24 : ℤ → ℤ
signed24 z = int_rem_euclid (z +ℤ pos 8388608) (pos 16777216) -ℤ pos 8388608

-- the number nearest to last with these low 24 bits
abbrev pub unwrapped : ℤ → ℤ → ℤ
unwrapped last low = last +ℤ signed24 (low -ℤ last)

-- n equals the bits modulo 2^24, and is from 2^23 below last up to 2^23 - 1 above it
pub record IsNearest (last bits n : ℤ) : Type 0 where
  pub turns : ℤ
  pub same : (n +ℤ turns *ℤ pos 16777216) ≡ bits
  pub low : neg_ℤ (pos 8388608) ≤ℤ (n -ℤ last)
  pub high : (n -ℤ last) <ℤ pos 8388608
