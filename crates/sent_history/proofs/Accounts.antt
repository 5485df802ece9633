-- How far the references of an account may be from 0.
use Rattle.std.proofs.Common.{◌≡◌, ℕ, ℤ, pos, negsuc, neg_ℤ, ◌+◌, ◌*◌, ◌≤ℤ◌, ◌<ℤ◌, ◌+ℤ◌, ◌-ℤ◌, List, [], ◌∷◌, length, arith, to_z, of_z, w64}
use Rattle.std.specs.List.{fold}
use Rattle.std.specs.Int.{int_rem_euclid}
use Rattle.std.proofs.lemmas.Int.{ints}
use Rattle.gcc_units.specs.Unwrapping.{unwrapped, IsNearest}
use Rattle.sent_history.specs.Events.{Event, added, reported, reports}
use Rattle.sent_history.specs.Crediting.{Account, start, after, account}
use Rattle.sent_history.specs.Kept.{Kept, TakesReport}

pub record IsNear (n : ℕ) (z : ℤ) : Type 0 where
  pub low : neg_ℤ (pos n) ≤ℤ z
  pub high : z ≤ℤ pos n

rem_low : (z : ℤ) → pos 0 ≤ℤ int_rem_euclid z (pos 16777216)
rem_low (pos a) = omega (arith, ints)
rem_low (negsuc a) = omega (arith, ints)

rem_high : (z : ℤ) → int_rem_euclid z (pos 16777216) <ℤ pos 16777216
rem_high (pos a) = omega (arith, ints)
rem_high (negsuc a) = omega (arith, ints)

unwrapped_near : (n : ℕ) (last low : ℤ) → IsNear n last → IsNear (n + 8388608) (unwrapped last low)
unwrapped_near n last low near =
    let z : ℤ = (low -ℤ last) +ℤ pos 8388608 in
    let least : pos 0 ≤ℤ int_rem_euclid z (pos 16777216) = rem_low z in
    let most : int_rem_euclid z (pos 16777216) <ℤ pos 16777216 = rem_high z in
    record { low = omega (arith, ints, near.low, least); high = omega (arith, ints, near.high, most) }

near_from : (n : ℕ) (a : Account) (events : List Event) → IsNear n a.reference
    → IsNear (n + 8388608 * length (reports events)) (fold after a events).reference
near_from n a [] near = record { low = omega (arith, ints, near.low); high = omega (arith, ints, near.high) }
near_from n a (added p ∷ events) near = near_from n (after a (added p)) events near
near_from n a (reported r ∷ events) near =
    let next : IsNear (n + 8388608) (after a (reported r)).reference = unwrapped_near n a.reference r.reference near in
    let all : IsNear (n + 8388608 + 8388608 * length (reports events)) (fold after (after a (reported r)) events).reference =
    near_from (n + 8388608) (after a (reported r)) events next in
    record { low = omega (arith, ints, all.low); high = omega (arith, ints, all.high) }

-- each report moves the reference by no more than 2^23
pub reference_near : (events : List Event) → IsNear (8388608 * length (reports events)) (account events).reference
unfolding account
reference_near events =
    let all : IsNear (0 + 8388608 * length (reports events)) (fold after start events).reference =
    near_from 0 start events (record { low = omega (arith, ints); high = omega (arith, ints) }) in
    record { low = omega (arith, ints, all.low); high = omega (arith, ints, all.high) }

-- before a report that may come, the last reference is no more than 2^43 from 0
pub last_near : (h : Kept) (last : ℤ) → last ≡ h.reference → TakesReport h → IsNear 9007199254740992 last
last_near h last is room =
    let near : IsNear (8388608 * length (reports room.0)) (account room.0).reference = reference_near room.0 in
    record { low = omega (arith, ints, near.low, is, room.1.reference, room.3); high = omega (arith, ints, near.high, is, room.1.reference, room.3) }

-- its own is less than 2^44 from 0
pub next_near : (h : Kept) (last low r : ℤ) → last ≡ h.reference → TakesReport h → IsNearest (to_z w64 (of_z w64 last)) low r → IsNear 9007199263129600 r
next_near h last low r is room nearest =
    let near : IsNear 9007199254740992 last = last_near h last is room in
    let same : to_z w64 (of_z w64 last) ≡ last = omega (arith, ints, near.low, near.high) in
    record { low = omega (arith, ints, near.low, near.high, same, nearest.low); high = omega (arith, ints, near.low, near.high, same, nearest.high) }
