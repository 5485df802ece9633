-- The line is no faster than its rate.
use Rattle.std.proofs.Common.{◌≡◌, ℕ, ◌+◌, ◌-◌, ◌*◌, ◌≤◌, max, Bool, true, false, if◌then◌else◌, List, [], ◌∷◌, ◌++◌, refl, ◌∙◌, append-nil, append_assoc, arith, mul-add, mul_comm, le_refl}
use Rattle.std.proofs.lemmas.Grind.{div_ceil_times}
use Rattle.std.proofs.lemmas.List.Sums.{sum_by-cons}
use Rattle.std.proofs.lemmas.Nat.{mul-le}
use Rattle.gcc_units.specs.Walk.{each_by}
use Rattle.gcc_units.specs.declared.limits.TheConstants.{BYTE}
use Rattle.link_path.specs.declared.link.LinkSettings.{LinkSettings}
use Rattle.link_path.specs.Link.{Offer, sent_by, line_time, free_after, is_dropped, arrival_at}
use Rattle.link_path.specs.KeptLink.{IsLink}
use Rattle.link_path.specs.LinkLaws.{time_of, bytes_of, times_through, bytes_through}
use Rattle.link_path.proofs.Offered.{free-push}

times-cons : (s : LinkSettings) (before between : List Offer) (o : Offer)
    → times_through s before (o ∷ between) ≡ time_of s before o + times_through s (before ++ o ∷ []) between
times-cons s before between o = sum_by-cons (λ (n : ℕ). n) (time_of s before o) (each_by (time_of s) (before ++ o ∷ []) between)

bytes-cons : (s : LinkSettings) (before between : List Offer) (o : Offer)
    → bytes_through s before (o ∷ between) ≡ bytes_of s before o + bytes_through s (before ++ o ∷ []) between
bytes-cons s before between o = sum_by-cons (λ (n : ℕ). n) (bytes_of s before o) (each_by (bytes_of s) (before ++ o ∷ []) between)

free-one : (free moment time : ℕ) (b : Bool) → free + (if b then 0 else time) ≤ (if b then free else max free moment + time)
free-one free moment time true = omega arith
free-one free moment time false = omega arith

free-more : (s : LinkSettings) (before : List Offer) (o : Offer) → free_after s before + time_of s before o ≤ free_after s (before ++ o ∷ [])
free-more s before o = rw (free-push s before o) (free-one (free_after s before) o.moment (line_time s o) (is_dropped s before o))

-- the line sends for all these times
free-through : (s : LinkSettings) (before between : List Offer) → free_after s before + times_through s before between ≤ free_after s (before ++ between)
free-through s before [] = rw append-nil (omega arith)
free-through s before (o ∷ between) =
    let rest : free_after s (before ++ o ∷ []) + times_through s (before ++ o ∷ []) between ≤ free_after s (before ++ o ∷ between) =
    rw append_assoc at (free-through s (before ++ o ∷ []) between) in
    omega (arith, rest, times-cons s before between o, free-more s before o)

sent-then : (s : LinkSettings) (before : List Offer) (o : Offer) → is_dropped s before o ≡ false → free_after s (before ++ o ∷ []) ≡ sent_by s (free_after s before) o
sent-then s before o goes = free-push s before o ∙ (rw goes refl)

pub times : (s : LinkSettings) (before between : List Offer) (o p : Offer) → is_dropped s before o ≡ false
    → arrival_at s before o + times_through s (before ++ o ∷ []) between + line_time s p ≤ arrival_at s (before ++ o ∷ between) p
times s before between o p goes =
    let rest : free_after s (before ++ o ∷ []) + times_through s (before ++ o ∷ []) between ≤ free_after s (before ++ o ∷ between) =
    rw append_assoc at (free-through s (before ++ o ∷ []) between) in
    omega (arith, rest, sent-then s before o goes)

carries : (s : LinkSettings) (o : Offer) → IsLink s → BYTE * o.size ≤ s.rate * line_time s o
carries s o link = rw (mul_comm s.rate (line_time s o)) (div_ceil_times (BYTE * o.size) s.rate (omega (arith, link.least_rate))).0

carries-one : (rate size time : ℕ) (b : Bool) → BYTE * size ≤ rate * time → BYTE * (if b then 0 else size) ≤ rate * (if b then 0 else time)
carries-one rate size time true h = omega arith
carries-one rate size time false h = h

carries-all : (s : LinkSettings) (before between : List Offer) → IsLink s → BYTE * bytes_through s before between ≤ s.rate * times_through s before between
carries-all s before [] link = omega arith
carries-all s before (o ∷ between) link =
    rw (bytes-cons s before between o, times-cons s before between o, mul-add s.rate (time_of s before o) (times_through s (before ++ o ∷ []) between))
    (omega (arith, carries-one s.rate o.size (line_time s o) (is_dropped s before o) (carries s o link), carries-all s (before ++ o ∷ []) between link))

bits-by : (rate bytes size times time first last : ℕ) → BYTE * bytes ≤ rate * times → BYTE * size ≤ rate * time → first + times + time ≤ last → BYTE * (bytes + size) ≤ rate * (last - first)
bits-by rate bytes size times time first last h k l =
    omega (arith, h, k, mul-add rate times time, mul-le rate (times + time) rate (last - first) (le_refl rate) (omega arith))

pub bits : (s : LinkSettings) (before between : List Offer) (o p : Offer) → IsLink s → is_dropped s before o ≡ false
    → BYTE * (bytes_through s (before ++ o ∷ []) between + p.size) ≤ s.rate * (arrival_at s (before ++ o ∷ between) p - arrival_at s before o)
bits s before between o p link goes =
    bits-by s.rate (bytes_through s (before ++ o ∷ []) between) p.size (times_through s (before ++ o ∷ []) between) (line_time s p) (arrival_at s before o) (arrival_at s (before ++ o ∷ between) p)
    (carries-all s (before ++ o ∷ []) between link) (carries s p link) (times s before between o p goes)
