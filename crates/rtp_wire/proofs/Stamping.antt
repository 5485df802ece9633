-- A packet that is put at the end in three parts.
use Rattle.std.proofs.Common.{◌≡◌, ℕ, ◌+◌, ◌≤◌, List, ◌++◌, length, take, drop, refl, ap, ◌∙◌, arith, append_assoc, drop-drop, length-append, length-take, length-drop}
use Rattle.std.specs.Int.{w16, to_be_bytes}
use Rattle.rtp_wire.specs.Stamp.{stamped}

pub stamped_parts : (old packet behind two a b c : List ℕ) (place low : ℕ) → a ≡ old ++ take place packet → two ≡ to_be_bytes w16 low
    → b ≡ a ++ two → behind ≡ drop place packet → c ≡ b ++ drop 2 behind → c ≡ old ++ stamped packet place low
stamped_parts old packet behind two a b c place low ea et eb eh ec =
    ec ∙ ap (λ (xs : List ℕ). xs ++ drop 2 behind) (eb ∙ ap (λ (xs : List ℕ). xs ++ two) ea)
    ∙ append_assoc (old ++ take place packet) two (drop 2 behind)
    ∙ append_assoc old (take place packet) (two ++ drop 2 behind)
    ∙ ap (λ (xs : List ℕ). old ++ (take place packet ++ (xs ++ drop 2 behind))) et
    ∙ ap (λ (xs : List ℕ). old ++ (take place packet ++ (to_be_bytes w16 low ++ xs))) (ap (drop 2) eh ∙ drop-drop 2 place packet)

-- a stamp changes no length
pub length-stamped : (packet : List ℕ) (place low : ℕ) → place + 2 ≤ length packet → length (stamped packet place low) ≡ length packet
length-stamped packet place low fits =
    let two : length (to_be_bytes w16 low) ≡ 2 = refl in
    omega (arith, length-append (take place packet) (to_be_bytes w16 low ++ drop (place + 2) packet), length-append (to_be_bytes w16 low) (drop (place + 2) packet), length-take place packet, length-drop (place + 2) packet)
