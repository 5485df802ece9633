-- A packet that is stamped at the place of its number is read as before.
use Rattle.std.proofs.Common.{◌≡◌, ℕ, zero, suc, ◌+◌, ◌-◌, ◌*◌, ◌/◌, ◌%◌, ◌<◌, ◌≤◌, ◌==◌, inl, inr, Bool, true, false, cond, nat_lt, List, [], ◌∷◌, ◌++◌, length, take, drop, get_or, Result, Ok, Err, refl, sym, ap, subst, ◌∙◌, arith, length-take, length-drop, get_or-drop, w16, eq-eqb}
use Rattle.std.specs.Int.{to_be_bytes}
use Rattle.std.proofs.lemmas.Bool.{cases_eq, cases_lt, ne_eqb, lt-ltb, le-ltb, le-leb, lt-leb}
use Rattle.std.proofs.lemmas.List.{get_or-take, get_or_append_left, get_or_past}
use Rattle.gcc_units.specs.declared.limits.TheConstants.{LEAST_PACKET, GREATEST_PACKET}
use Rattle.rtp_wire.specs.declared.packet.WireFault.{WireFault}
use Rattle.rtp_wire.specs.declared.packet.WireFault.TheVariants.{Short, Long, Version, BadExtension, NoExtension}
use Rattle.rtp_wire.specs.Place.{field16, sources_end, extension_start, extension_len, extension, walk, place_of}
use Rattle.rtp_wire.specs.Stamp.{stamped}
use Rattle.rtp_wire.proofs.Stamping.{length-stamped}

-- ---- the walk looks at no byte from the place on

walk_above : (id at n : ℕ) (xs : List ℕ) (place : ℕ) → walk id at n xs ≡ Ok place → at < place
unfolding walk
walk_above id at n [] place e = absurd cc
walk_above id at (suc n) (b ∷ rest) place e = omega (arith, walk_above id (at + 1) n rest place e)
walk_above id at zero (b ∷ rest) place e = elim (cases_eq b 0) [
  | inl none ↦ omega (arith, walk_above id (at + 1) 0 rest place (rw (eq-eqb b 0 none) at e))
  | inr some ↦
      let e1 = rw (ne_eqb b 0 some) at e in
      elim (cases_lt b 16) [
        | inl low ↦ absurd (let k = rw (lt-ltb b 16 low) at e1 in cc k)
        | inr big ↦
            let e2 = rw (le-ltb b 16 big) at e1 in
            elim (cases_lt b 240) [
              | inr high ↦ absurd (let k = rw (le-leb 240 b high) at e2 in cc k)
              | inl below ↦
                  let e3 = rw (lt-leb 240 b below) at e2 in
                  elim (cases_lt (length rest) (b % 16 + 1)) [
                    | inl cut ↦ absurd (let k = rw (lt-ltb (length rest) (b % 16 + 1) cut) at e3 in cc k)
                    | inr fits ↦
                        let e4 = rw (le-ltb (length rest) (b % 16 + 1) fits) at e3 in
                        elim (cases_eq b (16 * id + 1)) [
                          | inl ours ↦ let k = rw (eq-eqb b (16 * id + 1) ours) at e4 in let same : at + 1 ≡ place = cc k in omega (arith, same)
                          | inr other ↦ omega (arith, walk_above id (at + 1) (b % 16 + 1) rest place (rw (ne_eqb b (16 * id + 1) other) at e4))
                        ]
                  ]
            ]
      ]
]

-- the same up to a place
abbrev Agree : ℕ → List ℕ → List ℕ → Type 0
Agree n xs ys = (i : ℕ) → i < n → get_or xs i 0 ≡ get_or ys i 0

Agree-rest : (at place b c : ℕ) (xs ys : List ℕ) → Agree (place - at) (b ∷ xs) (c ∷ ys) → Agree (place - (at + 1)) xs ys
Agree-rest at place b c xs ys same i lt = same (suc i) (omega (arith, lt))

walk_same : (id at n : ℕ) (xs ys : List ℕ) (place : ℕ) → length xs ≡ length ys → Agree (place - at) xs ys → walk id at n xs ≡ Ok place → walk id at n ys ≡ Ok place
unfolding walk
walk_same id at n [] ys place len same e = absurd cc
walk_same id at n (b ∷ xs) [] place len same e = absurd (omega (arith, len))
walk_same id at (suc n) (b ∷ xs) (c ∷ ys) place len same e =
    walk_same id (at + 1) n xs ys place (omega (arith, len)) (Agree-rest at place b c xs ys same) e
walk_same id at zero (b ∷ xs) (c ∷ ys) place len same e =
    let above : at < place = walk_above id at 0 (b ∷ xs) place e in
    let first : b ≡ c = same 0 (omega (arith, above)) in
    let short : length xs ≡ length ys = omega (arith, len) in
    let more = Agree-rest at place b c xs ys same in
    subst (λ k. walk id at 0 (k ∷ ys) ≡ Ok place) first
    (elim (cases_eq b 0) [
      | inl none ↦ rw (eq-eqb b 0 none) (walk_same id (at + 1) 0 xs ys place short more (rw (eq-eqb b 0 none) at e))
      | inr some ↦
          let e1 = rw (ne_eqb b 0 some) at e in
          rw (ne_eqb b 0 some)
          (elim (cases_lt b 16) [
            | inl low ↦ absurd (let k = rw (lt-ltb b 16 low) at e1 in cc k)
            | inr big ↦
                let e2 = rw (le-ltb b 16 big) at e1 in
                rw (le-ltb b 16 big)
                (elim (cases_lt b 240) [
                  | inr high ↦ absurd (let k = rw (le-leb 240 b high) at e2 in cc k)
                  | inl below ↦
                      let e3 = rw (lt-leb 240 b below) at e2 in
                      rw (lt-leb 240 b below)
                      (elim (cases_lt (length xs) (b % 16 + 1)) [
                        | inl cut ↦ absurd (let k = rw (lt-ltb (length xs) (b % 16 + 1) cut) at e3 in cc k)
                        | inr fits ↦
                            let e4 = rw (le-ltb (length xs) (b % 16 + 1) fits) at e3 in
                            let fit : b % 16 + 1 ≤ length ys = omega (arith, short, fits) in
                            rw (le-ltb (length ys) (b % 16 + 1) fit)
                            (elim (cases_eq b (16 * id + 1)) [
                              | inl ours ↦ rw (eq-eqb b (16 * id + 1) ours) (rw (eq-eqb b (16 * id + 1) ours) at e4)
                              | inr other ↦ rw (ne_eqb b (16 * id + 1) other) (walk_same id (at + 1) (b % 16 + 1) xs ys place short more (rw (ne_eqb b (16 * id + 1) other) at e4))
                            ])
                      ])
                ])
          ])
    ])

-- ---- the checks before the walk

abbrev chain : Bool → Bool → Bool → Bool → Bool → Bool → Bool → Bool → Result ℕ WireFault → Result ℕ WireFault
chain a b c d e f g h w =
    cond a (Err Short) (cond b (Err Long) (cond c (cond d (Err Short) (cond e (Err NoExtension) (cond f (Err BadExtension) (cond g (cond h (Err BadExtension) w) (Err NoExtension))))) (Err Version)))

-- where they pass, what is given is what the walk gives
record Passed (a b c d e f g h : Bool) (w : Result ℕ WireFault) (place : ℕ) : Type 0 where
  walked : w ≡ Ok place
  others : (v : Result ℕ WireFault) → chain a b c d e f g h v ≡ v

passed : (a b c d e f g h : Bool) (w : Result ℕ WireFault) (place : ℕ) → chain a b c d e f g h w ≡ Ok place → Passed a b c d e f g h w place
passed true b c d e f g h w place is = absurd cc
passed false true c d e f g h w place is = absurd cc
passed false false false d e f g h w place is = absurd cc
passed false false true true e f g h w place is = absurd cc
passed false false true false true f g h w place is = absurd cc
passed false false true false false true g h w place is = absurd cc
passed false false true false false false false h w place is = absurd cc
passed false false true false false false true true w place is = absurd cc
passed false false true false false false true false w place is = record { walked = is; others = λ v. refl }

-- the checks by a length, the first byte, the profile and the length of the extension
abbrev by_parts : ℕ → ℕ → ℕ → ℕ → Result ℕ WireFault → Result ℕ WireFault
by_parts len first profile words w =
    let sources : ℕ = LEAST_PACKET + 4 * (first % 16) in
    chain (nat_lt len LEAST_PACKET) (nat_lt GREATEST_PACKET len) (first / 64 == 2) (nat_lt len sources) (first / 16 % 2 == 0) (nat_lt len (sources + 4)) (profile == 48862)
    (nat_lt len (sources + 4 + 4 * words)) w

record PartsPassed (len first profile words : ℕ) (w : Result ℕ WireFault) (place : ℕ) : Type 0 where
  walked : w ≡ Ok place
  others : (v : Result ℕ WireFault) → by_parts len first profile words v ≡ v

parts_passed : (len first profile words : ℕ) (w : Result ℕ WireFault) (place : ℕ) → by_parts len first profile words w ≡ Ok place → PartsPassed len first profile words w place
parts_passed len first profile words w place is =
    let sources : ℕ = LEAST_PACKET + 4 * (first % 16) in
    let p = passed (nat_lt len LEAST_PACKET) (nat_lt GREATEST_PACKET len) (first / 64 == 2) (nat_lt len sources) (first / 16 % 2 == 0) (nat_lt len (sources + 4)) (profile == 48862)
    (nat_lt len (sources + 4 + 4 * words)) w place is in
    record { walked = p.walked; others = p.others }

place_by_parts : (id : ℕ) (bytes : List ℕ)
    → place_of id bytes ≡ by_parts (length bytes) (get_or bytes 0 0) (field16 (sources_end bytes) bytes) (field16 (sources_end bytes + 2) bytes) (walk id (extension_start bytes) 0 (extension bytes))
unfolding place_of
place_by_parts id bytes = refl

same16 : (at n : ℕ) (xs ys : List ℕ) → at + 2 ≤ n → Agree n xs ys → field16 at xs ≡ field16 at ys
same16 at n xs ys le same =
    let at0 : get_or (drop at xs) 0 0 ≡ get_or (drop at ys) 0 0 = get_or-drop at xs 0 0 ∙ same (at + 0) (omega (arith, le)) ∙ sym (get_or-drop at ys 0 0) in
    let at1 : get_or (drop at xs) 1 0 ≡ get_or (drop at ys) 1 0 = get_or-drop at xs 1 0 ∙ same (at + 1) (omega (arith, le)) ∙ sym (get_or-drop at ys 1 0) in
    omega (arith, at0, at1)

Agree-extension : (len start place : ℕ) (xs ys : List ℕ) → Agree place xs ys → Agree (place - start) (take len (drop start xs)) (take len (drop start ys))
Agree-extension len start place xs ys same i lt = elim (cases_lt i len) [
  | inl inside ↦
      get_or-take len (drop start xs) i 0 inside ∙ get_or-drop start xs i 0 ∙ same (start + i) (omega (arith, lt)) ∙ sym (get_or-drop start ys i 0) ∙ sym (get_or-take len (drop start ys) i 0 inside)
  | inr past ↦
      get_or_past (take len (drop start xs)) i 0 (omega (arith, past, length-take len (drop start xs))) ∙ sym (get_or_past (take len (drop start ys)) i 0 (omega (arith, past, length-take len (drop start ys))))
]

place_same : (id : ℕ) (xs ys : List ℕ) (place : ℕ) → length xs ≡ length ys → Agree place xs ys → place_of id xs ≡ Ok place → place_of id ys ≡ Ok place
place_same id xs ys place len same is =
    let p = parts_passed (length xs) (get_or xs 0 0) (field16 (sources_end xs) xs) (field16 (sources_end xs + 2) xs) (walk id (extension_start xs) 0 (extension xs)) place (sym (place_by_parts id xs) ∙ is) in
    let above : extension_start xs < place = walk_above id (extension_start xs) 0 (extension xs) place p.walked in
    let first : get_or xs 0 0 ≡ get_or ys 0 0 = same 0 (omega (arith, above)) in
    let sources : sources_end xs ≡ sources_end ys = ap (λ k. LEAST_PACKET + 4 * (k % 16)) first in
    let profile : field16 (sources_end xs) xs ≡ field16 (sources_end ys) ys = same16 (sources_end xs) place xs ys (omega (arith, above)) same ∙ ap (λ k. field16 k ys) sources in
    let words : field16 (sources_end xs + 2) xs ≡ field16 (sources_end ys + 2) ys = same16 (sources_end xs + 2) place xs ys (omega (arith, above)) same ∙ ap (λ k. field16 (k + 2) ys) sources in
    let walked : walk id (extension_start xs) 0 (take (extension_len xs) (drop (extension_start xs) ys)) ≡ Ok place =
    walk_same id (extension_start xs) 0 (extension xs) (take (extension_len xs) (drop (extension_start xs) ys)) place
    (omega (arith, length-take (extension_len xs) (drop (extension_start xs) xs), length-take (extension_len xs) (drop (extension_start xs) ys), length-drop (extension_start xs) xs, length-drop (extension_start xs) ys, len))
    (Agree-extension (extension_len xs) (extension_start xs) place xs ys same) p.walked in
    let moved : walk id (extension_start ys) 0 (extension ys) ≡ Ok place =
    ap (λ k. walk id (k + 4) 0 (take (extension_len ys) (drop (k + 4) ys))) (sym sources)
    ∙ ap (λ k. walk id (extension_start xs) 0 (take (4 * k) (drop (extension_start xs) ys))) (sym words)
    ∙ walked in
    place_by_parts id ys
    ∙ ap (λ k. by_parts k (get_or ys 0 0) (field16 (sources_end ys) ys) (field16 (sources_end ys + 2) ys) (walk id (extension_start ys) 0 (extension ys))) (sym len)
    ∙ ap (λ k. by_parts (length xs) k (field16 (sources_end ys) ys) (field16 (sources_end ys + 2) ys) (walk id (extension_start ys) 0 (extension ys))) (sym first)
    ∙ ap (λ k. by_parts (length xs) (get_or xs 0 0) k (field16 (sources_end ys + 2) ys) (walk id (extension_start ys) 0 (extension ys))) (sym profile)
    ∙ ap (λ k. by_parts (length xs) (get_or xs 0 0) (field16 (sources_end xs) xs) k (walk id (extension_start ys) 0 (extension ys))) (sym words)
    ∙ p.others (walk id (extension_start ys) 0 (extension ys))
    ∙ moved

-- ---- the stamp

stamped_agrees : (bytes : List ℕ) (place low : ℕ) → place ≤ length bytes → Agree place bytes (stamped bytes place low)
stamped_agrees bytes place low le i lt =
    let len : i < length (take place bytes) = omega (arith, length-take place bytes, lt) in
    sym (get_or_append_left (take place bytes) (to_be_bytes w16 low ++ drop (place + 2) bytes) 0 i len ∙ get_or-take place bytes i 0 lt)

pub stamped_is_read : (id : ℕ) (bytes : List ℕ) (place low : ℕ) → place + 2 ≤ length bytes → place_of id bytes ≡ Ok place → place_of id (stamped bytes place low) ≡ Ok place
stamped_is_read id bytes place low fits is =
    place_same id bytes (stamped bytes place low) place (sym (length-stamped bytes place low fits)) (stamped_agrees bytes place low (omega (arith, fits))) is
