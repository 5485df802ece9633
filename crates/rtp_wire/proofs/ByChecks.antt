-- Reading a packet, by the first check that fails.
use Rattle.std.proofs.Common.{◌≡◌, ℕ, ◌+◌, ◌/◌, ◌%◌, ◌<◌, ◌≤◌, ◌==◌, inl, inr, if◌then◌else◌, nat_lt, List, length, drop, slice_index, length-take, length-drop, refl, ap, sym, subst, ◌∙◌, arith, Result, Ok, Err, eq-eqb}
use Rattle.std.proofs.lemmas.Bool.{cases_eq, cases_lt, ne_eqb, lt-ltb, le-ltb}
use Rattle.rtp_wire.specs.declared.packet.WireFault.{WireFault}
use Rattle.rtp_wire.specs.declared.packet.WireFault.TheVariants.{Short, Long, Version, BadExtension, NoExtension}
use Rattle.gcc_units.specs.declared.limits.TheConstants.{LEAST_PACKET, GREATEST_PACKET}
use Rattle.rtp_wire.specs.Place.{field16, sources_end, extension_start, extension_len, extension, header_len, walk, place_of}
use Rattle.rtp_wire.specs.Elements.{IsOfOneKind}
use Rattle.rtp_wire.specs.Checks.{Check, fixed_header, size, version, sources, extension_bit, extension_head, one_byte_form, extension_words, elements, number, order, Passes, fault_of, FailsFirst, IsPlace, IsByChecks}
use Rattle.rtp_wire.proofs.ByElements.{Tells, tells, one_kind}

-- the check of a number
check_at : ℕ → Check
check_at n =
    if n == 1 then fixed_header
    else (if n == 2 then size
    else (if n == 3 then version
    else (if n == 4 then sources
    else (if n == 5 then extension_bit
    else (if n == 6 then extension_head
    else (if n == 7 then one_byte_form
    else (if n == 8 then extension_words
    else (if n == 9 then elements else number))))))))

check_at-order : (c : Check) → check_at (order c) ≡ c
unfolding check_at
check_at-order fixed_header = refl
check_at-order size = refl
check_at-order version = refl
check_at-order sources = refl
check_at-order extension_bit = refl
check_at-order extension_head = refl
check_at-order one_byte_form = refl
check_at-order extension_words = refl
check_at-order elements = refl
check_at-order number = refl

same_check : (c d : Check) → order c ≡ order d → c ≡ d
same_check c d e = sym (check_at-order c) ∙ ap check_at e ∙ check_at-order d

order_bounds : (c : Check) → (1 ≤ order c) × (order c < 11)
order_bounds fixed_header = (omega arith, omega arith)
order_bounds size = (omega arith, omega arith)
order_bounds version = (omega arith, omega arith)
order_bounds sources = (omega arith, omega arith)
order_bounds extension_bit = (omega arith, omega arith)
order_bounds extension_head = (omega arith, omega arith)
order_bounds one_byte_form = (omega arith, omega arith)
order_bounds extension_words = (omega arith, omega arith)
order_bounds elements = (omega arith, omega arith)
order_bounds number = (omega arith, omega arith)

-- the checks before number n pass
abbrev PassBefore : ℕ → ℕ → List ℕ → Type 0
PassBefore n id bytes = (c : Check) → order c < n → Passes c id bytes

first : (id : ℕ) (bytes : List ℕ) → PassBefore 1 id bytes
first id bytes c h = absurd (omega (arith, order_bounds c))

-- one check more passes
more : (id : ℕ) (bytes : List ℕ) (n : ℕ) (d : Check) → order d ≡ n → PassBefore n id bytes → Passes d id bytes → PassBefore (n + 1) id bytes
more id bytes n d at before here c h = elim (cases_lt (order c) n) [
  | inl lt ↦ before c lt
  | inr ge ↦ subst (λ e. Passes e id bytes) (same_check d c (omega arith)) here
]

-- what reading gives, told by the checks
abbrev Outcome : ℕ → List ℕ → Result ℕ WireFault → Type 0
Outcome id bytes (Ok place) = IsPlace id bytes place
Outcome id bytes (Err fault) = (check : Check) × FailsFirst check id bytes × (fault_of check ≡ fault)

fails : (id : ℕ) (bytes : List ℕ) (c : Check) → PassBefore (order c) id bytes → (Passes c id bytes → ⊥) → Outcome id bytes (Err (fault_of c))
fails id bytes c before not = (c, record { fails = not; before = before }, refl)

-- the last two checks
by_walk : (id : ℕ) (bytes : List ℕ) (r : Result ℕ WireFault) → IsOfOneKind id (extension bytes) → PassBefore 9 id bytes
    → Tells id (extension_start bytes) (extension bytes) r → Outcome id bytes r
by_walk id bytes (Ok place) kind before (at, n, e) = record {
  passes = λ c.
      more id bytes 10 number refl (more id bytes 9 elements refl before (kind.not_cut at n)) (at, n) c (omega (arith, order_bounds c));
  at = at;
  number = n;
  place_is = e;
}
by_walk id bytes (Err NoExtension) kind before t =
    fails id bytes number (more id bytes 9 elements refl before (kind.not_both t)) (λ found. kind.not_none found.0 found.1 t)
by_walk id bytes (Err BadExtension) kind before t = fails id bytes elements before (λ whole. whole t)
by_walk id bytes (Err Short) kind before t = absurd t
by_walk id bytes (Err Long) kind before t = absurd t
by_walk id bytes (Err Version) kind before t = absurd t

walk_told : (id at : ℕ) (xs : List ℕ) → 1 ≤ id → id ≤ 14 → Tells id at xs (walk id at 0 xs)
walk_told id at xs some few =
    let e : at + 0 ≡ at = omega arith in
    subst (λ k. Tells id k xs (walk id at 0 xs)) e (tells id at 0 xs some few (omega arith))

-- what place_of asks behind the version
rest_of : ℕ → List ℕ → Result ℕ WireFault
rest_of id bytes =
    if nat_lt (length bytes) (sources_end bytes) then Err Short
    else (if slice_index bytes 0 / 16 % 2 == 0 then Err NoExtension
    else (if nat_lt (length bytes) (extension_start bytes) then Err BadExtension
    else (if field16 (sources_end bytes) bytes == 48862 then
    (if nat_lt (length bytes) (extension_start bytes + extension_len bytes) then Err BadExtension
    else walk id (extension_start bytes) 0 (extension bytes))
    else Err NoExtension)))

behind_version : (id : ℕ) (bytes : List ℕ) → 1 ≤ id → id ≤ 14 → PassBefore 4 id bytes → Outcome id bytes (rest_of id bytes)
unfolding rest_of
behind_version id bytes some few p4 = elim (cases_lt (length bytes) (sources_end bytes)) [
  | inl short ↦ rw (lt-ltb (length bytes) (sources_end bytes) short) (fails id bytes sources p4 (λ h. omega (arith, h, short)))
  | inr there ↦
      let p5 = more id bytes 4 sources refl p4 there in
      rw (le-ltb (length bytes) (sources_end bytes) there)
      (elim (cases_eq (slice_index bytes 0 / 16 % 2) 0) [
        | inl clear ↦ rw (eq-eqb (slice_index bytes 0 / 16 % 2) 0 clear) (fails id bytes extension_bit p5 (λ h. omega (arith, h, clear)))
        | inr set ↦
            let p6 = more id bytes 5 extension_bit refl p5 (omega (arith, set)) in
            rw (ne_eqb (slice_index bytes 0 / 16 % 2) 0 set)
            (elim (cases_lt (length bytes) (extension_start bytes)) [
              | inl short ↦ rw (lt-ltb (length bytes) (extension_start bytes) short) (fails id bytes extension_head p6 (λ h. omega (arith, h, short)))
              | inr head ↦
                  let p7 = more id bytes 6 extension_head refl p6 head in
                  rw (le-ltb (length bytes) (extension_start bytes) head)
                  (elim (cases_eq (field16 (sources_end bytes) bytes) 48862) [
                    | inr other ↦ rw (ne_eqb (field16 (sources_end bytes) bytes) 48862 other) (fails id bytes one_byte_form p7 other)
                    | inl form ↦
                        let p8 = more id bytes 7 one_byte_form refl p7 form in
                        rw (eq-eqb (field16 (sources_end bytes) bytes) 48862 form)
                        (elim (cases_lt (length bytes) (extension_start bytes + extension_len bytes)) [
                          | inl short ↦ rw (lt-ltb (length bytes) (extension_start bytes + extension_len bytes) short)
                              (fails id bytes extension_words p8 (λ h. omega (arith, h, short)))
                          | inr words ↦ rw (le-ltb (length bytes) (extension_start bytes + extension_len bytes) words)
                              (by_walk id bytes (walk id (extension_start bytes) 0 (extension bytes)) (one_kind id (extension bytes) some few)
                              (more id bytes 8 extension_words refl p8 words) (walk_told id (extension_start bytes) (extension bytes) some few))
                        ])
                  ])
            ])
      ])
]

pub outcome : (id : ℕ) (bytes : List ℕ) → 1 ≤ id → id ≤ 14 → Outcome id bytes (place_of id bytes)
unfolding place_of rest_of
outcome id bytes some few =
    let p1 = first id bytes in
    elim (cases_lt (length bytes) LEAST_PACKET) [
      | inl short ↦ rw (lt-ltb (length bytes) LEAST_PACKET short) (fails id bytes fixed_header p1 (λ h. omega (arith, h, short)))
      | inr header ↦
          let p2 = more id bytes 1 fixed_header refl p1 header in
          rw (le-ltb (length bytes) LEAST_PACKET header)
          (elim (cases_lt GREATEST_PACKET (length bytes)) [
            | inl long ↦ rw (lt-ltb GREATEST_PACKET (length bytes) long) (fails id bytes size p2 (λ h. omega (arith, h, long)))
            | inr fits ↦
                let p3 = more id bytes 2 size refl p2 fits in
                rw (le-ltb GREATEST_PACKET (length bytes) fits)
                (elim (cases_eq (slice_index bytes 0 / 64) 2) [
                  | inr other ↦ rw (ne_eqb (slice_index bytes 0 / 64) 2 other) (fails id bytes version p3 other)
                  | inl two ↦ rw (eq-eqb (slice_index bytes 0 / 64) 2 two) (behind_version id bytes some few (more id bytes 3 version refl p3 two))
                ])
          ])
    ]

-- ---- the law

decided : (id : ℕ) (bytes : List ℕ) (fault : WireFault) (r : Result ℕ WireFault) → Outcome id bytes r
    → ((check : Check) × FailsFirst check id bytes × (fault_of check ≡ fault)) → r ≡ Err fault
decided id bytes fault (Ok place) told (check, f, e) = absurd (f.fails (told.passes check))
decided id bytes fault (Err other) (d, g, ge) (check, f, e) = elim (cases_lt (order check) (order d)) [
  | inl lt ↦ absurd (f.fails (g.before check lt))
  | inr ge' ↦ elim (cases_lt (order d) (order check)) [
    | inl lt ↦ absurd (g.fails (f.before d lt))
    | inr le ↦ ap Err (sym ge ∙ ap fault_of (same_check d check (omega arith)) ∙ e)
  ]
]

placed : (id : ℕ) (bytes : List ℕ) (place : ℕ) (r : Result ℕ WireFault) → IsOfOneKind id (extension bytes) → Outcome id bytes r → IsPlace id bytes place → r ≡ Ok place
placed id bytes place (Ok other) kind told p = ap Ok (told.place_is ∙ ap (λ k. extension_start bytes + k) (kind.same told.at p.at told.number p.number) ∙ sym p.place_is)
placed id bytes place (Err fault) kind (d, g, e) p = absurd (g.fails (p.passes d))

pub by_checks : (id : ℕ) (bytes : List ℕ) → 1 ≤ id → id ≤ 14 → IsByChecks id bytes
by_checks id bytes some few = record {
  faults = λ fault.
      (λ e. subst (λ r. Outcome id bytes r) e (outcome id bytes some few), decided id bytes fault (place_of id bytes) (outcome id bytes some few));
  places = λ place.
      (λ e. subst (λ r. Outcome id bytes r) e (outcome id bytes some few), placed id bytes place (place_of id bytes) (one_kind id (extension bytes) some few) (outcome id bytes some few));
}

-- ---- where a place can be

pub place_bounds : (id : ℕ) (bytes : List ℕ) (place : ℕ) → 1 ≤ id → id ≤ 14 → place_of id bytes ≡ Ok place
    → (16 ≤ place) × (place + 2 ≤ length bytes) × (length bytes ≤ GREATEST_PACKET)
place_bounds id bytes place some few e =
    let p : IsPlace id bytes place = subst (λ r. Outcome id bytes r) e (outcome id bytes some few) in (
      omega (arith, p.place_is),
      omega (arith, p.place_is, p.number.place, p.passes extension_words, length-take (extension_len bytes) (drop (extension_start bytes) bytes), length-drop (extension_start bytes) bytes),
      p.passes size,
    )

-- a packet that is read ends behind its header
pub header_inside : (id : ℕ) (bytes : List ℕ) (place : ℕ) → 1 ≤ id → id ≤ 14 → place_of id bytes ≡ Ok place → header_len bytes ≤ length bytes
header_inside id bytes place some few e =
    let p : IsPlace id bytes place = subst (λ r. Outcome id bytes r) e (outcome id bytes some few) in
    p.passes extension_words
