-- Reading a NACK, by the first check that fails.
use Rattle.std.proofs.Common.{◌≡◌, ◌≢◌, ℕ, zero, suc, ◌+◌, ◌-◌, ◌*◌, ◌/◌, ◌%◌, ◌<◌, ◌≤◌, ◌==◌, inl, inr, Bool, true, false, nat_le, ◌&&◌, if◌then◌else◌, List, [], ◌∷◌, ◌++◌, length, take, drop, get_or, Result, Ok, Err, refl, sym, ap, subst, ◌∙◌, arith, length-append, length-drop, length-take, get_or-drop, eq-eqb}
use Rattle.std.proofs.lemmas.List.{take-append-drop, get_or-append-add}
use Rattle.std.proofs.Math.Seq.{take-append_seam}
use Rattle.std.specs.List.{flat_map}
use Rattle.std.proofs.lemmas.Bool.{eqb-true, cases_eq, cases_lt, cases_Bool, ne_eqb, lt-ltb, le-ltb, le-leb, leb-true}
use Rattle.nack_rtx.specs.declared.fault.NackFault.{NackFault}
use Rattle.nack_rtx.specs.declared.fault.NackFault.TheVariants.{Short, Length, Version, NotNack, Padding}
use Rattle.nack_rtx.specs.Naming.{pairs_in, named_by, first_of}
use Rattle.gcc_units.specs.Numbers.{number16, number32}
use Rattle.nack_rtx.specs.Spelling.{Asked, Spells, IsPadding, header, pair_bytes}
use Rattle.nack_rtx.specs.Reading.{padding_at, nack_of, last_byte, is_count, pair_bytes_in}
use Rattle.nack_rtx.specs.Checks.{order, CountsPadding, Passes, FailsFirst, IsByChecks}
use Rattle.nack_rtx.proofs.Pairs.{IsBytes, pairs_again, pairs_len, bytes_again, pairs_fit, pairs_some}
use Rattle.nack_rtx.proofs.Headers.{IsHeader, AreHeaded, header_parts, header_again}

-- ---- the order of the checks

check_at : ℕ → NackFault
check_at n = if n == 1 then Short else (if n == 2 then Length else (if n == 3 then Version else (if n == 4 then NotNack else Padding)))

check_at-order : (c : NackFault) → check_at (order c) ≡ c
unfolding check_at
check_at-order Short = refl
check_at-order Length = refl
check_at-order Version = refl
check_at-order NotNack = refl
check_at-order Padding = refl

same_check : (c d : NackFault) → order c ≡ order d → c ≡ d
same_check c d e = sym (check_at-order c) ∙ ap check_at e ∙ check_at-order d

order_bounds : (c : NackFault) → (1 ≤ order c) × (order c < 6)
order_bounds Short = (omega arith, omega arith)
order_bounds Length = (omega arith, omega arith)
order_bounds Version = (omega arith, omega arith)
order_bounds NotNack = (omega arith, omega arith)
order_bounds Padding = (omega arith, omega arith)

-- the checks before number n pass
abbrev PassBefore : ℕ → List ℕ → Type 0
PassBefore n bytes = (c : NackFault) → order c < n → Passes c bytes

first : (bytes : List ℕ) → PassBefore 1 bytes
first bytes c h = absurd (omega (arith, order_bounds c))

-- one check more passes
more : (bytes : List ℕ) (n : ℕ) (d : NackFault) → order d ≡ n → PassBefore n bytes → Passes d bytes → PassBefore (n + 1) bytes
more bytes n d at before here c h = elim (cases_lt (order c) n) [
  | inl lt ↦ before c lt
  | inr ge ↦ subst (λ e. Passes e bytes) (same_check d c (omega arith)) here
]

fails : (bytes : List ℕ) (c : NackFault) → PassBefore (order c) bytes → (Passes c bytes → ⊥) → FailsFirst c bytes
fails bytes c before not = record { fails = not; before = before }

-- ---- the header and the padding

-- so many bytes of padding
data Pads (bytes : List ℕ) : ℕ → Type 0 where
  none : get_or bytes 0 0 / 32 % 2 ≡ 0 → Pads bytes 0
  some : get_or bytes 0 0 / 32 % 2 ≡ 1 → CountsPadding bytes → Pads bytes (last_byte bytes)

record IsPadded (bytes : List ℕ) (n : ℕ) : Type 0 where
  head : IsHeader bytes
  pads : Pads bytes n

abbrev PaddingTold : List ℕ → Result ℕ NackFault → Type 0
PaddingTold bytes (Ok n) = IsPadded bytes n
PaddingTold bytes (Err fault) = FailsFirst fault bytes

all_three : (a b c : Bool) → (a && (b && c)) ≡ true → (a ≡ true) × (b ≡ true) × (c ≡ true)
all_three true true true e = (refl, refl, refl)
all_three true true false e = absurd cc
all_three true false c e = absurd cc
all_three false b c e = absurd cc

count_so : (bytes : List ℕ) → is_count bytes ≡ true → CountsPadding bytes
count_so bytes e =
    let p = all_three (last_byte bytes % 4 == 0) (nat_le 4 (last_byte bytes)) (nat_le (last_byte bytes + 16) (length bytes)) e in
    record { whole = eqb-true (last_byte bytes % 4) 0 p.0; some = leb-true 4 (last_byte bytes) p.1; inside = leb-true (last_byte bytes + 16) (length bytes) p.2 }

count_then : (bytes : List ℕ) → CountsPadding bytes → is_count bytes ≡ true
count_then bytes h =
    rw (
      eq-eqb (last_byte bytes % 4) 0 h.whole,
      le-leb 4 (last_byte bytes) h.some,
      le-leb (last_byte bytes + 16) (length bytes) h.inside,
    ) refl

no_count : (bytes : List ℕ) → is_count bytes ≡ false → CountsPadding bytes → ⊥
no_count bytes e h = let k = sym e ∙ count_then bytes h in cc k

pads_told : (bytes : List ℕ) → PassBefore 5 bytes → IsHeader bytes
    → PaddingTold bytes (if get_or bytes 0 0 / 32 % 2 == 0 then Ok 0 else (if is_count bytes then Ok (last_byte bytes) else Err Padding))
pads_told bytes p5 head = elim (cases_eq (get_or bytes 0 0 / 32 % 2) 0) [
  | inl clear ↦ rw (eq-eqb (get_or bytes 0 0 / 32 % 2) 0 clear) (record { head = head; pads = none clear })
  | inr other ↦
      let set : get_or bytes 0 0 / 32 % 2 ≡ 1 = omega (arith, other) in
      rw (ne_eqb (get_or bytes 0 0 / 32 % 2) 0 other)
      (elim (cases_Bool (is_count bytes)) [
        | inl is ↦ rw is (record { head = head; pads = some set (count_so bytes is) })
        | inr not ↦ rw not (fails bytes Padding p5 (λ h. no_count bytes not (h set)))
      ])
]

padding_told : (bytes : List ℕ) → PaddingTold bytes (padding_at bytes)
unfolding padding_at
padding_told bytes =
    let p1 = first bytes in
    elim (cases_lt (length bytes) 16) [
      | inl short ↦ rw (lt-ltb (length bytes) 16 short) (fails bytes Short p1 (λ h. omega (arith, h, short)))
      | inr long ↦
          let p2 = more bytes 1 Short refl p1 long in
          rw (le-ltb (length bytes) 16 long)
          (elim (cases_eq (length bytes) (4 * number16 bytes 2 + 4)) [
            | inr other ↦ rw (ne_eqb (length bytes) (4 * number16 bytes 2 + 4) other) (fails bytes Length p2 other)
            | inl words ↦
                let p3 = more bytes 2 Length refl p2 words in
                rw (eq-eqb (length bytes) (4 * number16 bytes 2 + 4) words)
                (elim (cases_eq (get_or bytes 0 0 / 64) 2) [
                  | inr other ↦ rw (ne_eqb (get_or bytes 0 0 / 64) 2 other) (fails bytes Version p3 other)
                  | inl two ↦
                      let p4 = more bytes 3 Version refl p3 two in
                      rw (eq-eqb (get_or bytes 0 0 / 64) 2 two)
                      (elim (cases_eq (get_or bytes 0 0 % 32) 1) [
                        | inr other ↦ rw (ne_eqb (get_or bytes 0 0 % 32) 1 other) (fails bytes NotNack p4 (λ h. other h.0))
                        | inl format ↦
                            rw (eq-eqb (get_or bytes 0 0 % 32) 1 format)
                            (elim (cases_eq (get_or bytes 1 0) 205) [
                              | inr other ↦ rw (ne_eqb (get_or bytes 1 0) 205 other) (fails bytes NotNack p4 (λ h. other h.1))
                              | inl kind ↦
                                  let p5 = more bytes 4 NotNack refl p4 (format, kind) in
                                  rw (eq-eqb (get_or bytes 1 0) 205 kind)
                                  (pads_told bytes p5 (record { long = long; words = words; version = two; format = format; kind = kind }))
                            ])
                      ])
                ])
          ])
    ]

-- ---- a NACK that is read is spelled

IsBytes-drop : (n : ℕ) (bytes : List ℕ) → IsBytes bytes → IsBytes (drop n bytes)
IsBytes-drop n bytes fits i = subst (λ b. b < 256) (sym (get_or-drop n bytes i 0)) (fits (n + i))

IsBytes-take : (n : ℕ) (bytes : List ℕ) → IsBytes bytes → IsBytes (take n bytes)
IsBytes-take zero bytes fits i = omega arith
IsBytes-take (suc n) [] fits i = omega arith
IsBytes-take (suc n) (b ∷ bytes) fits zero = fits 0
IsBytes-take (suc n) (b ∷ bytes) fits (suc i) = IsBytes-take n bytes (λ k. fits (suc k)) i

-- the bytes behind the pairs
record PaddingParts (bytes : List ℕ) (n : ℕ) : Type 0 where
  whole : n % 4 ≡ 0
  room : n + 16 ≤ length bytes
  pads : IsPadding (get_or bytes 0 0 / 32 % 2) (drop (length bytes - n - 12) (drop 12 bytes))

drop_all : (xs : List ℕ) (n : ℕ) → length xs ≤ n → drop n xs ≡ []
drop_all [] zero le = refl
drop_all [] (suc n) le = refl
drop_all (x ∷ xs) zero le = absurd (omega arith)
drop_all (x ∷ xs) (suc n) le = drop_all xs n (omega arith)

padding_by : (bytes : List ℕ) (n : ℕ) → 16 ≤ length bytes → Pads bytes n → PaddingParts bytes n
padding_by bytes n long (none zero_bit) = record {
  whole = refl;
  room = omega (arith, long);
  pads = (λ _. drop_all (drop 12 bytes) (length bytes - 0 - 12) (omega (arith, length-drop 12 bytes, long)), λ one. absurd (omega (arith, one, zero_bit)));
}
padding_by bytes n long (some set count) = record {
  whole = count.whole;
  room = count.inside;
  pads = (
    λ zero_bit. absurd (omega (arith, set, zero_bit)),
    λ _. let len : length (drop (length bytes - last_byte bytes - 12) (drop 12 bytes)) ≡ last_byte bytes =
        omega (arith, length-drop (length bytes - last_byte bytes - 12) (drop 12 bytes), length-drop 12 bytes, count.inside) in
        let at : 12 + (length bytes - last_byte bytes - 12 + (last_byte bytes - 1)) ≡ length bytes - 1 = omega (arith, count.inside, count.some) in
        record {
          some = omega (arith, len, count.some);
          whole = ap (λ k. k % 4) len ∙ count.whole;
          count = ap (λ k. get_or (drop (length bytes - last_byte bytes - 12) (drop 12 bytes)) (k - 1) 0) len
              ∙ get_or-drop (length bytes - last_byte bytes - 12) (drop 12 bytes) (last_byte bytes - 1) 0
              ∙ get_or-drop 12 bytes (length bytes - last_byte bytes - 12 + (last_byte bytes - 1)) 0
              ∙ ap (λ k. get_or bytes k 0) at
              ∙ sym len;
        },
  );
}

padding_parts : (bytes : List ℕ) (n : ℕ) → IsPadded bytes n → PaddingParts bytes n
padding_parts bytes n h = padding_by bytes n h.head.long h.pads

spells_it : (bytes : List ℕ) (n : ℕ) → IsBytes bytes → IsPadded bytes n
    → Spells (record { sender = number32 bytes 4; media = number32 bytes 8; lost = first_of (named_by (pairs_in (pair_bytes_in bytes n))) }) bytes
spells_it bytes n fits h =
    let p = padding_parts bytes n h in
    let cut : drop 12 bytes ≡ pair_bytes_in bytes n ++ drop (length bytes - n - 12) (drop 12 bytes) = sym (take-append-drop (length bytes - n - 12) (drop 12 bytes)) in
    let pairs : List (ℕ × ℕ) = pairs_in (pair_bytes_in bytes n) in
    let len : length (pair_bytes_in bytes n) ≡ length bytes - n - 12 = omega (arith, length-take (length bytes - n - 12) (drop 12 bytes), length-drop 12 bytes, h.head.long) in
    let b : IsBytes (pair_bytes_in bytes n) = IsBytes-take (length bytes - n - 12) (drop 12 bytes) (IsBytes-drop 12 bytes fits) in
    let quarter : length (pair_bytes_in bytes n) ≡ 4 * ((length bytes - n - 12) / 4) = omega (arith, len, h.head.words, p.whole, p.room) in
    record {
      pairs = pairs;
      padding = drop (length bytes - n - 12) (drop 12 bytes);
      bit = get_or bytes 0 0 / 32 % 2;
      bit_fits = omega arith;
      sender_fits = omega (arith, fits 4, fits 5, fits 6, fits 7);
      media_fits = omega (arith, fits 8, fits 9, fits 10, fits 11);
      some = pairs_some (pair_bytes_in bytes n) (omega (arith, len, p.room));
      fit = pairs_fit (pair_bytes_in bytes n) b;
      parts = header_parts bytes fits h.head
          ∙ ap (λ (xs : List ℕ). header (get_or bytes 0 0 / 32 % 2) (length bytes / 4 - 1) (number32 bytes 4) (number32 bytes 8) ++ xs)
          (cut ∙ ap (λ (xs : List ℕ). xs ++ drop (length bytes - n - 12) (drop 12 bytes)) (sym (bytes_again ((length bytes - n - 12) / 4) (pair_bytes_in bytes n) b quarter)));
      pads = p.pads;
      whole = omega (arith, h.head.words);
      short = omega (arith, h.head.words, fits 2, fits 3);
      lost = refl;
    }

-- ---- all checks pass

pads_pass : (bytes : List ℕ) (n : ℕ) → Pads bytes n → Passes Padding bytes
pads_pass bytes n (none clear) set = absurd (omega (arith, clear, set))
pads_pass bytes n (some is count) set = count

passes_all : (bytes : List ℕ) (n : ℕ) → IsPadded bytes n → (c : NackFault) → Passes c bytes
passes_all bytes n h Short = h.head.long
passes_all bytes n h Length = h.head.words
passes_all bytes n h Version = h.head.version
passes_all bytes n h NotNack = (h.head.format, h.head.kind)
passes_all bytes n h Padding = pads_pass bytes n h.pads

abbrev Outcome : List ℕ → Result Asked NackFault → Type 0
Outcome bytes (Ok n) = ((c : NackFault) → Passes c bytes) × Spells n bytes
Outcome bytes (Err fault) = FailsFirst fault bytes

by_padding : (bytes : List ℕ) (r : Result ℕ NackFault) → IsBytes bytes → PaddingTold bytes r → padding_at bytes ≡ r → Outcome bytes (nack_of bytes)
unfolding nack_of
by_padding bytes (Err fault) fits told e = rw e told
by_padding bytes (Ok n) fits told e = rw e (passes_all bytes n told, spells_it bytes n fits told)

outcome : (bytes : List ℕ) → IsBytes bytes → Outcome bytes (nack_of bytes)
outcome bytes fits = by_padding bytes (padding_at bytes) fits (padding_told bytes) refl

-- ---- what is spelled is read

pads_read : (bytes : List ℕ) (n : ℕ) → Pads bytes n → (if get_or bytes 0 0 / 32 % 2 == 0 then Ok 0 else (if is_count bytes then Ok (last_byte bytes) else Err Padding)) ≡ Ok n
pads_read bytes n (none clear) = rw (eq-eqb (get_or bytes 0 0 / 32 % 2) 0 clear) refl
pads_read bytes n (some set count) =
    let not : get_or bytes 0 0 / 32 % 2 ≢ 0 = omega (arith, set) in
    rw (ne_eqb (get_or bytes 0 0 / 32 % 2) 0 not, count_then bytes count) refl

padding_read : (bytes : List ℕ) (n : ℕ) → IsPadded bytes n → padding_at bytes ≡ Ok n
unfolding padding_at
padding_read bytes n h =
    rw (
      le-ltb (length bytes) 16 h.head.long,
      eq-eqb (length bytes) (4 * number16 bytes 2 + 4) h.head.words,
      eq-eqb (get_or bytes 0 0 / 64) 2 h.head.version,
      eq-eqb (get_or bytes 0 0 % 32) 1 h.head.format,
      eq-eqb (get_or bytes 1 0) 205 h.head.kind,
    ) (pads_read bytes n h.pads)

-- the padding of what is spelled
pads_again : (bytes body pairs padding : List ℕ) (bit sender media : ℕ) → bit < 2 → body ≡ pairs ++ padding → 4 ≤ length pairs → AreHeaded bytes body bit sender media → IsPadding bit padding
    → Pads bytes (length padding)
pads_again bytes body pairs padding bit sender media bits is some_pairs h pads = elim (cases_eq bit 0) [
  | inl clear ↦ subst (λ (xs : List ℕ). Pads bytes (length xs)) (sym (pads.0 clear)) (none (h.bit_is ∙ clear))
  | inr other ↦
      let set : bit ≡ 1 = omega (arith, other) in
      let ends = pads.1 set in
      let len : length body ≡ length pairs + length padding = ap length is ∙ length-append pairs padding in
      let at : length bytes - 1 ≡ 12 + (length pairs + (length padding - 1)) = omega (arith, h.len, len, ends.some) in
      let last : last_byte bytes ≡ length padding =
      ap (λ k. get_or bytes k 0) at
      ∙ sym (get_or-drop 12 bytes (length pairs + (length padding - 1)) 0)
      ∙ ap (λ (xs : List ℕ). get_or xs (length pairs + (length padding - 1)) 0) (h.body_is ∙ is)
      ∙ get_or-append-add pairs padding (length padding - 1) 0
      ∙ ends.count in
      subst (Pads bytes) last
      (some (h.bit_is ∙ set) (record { whole = ap (λ k. k % 4) last ∙ ends.whole; some = omega (arith, last, ends.some); inside = omega (arith, last, h.len, len, some_pairs) }))
]

abbrev of_fields : ℕ → ℕ → List ℕ → Asked
of_fields s m lost = record { sender = s; media = m; lost = lost }

same_asked : (n m : Asked) → n.sender ≡ m.sender → n.media ≡ m.media → n.lost ≡ m.lost → n ≡ m
same_asked n m a b c =
    ap (λ x. of_fields x n.media n.lost) a ∙ ap (λ x. of_fields m.sender x n.lost) b ∙ ap (λ (x : List ℕ). of_fields m.sender m.media x) c

pub spelled_is_read : (bytes : List ℕ) (n : Asked) → Spells n bytes → nack_of bytes ≡ Ok n
unfolding nack_of
spelled_is_read bytes n s =
    let pairs : List ℕ = flat_map pair_bytes s.pairs in
    let body : List ℕ = pairs ++ s.padding in
    let len_pairs : length pairs ≡ 4 * length s.pairs = pairs_len s.pairs in
    let len_body : length body ≡ length pairs + length s.padding = length-append pairs s.padding in
    let long : 16 ≤ length bytes = omega (arith, ap length s.parts, len_body, len_pairs, s.some) in
    let words : length bytes ≡ 4 * (length bytes / 4 - 1) + 4 = omega (arith, s.whole, long) in
    let h = header_again bytes body s.bit (length bytes / 4 - 1) n.sender n.media s.bit_fits s.sender_fits s.media_fits (omega (arith, len_body, len_pairs, s.some)) words (omega (arith, s.short, long)) s.parts in
    let pads = pads_again bytes body pairs s.padding s.bit n.sender n.media s.bit_fits refl (omega (arith, len_pairs, s.some)) h s.pads in
    let read = padding_read bytes (length s.padding) (record { head = h.head; pads = pads }) in
    let count : length bytes - length s.padding - 12 ≡ length pairs = omega (arith, h.len, len_body) in
    let found : pair_bytes_in bytes (length s.padding) ≡ pairs = ap (λ k. take k (drop 12 bytes)) count ∙ ap (take (length pairs)) h.body_is ∙ take-append_seam pairs s.padding in
    let lost : first_of (named_by (pairs_in (pair_bytes_in bytes (length s.padding)))) ≡ n.lost =
    ap (λ (xs : List ℕ). first_of (named_by (pairs_in xs))) found ∙ ap (λ (ps : List (ℕ × ℕ)). first_of (named_by ps)) (pairs_again s.pairs s.fit) ∙ sym s.lost in
    rw read
    (ap Ok (same_asked (record { sender = number32 bytes 4; media = number32 bytes 8; lost = first_of (named_by (pairs_in (pair_bytes_in bytes (length s.padding)))) }) n h.sender_is h.media_is lost))

-- ---- the law

decided : (bytes : List ℕ) (fault : NackFault) (r : Result Asked NackFault) → Outcome bytes r → FailsFirst fault bytes → r ≡ Err fault
decided bytes fault (Ok n) told first = absurd (first.fails (told.0 fault))
decided bytes fault (Err other) told first = elim (cases_lt (order fault) (order other)) [
  | inl lt ↦ absurd (first.fails (told.before fault lt))
  | inr ge ↦ elim (cases_lt (order other) (order fault)) [
    | inl lt ↦ absurd (told.fails (first.before other lt))
    | inr le ↦ ap Err (same_check other fault (omega arith))
  ]
]

pub by_checks : (bytes : List ℕ) → IsBytes bytes → IsByChecks bytes
by_checks bytes fits = record {
  faults = λ fault. (λ e. subst (λ r. Outcome bytes r) e (outcome bytes fits), decided bytes fault (nack_of bytes) (outcome bytes fits));
  nacks = λ n. (λ e. (subst (λ r. Outcome bytes r) e (outcome bytes fits)).1, λ s. spelled_is_read bytes n s);
}
