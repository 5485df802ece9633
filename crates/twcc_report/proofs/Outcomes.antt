-- Reading a report, by the first check that fails.
use Rattle.std.proofs.Common.{◌≡◌, ◌≢◌, ℕ, zero, suc, ◌+◌, ◌-◌, ◌*◌, ◌/◌, ◌%◌, ◌<◌, ◌≤◌, ◌==◌, inl, inr, Bool, true, false, nat_le, ◌&&◌, if◌then◌else◌, List, [], ◌∷◌, ◌++◌, length, take, drop, map, get_or, Result, Ok, Err, refl, sym, ap, subst, ◌∙◌, arith, length-append, get_or-drop, length-take, eq-eqb}
use Rattle.std.proofs.lemmas.List.{take-append-le, length-map}
use Rattle.std.specs.List.{flat_map, list_any, AllByRecursion}
use Rattle.std.proofs.lemmas.Bool.{cases_eq, cases_lt, cases_Bool, ne_eqb, lt-ltb, le-ltb, le-leb, leb-true}
use Rattle.twcc_report.specs.declared.fault.ReportFault.{ReportFault}
use Rattle.twcc_report.specs.declared.fault.ReportFault.TheVariants.{Short, Length, Version, NotFeedback, NoStatus, Chunks, Reserved, Deltas, Padding}
use Rattle.twcc_report.specs.declared.report.Status.{Status}
use Rattle.twcc_report.specs.declared.report.Status.TheVariants.{NotReceived, Small, Large}
use Rattle.twcc_report.specs.Chunks.{symbols_of, chunk_bytes, AreChunks, BeginsWith, all_symbols, behind_chunks, words}
use Rattle.gcc_units.specs.Numbers.{number16}
use Rattle.twcc_report.specs.Spelling.{Feedback, Fits, Spells, EndsWell, symbol, delta, header}
use Rattle.twcc_report.specs.Reading.{header_at, symbols_in, unreserved, statuses_at, ends_well, end_at, read_of}
use Rattle.twcc_report.specs.Checks.{order, status_count, counted, delta_len, HasChunks, Passes, FailsFirst, IsByChecks}
use Rattle.twcc_report.proofs.Chunking.{IsBytes, IsBytes-rest, all_take, chunks_small, symbols_again, behind_again, chunks_take}
use Rattle.twcc_report.proofs.Deltas.{no_three, some_three, statuses_again, AreRead, deltas_read, deltas_short}
use Rattle.twcc_report.proofs.Headers.{made, IsHeader, header_parts, made_fits, header_again}

-- ---- the order of the checks

check_at : ℕ → ReportFault
check_at n =
    if n == 1 then Short
    else (if n == 2 then Length
    else (if n == 3 then Version
    else (if n == 4 then NotFeedback
    else (if n == 5 then NoStatus
    else (if n == 6 then Chunks
    else (if n == 7 then Reserved
    else (if n == 8 then Deltas else Padding)))))))

check_at-order : (c : ReportFault) → check_at (order c) ≡ c
unfolding check_at
check_at-order Short = refl
check_at-order Length = refl
check_at-order Version = refl
check_at-order NotFeedback = refl
check_at-order NoStatus = refl
check_at-order Chunks = refl
check_at-order Reserved = refl
check_at-order Deltas = refl
check_at-order Padding = refl

same_check : (c d : ReportFault) → order c ≡ order d → c ≡ d
same_check c d e = sym (check_at-order c) ∙ ap check_at e ∙ check_at-order d

order_bounds : (c : ReportFault) → (1 ≤ order c) × (order c < 10)
order_bounds Short = (omega arith, omega arith)
order_bounds Length = (omega arith, omega arith)
order_bounds Version = (omega arith, omega arith)
order_bounds NotFeedback = (omega arith, omega arith)
order_bounds NoStatus = (omega arith, omega arith)
order_bounds Chunks = (omega arith, omega arith)
order_bounds Reserved = (omega arith, omega arith)
order_bounds Deltas = (omega arith, omega arith)
order_bounds Padding = (omega arith, omega arith)

-- the checks before number n pass
abbrev PassBefore : ℕ → List ℕ → Type 0
PassBefore n bytes = (c : ReportFault) → order c < n → Passes c bytes

first : (bytes : List ℕ) → PassBefore 1 bytes
first bytes c h = absurd (omega (arith, order_bounds c))

-- one check more passes
more : (bytes : List ℕ) (n : ℕ) (d : ReportFault) → order d ≡ n → PassBefore n bytes → Passes d bytes → PassBefore (n + 1) bytes
more bytes n d at before here c h = elim (cases_lt (order c) n) [
  | inl lt ↦ before c lt
  | inr ge ↦ subst (λ e. Passes e bytes) (same_check d c (omega arith)) here
]

fails : (bytes : List ℕ) (c : ReportFault) → PassBefore (order c) bytes → (Passes c bytes → ⊥) → FailsFirst c bytes
fails bytes c before not = record { fails = not; before = before }

-- ---- the header

abbrev HeaderTold : List ℕ → Result ℕ ReportFault → Type 0
HeaderTold bytes (Ok count) = IsHeader bytes count
HeaderTold bytes (Err fault) = FailsFirst fault bytes

header_told : (bytes : List ℕ) → HeaderTold bytes (header_at bytes)
unfolding header_at
header_told bytes =
    let p1 = first bytes in
    elim (cases_lt (length bytes) 20) [
      | inl short ↦ rw (lt-ltb (length bytes) 20 short) (fails bytes Short p1 (λ h. omega (arith, h, short)))
      | inr long ↦
          let p2 = more bytes 1 Short refl p1 long in
          rw (le-ltb (length bytes) 20 long)
          (elim (cases_eq (length bytes) (4 * number16 bytes 2 + 4)) [
            | inr other ↦ rw (ne_eqb (length bytes) (4 * number16 bytes 2 + 4) other) (fails bytes Length p2 other)
            | inl words ↦
                let p3 = more bytes 2 Length refl p2 words in
                rw (eq-eqb (length bytes) (4 * number16 bytes 2 + 4) words)
                (elim (cases_eq (get_or bytes 0 0 / 64) 2) [
                  | inr other ↦ rw (ne_eqb (get_or bytes 0 0 / 64) 2 other) (fails bytes Version p3 other)
                  | inl two ↦
                      let p4 = more bytes 3 Version refl p3 two in
                      rw (eq-eqb (get_or bytes 0 0 / 64) 2 two)
                      (elim (cases_eq (get_or bytes 0 0 % 32) 15) [
                        | inr other ↦ rw (ne_eqb (get_or bytes 0 0 % 32) 15 other) (fails bytes NotFeedback p4 (λ h. other h.0))
                        | inl format ↦
                            rw (eq-eqb (get_or bytes 0 0 % 32) 15 format)
                            (elim (cases_eq (get_or bytes 1 0) 205) [
                              | inr other ↦ rw (ne_eqb (get_or bytes 1 0) 205 other) (fails bytes NotFeedback p4 (λ h. other h.1))
                              | inl kind ↦
                                  let p5 = more bytes 4 NotFeedback refl p4 (format, kind) in
                                  rw (eq-eqb (get_or bytes 1 0) 205 kind)
                                  (elim (cases_eq (number16 bytes 14) 0) [
                                    | inl none ↦ rw (eq-eqb (number16 bytes 14) 0 none) (fails bytes NoStatus p5 (λ h. h none))
                                    | inr some ↦ rw (ne_eqb (number16 bytes 14) 0 some)
                                        (record { long = long; words = words; version = two; format = format; kind = kind; some = some; count_is = refl })
                                  ])
                            ])
                      ])
                ])
          ])
    ]

-- the checks of a header pass
header_passes : (bytes : List ℕ) (count : ℕ) → IsHeader bytes count → PassBefore 6 bytes
header_passes bytes count h =
    more bytes 5 NoStatus refl
    (more bytes 4 NotFeedback refl (more bytes 3 Version refl (more bytes 2 Length refl (more bytes 1 Short refl (first bytes) h.long) h.words) h.version) (h.format, h.kind))
    h.some

header_read : (bytes : List ℕ) (count : ℕ) → IsHeader bytes count → header_at bytes ≡ Ok count
unfolding header_at
header_read bytes count h =
    rw (
      le-ltb (length bytes) 20 h.long,
      eq-eqb (length bytes) (4 * number16 bytes 2 + 4) h.words,
      eq-eqb (get_or bytes 0 0 / 64) 2 h.version,
      eq-eqb (get_or bytes 0 0 % 32) 15 h.format,
      eq-eqb (get_or bytes 1 0) 205 h.kind,
      ne_eqb (number16 bytes 14) 0 h.some,
      h.count_is,
    ) refl

-- ---- the chunks

-- chunks that give the count are read, and no others are there
chunks_found : (count : ℕ) (body chunks behind : List ℕ) → BeginsWith count body chunks behind
    → (take count (flat_map symbols_of chunks) ≡ take count (all_symbols body)) × (behind ≡ behind_chunks count body) × (count ≤ length (all_symbols body))
chunks_found count body chunks behind b =
    let all : all_symbols body ≡ flat_map symbols_of chunks ++ all_symbols behind = ap all_symbols b.parts ∙ symbols_again chunks behind b.are_chunks.fit in (
      sym (ap (take count) all ∙ take-append-le count (flat_map symbols_of chunks) (all_symbols behind) b.are_chunks.enough),
      sym (ap (behind_chunks count) b.parts ∙ behind_again count chunks behind b.are_chunks),
      omega (arith, ap length all, length-append (flat_map symbols_of chunks) (all_symbols behind), b.are_chunks.enough),
    )

symbols_read : (count : ℕ) (body : List ℕ) → count ≤ length (all_symbols body) → symbols_in count body ≡ Ok (take count (all_symbols body), behind_chunks count body)
unfolding symbols_in
symbols_read count body enough = rw (le-ltb (length (all_symbols body)) count enough) refl

symbols_missing : (count : ℕ) (body : List ℕ) → length (all_symbols body) < count → symbols_in count body ≡ Err Chunks
unfolding symbols_in
symbols_missing count body few = rw (lt-ltb (length (all_symbols body)) count few) refl

-- ---- the end

bit_below : (b : ℕ) → b / 32 % 2 < 2
bit_below b = omega arith

and_three : (a b c : Bool) → (a && b && c) ≡ true → (a ≡ true) × (b ≡ true) × (c ≡ true)
and_three true true true h = (refl, refl, refl)
and_three true true false h = absurd (cc h)
and_three true false c h = absurd (cc h)
and_three false b c h = absurd (cc h)

three_and : (a b c : Bool) → a ≡ true → b ≡ true → c ≡ true → (a && b && c) ≡ true
three_and a b c ea eb ec = rw (ea, eb, ec) refl

ends_so : (bit : ℕ) (rest : List ℕ) → bit < 2 → ends_well bit rest ≡ true → EndsWell bit rest
ends_so zero rest small h = (λ e. leb-true (length rest) 3 h, λ e. absurd (omega arith))
ends_so (suc zero) rest small h =
    let n : ℕ = get_or rest (length rest - 1) 0 in
    let t = and_three (nat_le 1 n) (nat_le n (length rest)) (nat_le (length rest) (n + 3)) h in
    (λ e. absurd (omega arith), λ e. record { some = leb-true 1 n t.0; inside = leb-true n (length rest) t.1; few = leb-true (length rest) (n + 3) t.2 })
ends_so (suc (suc n)) rest small h = absurd (omega arith)

ends_then : (bit : ℕ) (rest : List ℕ) → bit < 2 → EndsWell bit rest → ends_well bit rest ≡ true
ends_then zero rest small w = le-leb (length rest) 3 (w.0 refl)
ends_then (suc zero) rest small w =
    let n : ℕ = get_or rest (length rest - 1) 0 in
    let p = w.1 refl in
    three_and (nat_le 1 n) (nat_le n (length rest)) (nat_le (length rest) (n + 3)) (le-leb 1 n p.some) (le-leb n (length rest) p.inside) (le-leb (length rest) (n + 3) p.few)
ends_then (suc (suc n)) rest small w = absurd (omega arith)

-- ---- what reading gives after each step

reserved_err : (symbols : List ℕ) → list_any (λ s. s == 3) symbols ≡ true → unreserved symbols ≡ Err Reserved
unfolding unreserved
reserved_err symbols h = rw h refl

reserved_ok : (symbols : List ℕ) → list_any (λ s. s == 3) symbols ≡ false → unreserved symbols ≡ Ok tt
unfolding unreserved
reserved_ok symbols h = rw h refl

end_err : (bit : ℕ) (rest : List ℕ) → ends_well bit rest ≡ false → end_at bit rest ≡ Err Padding
unfolding end_at
end_err bit rest h = rw h refl

end_ok : (bit : ℕ) (rest : List ℕ) → ends_well bit rest ≡ true → end_at bit rest ≡ Ok tt
unfolding end_at
end_ok bit rest h = rw h refl

-- the steps up to the last delta
record Symbols (bytes : List ℕ) (symbols behind : List ℕ) : Type 0 where
  header : header_at bytes ≡ Ok (status_count bytes)
  found : symbols_in (status_count bytes) (drop 20 bytes) ≡ Ok (symbols, behind)

at_header : (bytes : List ℕ) (fault : ReportFault) → header_at bytes ≡ Err fault → read_of bytes ≡ Err fault
unfolding read_of
at_header bytes fault h = rw h refl

at_chunks : (bytes : List ℕ) (fault : ReportFault) → header_at bytes ≡ Ok (status_count bytes) → symbols_in (status_count bytes) (drop 20 bytes) ≡ Err fault
    → read_of bytes ≡ Err fault
unfolding read_of
at_chunks bytes fault h f = rw (h, f) refl

at_symbols : (bytes symbols behind : List ℕ) (fault : ReportFault) → Symbols bytes symbols behind → unreserved symbols ≡ Err fault → read_of bytes ≡ Err fault
unfolding read_of
at_symbols bytes symbols behind fault s u = rw (s.header, s.found, u) refl

at_deltas : (bytes symbols behind : List ℕ) (fault : ReportFault) → Symbols bytes symbols behind → unreserved symbols ≡ Ok tt → statuses_at symbols behind ≡ Err fault
    → read_of bytes ≡ Err fault
unfolding read_of
at_deltas bytes symbols behind fault s u d = rw (s.header, s.found, u, d) refl

at_end : (bytes symbols behind rest : List ℕ) (statuses : List Status) (fault : ReportFault) → Symbols bytes symbols behind → unreserved symbols ≡ Ok tt
    → statuses_at symbols behind ≡ Ok (statuses, rest) → end_at (get_or bytes 0 0 / 32 % 2) rest ≡ Err fault → read_of bytes ≡ Err fault
unfolding read_of
at_end bytes symbols behind rest statuses fault s u d e = rw (s.header, s.found, u, d, e) refl

at_all : (bytes symbols behind rest : List ℕ) (statuses : List Status) → Symbols bytes symbols behind → unreserved symbols ≡ Ok tt
    → statuses_at symbols behind ≡ Ok (statuses, rest) → end_at (get_or bytes 0 0 / 32 % 2) rest ≡ Ok tt → read_of bytes ≡ Ok (made bytes statuses)
unfolding read_of
at_all bytes symbols behind rest statuses s u d e = rw (s.header, s.found, u, d, e) refl

pair_same : (xs ys vs ws : List ℕ) → xs ≡ ys → vs ≡ ws → (let r : Result (List ℕ × List ℕ) ReportFault = Ok (xs, vs) in r) ≡ Ok (ys, ws)
pair_same xs ys vs ws e f = cc

not_both : (b : Bool) → b ≡ true → b ≡ false → ⊥
not_both b t f = cc

-- ---- the outcome, from the last check to the first

abbrev Outcome : List ℕ → Result Feedback ReportFault → Type 0
Outcome bytes (Ok f) = ((c : ReportFault) → Passes c bytes) × (Fits f × Spells f bytes)
Outcome bytes (Err fault) = FailsFirst fault bytes

IsBytes-drop : (n : ℕ) (bytes : List ℕ) → IsBytes bytes → IsBytes (drop n bytes)
IsBytes-drop n bytes h i = rw get_or-drop (h (n + i))

IsBytes-behind : (count : ℕ) (bytes : List ℕ) → IsBytes bytes → IsBytes (behind_chunks count bytes)
unfolding behind_chunks
IsBytes-behind zero bytes h = h
IsBytes-behind (suc n) [] h = h
IsBytes-behind (suc n) (b ∷ []) h = λ i. omega arith
IsBytes-behind (suc n) (high ∷ low ∷ rest) h =
    IsBytes-behind (suc n - length (symbols_of (high * 256 + low))) rest (IsBytes-rest low rest (IsBytes-rest high (low ∷ rest) h))

-- what was found up to the chunks
record Found (bytes chunks symbols behind : List ℕ) : Type 0 where
  fits : IsBytes bytes
  head : IsHeader bytes (status_count bytes)
  has : HasChunks bytes chunks behind
  enough : status_count bytes ≤ length (all_symbols (drop 20 bytes))
  symbols_are : symbols ≡ take (status_count bytes) (all_symbols (drop 20 bytes))
  behind_is : behind ≡ behind_chunks (status_count bytes) (drop 20 bytes)
  small : AllByRecursion (λ s. s < 4) symbols

steps : (bytes chunks symbols behind : List ℕ) → Found bytes chunks symbols behind → Symbols bytes symbols behind
steps bytes chunks symbols behind f = record {
  header = header_read bytes (status_count bytes) f.head;
  found = symbols_read (status_count bytes) (drop 20 bytes) f.enough ∙ pair_same _ symbols _ behind (sym f.symbols_are) (sym f.behind_is);
}

-- any chunks of the bytes give these symbols and the same bytes behind
same_symbols : (bytes chunks symbols behind cs b : List ℕ) → Found bytes chunks symbols behind → HasChunks bytes cs b → counted bytes cs ≡ symbols
same_symbols bytes chunks symbols behind cs b f has = (chunks_found (status_count bytes) (drop 20 bytes) cs b has).0 ∙ sym f.symbols_are

same_behind : (bytes chunks symbols behind cs b : List ℕ) → Found bytes chunks symbols behind → HasChunks bytes cs b → b ≡ behind
same_behind bytes chunks symbols behind cs b f has = (chunks_found (status_count bytes) (drop 20 bytes) cs b has).1 ∙ sym f.behind_is

-- a report whose deltas were read
spells_it : (bytes chunks symbols behind : List ℕ) (f : Found bytes chunks symbols behind) (r : AreRead symbols behind)
    → EndsWell (get_or bytes 0 0 / 32 % 2) (drop (delta_len symbols) behind) → Fits (made bytes r.statuses) × Spells (made bytes r.statuses) bytes
spells_it bytes chunks symbols behind f r ends =
    let n : length r.statuses ≡ status_count bytes =
    omega (arith, length-map r.statuses symbol, ap length r.symbols_are, ap length f.symbols_are, length-take (status_count bytes) (all_symbols (drop 20 bytes)), f.enough) in
    let head : IsHeader bytes (length r.statuses) = subst (λ k. IsHeader bytes k) (sym n) f.head in (
      made_fits bytes r.statuses f.fits head r.fit,
      record {
        bit = get_or bytes 0 0 / 32 % 2;
        chunks = chunks;
        rest = drop (delta_len symbols) behind;
        bit_fits = omega arith;
        parts = header_parts bytes r.statuses f.fits head
            ∙ ap (λ (xs : List ℕ). header (get_or bytes 0 0 / 32 % 2) (length bytes / 4 - 1) (made bytes r.statuses) ++ xs)
            (f.has.parts ∙ ap (λ (xs : List ℕ). chunk_bytes chunks ++ xs) r.parts);
        whole = omega (arith, head.words);
        short = omega (arith, head.words, f.fits 2, f.fits 3);
        are_chunks = subst (λ k. AreChunks k chunks) (sym n) f.has.are_chunks;
        symbols = ap (λ k. take k (flat_map symbols_of chunks)) n ∙ same_symbols bytes chunks symbols behind chunks behind f f.has ∙ sym r.symbols_are;
        ends = ends;
      },
    )

at_the_end : (bytes chunks symbols behind : List ℕ) → Found bytes chunks symbols behind → list_any (λ s. s == 3) symbols ≡ false
    → AreRead symbols behind → PassBefore 9 bytes → Outcome bytes (read_of bytes)
at_the_end bytes chunks symbols behind f none r p9 =
    let rest : List ℕ = drop (delta_len symbols) behind in
    let bit : ℕ = get_or bytes 0 0 / 32 % 2 in
    let s = steps bytes chunks symbols behind f in
    let u = reserved_ok symbols none in
    elim (cases_Bool (ends_well bit rest)) [
      | inl well ↦
          let ends = ends_so bit rest (omega arith) well in
          let p10 = more bytes 9 Padding refl p9
          (λ cs b has.
          subst (λ (xs : List ℕ). EndsWell bit (drop (delta_len xs) b)) (sym (same_symbols bytes chunks symbols behind cs b f has))
          (subst (λ (xs : List ℕ). EndsWell bit (drop (delta_len symbols) xs)) (sym (same_behind bytes chunks symbols behind cs b f has)) ends)) in
          subst (λ k. Outcome bytes k) (sym (at_all bytes symbols behind rest r.statuses s u r.read (end_ok bit rest well)))
          (λ c. p10 c (order_bounds c).1, spells_it bytes chunks symbols behind f r ends)
      | inr not ↦
          subst (λ k. Outcome bytes k) (sym (at_end bytes symbols behind rest r.statuses Padding s u r.read (end_err bit rest not)))
          (fails bytes Padding p9 (λ passes.
          not_both (ends_well bit rest)
          (ends_then bit rest (omega arith) (subst (λ (xs : List ℕ). EndsWell bit (drop (delta_len xs) behind)) (same_symbols bytes chunks symbols behind chunks behind f f.has) (passes chunks behind f.has))) not))
    ]

at_the_deltas : (bytes chunks symbols behind : List ℕ) → Found bytes chunks symbols behind → list_any (λ s. s == 3) symbols ≡ false → PassBefore 8 bytes → Outcome bytes (read_of bytes)
at_the_deltas bytes chunks symbols behind f none p8 =
    let others = no_three symbols none in
    elim (cases_lt (length behind) (delta_len symbols)) [
      | inl short ↦
          subst (λ k. Outcome bytes k)
          (sym (at_deltas bytes symbols behind Deltas (steps bytes chunks symbols behind f) (reserved_ok symbols none) (deltas_short symbols behind f.small others short)))
          (fails bytes Deltas p8 (λ passes.
          let there : delta_len symbols ≤ length behind =
          subst (λ (xs : List ℕ). delta_len xs ≤ length behind) (same_symbols bytes chunks symbols behind chunks behind f f.has) (passes chunks behind f.has) in
          omega (arith, short, there)))
      | inr there ↦
          let bytes_behind : IsBytes behind = subst IsBytes (sym f.behind_is) (IsBytes-behind (status_count bytes) (drop 20 bytes) (IsBytes-drop 20 bytes f.fits)) in
          at_the_end bytes chunks symbols behind f none (deltas_read symbols behind bytes_behind f.small others there)
          (more bytes 8 Deltas refl p8
          (λ cs b has.
          subst (λ (xs : List ℕ). delta_len xs ≤ length b) (sym (same_symbols bytes chunks symbols behind cs b f has))
          (subst (λ (xs : List ℕ). delta_len symbols ≤ length xs) (sym (same_behind bytes chunks symbols behind cs b f has)) there)))
    ]

at_the_symbols : (bytes chunks symbols behind : List ℕ) → Found bytes chunks symbols behind → PassBefore 7 bytes → Outcome bytes (read_of bytes)
at_the_symbols bytes chunks symbols behind f p7 = elim (cases_Bool (list_any (λ s. s == 3) symbols)) [
  | inl some ↦
      subst (λ k. Outcome bytes k) (sym (at_symbols bytes symbols behind Reserved (steps bytes chunks symbols behind f) (reserved_err symbols some)))
      (fails bytes Reserved p7 (λ passes.
      some_three symbols some (subst (λ (xs : List ℕ). AllByRecursion (λ s. s ≢ 3) xs) (same_symbols bytes chunks symbols behind chunks behind f f.has) (passes chunks behind f.has))))
  | inr none ↦
      at_the_deltas bytes chunks symbols behind f none
      (more bytes 7 Reserved refl p7
      (λ cs b has. subst (λ (xs : List ℕ). AllByRecursion (λ s. s ≢ 3) xs) (sym (same_symbols bytes chunks symbols behind cs b f has)) (no_three symbols none)))
]

at_the_chunks : (bytes : List ℕ) → IsBytes bytes → IsHeader bytes (status_count bytes) → Outcome bytes (read_of bytes)
at_the_chunks bytes fits h =
    let n : ℕ = status_count bytes in
    let body : List ℕ = drop 20 bytes in
    let p6 = header_passes bytes n h in
    elim (cases_lt (length (all_symbols body)) n) [
      | inl few ↦
          subst (λ k. Outcome bytes k) (sym (at_chunks bytes Chunks (header_read bytes n h) (symbols_missing n body few)))
          (fails bytes Chunks p6 (λ has. omega (arith, (chunks_found n body has.0 has.1 has.2).2, few)))
      | inr enough ↦
          let c = chunks_take n body (IsBytes-drop 20 bytes fits) enough in
          at_the_symbols bytes c.0 (take n (all_symbols body)) (behind_chunks n body)
          (record {
            fits = fits;
            head = h;
            has = c.1;
            enough = enough;
            symbols_are = refl;
            behind_is = refl;
            small = all_take (λ s. s < 4) n (all_symbols body) (chunks_small (words body));
          })
          (more bytes 6 Chunks refl p6 (c.0, behind_chunks n body, c.1))
    ]

by_header : (bytes : List ℕ) (r : Result ℕ ReportFault) → IsBytes bytes → HeaderTold bytes r → header_at bytes ≡ r → Outcome bytes (read_of bytes)
by_header bytes (Err fault) fits told e = subst (λ k. Outcome bytes k) (sym (at_header bytes fault e)) told
by_header bytes (Ok count) fits told e = at_the_chunks bytes fits (subst (λ k. IsHeader bytes k) told.count_is told)

pub outcome : (bytes : List ℕ) → IsBytes bytes → Outcome bytes (read_of bytes)
outcome bytes fits = by_header bytes (header_at bytes) fits (header_told bytes) refl

-- ---- what is spelled is read

no_three_in : (statuses : List Status) → list_any (λ s. s == 3) (map symbol statuses) ≡ false
no_three_in [] = refl
no_three_in (NotReceived ∷ ss) = no_three_in ss
no_three_in (Small d ∷ ss) = no_three_in ss
no_three_in (Large d ∷ ss) = no_three_in ss

pub spelled_is_read : (bytes : List ℕ) (f : Feedback) → Fits f → Spells f bytes → read_of bytes ≡ Ok f
spelled_is_read bytes f fits s =
    let body : List ℕ = chunk_bytes s.chunks ++ (flat_map delta f.statuses ++ s.rest) in
    let long : 20 ≤ length bytes = omega (arith, ap length s.parts) in
    let words : length bytes ≡ 4 * (length bytes / 4 - 1) + 4 = omega (arith, s.whole, long) in
    let h = header_again bytes body s.bit (length bytes / 4 - 1) f s.bit_fits fits words (omega (arith, s.short, long)) s.parts in
    let n : length f.statuses ≡ status_count bytes = h.0.count_is in
    let begins : BeginsWith (length f.statuses) body s.chunks (flat_map delta f.statuses ++ s.rest) = record { parts = refl; are_chunks = s.are_chunks } in
    let found = chunks_found (length f.statuses) body s.chunks (flat_map delta f.statuses ++ s.rest) begins in
    let symbols : symbols_in (length f.statuses) body ≡ Ok (map symbol f.statuses, flat_map delta f.statuses ++ s.rest) =
    symbols_read (length f.statuses) body found.2 ∙ pair_same _ (map symbol f.statuses) _ (flat_map delta f.statuses ++ s.rest) (sym found.0 ∙ s.symbols) (sym found.1) in
    at_all bytes (map symbol f.statuses) (flat_map delta f.statuses ++ s.rest) s.rest f.statuses
    (record {
      header = header_read bytes (length f.statuses) h.0 ∙ ap Ok n;
      found = ap (λ k. symbols_in k (drop 20 bytes)) (sym n) ∙ ap (symbols_in (length f.statuses)) h.3 ∙ symbols;
    })
    (reserved_ok (map symbol f.statuses) (no_three_in f.statuses))
    (statuses_again f.statuses s.rest fits.statuses)
    (ap (λ k. end_at k s.rest) h.2 ∙ end_ok s.bit s.rest (ends_then s.bit s.rest s.bit_fits s.ends))
    ∙ ap Ok h.1

-- ---- the law

decided : (bytes : List ℕ) (fault : ReportFault) (r : Result Feedback ReportFault) → Outcome bytes r → FailsFirst fault bytes → r ≡ Err fault
decided bytes fault (Ok f) told first = absurd (first.fails (told.0 fault))
decided bytes fault (Err other) told first = elim (cases_lt (order fault) (order other)) [
  | inl lt ↦ absurd (first.fails (told.before fault lt))
  | inr ge ↦ elim (cases_lt (order other) (order fault)) [
    | inl lt ↦ absurd (told.fails (first.before other lt))
    | inr le ↦ ap Err (same_check other fault (omega arith))
  ]
]

pub by_checks : (bytes : List ℕ) → IsBytes bytes → IsByChecks bytes
by_checks bytes fits = record {
  faults = λ fault. (λ e. subst (λ r. Outcome bytes r) e (outcome bytes fits), decided bytes fault (read_of bytes) (outcome bytes fits));
  reports = λ f. (λ e. (subst (λ r. Outcome bytes r) e (outcome bytes fits)).1, λ s. spelled_is_read bytes f s.0 s.1);
  passes = λ f fit s. (subst (λ r. Outcome bytes r) (spelled_is_read bytes f fit s) (outcome bytes fits)).0;
}
