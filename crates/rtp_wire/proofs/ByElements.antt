-- The walk tells the kind of an extension, and each extension is of one kind.
use Rattle.std.proofs.Common.{◌≡◌, ◌≢◌, ℕ, zero, suc, ◌+◌, ◌-◌, ◌*◌, ◌/◌, ◌%◌, ◌<◌, ◌≤◌, ◌⊎◌, inl, inr, List, [], ◌∷◌, ◌++◌, length, take, drop, refl, ap, sym, subst, ◌∙◌, arith, Result, Ok, Err, append_assoc, length-append, length-take-le, take-append-drop}
use Rattle.std.proofs.Math.Seq.{drop-append_seam}
use Rattle.std.proofs.lemmas.Bool.{cases_eq, cases_lt}
use Rattle.std.specs.List.{flat_map, AllByRecursion}
use Rattle.rtp_wire.specs.declared.packet.WireFault.{WireFault}
use Rattle.rtp_wire.specs.declared.packet.WireFault.TheVariants.{Short, Long, Version, BadExtension, NoExtension}
use Rattle.rtp_wire.specs.Place.{walk}
use Rattle.rtp_wire.specs.Elements.{Piece, pad, element, piece_bytes, IsOther, Continues, IsNumberAt, IsEnd, HasNoNumber, IsCutOff, IsOfOneKind}
use Rattle.rtp_wire.proofs.Walking as walking

-- ---- from the walk to the kind

-- what a walk that began at a place says of the extension
abbrev pub Tells : ℕ → ℕ → List ℕ → Result ℕ WireFault → Type 0
Tells id at xs (Ok place) = (k : ℕ) × IsNumberAt id xs k × (place ≡ at + k)
Tells id at xs (Err NoExtension) = HasNoNumber id xs
Tells id at xs (Err BadExtension) = IsCutOff id xs
Tells id at xs (Err Short) = ⊥
Tells id at xs (Err Long) = ⊥
Tells id at xs (Err Version) = ⊥

-- what comes behind a rest comes behind a piece in front of it
pub goes_on : (id : ℕ) (p : Piece) (xs rest : List ℕ) → IsOther id p → Continues id xs rest → Continues id (piece_bytes p ++ xs) rest
goes_on id p xs rest other c = record {
  others = p ∷ c.others;
  passed = (other, c.passed);
  parts = ap (λ (ys : List ℕ). piece_bytes p ++ ys) c.parts ∙ sym (append_assoc (piece_bytes p) (flat_map piece_bytes c.others) rest);
}

pub tells_on : (id at : ℕ) (p : Piece) (xs : List ℕ) (r : Result ℕ WireFault) → IsOther id p
    → Tells id (at + length (piece_bytes p)) xs r → Tells id at (piece_bytes p ++ xs) r
tells_on id at p xs (Ok place) other (k, n, e) = (
  length (piece_bytes p) + k,
  record { high = n.high; low = n.low; rest = n.rest; behind = goes_on id p xs _ other n.behind; place = omega (arith, n.place, length-append (piece_bytes p) xs) },
  omega arith,
)
tells_on id at p xs (Err NoExtension) other t = record { rest = t.rest; behind = goes_on id p xs _ other t.behind; ends = t.ends }
tells_on id at p xs (Err BadExtension) other t = record { head = t.head; rest = t.rest; behind = goes_on id p xs _ other t.behind; low = t.low; high = t.high; passes_end = t.passes_end }
tells_on id at p xs (Err Short) other t = t
tells_on id at p xs (Err Long) other t = t
tells_on id at p xs (Err Version) other t = t

-- ---- the first byte, when no data is left

-- the element with this first byte and the data behind it
element_of : ℕ → List ℕ → Piece
element_of b rest = element (b / 16) (take (b % 16 + 1) rest)

element_bytes : (b : ℕ) (rest : List ℕ) → b % 16 + 1 ≤ length rest → piece_bytes (element_of b rest) ++ drop (b % 16 + 1) rest ≡ b ∷ rest
unfolding element_of
element_bytes b rest fits =
    let len : length (take (b % 16 + 1) rest) ≡ b % 16 + 1 = length-take-le (b % 16 + 1) rest fits in
    let head : 16 * (b / 16) + (length (take (b % 16 + 1) rest) - 1) ≡ b = omega (arith, len) in
    ap (λ h. h ∷ (take (b % 16 + 1) rest ++ drop (b % 16 + 1) rest)) head ∙ ap (λ (xs : List ℕ). b ∷ xs) (take-append-drop (b % 16 + 1) rest)

element_other : (id b : ℕ) (rest : List ℕ) → 16 ≤ b → b < 240 → b % 16 + 1 ≤ length rest → b ≢ 16 * id + 1 → IsOther id (element_of b rest)
unfolding element_of
element_other id b rest low high fits other =
    let len : length (take (b % 16 + 1) rest) ≡ b % 16 + 1 = length-take-le (b % 16 + 1) rest fits in
    (omega arith, omega arith, omega (arith, len), omega (arith, len), λ same two. other (omega (arith, len, same, two)))

length-element : (b : ℕ) (rest : List ℕ) → b % 16 + 1 ≤ length rest → length (piece_bytes (element_of b rest)) ≡ 1 + (b % 16 + 1)
unfolding element_of
length-element b rest fits = omega (arith, length-take-le (b % 16 + 1) rest fits)

-- nothing, or our element, or one that passes the end, stands at the front
at_front : (id : ℕ) (xs : List ℕ) → Continues id xs xs
at_front id xs = record { others = []; passed = tt; parts = refl }

ours_at_front : (id b : ℕ) (rest : List ℕ) → 2 ≤ length rest → b ≡ 16 * id + 1 → IsNumberAt id (b ∷ rest) 1
ours_at_front id b [] two ours = absurd (omega arith)
ours_at_front id b (high ∷ []) two ours = absurd (omega arith)
ours_at_front id b (high ∷ low ∷ rest) two ours = record {
  high = high;
  low = low;
  rest = rest;
  behind = subst (λ h. Continues id (h ∷ high ∷ low ∷ rest) ((16 * id + 1) ∷ high ∷ low ∷ rest)) (sym ours) (at_front id ((16 * id + 1) ∷ high ∷ low ∷ rest));
  place = omega arith;
}

pub tells : (id at n : ℕ) (xs : List ℕ) → 1 ≤ id → id ≤ 14 → n ≤ length xs → Tells id (at + n) (drop n xs) (walk id at n xs)
tells id at zero [] some few fits =
    let e : at + 0 ≡ at = omega arith in
    rw (e, walking.ends id at [] refl) (record { rest = []; behind = at_front id []; ends = tt })
tells id at (suc n) [] some few fits = absurd (omega arith)
tells id at (suc n) (b ∷ rest) some few fits =
    let e : at + suc n ≡ (at + 1) + n = omega arith in
    rw (e, walking.data_byte id at n b rest) (tells id (at + 1) n rest some few (omega arith))
tells id at zero (b ∷ rest) some few fits =
    let e : at + 0 ≡ at = omega arith in
    let next : (at + 1) + 0 ≡ at + 1 = omega arith in
    let front : 0 < length (b ∷ rest) = omega arith in
    rw e
    (elim (cases_eq b 0) [
      | inl is0 ↦ rw (walking.pad id at (b ∷ rest) front is0)
          (subst (λ h. Tells id at (h ∷ rest) (walk id (at + 1) 0 rest)) (sym is0)
          (tells_on id at pad rest (walk id (at + 1) 0 rest) tt
          (subst (λ k. Tells id k rest (walk id (at + 1) 0 rest)) next (tells id (at + 1) 0 rest some few (omega arith)))))
      | inr ne ↦ elim (cases_lt b 16) [
        | inl low ↦ rw (walking.stops_low id at (b ∷ rest) front ne low) (record { rest = b ∷ rest; behind = at_front id (b ∷ rest); ends = inl (omega arith, omega arith) })
        | inr ge ↦ elim (cases_lt b 240) [
          | inr high ↦ rw (walking.stops_high id at (b ∷ rest) front high) (record { rest = b ∷ rest; behind = at_front id (b ∷ rest); ends = inr high })
          | inl lt ↦ elim (cases_lt (length rest) (b % 16 + 1)) [
            | inl short ↦ rw (walking.cut_off id at (b ∷ rest) front ge lt (omega arith))
                (record { head = b; rest = rest; behind = at_front id (b ∷ rest); low = ge; high = omega arith; passes_end = short })
            | inr room ↦ elim (cases_eq b (16 * id + 1)) [
              | inl ours ↦ rw (walking.is_there id at (b ∷ rest) front ge lt (omega arith) ours) (1, ours_at_front id b rest (omega arith) ours, refl)
              | inr other ↦ rw (walking.enters id at b rest ge lt room other)
                  (subst (λ (xs : List ℕ). Tells id at xs (walk id (at + 1) (b % 16 + 1) rest)) (element_bytes b rest room)
                  (tells_on id at (element_of b rest) (drop (b % 16 + 1) rest) (walk id (at + 1) (b % 16 + 1) rest) (element_other id b rest ge lt room other)
                  (let same : (at + 1) + (b % 16 + 1) ≡ at + length (piece_bytes (element_of b rest)) = omega (arith, length-element b rest room) in
                  subst (λ k. Tells id k (drop (b % 16 + 1) rest) (walk id (at + 1) (b % 16 + 1) rest)) same
                  (tells id (at + 1) (b % 16 + 1) rest some few room))))
            ]
          ]
        ]
      ]
    ])

-- ---- from the kind to the walk

over_one : (id at : ℕ) (p : Piece) (xs : List ℕ) → IsOther id p → walk id at 0 (piece_bytes p ++ xs) ≡ walk id (at + length (piece_bytes p)) 0 xs
over_one id at pad xs h = walking.pad id at (0 ∷ xs) (omega arith) refl
over_one id at (element number content) xs h =
    let b : ℕ = 16 * number + (length content - 1) in
    let len : b % 16 + 1 ≡ length content = omega (arith, h.0, h.1, h.2, h.3) in
    let room : b % 16 + 1 ≤ length (content ++ xs) = omega (arith, len, length-append content xs) in
    let other : b ≢ 16 * id + 1 = λ same. h.4 (omega (arith, h.0, h.1, h.2, h.3, same)) (omega (arith, h.0, h.1, h.2, h.3, same)) in
    let same : (at + 1) + (b % 16 + 1) ≡ at + suc (length content) = omega (arith, len) in
    walking.enters id at b (content ++ xs) (omega (arith, h.0)) (omega (arith, h.1, h.3)) room other
    ∙ walking.passes id (at + 1) (b % 16 + 1) (content ++ xs) room
    ∙ ap (λ k. walk id k 0 (drop (b % 16 + 1) (content ++ xs))) same
    ∙ ap (λ (ys : List ℕ). walk id (at + suc (length content)) 0 ys) (ap (λ k. drop k (content ++ xs)) len ∙ drop-append_seam content xs)

over : (id at : ℕ) (others : List Piece) (rest : List ℕ) → AllByRecursion (IsOther id) others
    → walk id at 0 (flat_map piece_bytes others ++ rest) ≡ walk id (at + length (flat_map piece_bytes others)) 0 rest
over id at [] rest h = let e : at ≡ at + 0 = omega arith in ap (λ k. walk id k 0 rest) e
over id at (p ∷ others) rest h =
    let e : (at + length (piece_bytes p)) + length (flat_map piece_bytes others) ≡ at + length (piece_bytes p ++ flat_map piece_bytes others) =
    omega (arith, length-append (piece_bytes p) (flat_map piece_bytes others)) in
    ap (walk id at 0) (append_assoc (piece_bytes p) (flat_map piece_bytes others) rest)
    ∙ over_one id at p (flat_map piece_bytes others ++ rest) h.0
    ∙ over id (at + length (piece_bytes p)) others rest h.1
    ∙ ap (λ k. walk id k 0 rest) e

ends_walk : (id at : ℕ) (rest : List ℕ) → IsEnd rest → walk id at 0 rest ≡ Err NoExtension
ends_walk id at [] h = walking.ends id at [] refl
ends_walk id at (b ∷ rest) (inl h) = walking.stops_low id at (b ∷ rest) (omega arith) (λ is0. omega (arith, h.0, is0)) (omega (arith, h.1))
ends_walk id at (b ∷ rest) (inr h) = walking.stops_high id at (b ∷ rest) (omega arith) h

-- the walk comes to what is behind the others
comes_to : (id at : ℕ) (xs rest : List ℕ) (c : Continues id xs rest) → walk id at 0 xs ≡ walk id (at + length (flat_map piece_bytes c.others)) 0 rest
comes_to id at xs rest c = ap (walk id at 0) c.parts ∙ over id at c.others rest c.passed

-- so many bytes stand in front
distance : (id : ℕ) (xs rest : List ℕ) (c : Continues id xs rest) → length (flat_map piece_bytes c.others) + length rest ≡ length xs
distance id xs rest c = omega (arith, ap length c.parts, length-append (flat_map piece_bytes c.others) rest)

pub number_walks : (id at k : ℕ) (xs : List ℕ) → 1 ≤ id → id ≤ 14 → IsNumberAt id xs k → walk id at 0 xs ≡ Ok (at + k)
number_walks id at k xs some few n =
    let rest : List ℕ = (16 * id + 1) ∷ n.high ∷ n.low ∷ n.rest in
    let e : (at + length (flat_map piece_bytes n.behind.others)) + 1 ≡ at + k = omega (arith, distance id xs rest n.behind, n.place) in
    comes_to id at xs rest n.behind
    ∙ walking.is_there id (at + length (flat_map piece_bytes n.behind.others)) rest (omega arith) (omega arith) (omega arith) (omega arith) refl
    ∙ ap Ok e

pub none_walks : (id at : ℕ) (xs : List ℕ) → HasNoNumber id xs → walk id at 0 xs ≡ Err NoExtension
none_walks id at xs h = comes_to id at xs h.rest h.behind ∙ ends_walk id (at + length (flat_map piece_bytes h.behind.others)) h.rest h.ends

pub cut_walks : (id at : ℕ) (xs : List ℕ) → IsCutOff id xs → walk id at 0 xs ≡ Err BadExtension
cut_walks id at xs h =
    comes_to id at xs (h.head ∷ h.rest) h.behind
    ∙ walking.cut_off id (at + length (flat_map piece_bytes h.behind.others)) (h.head ∷ h.rest) (omega arith) h.low (omega (arith, h.high)) (omega (arith, h.passes_end))

-- ---- one kind

pub ok_not_err : (r : Result ℕ WireFault) (n : ℕ) (e : WireFault) → r ≡ Ok n → r ≡ Err e → ⊥
ok_not_err r n e h k = cc

pub one_fault : (r : Result ℕ WireFault) (e f : WireFault) → r ≡ Err e → r ≡ Err f → e ≡ f
one_fault r e f h k = cc

one_place : (r : Result ℕ WireFault) (n m : ℕ) → r ≡ Ok n → r ≡ Ok m → n ≡ m
one_place r n m h k = cc

apart : NoExtension ≡ BadExtension → ⊥
apart same = cc

one_of : (id at : ℕ) (xs : List ℕ) (r : Result ℕ WireFault) → Tells id at xs r → ((k : ℕ) × IsNumberAt id xs k) ⊎ (HasNoNumber id xs ⊎ IsCutOff id xs)
one_of id at xs (Ok place) (k, n, e) = inl (k, n)
one_of id at xs (Err NoExtension) t = inr (inl t)
one_of id at xs (Err BadExtension) t = inr (inr t)
one_of id at xs (Err Short) t = absurd t
one_of id at xs (Err Long) t = absurd t
one_of id at xs (Err Version) t = absurd t

pub one_kind : (id : ℕ) (xs : List ℕ) → 1 ≤ id → id ≤ 14 → IsOfOneKind id xs
one_kind id xs some few = record {
  one = one_of id (0 + 0) xs (walk id 0 0 xs) (tells id 0 0 xs some few (omega arith));
  not_none = λ at n h. ok_not_err (walk id 0 0 xs) (0 + at) NoExtension (number_walks id 0 at xs some few n) (none_walks id 0 xs h);
  not_cut = λ at n h. ok_not_err (walk id 0 0 xs) (0 + at) BadExtension (number_walks id 0 at xs some few n) (cut_walks id 0 xs h);
  not_both = λ h k. apart (one_fault (walk id 0 0 xs) NoExtension BadExtension (none_walks id 0 xs h) (cut_walks id 0 xs k));
  same = λ at also n m.
      let e : 0 + at ≡ 0 + also = one_place (walk id 0 0 xs) (0 + at) (0 + also) (number_walks id 0 at xs some few n) (number_walks id 0 also xs some few m) in
      omega arith;
}
