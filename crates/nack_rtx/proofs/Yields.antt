-- The laws of what is sent again.
use Rattle.std.proofs.Common.{◌≡◌, ◌≢◌, ℕ, zero, suc, ◌+◌, ◌-◌, ◌<◌, ◌≤◌, ◌==◌, ◌↔◌, inl, inr, cond, List, [], ◌∷◌, length, get_or, Option, Some, None, refl, sym, ap, subst, ◌∙◌, arith, eq-eqb}
use Rattle.std.proofs.lemmas.Bool.{cases_lt, cases_eq, lt-ltb, le-ltb, le-leb, lt-leb, ne_eqb}
use Rattle.rtp_wire.specs.Place.{field16}
use Rattle.nack_rtx.specs.declared.TheConstants.{MOST_STORED}
use Rattle.nack_rtx.specs.declared.resender.RtxSettings.{RtxSettings}
use Rattle.nack_rtx.specs.declared.resender.Resend.{Resend}
use Rattle.nack_rtx.specs.declared.resender.Verdict.TheVariants.{Again}
use Rattle.nack_rtx.specs.Resending.{Account, or_else, last_from, if_newest, stored, resend_of, verdict_on, verdict}
use Rattle.nack_rtx.specs.Yielding.{IsNewestWith, IsAgainAt, IsYielded}

-- ---- the newest with a number

-- of packets from this place on, the one at the place has the number, and no later one
record IsLast (seq at : ℕ) (packets : List (List ℕ)) (place : ℕ) : Type 0 where
  low : at ≤ place
  inside : place < at + length packets
  number : field16 2 (get_or packets (place - at) []) ≡ seq
  last : (k : ℕ) → place - at < k → k < length packets → field16 2 (get_or packets k []) ≢ seq

abbrev LastTold : ℕ → ℕ → List (List ℕ) → Option ℕ → Type 0
LastTold seq at packets None = (k : ℕ) → k < length packets → field16 2 (get_or packets k []) ≢ seq
LastTold seq at packets (Some place) = IsLast seq at packets place

last_or : (seq at : ℕ) (q : List ℕ) (qs : List (List ℕ)) (o : Option ℕ) → LastTold seq (at + 1) qs o
    → LastTold seq at (q ∷ qs) (or_else o (cond (field16 2 q == seq) (Some at) None))
last_or seq at q qs (Some place) told = record {
  low = omega (arith, told.low);
  inside = omega (arith, told.inside);
  number = let e : place - at ≡ suc (place - (at + 1)) = omega (arith, told.low) in ap (λ k. field16 2 (get_or (q ∷ qs) k [])) e ∙ told.number;
  last = λ k. elim k as (λ j. place - at < j → j < length (q ∷ qs) → field16 2 (get_or (q ∷ qs) j []) ≢ seq)
      [ zero ↦ λ lt inside. absurd (omega (arith, lt)) | suc j ↦ λ lt inside. told.last j (omega (arith, lt, told.low)) (omega (arith, inside)) ];
}
last_or seq at q qs None told = elim (cases_eq (field16 2 q) seq) [
  | inl same ↦ rw (eq-eqb (field16 2 q) seq same) (record {
    low = omega arith;
    inside = omega arith;
    number = let e : at - at ≡ 0 = omega arith in ap (λ k. field16 2 (get_or (q ∷ qs) k [])) e ∙ same;
    last = after_first seq at q qs told;
  })
  | inr other ↦ rw (ne_eqb (field16 2 q) seq other) (none_of seq q qs other told)
]
  where
    after_first : (seq at : ℕ) (q : List ℕ) (qs : List (List ℕ)) → ((k : ℕ) → k < length qs → field16 2 (get_or qs k []) ≢ seq)
        → (k : ℕ) → at - at < k → k < length (q ∷ qs) → field16 2 (get_or (q ∷ qs) k []) ≢ seq
    after_first seq at q qs told zero lt inside = absurd (omega (arith, lt))
    after_first seq at q qs told (suc k) lt inside = told k (omega (arith, inside))

    none_of : (seq : ℕ) (q : List ℕ) (qs : List (List ℕ)) → field16 2 q ≢ seq → ((k : ℕ) → k < length qs → field16 2 (get_or qs k []) ≢ seq)
        → (k : ℕ) → k < length (q ∷ qs) → field16 2 (get_or (q ∷ qs) k []) ≢ seq
    none_of seq q qs other told zero lt = other
    none_of seq q qs other told (suc k) lt = told k (omega (arith, lt))

last_told : (seq at : ℕ) (packets : List (List ℕ)) → LastTold seq at packets (last_from seq at packets)
last_told seq at [] = λ k lt. absurd (omega (arith, lt))
last_told seq at (q ∷ qs) = last_or seq at q qs (last_from seq (at + 1) qs) (last_told seq (at + 1) qs)

newest_of : (seq place : ℕ) (packets : List (List ℕ)) (o : Option ℕ) → LastTold seq 0 packets o → if_newest (length packets) o ≡ Some place → IsNewestWith packets seq place
newest_of seq place packets None told is = absurd cc
newest_of seq place packets (Some other) told is = elim (cases_lt (other + MOST_STORED) (length packets)) [
  | inl lt ↦ absurd (let e = rw (lt-leb (length packets) (other + MOST_STORED) lt) at is in cc e)
  | inr le ↦
      let e = rw (le-leb (length packets) (other + MOST_STORED) le) at is in
      let same : other ≡ place = cc e in
      let at : other - 0 ≡ other = omega arith in
      subst (IsNewestWith packets seq) same (record {
        inside = omega (arith, told.inside);
        newest = le;
        number = ap (λ k. field16 2 (get_or packets k [])) (sym at) ∙ told.number;
        last = λ k lt inside. told.last k (omega (arith, lt)) inside;
      })
]

of_newest : (seq place : ℕ) (packets : List (List ℕ)) (o : Option ℕ) → LastTold seq 0 packets o → IsNewestWith packets seq place → if_newest (length packets) o ≡ Some place
of_newest seq place packets None told is = absurd (told place is.inside is.number)
of_newest seq place packets (Some other) told is =
    let at : other - 0 ≡ other = omega arith in
    let same : other ≡ place = elim (cases_lt other place) [
      | inl lt ↦ absurd (told.last place (omega (arith, lt)) is.inside is.number)
      | inr ge ↦ elim (cases_lt place other) [
        | inl lt ↦ absurd (is.last other lt (omega (arith, told.inside)) (ap (λ k. field16 2 (get_or packets k [])) (sym at) ∙ told.number))
        | inr le ↦ omega arith
      ]
    ] in
    let near : length packets ≤ other + MOST_STORED = omega (arith, same, is.newest) in
    rw (le-leb (length packets) (other + MOST_STORED) near) (ap Some same)

pub newest : (packets : List (List ℕ)) (seq place : ℕ) → (stored packets seq ≡ Some place) ↔ IsNewestWith packets seq place
newest packets seq place =
    (newest_of seq place packets (last_from seq 0 packets) (last_told seq 0 packets), of_newest seq place packets (last_from seq 0 packets) (last_told seq 0 packets))

-- ---- what is sent again

again_on : (s : RtxSettings) (a : Account) (seq place times : ℕ) (resend : Resend) (o : Option ℕ) → verdict_on s a seq o ≡ Again place times resend → (o ≡ Some place) × (get_or a.resent place 0 < s.repeats)
again_on s a seq place times resend None is = absurd cc
again_on s a seq place times resend (Some other) is = elim (cases_lt (get_or a.resent other 0) s.repeats) [
  | inl lt ↦
      let e = rw (lt-ltb (get_or a.resent other 0) s.repeats lt) at is in
      let same : other ≡ place = cc e in
      (ap Some same, subst (λ k. get_or a.resent k 0 < s.repeats) same lt)
  | inr le ↦ absurd (let e = rw (le-ltb (get_or a.resent other 0) s.repeats le) at is in cc e)
]

pub again_if : (s : RtxSettings) (media : ℕ) (a : Account) (seq place times : ℕ) (resend : Resend) → verdict s media a seq ≡ Again place times resend → IsYielded s media a seq place
again_if s media a seq place times resend is = elim (cases_eq media s.media) [
  | inl same ↦
      let e = rw (eq-eqb media s.media same) at is in
      let p = again_on s a seq place times resend (stored a.packets seq) e in
      record { for_media = same; is_stored = p.0; unspent = p.1 }
  | inr other ↦ absurd (let e = rw (ne_eqb media s.media other) at is in cc e)
]

yielded : (s : RtxSettings) (media : ℕ) (a : Account) (seq place : ℕ) → IsYielded s media a seq place → IsAgainAt s media a seq place
yielded s media a seq place is = (
  get_or a.resent place 0 + 1,
  resend_of s a seq place,
  rw (eq-eqb media s.media is.for_media) (ap (verdict_on s a seq) is.is_stored ∙ rw (lt-ltb (get_or a.resent place 0) s.repeats is.unspent) refl),
)

pub yields : (s : RtxSettings) (media : ℕ) (a : Account) (seq place : ℕ) → IsAgainAt s media a seq place ↔ IsYielded s media a seq place
yields s media a seq place = (λ is. again_if s media a seq place is.0 is.1 is.2, yielded s media a seq place)
