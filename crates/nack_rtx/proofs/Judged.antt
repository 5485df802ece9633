-- What becomes of a number, by what a resender holds.
use Rattle.std.proofs.Common.{◌≡◌, ◌≢◌, ℕ, ◌+◌, ◌-◌, ◌%◌, ◌<◌, ◌≤◌, cond, List, [], length, get_or, sum, Option, Some, None, sym, ap, subst, ◌∙◌, arith, eq-eqb}
use Rattle.std.specs.Prelude.{slice_get}
use Rattle.std.proofs.lemmas.Bool.{lt-ltb, le-ltb, ne_eqb}
use Rattle.gcc_units.specs.Listed.{bare}
use Rattle.circular_buffer.specs.Buffer.{keep_last}
use Rattle.nack_rtx.specs.declared.TheConstants.{MOST_STORED}
use Rattle.nack_rtx.specs.declared.resender.RtxSettings.{RtxSettings}
use Rattle.nack_rtx.specs.declared.resender.Resend.{Resend}
use Rattle.nack_rtx.specs.declared.resender.Verdict.TheVariants.{Unknown, Spent, Again}
use Rattle.nack_rtx.specs.Packets.{resent_packet}
use Rattle.nack_rtx.specs.Resending.{Account, stored, resend_of, verdict_on, verdict}
use Rattle.nack_rtx.specs.Held.{Held}
use Rattle.nack_rtx.specs.Keeping.{Keeps, with_counts, found}
use Rattle.nack_rtx.proofs.Account.{found_is, IsStored, stored_is, newest-get}

pub of_others : (s : RtxSettings) (media : ℕ) (a : Account) (seq : ℕ) → media ≢ s.media → Unknown ≡ verdict s media a seq
of_others s media a seq other = ap (λ b. cond b (verdict_on s a seq (stored a.packets seq)) Unknown) (sym (ne_eqb media s.media other))

module _ (h : Held) (counts : List ℕ) (resends : ℕ) (a : Account) (media seq : ℕ) (keep : Keeps (with_counts h counts resends) a) (same : media ≡ h.settings.media) (small : seq < 65536) where
  pub on_found : (o : Option ℕ) → found h seq ≡ o → verdict_on h.settings a seq o ≡ verdict h.settings media a seq
  on_found o is =
      ap (verdict_on h.settings a seq) (sym is ∙ found_is (with_counts h counts resends) a seq keep small)
      ∙ ap (λ b. cond b (verdict_on h.settings a seq (stored a.packets seq)) Unknown) (sym (eq-eqb media h.settings.media same))

  -- what is held of a stored packet
  pub record IsHeld (place : ℕ) : Type 0 where
    pub packet : slice_get h.packets (place - (h.kept - MOST_STORED)) ≡ Some (get_or a.packets place [])
    pub count : slice_get counts (place - (h.kept - MOST_STORED)) ≡ Some (get_or a.resent place 0)

  pub is_held : (place : ℕ) → found h seq ≡ Some place → IsHeld place
  is_held place is =
      let s : IsStored (length a.packets) (Some place) =
      subst (IsStored (length a.packets)) (sym (found_is (with_counts h counts resends) a seq keep small) ∙ is) (stored_is a.packets seq) in
      let kept : h.kept ≡ length a.packets = keep.kept in
      let each : length a.resent ≡ length a.packets = keep.each in
      let other : h.kept ≡ length a.resent = kept ∙ sym each in
      record {
        packet = ap (λ (xs : List (List ℕ)). slice_get xs (place - (h.kept - MOST_STORED))) keep.packets
            ∙ ap (λ k. slice_get (keep_last MOST_STORED a.packets) (place - (k - MOST_STORED))) kept
            ∙ newest-get MOST_STORED a.packets place [] s.0 (omega (arith, s.1));
        count = ap (λ (xs : List ℕ). slice_get xs (place - (h.kept - MOST_STORED))) keep.counts
            ∙ ap (λ k. slice_get (keep_last MOST_STORED a.resent) (place - (k - MOST_STORED))) other
            ∙ newest-get MOST_STORED a.resent place 0 (omega (arith, s.0, each)) (omega (arith, s.1, each));
      }

  some_same : {X : Type 0} (o : Option X) (x y : X) → o ≡ Some x → o ≡ Some y → x ≡ y
  some_same o x y e f = cc

  pub no_packet : (place : ℕ) → found h seq ≡ Some place → slice_get h.packets (place - (h.kept - MOST_STORED)) ≡ None → ⊥
  no_packet place is none = let e = sym none ∙ (is_held place is).packet in cc e

  pub no_counts : (place : ℕ) → found h seq ≡ Some place → slice_get counts (place - (h.kept - MOST_STORED)) ≡ None → ⊥
  no_counts place is none = let e = sym none ∙ (is_held place is).count in cc e

  pub of_spent : (place count : ℕ) → found h seq ≡ Some place → slice_get counts (place - (h.kept - MOST_STORED)) ≡ Some count → h.settings.repeats ≤ count → Spent ≡ verdict h.settings media a seq
  of_spent place count is there le =
      let c : count ≡ get_or a.resent place 0 = some_same (slice_get counts (place - (h.kept - MOST_STORED))) count (get_or a.resent place 0) there (is_held place is).count in
      let all : h.settings.repeats ≤ get_or a.resent place 0 = omega (arith, c, le) in
      ap (λ b. cond b (Again place (get_or a.resent place 0 + 1) (resend_of h.settings a seq place)) Spent) (sym (le-ltb (get_or a.resent place 0) h.settings.repeats all))
      ∙ on_found (Some place) is

  pub of_again : (place count number : ℕ) (bytes : List ℕ) (resend : Resend) → found h seq ≡ Some place → slice_get h.packets (place - (h.kept - MOST_STORED)) ≡ Some bytes
      → slice_get counts (place - (h.kept - MOST_STORED)) ≡ Some count → count < h.settings.repeats → number ≡ resends % 65536
      → resend ≡ record { seq = seq; packet = bare (resent_packet h.settings.payload number h.settings.rtx bytes) }
      → Again place (count + 1) resend ≡ verdict h.settings media a seq
  of_again place count number bytes resend is packet there lt n e =
      let c : count ≡ get_or a.resent place 0 = some_same (slice_get counts (place - (h.kept - MOST_STORED))) count (get_or a.resent place 0) there (is_held place is).count in
      let p : bytes ≡ get_or a.packets place [] = some_same (slice_get h.packets (place - (h.kept - MOST_STORED))) bytes (get_or a.packets place []) packet (is_held place is).packet in
      let few : get_or a.resent place 0 < h.settings.repeats = omega (arith, c, lt) in
      let m : number ≡ sum a.resent % 65536 = n ∙ ap (λ k. k % 65536) keep.resends in
      ap (λ k. Again place (k + 1) resend) c
      ∙ ap (Again place (get_or a.resent place 0 + 1)) (e ∙ ap (λ k. made k bytes) m ∙ ap (made (sum a.resent % 65536)) p)
      ∙ ap (λ b. cond b (Again place (get_or a.resent place 0 + 1) (resend_of h.settings a seq place)) Spent) (sym (lt-ltb (get_or a.resent place 0) h.settings.repeats few))
      ∙ on_found (Some place) is
    where
      made : ℕ → List ℕ → Resend
      made k bytes = record { seq = seq; packet = bare (resent_packet h.settings.payload k h.settings.rtx bytes) }
