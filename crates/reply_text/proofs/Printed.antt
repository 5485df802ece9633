-- Printed glances are read back.
use Rattle.std.proofs.Common.{◌≡◌, ℕ, suc, zero, ◌+◌, ◌/◌, ◌%◌, ◌<◌, ◌^◌, false, eqb, ltb, List, [], ◌∷◌, ◌++◌, length, slice_get, Option, Some, refl, ◌∙◌, ap, arith, append_assoc, inl, inr}
use Rattle.std.specs.Prelude.{codes}
use Rattle.std.specs.Fmt.{decimal, digits, digits_onto, digit_glyph}
use Rattle.std.proofs.lemmas.Bool.{cases_Bool, lt-ltb, ne_eqb}
use Rattle.call_trace.specs.Fields.{field, behind, lines_of, number_of}
use Rattle.call_trace.proofs.Lines.{Lacks, line_first}
use Rattle.call_trace.proofs.Numbers.{number_of-decimal}
use Rattle.call_trace.proofs.Parts.{field_of, behind_of}
use Rattle.send_core.specs.declared.call.Entry.{Entry}
use Rattle.send_core.specs.History.{sent}
use Rattle.send_core.specs.Reply.{target}
use Rattle.reply_text.specs.declared.seen.Seen.{Seen}
use Rattle.reply_text.specs.Text.{glance_line, glance_lines, glances_by, tail_line}
use Rattle.reply_text.specs.Looking.{small, seen_in, seen_before, glances_in}

-- ---- digits are neither spaces nor line feeds

glyph_high : (mark d : ℕ) → mark < 48 → eqb (digit_glyph false d) mark ≡ false
glyph_high mark d low = elim (cases_Bool (ltb d 10)) [ inl digit ↦ rw digit (ne_eqb (48 + d) mark (λ e. absurd (omega arith))) | inr letter ↦ rw letter (ne_eqb (87 + d) mark (λ e. absurd (omega arith))) ]

onto_lacks : (mark k n : ℕ) (acc : List ℕ) → mark < 48 → Lacks mark acc → Lacks mark (digits_onto k 10 false n acc)
onto_lacks mark zero n acc low lacks = lacks
onto_lacks mark (suc k) n acc low lacks =
    let more : Lacks mark (digit_glyph false (n % 10) ∷ acc) = (glyph_high mark (n % 10) low, lacks) in
    elim (cases_Bool (eqb (n / 10) 0)) [
      | inl last ↦ rw last more
      | inr other ↦ rw other (onto_lacks mark k (n / 10) (digit_glyph false (n % 10) ∷ acc) low more)
    ]

pub decimal_lacks : (mark n : ℕ) → mark < 48 → Lacks mark (decimal n)
unfolding digits
decimal_lacks mark n low = onto_lacks mark 64 n [] low tt

Lacks-append : (mark : ℕ) (xs ys : List ℕ) → Lacks mark xs → Lacks mark ys → Lacks mark (xs ++ ys)
Lacks-append mark [] ys one other = other
Lacks-append mark (x ∷ xs) ys one other = (one.0, Lacks-append mark xs ys one.1 other)

-- ---- one line

-- numbers that are read back
pub record IsShort (g : Seen) : Type 0 where
  pub actor : g.actor < 2 ^ 32
  pub calls : g.calls < 2 ^ 32
  pub target : g.target < 2 ^ 64

-- a glance's line, field by field
spelled : ℕ → Seen → List ℕ
spelled k g = decimal g.actor ++ 32 ∷ (codes "glance" ++ 32 ∷ (decimal k ++ 32 ∷ (decimal g.calls ++ 32 ∷ decimal g.target)))

spelled_is : (k : ℕ) (g : Seen) (more : List ℕ) → glance_line k g ++ more ≡ spelled k g ++ 10 ∷ more
unfolding spelled
spelled_is k g more = simp append_assoc

spelled_lacks : (k : ℕ) (g : Seen) → Lacks 10 (spelled k g)
unfolding spelled
spelled_lacks k g =
    Lacks-append 10 (decimal g.actor) _ (decimal_lacks 10 g.actor (omega arith)) (
      refl,
      (
        refl,
        (
          refl,
          (
            refl,
            (
              refl,
              (
                refl,
                (
                  refl,
                  (
                    refl,
                    Lacks-append 10 (decimal k) _ (decimal_lacks 10 k (omega arith)) (
                      refl,
                      Lacks-append 10 (decimal g.calls) _ (decimal_lacks 10 g.calls (omega arith)) (refl, decimal_lacks 10 g.target (omega arith)),
                    ),
                  ),
                ),
              ),
            ),
          ),
        ),
      ),
    )

small_is : (o : Option ℕ) (n : ℕ) → o ≡ Some n → n < 2 ^ 32 → small o ≡ Some n
small_is o n is low = rw is (rw (lt-ltb n (2 ^ 32) low) refl)

seen_is : (line : List ℕ) (g : Seen) → small (number_of (field line)) ≡ Some g.actor → small (number_of (field (behind (behind (behind line))))) ≡ Some g.calls
    → number_of (behind (behind (behind (behind line)))) ≡ Some g.target → seen_in line ≡ Some g
seen_is line g a b c = rw (a, b, c) refl

spelled_read : (k : ℕ) (g : Seen) → IsShort g → seen_in (spelled k g) ≡ Some g
unfolding spelled
spelled_read k g short =
    let r4 = decimal g.target in
    let r3 = decimal g.calls ++ 32 ∷ r4 in
    let r2 = decimal k ++ 32 ∷ r3 in
    let r1 = codes "glance" ++ 32 ∷ r2 in
    let la = decimal_lacks 32 g.actor (omega arith) in
    let lk = decimal_lacks 32 k (omega arith) in
    let lc = decimal_lacks 32 g.calls (omega arith) in
    let lg : Lacks 32 (codes "glance") = (refl, (refl, (refl, (refl, (refl, (refl, tt)))))) in
    let b1 : behind (spelled k g) ≡ r1 = behind_of (decimal g.actor) r1 la in
    let b2 : behind (behind (spelled k g)) ≡ r2 = ap behind b1 ∙ behind_of (codes "glance") r2 lg in
    let b3 : behind (behind (behind (spelled k g))) ≡ r3 = ap behind b2 ∙ behind_of (decimal k) r3 lk in
    let b4 : behind (behind (behind (behind (spelled k g)))) ≡ r4 = ap behind b3 ∙ behind_of (decimal g.calls) r4 lc in
    seen_is (spelled k g) g
    (small_is (number_of (field (spelled k g))) g.actor (ap number_of (field_of (decimal g.actor) r1 la) ∙ number_of-decimal g.actor (omega (arith, short.actor))) short.actor)
    (small_is (number_of (field (behind (behind (behind (spelled k g)))))) g.calls (ap (λ xs. number_of (field xs)) b3 ∙ (ap number_of (field_of (decimal g.calls) r4 lc) ∙ number_of-decimal g.calls (omega (arith, short.calls)))) short.calls)
    (ap number_of b4 ∙ number_of-decimal g.target short.target)

-- ---- all lines

one_more : (k : ℕ) (g : Seen) (more : List ℕ) → IsShort g → glances_in (lines_of (glance_line k g ++ more)).whole ≡ g ∷ glances_in (lines_of more).whole
one_more k g more short =
    ap (λ xs. glances_in (lines_of xs).whole) (spelled_is k g more)
    ∙ (rw (line_first (spelled k g) more (spelled_lacks k g)) (ap (λ o. seen_before o (glances_in (lines_of more).whole)) (spelled_read k g short)))

all_lines : (before glances : List Seen) (more : List ℕ) → ((k : ℕ) (g : Seen) → slice_get glances k ≡ Some g → IsShort g) → glances_in (lines_of more).whole ≡ []
    → glances_in (lines_of (glance_lines before glances ++ more)).whole ≡ glances
all_lines before [] more short none = none
all_lines before (g ∷ glances) more short none =
    let number = glances_by g.actor before in
    ap (λ xs. glances_in (lines_of xs).whole) (append_assoc (glance_line number g) (glance_lines (before ++ g ∷ []) glances) more)
    ∙ (one_more number g (glance_lines (before ++ g ∷ []) glances ++ more) (short 0 g refl)
    ∙ ap (λ (gs : List Seen). g ∷ gs) (all_lines (before ++ g ∷ []) glances more (λ k e is. short (suc k) e is) none))

-- ---- the tail is no glance

tail_read : (history : List Entry) → glances_in (lines_of (tail_line history)).whole ≡ []
tail_read history =
    let body = codes "end" ++ 32 ∷ (decimal (length history) ++ 32 ∷ (decimal (length (sent history)) ++ 32 ∷ decimal (target history))) in
    let is : tail_line history ≡ body ++ 10 ∷ [] = simp append_assoc in
    let lacks : Lacks 10 body = (
      refl,
      (
        refl,
        (
          refl,
          (
            refl,
            Lacks-append 10 (decimal (length history)) _ (decimal_lacks 10 (length history) (omega arith)) (
              refl,
              Lacks-append 10 (decimal (length (sent history))) _ (decimal_lacks 10 (length (sent history)) (omega arith)) (refl, decimal_lacks 10 (target history) (omega arith)),
            ),
          ),
        ),
      ),
    ) in
    ap (λ xs. glances_in (lines_of xs).whole) is ∙ rw (line_first body [] lacks) refl

-- what is printed as glances and a tail is read so
pub printed_read : (history : List Entry) (glances : List Seen) → ((k : ℕ) (g : Seen) → slice_get glances k ≡ Some g → IsShort g)
    → glances_in (lines_of (glance_lines [] glances ++ tail_line history)).whole ≡ glances
printed_read history glances short = all_lines [] glances (tail_line history) short (tail_read history)
