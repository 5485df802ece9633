-- A comparison over credits: what one more credit changes, and the credits of a journal.
use Rattle.std.proofs.Common.{◌≡◌, ℕ, ◌+◌, ◌<◌, ◌≤◌, List, [], ◌∷◌, ◌++◌, length, length-append, take, drop, get_or, slice_get, Some, All, refl, sym, ◌∙◌, ap, subst, append_assoc, arith}
use Rattle.std.specs.Prelude.{codes, Result, Ok, Err, OnOk}
use Rattle.std.specs.Fmt.{decimal}
use Rattle.std.specs.String.{string_bytes}
use Rattle.std.proofs.lemmas.Int.{ints}
use Rattle.std.proofs.lemmas.List.{append-nil, take-append-drop, get_or_append_left, get_or_at, drop_more, take_more, take_all}
use Rattle.std.proofs.lemmas.List.Elements.{All-weaker}
use Rattle.std.proofs.lemmas.Grind.{flat_map-append}
use Rattle.gcc_units.proofs.Walk.{flat_map-push, flat_each-push}
use Rattle.gcc_units.specs.declared.limits.TheConstants.{GREATEST_MOMENT}
use Rattle.gcc_units.specs.declared.shared_types.Credit.{Credit}
use Rattle.gcc_units.specs.declared.shared_types.Sample.{Sample}
use Rattle.packet_groups.specs.Division.{GapsAreShort}
use Rattle.packet_groups.specs.Groups.{samples}
use Rattle.packet_groups.specs.Kept.{IsOfJournal, IsWithin, listed}
use Rattle.packet_groups.specs.Kept as grouped
use Rattle.trendline.specs.KeptBySamples.{GapsStayWithin}
use Rattle.send_core.specs.declared.call.Entry.{Entry}
use Rattle.send_laws.specs.Credits.{credits}
use Rattle.send_laws.specs.InRange.{all_credits}
use Rattle.run_top.specs.declared.beside.Compared.{Compared}
use Rattle.run_top.specs.declared.beside.Beside.{Beside}
use Rattle.run_top.specs.declared.comparing.Comparing.{Comparing}
use Rattle.run_top.specs.Beside.{compared_after, IsBeside, AreTaken, TakesSample}
use Rattle.run_top.specs.Compared.{compared_line, compared_lines, compared_text, IsSoFar, AreInRange, TakesCredits}
use Rattle.send_laws.proofs.Spanning.{take-next}

-- ---- ranges

-- what holds of each of two lists together holds of each of the first
all-front : {A : Type 0} (P : A → Type 0) (xs ys : List A) → All P (xs ++ ys) → All P xs
all-front P xs ys all = λ k d below. subst P (front xs ys k d below) (all k d (omega (arith, below, length-append xs ys)))
  where
    front : {A : Type 0} (xs ys : List A) (k : ℕ) (d : A) → k < length xs → get_or (xs ++ ys) k d ≡ get_or xs k d
    front xs ys k d below = get_or_append_left xs ys d k below

pub range-front : (xs ys : List Credit) → AreInRange (xs ++ ys) → AreInRange xs
range-front xs ys range = record { within = all-front IsOfJournal xs ys range.within; few = omega (arith, range.few, length-append xs ys) }

pub taken-of : GapsStayWithin → GapsAreShort → (cs : List Credit) → AreInRange cs → AreTaken (samples cs)
taken-of stay short cs range = record {
  within = stay cs range.within range.few;
  gaps = short cs GREATEST_MOMENT (All-weaker IsOfJournal (λ (c : Credit). c.sent_at ≤ GREATEST_MOMENT) (λ c h. h.sent_at) cs range.within);
}

-- the last of these credits is in its ranges
pub last-within : (cs : List Credit) (c : Credit) → AreInRange (cs ++ c ∷ []) → IsWithin c
last-within cs c range =
    let last : IsOfJournal c = subst IsOfJournal (get_or_at cs c [] c (length cs) refl) (range.within (length cs) c (omega (arith, length-append cs (c ∷ [])))) in
    record { sent_at = last.sent_at; low = omega (arith, ints, last.low); high = omega (arith, ints, last.high) }

-- ---- one credit more

pub takes-sample : GapsStayWithin → GapsAreShort → (b : Comparing) (cs : List Credit) (c : Credit) (s : Sample) → IsSoFar b cs → AreInRange (cs ++ c ∷ [])
    → samples (cs ++ c ∷ []) ≡ samples cs ++ s ∷ [] → TakesSample b.beside s
takes-sample stay short b cs c s so_far range grows = (samples cs, so_far.beside, subst AreTaken grows (taken-of stay short (cs ++ c ∷ []) range))

line_by : List Sample → Sample → List ℕ
line_by before s = compared_line (length before) (compared_after (before ++ s ∷ []))

lines-push : (ss : List Sample) (s : Sample) → compared_lines (ss ++ s ∷ []) ≡ compared_lines ss ++ compared_line (length ss) (compared_after (ss ++ s ∷ []))
lines-push ss s = flat_each-push (λ before x. compared_line (length before) (compared_after (before ++ x ∷ []))) ss s

-- where it gives no sample
pub so_far-none : (a b : Comparing) (cs : List Credit) (c : Credit) → IsSoFar a cs → grouped.StandsFor b.groups (cs ++ c ∷ []) → b.beside ≡ a.beside → b.text ≡ a.text
    → samples (cs ++ c ∷ []) ≡ samples cs ++ [] → IsSoFar b (cs ++ c ∷ [])
so_far-none a b cs c so_far groups beside text same =
    let none : samples (cs ++ c ∷ []) ≡ samples cs = same ∙ append-nil (samples cs) in
    record {
      groups = groups;
      beside = subst (λ ss. IsBeside b.beside ss) (sym none) (subst (λ (x : Beside). IsBeside x (samples cs)) (sym beside) so_far.beside);
      text = ap string_bytes text ∙ (so_far.text ∙ ap compared_lines (sym none));
    }

-- where it gives one
pub so_far-some : (a b : Comparing) (cs : List Credit) (c : Credit) (s : Sample) (k : ℕ) (said : Compared) → IsSoFar a cs → grouped.StandsFor b.groups (cs ++ c ∷ [])
    → samples (cs ++ c ∷ []) ≡ samples cs ++ s ∷ [] → IsBeside b.beside (samples cs ++ s ∷ []) → k ≡ length (samples cs) → said ≡ compared_after (samples cs ++ s ∷ [])
    → string_bytes b.text ≡ string_bytes a.text ++ compared_line k said → IsSoFar b (cs ++ c ∷ [])
so_far-some a b cs c s k said so_far groups grows beside counts says text = record {
  groups = groups;
  beside = subst (λ ss. IsBeside b.beside ss) (sym grows) beside;
  text =
      text ∙ (ap (λ xs. xs ++ compared_line k said) so_far.text
      ∙ (ap (λ n. compared_lines (samples cs) ++ compared_line n said) counts
      ∙ (ap (λ x. compared_lines (samples cs) ++ compared_line (length (samples cs)) x) says
      ∙ (sym (lines-push (samples cs) s) ∙ ap compared_lines (sym grows)))));
}

-- ---- many credits

pub takes-next : (b : Comparing) (cs xs : List Credit) (i : ℕ) (none : Credit) → i < length xs → IsSoFar b (cs ++ take i xs) → AreInRange (cs ++ xs)
    → TakesCredits b (get_or xs i none ∷ [])
takes-next b cs xs i none lt so_far range = (
  cs ++ take i xs,
  so_far,
  range-front ((cs ++ take i xs) ++ get_or xs i none ∷ []) (drop (i + 1) xs)
      (subst AreInRange
      (sym (append_assoc (cs ++ take i xs) (get_or xs i none ∷ []) (drop (i + 1) xs) ∙ (append_assoc cs (take i xs) (get_or xs i none ∷ drop (i + 1) xs)
      ∙ ap (λ ys. cs ++ ys) (ap (λ ys. take i xs ++ ys) (sym (drop_more xs i none lt)) ∙ take-append-drop i xs))))
      range),
)

pub credits-grow : (cs xs : List Credit) (i : ℕ) (none : Credit) → i < length xs → (cs ++ take i xs) ++ get_or xs i none ∷ [] ≡ cs ++ take (i + 1) xs
credits-grow cs xs i none lt = append_assoc cs (take i xs) (get_or xs i none ∷ []) ∙ ap (λ ys. cs ++ ys) (sym (take_more xs i none lt))

-- ---- the credits of a journal

pub credits-next : (h : List Entry) (k : ℕ) (e : Entry) → slice_get h k ≡ Some e → all_credits (take (k + 1) h) ≡ all_credits (take k h) ++ credits e.reply
credits-next h k e is = ap all_credits (take-next h k e is) ∙ flat_map-push (λ (x : Entry). credits x.reply) (take k h) e

pub range-next : (h : List Entry) (k : ℕ) (e : Entry) → slice_get h k ≡ Some e → AreInRange (all_credits h) → AreInRange (all_credits (take k h) ++ credits e.reply)
range-next h k e is range =
    subst AreInRange (credits-next h k e is)
    (range-front (all_credits (take (k + 1) h)) (all_credits (drop (k + 1) h))
    (subst AreInRange
    (ap all_credits (sym (take-append-drop (k + 1) h)) ∙ flat_map-append (λ (x : Entry). credits x.reply) (take (k + 1) h) (drop (k + 1) h)) range))

-- ---- the end

pub ended : (c : Comparing) (cs : List Credit) (count : ℕ) (text : List ℕ) → IsSoFar c cs → count ≡ length (samples cs)
    → text ≡ string_bytes c.text ++ (codes "samples " ++ (decimal count ++ codes "\n")) → text ≡ compared_text (samples cs)
ended c cs count text so_far counts is =
    is ∙ (sym (append_assoc (string_bytes c.text ++ codes "samples ") (decimal count) (codes "\n") ∙ append_assoc (string_bytes c.text) (codes "samples ") (decimal count ++ codes "\n"))
    ∙ (ap (λ xs. xs ++ codes "samples " ++ decimal count ++ codes "\n") so_far.text ∙ ap (λ n. compared_lines (samples cs) ++ codes "samples " ++ decimal n ++ codes "\n") counts))

-- what follows from what holds at Ok holds at Ok
pub on_ok : {A E P Q : Type 0} (r : Result A E) → (P → Q) → OnOk r P → OnOk r Q
on_ok (Ok x) f p = f p
on_ok (Err e) f p = tt

pub all-taken : (h : List Entry) (k : ℕ) → length h ≤ k → all_credits (take k h) ≡ all_credits h
all-taken h k le = ap all_credits (take_all k h le)

pub so_far-grows : (new : Comparing) (cs xs : List Credit) (i : ℕ) (none : Credit) → i < length xs → IsSoFar new ((cs ++ take i xs) ++ get_or xs i none ∷ []) → IsSoFar new (cs ++ take (i + 1) xs)
so_far-grows new cs xs i none lt so_far = subst (IsSoFar new) (credits-grow cs xs i none lt) so_far

pub so_far-next : (new : Comparing) (h : List Entry) (k : ℕ) (e : Entry) → slice_get h k ≡ Some e → IsSoFar new (all_credits (take k h) ++ credits e.reply) → IsSoFar new (all_credits (take (k + 1) h))
so_far-next new h k e is so_far = subst (IsSoFar new) (sym (credits-next h k e is)) so_far
