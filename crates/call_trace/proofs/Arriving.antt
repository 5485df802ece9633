-- The arrivals of a report's packets: one more of them, and that they are near to each other.
use Rattle.std.proofs.Common.{◌≡◌, ℕ, suc, zero, ◌+◌, ◌*◌, ◌/◌, ◌%◌, ◌^◌, ◌<◌, ℤ, pos, negsuc, ◌≤ℤ◌, Bool, true, false, eqb, if◌then◌else◌, Option, None, Some, List, [], ◌∷◌, ◌++◌, length, take, drop, get_or, refl, sym, ◌∙◌, ap, subst, arith}
use Rattle.std.specs.Prelude.{IfSome, unwrap_or}
use Rattle.std.specs.List.{All}
use Rattle.std.proofs.lemmas.List.{take_more, length-take, at_drop_more}
use Rattle.std.proofs.lemmas.List.Elements.{All-nil, All-cons, All-head, All-tail, All-weaker}
use Rattle.std.proofs.lemmas.Int.{ints}
use Rattle.rand_core.specs.Stream.{Stream, next_u64}
use Rattle.twcc_report.specs.declared.report.Status.{Status}
use Rattle.twcc_report.specs.Spelling.{Feedback}
use Rattle.call_trace.specs.MadeReports.{words_after, fastest, arrival, arrivals, first_or, reference, status, statuses, report, IsNear, AreNear}

-- ---- one more

words_after-first : (n : ℕ) (words : Stream) → words_after n (next_u64 words).1 ≡ words_after (suc n) words
unfolding words_after
words_after-first zero words = refl
words_after-first (suc n) words = ap (λ (left : Stream). (next_u64 left).1) (words_after-first n words)

arrivals-push : (words : Stream) (ms : List ℕ) (m : ℕ) → arrivals words (ms ++ m ∷ []) ≡ arrivals words ms ++ arrival m (next_u64 (words_after (length ms) words)).0 ∷ []
unfolding arrivals words_after
arrivals-push words [] m = refl
arrivals-push words (x ∷ xs) m =
    let more : arrivals (next_u64 words).1 (xs ++ m ∷ []) ≡ arrivals (next_u64 words).1 xs ++ arrival m (next_u64 (words_after (suc (length xs)) words)).0 ∷ [] =
    arrivals-push (next_u64 words).1 xs m ∙ ap (λ (left : Stream). arrivals (next_u64 words).1 xs ++ arrival m (next_u64 left).0 ∷ []) (words_after-first (length xs) words) in
    ap (λ there. arrival x (next_u64 words).0 ∷ there) more

pub arrivals-nil : (words : Stream) → arrivals words [] ≡ []
unfolding arrivals
arrivals-nil words = refl

pub words_after-none : (words : Stream) → words ≡ words_after 0 words
unfolding words_after
words_after-none words = refl

pub arrivals-length : (words : Stream) (ms : List ℕ) → length (arrivals words ms) ≡ length ms
unfolding arrivals
arrivals-length words [] = refl
arrivals-length words (m ∷ ms) = ap suc (arrivals-length (next_u64 words).1 ms)

-- the words after one more was drawn
pub record IsDrawn (words before after : Stream) (ms : List ℕ) (i word : ℕ) : Type 0 where
  pub there : arrivals words (take (i + 1) ms) ≡ arrivals words (take i ms) ++ arrival (get_or ms i 0) word ∷ []
  pub left : after ≡ words_after (i + 1) words

pub arrivals-more : (words before after : Stream) (ms : List ℕ) (i word : ℕ) → i < length ms → before ≡ words_after i words → ◌≡◌ {A = ℕ × Stream} (word, after) (next_u64 before)
    → IsDrawn words before after ms i word
unfolding words_after
arrivals-more words before after ms i word low is drawn =
    let len : length (take i ms) ≡ i = omega (arith, length-take i ms) in
    let drawn_there : (next_u64 (words_after (length (take i ms)) words)).0 ≡ word =
    ap (λ n. (next_u64 (words_after n words)).0) len ∙ (ap (λ (left : Stream). (next_u64 left).0) (sym is) ∙ ap (λ (p : ℕ × Stream). p.0) (sym drawn)) in
    let more : i + 1 ≡ suc i = omega arith in
    record {
      there = ap (arrivals words) (take_more ms i 0 low) ∙ (arrivals-push words (take i ms) (get_or ms i 0) ∙ ap (λ x. arrivals words (take i ms) ++ arrival (get_or ms i 0) x ∷ []) drawn_there);
      left = ap (λ (p : ℕ × Stream). p.1) drawn ∙ (ap (λ (left : Stream). (next_u64 left).1) is ∙ ap (λ n. words_after n words) (sym more));
    }

pub statuses-more : (before : ℕ) (there : List (Option ℕ)) (i : ℕ) → i < length there
    → statuses before (drop i there) ≡ status before (get_or there i None) ∷ statuses (unwrap_or (get_or there i None) before) (drop (i + 1) there)
unfolding statuses
statuses-more before there i low = at_drop_more (statuses before) there i None low

pub statuses-nil : (before : ℕ) → statuses before [] ≡ []
unfolding statuses
statuses-nil before = refl

pub statuses-length : (before : ℕ) (there : List (Option ℕ)) → length (statuses before there) ≡ length there
unfolding statuses
statuses-length before [] = refl
statuses-length before (a ∷ there) = ap suc (statuses-length (unwrap_or a before) there)

-- ---- near to each other

arrival-near : (first sent_at word : ℕ) → IsNear 50000 first sent_at → IfSome (arrival sent_at word) (IsNear 300 (fastest first))
arrival-near first sent_at word near = by_loss (eqb (word / 2 ^ 32 % 64) 0)
  where
    by_loss : (lost : Bool) → IfSome (if lost then None else Some (fastest sent_at + word % 16)) (IsNear 300 (fastest first))
    by_loss true = tt
    by_loss false = record { above = omega arith; below = omega arith }

arrivals-near : (first : ℕ) (words : Stream) (ms : List ℕ) → All (IsNear 50000 first) ms → All (λ (there : Option ℕ). IfSome there (IsNear 300 (fastest first))) (arrivals words ms)
unfolding arrivals
arrivals-near first words [] near = All-nil (λ (there : Option ℕ). IfSome there (IsNear 300 (fastest first)))
arrivals-near first words (m ∷ ms) near =
    All-cons (λ (there : Option ℕ). IfSome there (IsNear 300 (fastest first))) (arrival m (next_u64 words).0) (arrivals (next_u64 words).1 ms)
    (arrival-near first m (next_u64 words).0 (All-head (IsNear 50000 first) m ms near))
    (arrivals-near first (next_u64 words).1 ms (All-tail (IsNear 50000 first) m ms near))

first_or-is : (P : ℕ → Type 0) (other : ℕ) (there : List (Option ℕ)) → P other → All (λ (a : Option ℕ). IfSome a P) there → P (first_or other there)
first_or-is P other [] here all = here
first_or-is P other (None ∷ there) here all = first_or-is P other there here (All-tail (λ (a : Option ℕ). IfSome a P) None there all)
first_or-is P other (Some a ∷ there) here all = All-head (λ (b : Option ℕ). IfSome b P) (Some a) there all

-- what a report's arrivals are, beside what its first delta counts from
pub record AreClose (there : List (Option ℕ)) (first : ℕ) : Type 0 where
  pub each : All (λ (a : Option ℕ). IfSome a (IsNear 1000 (256 * (first / 256)))) there
  pub early : first < 2 ^ 31

pub arrivals-close : (words : Stream) (ms : List ℕ) → AreNear ms → AreClose (arrivals words ms) (first_or (fastest (get_or ms 0 0)) (arrivals words ms))
arrivals-close words ms near =
    let m : ℕ = get_or ms 0 0 in
    let there : List (Option ℕ) = arrivals words ms in
    let all : All (λ (a : Option ℕ). IfSome a (IsNear 300 (fastest m))) there = arrivals-near m words ms near.each in
    let first : IsNear 300 (fastest m) (first_or (fastest m) there) = first_or-is (IsNear 300 (fastest m)) (fastest m) there (record { above = omega arith; below = omega arith }) all in
    record {
      each = All-weaker (λ (a : Option ℕ). IfSome a (IsNear 300 (fastest m))) (λ (a : Option ℕ). IfSome a (IsNear 1000 (256 * (first_or (fastest m) there / 256)))) (wider m (first_or (fastest m) there) first) there all;
      early = omega (arith, near.early, first.above);
    }
  where
    wider : (m first : ℕ) → IsNear 300 (fastest m) first → (a : Option ℕ) → IfSome a (IsNear 300 (fastest m)) → IfSome a (IsNear 1000 (256 * (first / 256)))
    wider m first near None here = tt
    wider m first near (Some a) here = record { above = omega arith; below = omega arith }

-- where the next arrival counts from
pub before-near : (first before : ℕ) (there : Option ℕ) → IsNear 1000 first before → IfSome there (IsNear 1000 first) → IsNear 1000 first (unwrap_or there before)
before-near first before None near here = near
before-near first before (Some a) near here = here

pub delta-near : (first before : ℕ) (there : Option ℕ) → IsNear 1000 first before → IfSome there (IsNear 1000 first) → IfSome there (IsNear 10000 before)
delta-near first before None near here = tt
delta-near first before (Some a) near here = record { above = omega arith; below = omega arith }

-- ---- the report

pub first-close : (words : Stream) (ms : List ℕ) (other first : ℕ) (there : List (Option ℕ)) → AreNear ms → there ≡ arrivals words ms → other ≡ fastest (get_or ms 0 0) → first ≡ first_or other there → AreClose there first
first-close words ms other first there near are is first_is =
    let first_is' : first ≡ first_or (fastest (get_or ms 0 0)) (arrivals words ms) = first_is ∙ (ap (λ n. first_or n there) is ∙ ap (first_or (fastest (get_or ms 0 0))) are) in
    subst (λ xs. AreClose xs first) (sym are) (subst (AreClose (arrivals words ms)) (sym first_is') (arrivals-close words ms near))

pub report-is : (words : Stream) (ms : List ℕ) (reports covered other first : ℕ) (told : ℤ) (there : List (Option ℕ)) (list : List Status) → there ≡ arrivals words ms → other ≡ fastest (get_or ms 0 0) → first ≡ first_or other there
    → told ≡ pos (first / 256) → list ≡ statuses (256 * (first / 256)) there
    → ◌≡◌ {A = Feedback} (record { sender = 1; media = 2; base = covered % 2 ^ 16; reference = told; feedback = reports % 256; statuses = list }) (report words reports covered ms)
report-is words ms reports covered other first told there list are is first_is told_is list_is =
    let first_is' : first ≡ first_or (fastest (get_or ms 0 0)) (arrivals words ms) = first_is ∙ (ap (λ n. first_or n there) is ∙ ap (first_or (fastest (get_or ms 0 0))) are) in
    let told_is' : told ≡ pos (reference ms (arrivals words ms)) = told_is ∙ ap (λ n. pos (n / 256)) first_is' in
    let list_is' : list ≡ statuses (256 * reference ms (arrivals words ms)) (arrivals words ms) = list_is ∙ (ap (statuses (256 * (first / 256))) are ∙ ap (λ n. statuses (256 * (n / 256)) (arrivals words ms)) first_is') in
    let with_both : ℤ → List Status → Feedback = λ z xs. record { sender = 1; media = 2; base = covered % 2 ^ 16; reference = z; feedback = reports % 256; statuses = xs } in
    ap (λ z. with_both z list) told_is' ∙ ap (with_both (pos (reference ms (arrivals words ms)))) list_is'

-- what has a spelling
pub record IsSpellable (f : Feedback) (n : ℕ) : Type 0 where
  pub count : length f.statuses ≡ n
  pub low : negsuc 8388607 ≤ℤ f.reference
  pub high : f.reference ≤ℤ pos 8388607

pub report-spellable : (words : Stream) (ms : List ℕ) (reports covered : ℕ) → AreNear ms → IsSpellable (report words reports covered ms) (length ms)
report-spellable words ms reports covered near =
    let there : List (Option ℕ) = arrivals words ms in
    let close : AreClose there (first_or (fastest (get_or ms 0 0)) there) = arrivals-close words ms near in
    record {
      count = statuses-length (256 * reference ms there) there ∙ arrivals-length words ms;
      low = omega (arith, ints);
      high = omega (arith, ints, close.early);
    }
