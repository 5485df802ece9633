-- What the sums over the breakpoints that were passed say of the sum of the shares.
use Rattle.std.proofs.Common.{◌≡◌, ℕ, ◌+◌, ◌-◌, ◌*◌, ◌/◌, ◌<◌, ◌≤◌, ◌⊎◌, nat_lt, nat_le, suc, true, false, Bool, cond, Some, List, [], ◌∷◌, ◌++◌, length, take, drop, get_or, All, length-drop, drop-drop, refl, ap, sym, ◌∙◌, subst, arith, inl, inr, take-append-drop}
use Rattle.std.specs.List.{sum_by}
use Rattle.std.proofs.Math.Nat.{le-div_iff_mul-le, div-lt_iff_lt-mul, div-le_self}
use Rattle.std.proofs.lemmas.Bool.{cases_lt}
use Rattle.std.proofs.lemmas.Bool.Decides.{nat_tests}
use Rattle.std.proofs.lemmas.List.{get_or-drop, get_or_default, drop_all}
use Rattle.std.proofs.lemmas.List.Elements.{All-nil, All-cons, All-head, All-tail, All-weaker, All-more, All-drop}
use Rattle.std.proofs.lemmas.List.Sums.{sum_by-cons, sum_by-append, sum_by-le, sum_by-take-le, sum_by_more, sum_by_more_le}
use Rattle.std.proofs.lemmas.List.Sorted.{IsPermutation-refl, sum_by-IsPermutation, length_permutation, All-permutation}
use Rattle.gcc_units.specs.declared.limits.TheConstants.{GREATEST_RATE, MOST_STREAMS}
use Rattle.allocator.specs.declared.stream.Stream.{Stream}
use Rattle.allocator.specs.declared.stream.TheConstants.{GREATEST_WEIGHT}
use Rattle.allocator.specs.declared.breakpoints.Breakpoint.{Breakpoint}
use Rattle.allocator.specs.Streams.{IsSound}
use Rattle.allocator.specs.Shares.{share_at, sum_at, level_of, served_beside, enforced_minima}
use Rattle.allocator.specs.Breakpoints.{lower, upper, breakpoints_from, AreBreakpoints, AreOfServed, IsWithin, is_marked, rise_of, fall_of, gone_of, full_of, are_served_beside}
use Rattle.allocator.proofs.Levels.{level_is, sum_grows}

-- a breakpoint counts where its stream is served
abbrev pub marked : List Bool → (Breakpoint → ℕ) → Breakpoint → ℕ
marked marks f p = cond (is_marked marks p) (f p) 0

abbrev pub IsPassed : List Bool → ℕ → Breakpoint → Type 0
IsPassed marks at p = is_marked marks p ≡ true → p.level ≤ at

abbrev pub IsAhead : ℕ → Breakpoint → Type 0
IsAhead at p = at ≤ p.level

-- where it lies below a level
abbrev below : ℕ → (Breakpoint → ℕ) → Breakpoint → ℕ
below level f p = cond (nat_lt p.level level) (f p) 0

-- over both breakpoints of a stream
abbrev both : (Breakpoint → ℕ) → Stream → ℕ
both f s = f (lower 0 s) + f (upper 0 s)

is_below : (m n : ℕ) → nat_lt m n ≡ true → m < n
is_below m n h = grind (arith, nat_tests)

not_below : (m n : ℕ) → nat_lt m n ≡ false → n ≤ m
not_below m n h = grind (arith, nat_tests)

below_is : (m n : ℕ) → m < n → nat_lt m n ≡ true
below_is m n h = grind (arith, nat_tests)

below_not : (m n : ℕ) → n ≤ m → nat_lt m n ≡ false
below_not m n h = grind (arith, nat_tests)

-- up to a breakpoint the bound is kept, above it it is not
within_bound : (bound weight level : ℕ) → 0 < weight → level ≤ bound / weight → weight * level ≤ bound
within_bound bound weight level pos h = let k : level * weight ≤ bound = (le-div_iff_mul-le pos).0 h in omega arith

above_bound : (bound weight level : ℕ) → 0 < weight → bound / weight < level → bound < weight * level
above_bound bound weight level pos h = let k : bound < level * weight = (div-lt_iff_lt-mul pos).0 h in omega arith

-- One stream: its share is its minimum where it lies at or below the lower breakpoint, its maximum where it lies above the upper one.
abbrev IsLine : ℕ → ℕ → ℕ → ℕ → ℕ → ℕ → ℕ → Type 0
IsLine level share least rise fall gone full = (share + fall * level + gone ≡ least + rise * level + full) × (fall ≤ rise)

share_is_line : (level least most weight : ℕ) (s : Stream) → IsSound s
    → IsLine level (share_at level s) (share_at 0 s) (both (below level rise_of) s) (both (below level fall_of) s) (both (below level gone_of) s) (both (below level full_of) s)
share_is_line level least most weight s sound = at_tests (nat_lt (s.min / s.weight) level) refl (nat_lt (s.max / s.weight) level) refl
  where
    pos : 0 < s.weight
    pos = let h = sound.least in omega arith

    at_tests : (a : Bool) → nat_lt (s.min / s.weight) level ≡ a → (b : Bool) → nat_lt (s.max / s.weight) level ≡ b
        → IsLine level (share_at level s) (share_at 0 s) (cond a s.weight 0 + cond b 0 0) (cond a 0 0 + cond b s.weight 0) (cond a s.min 0 + cond b 0 0) (cond a 0 0 + cond b s.max 0)
    at_tests true e true f =
        let k : s.min < s.weight * level = above_bound s.min s.weight level pos (is_below _ _ e) in
        let l : s.max < s.weight * level = above_bound s.max s.weight level pos (is_below _ _ f) in
        let o = sound.order in (omega arith, omega arith)
    at_tests true e false f =
        let k : s.min < s.weight * level = above_bound s.min s.weight level pos (is_below _ _ e) in
        let l : s.weight * level ≤ s.max = within_bound s.max s.weight level pos (not_below _ _ f) in
        let o = sound.order in (omega arith, omega arith)
    at_tests false e true f =
        let k : s.weight * level ≤ s.min = within_bound s.min s.weight level pos (not_below _ _ e) in
        let l : s.max < s.weight * level = above_bound s.max s.weight level pos (is_below _ _ f) in
        let o = sound.order in absurd (omega arith)
    at_tests false e false f =
        let k : s.weight * level ≤ s.min = within_bound s.min s.weight level pos (not_below _ _ e) in
        let l : s.weight * level ≤ s.max = within_bound s.max s.weight level pos (not_below _ _ f) in
        let o = sound.order in (omega arith, omega arith)

add_lines : (level share least rise fall gone full share' least' rise' fall' gone' full' : ℕ)
    → IsLine level share least rise fall gone full → IsLine level share' least' rise' fall' gone' full'
    → IsLine level (share + share') (least + least') (rise + rise') (fall + fall') (gone + gone') (full + full')
add_lines level share least rise fall gone full share' least' rise' fall' gone' full' h k =
    let a = h.0 in let b = k.0 in let c = h.1 in let d = k.1 in (omega arith, omega arith)

-- all streams
sum_is_line : (level : ℕ) (streams : List Stream) → All IsSound streams
    → IsLine level (sum_at level streams) (sum_at 0 streams) (sum_by (both (below level rise_of)) streams) (sum_by (both (below level fall_of)) streams)
    (sum_by (both (below level gone_of)) streams) (sum_by (both (below level full_of)) streams)
sum_is_line level [] sound = (omega arith, omega arith)
sum_is_line level (s ∷ ss) sound =
    rw (
      sum_by-cons (share_at level) s ss,
      sum_by-cons (share_at 0) s ss,
      sum_by-cons (both (below level rise_of)) s ss,
      sum_by-cons (both (below level fall_of)) s ss,
      sum_by-cons (both (below level gone_of)) s ss,
      sum_by-cons (both (below level full_of)) s ss,
    )
    (add_lines level (share_at level s) (share_at 0 s) (both (below level rise_of) s) (both (below level fall_of) s) (both (below level gone_of) s) (both (below level full_of) s)
    (sum_at level ss) (sum_at 0 ss) (sum_by (both (below level rise_of)) ss) (sum_by (both (below level fall_of)) ss) (sum_by (both (below level gone_of)) ss) (sum_by (both (below level full_of)) ss)
    (share_is_line level 0 0 0 s (All-head IsSound s ss sound)) (sum_is_line level ss (All-tail IsSound s ss sound)))

minima_are : (streams : List Stream) → sum_by (both gone_of) streams ≡ sum_at 0 streams
minima_are [] = refl
minima_are (s ∷ ss) =
    let one : both gone_of s ≡ share_at 0 s = omega arith in
    sum_by-cons (both gone_of) s ss ∙ ap (λ n. n + sum_by (both gone_of) ss) one ∙ ap (λ n. share_at 0 s + n) (minima_are ss) ∙ sym (sum_by-cons (share_at 0) s ss)

-- what a breakpoint gives does not hang on its place
abbrev IsOfStream : (Breakpoint → ℕ) → Type 0
IsOfStream f = (k : ℕ) (s : Stream) → f (lower k s) + f (upper k s) ≡ both f s

-- the breakpoints that count are those of the served streams
sum_marked : (f : Breakpoint → ℕ) → IsOfStream f → (marks : List Bool) (k total minima : ℕ) (streams : List Stream)
    → ((j : ℕ) → get_or marks (k + j) false ≡ get_or (are_served_beside total minima streams) j false)
    → sum_by (marked marks f) (breakpoints_from k streams) ≡ sum_by (both f) (served_beside total minima streams)
sum_marked f of_stream marks k total minima [] same = refl
sum_marked f of_stream marks k total minima (s ∷ ss) same =
    at_tests s.enforced (nat_le (minima + s.min) total) same (λ n. sum_marked f of_stream marks (k + 1) total n ss)
  where
    first : (b : Bool) (bs : List Bool) → ((j : ℕ) → get_or marks (k + j) false ≡ get_or (b ∷ bs) j false) → get_or marks k false ≡ b
    first b bs same = let i : k + 0 ≡ k = omega arith in subst (λ n. get_or marks n false ≡ b) i (same 0)

    later : (b : Bool) (bs : List Bool) → ((j : ℕ) → get_or marks (k + j) false ≡ get_or (b ∷ bs) j false) → (j : ℕ) → get_or marks (k + 1 + j) false ≡ get_or bs j false
    later b bs same j = let i : k + suc j ≡ k + 1 + j = omega arith in subst (λ n. get_or marks n false ≡ get_or bs j false) i (same (suc j))

    two : sum_by (marked marks f) (lower k s ∷ upper k s ∷ breakpoints_from (k + 1) ss)
        ≡ marked marks f (lower k s) + (marked marks f (upper k s) + sum_by (marked marks f) (breakpoints_from (k + 1) ss))
    two =
        sum_by-cons (marked marks f) (lower k s) (upper k s ∷ breakpoints_from (k + 1) ss)
        ∙ ap (λ n. marked marks f (lower k s) + n) (sum_by-cons (marked marks f) (upper k s) (breakpoints_from (k + 1) ss))

    step : (b : Bool) (m n : ℕ) → get_or marks k false ≡ b → m ≡ n
        → cond (get_or marks k false) (f (lower k s)) 0 + (cond (get_or marks k false) (f (upper k s)) 0 + m) ≡ cond b (both f s) 0 + n
    step true m n e h = let two = of_stream k s in rw e (omega arith)
    step false m n e h = rw e (omega arith)

    at_tests : (a b : Bool)
        → ((j : ℕ) → get_or marks (k + j) false
        ≡ get_or (cond a (true ∷ are_served_beside total minima ss) (cond b (true ∷ are_served_beside total (minima + s.min) ss) (false ∷ are_served_beside total minima ss))) j false)
        → ((n : ℕ) → ((j : ℕ) → get_or marks (k + 1 + j) false ≡ get_or (are_served_beside total n ss) j false)
        → sum_by (marked marks f) (breakpoints_from (k + 1) ss) ≡ sum_by (both f) (served_beside total n ss))
        → sum_by (marked marks f) (lower k s ∷ upper k s ∷ breakpoints_from (k + 1) ss)
        ≡ sum_by (both f) (cond a (s ∷ served_beside total minima ss) (cond b (s ∷ served_beside total (minima + s.min) ss) (served_beside total minima ss)))
    at_tests true b same rest =
        two ∙ step true _ _ (first true _ same) (rest minima (later true _ same)) ∙ sym (sum_by-cons (both f) s (served_beside total minima ss))
    at_tests false true same rest =
        two ∙ step true _ _ (first true _ same) (rest (minima + s.min) (later true _ same)) ∙ sym (sum_by-cons (both f) s (served_beside total (minima + s.min) ss))
    at_tests false false same rest =
        two ∙ step false _ _ (first false _ same) (rest minima (later false _ same))
        ∙ let z : 0 + sum_by (both f) (served_beside total minima ss) ≡ sum_by (both f) (served_beside total minima ss) = omega arith in z

sum_served : (total : ℕ) (streams : List Stream) (marks : List Bool) (points : List Breakpoint) (f : Breakpoint → ℕ) → AreOfServed total streams marks points → IsOfStream f
    → sum_by (marked marks f) points ≡ sum_by (both f) streams
sum_served total streams marks points f are of_stream =
    sum_by-IsPermutation (marked marks f) (breakpoints_from 0 are.ordered) points are.all.all
    ∙ sum_marked f of_stream marks 0 total (enforced_minima are.ordered) are.ordered
    (λ j. (let i : 0 + j ≡ j = omega arith in ap (λ n. get_or marks n false) i ∙ ap (λ bs. get_or bs j false) are.marked))
    ∙ ap (sum_by (both f)) (sym are.lent)

-- what was passed lies below a level, and what is ahead does not
passed_below : (marks : List Bool) (level at : ℕ) (f : Breakpoint → ℕ) (xs : List Breakpoint) → at < level → All (IsPassed marks at) xs
    → sum_by (marked marks f) xs ≡ sum_by (marked marks (below level f)) xs
passed_below marks level at f [] l all = refl
passed_below marks level at f (x ∷ xs) l all =
    let one : marked marks f x ≡ marked marks (below level f) x = at_mark (is_marked marks x) refl (All-head (IsPassed marks at) x xs all) in
    let rest : sum_by (marked marks f) xs ≡ sum_by (marked marks (below level f)) xs = passed_below marks level at f xs l (All-tail (IsPassed marks at) x xs all) in
    sum_by-cons (marked marks f) x xs ∙ ap (λ n. n + sum_by (marked marks f) xs) one ∙ ap (λ n. marked marks (below level f) x + n) rest
    ∙ sym (sum_by-cons (marked marks (below level f)) x xs)
  where
    at_mark : (b : Bool) → is_marked marks x ≡ b → (b ≡ true → x.level ≤ at) → cond b (f x) 0 ≡ cond b (below level f x) 0
    at_mark true e h = let t : nat_lt x.level level ≡ true = below_is x.level level (let m = h refl in omega arith) in rw t refl
    at_mark false e h = refl

ahead_not_below : (marks : List Bool) (level top : ℕ) (f : Breakpoint → ℕ) (xs : List Breakpoint) → level ≤ top → All (IsAhead top) xs
    → sum_by (marked marks (below level f)) xs ≡ 0
ahead_not_below marks level top f [] l all = refl
ahead_not_below marks level top f (x ∷ xs) l all =
    let one : marked marks (below level f) x ≡ 0 = at_mark (is_marked marks x) (All-head (IsAhead top) x xs all) in
    let rest : sum_by (marked marks (below level f)) xs ≡ 0 = ahead_not_below marks level top f xs l (All-tail (IsAhead top) x xs all) in
    sum_by-cons (marked marks (below level f)) x xs ∙ ap (λ n. n + sum_by (marked marks (below level f)) xs) one
    ∙ ap (λ n. 0 + n) rest
  where
    at_mark : (b : Bool) → top ≤ x.level → cond b (below level f x) 0 ≡ 0
    at_mark true h = let t : nat_lt x.level level ≡ false = below_not x.level level (omega arith) in rw t refl
    at_mark false h = refl

sum_so_far : (marks : List Bool) (points : List Breakpoint) (f : Breakpoint → ℕ) (i level at top : ℕ) → at < level → level ≤ top
    → All (IsPassed marks at) (take i points) → All (IsAhead top) (drop i points)
    → sum_by (marked marks f) (take i points) ≡ sum_by (marked marks (below level f)) points
sum_so_far marks points f i level at top l m passed ahead =
    let first : sum_by (marked marks f) (take i points) ≡ sum_by (marked marks (below level f)) (take i points) = passed_below marks level at f (take i points) l passed in
    let none : sum_by (marked marks (below level f)) (drop i points) ≡ 0 = ahead_not_below marks level top f (drop i points) m ahead in
    let parts : sum_by (marked marks (below level f)) (take i points ++ drop i points)
    ≡ sum_by (marked marks (below level f)) (take i points) + sum_by (marked marks (below level f)) (drop i points)
    = sum_by-append (marked marks (below level f)) (take i points) (drop i points) in
    let whole : sum_by (marked marks (below level f)) (take i points ++ drop i points) ≡ sum_by (marked marks (below level f)) points
    = ap (sum_by (marked marks (below level f))) (take-append-drop i points) in
    omega arith

-- the sums that the walk keeps
pub record IsKept (streams : List Stream) (marks : List Bool) (xs : List Breakpoint) (r f c : ℕ) : Type 0 where
  pub rise : r ≡ sum_by (marked marks rise_of) xs
  pub fall : f ≡ sum_by (marked marks fall_of) xs
  pub constant : c + sum_by (marked marks gone_of) xs ≡ sum_at 0 streams + sum_by (marked marks full_of) xs

joined : (level share least rise fall gone full rise' fall' constant gone' full' : ℕ) → IsLine level share least rise fall gone full
    → rise' ≡ rise → fall' ≡ fall → gone' ≡ gone → full' ≡ full → constant + gone' ≡ least + full'
    → (share + fall' * level ≡ rise' * level + constant) × (fall' ≤ rise')
joined level share least rise fall gone full rise' fall' constant gone' full' h a b c d e =
    let line = h.0 in let slope = h.1 in
    let u : rise' * level ≡ rise * level = ap (λ n. n * level) a in
    let v : fall' * level ≡ fall * level = ap (λ n. n * level) b in
    (omega arith, omega arith)

-- Above what was passed, up to what is ahead, the sum of the shares is the line.
pub line_is : (total : ℕ) (streams : List Stream) (marks : List Bool) (points : List Breakpoint) (i rise fall constant at top level : ℕ)
    → AreOfServed total streams marks points → All IsSound streams → IsKept streams marks (take i points) rise fall constant
    → All (IsPassed marks at) (take i points) → All (IsAhead top) (drop i points) → at < level → level ≤ top
    → (sum_at level streams + fall * level ≡ rise * level + constant) × (fall ≤ rise)
line_is total streams marks points i rise fall constant at top level are sound kept passed ahead l m =
    joined level (sum_at level streams) (sum_at 0 streams) (sum_by (both (below level rise_of)) streams) (sum_by (both (below level fall_of)) streams)
    (sum_by (both (below level gone_of)) streams) (sum_by (both (below level full_of)) streams)
    rise fall constant (sum_by (marked marks gone_of) (take i points)) (sum_by (marked marks full_of) (take i points))
    (sum_is_line level streams sound)
    (kept.rise ∙ so_far rise_of ∙ sum_served total streams marks points (below level rise_of) are (λ k s. refl))
    (kept.fall ∙ so_far fall_of ∙ sum_served total streams marks points (below level fall_of) are (λ k s. refl))
    (so_far gone_of ∙ sum_served total streams marks points (below level gone_of) are (λ k s. refl))
    (so_far full_of ∙ sum_served total streams marks points (below level full_of) are (λ k s. refl))
    kept.constant
  where
    so_far : (f : Breakpoint → ℕ) → sum_by (marked marks f) (take i points) ≡ sum_by (marked marks (below level f)) points
    so_far f = sum_so_far marks points f i level at top l m passed ahead

-- what is taken off the constant is a part of the minima
pub gone_within : (total : ℕ) (streams : List Stream) (marks : List Bool) (points : List Breakpoint) (i rise fall constant : ℕ) (d : Breakpoint)
    → AreOfServed total streams marks points → IsKept streams marks (take i points) rise fall constant → i < length points → is_marked marks (get_or points i d) ≡ true
    → gone_of (get_or points i d) ≤ constant
gone_within total streams marks points i rise fall constant d are kept l mark =
    let all : sum_by (marked marks gone_of) points ≡ sum_at 0 streams = sum_served total streams marks points gone_of are (λ k s. refl) ∙ minima_are streams in
    let more : sum_by (marked marks gone_of) (take i points) + marked marks gone_of (get_or points i d) ≤ sum_by (marked marks gone_of) points
    = sum_by_more_le (marked marks gone_of) points i d l in
    let one : marked marks gone_of (get_or points i d) ≡ gone_of (get_or points i d) = ap (λ b. cond b (gone_of (get_or points i d)) 0) mark in
    let is : constant + sum_by (marked marks gone_of) (take i points) ≡ sum_at 0 streams + sum_by (marked marks full_of) (take i points) = kept.constant in
    bound (sum_by (marked marks gone_of) points) (sum_at 0 streams) (sum_by (marked marks gone_of) (take i points)) (sum_by (marked marks full_of) (take i points))
    (marked marks gone_of (get_or points i d)) (gone_of (get_or points i d)) all more one is
  where
    bound : (whole least gone full x y : ℕ) → whole ≡ least → gone + x ≤ whole → x ≡ y → constant + gone ≡ least + full → y ≤ constant
    bound whole least gone full x y a b c d = omega arith

-- bounds of what is kept
sum_bound : (marks : List Bool) (f : Breakpoint → ℕ) (bound : ℕ) (points : List Breakpoint) (i : ℕ) → All (λ p. f p ≤ bound) points
    → sum_by (marked marks f) (take i points) ≤ length points * bound
sum_bound marks f bound points i all =
    let part : sum_by (marked marks f) (take i points) ≤ sum_by (marked marks f) points = sum_by-take-le (marked marks f) points i in
    let whole : sum_by (marked marks f) points ≤ length points * bound
    = sum_by-le (marked marks f) bound points (All-weaker (λ p. f p ≤ bound) (λ p. marked marks f p ≤ bound) (λ p h. at_mark (is_marked marks p) (f p) h) points all) in
    omega arith
  where
    at_mark : (b : Bool) (n : ℕ) → n ≤ bound → cond b n 0 ≤ bound
    at_mark true n h = h
    at_mark false n h = omega arith

rise_bound : (p : Breakpoint) → IsWithin p → rise_of p ≤ GREATEST_WEIGHT
rise_bound p h = at_bool p.is_upper
  where
    at_bool : (b : Bool) → cond b 0 p.weight ≤ GREATEST_WEIGHT
    at_bool true = omega arith
    at_bool false = h.weight

fall_bound : (p : Breakpoint) → IsWithin p → fall_of p ≤ GREATEST_WEIGHT
fall_bound p h = at_bool p.is_upper
  where
    at_bool : (b : Bool) → cond b p.weight 0 ≤ GREATEST_WEIGHT
    at_bool true = h.weight
    at_bool false = omega arith

full_bound : (p : Breakpoint) → IsWithin p → full_of p ≤ GREATEST_RATE
full_bound p h = at_bool p.is_upper
  where
    at_bool : (b : Bool) → cond b p.bound 0 ≤ GREATEST_RATE
    at_bool true = h.bound
    at_bool false = omega arith

share_bound : (s : Stream) → IsSound s → share_at 0 s ≤ GREATEST_RATE
share_bound s sound = let a = sound.order in let b = sound.rate in omega arith

pub record IsBounded (r f c : ℕ) : Type 0 where
  pub rise : r ≤ 2 * MOST_STREAMS * GREATEST_WEIGHT
  pub fall : f ≤ 2 * MOST_STREAMS * GREATEST_WEIGHT
  pub constant : c ≤ 3 * MOST_STREAMS * GREATEST_RATE

pub kept_bounded : (streams : List Stream) (marks : List Bool) (points : List Breakpoint) (i rise fall constant : ℕ)
    → IsKept streams marks (take i points) rise fall constant → All IsSound streams → length streams ≤ MOST_STREAMS → length points ≤ 2 * MOST_STREAMS → All IsWithin points
    → IsBounded rise fall constant
kept_bounded streams marks points i rise fall constant kept sound few few_points within =
    let r : sum_by (marked marks rise_of) (take i points) ≤ length points * GREATEST_WEIGHT = sum_bound marks rise_of GREATEST_WEIGHT points i (All-weaker IsWithin (λ p. rise_of p ≤ GREATEST_WEIGHT) rise_bound points within) in
    let f : sum_by (marked marks fall_of) (take i points) ≤ length points * GREATEST_WEIGHT = sum_bound marks fall_of GREATEST_WEIGHT points i (All-weaker IsWithin (λ p. fall_of p ≤ GREATEST_WEIGHT) fall_bound points within) in
    let x : sum_by (marked marks full_of) (take i points) ≤ length points * GREATEST_RATE = sum_bound marks full_of GREATEST_RATE points i (All-weaker IsWithin (λ p. full_of p ≤ GREATEST_RATE) full_bound points within) in
    let l : sum_at 0 streams ≤ length streams * GREATEST_RATE = sum_by-le (share_at 0) GREATEST_RATE streams (All-weaker IsSound (λ s. share_at 0 s ≤ GREATEST_RATE) share_bound streams sound) in
    let a : rise ≡ sum_by (marked marks rise_of) (take i points) = kept.rise in
    let b : fall ≡ sum_by (marked marks fall_of) (take i points) = kept.fall in
    let c : constant + sum_by (marked marks gone_of) (take i points) ≡ sum_at 0 streams + sum_by (marked marks full_of) (take i points) = kept.constant in
    numbers (length points) (length streams) (sum_by (marked marks rise_of) (take i points)) (sum_by (marked marks fall_of) (take i points))
    (sum_by (marked marks gone_of) (take i points)) (sum_by (marked marks full_of) (take i points)) (sum_at 0 streams) few_points few r f x l a b c
  where
    numbers : (n m r f g x l : ℕ) → n ≤ 2 * MOST_STREAMS → m ≤ MOST_STREAMS → r ≤ n * GREATEST_WEIGHT → f ≤ n * GREATEST_WEIGHT → x ≤ n * GREATEST_RATE → l ≤ m * GREATEST_RATE
        → rise ≡ r → fall ≡ f → constant + g ≡ l + x → IsBounded rise fall constant
    numbers n m r f g x l a b c d e h i j k = record { rise = omega arith; fall = omega arith; constant = omega arith }

-- one more breakpoint
pub kept_more : (streams : List Stream) (marks : List Bool) (points : List Breakpoint) (i rise fall constant rise' fall' constant' : ℕ) (d : Breakpoint)
    → IsKept streams marks (take i points) rise fall constant → i < length points → is_marked marks (get_or points i d) ≡ true
    → rise' ≡ rise + rise_of (get_or points i d) → fall' ≡ fall + fall_of (get_or points i d)
    → constant' + gone_of (get_or points i d) ≡ constant + full_of (get_or points i d)
    → IsKept streams marks (take (i + 1) points) rise' fall' constant'
kept_more streams marks points i rise fall constant rise' fall' constant' d kept l mark r f c =
    let a = more rise_of in let b = more fall_of in let g = more gone_of in let x = more full_of in
    let p = kept.rise in let q = kept.fall in let s = kept.constant in
    record {
      rise = sums3 _ _ _ _ _ p a r;
      fall = sums3 _ _ _ _ _ q b f;
      constant = sums6 (sum_by (marked marks gone_of) (take (i + 1) points)) (sum_by (marked marks gone_of) (take i points)) (gone_of (get_or points i d))
          (sum_by (marked marks full_of) (take (i + 1) points)) (sum_by (marked marks full_of) (take i points)) (full_of (get_or points i d)) (sum_at 0 streams) g x s c;
    }
  where
    more : (f : Breakpoint → ℕ) → sum_by (marked marks f) (take (i + 1) points) ≡ sum_by (marked marks f) (take i points) + f (get_or points i d)
    more f = sum_by_more (marked marks f) points i d l ∙ ap (λ b. sum_by (marked marks f) (take i points) + cond b (f (get_or points i d)) 0) mark

    sums3 : (new old one last next : ℕ) → last ≡ old → new ≡ old + one → next ≡ last + one → next ≡ new
    sums3 new old one last next a b c = omega arith

    sums6 : (gone' gone g full' full x least : ℕ) → gone' ≡ gone + g → full' ≡ full + x → constant + gone ≡ least + full → constant' + g ≡ constant + x → constant' + gone' ≡ least + full'
    sums6 gone' gone g full' full x least a b e h = omega arith

-- one that does not count
pub kept_skip : (streams : List Stream) (marks : List Bool) (points : List Breakpoint) (i rise fall constant : ℕ) (d : Breakpoint)
    → IsKept streams marks (take i points) rise fall constant → i < length points → is_marked marks (get_or points i d) ≡ false
    → IsKept streams marks (take (i + 1) points) rise fall constant
kept_skip streams marks points i rise fall constant d kept l mark = record {
  rise = kept.rise ∙ sym (same rise_of);
  fall = kept.fall ∙ sym (same fall_of);
  constant = ap (λ n. constant + n) (same gone_of) ∙ kept.constant ∙ ap (λ n. sum_at 0 streams + n) (sym (same full_of));
}
  where
    same : (f : Breakpoint → ℕ) → sum_by (marked marks f) (take (i + 1) points) ≡ sum_by (marked marks f) (take i points)
    same f =
        sum_by_more (marked marks f) points i d l ∙ ap (λ b. sum_by (marked marks f) (take i points) + cond b (f (get_or points i d)) 0) mark
        ∙ let z : sum_by (marked marks f) (take i points) + 0 ≡ sum_by (marked marks f) (take i points) = omega arith in z

-- in sorted breakpoints the next is at most all that are ahead
pub ahead_next : (ordered : List Stream) (points : List Breakpoint) (i : ℕ) (d : Breakpoint) → AreBreakpoints ordered points → i < length points
    → All (IsAhead (get_or points i d).level) (drop i points)
ahead_next ordered points i d are l = λ k e h. next k e h
  where
    next : (k : ℕ) (e : Breakpoint) → k < length (drop i points) → (get_or points i d).level ≤ (get_or (drop i points) k e).level
    next k e h =
        let in_range : i + k < length points = let n : length (drop i points) ≡ length points - i = length-drop i points in omega arith in
        let at : get_or (drop i points) k e ≡ get_or points (i + k) e = get_or-drop i points k e in
        let first : get_or points i d ≡ get_or points i e = get_or_default points i d e l in
        let up : (get_or points i e).level ≤ (get_or points (i + k) e).level = are.rising i (i + k) e (omega arith) in_range in
        rw (first, at) up

-- the walk ends
pub level_ends : (total : ℕ) (streams : List Stream) (rise fall constant at top level : ℕ) → at ≤ top → top ≤ GREATEST_RATE → sum_at at streams ≤ total
    → ((m : ℕ) → at < m → m ≤ top → sum_at m streams + fall * m ≡ rise * m + constant)
    → ((m : ℕ) → top < m → m ≤ GREATEST_RATE → total < sum_at m streams)
    → at ≤ level → level ≤ top → (at < level → rise * level + constant ≤ total + fall * level)
    → ((m : ℕ) → level < m → m ≤ top → total + fall * m < rise * m + constant)
    → level_of total streams ≡ Some level
level_ends total streams rise fall constant at top level order within fit line above low high fits greatest =
    level_is total streams level (omega arith) (at_start (cases_lt at level)) (λ m l f. at_level m l f (cases_lt level m))
  where
    at_start : (at < level) ⊎ (level ≤ at) → sum_at level streams ≤ total
    at_start (inl l) = let e = line level l high in let f = fits l in omega arith
    at_start (inr l) = let e : at ≡ level = omega arith in subst (λ n. sum_at n streams ≤ total) e fit

    at_level : (m : ℕ) → m ≤ GREATEST_RATE → sum_at m streams ≤ total → (level < m) ⊎ (m ≤ level) → m ≤ level
    at_level m l f (inr k) = k
    at_level m l f (inl k) = at_top (cases_lt top m)
      where
        at_top : (top < m) ⊎ (m ≤ top) → m ≤ level
        at_top (inl t) = let a = above m t l in absurd (omega arith)
        at_top (inr t) = let e = line m (omega arith) t in let g = greatest m k t in absurd (omega arith)

-- the level of a line
pub line_fits : (rise fall slope constant total left level : ℕ) → rise ≡ fall + slope → total ≡ constant + left → 0 < slope → level ≤ left / slope
    → rise * level + constant ≤ total + fall * level
line_fits rise fall slope constant total left level a b pos h =
    let k : level * slope ≤ left = (le-div_iff_mul-le pos).0 h in
    let e : rise * level ≡ (fall + slope) * level = ap (λ n. n * level) a in omega arith

pub line_above : (rise fall slope constant total left level : ℕ) → rise ≡ fall + slope → total ≡ constant + left → 0 < slope → left / slope < level
    → total + fall * level < rise * level + constant
line_above rise fall slope constant total left level a b pos h =
    let k : left < level * slope = (div-lt_iff_lt-mul pos).0 h in
    let e : rise * level ≡ (fall + slope) * level = ap (λ n. n * level) a in omega arith

pub slope_above : (rise fall constant total level : ℕ) → fall ≤ rise → total < constant → total + fall * level < rise * level + constant
slope_above rise fall constant total level a b = let k : fall * level ≤ rise * level = mul_le fall rise level a in omega arith
  where
    mul_le : (m n k : ℕ) → m ≤ n → m * k ≤ n * k
    mul_le m n k h = grind arith

pub slope_below : (rise fall constant total level : ℕ) → rise ≤ fall → constant ≤ total → rise * level + constant ≤ total + fall * level
slope_below rise fall constant total level a b = let k : rise * level ≤ fall * level = mul_le rise fall level a in omega arith
  where
    mul_le : (m n k : ℕ) → m ≤ n → m * k ≤ n * k
    mul_le m n k h = grind arith

-- the breakpoints of sound streams
pub length-breakpoints_from : (k : ℕ) (streams : List Stream) → length (breakpoints_from k streams) ≡ 2 * length streams
length-breakpoints_from k [] = refl
length-breakpoints_from k (s ∷ ss) = let rest : length (breakpoints_from (k + 1) ss) ≡ 2 * length ss = length-breakpoints_from (k + 1) ss in omega arith

lower_within : (k : ℕ) (s : Stream) → IsSound s → IsWithin (lower k s)
lower_within k s sound =
    let a = sound.order in let b = sound.rate in
    record { level = (let l : s.min / s.weight ≤ s.min = div-le_self s.min s.weight in omega arith); weight = sound.greatest; bound = omega arith }

upper_within : (k : ℕ) (s : Stream) → IsSound s → IsWithin (upper k s)
upper_within k s sound =
    let b = sound.rate in
    record { level = (let l : s.max / s.weight ≤ s.max = div-le_self s.max s.weight in omega arith); weight = sound.greatest; bound = b }

All-breakpoints_from : (k : ℕ) (streams : List Stream) → All IsSound streams → All IsWithin (breakpoints_from k streams)
All-breakpoints_from k [] all = All-nil IsWithin
All-breakpoints_from k (s ∷ ss) all =
    All-cons IsWithin (lower k s) (upper k s ∷ breakpoints_from (k + 1) ss) (lower_within k s (All-head IsSound s ss all))
    (All-cons IsWithin (upper k s) (breakpoints_from (k + 1) ss) (upper_within k s (All-head IsSound s ss all)) (All-breakpoints_from (k + 1) ss (All-tail IsSound s ss all)))

pub breakpoints_within : (ordered : List Stream) (points : List Breakpoint) → AreBreakpoints ordered points → All IsSound ordered → All IsWithin points
breakpoints_within ordered points are sound = All-permutation IsWithin (breakpoints_from 0 ordered) points are.all (All-breakpoints_from 0 ordered sound)

pub length-breakpoints : (ordered : List Stream) (points : List Breakpoint) → AreBreakpoints ordered points → length points ≡ 2 * length ordered
length-breakpoints ordered points are = length_permutation (breakpoints_from 0 ordered) points are.all ∙ length-breakpoints_from 0 ordered

pub AreBreakpoints-none : AreBreakpoints [] []
AreBreakpoints-none = record { all = IsPermutation-refl []; rising = λ i j d l m. absurd (omega arith) }

-- The walk: what it is handed, and what it keeps.
pub record IsGround (total : ℕ) (streams : List Stream) (marks : List Bool) (points : List Breakpoint) : Type 0 where
  pub sound : All IsSound streams
  pub few : length streams ≤ MOST_STREAMS
  pub are : AreOfServed total streams marks points
  pub few_points : length points ≤ 2 * MOST_STREAMS
  pub within : All IsWithin points

pub record IsWalk (total : ℕ) (streams : List Stream) (marks : List Bool) (points : List Breakpoint) (i at r f c : ℕ) : Type 0 where
  pub within : at ≤ GREATEST_RATE
  pub fits : sum_at at streams ≤ total
  pub kept : IsKept streams marks (take i points) r f c
  pub passed : All (IsPassed marks at) (take i points)
  pub ahead : All (IsAhead at) (drop i points)

abbrev pub none_there : Breakpoint
none_there = record { level = 0; place = 0; weight = 0; bound = 0; is_upper = false }

abbrev pub point_at : List Breakpoint → ℕ → Breakpoint
point_at points i = get_or points i none_there

pub walk_starts : (total : ℕ) (streams : List Stream) (marks : List Bool) (points : List Breakpoint) → sum_at 0 streams ≤ total
    → IsWalk total streams marks points 0 0 0 0 (sum_at 0 streams)
walk_starts total streams marks points fits = record {
  within = omega arith;
  fits = fits;
  kept = record { rise = refl; fall = refl; constant = refl };
  passed = All-nil (IsPassed marks 0);
  ahead = λ k d h. omega arith;
}

pub walk_bounded : (total : ℕ) (streams : List Stream) (marks : List Bool) (points : List Breakpoint) (i at rise fall constant : ℕ)
    → IsGround total streams marks points → IsWalk total streams marks points i at rise fall constant → IsBounded rise fall constant
walk_bounded total streams marks points i at rise fall constant ground walk =
    kept_bounded streams marks points i rise fall constant walk.kept ground.sound ground.few ground.few_points ground.within

-- up to the next breakpoint
next_line : (total : ℕ) (streams : List Stream) (marks : List Bool) (points : List Breakpoint) (i at rise fall constant level : ℕ)
    → IsGround total streams marks points → IsWalk total streams marks points i at rise fall constant → i < length points
    → at < level → level ≤ (point_at points i).level
    → (sum_at level streams + fall * level ≡ rise * level + constant) × (fall ≤ rise)
next_line total streams marks points i at rise fall constant level ground walk l above upto =
    line_is total streams marks points i rise fall constant at (point_at points i).level level ground.are ground.sound walk.kept walk.passed
    (ahead_next ground.are.ordered points i none_there ground.are.all l) above upto

-- behind the last
last_line : (total : ℕ) (streams : List Stream) (marks : List Bool) (points : List Breakpoint) (i at rise fall constant level : ℕ)
    → IsGround total streams marks points → IsWalk total streams marks points i at rise fall constant → length points ≤ i → at < level
    → (sum_at level streams + fall * level ≡ rise * level + constant) × (fall ≤ rise)
last_line total streams marks points i at rise fall constant level ground walk l above =
    line_is total streams marks points i rise fall constant at level level ground.are ground.sound walk.kept walk.passed
    (subst (All (IsAhead level)) (sym (drop_all i points l)) (All-nil (IsAhead level))) above (omega arith)

pub next_falls : (total : ℕ) (streams : List Stream) (marks : List Bool) (points : List Breakpoint) (i at rise fall constant : ℕ)
    → IsGround total streams marks points → IsWalk total streams marks points i at rise fall constant → i < length points → at < (point_at points i).level
    → fall * (point_at points i).level ≤ rise * (point_at points i).level + constant
next_falls total streams marks points i at rise fall constant ground walk l above =
    let e = (next_line total streams marks points i at rise fall constant (point_at points i).level ground walk l above (omega arith)).0 in omega arith

pub next_slope : (total : ℕ) (streams : List Stream) (marks : List Bool) (points : List Breakpoint) (i at rise fall constant : ℕ)
    → IsGround total streams marks points → IsWalk total streams marks points i at rise fall constant → i < length points → at < (point_at points i).level
    → fall ≤ rise
next_slope total streams marks points i at rise fall constant ground walk l above =
    (next_line total streams marks points i at rise fall constant (point_at points i).level ground walk l above (omega arith)).1

pub last_slope : (total : ℕ) (streams : List Stream) (marks : List Bool) (points : List Breakpoint) (i at rise fall constant : ℕ)
    → IsGround total streams marks points → IsWalk total streams marks points i at rise fall constant → length points ≤ i → fall ≤ rise
last_slope total streams marks points i at rise fall constant ground walk l =
    (last_line total streams marks points i at rise fall constant (at + 1) ground walk l (omega arith)).1

-- what the line gives at the next breakpoint is what the shares sum to
pub next_sum : (total : ℕ) (streams : List Stream) (marks : List Bool) (points : List Breakpoint) (i at rise fall constant sum : ℕ)
    → IsGround total streams marks points → IsWalk total streams marks points i at rise fall constant → i < length points → at < (point_at points i).level
    → sum + fall * (point_at points i).level ≡ rise * (point_at points i).level + constant → sum_at (point_at points i).level streams ≡ sum
next_sum total streams marks points i at rise fall constant sum ground walk l above is =
    let e = (next_line total streams marks points i at rise fall constant (point_at points i).level ground walk l above (omega arith)).0 in omega arith

-- what is found of a line, from the last breakpoint that was passed on
pub record IsFound (at r f c total top level : ℕ) : Type 0 where
  pub at_least : at ≤ level
  pub at_most : level ≤ top
  pub fits : at < level → r * level + c ≤ total + f * level
  pub greatest : (m : ℕ) → level < m → m ≤ top → total + f * m < r * m + c

-- the next breakpoint does not fit
pub walk_stops : (total : ℕ) (streams : List Stream) (marks : List Bool) (points : List Breakpoint) (i at rise fall constant level : ℕ)
    → IsGround total streams marks points → IsWalk total streams marks points i at rise fall constant → i < length points → at < (point_at points i).level
    → total < sum_at (point_at points i).level streams → IsFound at rise fall constant total ((point_at points i).level - 1) level
    → level_of total streams ≡ Some level
walk_stops total streams marks points i at rise fall constant level ground walk l above unfit found =
    level_ends total streams rise fall constant at ((point_at points i).level - 1) level (omega arith)
    (let w : (point_at points i).level ≤ GREATEST_RATE = (ground.within i none_there l).level in omega arith)
    walk.fits
    (λ m a b. (next_line total streams marks points i at rise fall constant m ground walk l a (omega arith)).0)
    (λ m a b. (let grows : sum_at (point_at points i).level streams ≤ sum_at m streams = sum_grows (point_at points i).level m streams (omega arith) in omega arith))
    found.at_least found.at_most found.fits found.greatest

-- all breakpoints fit
pub walk_ends : (total : ℕ) (streams : List Stream) (marks : List Bool) (points : List Breakpoint) (i at rise fall constant level : ℕ)
    → IsGround total streams marks points → IsWalk total streams marks points i at rise fall constant → length points ≤ i
    → IsFound at rise fall constant total GREATEST_RATE level → level_of total streams ≡ Some level
walk_ends total streams marks points i at rise fall constant level ground walk l found =
    level_ends total streams rise fall constant at GREATEST_RATE level walk.within (omega arith) walk.fits
    (λ m a b. (last_line total streams marks points i at rise fall constant m ground walk l a).0)
    (λ m a b. absurd (omega arith))
    found.at_least found.at_most found.fits found.greatest

-- what is ahead of a breakpoint
fewer : (at i : ℕ) (points : List Breakpoint) → All (IsAhead at) (drop i points) → All (IsAhead at) (drop (i + 1) points)
fewer at i points all = subst (All (IsAhead at)) (drop-drop 1 i points) (All-drop (IsAhead at) 1 (drop i points) all)

pub next_ahead : (total : ℕ) (streams : List Stream) (marks : List Bool) (points : List Breakpoint) (i at rise fall constant : ℕ)
    → IsWalk total streams marks points i at rise fall constant → i < length points → at ≤ (point_at points i).level
next_ahead total streams marks points i at rise fall constant walk l =
    let first : get_or (drop i points) 0 none_there ≡ get_or points (i + 0) none_there = get_or-drop i points 0 none_there in
    let same : i + 0 ≡ i = omega arith in
    let there : 0 < length (drop i points) = (let n : length (drop i points) ≡ length points - i = length-drop i points in omega arith) in
    subst (λ p. at ≤ p.level) (first ∙ ap (λ n. get_or points n none_there) same) (walk.ahead 0 none_there there)

-- a breakpoint of a stream that is not served
pub walk_skips : (total : ℕ) (streams : List Stream) (marks : List Bool) (points : List Breakpoint) (i at rise fall constant : ℕ)
    → IsWalk total streams marks points i at rise fall constant → i < length points → is_marked marks (point_at points i) ≡ false
    → IsWalk total streams marks points (i + 1) at rise fall constant
walk_skips total streams marks points i at rise fall constant walk l mark = record {
  within = walk.within;
  fits = walk.fits;
  kept = kept_skip streams marks points i rise fall constant none_there walk.kept l mark;
  passed = All-more (IsPassed marks at) points i none_there l walk.passed (λ h. absurd (clash (is_marked marks (point_at points i)) mark h));
  ahead = fewer at i points walk.ahead;
}
  where
    clash : (b : Bool) → b ≡ false → b ≡ true → ⊥
    clash b e h = cc

-- one that is passed
pub walk_passes : (total : ℕ) (streams : List Stream) (marks : List Bool) (points : List Breakpoint) (i at rise fall constant at' rise' fall' constant' : ℕ)
    → IsGround total streams marks points → IsWalk total streams marks points i at rise fall constant → i < length points → is_marked marks (point_at points i) ≡ true
    → sum_at (point_at points i).level streams ≤ total
    → at' ≡ (point_at points i).level → rise' ≡ rise + rise_of (point_at points i) → fall' ≡ fall + fall_of (point_at points i)
    → constant' + gone_of (point_at points i) ≡ constant + full_of (point_at points i)
    → IsWalk total streams marks points (i + 1) at' rise' fall' constant'
walk_passes total streams marks points i at rise fall constant at' rise' fall' constant' ground walk l mark fit a r f c =
    subst (λ n. IsWalk total streams marks points (i + 1) n rise' fall' constant') (sym a) (record {
      within = (ground.within i none_there l).level;
      fits = fit;
      kept = kept_more streams marks points i rise fall constant rise' fall' constant' none_there walk.kept l mark r f c;
      passed = All-more (IsPassed marks (point_at points i).level) points i none_there l
          (All-weaker (IsPassed marks at) (IsPassed marks (point_at points i).level) (λ p h m. (let k = h m in let n = next_ahead total streams marks points i at rise fall constant walk l in omega arith)) (take i points) walk.passed)
          (λ h. omega arith);
      ahead = fewer (point_at points i).level i points (ahead_next ground.are.ordered points i none_there ground.are.all l);
    })
