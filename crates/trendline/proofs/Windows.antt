-- What a window keeps after a point, and what a trend stands for after a sample.
use Rattle.std.proofs.Common.{ℕ, ℤ, ◌≡◌, ◌+◌, ◌-◌, ◌*◌, ◌≤◌, ◌<◌, Bool, true, false, nat_lt, if◌then◌else◌, unsigned_abs, Option, Some, None, List, [], ◌∷◌, ◌++◌, length, drop, slice_get, All, refl, ap, sym, subst, ◌∙◌, arith, length-append}
use Rattle.std.proofs.lemmas.Bool.Decides.{nat_tests}
use Rattle.std.proofs.lemmas.Nat.{mul-le}
use Rattle.std.proofs.lemmas.List.{take_all}
use Rattle.std.proofs.lemmas.List.Elements.{All-head, All-tail, All-push}
use Rattle.circular_buffer.specs.Buffer.{Buffer, buffer, keep_last}
use Rattle.gcc_units.specs.declared.shared_types.Sample.{Sample}
use Rattle.gcc_units.specs.declared.limits.TheConstants.{GREATEST_DELAY, JOURNAL_PACKETS}
use Rattle.trendline.specs.declared.TheConstants.{MOST_POINTS, GREATEST_TIME}
use Rattle.trendline.specs.declared.sums.Point.{Point}
use Rattle.trendline.specs.declared.sums.Sums.{Sums}
use Rattle.trendline.specs.Trend.{total, gap_of, delay_of, point_of, last_of, sums_of, fit, rise_of, spread_of, slope}
use Rattle.trendline.specs.Ranges.{IsNear, IsPointSmall, IsHeld, AreSmall, most_delay, with_point, without_point}
use Rattle.trendline.specs.KeptBySamples.{Kept, StandsFor, AreWithin, TakesSample, moved}
use Rattle.trendline.proofs.Lists.{drop_0, sums-push, sums-first, point-push, stands-more}
use Rattle.trendline.proofs.Numbers.{sums-small, near-total, near-wider}

-- ---- the point that leaves

none-left : (b : Bool) (points : List Point) (p : Point) → None ≡ (if b then None else slice_get (points ++ p ∷ []) 0) → b ≡ true
none-left true points p e = refl
none-left false [] p e = cc
none-left false (q ∷ points) p e = cc

some-left : (b : Bool) (o : Option Point) (gone : Point) → Some gone ≡ (if b then None else o) → b ≡ false
some-left true o gone e = cc
some-left false o gone e = refl

first-left : (b : Bool) (q : Point) (rest : List Point) (gone : Point) → Some gone ≡ (if b then None else slice_get (q ∷ rest) 0) → gone ≡ q
first-left true q rest gone e = cc
first-left false q rest gone e = cc

drop_1 : (n : ℕ) (q : Point) (ps : List Point) → n ≡ 1 → drop n (q ∷ ps) ≡ ps
drop_1 n q ps e = rw e refl

full-many : (n cap : ℕ) → nat_lt n cap ≡ false → cap ≤ n
full-many n cap e = grind (arith, nat_tests)

room-more : (n cap : ℕ) → nat_lt n cap ≡ true → n < cap
room-more n cap e = grind (arith, nat_tests)

pub held-small : (cap : ℕ) (sums : Sums) (points : List Point) → IsHeld cap sums points → AreSmall 20 sums
held-small cap sums points h = let P : Sums → Type 0 = AreSmall 20 in subst P (sym h.summed) (sums-small 20 points h.few h.small)

pub gone-small : (cap : ℕ) (sums : Sums) (points : List Point) (p gone : Point) → IsHeld cap sums points
    → Some gone ≡ (if nat_lt (length points) cap then None else slice_get (points ++ p ∷ []) 0) → IsPointSmall gone
gone-small cap sums [] p gone h e = absurd (omega (arith, h.room, full-many 0 cap (some-left (nat_lt 0 cap) (Some p) gone e)))
gone-small cap sums (q ∷ points) p gone h e =
    let is : gone ≡ q = first-left (nat_lt (length (q ∷ points)) cap) q (points ++ p ∷ []) gone e in
    let P : Point → Type 0 = IsPointSmall in
    subst P (sym is) (All-head IsPointSmall q points h.small)

-- a window with room
pub held-more : (cap : ℕ) (sums more : Sums) (points : List Point) (p : Point) (new : Buffer Point) → IsHeld cap sums points → IsPointSmall p
    → None ≡ (if nat_lt (length points) cap then None else slice_get (points ++ p ∷ []) 0)
    → more ≡ with_point sums p → new ≡ buffer (keep_last cap (points ++ p ∷ [])) cap → IsHeld new.capacity more new.items
held-more cap sums more points p new h small e more_is new_is =
    let some : length points < cap = room-more (length points) cap (none-left (nat_lt (length points) cap) points p e) in
    let items : new.items ≡ points ++ p ∷ [] =
    ap (λ (b : Buffer Point). b.items) new_is ∙ drop_0 (length (points ++ p ∷ []) - cap) (points ++ p ∷ []) (omega (arith, length-append points (p ∷ []))) in
    let room : new.capacity ≡ cap = ap (λ (b : Buffer Point). b.capacity) new_is in
    let Small : List Point → Type 0 = All IsPointSmall in
    record {
      room = room ∙ h.room;
      few = omega (arith, h.room, ap (λ (ps : List Point). length ps) items, length-append points (p ∷ []));
      small = subst Small (sym items) (All-push IsPointSmall points p h.small small);
      summed = more_is ∙ ap (λ s. with_point s p) h.summed ∙ sums-push points p ∙ ap sums_of (sym items);
    }

-- a full window, whose first point leaves
pub held-last : (cap : ℕ) (sums more less : Sums) (points : List Point) (p gone : Point) (new : Buffer Point) → IsHeld cap sums points → IsPointSmall p
    → Some gone ≡ (if nat_lt (length points) cap then None else slice_get (points ++ p ∷ []) 0)
    → more ≡ with_point sums p → less ≡ without_point more gone → new ≡ buffer (keep_last cap (points ++ p ∷ [])) cap → IsHeld new.capacity less new.items
held-last cap sums more less [] p gone new h small e more_is less_is new_is =
    absurd (omega (arith, h.room, full-many 0 cap (some-left (nat_lt 0 cap) (Some p) gone e)))
held-last cap sums more less (q ∷ points) p gone new h small e more_is less_is new_is =
    let is : gone ≡ q = first-left (nat_lt (length (q ∷ points)) cap) q (points ++ p ∷ []) gone e in
    let many : cap ≤ length (q ∷ points) =
    full-many (length (q ∷ points)) cap (some-left (nat_lt (length (q ∷ points)) cap) (Some q) gone e) in
    let one : length (q ∷ (points ++ p ∷ [])) - cap ≡ 1 = omega (arith, h.room, h.few, length-append points (p ∷ [])) in
    let items : new.items ≡ points ++ p ∷ [] =
    ap (λ (b : Buffer Point). b.items) new_is ∙ drop_1 (length (q ∷ (points ++ p ∷ [])) - cap) q (points ++ p ∷ []) one in
    let room : new.capacity ≡ cap = ap (λ (b : Buffer Point). b.capacity) new_is in
    let Small : List Point → Type 0 = All IsPointSmall in
    let all : more ≡ sums_of (q ∷ (points ++ p ∷ [])) = more_is ∙ ap (λ s. with_point s p) h.summed ∙ sums-push (q ∷ points) p in
    record {
      room = room ∙ h.room;
      few = omega (arith, h.room, h.few, ap (λ (ps : List Point). length ps) items, length-append points (p ∷ []));
      small = subst Small (sym items) (All-push IsPointSmall points p (All-tail IsPointSmall q points h.small) small);
      summed = less_is ∙ ap (λ z. without_point more z) is ∙ ap (λ s. without_point s q) all ∙ sums-first q (points ++ p ∷ []) ∙ ap sums_of (sym items);
    }

pub kept-is : (cap : ℕ) (points now : List Point) (p : Point) (new : Buffer Point) → cap ≡ MOST_POINTS → points ≡ now
    → new ≡ buffer (keep_last cap (points ++ p ∷ [])) cap → new.items ≡ last_of MOST_POINTS (now ++ p ∷ [])
kept-is cap points now p new room view_is new_is =
    ap (λ (b : Buffer Point). b.items) new_is
    ∙ ap (λ n. keep_last n (points ++ p ∷ [])) room
    ∙ ap (λ ps. last_of MOST_POINTS (ps ++ p ∷ [])) view_is

-- ---- a sample that a trend takes

pub point-small : (now : Kept) (last : Point) (s : Sample) → last ≡ now.last → TakesSample now s → IsPointSmall (moved last s)
point-small now last s last_is takes =
    let samples = takes.0 in
    let within : AreWithin (samples ++ s ∷ []) = takes.2 in
    let is : moved last s ≡ point_of (samples ++ s ∷ []) = ap (λ q. moved q s) (last_is ∙ takes.1.last) ∙ sym (point-push samples s) in
    let Near : List Sample → Type 0 = λ xs. IsNear GREATEST_TIME (total gap_of xs) in
    let Small : Point → Type 0 = IsPointSmall in
    subst Small (sym is) (record {
      x = subst Near (take_all (length (samples ++ s ∷ [])) (samples ++ s ∷ []) (omega arith)) (within.times (length (samples ++ s ∷ [])));
      y = near-wider (length (samples ++ s ∷ []) * unsigned_abs GREATEST_DELAY) most_delay (total delay_of (samples ++ s ∷ []))
          (mul-le (length (samples ++ s ∷ [])) (unsigned_abs GREATEST_DELAY) JOURNAL_PACKETS (unsigned_abs GREATEST_DELAY) within.few (omega arith))
          (near-total delay_of (unsigned_abs GREATEST_DELAY) (samples ++ s ∷ []) within.delays);
    })

pub count-few : (now : Kept) (s : Sample) → TakesSample now s → now.count + 1 ≤ JOURNAL_PACKETS
count-few now s takes = omega (arith, takes.1.count, takes.2.few, length-append takes.0 (s ∷ []))

-- ---- the step

pub step-stands : (now : Kept) (ps next : List Point) (last p : Point) (n : ℕ) (s : Sample) → record { points = ps; last = last; count = n } ≡ now → p ≡ moved last s
    → next ≡ last_of MOST_POINTS (ps ++ p ∷ []) → (samples : List Sample) → StandsFor now samples
    → StandsFor (record { points = next; last = p; count = n + 1 }) (samples ++ s ∷ [])
step-stands now ps next last p n s view_is p_is next_is samples h =
    let Stands : Kept → Type 0 = λ k. StandsFor k samples in
    stands-more (record { points = ps; last = last; count = n }) (record { points = next; last = p; count = n + 1 }) samples s p (subst Stands (sym view_is) h) p_is next_is refl refl

few-test : (n m : ℕ) → n < m → nat_lt n m ≡ true
few-test n m h = grind (arith, nat_tests)

many-test : (n m : ℕ) → m ≤ n → nat_lt n m ≡ false
many-test n m h = grind (arith, nat_tests)

pub slope-none : (now : Kept) (samples : List Sample) → StandsFor now samples → now.count < 20 → None ≡ slope samples
unfolding slope
slope-none now samples h few = let test : nat_lt (length samples) MOST_POINTS ≡ true = few-test (length samples) MOST_POINTS (omega (arith, h.count)) in rw test refl

pub slope-some : (now : Kept) (samples : List Sample) (r : Option ℤ) → StandsFor now samples → 20 ≤ now.count
    → r ≡ fit (rise_of (sums_of now.points)) (spread_of (sums_of now.points)) → r ≡ slope samples
unfolding slope
slope-some now samples r h many e =
    let test : nat_lt (length samples) MOST_POINTS ≡ false = many-test (length samples) MOST_POINTS (omega (arith, h.count)) in
    rw test (e ∙ ap (λ ps. fit (rise_of (sums_of ps)) (spread_of (sums_of ps))) h.points)
