-- The media level of a history is the least over its starts.
use Rattle.std.proofs.Common.{◌≡◌, ℕ, ℤ, pos, ◌+◌, ◌-◌, ◌*◌, ◌-ℤ◌, List, [], ◌∷◌, ◌++◌, refl, sym, ◌∙◌, ap, subst, append_assoc, append-nil, arith}
use Rattle.std.specs.Prelude.{◌⊎◌, ◌≤ℤ◌, All, Contains}
use Rattle.std.specs.List.{flat_map}
use Rattle.std.proofs.lemmas.Int.{ints}
use Rattle.std.proofs.lemmas.List.Sums.{sum_by-append, sum_by-cons}
use Rattle.gcc_units.specs.Walk.{each_by}
use Rattle.pace_budget.specs.Level.{Deed, bits, inflow, starts, IsAtMost, IsLeast}
use Rattle.pace_budget.proofs.Steps.{level-is_least}
use Rattle.pacer.specs.declared.sent.Sent.{Sent}
use Rattle.pacer.specs.declared.sent.Kind.{Kind}
use Rattle.pacer.specs.declared.sent.Kind.TheVariants as kind
use Rattle.pacer.specs.Pace.{deed_by}
use Rattle.send_core.specs.declared.call.Entry.{Entry}
use Rattle.send_core.specs.History.{now, sent, sent_by}
use Rattle.send_core.specs.Levels.{rate, window, passing, spending, deeds_by, level_at}
use Rattle.send_laws.specs.Spans.{spent_as, spent_size, all_spent, integral}
use Rattle.send_laws.specs.Fills.{came_in, less_spent, full_at, fills, IsLeastFill}

abbrev deeds_from : List Entry → List Entry → List Deed
deeds_from before rest = flat_map (λ (ds : List Deed). ds) (each_by deeds_by before rest)

-- what these entries do, and then time passes up to the moment
abbrev up_to : List Entry → List Entry → ℕ → List Deed
up_to before rest moment = deeds_from before rest ++ passing (before ++ rest) moment ∷ []

-- ---- sends

spending-inflow : (rs : List Sent) (ds : List Deed) → inflow (spending rs ++ ds) ≡ inflow ds -ℤ bits (all_spent rs)
spending-inflow [] ds = omega (arith, ints)
spending-inflow (r ∷ rs) ds = rw (sum_by-cons spent_size r rs) (by_kind r.kind r.size (spending-inflow rs ds))
  where
    by_kind : (k : Kind) (size : ℕ) → inflow (spending rs ++ ds) ≡ inflow ds -ℤ bits (all_spent rs)
        → inflow ((deed_by k size ++ spending rs) ++ ds) ≡ inflow ds -ℤ bits (spent_as k size + all_spent rs)
    by_kind kind.Audio size h = omega (arith, ints, h)
    by_kind kind.Media size h = omega (arith, ints, h)
    by_kind (kind.Probe id) size h = omega (arith, ints, h)
    by_kind kind.Padding size h = omega (arith, ints, h)

spending-starts : (rs : List Sent) (ds : List Deed) → starts (spending rs ++ ds) ≡ starts ds
spending-starts [] ds = refl
spending-starts (r ∷ rs) ds = by_kind r.kind r.size (spending-starts rs ds)
  where
    by_kind : (k : Kind) (size : ℕ) → starts (spending rs ++ ds) ≡ starts ds → starts ((deed_by k size ++ spending rs) ++ ds) ≡ starts ds
    by_kind kind.Audio size h = h
    by_kind kind.Media size h = h
    by_kind (kind.Probe id) size h = h
    by_kind kind.Padding size h = h

-- ---- an entry, and those behind it

-- what an entry's sends and all behind it do
abbrev behind : List Entry → Entry → List Entry → ℕ → List Deed
behind before e rest moment = (spending (sent_by e.reply) ++ deeds_from (before ++ e ∷ []) rest) ++ passing (before ++ e ∷ rest) moment ∷ []

regrouped : (before : List Entry) (e : Entry) (rest : List Entry) (moment : ℕ)
    → behind before e rest moment ≡ spending (sent_by e.reply) ++ up_to (before ++ e ∷ []) rest moment
regrouped before e rest moment =
    append_assoc (spending (sent_by e.reply)) (deeds_from (before ++ e ∷ []) rest) (passing (before ++ e ∷ rest) moment ∷ [])
    ∙ ap (λ (h : List Entry). spending (sent_by e.reply) ++ (deeds_from (before ++ e ∷ []) rest ++ passing h moment ∷ [])) (sym (append_assoc before (e ∷ []) rest))

-- what an entry and those behind it spent
spent-more : (e : Entry) (rest : List Entry) → all_spent (sent (e ∷ rest)) ≡ all_spent (sent_by e.reply) + all_spent (sent rest)
spent-more e rest = sum_by-append spent_size (sent_by e.reply) (sent rest)

behind-inflow : (before : List Entry) (e : Entry) (rest : List Entry) (moment : ℕ)
    → inflow (up_to (before ++ e ∷ []) rest moment) ≡ less_spent (came_in (before ++ e ∷ []) rest moment) rest
    → inflow (behind before e rest moment) ≡ less_spent (came_in (before ++ e ∷ []) rest moment) (e ∷ rest)
behind-inflow before e rest moment h =
    let grouped = ap inflow (regrouped before e rest moment) in
    let spent = spending-inflow (sent_by e.reply) (up_to (before ++ e ∷ []) rest moment) in
    let all = spent-more e rest in
    omega (arith, ints, grouped, spent, all, h)

all-inflow : (before rest : List Entry) (moment : ℕ) → inflow (up_to before rest moment) ≡ less_spent (came_in before rest moment) rest
all-inflow before [] moment = omega (arith, ints)
all-inflow before (e ∷ rest) moment =
    let tail = behind-inflow before e rest moment (all-inflow (before ++ e ∷ []) rest moment) in
    let joined : (before ++ e ∷ []) ++ rest ≡ before ++ e ∷ rest = append_assoc before (e ∷ []) rest in
    let same : came_in (before ++ e ∷ []) rest moment ≡ integral (before ++ e ∷ []) rest + rate (before ++ e ∷ rest) * (moment - now (before ++ e ∷ rest)) =
    ap (λ (h : List Entry). integral (before ++ e ∷ []) rest + rate h * (moment - now h)) joined in
    omega (arith, ints, tail, same)

both-same : (a b : ℤ) (xs ys : List ℤ) → a ≡ b → xs ≡ ys → a ∷ xs ≡ b ∷ ys
both-same a b xs ys heads tails = cc

all-starts : (before rest : List Entry) (moment : ℕ) → starts (up_to before rest moment) ≡ fills before rest moment
all-starts before [] moment =
    let same : rate (before ++ []) * window (before ++ []) ≡ rate before * window before = ap (λ (h : List Entry). rate h * window h) (append-nil before) in
    both-same _ (pos (rate before * window before)) [] [] (omega (arith, ints, same)) refl
all-starts before (e ∷ rest) moment =
    let tail = behind-inflow before e rest moment (all-inflow (before ++ e ∷ []) rest moment) in
    both-same _ (full_at before e rest moment) _ (fills (before ++ e ∷ []) rest moment)
    (omega (arith, ints, tail))
    (ap starts (regrouped before e rest moment) ∙ (spending-starts (sent_by e.reply) (up_to (before ++ e ∷ []) rest moment) ∙ all-starts (before ++ e ∷ []) rest moment))

pub level-least : (history : List Entry) (moment : ℕ) → IsLeastFill (level_at history moment) history moment
level-least history moment =
    let least : IsLeast (level_at history moment) (up_to [] history moment) = level-is_least (up_to [] history moment) in
    let gain = all-inflow [] history moment in
    let each = all-starts [] history moment in
    record {
      at_most_from_nothing = subst (λ n. level_at history moment ≤ℤ n) gain least.from_nothing;
      at_most_each = subst (All (IsAtMost (level_at history moment))) each least.from_each;
      reached = subst (λ n. (level_at history moment ≡ n) ⊎ Contains (fills [] history moment) (level_at history moment)) gain
          (subst (λ ns. (level_at history moment ≡ inflow (up_to [] history moment)) ⊎ Contains ns (level_at history moment)) each least.reached);
    }
