-- What one more credit makes of the division, of its state and of the samples.
use Rattle.std.proofs.Common.{ℕ, ◌≡◌, Bool, true, false, nat_le, nat_lt, if◌then◌else◌, ◌&&◌, List, [], ◌∷◌, ◌++◌, append_assoc, append-nil, Option, Some, None, option_map, refl, ap, ◌∙◌, sym, arith}
use Rattle.std.proofs.lemmas.List.Sums.{fold-append}
use Rattle.std.proofs.lemmas.List.Folds.{list_all-append}
use Rattle.std.proofs.lemmas.Bool.Decides.{nat_tests}
use Rattle.gcc_units.specs.declared.shared_types.Credit.{Credit}
use Rattle.gcc_units.specs.declared.shared_types.Sample.{Sample}
use Rattle.packet_groups.specs.declared.step.Point.{Point}
use Rattle.packet_groups.specs.declared.step.Group.{Group}
use Rattle.packet_groups.specs.declared.step.State.{State}
use Rattle.packet_groups.specs.Groups.{Run, end_of, last_of, summary, alone, longer, joins, placed, division, grouped_after, grouped, is_behind, difference, differences, samples}
use Rattle.packet_groups.specs.Kept.{with, begun, after_in, after, state_of, moment_of, StandsFor, listed}

-- ---- one more grouped credit

last-longer : (r : Run) (c : Credit) → last_of (longer r c) ≡ c
last-longer r c = fold-append (λ (b : Credit) (d : Credit). d) r.first r.more (c ∷ [])

pub summary-longer : (r : Run) (c : Credit) → summary (longer r c) ≡ with (summary r) c
summary-longer r c = ap (λ (d : Credit). record { first = r.first.sent_at; last = end_of d }) (last-longer r c)

-- the state and the sample after a credit that is grouped
abbrev place_in : Option Group → Option Point → Credit → State × Option Sample
place_in None before c = (record { current = Some (begun c); before = None }, None)
place_in (Some g) before c =
    if joins g c then (record { current = Some (with g c); before = before }, None)
    else (record { current = Some (begun c); before = Some g.last }, option_map (λ b. difference b g.last) before)

abbrev place : State → Credit → State × Option Sample
place now c = place_in now.current now.before c

-- next is what runs become, with this state and sample
record Becomes (runs next : List Run) (x : State × Option Sample) : Type 0 where
  state : state_of next ≡ x.0
  sample : differences next ≡ differences runs ++ listed x.1

place-one : (r : Run) (c : Credit) (b : Bool)
    → Becomes (r ∷ []) (if b then longer r c ∷ [] else r ∷ alone c ∷ [])
    (if b then (record { current = Some (with (summary r) c); before = None }, None) else (record { current = Some (begun c); before = Some (end_of (last_of r)) }, None))
place-one r c true = record { state = ap (λ (g : Group). record { current = Some g; before = None }) (summary-longer r c); sample = refl }
place-one r c false = record { state = refl; sample = refl }

place-two : (r s : Run) (c : Credit) (b : Bool)
    → Becomes (r ∷ s ∷ []) (r ∷ (if b then longer s c ∷ [] else s ∷ alone c ∷ []))
    (if b then (record { current = Some (with (summary s) c); before = Some (end_of (last_of r)) }, None)
    else (record { current = Some (begun c); before = Some (end_of (last_of s)) }, Some (difference (end_of (last_of r)) (end_of (last_of s)))))
place-two r s c true = record { state = ap (λ (g : Group). record { current = Some g; before = Some (end_of (last_of r)) }) (summary-longer s c); sample = refl }
place-two r s c false = record { state = refl; sample = refl }

-- what is placed is never empty
record IsSome (runs : List Run) : Type 0 where
  first : Run
  others : List Run
  is : runs ≡ first ∷ others

one-or : (r : Run) (c : Credit) (b : Bool) → IsSome (if b then longer r c ∷ [] else r ∷ alone c ∷ [])
one-or r c true = record { first = longer r c; others = []; is = refl }
one-or r c false = record { first = r; others = alone c ∷ []; is = refl }

placed-some : (r : Run) (runs : List Run) (c : Credit) → IsSome (placed (r ∷ runs) c)
placed-some r [] c = one-or r c (joins (summary r) c)
placed-some r (s ∷ runs) c = record { first = r; others = placed (s ∷ runs) c; is = refl }

state-more : (r s : Run) (runs : List Run) → IsSome runs → state_of (r ∷ s ∷ runs) ≡ state_of (s ∷ runs)
state-more r s runs some = rw some.is refl

differences-more : (r s : Run) (runs : List Run) → IsSome runs
    → differences (r ∷ s ∷ runs) ≡ difference (end_of (last_of r)) (end_of (last_of s)) ∷ differences (s ∷ runs)
differences-more r s runs some = rw some.is refl

place-more : (r s t : Run) (runs : List Run) (c : Credit) (x : State × Option Sample) → Becomes (s ∷ t ∷ runs) (s ∷ placed (t ∷ runs) c) x
    → Becomes (r ∷ s ∷ t ∷ runs) (r ∷ s ∷ placed (t ∷ runs) c) x
place-more r s t runs c x h =
    record {
      state = state-more r s _ (placed-some t runs c) ∙ h.state;
      sample = differences-more r s _ (placed-some t runs c) ∙ ap (λ (ys : List Sample). difference (end_of (last_of r)) (end_of (last_of s)) ∷ ys) h.sample;
    }

placing : (runs : List Run) (c : Credit) → Becomes runs (placed runs c) (place (state_of runs) c)
placing [] c = record { state = refl; sample = refl }
placing (r ∷ []) c = place-one r c (joins (summary r) c)
placing (r ∷ s ∷ []) c = place-two r s c (joins (summary s) c)
placing (r ∷ s ∷ t ∷ runs) c = place-more r s t runs c (place (state_of (s ∷ t ∷ runs)) c) (placing (s ∷ t ∷ runs) c)

-- ---- one more credit of all

grouped_after-push : (before credits : List Credit) (c : Credit)
    → grouped_after before (credits ++ c ∷ []) ≡ grouped_after before credits ++ (if is_behind (before ++ credits) c.sent_at then c ∷ [] else [])
grouped_after-push before [] c =
    append-nil (if is_behind before c.sent_at then c ∷ [] else [])
    ∙ ap (λ (ds : List Credit). if is_behind ds c.sent_at then c ∷ [] else []) (sym (append-nil before))
grouped_after-push before (d ∷ credits) c =
    ap (λ (ds : List Credit). (if is_behind before d.sent_at then d ∷ [] else []) ++ ds) (grouped_after-push (before ++ d ∷ []) credits c)
    ∙ sym (append_assoc (if is_behind before d.sent_at then d ∷ [] else []) (grouped_after (before ++ d ∷ []) credits) _)
    ∙ ap (λ (ds : List Credit). ((if is_behind before d.sent_at then d ∷ [] else []) ++ grouped_after (before ++ d ∷ []) credits) ++ (if is_behind ds c.sent_at then c ∷ [] else []))
    (append_assoc before (d ∷ []) credits)

grouped-push : (credits : List Credit) (c : Credit) → grouped (credits ++ c ∷ []) ≡ grouped credits ++ (if is_behind credits c.sent_at then c ∷ [] else [])
grouped-push credits c = grouped_after-push [] credits c

pub division-push : (credits : List Credit) (c : Credit) → division (credits ++ c ∷ []) ≡ placed (division credits) c
division-push credits c = fold-append placed [] credits (c ∷ [])

and_true : (b : Bool) → (b && true) ≡ b
and_true true = refl
and_true false = refl

behind-push : (credits : List Credit) (c : Credit) (moment : ℕ) → is_behind (credits ++ c ∷ []) moment ≡ (is_behind credits moment && nat_le c.sent_at moment)
behind-push credits c moment =
    list_all-append (λ (b : Credit). nat_le b.sent_at moment) credits (c ∷ [])
    ∙ ap (λ (b : Bool). is_behind credits moment && b) (and_true (nat_le c.sent_at moment))

-- ---- the step

-- a credit that is not behind the last one changes nothing
after_in-left : (current : Option Group) (before : Option Point) (c : Credit) → nat_le (moment_of current) c.sent_at ≡ false
    → after_in current before c ≡ (record { current = current; before = before }, None)
after_in-left None before c h = absurd (grind (arith, nat_tests))
after_in-left (Some g) before c h = let e : nat_lt c.sent_at g.last.sent_at ≡ true = grind (arith, nat_tests) in rw e refl

after_in-placed : (current : Option Group) (before : Option Point) (c : Credit) → nat_le (moment_of current) c.sent_at ≡ true
    → after_in current before c ≡ place_in current before c
after_in-placed None before c h = refl
after_in-placed (Some g) before c h = let e : nat_lt c.sent_at g.last.sent_at ≡ false = grind (arith, nat_tests) in rw e refl

-- the last grouped departure after a step
abbrev moment_after : State × Option Sample → ℕ
moment_after x = moment_of x.0.current

moment-or : (b : Bool) (x y : State × Option Sample) (n : ℕ) → moment_after x ≡ n → moment_after y ≡ n → moment_after (if b then x else y) ≡ n
moment-or true x y n h k = h
moment-or false x y n h k = k

moment-place : (current : Option Group) (before : Option Point) (c : Credit) → moment_after (place_in current before c) ≡ c.sent_at
moment-place None before c = refl
moment-place (Some g) before c = moment-or (joins g c) _ _ c.sent_at refl refl

latest-placed : (old new moment : ℕ) → nat_le old new ≡ true → (nat_le old moment && nat_le new moment) ≡ nat_le new moment
latest-placed old new moment h = grind (arith, nat_tests)

latest-left : (old new moment : ℕ) → nat_le old new ≡ false → (nat_le old moment && nat_le new moment) ≡ nat_le old moment
latest-left old new moment h = grind (arith, nat_tests)

-- what a credit makes of the groups
pub record Grows (now : State) (credits : List Credit) (c : Credit) : Type 0 where
  pub stands : StandsFor (after now c).0 (credits ++ c ∷ [])
  pub sample : samples (credits ++ c ∷ []) ≡ samples credits ++ listed (after now c).1

grows-left : (now : State) (credits : List Credit) (c : Credit) → StandsFor now credits → nat_le (moment_of now.current) c.sent_at ≡ false → Grows now credits c
grows-left now credits c h out =
    let same : after now c ≡ (now, None) = after_in-left now.current now.before c out in
    let behind : is_behind credits c.sent_at ≡ false = h.latest c.sent_at ∙ out in
    let kept : grouped (credits ++ c ∷ []) ≡ grouped credits =
    grouped-push credits c ∙ ap (λ (b : Bool). grouped credits ++ (if b then c ∷ [] else [])) behind ∙ append-nil (grouped credits) in
    record {
      stands = record {
        is = ap (λ (x : State × Option Sample). x.0) same ∙ h.is ∙ ap (λ (cs : List Credit). state_of (division cs)) (sym kept);
        latest = λ moment.
            behind-push credits c moment
            ∙ ap (λ (b : Bool). b && nat_le c.sent_at moment) (h.latest moment)
            ∙ latest-left (moment_of now.current) c.sent_at moment out
            ∙ ap (λ (x : State × Option Sample). nat_le (moment_of x.0.current) moment) (sym same);
      };
      sample =
          ap (λ (cs : List Credit). differences (division cs)) kept
          ∙ sym (append-nil (samples credits))
          ∙ ap (λ (x : State × Option Sample). samples credits ++ listed x.1) (sym same);
    }

grows-placed : (now : State) (credits : List Credit) (c : Credit) → StandsFor now credits → nat_le (moment_of now.current) c.sent_at ≡ true → Grows now credits c
grows-placed now credits c h here =
    let same : after now c ≡ place now c = after_in-placed now.current now.before c here in
    let behind : is_behind credits c.sent_at ≡ true = h.latest c.sent_at ∙ here in
    let kept : grouped (credits ++ c ∷ []) ≡ grouped credits ++ c ∷ [] =
    grouped-push credits c ∙ ap (λ (b : Bool). grouped credits ++ (if b then c ∷ [] else [])) behind in
    let next : division (grouped (credits ++ c ∷ [])) ≡ placed (division (grouped credits)) c =
    ap (λ (cs : List Credit). division cs) kept ∙ division-push (grouped credits) c in
    let became = placing (division (grouped credits)) c in
    let from : place (state_of (division (grouped credits))) c ≡ after now c = ap (λ (old : State). place old c) (sym h.is) ∙ sym same in
    record {
      stands = record {
        is = sym (ap (λ (runs : List Run). state_of runs) next ∙ became.state ∙ ap (λ (x : State × Option Sample). x.0) from);
        latest = λ moment.
            behind-push credits c moment
            ∙ ap (λ (b : Bool). b && nat_le c.sent_at moment) (h.latest moment)
            ∙ latest-placed (moment_of now.current) c.sent_at moment here
            ∙ ap (λ n. nat_le n moment) (sym (moment-place now.current now.before c))
            ∙ ap (λ (x : State × Option Sample). nat_le (moment_of x.0.current) moment) (sym same);
      };
      sample =
          ap (λ (runs : List Run). differences runs) next
          ∙ became.sample
          ∙ ap (λ (x : State × Option Sample). samples credits ++ listed x.1) from;
    }

pub grows : (now : State) (credits : List Credit) (c : Credit) → StandsFor now credits → Grows now credits c
grows now credits c h = grows-if (nat_le (moment_of now.current) c.sent_at) refl
  where
    grows-if : (b : Bool) → nat_le (moment_of now.current) c.sent_at ≡ b → Grows now credits c
    grows-if true e = grows-placed now credits c h e
    grows-if false e = grows-left now credits c h e
