-- Reading the items of a list one after the other, as a loop does.
use Rattle.std.proofs.Common.{◌≡◌, ℕ, ◌+◌, true, false, ◌<◌, ◌≤◌, List, [], ◌∷◌, ◌++◌, length, get_or, suc, drop, add-one, drop-cons, Some, Result, Ok, Err, refl, sym, ap, ◌∙◌, append_assoc}
use Rattle.std.proofs.lemmas.List.{append-nil, drop_all}
use Rattle.serde_json.specs.Data.{Data, Items}
use Rattle.serde_json.specs.Find.{as_array}
use Rattle.serde_json.specs.View.{view, items_view}
use Rattle.serde_json.specs.declared.value.Value.{Value}
use Rattle.gcc_units.specs.Listed.{Listed, bare}
use Rattle.call_trace.specs.declared.fault.Bad.{Bad}
use Rattle.call_trace.specs.declared.fault.Bad.TheVariants as bad
use Rattle.call_trace.specs.Steps.{◌>>=◌, Fails}
use Rattle.call_trace.specs.Settings.{fine_stream, fine_items}
use Rattle.call_trace.specs.ChangeReading.{items_at, list_at}

abbrev pub with_items : {A : Type 0} → List A → Result (List A) ℕ → Result (List A) ℕ
with_items front read = read >>= λ xs. Ok (front ++ xs)

-- what was read so far and the rest give what all give
pub record IsListing {A : Type 0} (read : Data → Result A ℕ) (front : List A) (rest : List Value) (all : Items) : Type 0 where
  pub so_far : with_items front (items_at read (items_view rest)) ≡ items_at read all

regroup : {A : Type 0} (front : List A) (first : A) (read : Result (List A) ℕ) → with_items front (read >>= λ xs. Ok (first ∷ xs)) ≡ with_items (front ++ first ∷ []) read
regroup front first (Ok xs) = ap (λ ys. Ok ys) (simp append_assoc)
regroup front first (Err r) = refl

nothing : {A : Type 0} (read : Result (List A) ℕ) → with_items [] read ≡ read
nothing (Ok xs) = refl
nothing (Err r) = refl

pub starts : {A : Type 0} (read : Data → Result A ℕ) (vs : List Value) → IsListing read [] vs (items_view vs)
starts read vs = record { so_far = nothing (items_at read (items_view vs)) }

pub none_left : {A : Type 0} (read : Data → Result A ℕ) (front : List A) (all : Items) → IsListing read front [] all → items_at read all ≡ Ok front
unfolding items_at
none_left read front all s = sym s.so_far ∙ ap (λ ys. Ok ys) (append-nil front)

pub one_more : {A : Type 0} (read : Data → Result A ℕ) (front : List A) (v : Value) (rest : List Value) (all : Items) (x : A) → IsListing read front (v ∷ rest) all → read (view v) ≡ Ok x
    → IsListing read (front ++ x ∷ []) rest all
unfolding items_at
one_more read front v rest all x s is = record { so_far = sym (regroup front x (items_at read (items_view rest))) ∙ (rw is at s.so_far) }

pub one_bad : {A : Type 0} (read : Data → Result A ℕ) (front : List A) (v : Value) (rest : List Value) (all : Items) (b : Bad) → IsListing read front (v ∷ rest) all → Fails b (read (view v))
    → Fails b (items_at read all)
unfolding items_at
one_bad read front v rest all bad.Memory s is = tt
one_bad read front v rest all (bad.Reason r) s is = sym (rw is at s.so_far)

-- ---- by places

at_place : (vs : List Value) (i : ℕ) (v : Value) → v ≡ get_or vs i v → i < length vs → drop i vs ≡ v ∷ drop (i + 1) vs
at_place vs i v is low = rw (add-one, drop-cons vs i v) (ap (λ w. w ∷ drop (suc i) vs) (sym is))

pub goes_on : {A : Type 0} (read : Data → Result A ℕ) (front new : List A) (vs : List Value) (i : ℕ) (v : Value) (all : Items) (x : A) → IsListing read front (drop i vs) all → v ≡ get_or vs i v → i < length vs
    → read (view v) ≡ Ok x → new ≡ front ++ x ∷ [] → IsListing read new (drop (i + 1) vs) all
goes_on read front new vs i v all x s is low reads grown = rw grown (one_more read front v (drop (i + 1) vs) all x (rw (at_place vs i v is low) at s) reads)

pub stops : {A : Type 0} (read : Data → Result A ℕ) (front : List A) (vs : List Value) (i : ℕ) (v : Value) (all : Items) (b : Bad) → IsListing read front (drop i vs) all → v ≡ get_or vs i v → i < length vs
    → Fails b (read (view v)) → Fails b (items_at read all)
stops read front vs i v all b s is low fails = one_bad read front v (drop (i + 1) vs) all b (rw (at_place vs i v is low) at s) fails

pub ends : {A : Type 0} (read : Data → Result A ℕ) (front : List A) (vs : List Value) (i : ℕ) (all : Items) → IsListing read front (drop i vs) all → length vs ≤ i → items_at read all ≡ Ok front
ends read front vs i all s high = none_left read front all (rw (drop_all i vs high) at s)

-- ---- the list itself

pub list_ok : {A : Type 0} (read : Data → Result A ℕ) (d : Data) (all : Items) (l : Listed A) → Some all ≡ as_array d → items_at read all ≡ Ok l.items → l ≡ bare l.items → list_at read (Some d) ≡ Ok l
list_ok read d all l is items settled = rw (← is, items) (ap (λ x. Ok x) (sym settled))

pub list_bad : {A : Type 0} (read : Data → Result A ℕ) (d : Data) (all : Items) (b : Bad) → Some all ≡ as_array d → Fails b (items_at read all) → Fails b (list_at read (Some d))
list_bad read d all bad.Memory is fails = tt
list_bad read d all (bad.Reason r) is fails = rw (← is, fails) refl

-- ---- keys of the objects of a list

-- the items of the list are fine exactly where the rest is
pub record IsFineSoFar (rest all : List Value) : Type 0 where
  pub same : fine_items (items_view all) ≡ fine_items (items_view rest)

pub fine_goes_on : (all vs : List Value) (i : ℕ) (v : Value) → IsFineSoFar (drop i vs) all → v ≡ get_or vs i v → i < length vs → fine_stream (view v) ≡ true → IsFineSoFar (drop (i + 1) vs) all
fine_goes_on all vs i v s is low fine = record { same = let so = rw (at_place vs i v is low) at s.same in rw fine at so }

pub fine_stops : (all vs : List Value) (i : ℕ) (v : Value) → IsFineSoFar (drop i vs) all → v ≡ get_or vs i v → i < length vs → fine_stream (view v) ≡ false → fine_items (items_view all) ≡ false
fine_stops all vs i v s is low bad = let so = rw (at_place vs i v is low) at s.same in rw bad at so

pub fine_ends : (all vs : List Value) (i : ℕ) → IsFineSoFar (drop i vs) all → length vs ≤ i → fine_items (items_view all) ≡ true
fine_ends all vs i s high = rw (drop_all i vs high) at s.same
