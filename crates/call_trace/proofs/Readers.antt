-- Readers of JSON values give exactly what the values are.
use Rattle.std.proofs.Common.{◌≡◌, ℕ, ◌<◌, ◌^◌, Bool, true, false, cond, ltb, List, [], ◌∷◌, Option, Some, None, Result, Ok, Err, refl, sym, ap, ◌∙◌, subst}
use Rattle.std.specs.Prelude.{codes, option_and_then}
use Rattle.std.proofs.lemmas.Bool.{ltb-true, lt-ltb}
use Rattle.serde_json.specs.Data.{unsigned, negative, float, Data, null, boolean, number, string, array, object, Items, no_items, item}
use Rattle.serde_json.specs.Find.{get, as_array, as_bool}
use Rattle.gcc_units.specs.Listed.{Listed, bare}
use Rattle.allocator.specs.declared.stream.Stream.{Stream}
use Rattle.call_trace.specs.declared.fault.TheConstants.{WRONG_VALUE}
use Rattle.call_trace.specs.Steps.{◌>>=◌, or_reason}
use Rattle.call_trace.specs.Settings.{IsWhole, IsSmall, IsTruth, IsThere, IsOptional, AreItems, IsListed, IsStream}
use Rattle.call_trace.specs.ChangeReading.{small_of, whole_in, small_in, needed_at, present, optional_at, stream_at, items_at, listed, list_at}
use Rattle.call_trace.proofs.StepsTaken.{ok_is, or_reason_ok}

-- ---- values

-- what is found in a value is what it is
pub record IsFoundIn {A : Type 0} (value_in : Data → Option A) (P : A → Data → Type 0) : Type 0 where
  pub found : (d : Data) (x : A) → value_in d ≡ Some x → P x d
  pub again : (d : Data) (x : A) → P x d → value_in d ≡ Some x

whole_found : (d : Data) (n : ℕ) → whole_in d ≡ Some n → IsWhole n d
whole_found null n e = absurd cc
whole_found (boolean b) n e = absurd cc
whole_found (number (unsigned m)) n e = (let is : m ≡ n = cc in ap (λ k. number (unsigned k)) is)
whole_found (number (negative z)) n e = absurd cc
whole_found (number (float x)) n e = absurd cc
whole_found (string s) n e = absurd cc
whole_found (array ds) n e = absurd cc
whole_found (object ms) n e = absurd cc

truth_found : (d : Data) (b : Bool) → as_bool d ≡ Some b → IsTruth b d
truth_found null b e = absurd cc
truth_found (boolean c) b e = (let is : c ≡ b = cc in ap (λ t. boolean t) is)
truth_found (number n) b e = absurd cc
truth_found (string s) b e = absurd cc
truth_found (array ds) b e = absurd cc
truth_found (object ms) b e = absurd cc

small_is : (b : Bool) (m n : ℕ) → cond b (Some m) None ≡ Some n → (b ≡ true) × (m ≡ n)
small_is true m n e = (refl, cc)
small_is false m n e = absurd cc

small_within : (d : Data) (o : Option ℕ) (n : ℕ) → whole_in d ≡ o → option_and_then small_of o ≡ Some n → IsSmall n d
small_within d None n is e = absurd cc
small_within d (Some m) n is e =
    let s = small_is (ltb m (2 ^ 32)) m n e in
    let low : n < 2 ^ 32 = rw s.1 at (ltb-true m (2 ^ 32) s.0) in
    (low, whole_found d n (is ∙ ap (λ k. Some k) s.1))

pub finds_whole : IsFoundIn whole_in IsWhole
finds_whole = record { found = whole_found; again = λ d n is. rw is refl }

pub finds_truth : IsFoundIn as_bool IsTruth
finds_truth = record { found = truth_found; again = λ d b is. rw is refl }

pub finds_small : IsFoundIn small_in IsSmall
finds_small = record { found = λ d n e. small_within d (whole_in d) n refl e; again = λ d n is. rw (is.1, lt-ltb n (2 ^ 32) is.0) refl }

-- ---- readers

-- what is read is what is there; all that is wrong is a value
pub record IsReader {I X : Type 0} (read : I → Result X ℕ) (P : X → I → Type 0) : Type 0 where
  pub found : (i : I) (x : X) → read i ≡ Ok x → P x i
  pub again : (i : I) (x : X) → P x i → read i ≡ Ok x
  pub err : (i : I) (r : ℕ) → read i ≡ Err r → r ≡ WRONG_VALUE

or_reason_err : {A : Type 0} (o : Option A) (r : ℕ) → or_reason WRONG_VALUE o ≡ Err r → r ≡ WRONG_VALUE
or_reason_err (Some x) r e = absurd cc
or_reason_err None r e = cc

pub reads_value : {A : Type 0} (value_in : Data → Option A) (P : A → Data → Type 0) → IsFoundIn value_in P → IsReader (λ d. or_reason WRONG_VALUE (value_in d)) P
reads_value value_in P finds = record {
  found = λ d x e. finds.found d x (or_reason_ok WRONG_VALUE (value_in d) x e);
  again = λ d x is. ap (or_reason WRONG_VALUE) (finds.again d x is);
  err = λ d r e. or_reason_err (value_in d) r e;
}

module _ {A : Type 0} (value_in : Data → Option A) (P : A → Data → Type 0) (finds : IsFoundIn value_in P) where
  needed_found : (o : Option Data) (x : A) → needed_at value_in o ≡ Ok x → IsThere P x o
  needed_found None x e = absurd cc
  needed_found (Some d) x e = finds.found d x (or_reason_ok WRONG_VALUE (value_in d) x e)

  needed_again : (o : Option Data) (x : A) → IsThere P x o → needed_at value_in o ≡ Ok x
  needed_again None x is = absurd is
  needed_again (Some d) x is = ap (or_reason WRONG_VALUE) (finds.again d x is)

  needed_err : (o : Option Data) (r : ℕ) → needed_at value_in o ≡ Err r → r ≡ WRONG_VALUE
  needed_err None r e = cc
  needed_err (Some d) r e = or_reason_err (value_in d) r e

  pub reads_needed : IsReader (needed_at value_in) (IsThere P)
  reads_needed = record { found = needed_found; again = needed_again; err = needed_err }

  present_ok : (r : Result A ℕ) (x : Option A) → present r ≡ Ok x → (y : A) × (x ≡ Some y) × (r ≡ Ok y)
  present_ok (Ok y) x e = (y, cc, refl)
  present_ok (Err k) x e = absurd cc

  present_err : (r : Result A ℕ) (k : ℕ) → present r ≡ Err k → r ≡ Err k
  present_err (Ok y) k e = absurd cc
  present_err (Err j) k e = (let is : j ≡ k = cc in ap (λ q. Err q) is)

  optional_found : (o : Option Data) (x : Option A) → optional_at value_in o ≡ Ok x → IsOptional P x o
  optional_found None x e = (let is : None ≡ x = cc in subst (λ (y : Option A). IsOptional P y None) is tt)
  optional_found (Some d) x e =
      let p = present_ok (or_reason WRONG_VALUE (value_in d)) x e in
      rw p.1 (finds.found d p.0 (or_reason_ok WRONG_VALUE (value_in d) p.0 p.2))

  optional_again : (o : Option Data) (x : Option A) → IsOptional P x o → optional_at value_in o ≡ Ok x
  optional_again None None is = refl
  optional_again (Some d) None is = absurd is
  optional_again None (Some x) is = absurd is
  optional_again (Some d) (Some x) is = rw (finds.again d x is) refl

  optional_err : (o : Option Data) (r : ℕ) → optional_at value_in o ≡ Err r → r ≡ WRONG_VALUE
  optional_err None r e = absurd cc
  optional_err (Some d) r e = or_reason_err (value_in d) r (present_err (or_reason WRONG_VALUE (value_in d)) r e)

  pub reads_optional : IsReader (optional_at value_in) (IsOptional P)
  reads_optional = record { found = optional_found; again = optional_again; err = optional_err }

-- ---- steps of reading

pub record IsExact {X : Type 0} (r : Result X ℕ) (Good : X → Type 0) (Wrong : ℕ → Type 0) : Type 0 where
  pub ok : (x : X) → r ≡ Ok x → Good x
  pub err : (k : ℕ) → r ≡ Err k → Wrong k

-- a step, and those behind it
pub steps : {I X Y : Type 0} (read : I → Result X ℕ) (P : X → I → Type 0) (i : I) (rest : X → Result Y ℕ) (Good : Y → Type 0) (Wrong : ℕ → Type 0) → IsReader read P
    → (((x : X) → P x i → ⊥) → Wrong WRONG_VALUE) → ((x : X) → P x i → IsExact (rest x) Good Wrong) → IsExact (read i >>= rest) Good Wrong
steps {I} {X} {Y} read P i rest Good Wrong reader wrong others = by (read i) refl where
  by : (r : Result X ℕ) → read i ≡ r → IsExact (r >>= rest) Good Wrong
  by (Ok x) is = others x (reader.found i x is)
  by (Err k) is = record {
    ok = λ y e. absurd cc;
    err = λ j e. (
        let same : j ≡ k = cc in
        let none : (x : X) → P x i → ⊥ = λ x p. (let reads = sym is ∙ reader.again i x p in cc) in
        rw (same, reader.err i k is) (wrong none));
  }

-- the last step
pub whole_read : {X : Type 0} (x : X) (Good : X → Type 0) (Wrong : ℕ → Type 0) → Good x → IsExact (Ok x) Good Wrong
whole_read {X} x Good Wrong good = record { ok = λ y e. (let is : x ≡ y = ok_is x y e in subst (λ (z : X). Good z) is good); err = λ k e. absurd cc }

-- ---- streams

stream_exact : (d : Data) → IsExact (stream_at d) (λ s. IsStream s d) (λ k. k ≡ WRONG_VALUE)
unfolding stream_at
stream_exact d =
    steps _ _ (get (codes "id") d) _ _ _ (reads_needed small_in IsSmall finds_small) (λ _. refl) (λ id is-id.
    steps _ _ (get (codes "min") d) _ _ _ (reads_needed whole_in IsWhole finds_whole) (λ _. refl) (λ min is-min.
    steps _ _ (get (codes "max") d) _ _ _ (reads_needed whole_in IsWhole finds_whole) (λ _. refl) (λ max is-max.
    steps _ _ (get (codes "weight") d) _ _ _ (reads_needed small_in IsSmall finds_small) (λ _. refl) (λ weight is-weight.
    steps _ _ (get (codes "enforced") d) _ _ _ (reads_needed as_bool IsTruth finds_truth) (λ _. refl) (λ enforced is-enforced.
    whole_read _ _ _ (record { id = is-id; min = is-min; max = is-max; weight = is-weight; enforced = is-enforced }))))))

stream_again : (d : Data) (s : Stream) → IsStream s d → stream_at d ≡ Ok s
unfolding stream_at
stream_again d s is =
    rw (
      needed_again small_in IsSmall finds_small (get (codes "id") d) s.id is.id,
      needed_again whole_in IsWhole finds_whole (get (codes "min") d) s.min is.min,
      needed_again whole_in IsWhole finds_whole (get (codes "max") d) s.max is.max,
      needed_again small_in IsSmall finds_small (get (codes "weight") d) s.weight is.weight,
      needed_again as_bool IsTruth finds_truth (get (codes "enforced") d) s.enforced is.enforced,
    ) refl

pub reads_stream : IsReader stream_at IsStream
reads_stream = record { found = λ d s e. (stream_exact d).ok s e; again = stream_again; err = λ d r e. (stream_exact d).err r e }

-- ---- lists

module _ {A : Type 0} (read : Data → Result A ℕ) (P : A → Data → Type 0) (reader : IsReader read P) where
  items_exact : (ds : Items) → IsExact (items_at read ds) (λ xs. AreItems P xs ds) (λ k. k ≡ WRONG_VALUE)
  unfolding items_at
  items_exact no_items = whole_read _ _ _ tt
  items_exact (item d ds) =
      steps read P d _ _ _ reader (λ _. refl) (λ x is-x.
      more (items_at read ds) x is-x (items_exact ds)) where
        more : (r : Result (List A) ℕ) (x : A) → P x d → IsExact r (λ xs. AreItems P xs ds) (λ k. k ≡ WRONG_VALUE) → IsExact (r >>= λ xs. Ok (x ∷ xs)) (λ ys. AreItems P ys (item d ds)) (λ k. k ≡ WRONG_VALUE)
        more (Ok xs) x is-x exact = whole_read (x ∷ xs) _ _ (is-x, exact.ok xs refl)
        more (Err k) x is-x exact = record { ok = λ ys e. absurd cc; err = λ j e. (let is : j ≡ k = cc in is ∙ exact.err k refl) }

  items_again : (ds : Items) (xs : List A) → AreItems P xs ds → items_at read ds ≡ Ok xs
  unfolding items_at
  items_again no_items [] are = refl
  items_again (item d ds) [] are = absurd are
  items_again no_items (x ∷ xs) are = absurd are
  items_again (item d ds) (x ∷ xs) are = rw (reader.again d x are.0, items_again ds xs are.1) refl

  -- the list that is there, settled
  abbrev pub IsSettledList : Listed A → Option Data → Type 0
  IsSettledList l o = IsListed P l.items o × (l ≡ bare l.items)

  listed_ok : (r : Result (List A) ℕ) (l : Listed A) → listed r ≡ Ok l → (r ≡ Ok l.items) × (l ≡ bare l.items)
  listed_ok (Ok xs) l e =
      let is : bare xs ≡ l = ok_is (bare xs) l e in
      let items : xs ≡ l.items = ap (λ (m : Listed A). m.items) is in
      (ap (λ ys. Ok ys) items, sym is ∙ ap bare items)
  listed_ok (Err k) l e = absurd cc

  listed_err : (r : Result (List A) ℕ) (k : ℕ) → listed r ≡ Err k → r ≡ Err k
  listed_err (Ok xs) k e = absurd cc
  listed_err (Err j) k e = (let is : j ≡ k = cc in ap (λ q. Err q) is)

  array_found : (d : Data) (o : Option Items) (l : Listed A) → as_array d ≡ o → (or_reason WRONG_VALUE o >>= λ ds. listed (items_at read ds)) ≡ Ok l → IsSettledList l (Some d)
  array_found d None l is e = absurd cc
  array_found d (Some ds) l is e =
      let f = listed_ok (items_at read ds) l e in
      ((ds, array_is d ds is, (items_exact ds).ok l.items f.0), f.1) where
        array_is : (d : Data) (ds : Items) → as_array d ≡ Some ds → d ≡ array ds
        array_is null ds e = absurd cc
        array_is (boolean b) ds e = absurd cc
        array_is (number n) ds e = absurd cc
        array_is (string s) ds e = absurd cc
        array_is (array es) ds e = (let is : es ≡ ds = cc in ap (λ x. array x) is)
        array_is (object ms) ds e = absurd cc

  list_found : (o : Option Data) (l : Listed A) → list_at read o ≡ Ok l → IsSettledList l o
  list_found None l e = (let is : bare [] ≡ l = ok_is (bare []) l e in let items : [] ≡ l.items = ap (λ (m : Listed A). m.items) is in (sym items, sym is ∙ ap bare items))
  list_found (Some d) l e = array_found d (as_array d) l refl e

  pub list_again : (o : Option Data) (xs : List A) → IsListed P xs o → list_at read o ≡ Ok (bare xs)
  list_again None xs is = rw is refl
  list_again (Some d) xs is = rw (is.1, items_again is.0 xs is.2) refl

  array_err : (o : Option Items) (r : ℕ) → (or_reason WRONG_VALUE o >>= λ ds. listed (items_at read ds)) ≡ Err r → r ≡ WRONG_VALUE
  array_err None r e = cc
  array_err (Some ds) r e = (items_exact ds).err r (listed_err (items_at read ds) r e)

  list_err : (o : Option Data) (r : ℕ) → list_at read o ≡ Err r → r ≡ WRONG_VALUE
  list_err None r e = absurd cc
  list_err (Some d) r e = array_err (as_array d) r e

  pub reads_list : IsReader (list_at read) IsSettledList
  reads_list = record { found = list_found; again = λ o l is. list_again o l.items is.0 ∙ ap (λ m. Ok m) (sym is.1); err = list_err }
