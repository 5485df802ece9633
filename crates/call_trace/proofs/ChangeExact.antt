-- A JSON text spells a change, or none for one reason, and reading tells which.
use Rattle.std.proofs.Common.{◌≡◌, ℕ, nat_cmp, Bool, true, false, ◌||◌, List, [], ◌∷◌, Option, Some, None, Result, Ok, Err, refl, sym, ap, ◌∙◌, subst, inl, inr}
use Rattle.std.specs.Prelude.{codes, ◌⊎◌, ◌≢◌, ⊤}
use Rattle.std.specs.declared.cmp.Ordering.{Ordering}
use Rattle.std.specs.declared.cmp.Ordering.TheVariants.{Less, Equal, Greater}
use Rattle.std.specs.Ordering.{match_ordering, is_eq}
use Rattle.std.specs.Cmp.Lexicographic.{slice_cmp}
use Rattle.std.specs.Str.{bytes_eq}
use Rattle.std.proofs.lemmas.Bool.{and_parts}
use Rattle.std.proofs.lemmas.Slice.Eq.{bytes_eq-Decides}
use Rattle.std.proofs.lemmas.Map.Text.{is_eq-slice_cmp}
use Rattle.serde_json.specs.Data.{Data, null, boolean, number, string, array, object, Members, no_members, member}
use Rattle.serde_json.specs.Find.{get_member, as_bool}
use Rattle.gcc_units.specs.Listed.{Listed, bare}
use Rattle.allocator.specs.declared.stream.Stream.{Stream}
use Rattle.send_core.specs.declared.call.Change.{Change}
use Rattle.call_trace.specs.declared.fault.TheConstants.{NO_OBJECT, WRONG_KEY, WRONG_VALUE}
use Rattle.call_trace.specs.Steps.{◌>>=◌, or_reason}
use Rattle.call_trace.specs.Plain.{settled_change}
use Rattle.call_trace.specs.Settings.{json_of, setting_keys, is_among, all_among, fine_keys, IsWhole, IsSmall, IsTruth, IsOptional, IsListOf, IsListed, IsStream, IsChange, SpellsChange, whole, truth, streams, ids, kind_of, IsOfKind, IsNoChange, no_object, wrong_key, wrong_value}
use Rattle.call_trace.specs.ChangeReading.{whole_in, id_at, stream_at, optional_at, checked, change_at, json_at, small_in}
use Rattle.call_trace.proofs.StepsTaken.{ok_is}
use Rattle.call_trace.proofs.Readers.{IsExact, steps, whole_read, IsReader, finds_whole, finds_truth, finds_small, reads_value, reads_optional, reads_stream, reads_list, list_again}

-- ---- the members

pub record IsReadChange (ms : Members) (change : Change) : Type 0 where
  pub is : IsChange ms change
  pub settled : change ≡ settled_change change

-- what is wrong with the members
pub data IsWrong (ms : Members) (reason : ℕ) : Type 0 where
  key : fine_keys ms ≡ false → reason ≡ WRONG_KEY → IsWrong ms reason
  value : (name : List ℕ) (d : Data) → fine_keys ms ≡ true → get_member name ms ≡ Some d → ¬ IsOfKind (kind_of name) d → reason ≡ WRONG_VALUE → IsWrong ms reason

guarded : {Y : Type 0} (b : Bool) (rest : ⊤ → Result Y ℕ) (Good : Y → Type 0) (Wrong : ℕ → Type 0) → (b ≡ false → Wrong WRONG_KEY) → (b ≡ true → IsExact (rest tt) Good Wrong) → IsExact (checked b >>= rest) Good Wrong
guarded true rest Good Wrong wrong others = others refl
guarded false rest Good Wrong wrong others = record { ok = λ y e. absurd cc; err = λ k e. (let is : k ≡ WRONG_KEY = cc in rw is (wrong refl)) }

missing : {A : Type 0} (P : A → Data → Type 0) (o : Option Data) → ((x : Option A) → IsOptional P x o → ⊥) → (d : Data) × (o ≡ Some d) × (((y : A) × P y d) → ⊥)
missing P None never = absurd (never None tt)
missing P (Some d) never = (d, refl, λ k. never (Some k.0) k.1)

missing_list : {A : Type 0} (P : A → Data → Type 0) (o : Option Data) → ((l : Listed A) → IsListed P l.items o × (l ≡ bare l.items) → ⊥) → (d : Data) × (o ≡ Some d) × (((xs : List A) × IsListOf P xs d) → ⊥)
missing_list P None never = absurd (never (bare []) (refl, refl))
missing_list P (Some d) never = (d, refl, λ k. never (bare k.0) (k.1, refl))

module _ (ms : Members) (name : List ℕ) (fine : fine_keys ms ≡ true) where
  no_whole : kind_of name ≡ whole → ((x : Option ℕ) → IsOptional IsWhole x (get_member name ms) → ⊥) → IsWrong ms WRONG_VALUE
  no_whole is never = let m = missing IsWhole (get_member name ms) never in value name m.0 fine m.1 (λ k. m.2 (rw is at k)) refl

  no_truth : kind_of name ≡ truth → ((x : Option Bool) → IsOptional IsTruth x (get_member name ms) → ⊥) → IsWrong ms WRONG_VALUE
  no_truth is never = let m = missing IsTruth (get_member name ms) never in value name m.0 fine m.1 (λ k. m.2 (rw is at k)) refl

  no_streams : kind_of name ≡ streams → ((l : Listed Stream) → IsListed IsStream l.items (get_member name ms) × (l ≡ bare l.items) → ⊥) → IsWrong ms WRONG_VALUE
  no_streams is never = let m = missing_list IsStream (get_member name ms) never in value name m.0 fine m.1 (λ k. m.2 (rw is at k)) refl

  no_ids : kind_of name ≡ ids → ((l : Listed ℕ) → IsListed IsSmall l.items (get_member name ms) × (l ≡ bare l.items) → ⊥) → IsWrong ms WRONG_VALUE
  no_ids is never = let m = missing_list IsSmall (get_member name ms) never in value name m.0 fine m.1 (λ k. m.2 (rw is at k)) refl

optional_whole : IsReader (optional_at whole_in) (IsOptional IsWhole)
optional_whole = reads_optional whole_in IsWhole finds_whole

optional_truth : IsReader (optional_at as_bool) (IsOptional IsTruth)
optional_truth = reads_optional as_bool IsTruth finds_truth

reads_id : IsReader id_at IsSmall
reads_id = reads_value small_in IsSmall finds_small

settles : (change : Change) → change.streams ≡ bare change.streams.items → change.removed ≡ bare change.removed.items → change ≡ settled_change change
settles change set gone =
    let streams-are : change ≡ record change { streams = bare change.streams.items } = ap (λ (l : Listed Stream). record change { streams = l }) set in
    let removed-are : record change { streams = bare change.streams.items } ≡ settled_change change = ap (λ (l : Listed ℕ). record change { streams = bare change.streams.items; removed = l }) gone in
    streams-are ∙ removed-are

pub change_exact : (ms : Members) → IsExact (change_at (object ms)) (IsReadChange ms) (IsWrong ms)
unfolding change_at
change_exact ms =
    guarded (fine_keys ms) _ _ _ (λ bad. key bad refl) (λ fine.
    steps _ _ (get_member (codes "start") ms) _ _ _ optional_whole (no_whole ms (codes "start") fine refl) (λ start is-start.
    steps _ _ (get_member (codes "min") ms) _ _ _ optional_whole (no_whole ms (codes "min") fine refl) (λ min is-min.
    steps _ _ (get_member (codes "max") ms) _ _ _ optional_whole (no_whole ms (codes "max") fine refl) (λ max is-max.
    steps _ _ (get_member (codes "pacing_percent") ms) _ _ _ optional_whole (no_whole ms (codes "pacing_percent") fine refl) (λ pacing_percent is-pacing_percent.
    steps _ _ (get_member (codes "window") ms) _ _ _ optional_whole (no_whole ms (codes "window") fine refl) (λ window is-window.
    steps _ _ (get_member (codes "padding_rate") ms) _ _ _ optional_whole (no_whole ms (codes "padding_rate") fine refl) (λ padding_rate is-padding_rate.
    steps _ _ (get_member (codes "paced_audio") ms) _ _ _ optional_truth (no_truth ms (codes "paced_audio") fine refl) (λ paced_audio is-paced_audio.
    steps _ _ (get_member (codes "extension_id") ms) _ _ _ optional_whole (no_whole ms (codes "extension_id") fine refl) (λ extension_id is-extension_id.
    steps _ _ (get_member (codes "probe") ms) _ _ _ optional_whole (no_whole ms (codes "probe") fine refl) (λ probe is-probe.
    steps _ _ (get_member (codes "streams") ms) _ _ _ (reads_list stream_at IsStream reads_stream) (no_streams ms (codes "streams") fine refl) (λ set is-streams.
    steps _ _ (get_member (codes "removed") ms) _ _ _ (reads_list id_at IsSmall reads_id) (no_ids ms (codes "removed") fine refl) (λ gone is-removed.
    whole_read _ _ _ (record {
      is = record {
        keys = fine;
        start = is-start;
        min = is-min;
        max = is-max;
        pacing_percent = is-pacing_percent;
        window = is-window;
        padding_rate = is-padding_rate;
        paced_audio = is-paced_audio;
        extension_id = is-extension_id;
        probe = is-probe;
        streams = is-streams.0;
        removed = is-removed.0;
      };
      settled = settles _ is-streams.1 is-removed.1;
    })))))))))))))

pub change_again : (ms : Members) (change : Change) → IsChange ms change → change_at (object ms) ≡ Ok (settled_change change)
unfolding change_at
change_again ms change is =
    rw (
      is.keys,
      optional_whole.again (get_member (codes "start") ms) change.start is.start,
      optional_whole.again (get_member (codes "min") ms) change.min is.min,
      optional_whole.again (get_member (codes "max") ms) change.max is.max,
      optional_whole.again (get_member (codes "pacing_percent") ms) change.pacing_percent is.pacing_percent,
      optional_whole.again (get_member (codes "window") ms) change.window is.window,
      optional_whole.again (get_member (codes "padding_rate") ms) change.padding_rate is.padding_rate,
      optional_truth.again (get_member (codes "paced_audio") ms) change.paced_audio is.paced_audio,
      optional_whole.again (get_member (codes "extension_id") ms) change.extension_id is.extension_id,
      optional_whole.again (get_member (codes "probe") ms) change.probe is.probe,
      list_again stream_at IsStream reads_stream (get_member (codes "streams") ms) change.streams.items is.streams,
      list_again id_at IsSmall reads_id (get_member (codes "removed") ms) change.removed.items is.removed,
    ) refl

-- ---- each value of a change is of its kind

each_among : (P : List ℕ → Type 0) → List (List ℕ) → Type 0
each_among P [] = Unit {0}
each_among P (name ∷ names) = P name × each_among P names

of_either : (b c : Bool) (P : Type 0) → (b || c) ≡ true → (b ≡ true → P) → (c ≡ true → P) → P
of_either true c P e one other = one refl
of_either false c P e one other = other e

from_among : (P : List ℕ → Type 0) (names : List (List ℕ)) (name : List ℕ) → each_among P names → is_among names name ≡ true → P name
unfolding each_among
from_among P [] name each among = absurd cc
from_among P (n ∷ names) name each among =
    of_either (bytes_eq name n) (is_among names name) (P name) among (λ same. subst P (sym ((bytes_eq-Decides name n).0 same)) each.0) (λ later. from_among P names name each.1 later)

found_at : (o : Ordering) (k l : List ℕ) (e d : Data) (rest : Option Data) → slice_cmp nat_cmp k l ≡ o → match_ordering o rest (Some e) rest ≡ Some d → (k ≡ l) ⊎ (rest ≡ Some d)
found_at Less k l e d rest is found = inr found
found_at Equal k l e d rest is found = inl ((bytes_eq-Decides k l).0 (sym (is_eq-slice_cmp k l) ∙ ap is_eq is))
found_at Greater k l e d rest is found = inr found

among_members : (names : List (List ℕ)) (ms : Members) (k : List ℕ) (d : Data) → all_among names ms ≡ true → get_member k ms ≡ Some d → is_among names k ≡ true
among_members names no_members k d all found = absurd cc
among_members names (member l e ms) k d all found =
    let a = and_parts (is_among names l) (all_among names ms) all in
    elim (found_at (slice_cmp nat_cmp k l) k l e d (get_member k ms) refl found) [
      | inl same ↦ rw same a.0
      | inr later ↦ among_members names ms k d a.1 later
    ]

whole_kind : (x : Option ℕ) (o : Option Data) (d : Data) → IsOptional IsWhole x o → o ≡ Some d → IsOfKind whole d
whole_kind None None d is e = absurd cc
whole_kind None (Some c) d is e = absurd is
whole_kind (Some n) None d is e = absurd is
whole_kind (Some n) (Some c) d is e = (let same : c ≡ d = cc in (n, rw (← same) is))

truth_kind : (x : Option Bool) (o : Option Data) (d : Data) → IsOptional IsTruth x o → o ≡ Some d → IsOfKind truth d
truth_kind None None d is e = absurd cc
truth_kind None (Some c) d is e = absurd is
truth_kind (Some n) None d is e = absurd is
truth_kind (Some n) (Some c) d is e = (let same : c ≡ d = cc in (n, rw (← same) is))

list_kind : {A : Type 0} (P : A → Data → Type 0) (xs : List A) (o : Option Data) (d : Data) → IsListed P xs o → o ≡ Some d → (ys : List A) × IsListOf P ys d
list_kind P xs None d is e = absurd cc
list_kind {A} P xs (Some c) d is e = (let same : c ≡ d = cc in (xs, subst (λ (v : Data). IsListOf P xs v) same is))

abbrev HasKind : Members → List ℕ → Type 0
HasKind ms name = (d : Data) → get_member name ms ≡ Some d → IsOfKind (kind_of name) d

kinds_hold : (ms : Members) (change : Change) → IsChange ms change → each_among (HasKind ms) setting_keys
unfolding each_among
kinds_hold ms change is = (
  λ d e. whole_kind change.start _ d is.start e,
  (
    λ d e. whole_kind change.min _ d is.min e,
    (
      λ d e. whole_kind change.max _ d is.max e,
      (
        λ d e. whole_kind change.pacing_percent _ d is.pacing_percent e,
        (
          λ d e. whole_kind change.window _ d is.window e,
          (
            λ d e. whole_kind change.padding_rate _ d is.padding_rate e,
            (
              λ d e. truth_kind change.paced_audio _ d is.paced_audio e,
              (
                λ d e. whole_kind change.extension_id _ d is.extension_id e,
                (
                  λ d e. whole_kind change.probe _ d is.probe e,
                  (
                    λ d e. list_kind IsStream change.streams.items _ d is.streams e,
                    (
                      λ d e. list_kind IsSmall change.removed.items _ d is.removed e,
                      tt,
                    ),
                  ),
                ),
              ),
            ),
          ),
        ),
      ),
    ),
  ),
)

kind_holds : (ms : Members) (change : Change) (name : List ℕ) (d : Data) → IsChange ms change → get_member name ms ≡ Some d → IsOfKind (kind_of name) d
kind_holds ms change name d is found =
    let known = and_parts (all_among setting_keys ms) _ is.keys in
    from_among (HasKind ms) setting_keys name (kinds_hold ms change is) (among_members setting_keys ms name d known.0 found) d found

-- ---- texts

data_found : (d : Data) (change : Change) → change_at d ≡ Ok change → (ms : Members) × (d ≡ object ms) × IsReadChange ms change
unfolding change_at
data_found null change e = absurd cc
data_found (boolean b) change e = absurd cc
data_found (number n) change e = absurd cc
data_found (string s) change e = absurd cc
data_found (array ds) change e = absurd cc
data_found (object ms) change e = (ms, refl, (change_exact ms).ok change e)

json_found_at : (text : List ℕ) (o : Option Data) (change : Change) → json_of text ≡ o → (or_reason NO_OBJECT o >>= change_at) ≡ Ok change → SpellsChange text change × (change ≡ settled_change change)
json_found_at text None change is e = absurd cc
json_found_at text (Some d) change is e =
    let f = data_found d change e in
    ((f.0, is ∙ ap (λ x. Some x) f.1, f.2.is), f.2.settled)

pub json_found : (text : List ℕ) (change : Change) → json_at text ≡ Ok change → SpellsChange text change × (change ≡ settled_change change)
json_found text change e = json_found_at text (json_of text) change refl e

pub json_again : (text : List ℕ) (change : Change) → SpellsChange text change → json_at text ≡ Ok (settled_change change)
json_again text change is = rw is.1 (change_again is.0 change is.2)

other_data : (text : List ℕ) (d : Data) → json_of text ≡ Some d → ((ms : Members) → d ≡ object ms → ⊥) → (ms : Members) → json_of text ≢ Some (object ms)
other_data text d is other ms e = other ms (let same = sym is ∙ e in cc)

data_err : (text : List ℕ) (d : Data) (r : ℕ) → json_of text ≡ Some d → change_at d ≡ Err r → IsNoChange text r
unfolding change_at
data_err text null r is e = no_object (other_data text null is (λ ms w. cc)) cc
data_err text (boolean b) r is e = no_object (other_data text (boolean b) is (λ ms w. cc)) cc
data_err text (number n) r is e = no_object (other_data text (number n) is (λ ms w. cc)) cc
data_err text (string s) r is e = no_object (other_data text (string s) is (λ ms w. cc)) cc
data_err text (array ds) r is e = no_object (other_data text (array ds) is (λ ms w. cc)) cc
data_err text (object ms) r is e = wrong_is ((change_exact ms).err r e) where
  wrong_is : IsWrong ms r → IsNoChange text r
  wrong_is (key bad reason) = wrong_key ms is bad reason
  wrong_is (value name d fine found bad reason) = wrong_value ms name d is fine found bad reason

json_err_at : (text : List ℕ) (o : Option Data) (r : ℕ) → json_of text ≡ o → (or_reason NO_OBJECT o >>= change_at) ≡ Err r → IsNoChange text r
json_err_at text None r is e = no_object (λ ms w. let wrong = sym is ∙ w in cc) cc
json_err_at text (Some d) r is e = data_err text d r is e

pub json_err : (text : List ℕ) (r : ℕ) → json_at text ≡ Err r → IsNoChange text r
json_err text r e = json_err_at text (json_of text) r refl e

no_data : (d : Data) → ((ms : Members) → d ≡ object ms → ⊥) → change_at d ≡ Err NO_OBJECT
unfolding change_at
no_data null other = refl
no_data (boolean b) other = refl
no_data (number n) other = refl
no_data (string s) other = refl
no_data (array ds) other = refl
no_data (object ms) other = absurd (other ms refl)

none_again : (text : List ℕ) (o : Option Data) → json_of text ≡ o → ((ms : Members) → json_of text ≢ Some (object ms)) → (or_reason NO_OBJECT o >>= change_at) ≡ Err NO_OBJECT
none_again text None is none = refl
none_again text (Some d) is none = no_data d (λ ms same. none ms (is ∙ ap (λ x. Some x) same))

wrong_key_again : (ms : Members) → fine_keys ms ≡ false → change_at (object ms) ≡ Err WRONG_KEY
unfolding change_at
wrong_key_again ms bad = rw bad refl

wrong_value_again : (ms : Members) (name : List ℕ) (d : Data) (r : Result Change ℕ) → change_at (object ms) ≡ r → fine_keys ms ≡ true → get_member name ms ≡ Some d → ¬ IsOfKind (kind_of name) d → r ≡ Err WRONG_VALUE
wrong_value_again ms name d (Ok change) is fine found bad = absurd (bad (kind_holds ms change name d ((change_exact ms).ok change is).is found))
wrong_value_again ms name d (Err k) is fine found bad = ap (λ q. Err q) (reason_is ((change_exact ms).err k is)) where
  reason_is : IsWrong ms k → k ≡ WRONG_VALUE
  reason_is (key wrong reason) = absurd (let both = sym fine ∙ wrong in cc)
  reason_is (value n e fine-too there wrong reason) = reason

pub json_err_again : (text : List ℕ) (r : ℕ) → IsNoChange text r → json_at text ≡ Err r
json_err_again text r (no_object none reason) = rw reason (none_again text (json_of text) refl none)
json_err_again text r (wrong_key ms is bad reason) = rw (reason, is) (wrong_key_again ms bad)
json_err_again text r (wrong_value ms name d is fine found bad reason) = rw (reason, is) (wrong_value_again ms name d (change_at (object ms)) refl fine found bad)

-- ---- a text spells at most one change, or it spells none for one reason

pub no_change_none : (text : List ℕ) (r : ℕ) (change : Change) → IsNoChange text r → SpellsChange text change → ⊥
no_change_none text r change none is = (let both = sym (json_err_again text r none) ∙ json_again text change is in cc)

pub no_change_one : (text : List ℕ) (r s : ℕ) → IsNoChange text r → IsNoChange text s → r ≡ s
no_change_one text r s one other = (let both = sym (json_err_again text r one) ∙ json_err_again text s other in cc)

pub change_one : (text : List ℕ) (a b : Change) → SpellsChange text a → SpellsChange text b → settled_change a ≡ settled_change b
change_one text a b one other = ok_is (settled_change a) (settled_change b) (sym (json_again text a one) ∙ json_again text b other)

change_or_none : (text : List ℕ) (read : Result Change ℕ) → json_at text ≡ read → ((change : Change) × SpellsChange text change) ⊎ ((reason : ℕ) × IsNoChange text reason)
change_or_none text (Ok change) is = inl (change, (json_found text change is).0)
change_or_none text (Err r) is = inr (r, json_err text r is)

pub change_or_reason : (text : List ℕ) → ((change : Change) × SpellsChange text change) ⊎ ((reason : ℕ) × IsNoChange text reason)
change_or_reason text = change_or_none text (json_at text) refl
