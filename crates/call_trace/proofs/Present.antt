-- The members of a change that are there, in their order and by their keys.
use Rattle.std.proofs.Common.{◌≡◌, ℕ, ◌<◌, ◌^◌, nat_cmp, Bool, true, false, cond, ◌&&◌, List, [], ◌∷◌, map, drop, Option, Some, None, refl, sym, ap, subst, ◌∙◌}
use Rattle.std.specs.Prelude.{codes, not, option_map, option_and_then}
use Rattle.std.specs.List.{All, AllByRecursion}
use Rattle.std.specs.declared.cmp.Ordering.{Ordering}
use Rattle.std.specs.declared.cmp.Ordering.TheVariants.{Less, Equal, Greater}
use Rattle.std.specs.Ordering.{match_ordering, is_eq, is_lt}
use Rattle.std.specs.Cmp.Lexicographic.{slice_cmp}
use Rattle.std.specs.Str.{bytes_eq}
use Rattle.std.proofs.lemmas.Bool.{and_parts, and_from}
use Rattle.std.proofs.lemmas.List.Elements.{recursion_from_All}
use Rattle.std.proofs.lemmas.Slice.Eq.{bytes_eq-Decides}
use Rattle.std.proofs.lemmas.Map.Text.{is_eq-slice_cmp}
use Rattle.serde_json.specs.Data.{Data, Members, no_members, member, put}
use Rattle.serde_json.specs.Find.{get_member, as_array}
use Rattle.serde_json.specs.View.{items_of}
use Rattle.allocator.specs.declared.stream.Stream.{Stream}
use Rattle.send_core.specs.declared.call.Change.{Change}
use Rattle.call_trace.specs.Settings.{setting_keys, is_among, all_among, fine_items, fine_list, IsWhole, IsSmall, IsTruth, IsOptional, AreItems, IsListed, IsSmallStream, IsStream, IsChange}
use Rattle.call_trace.specs.Written.{whole_json, truth_json, list_json, stream_json, Setting, with_member, present, put_if, settings_of}

-- ---- one in front of those behind it

-- the key is less than each of these
abbrev pub is_below : List ℕ → List Setting → Bool
is_below key [] = true
is_below key (s ∷ settings) = is_lt (slice_cmp nat_cmp key s.0) && is_below key settings

less_is : (o : Ordering) → is_lt o ≡ true → o ≡ Less
less_is Less e = refl
less_is Equal e = absurd cc
less_is Greater e = absurd cc

front_by : (key name : List ℕ) (d : Data) (o : Option Data) (ms : Members) → is_lt (slice_cmp nat_cmp key name) ≡ true → put key d ms ≡ member key d ms → put key d (with_member name o ms) ≡ member key d (with_member name o ms)
front_by key name d None ms less more = more
front_by key name d (Some e) ms less more = rw (less_is (slice_cmp nat_cmp key name) less) refl

put_front : (key : List ℕ) (d : Data) (settings : List Setting) → is_below key settings ≡ true → put key d (present settings) ≡ member key d (present settings)
put_front key d [] below = refl
put_front key d (s ∷ settings) below =
    let parts = and_parts (is_lt (slice_cmp nat_cmp key s.0)) (is_below key settings) below in
    front_by key s.0 d s.1 (present settings) parts.0 (put_front key d settings parts.1)

put_if_front : (key : List ℕ) (o : Option Data) (settings : List Setting) → is_below key settings ≡ true → put_if key o (present settings) ≡ present ((key, o) ∷ settings)
put_if_front key None settings below = refl
put_if_front key (Some d) settings below = put_front key d settings below

-- one more was put in
pub put_next : (key : List ℕ) (o : Option Data) (settings : List Setting) (old new : Members) → is_below key settings ≡ true → old ≡ present settings → new ≡ put_if key o old → new ≡ present ((key, o) ∷ settings)
put_next key o settings old new below was is = is ∙ ap (put_if key o) was ∙ put_if_front key o settings below

pub put_is : (key : List ℕ) (o same : Option Data) (old new : Members) → new ≡ put_if key o old → o ≡ same → new ≡ put_if key same old
put_is key o same old new is equal = is ∙ ap (λ (x : Option Data). put_if key x old) equal

-- ---- by keys

abbrev pub is_absent : List ℕ → List Setting → Bool
is_absent key [] = true
is_absent key (s ∷ settings) = not (bytes_eq key s.0) && is_absent key settings

abbrev pub are_apart : List Setting → Bool
are_apart [] = true
are_apart (s ∷ settings) = is_absent s.0 settings && are_apart settings

abbrev pub found_in : List ℕ → List Setting → Option Data
found_in key [] = None
found_in key (s ∷ settings) = cond (bytes_eq key s.0) s.1 (found_in key settings)

not_is : (b : Bool) → not b ≡ true → b ≡ false
not_is true e = absurd cc
not_is false e = refl

skips : (o : Ordering) (d : Data) (rest : Option Data) → is_eq o ≡ false → match_ordering o rest (Some d) rest ≡ rest
skips Less d rest e = refl
skips Equal d rest e = absurd cc
skips Greater d rest e = refl

takes : (o : Ordering) (d : Data) (rest : Option Data) → is_eq o ≡ true → match_ordering o rest (Some d) rest ≡ Some d
takes Less d rest e = absurd cc
takes Equal d rest e = refl
takes Greater d rest e = absurd cc

absent_by : (key name : List ℕ) (o : Option Data) (ms : Members) → bytes_eq key name ≡ false → get_member key ms ≡ None → get_member key (with_member name o ms) ≡ None
absent_by key name None ms other none = none
absent_by key name (Some d) ms other none = skips (slice_cmp nat_cmp key name) d (get_member key ms) (is_eq-slice_cmp key name ∙ other) ∙ none

absent_none : (key : List ℕ) (settings : List Setting) → is_absent key settings ≡ true → get_member key (present settings) ≡ None
absent_none key [] absent = refl
absent_none key (s ∷ settings) absent =
    let parts = and_parts (not (bytes_eq key s.0)) (is_absent key settings) absent in
    absent_by key s.0 s.1 (present settings) (not_is (bytes_eq key s.0) parts.0) (absent_none key settings parts.1)

get_by : (key name : List ℕ) (b : Bool) (o found : Option Data) (ms : Members) → bytes_eq key name ≡ b → (key ≡ name → get_member key ms ≡ None) → get_member key ms ≡ found → get_member key (with_member name o ms) ≡ cond b o found
get_by key name true None found ms same none more = none ((bytes_eq-Decides key name).0 same)
get_by key name true (Some d) found ms same none more = takes (slice_cmp nat_cmp key name) d (get_member key ms) (is_eq-slice_cmp key name ∙ same)
get_by key name false None found ms other none more = more
get_by key name false (Some d) found ms other none more = skips (slice_cmp nat_cmp key name) d (get_member key ms) (is_eq-slice_cmp key name ∙ other) ∙ more

pub get_present : (key : List ℕ) (settings : List Setting) → are_apart settings ≡ true → get_member key (present settings) ≡ found_in key settings
get_present key [] apart = refl
get_present key (s ∷ settings) apart =
    let parts = and_parts (is_absent s.0 settings) (are_apart settings) apart in
    get_by key s.0 (bytes_eq key s.0) s.1 (found_in key settings) (present settings) refl (λ same. absent_none key settings (rw same parts.0)) (get_present key settings parts.1)

-- each of the keys is among these
abbrev pub are_among : List (List ℕ) → List Setting → Bool
are_among names [] = true
are_among names (s ∷ settings) = is_among names s.0 && are_among names settings

all_by : (names : List (List ℕ)) (name : List ℕ) (o : Option Data) (ms : Members) → is_among names name ≡ true → all_among names ms ≡ true → all_among names (with_member name o ms) ≡ true
all_by names name None ms one more = more
all_by names name (Some d) ms one more = and_from (is_among names name) (all_among names ms) one more

all_present : (names : List (List ℕ)) (settings : List Setting) → are_among names settings ≡ true → all_among names (present settings) ≡ true
all_present names [] among = refl
all_present names (s ∷ settings) among =
    let parts = and_parts (is_among names s.0) (are_among names settings) among in
    all_by names s.0 s.1 (present settings) parts.0 (all_present names settings parts.1)

-- ---- the change

fine_streams : (ss : List Stream) → fine_items (items_of (map stream_json ss)) ≡ true
fine_streams [] = refl
fine_streams (s ∷ ss) = fine_streams ss

optional_whole : (o : Option ℕ) → IsOptional IsWhole o (option_map whole_json o)
optional_whole None = tt
optional_whole (Some n) = refl

optional_truth : (o : Option Bool) → IsOptional IsTruth o (option_map truth_json o)
optional_truth None = tt
optional_truth (Some b) = refl

stream_is : (s : Stream) → IsSmallStream s → IsStream s (stream_json s)
stream_is s small = record { id = (small.id, refl); min = refl; max = refl; weight = (small.weight, refl); enforced = refl }

streams_are : (ss : List Stream) → AllByRecursion IsSmallStream ss → AreItems IsStream ss (items_of (map stream_json ss))
streams_are [] small = tt
streams_are (s ∷ ss) small = (stream_is s small.0, streams_are ss small.1)

ids_are : (ns : List ℕ) → AllByRecursion (λ n. n < 2 ^ 32) ns → AreItems IsSmall ns (items_of (map whole_json ns))
ids_are [] small = tt
ids_are (n ∷ ns) small = ((small.0, refl), ids_are ns small.1)

listed_streams : (ss : List Stream) → AllByRecursion IsSmallStream ss → IsListed IsStream ss (list_json stream_json ss)
listed_streams [] small = refl
listed_streams (s ∷ ss) small = (items_of (map stream_json (s ∷ ss)), refl, streams_are (s ∷ ss) small)

listed_ids : (ns : List ℕ) → AllByRecursion (λ n. n < 2 ^ 32) ns → IsListed IsSmall ns (list_json whole_json ns)
listed_ids [] small = refl
listed_ids (n ∷ ns) small = (items_of (map whole_json (n ∷ ns)), refl, ids_are (n ∷ ns) small)

fine_listed : (ss : List Stream) → fine_list (option_and_then as_array (list_json stream_json ss)) ≡ true
fine_listed [] = refl
fine_listed (s ∷ ss) = fine_streams (s ∷ ss)

-- a fact of the value at a key of the change
at_key : (change : Change) (key : List ℕ) (o : Option Data) (P : Option Data → Type 0) → found_in key (settings_of change) ≡ o → P o → P (get_member key (present (settings_of change)))
at_key change key o P is holds = subst P (sym (get_present key (settings_of change) refl ∙ is)) holds

pub change_is : (change : Change) → All IsSmallStream change.streams.items → All (λ n. n < 2 ^ 32) change.removed.items → IsChange (present (settings_of change)) change
change_is change small low = record {
  keys = and_from (all_among setting_keys (present (settings_of change))) _ (all_present setting_keys (settings_of change) refl)
      (at_key change (codes "streams") _ (λ o. fine_list (option_and_then as_array o) ≡ true) refl (fine_listed change.streams.items));
  start = at_key change (codes "start") _ (λ o. IsOptional IsWhole change.start o) refl (optional_whole change.start);
  min = at_key change (codes "min") _ (λ o. IsOptional IsWhole change.min o) refl (optional_whole change.min);
  max = at_key change (codes "max") _ (λ o. IsOptional IsWhole change.max o) refl (optional_whole change.max);
  pacing_percent = at_key change (codes "pacing_percent") _ (λ o. IsOptional IsWhole change.pacing_percent o) refl (optional_whole change.pacing_percent);
  window = at_key change (codes "window") _ (λ o. IsOptional IsWhole change.window o) refl (optional_whole change.window);
  padding_rate = at_key change (codes "padding_rate") _ (λ o. IsOptional IsWhole change.padding_rate o) refl (optional_whole change.padding_rate);
  paced_audio = at_key change (codes "paced_audio") _ (λ o. IsOptional IsTruth change.paced_audio o) refl (optional_truth change.paced_audio);
  extension_id = at_key change (codes "extension_id") _ (λ o. IsOptional IsWhole change.extension_id o) refl (optional_whole change.extension_id);
  probe = at_key change (codes "probe") _ (λ o. IsOptional IsWhole change.probe o) refl (optional_whole change.probe);
  streams = at_key change (codes "streams") _ (λ o. IsListed IsStream change.streams.items o) refl (listed_streams change.streams.items (recursion_from_All IsSmallStream change.streams.items small));
  removed = at_key change (codes "removed") _ (λ o. IsListed IsSmall change.removed.items o) refl (listed_ids change.removed.items (recursion_from_All (λ n. n < 2 ^ 32) change.removed.items low));
}

-- the members after each was put in, from the last key to the first
pub built : (change : Change) (m0 m1 m2 m3 m4 m5 m6 m7 m8 m9 m10 m11 : Members) → m0 ≡ no_members
    → m1 ≡ put_if (codes "window") (option_map whole_json change.window) m0
    → m2 ≡ put_if (codes "streams") (list_json stream_json change.streams.items) m1
    → m3 ≡ put_if (codes "start") (option_map whole_json change.start) m2
    → m4 ≡ put_if (codes "removed") (list_json whole_json change.removed.items) m3
    → m5 ≡ put_if (codes "probe") (option_map whole_json change.probe) m4
    → m6 ≡ put_if (codes "padding_rate") (option_map whole_json change.padding_rate) m5
    → m7 ≡ put_if (codes "pacing_percent") (option_map whole_json change.pacing_percent) m6
    → m8 ≡ put_if (codes "paced_audio") (option_map truth_json change.paced_audio) m7
    → m9 ≡ put_if (codes "min") (option_map whole_json change.min) m8
    → m10 ≡ put_if (codes "max") (option_map whole_json change.max) m9
    → m11 ≡ put_if (codes "extension_id") (option_map whole_json change.extension_id) m10
    → m11 ≡ present (settings_of change)
built change m0 m1 m2 m3 m4 m5 m6 m7 m8 m9 m10 m11 e0 e1 e2 e3 e4 e5 e6 e7 e8 e9 e10 e11 =
    let from = λ (n : ℕ). drop n (settings_of change) in
    let f1 = put_next _ _ (from 11) m0 m1 refl e0 e1 in
    let f2 = put_next _ _ (from 10) m1 m2 refl f1 e2 in
    let f3 = put_next _ _ (from 9) m2 m3 refl f2 e3 in
    let f4 = put_next _ _ (from 8) m3 m4 refl f3 e4 in
    let f5 = put_next _ _ (from 7) m4 m5 refl f4 e5 in
    let f6 = put_next _ _ (from 6) m5 m6 refl f5 e6 in
    let f7 = put_next _ _ (from 5) m6 m7 refl f6 e7 in
    let f8 = put_next _ _ (from 4) m7 m8 refl f7 e8 in
    let f9 = put_next _ _ (from 3) m8 m9 refl f8 e9 in
    let f10 = put_next _ _ (from 2) m9 m10 refl f9 e10 in
    put_next _ _ (from 1) m10 m11 refl f10 e11
