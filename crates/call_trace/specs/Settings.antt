-- Which change of the settings a JSON text spells, and why another text spells none. Whole numbers are those that `serde_json` reads as such: without sign, point and exponent.
use Rattle.std.specs.Prelude.{◌≡◌, ◌≢◌, ℕ, ◌<◌, ◌^◌, ◌&&◌, ◌||◌, Bool, true, false, if◌then◌else◌, List, [], ◌∷◌, codes, Option, Some, None, is_some, option_and_then}
use Rattle.std.specs.Str.{is_utf8, bytes_eq}
use Rattle.serde_json.specs.Data.{unsigned, Data, null, boolean, number, string, array, object, Items, no_items, item, Members, no_members, member}
use Rattle.serde_json.specs.Read.{read}
use Rattle.serde_json.specs.Find.{get, get_member, as_array}
use Rattle.allocator.specs.declared.stream.Stream.{Stream}
use Rattle.send_core.specs.declared.call.Change.{Change}
use Rattle.call_trace.specs.declared.fault.TheConstants.{NO_OBJECT, WRONG_KEY, WRONG_VALUE}

-- the value that a text spells; what is not UTF-8 spells none
unfoldable pub json_of : List ℕ → Option Data
json_of text = if is_utf8 text then read text else None

-- ---- keys

abbrev pub setting_keys : List (List ℕ)
setting_keys =
    codes "start" ∷ codes "min" ∷ codes "max" ∷ codes "pacing_percent" ∷ codes "window" ∷ codes "padding_rate" ∷ codes "paced_audio" ∷ codes "extension_id" ∷ codes "probe" ∷ codes "streams" ∷ codes "removed" ∷ []

abbrev pub stream_keys : List (List ℕ)
stream_keys = codes "id" ∷ codes "min" ∷ codes "max" ∷ codes "weight" ∷ codes "enforced" ∷ []

abbrev pub is_among : List (List ℕ) → List ℕ → Bool
is_among [] key = false
is_among (name ∷ names) key = bytes_eq key name || is_among names key

-- each key is one of these
abbrev pub all_among : List (List ℕ) → Members → Bool
all_among names no_members = true
all_among names (member key d ms) = is_among names key && all_among names ms

-- each of these is a key
abbrev pub has_all : List (List ℕ) → Members → Bool
has_all [] ms = true
has_all (name ∷ names) ms = is_some (get_member name ms) && has_all names ms

-- an object has the keys of a stream and no other; what is no object is not looked at
abbrev pub fine_stream : Data → Bool
fine_stream null = true
fine_stream (boolean b) = true
fine_stream (number n) = true
fine_stream (string s) = true
fine_stream (array ds) = true
fine_stream (object ms) = has_all stream_keys ms && all_among stream_keys ms

abbrev pub fine_items : Items → Bool
fine_items no_items = true
fine_items (item d ds) = fine_stream d && fine_items ds

-- what is no list is not looked at
abbrev pub fine_list : Option Items → Bool
fine_list None = true
fine_list (Some ds) = fine_items ds

-- each key is one of a change, and each object in the list `streams` has the keys of a stream
abbrev pub fine_keys : Members → Bool
fine_keys ms = all_among setting_keys ms && fine_list (option_and_then as_array (get_member (codes "streams") ms))

-- ---- values

abbrev pub IsWhole : ℕ → Data → Type 0
IsWhole n d = d ≡ number (unsigned n)

abbrev pub IsSmall : ℕ → Data → Type 0
IsSmall n d = (n < 2 ^ 32) × (d ≡ number (unsigned n))

abbrev pub IsTruth : Bool → Data → Type 0
IsTruth b d = d ≡ boolean b

abbrev pub IsThere : {A : Type 0} → (A → Data → Type 0) → A → Option Data → Type 0
IsThere P x None = ⊥
IsThere P x (Some d) = P x d

-- both are there, or both are not
abbrev pub IsOptional : {A : Type 0} → (A → Data → Type 0) → Option A → Option Data → Type 0
IsOptional P None None = Unit {0}
IsOptional P None (Some d) = ⊥
IsOptional P (Some x) d = IsThere P x d

abbrev pub AreItems : {A : Type 0} → (A → Data → Type 0) → List A → Items → Type 0
AreItems P [] no_items = Unit {0}
AreItems P [] (item d ds) = ⊥
AreItems P (x ∷ xs) no_items = ⊥
AreItems P (x ∷ xs) (item d ds) = P x d × AreItems P xs ds

abbrev pub IsListOf : {A : Type 0} → (A → Data → Type 0) → List A → Data → Type 0
IsListOf P xs d = (ds : Items) × (d ≡ array ds) × AreItems P xs ds

-- a list that is not there is empty
abbrev pub IsListed : {A : Type 0} → (A → Data → Type 0) → List A → Option Data → Type 0
IsListed P xs None = xs ≡ []
IsListed P xs (Some d) = IsListOf P xs d

-- the id and the weight are below 2^32
pub record IsSmallStream (s : Stream) : Type 0 where
  pub id : s.id < 2 ^ 32
  pub weight : s.weight < 2 ^ 32

pub record IsStream (s : Stream) (d : Data) : Type 0 where
  pub id : IsThere IsSmall s.id (get (codes "id") d)
  pub min : IsThere IsWhole s.min (get (codes "min") d)
  pub max : IsThere IsWhole s.max (get (codes "max") d)
  pub weight : IsThere IsSmall s.weight (get (codes "weight") d)
  pub enforced : IsThere IsTruth s.enforced (get (codes "enforced") d)

-- the object with these members is this change
pub record IsChange (ms : Members) (change : Change) : Type 0 where
  pub keys : fine_keys ms ≡ true
  pub start : IsOptional IsWhole change.start (get_member (codes "start") ms)
  pub min : IsOptional IsWhole change.min (get_member (codes "min") ms)
  pub max : IsOptional IsWhole change.max (get_member (codes "max") ms)
  pub pacing_percent : IsOptional IsWhole change.pacing_percent (get_member (codes "pacing_percent") ms)
  pub window : IsOptional IsWhole change.window (get_member (codes "window") ms)
  pub padding_rate : IsOptional IsWhole change.padding_rate (get_member (codes "padding_rate") ms)
  pub paced_audio : IsOptional IsTruth change.paced_audio (get_member (codes "paced_audio") ms)
  pub extension_id : IsOptional IsWhole change.extension_id (get_member (codes "extension_id") ms)
  pub probe : IsOptional IsWhole change.probe (get_member (codes "probe") ms)
  pub streams : IsListed IsStream change.streams.items (get_member (codes "streams") ms)
  pub removed : IsListed IsSmall change.removed.items (get_member (codes "removed") ms)

-- the text is a JSON object, and the object this change
abbrev pub SpellsChange : List ℕ → Change → Type 0
SpellsChange text change = (ms : Members) × (json_of text ≡ Some (object ms)) × IsChange ms change

-- ---- texts that spell no change

pub data Kind : Type 0 where
  whole : Kind
  truth : Kind
  streams : Kind
  ids : Kind

-- what the value of a key of a change has to be
abbrev pub kind_of : List ℕ → Kind
kind_of key =
    if bytes_eq key (codes "paced_audio") then truth
    else if bytes_eq key (codes "streams") then streams
    else if bytes_eq key (codes "removed") then ids
    else whole

abbrev pub IsOfKind : Kind → Data → Type 0
IsOfKind whole d = (n : ℕ) × IsWhole n d
IsOfKind truth d = (b : Bool) × IsTruth b d
IsOfKind streams d = (ss : List Stream) × IsListOf IsStream ss d
IsOfKind ids d = (ns : List ℕ) × IsListOf IsSmall ns d

-- why a text spells no change
pub data IsNoChange (text : List ℕ) (reason : ℕ) : Type 0 where
  -- it is no JSON object
  no_object : ((ms : Members) → json_of text ≢ Some (object ms)) → reason ≡ NO_OBJECT → IsNoChange text reason
  -- it is one with a key that it may not have, or an object in its list of streams has not exactly the keys of a stream
  wrong_key : (ms : Members) → json_of text ≡ Some (object ms) → fine_keys ms ≡ false → reason ≡ WRONG_KEY → IsNoChange text reason
  -- it is one with none but right keys, and a value is not of its kind
  wrong_value : (ms : Members) (key : List ℕ) (d : Data) → json_of text ≡ Some (object ms) → fine_keys ms ≡ true → get_member key ms ≡ Some d → ¬ IsOfKind (kind_of key) d → reason ≡ WRONG_VALUE
      → IsNoChange text reason
