-- The JSON text of a change: it has no float, is not deep, and no line feed stands in it.
use Rattle.std.proofs.Common.{◌≡◌, ℕ, zero, suc, ◌/◌, ◌%◌, ◌≤◌, ◌<◌, ◌+◌, Bool, true, false, cond, ltb, eqb, ◌||◌, List, [], ◌∷◌, ◌++◌, map, Option, Some, None, refl, arith}
use Rattle.std.specs.Prelude.{codes, option_map}
use Rattle.std.specs.Fmt.{decimal, digits, digits_onto, digit_glyph}
use Rattle.std.proofs.lemmas.Bool.{ne_eqb}
use Rattle.serde_json.proofs.OnLiterals.{serde_json_on_literals}
use Rattle.serde_json.specs.Data.{Data, string, object, Items, Members, no_members, member, depth, items_depth, members_depth}
use Rattle.serde_json.specs.View.{items_of}
use Rattle.serde_json.specs.Written.{has_float, items_have_float, members_have_float, comma_if, compact_text, items_text, members_text}
use Rattle.allocator.specs.declared.stream.Stream.{Stream}
use Rattle.send_core.specs.declared.call.Change.{Change}
use Rattle.call_trace.specs.Fields.{is_byte}
use Rattle.call_trace.specs.Written.{whole_json, truth_json, list_json, stream_json, Setting, with_member, present, settings_of, change_json}
use Rattle.call_trace.proofs.Lines.{Lacks}

-- ---- bytes

pub Lacks-append : (mark : ℕ) (xs ys : List ℕ) → Lacks mark xs → Lacks mark ys → Lacks mark (xs ++ ys)
Lacks-append mark [] ys one other = other
Lacks-append mark (x ∷ xs) ys one other = (one.0, Lacks-append mark xs ys one.1 other)

glyph_lacks : (mark d : ℕ) → mark < 48 → is_byte mark (digit_glyph false d) ≡ false
glyph_lacks mark d low = ne_eqb (digit_glyph false d) mark (glyph_other (ltb d 10)) where
  glyph_other : (b : Bool) → cond b (48 + d) (87 + d) ≡ mark → ⊥
  glyph_other true e = omega (arith, e)
  glyph_other false e = omega (arith, e)

either_lacks : (mark : ℕ) (b : Bool) (xs ys : List ℕ) → Lacks mark xs → Lacks mark ys → Lacks mark (cond b xs ys)
either_lacks mark true xs ys one other = one
either_lacks mark false xs ys one other = other

onto_lacks : (mark k n : ℕ) (acc : List ℕ) → mark < 48 → Lacks mark acc → Lacks mark (digits_onto k 10 false n acc)
onto_lacks mark zero n acc low lacks = lacks
onto_lacks mark (suc k) n acc low lacks =
    let more : Lacks mark (digit_glyph false (n % 10) ∷ acc) = (glyph_lacks mark (n % 10) low, lacks) in
    either_lacks mark (eqb (n / 10) 0) _ _ more (onto_lacks mark k (n / 10) (digit_glyph false (n % 10) ∷ acc) low more)

-- the digits of any number
pub decimal_lacks : (mark n : ℕ) → mark < 48 → Lacks mark (decimal n)
unfolding digits
decimal_lacks mark n low = onto_lacks mark 64 n [] low tt

lacks_test : ℕ → List ℕ → Bool
lacks_test mark [] = true
lacks_test mark (x ∷ xs) = cond (is_byte mark x) false (lacks_test mark xs)

tested : (b c : Bool) → cond b false c ≡ true → (b ≡ false) × (c ≡ true)
tested true c e = absurd cc
tested false c e = (refl, e)

by_test : (mark : ℕ) (xs : List ℕ) → lacks_test mark xs ≡ true → Lacks mark xs
unfolding lacks_test
by_test mark [] e = tt
by_test mark (x ∷ xs) e = let t = tested (is_byte mark x) (lacks_test mark xs) e in (t.0, by_test mark xs t.1)

key_lacks : (key : List ℕ) → lacks_test 10 (compact_text (string key)) ≡ true → Lacks 10 (compact_text (string key))
key_lacks key test = by_test 10 (compact_text (string key)) test

-- ---- values

-- no float, nested no deeper than this, and without a line feed
pub record IsTidy (d : Data) (n : ℕ) : Type 0 where
  pub whole : has_float d ≡ false
  pub shallow : depth d ≤ n
  pub feedless : Lacks 10 (compact_text d)

tidy_whole : (n : ℕ) → IsTidy (whole_json n) 0
tidy_whole n = record { whole = refl; shallow = omega arith; feedless = decimal_lacks 10 n (omega arith) }

tidy_truth : (b : Bool) → IsTidy (truth_json b) 0
tidy_truth true = record { whole = refl; shallow = omega arith; feedless = (refl, (refl, (refl, (refl, tt)))) }
tidy_truth false = record { whole = refl; shallow = omega arith; feedless = (refl, (refl, (refl, (refl, (refl, tt))))) }

either_float : (b c : Bool) → b ≡ false → c ≡ false → (b || c) ≡ false
either_float true c one other = absurd cc
either_float false c one other = other

comma_lacks : (later : Bool) → Lacks 10 (comma_if later)
comma_lacks true = (refl, tt)
comma_lacks false = tt

record AreTidy (ds : Items) (n : ℕ) : Type 0 where
  whole : items_have_float ds ≡ false
  shallow : items_depth ds ≤ n
  feedless : (later : Bool) → Lacks 10 (items_text later ds)

tidy_items : {A : Type 0} (json : A → Data) (n : ℕ) (xs : List A) → ((x : A) → IsTidy (json x) n) → AreTidy (items_of (map json xs)) n
tidy_items json n [] each = record { whole = refl; shallow = omega arith; feedless = λ later. (refl, tt) }
tidy_items json n (x ∷ xs) each =
    let one = each x in
    let more = tidy_items json n xs each in
    record {
      whole = either_float (has_float (json x)) (items_have_float (items_of (map json xs))) one.whole more.whole;
      shallow = omega (arith, one.shallow, more.shallow);
      feedless = λ later. Lacks-append 10 (comma_if later) (compact_text (json x) ++ items_text true (items_of (map json xs))) (comma_lacks later)
          (Lacks-append 10 (compact_text (json x)) (items_text true (items_of (map json xs))) one.feedless (more.feedless true));
    }

-- a value that is not there is tidy too
abbrev IsTidyIf : Option Data → ℕ → Type 0
IsTidyIf None n = Unit {0}
IsTidyIf (Some d) n = IsTidy d n

tidy_optional : {A : Type 0} (json : A → Data) (n : ℕ) (o : Option A) → ((x : A) → IsTidy (json x) n) → IsTidyIf (option_map json o) n
tidy_optional json n None each = tt
tidy_optional json n (Some x) each = each x

tidy_list : {A : Type 0} (json : A → Data) (n : ℕ) (xs : List A) → ((x : A) → IsTidy (json x) n) → IsTidyIf (list_json json xs) (suc n)
tidy_list json n [] each = tt
tidy_list json n (x ∷ xs) each =
    let all = tidy_items json n (x ∷ xs) each in
    record { whole = all.whole; shallow = omega (arith, all.shallow); feedless = (refl, all.feedless false) }

-- the key's text has no line feed, and the value is tidy
record IsTidySetting (s : Setting) (n : ℕ) : Type 0 where
  key : Lacks 10 (compact_text (string s.0))
  value : IsTidyIf s.1 n

abbrev AreTidySettings : List Setting → ℕ → Type 0
AreTidySettings [] n = Unit {0}
AreTidySettings (s ∷ settings) n = IsTidySetting s n × AreTidySettings settings n

record AreTidyMembers (ms : Members) (n : ℕ) : Type 0 where
  whole : members_have_float ms ≡ false
  shallow : members_depth ms ≤ n
  feedless : (later : Bool) → Lacks 10 (members_text later ms)

tidy_member : (key : List ℕ) (d : Data) (ms : Members) (n : ℕ) → Lacks 10 (compact_text (string key)) → IsTidy d n → AreTidyMembers ms n → AreTidyMembers (member key d ms) n
tidy_member key d ms n lacks one more = record {
  whole = either_float (has_float d) (members_have_float ms) one.whole more.whole;
  shallow = omega (arith, one.shallow, more.shallow);
  feedless = λ later. Lacks-append 10 (comma_if later) (compact_text (string key) ++ 58 ∷ (compact_text d ++ members_text true ms)) (comma_lacks later)
      (Lacks-append 10 (compact_text (string key)) (58 ∷ (compact_text d ++ members_text true ms)) lacks (refl, Lacks-append 10 (compact_text d) (members_text true ms) one.feedless (more.feedless true)));
}

no_member : (n : ℕ) → AreTidyMembers no_members n
no_member n = record { whole = refl; shallow = omega arith; feedless = λ later. (refl, tt) }

tidy_by : (key : List ℕ) (o : Option Data) (ms : Members) (n : ℕ) → Lacks 10 (compact_text (string key)) → IsTidyIf o n → AreTidyMembers ms n → AreTidyMembers (with_member key o ms) n
tidy_by key None ms n lacks one more = more
tidy_by key (Some d) ms n lacks one more = tidy_member key d ms n lacks one more

tidy_present : (settings : List Setting) (n : ℕ) → AreTidySettings settings n → AreTidyMembers (present settings) n
tidy_present [] n all = no_member n
tidy_present (s ∷ settings) n all = tidy_by s.0 s.1 (present settings) n all.0.key all.0.value (tidy_present settings n all.1)

tidy_object : (ms : Members) (n : ℕ) → AreTidyMembers ms n → IsTidy (object ms) (suc n)
tidy_object ms n all = record { whole = all.whole; shallow = omega (arith, all.shallow); feedless = (refl, all.feedless false) }

tidy_stream : (s : Stream) → IsTidy (stream_json s) 1
unfolding lacks_test serde_json_on_literals
tidy_stream s =
    tidy_object _ 0
    (tidy_member (codes "enforced") _ _ 0 (key_lacks (codes "enforced") refl) (tidy_truth s.enforced)
    (tidy_member (codes "id") _ _ 0 (key_lacks (codes "id") refl) (tidy_whole s.id)
    (tidy_member (codes "max") _ _ 0 (key_lacks (codes "max") refl) (tidy_whole s.max)
    (tidy_member (codes "min") _ _ 0 (key_lacks (codes "min") refl) (tidy_whole s.min)
    (tidy_member (codes "weight") _ _ 0 (key_lacks (codes "weight") refl) (tidy_whole s.weight) (no_member 0))))))

deeper : (d : Data) (m n : ℕ) → m ≤ n → IsTidy d m → IsTidy d n
deeper d m n le tidy = record { whole = tidy.whole; shallow = omega (arith, tidy.shallow); feedless = tidy.feedless }

whole_2 : (o : Option ℕ) → IsTidyIf (option_map whole_json o) 2
whole_2 o = tidy_optional whole_json 2 o (λ n. deeper (whole_json n) 0 2 (omega arith) (tidy_whole n))

truth_2 : (o : Option Bool) → IsTidyIf (option_map truth_json o) 2
truth_2 o = tidy_optional truth_json 2 o (λ b. deeper (truth_json b) 0 2 (omega arith) (tidy_truth b))

tidy_settings : (change : Change) → AreTidySettings (settings_of change) 2
unfolding lacks_test serde_json_on_literals
tidy_settings change = (
  record { key = key_lacks (codes "extension_id") refl; value = whole_2 change.extension_id },
  (
    record { key = key_lacks (codes "max") refl; value = whole_2 change.max },
    (
      record { key = key_lacks (codes "min") refl; value = whole_2 change.min },
      (
        record { key = key_lacks (codes "paced_audio") refl; value = truth_2 change.paced_audio },
        (
          record { key = key_lacks (codes "pacing_percent") refl; value = whole_2 change.pacing_percent },
          (
            record { key = key_lacks (codes "padding_rate") refl; value = whole_2 change.padding_rate },
            (
              record { key = key_lacks (codes "probe") refl; value = whole_2 change.probe },
              (
                record { key = key_lacks (codes "removed") refl; value = tidy_list whole_json 1 change.removed.items (λ n. deeper (whole_json n) 0 1 (omega arith) (tidy_whole n)) },
                (
                  record { key = key_lacks (codes "start") refl; value = whole_2 change.start },
                  (
                    record { key = key_lacks (codes "streams") refl; value = tidy_list stream_json 1 change.streams.items tidy_stream },
                    (
                      record { key = key_lacks (codes "window") refl; value = whole_2 change.window },
                      tt,
                    ),
                  ),
                ),
              ),
            ),
          ),
        ),
      ),
    ),
  ),
)

pub tidy_change : (change : Change) → IsTidy (change_json change) 3
unfolding change_json
tidy_change change = tidy_object (present (settings_of change)) 2 (tidy_present (settings_of change) 2 (tidy_settings change))
