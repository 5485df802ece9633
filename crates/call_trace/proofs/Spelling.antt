-- What is written of an action spells it, in one line.
use Rattle.std.proofs.Common.{◌≡◌, ℕ, ◌<◌, ◌^◌, true, List, [], ◌∷◌, ◌++◌, ◌+◌, length, get_or, map, take, Ok, refl, sym, ap, ◌∙◌, append_assoc, arith}
use Rattle.std.specs.Prelude.{◌≢◌, codes}
use Rattle.std.specs.List.{flat_map, All, AllByRecursion, AllZip}
use Rattle.std.proofs.lemmas.List.{map-append, take_more, append-nil}
use Rattle.std.proofs.lemmas.Grind.{flat_map-append}
use Rattle.serde_json.specs.Data.{Members}
use Rattle.std.specs.Fmt.{decimal}
use Rattle.std.proofs.lemmas.Bool.{ne_eqb}
use Rattle.std.proofs.lemmas.List.Elements.{All-from_recursion, recursion_from_All}
use Rattle.hex.specs.Hex.{encode_lower, decode_of, is_hex_digit}
use Rattle.hex.proofs.HexLemmas.{decode_of-ok}
use Rattle.serde_json.specs.Written.{compact_text}
use Rattle.gcc_units.specs.declared.class.Class.{Class}
use Rattle.gcc_units.specs.declared.class.Class.TheVariants.{Audio, Retransmission, Video, Fec}
use Rattle.gcc_units.specs.Listed.{Listed}
use Rattle.send_core.specs.declared.call.Call.TheVariants.{Enqueue, Pace, Report, Configure}
use Rattle.send_core.specs.declared.call.Change.{Change}
use Rattle.call_trace.specs.declared.trace.Action.TheVariants.{Ask, Look}
use Rattle.call_trace.specs.Fields.{IsLineText, fed}
use Rattle.call_trace.specs.declared.trace.Action.{Action}
use Rattle.call_trace.specs.declared.trace.Line.{Line}
use Rattle.call_trace.specs.Plain.{Plain, settled_change, settled_action, settled_line, settled, FitsLine, Fits}
use Rattle.call_trace.specs.Settings.{IsChange, SpellsChange}
use Rattle.call_trace.specs.Grammar.{letter_of, IsAction, IsLine, header, IsTrace}
use Rattle.call_trace.specs.Written.{change_json, line_text, IsSpelled, trace_text}
use Rattle.call_trace.proofs.Lines.{Lacks, Lacks-from_each}
use Rattle.call_trace.proofs.Cutting.{All-from_Lacks, Lacks-from_All}
use Rattle.call_trace.proofs.Compact.{Lacks-append, decimal_lacks}

-- ---- no line feed

feedless_letter : (class : Class) → Lacks 10 (letter_of class)
feedless_letter Audio = (refl, tt)
feedless_letter Retransmission = (refl, tt)
feedless_letter Video = (refl, tt)
feedless_letter Fec = (refl, tt)

feed_is_no_digit : (b : ℕ) → is_hex_digit b ≡ true → b ≡ 10 → ⊥
feed_is_no_digit b digit is = let wrong = rw is at digit in cc

feedless_hex : (text bytes : List ℕ) → decode_of text ≡ Ok bytes → Lacks 10 text
feedless_hex text bytes is = Lacks-from_each 10 text (λ k lt. ne_eqb (get_or text k 0) 10 (feed_is_no_digit (get_or text k 0) ((decode_of-ok text bytes is).1 k 0 lt)))

-- a field, a space, and what stands behind it
and_field : (field rest : List ℕ) → Lacks 10 field → Lacks 10 rest → Lacks 10 (field ++ 32 ∷ rest)
and_field field rest one more = Lacks-append 10 field (32 ∷ rest) one (refl, more)

feedless_number : (n : ℕ) → Lacks 10 (decimal n)
feedless_number n = decimal_lacks 10 n (omega arith)

one_line : (text : List ℕ) → Lacks 10 text → IsLineText text
one_line text lacks = All-from_recursion (λ b. b ≢ 10) text (All-from_Lacks text lacks)

line_lacks : (text : List ℕ) → IsLineText text → Lacks 10 text
line_lacks text line = Lacks-from_All text (recursion_from_All (λ b. b ≢ 10) text line)

-- the items that a slice shows
pub reads_items : (shown items : List ℕ) → shown ≡ items → decode_of (encode_lower shown) ≡ Ok shown → decode_of (encode_lower items) ≡ Ok items
reads_items shown items is back = rw is at back

-- ---- actions

pub enqueue_spelled : (actor at : ℕ) (class : Class) (wire : Listed ℕ) → at < 2 ^ 64 → 0 < length wire.items → decode_of (encode_lower wire.items) ≡ Ok wire.items → IsSpelled actor (Ask (Enqueue at class wire))
enqueue_spelled actor at class wire small some back =
    let hex = encode_lower wire.items in
    let lacks = feedless_hex hex wire.items back in
    let behind_class = and_field (letter_of class) hex (feedless_letter class) lacks in
    let behind_at = and_field (decimal at) (letter_of class ++ 32 ∷ hex) (feedless_number at) behind_class in
    let behind_actor = and_field (decimal actor) (decimal at ++ 32 ∷ (letter_of class ++ 32 ∷ hex)) (feedless_number actor) behind_at in
    record { spelled = (hex, (some, back), small, refl); feedless = one_line (69 ∷ 32 ∷ (decimal actor ++ 32 ∷ (decimal at ++ 32 ∷ (letter_of class ++ 32 ∷ hex)))) (refl, (refl, behind_actor)) }

pub pace_spelled : (actor at : ℕ) → at < 2 ^ 64 → IsSpelled actor (Ask (Pace at))
pace_spelled actor at small =
    let behind_actor = and_field (decimal actor) (decimal at) (feedless_number actor) (feedless_number at) in
    record { spelled = (small, refl); feedless = one_line (80 ∷ 32 ∷ (decimal actor ++ 32 ∷ decimal at)) (refl, (refl, behind_actor)) }

pub report_spelled : (actor at : ℕ) (bytes : Listed ℕ) → at < 2 ^ 64 → 0 < length bytes.items → decode_of (encode_lower bytes.items) ≡ Ok bytes.items → IsSpelled actor (Ask (Report at bytes))
report_spelled actor at bytes small some back =
    let hex = encode_lower bytes.items in
    let behind_at = and_field (decimal at) hex (feedless_number at) (feedless_hex hex bytes.items back) in
    let behind_actor = and_field (decimal actor) (decimal at ++ 32 ∷ hex) (feedless_number actor) behind_at in
    record { spelled = (hex, (some, back), small, refl); feedless = one_line (82 ∷ 32 ∷ (decimal actor ++ 32 ∷ (decimal at ++ 32 ∷ hex))) (refl, (refl, behind_actor)) }

pub configure_spelled : (actor at : ℕ) (change : Change) → at < 2 ^ 64 → SpellsChange (compact_text (change_json change)) change → IsLineText (compact_text (change_json change)) → IsSpelled actor (Ask (Configure at change))
configure_spelled actor at change small spells line =
    let json = compact_text (change_json change) in
    let behind_at = and_field (decimal at) json (feedless_number at) (line_lacks json line) in
    let behind_actor = and_field (decimal actor) (decimal at ++ 32 ∷ json) (feedless_number actor) behind_at in
    record { spelled = (json, spells, small, refl); feedless = one_line (67 ∷ 32 ∷ (decimal actor ++ 32 ∷ (decimal at ++ 32 ∷ json))) (refl, (refl, behind_actor)) }

pub glance_spelled : (actor : ℕ) → IsSpelled actor Look
glance_spelled actor = record { spelled = refl; feedless = one_line (71 ∷ 32 ∷ decimal actor) (refl, (refl, feedless_number actor)) }

-- ---- lines

flat_map_one : (texts : List (List ℕ)) (text : List ℕ) → flat_map fed (texts ++ text ∷ []) ≡ flat_map fed texts ++ fed text
flat_map_one texts text = flat_map-append fed texts (text ∷ []) ∙ ap (λ (t : List ℕ). flat_map fed texts ++ t) (append-nil (fed text))

pub lines_pushed : (before old middle new text : List ℕ) (lines : List Line) (i : ℕ) (line : Line) → old ≡ before ++ flat_map fed (map line_text (take i lines)) → middle ≡ old ++ text → new ≡ middle ++ 10 ∷ [] → text ≡ line_text line
    → line ≡ get_or lines i line → i < length lines → new ≡ before ++ flat_map fed (map line_text (take (i + 1) lines))
lines_pushed before old middle new text lines i line was one feed is at low =
    let next : take (i + 1) lines ≡ take i lines ++ line ∷ [] = take_more lines i line low ∙ ap (λ (l : Line). take i lines ++ l ∷ []) (sym at) in
    let done = flat_map fed (map line_text (take i lines)) in
    let texts : map line_text (take (i + 1) lines) ≡ map line_text (take i lines) ++ line_text line ∷ [] = ap (map line_text) next ∙ map-append line_text (take i lines) (line ∷ []) in
    let all : flat_map fed (map line_text (take (i + 1) lines)) ≡ done ++ fed (line_text line) = ap (flat_map fed) texts ∙ flat_map_one (map line_text (take i lines)) (line_text line) in
    let joined : new ≡ (before ++ done) ++ fed (line_text line) =
    feed ∙ ap (λ (t : List ℕ). t ++ 10 ∷ []) (one ∙ ap (λ (t : List ℕ). old ++ t) is) ∙ append_assoc old (line_text line) (10 ∷ []) ∙ ap (λ (t : List ℕ). t ++ fed (line_text line)) was in
    joined ∙ append_assoc before done (fed (line_text line)) ∙ ap (λ (t : List ℕ). before ++ t) (sym all)

-- ---- traces

settled_is : (ms : Members) (change : Change) → IsChange ms change → IsChange ms (settled_change change)
settled_is ms change is = record {
  keys = is.keys;
  start = is.start;
  min = is.min;
  max = is.max;
  pacing_percent = is.pacing_percent;
  window = is.window;
  padding_rate = is.padding_rate;
  paced_audio = is.paced_audio;
  extension_id = is.extension_id;
  probe = is.probe;
  streams = is.streams;
  removed = is.removed;
}

settled_spelled : (text : List ℕ) (actor : ℕ) (action : Action) → IsAction text actor action → IsAction text actor (settled_action action)
settled_spelled text actor (Ask (Enqueue at class wire)) is = is
settled_spelled text actor (Ask (Pace at)) is = is
settled_spelled text actor (Ask (Report at bytes)) is = is
settled_spelled text actor (Ask (Configure at change)) is = (is.0, (is.1.0, is.1.1, settled_is is.1.0 change is.1.2), is.2, is.3)
settled_spelled text actor Look is = is

abbrev IsSpelledLine : Line → Type 0
IsSpelledLine line = IsSpelled line.actor line.action

lines_spelled : (actors : ℕ) (lines : List Line) → AllByRecursion (FitsLine actors) lines → AllByRecursion IsSpelledLine lines → AllZip (IsLine actors) (map line_text lines) (map settled_line lines)
lines_spelled actors [] fits spelled = tt
lines_spelled actors (line ∷ lines) fits spelled = ((fits.0.actor, settled_spelled (line_text line) line.actor line.action spelled.0.spelled), lines_spelled actors lines fits.1 spelled.1)

lines_feedless : (lines : List Line) → AllByRecursion IsSpelledLine lines → AllByRecursion IsLineText (map line_text lines)
lines_feedless [] spelled = tt
lines_feedless (line ∷ lines) spelled = (spelled.0.feedless, lines_feedless lines spelled.1)

pub trace_spelled : (trace : Plain) → Fits trace → All IsSpelledLine trace.lines → IsTrace (trace_text trace) (settled trace)
unfolding trace_text
trace_spelled trace fits spelled =
    let each = recursion_from_All IsSpelledLine trace.lines spelled in
    record {
      some_actor = fits.some_actor;
      few_actors = fits.few_actors;
      texts = map line_text trace.lines;
      feedless = All-from_recursion IsLineText (map line_text trace.lines) (lines_feedless trace.lines each);
      actions = lines_spelled trace.actors trace.lines (recursion_from_All (FitsLine trace.actors) trace.lines fits.each) each;
      spelled = refl;
    }

-- the whole text
pub whole_text : (trace : Plain) (title lines whole : List ℕ) → title ≡ fed (header trace.actors) → lines ≡ title ++ flat_map fed (map line_text trace.lines) → whole ≡ lines ++ fed (codes "end") → whole ≡ trace_text trace
unfolding trace_text
whole_text trace title lines whole head middle end =
    end ∙ ap (λ (t : List ℕ). t ++ fed (codes "end")) (middle ∙ ap (λ (t : List ℕ). t ++ flat_map fed (map line_text trace.lines)) head)
    ∙ append_assoc (fed (header trace.actors)) (flat_map fed (map line_text trace.lines)) (fed (codes "end"))
