-- What is spelled so is read.
use Rattle.std.proofs.Common.{◌≡◌, ℕ, suc, ◌+◌, ◌^◌, ◌<◌, ◌≤◌, true, false, ltb, ◌&&◌, List, [], ◌∷◌, ◌++◌, length, map, Result, Ok, Err, refl, sym, ap, ◌∙◌, append_assoc, arith}
use Rattle.std.proofs.Math.Dec.{leb}
use Rattle.std.specs.Prelude.{codes, ◌≢◌}
use Rattle.std.specs.List.{flat_map, AllZip, AllByRecursion}
use Rattle.std.proofs.lemmas.List.Elements.{recursion_from_All}
use Rattle.std.specs.Fmt.{decimal}
use Rattle.std.proofs.lemmas.Bool.{lt-ltb, le-ltb, le-leb, and_from}
use Rattle.std.proofs.lemmas.List.{append-nil}
use Rattle.hex.proofs.HexLemmas.{decode_of-ok}
use Rattle.gcc_units.specs.declared.class.Class.{Class}
use Rattle.gcc_units.specs.declared.class.Class.TheVariants.{Audio, Retransmission, Video, Fec}
use Rattle.gcc_units.specs.declared.limits.TheConstants.{MOST_ACTORS}
use Rattle.gcc_units.specs.Listed.{bare}
use Rattle.send_core.specs.declared.call.Call.TheVariants.{Enqueue, Pace, Report, Configure}
use Rattle.call_trace.specs.declared.fault.TraceFault.{TraceFault}
use Rattle.call_trace.specs.declared.trace.Action.{Action}
use Rattle.call_trace.specs.declared.trace.Action.TheVariants.{Ask, Look}
use Rattle.call_trace.specs.declared.trace.Line.{Line}
use Rattle.send_core.specs.declared.call.Change.{Change}
use Rattle.call_trace.specs.Settings.{SpellsChange}
use Rattle.call_trace.specs.Plain.{Plain, settled_change, settled_action, settled_line, settled}
use Rattle.call_trace.specs.Fields.{IsLineText, fed, Cut, lines_of}
use Rattle.call_trace.specs.Steps.{◌>>=◌}
use Rattle.call_trace.specs.Reading.{actor_at, moment_at, class_at, hex_at, enqueue_at, pace_at, report_at, configure_at, glance_at, action_at, is_end, Actions, actions_at, header_at, lines_at, front_at, trace_at}
use Rattle.call_trace.specs.Grammar.{letter_of, IsHex, IsAction, IsLine, header, IsTrace}
use Rattle.call_trace.proofs.Lines.{Lacks, line_first}
use Rattle.call_trace.proofs.Numbers.{number_of-decimal, Lacks-decimal}
use Rattle.call_trace.proofs.ChangeExact.{json_again}
use Rattle.call_trace.proofs.Cutting.{Lacks-from_All}
use Rattle.call_trace.proofs.Parts.{field_of, behind_of}
use Rattle.call_trace.proofs.StepsTaken.{ok_is}

-- ---- fields

pub actor_again : (actors n : ℕ) → n < actors → n < 2 ^ 64 → actor_at actors (decimal n) ≡ Ok n
actor_again actors n low small = rw (number_of-decimal n small, lt-ltb n actors low) refl

pub moment_again : (at : ℕ) → at < 2 ^ 64 → moment_at (decimal at) ≡ Ok at
moment_again at small = rw (number_of-decimal at small) refl

pub class_again : (class : Class) → class_at (letter_of class) ≡ Ok class
class_again Audio = refl
class_again Retransmission = refl
class_again Video = refl
class_again Fec = refl

pub hex_again : (text bytes : List ℕ) → IsHex text bytes → hex_at text ≡ Ok (bare bytes)
hex_again [] bytes hex = absurd (omega (arith, hex.0, (decode_of-ok [] bytes hex.1).2))
hex_again (b ∷ text) bytes hex = rw hex.1 refl

Lacks-letter : (class : Class) → Lacks 32 (letter_of class)
Lacks-letter Audio = (refl, tt)
Lacks-letter Retransmission = (refl, tt)
Lacks-letter Video = (refl, tt)
Lacks-letter Fec = (refl, tt)

-- ---- lines

enqueue_again : (actors a at : ℕ) (class : Class) (hex bytes : List ℕ) → a < actors → a < 2 ^ 64 → at < 2 ^ 64 → IsHex hex bytes
    → enqueue_at actors (decimal a ++ 32 ∷ (decimal at ++ 32 ∷ (letter_of class ++ 32 ∷ hex))) ≡ Ok (record { actor = a; action = Ask (Enqueue at class (bare bytes)) })
unfolding enqueue_at
enqueue_again actors a at class hex bytes low few small is =
    let r2 = letter_of class ++ 32 ∷ hex in
    let r1 = decimal at ++ 32 ∷ r2 in
    let la = Lacks-decimal 32 a (omega arith) few in
    let lm = Lacks-decimal 32 at (omega arith) small in
    let lc = Lacks-letter class in
    rw (field_of (decimal a) r1 la, behind_of (decimal a) r1 la, field_of (decimal at) r2 lm, behind_of (decimal at) r2 lm, field_of (letter_of class) hex lc, behind_of (letter_of class) hex lc)
    (rw (actor_again actors a low few, moment_again at small, class_again class, hex_again hex bytes is) refl)

pace_again : (actors a at : ℕ) → a < actors → a < 2 ^ 64 → at < 2 ^ 64 → pace_at actors (decimal a ++ 32 ∷ decimal at) ≡ Ok (record { actor = a; action = Ask (Pace at) })
unfolding pace_at
pace_again actors a at low few small =
    let la = Lacks-decimal 32 a (omega arith) few in
    rw (field_of (decimal a) (decimal at) la, behind_of (decimal a) (decimal at) la) (rw (actor_again actors a low few, moment_again at small) refl)

report_again : (actors a at : ℕ) (hex bytes : List ℕ) → a < actors → a < 2 ^ 64 → at < 2 ^ 64 → IsHex hex bytes
    → report_at actors (decimal a ++ 32 ∷ (decimal at ++ 32 ∷ hex)) ≡ Ok (record { actor = a; action = Ask (Report at (bare bytes)) })
unfolding report_at
report_again actors a at hex bytes low few small is =
    let r1 = decimal at ++ 32 ∷ hex in
    let la = Lacks-decimal 32 a (omega arith) few in
    let lm = Lacks-decimal 32 at (omega arith) small in
    rw (field_of (decimal a) r1 la, behind_of (decimal a) r1 la, field_of (decimal at) hex lm, behind_of (decimal at) hex lm)
    (rw (actor_again actors a low few, moment_again at small, hex_again hex bytes is) refl)

configure_again : (actors a at : ℕ) (json : List ℕ) (change : Change) → a < actors → a < 2 ^ 64 → at < 2 ^ 64 → SpellsChange json change
    → configure_at actors (decimal a ++ 32 ∷ (decimal at ++ 32 ∷ json)) ≡ Ok (record { actor = a; action = Ask (Configure at (settled_change change)) })
unfolding configure_at
configure_again actors a at json change low few small is =
    let r1 = decimal at ++ 32 ∷ json in
    let la = Lacks-decimal 32 a (omega arith) few in
    let lm = Lacks-decimal 32 at (omega arith) small in
    rw (field_of (decimal a) r1 la, behind_of (decimal a) r1 la, field_of (decimal at) json lm, behind_of (decimal at) json lm)
    (rw (actor_again actors a low few, moment_again at small, json_again json change is) refl)

glance_again : (actors a : ℕ) → a < actors → a < 2 ^ 64 → glance_at actors (decimal a) ≡ Ok (record { actor = a; action = Look })
unfolding glance_at
glance_again actors a low few = rw (actor_again actors a low few) refl

told_again : (actors : ℕ) (text : List ℕ) (a : ℕ) (action : Action) → a < actors → a < 2 ^ 64 → IsAction text a action → action_at actors text ≡ Ok (record { actor = a; action = settled_action action })
unfolding action_at
told_again actors text a (Ask (Enqueue at class wire)) low few h = rw h.3 (enqueue_again actors a at class h.0 wire.items low few h.2 h.1)
told_again actors text a (Ask (Pace at)) low few h = rw h.1 (pace_again actors a at low few h.0)
told_again actors text a (Ask (Report at bytes)) low few h = rw h.3 (report_again actors a at h.0 bytes.items low few h.2 h.1)
told_again actors text a (Ask (Configure at change)) low few h = rw h.3 (configure_again actors a at h.0 change low few h.2 h.1)
told_again actors text a Look low few h = rw h (glance_again actors a low few)

pub action_again : (actors : ℕ) (text : List ℕ) (line : Line) → actors ≤ 2 ^ 32 → IsLine actors text line → action_at actors text ≡ Ok (settled_line line)
action_again actors text line few h = told_again actors text line.actor line.action h.0 (omega (arith, h.0)) h.1

-- a line of action is not the line `end`
told_other : (text : List ℕ) (a : ℕ) (action : Action) → IsAction text a action → is_end text ≡ false
told_other text a (Ask (Enqueue at class wire)) h = rw h.3 refl
told_other text a (Ask (Pace at)) h = rw h.1 refl
told_other text a (Ask (Report at bytes)) h = rw h.3 refl
told_other text a (Ask (Configure at change)) h = rw h.3 refl
told_other text a Look h = rw h refl

pub action_other : (actors : ℕ) (text : List ℕ) (line : Line) → IsLine actors text line → is_end text ≡ false
action_other actors text line h = told_other text line.actor line.action h.1

-- ---- no line feed stands in a line

feedless_header : (actors : ℕ) → actors < 2 ^ 64 → Lacks 10 (header actors)
feedless_header actors few = (refl, (refl, (refl, (refl, (refl, (refl, (refl, (refl, (refl, (refl, (refl, (refl, Lacks-decimal 10 actors (omega arith) few))))))))))))

-- ---- traces

pub fed_line : (text more : List ℕ) → Lacks 10 text → lines_of (fed text ++ more) ≡ record { whole = text ∷ (lines_of more).whole; rest = (lines_of more).rest }
fed_line text more lacks = ap lines_of (append_assoc text (10 ∷ []) more) ∙ line_first text more lacks

end_first : (back : List ℕ) → lines_of (fed (codes "end") ++ back) ≡ record { whole = codes "end" ∷ (lines_of back).whole; rest = (lines_of back).rest }
end_first back = fed_line (codes "end") back (refl, (refl, (refl, tt)))

fed_lines : (actors : ℕ) (texts : List (List ℕ)) (lines : List Line) (back : List ℕ) → AllByRecursion IsLineText texts → AllZip (IsLine actors) texts lines
    → lines_of (flat_map fed texts ++ (fed (codes "end") ++ back)) ≡ record { whole = texts ++ codes "end" ∷ (lines_of back).whole; rest = (lines_of back).rest }
fed_lines actors [] [] back whole h = end_first back
fed_lines actors [] (line ∷ lines) back whole h = absurd h
fed_lines actors (text ∷ texts) [] back whole h = absurd h
fed_lines actors (text ∷ texts) (line ∷ lines) back whole h =
    let lacks = Lacks-from_All text (recursion_from_All (λ b. b ≢ 10) text whole.0) in
    ap lines_of (append_assoc (fed text) (flat_map fed texts) (fed (codes "end") ++ back)) ∙ fed_line text (flat_map fed texts ++ (fed (codes "end") ++ back)) lacks
    ∙ rw (fed_lines actors texts lines back whole.1 h.1) refl

pub header_again : (actors : ℕ) → 0 < actors → actors ≤ MOST_ACTORS → header_at (header actors) ≡ Ok actors
unfolding header_at
header_again actors some few =
    let test : (leb 1 actors && leb actors MOST_ACTORS) ≡ true = and_from (leb 1 actors) (leb actors MOST_ACTORS) (le-leb 1 actors some) (le-leb actors MOST_ACTORS few) in
    rw (number_of-decimal actors (omega arith), test) refl

-- what lines of action give before those behind them
pub with_lines : List Line → Result Actions TraceFault → Result Actions TraceFault
with_lines front read = read >>= λ others. Ok (record { lines = front ++ others.lines; after = others.after })

with_lines-cons : (first : Line) (front : List Line) (read : Result Actions TraceFault)
    → (with_lines front read >>= λ others. Ok (record { lines = first ∷ others.lines; after = others.after })) ≡ with_lines (first ∷ front) read
unfolding with_lines
with_lines-cons first front (Ok others) = refl
with_lines-cons first front (Err f) = refl

with_lines-nil : (read : Result Actions TraceFault) → with_lines [] read ≡ read
unfolding with_lines
with_lines-nil (Ok others) = refl
with_lines-nil (Err f) = refl

pub with_lines-ok : (front : List Line) (after : List (List ℕ)) → with_lines front (Ok (record { lines = []; after = after })) ≡ Ok (record { lines = front; after = after })
unfolding with_lines
with_lines-ok front after = ap (λ (ls : List Line). Ok (let made : Actions = record { lines = ls; after = after } in made)) (append-nil front)

pub with_lines-err : (front : List Line) (f : TraceFault) → with_lines front (Err f) ≡ Err f
unfolding with_lines
with_lines-err front f = refl

pub actions_before : (most actors k j : ℕ) (before after : List (List ℕ)) (lines : List Line) → actors ≤ 2 ^ 32 → AllZip (IsLine actors) before lines → k + length before ≡ j → j ≤ most + 2
    → actions_at most actors k (before ++ after) ≡ with_lines (map settled_line lines) (actions_at most actors j after)
unfolding actions_at
actions_before most actors k j [] after [] few h is low = let same : k ≡ j = omega arith in rw same (sym (with_lines-nil (actions_at most actors j after)))
actions_before most actors k j [] after (line ∷ lines) few h is low = absurd h
actions_before most actors k j (text ∷ before) after [] few h is low = absurd h
actions_before most actors k j (text ∷ before) after (line ∷ lines) few h is low =
    let other = action_other actors text line h.0 in
    let inside : ltb (most + 1) k ≡ false = le-ltb (most + 1) k (omega arith) in
    let one = action_again actors text line few h.0 in
    let more = actions_before most actors (k + 1) j before after lines few h.1 (omega arith) low in
    rw (other, inside, one, more) (with_lines-cons (settled_line line) (map settled_line lines) (actions_at most actors j after))

last_line : (most actors k : ℕ) (after : List (List ℕ)) → actions_at most actors k (codes "end" ∷ after) ≡ Ok (record { lines = []; after = after })
unfolding actions_at
last_line most actors k after = refl

pub actions_whole : (most actors : ℕ) (before after : List (List ℕ)) (lines : List Line) → actors ≤ 2 ^ 32 → AllZip (IsLine actors) before lines → length before ≤ most
    → actions_at most actors 2 (before ++ codes "end" ∷ after) ≡ Ok (record { lines = map settled_line lines; after = after })
actions_whole most actors before after lines few h low =
    actions_before most actors 2 (2 + length before) before (codes "end" ∷ after) lines few h refl (omega arith)
    ∙ ap (with_lines (map settled_line lines)) (last_line most actors (2 + length before) after) ∙ with_lines-ok (map settled_line lines) after

pub trace_lines : (most actors : ℕ) (line : List ℕ) (whole : List (List ℕ)) (read : Actions) → header_at line ≡ Ok actors → actions_at most actors 2 whole ≡ Ok read
    → lines_at most (line ∷ whole) ≡ Ok (record { trace = record { actors = actors; lines = read.lines }; after = read.after })
unfolding lines_at
trace_lines most actors line whole read head is = rw (head, is) refl

pub length-zip : {A B : Type 0} (R : A → B → Type 0) (xs : List A) (ys : List B) → AllZip R xs ys → length xs ≡ length ys
length-zip R [] [] h = refl
length-zip R [] (y ∷ ys) h = absurd h
length-zip R (x ∷ xs) [] h = absurd h
length-zip R (x ∷ xs) (y ∷ ys) h = ap suc (length-zip R xs ys h.1)

-- the lines of bytes that begin with a trace
pub spelled_lines : (front back : List ℕ) (trace : Plain) (is : IsTrace front trace)
    → lines_of (front ++ back) ≡ record { whole = header trace.actors ∷ (is.texts ++ codes "end" ∷ (lines_of back).whole); rest = (lines_of back).rest }
spelled_lines front back trace h =
    let head = fed (header trace.actors) in
    let grouped : front ++ back ≡ head ++ (flat_map fed h.texts ++ (fed (codes "end") ++ back)) =
    ap (λ (t : List ℕ). t ++ back) h.spelled ∙ append_assoc head (flat_map fed h.texts ++ fed (codes "end")) back ∙ ap (λ (t : List ℕ). head ++ t) (append_assoc (flat_map fed h.texts) (fed (codes "end")) back) in
    ap lines_of grouped ∙ fed_line (header trace.actors) (flat_map fed h.texts ++ (fed (codes "end") ++ back)) (feedless_header trace.actors (omega (arith, h.few_actors)))
    ∙ rw (fed_lines trace.actors h.texts trace.lines back (recursion_from_All IsLineText h.texts h.feedless) h.actions) refl

pub front_again : (most : ℕ) (front back : List ℕ) (trace : Plain) → IsTrace front trace → length trace.lines ≤ most
    → front_at most (front ++ back) ≡ Ok (record { trace = settled trace; after = (lines_of back).whole })
front_again most front back trace h few =
    let count = length-zip (IsLine trace.actors) h.texts trace.lines h.actions in
    let read = actions_whole most trace.actors h.texts (lines_of back).whole trace.lines (omega (arith, h.few_actors)) h.actions (omega arith) in
    rw (spelled_lines front back trace h) (trace_lines most trace.actors (header trace.actors) (h.texts ++ codes "end" ∷ (lines_of back).whole) _ (header_again trace.actors h.some_actor h.few_actors) read)

nothing_behind : lines_of [] ≡ record { whole = []; rest = [] }
unfolding lines_of
nothing_behind = refl

pub trace_again : (most : ℕ) (bytes : List ℕ) (trace : Plain) → IsTrace bytes trace → length trace.lines ≤ most → trace_at most bytes ≡ Ok (settled trace)
trace_again most bytes trace h few =
    let same : bytes ++ [] ≡ bytes = append-nil bytes in
    let read : front_at most bytes ≡ Ok (record { trace = settled trace; after = [] }) = rw (same, nothing_behind) at (front_again most bytes [] trace h few) in
    let rest : (lines_of bytes).rest ≡ [] = (let cut = rw (same, nothing_behind) at (spelled_lines bytes [] trace h) in ap (λ (c : Cut). c.rest) cut) in
    rw (read, rest) refl

-- the reading tells which trace it is, whatever is the most that may be read
pub trace_one : (bytes : List ℕ) (a b : Plain) → IsTrace bytes a → IsTrace bytes b → settled a ≡ settled b
trace_one bytes a b is-a is-b =
    let most = length a.lines + length b.lines in
    let one = trace_again most bytes a is-a (omega arith) in
    let other = trace_again most bytes b is-b (omega arith) in
    ok_is (settled a) (settled b) (sym one ∙ other)
