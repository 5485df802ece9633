-- What is read is spelled so, and each of its lists is settled.
use Rattle.std.proofs.Common.{◌≡◌, ℕ, ◌*◌, ◌^◌, ◌<◌, ◌≤◌, true, eqb, ltb, List, [], ◌∷◌, ◌++◌, length, Result, Ok, Err, refl, sym, ap, subst, ◌∙◌, arith, inl, inr, length-append}
use Rattle.std.specs.Fmt.{decimal}
use Rattle.std.proofs.lemmas.Bool.{eqb-true, ltb-true}
use Rattle.std.proofs.lemmas.Fmt.{decimal_nonempty}
use Rattle.hex.specs.declared.error.FromHexError.{FromHexError}
use Rattle.hex.specs.Hex.{decode_of}
use Rattle.hex.proofs.HexLemmas.{decode_of-ok}
use Rattle.gcc_units.specs.declared.class.Class.{Class}
use Rattle.gcc_units.specs.declared.class.Class.TheVariants.{Audio, Retransmission, Video, Fec}
use Rattle.gcc_units.specs.Listed.{Listed, bare}
use Rattle.send_core.specs.declared.call.Call.TheVariants.{Enqueue, Pace, Report, Configure}
use Rattle.call_trace.specs.declared.fault.TheConstants.{NO_ACTOR, NO_VERB, NO_MOMENT}
use Rattle.call_trace.specs.declared.trace.Action.TheVariants.{Ask, Look}
use Rattle.call_trace.specs.declared.trace.Line.{Line}
use Rattle.send_core.specs.declared.call.Change.{Change}
use Rattle.call_trace.specs.Plain.{settled_change, settled_line, HasBytes}
use Rattle.call_trace.specs.Fields.{field, behind, number_of}
use Rattle.call_trace.specs.Steps.{◌>>=◌, or_reason}
use Rattle.call_trace.specs.Reading.{below, actor_at, moment_at, class_of, class_at, decoded, hex_at, enqueue_at, pace_at, report_at, configure_at, glance_at, verb_at, fields_at, action_at}
use Rattle.call_trace.specs.Grammar.{letter_of, IsHex, IsLine}
use Rattle.call_trace.specs.ChangeReading.{json_at}
use Rattle.call_trace.proofs.StepsTaken.{bind_ok, done, ok_is, or_reason_ok, guard_ok, pick}
use Rattle.call_trace.proofs.Json.{json_some}
use Rattle.call_trace.proofs.ChangeExact.{json_found}
use Rattle.call_trace.proofs.Numbers.{number_spells}
use Rattle.call_trace.proofs.Parts.{parts}

-- ---- fields

pub actor_found : (actors : ℕ) (text : List ℕ) (n : ℕ) → actor_at actors text ≡ Ok n → (text ≡ decimal n) × (n < actors)
actor_found actors text n e =
    let b = bind_ok (or_reason NO_ACTOR (number_of text)) (below actors) n e in
    let g = guard_ok (ltb b.0 actors) b.0 n NO_ACTOR b.2 in
    let spelled = number_spells text b.0 (or_reason_ok NO_ACTOR (number_of text) b.0 b.1) in
    let low : b.0 < actors = ltb-true b.0 actors g.0 in
    (spelled.0 ∙ ap decimal g.1, rw (← g.1) low)

pub moment_found : (text : List ℕ) (at : ℕ) → moment_at text ≡ Ok at → (text ≡ decimal at) × (at < 2 ^ 64)
moment_found text at e = number_spells text at (or_reason_ok NO_MOMENT (number_of text) at e)

letter_is : (letter code : ℕ) (known class : Class) → code ∷ [] ≡ letter_of known → eqb letter code ≡ true → done {A = Class} {E = ℕ} known ≡ done class → letter ∷ [] ≡ letter_of class
letter_is letter code known class spelled test is = ap (λ l. l ∷ []) (eqb-true letter code test) ∙ spelled ∙ ap letter_of (ok_is known class is)

letter_found : (letter : ℕ) (class : Class) → class_of letter ≡ Ok class → letter ∷ [] ≡ letter_of class
letter_found letter class e =
    elim (pick (eqb letter 97) _ _ class e) [
      | inl a ↦ letter_is letter 97 Audio class refl a.0 a.1
      | inr others ↦
          elim (pick (eqb letter 114) _ _ class others) [
            | inl r ↦ letter_is letter 114 Retransmission class refl r.0 r.1
            | inr more ↦
                elim (pick (eqb letter 118) _ _ class more) [
                  | inl v ↦ letter_is letter 118 Video class refl v.0 v.1
                  | inr last ↦ let f = guard_ok (eqb letter 102) Fec class NO_VERB last in letter_is letter 102 Fec class refl f.0 (ap (λ c. Ok c) f.1)
                ]
          ]
    ]

pub class_found : (text : List ℕ) (class : Class) → class_at text ≡ Ok class → text ≡ letter_of class
class_found [] class e = absurd cc
class_found (letter ∷ []) class e = letter_found letter class e
class_found (a ∷ b ∷ more) class e = absurd cc

decoded_ok : (r : Result (List ℕ) FromHexError) (wire : Listed ℕ) → decoded r ≡ Ok wire → (r ≡ Ok wire.items) × (wire ≡ bare wire.items)
decoded_ok (Ok bytes) wire e =
    let is : bare bytes ≡ wire = ok_is (bare bytes) wire e in
    let items : bytes ≡ wire.items = ap (λ (l : Listed ℕ). l.items) is in
    (ap (λ b. Ok b) items, sym is ∙ ap bare items)
decoded_ok (Err d) wire e = absurd cc

pub hex_found : (text : List ℕ) (wire : Listed ℕ) → hex_at text ≡ Ok wire → IsHex text wire.items × (wire ≡ bare wire.items) × (0 < length text)
hex_found [] wire e = absurd cc
hex_found (b ∷ text) wire e =
    let d = decoded_ok (decode_of (b ∷ text)) wire e in
    let size : length (b ∷ text) ≡ 2 * length wire.items = (decode_of-ok (b ∷ text) wire.items d.0).2 in
    ((omega arith, d.0), d.1, omega arith)

-- ---- lines

pub record IsRead (actors : ℕ) (text : List ℕ) (line : Line) : Type 0 where
  pub spelled : IsLine actors text line
  pub settled : line ≡ settled_line line
  pub bytes : HasBytes line.action

moved : (actors : ℕ) (text : List ℕ) (made line : Line) → made ≡ line → IsRead actors text made → IsRead actors text line
moved actors text made line is read = subst (λ (l : Line). IsRead actors text l) {x = made} is read

-- a line of action is its verb, a space, and some bytes
abbrev pub IsReadBehind : ℕ → List ℕ → List ℕ → Line → Type 0
IsReadBehind actors verb rest line = (0 < length rest) × IsRead actors (verb ++ 32 ∷ rest) line

settles : (actor at : ℕ) (class : Class) (wire : Listed ℕ) → wire ≡ bare wire.items
    → (let line : Line = record { actor = actor; action = Ask (Enqueue at class wire) } in line ≡ settled_line line)
settles actor at class wire is = ap (λ (l : Listed ℕ). let line : Line = record { actor = actor; action = Ask (Enqueue at class l) } in line) {x = wire} {y = bare wire.items} is

enqueue_found : (actors : ℕ) (rest : List ℕ) (line : Line) → enqueue_at actors rest ≡ Ok line → IsReadBehind actors (69 ∷ []) rest line
unfolding enqueue_at
enqueue_found actors rest line e =
    let r1 = behind rest in
    let r2 = behind r1 in
    let hex = behind r2 in
    let a = bind_ok (actor_at actors (field rest)) (λ actor. moment_at (field r1) >>= λ at. class_at (field r2) >>= λ class. hex_at hex >>= λ wire. Ok (record { actor = actor; action = Ask (Enqueue at class wire) })) line e in
    let m = bind_ok (moment_at (field r1)) (λ at. class_at (field r2) >>= λ class. hex_at hex >>= λ wire. Ok (record { actor = a.0; action = Ask (Enqueue at class wire) })) line a.2 in
    let c = bind_ok (class_at (field r2)) (λ class. hex_at hex >>= λ wire. Ok (record { actor = a.0; action = Ask (Enqueue m.0 class wire) })) line m.2 in
    let w = bind_ok (hex_at hex) (λ wire. Ok (record { actor = a.0; action = Ask (Enqueue m.0 c.0 wire) })) line c.2 in
    let actor = actor_found actors (field rest) a.0 a.1 in
    let moment = moment_found (field r1) m.0 m.1 in
    let class = class_found (field r2) c.0 c.1 in
    let wire = hex_found hex w.0 w.1 in
    let made : Line = record { actor = a.0; action = Ask (Enqueue m.0 c.0 w.0) } in
    let p2 : r2 ≡ letter_of c.0 ++ 32 ∷ hex = parts r2 (letter_of c.0) hex class refl wire.2 in
    let some2 : 0 < length r2 = omega (arith, ap length p2, length-append (letter_of c.0) (32 ∷ hex)) in
    let p1 : r1 ≡ decimal m.0 ++ 32 ∷ r2 = parts r1 (decimal m.0) r2 moment.0 refl some2 in
    let some1 : 0 < length r1 = omega (arith, ap length p1, length-append (decimal m.0) (32 ∷ r2)) in
    let p0 : rest ≡ decimal a.0 ++ 32 ∷ r1 = parts rest (decimal a.0) r1 actor.0 refl some1 in
    let some0 : 0 < length rest = omega (arith, ap length p0, length-append (decimal a.0) (32 ∷ r1)) in
    let text : rest ≡ decimal a.0 ++ 32 ∷ (decimal m.0 ++ 32 ∷ (letter_of c.0 ++ 32 ∷ hex)) = p0 ∙ ap (λ (t : List ℕ). decimal a.0 ++ 32 ∷ t) (p1 ∙ ap (λ (t : List ℕ). decimal m.0 ++ 32 ∷ t) p2) in
    let read : IsRead actors (69 ∷ 32 ∷ rest) made = record {
      spelled = (actor.1, (hex, wire.0, moment.1, ap (λ (t : List ℕ). 69 ∷ 32 ∷ t) text));
      settled = settles a.0 m.0 c.0 w.0 wire.1;
      bytes = wire.0.0;
    } in
    (some0, moved actors (69 ∷ 32 ∷ rest) made line (ok_is made line w.2) read)

pace_found : (actors : ℕ) (rest : List ℕ) (line : Line) → pace_at actors rest ≡ Ok line → IsReadBehind actors (80 ∷ []) rest line
unfolding pace_at
pace_found actors rest line e =
    let r1 = behind rest in
    let a = bind_ok (actor_at actors (field rest)) (λ actor. moment_at r1 >>= λ at. Ok (record { actor = actor; action = Ask (Pace at) })) line e in
    let m = bind_ok (moment_at r1) (λ at. Ok (record { actor = a.0; action = Ask (Pace at) })) line a.2 in
    let actor = actor_found actors (field rest) a.0 a.1 in
    let moment = moment_found r1 m.0 m.1 in
    let made : Line = record { actor = a.0; action = Ask (Pace m.0) } in
    let some1 : 0 < length r1 = rw moment.0 (decimal_nonempty m.0 moment.1) in
    let p0 : rest ≡ decimal a.0 ++ 32 ∷ r1 = parts rest (decimal a.0) r1 actor.0 refl some1 in
    let some0 : 0 < length rest = omega (arith, ap length p0, length-append (decimal a.0) (32 ∷ r1)) in
    let read : IsRead actors (80 ∷ 32 ∷ rest) made = record {
      spelled = (actor.1, (moment.1, ap (λ (t : List ℕ). 80 ∷ 32 ∷ t) (p0 ∙ ap (λ (t : List ℕ). decimal a.0 ++ 32 ∷ t) moment.0)));
      settled = refl;
      bytes = tt;
    } in
    (some0, moved actors (80 ∷ 32 ∷ rest) made line (ok_is made line m.2) read)

settles_report : (actor at : ℕ) (bytes : Listed ℕ) → bytes ≡ bare bytes.items
    → (let line : Line = record { actor = actor; action = Ask (Report at bytes) } in line ≡ settled_line line)
settles_report actor at bytes is = ap (λ (l : Listed ℕ). let line : Line = record { actor = actor; action = Ask (Report at l) } in line) {x = bytes} {y = bare bytes.items} is

report_found : (actors : ℕ) (rest : List ℕ) (line : Line) → report_at actors rest ≡ Ok line → IsReadBehind actors (82 ∷ []) rest line
unfolding report_at
report_found actors rest line e =
    let r1 = behind rest in
    let hex = behind r1 in
    let a = bind_ok (actor_at actors (field rest)) (λ actor. moment_at (field r1) >>= λ at. hex_at hex >>= λ bytes. Ok (record { actor = actor; action = Ask (Report at bytes) })) line e in
    let m = bind_ok (moment_at (field r1)) (λ at. hex_at hex >>= λ bytes. Ok (record { actor = a.0; action = Ask (Report at bytes) })) line a.2 in
    let w = bind_ok (hex_at hex) (λ bytes. Ok (record { actor = a.0; action = Ask (Report m.0 bytes) })) line m.2 in
    let actor = actor_found actors (field rest) a.0 a.1 in
    let moment = moment_found (field r1) m.0 m.1 in
    let bytes = hex_found hex w.0 w.1 in
    let made : Line = record { actor = a.0; action = Ask (Report m.0 w.0) } in
    let p1 : r1 ≡ decimal m.0 ++ 32 ∷ hex = parts r1 (decimal m.0) hex moment.0 refl bytes.2 in
    let some1 : 0 < length r1 = omega (arith, ap length p1, length-append (decimal m.0) (32 ∷ hex)) in
    let p0 : rest ≡ decimal a.0 ++ 32 ∷ r1 = parts rest (decimal a.0) r1 actor.0 refl some1 in
    let some0 : 0 < length rest = omega (arith, ap length p0, length-append (decimal a.0) (32 ∷ r1)) in
    let text : rest ≡ decimal a.0 ++ 32 ∷ (decimal m.0 ++ 32 ∷ hex) = p0 ∙ ap (λ (t : List ℕ). decimal a.0 ++ 32 ∷ t) p1 in
    let read : IsRead actors (82 ∷ 32 ∷ rest) made = record {
      spelled = (actor.1, (hex, bytes.0, moment.1, ap (λ (t : List ℕ). 82 ∷ 32 ∷ t) text));
      settled = settles_report a.0 m.0 w.0 bytes.1;
      bytes = bytes.0.0;
    } in
    (some0, moved actors (82 ∷ 32 ∷ rest) made line (ok_is made line w.2) read)

settles_configure : (actor at : ℕ) (change : Change) → change ≡ settled_change change
    → (let line : Line = record { actor = actor; action = Ask (Configure at change) } in line ≡ settled_line line)
settles_configure actor at change is = ap (λ (c : Change). let line : Line = record { actor = actor; action = Ask (Configure at c) } in line) {x = change} {y = settled_change change} is

configure_found : (actors : ℕ) (rest : List ℕ) (line : Line) → configure_at actors rest ≡ Ok line → IsReadBehind actors (67 ∷ []) rest line
unfolding configure_at
configure_found actors rest line e =
    let r1 = behind rest in
    let json = behind r1 in
    let a = bind_ok (actor_at actors (field rest)) (λ actor. moment_at (field r1) >>= λ at. json_at json >>= λ change. Ok (record { actor = actor; action = Ask (Configure at change) })) line e in
    let m = bind_ok (moment_at (field r1)) (λ at. json_at json >>= λ change. Ok (record { actor = a.0; action = Ask (Configure at change) })) line a.2 in
    let w = bind_ok (json_at json) (λ change. Ok (record { actor = a.0; action = Ask (Configure m.0 change) })) line m.2 in
    let actor = actor_found actors (field rest) a.0 a.1 in
    let moment = moment_found (field r1) m.0 m.1 in
    let change = json_found json w.0 w.1 in
    let made : Line = record { actor = a.0; action = Ask (Configure m.0 w.0) } in
    let p1 : r1 ≡ decimal m.0 ++ 32 ∷ json = parts r1 (decimal m.0) json moment.0 refl (json_some json w.0 change.0) in
    let some1 : 0 < length r1 = omega (arith, ap length p1, length-append (decimal m.0) (32 ∷ json)) in
    let p0 : rest ≡ decimal a.0 ++ 32 ∷ r1 = parts rest (decimal a.0) r1 actor.0 refl some1 in
    let some0 : 0 < length rest = omega (arith, ap length p0, length-append (decimal a.0) (32 ∷ r1)) in
    let text : rest ≡ decimal a.0 ++ 32 ∷ (decimal m.0 ++ 32 ∷ json) = p0 ∙ ap (λ (t : List ℕ). decimal a.0 ++ 32 ∷ t) p1 in
    let read : IsRead actors (67 ∷ 32 ∷ rest) made = record {
      spelled = (actor.1, (json, change.0, moment.1, ap (λ (t : List ℕ). 67 ∷ 32 ∷ t) text));
      settled = settles_configure a.0 m.0 w.0 change.1;
      bytes = tt;
    } in
    (some0, moved actors (67 ∷ 32 ∷ rest) made line (ok_is made line w.2) read)

glance_found : (actors : ℕ) (rest : List ℕ) (line : Line) → actors ≤ 2 ^ 32 → glance_at actors rest ≡ Ok line → IsReadBehind actors (71 ∷ []) rest line
unfolding glance_at
glance_found actors rest line few e =
    let a = bind_ok (actor_at actors rest) (λ actor. Ok (record { actor = actor; action = Look })) line e in
    let actor = actor_found actors rest a.0 a.1 in
    let made : Line = record { actor = a.0; action = Look } in
    let some0 : 0 < length rest = rw actor.0 (decimal_nonempty a.0 (omega (arith, actor.1))) in
    let read : IsRead actors (71 ∷ 32 ∷ rest) made = record {
      spelled = (actor.1, ap (λ (t : List ℕ). 71 ∷ 32 ∷ t) actor.0);
      settled = refl;
      bytes = tt;
    } in
    (some0, moved actors (71 ∷ 32 ∷ rest) made line (ok_is made line a.2) read)

at_letter : (actors letter code : ℕ) (rest : List ℕ) (line : Line) → eqb letter code ≡ true → IsReadBehind actors (code ∷ []) rest line → IsReadBehind actors (letter ∷ []) rest line
at_letter actors letter code rest line test read = rw (eqb-true letter code test) read

verb_found : (actors letter : ℕ) (rest : List ℕ) (line : Line) → actors ≤ 2 ^ 32 → verb_at actors letter rest ≡ Ok line → IsReadBehind actors (letter ∷ []) rest line
verb_found actors letter rest line few e =
    elim (pick (eqb letter 69) _ _ line e) [
      | inl en ↦ at_letter actors letter 69 rest line en.0 (enqueue_found actors rest line en.1)
      | inr others ↦
          elim (pick (eqb letter 80) _ _ line others) [
            | inl pa ↦ at_letter actors letter 80 rest line pa.0 (pace_found actors rest line pa.1)
            | inr more ↦
                elim (pick (eqb letter 82) _ _ line more) [
                  | inl re ↦ at_letter actors letter 82 rest line re.0 (report_found actors rest line re.1)
                  | inr changes ↦
                      elim (pick (eqb letter 67) _ _ line changes) [
                        | inl ch ↦ at_letter actors letter 67 rest line ch.0 (configure_found actors rest line ch.1)
                        | inr glances ↦
                            elim (pick (eqb letter 71) _ _ line glances) [
                              | inl gl ↦ at_letter actors letter 71 rest line gl.0 (glance_found actors rest line few gl.1)
                              | inr last ↦ absurd cc
                            ]
                      ]
                ]
          ]
    ]

fields_found : (actors : ℕ) (verb rest : List ℕ) (line : Line) → actors ≤ 2 ^ 32 → fields_at actors verb rest ≡ Ok line → IsReadBehind actors verb rest line
fields_found actors [] rest line few e = absurd cc
fields_found actors (letter ∷ []) rest line few e = verb_found actors letter rest line few e
fields_found actors (a ∷ b ∷ more) rest line few e = absurd cc

pub action_found : (actors : ℕ) (text : List ℕ) (line : Line) → actors ≤ 2 ^ 32 → action_at actors text ≡ Ok line → IsRead actors text line
unfolding action_at
action_found actors text line few e =
    let read = fields_found actors (field text) (behind text) line few e in
    let whole : text ≡ field text ++ 32 ∷ behind text = parts text (field text) (behind text) refl refl read.0 in
    subst (λ (t : List ℕ). IsRead actors t line) (sym whole) read.1
