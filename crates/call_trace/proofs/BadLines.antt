-- A line is refused exactly for its first bad field.
use Rattle.std.proofs.Common.{◌≡◌, ℕ, ◌^◌, ◌≤◌, Bool, true, false, cond, eqb, ltb, List, [], ◌∷◌, Option, Some, None, Result, Ok, Err, refl, sym, ap, subst, ◌∙◌, arith, inl, inr}
use Rattle.std.specs.Prelude.{◌⊎◌}
use Rattle.std.proofs.Math.Bool.{and-true, and-false}
use Rattle.hex.specs.declared.error.FromHexError.{FromHexError}
use Rattle.hex.specs.Hex.{decode_of}
use Rattle.gcc_units.specs.declared.class.Class.{Class}
use Rattle.gcc_units.specs.Listed.{bare}
use Rattle.send_core.specs.declared.call.Call.TheVariants.{Enqueue, Pace, Report, Configure}
use Rattle.call_trace.specs.declared.fault.TheConstants.{NO_ACTOR, NO_VERB, NO_MOMENT, NO_HEX}
use Rattle.call_trace.specs.declared.trace.Action.TheVariants.{Ask, Look}
use Rattle.call_trace.specs.declared.trace.Line.{Line}
use Rattle.call_trace.specs.Fields.{field, behind, number_of}
use Rattle.call_trace.specs.Steps.{◌>>=◌, or_reason}
use Rattle.call_trace.specs.Reading.{below, actor_at, moment_at, class_at, decoded, hex_at, enqueue_at, pace_at, report_at, configure_at, glance_at, fields_at, action_at}
use Rattle.call_trace.specs.Faults.{Kind, actor, moment, class, hex, json, kinds_of, IsGood, IsReason, IsFirstBad, IsBadOf, IsBadLine}
use Rattle.call_trace.proofs.Found.{actor_found, moment_found, class_found, hex_found}
use Rattle.call_trace.specs.ChangeReading.{json_at}
use Rattle.call_trace.specs.Plain.{settled_change}
use Rattle.call_trace.proofs.ChangeExact.{json_found, json_again, json_err, no_change_one}
use Rattle.call_trace.proofs.Again.{actor_again, moment_again, class_again, hex_again}

-- the one reason that a field's reading gives
actor_err : (actors : ℕ) (o : Option ℕ) (r : ℕ) → (or_reason NO_ACTOR o >>= below actors) ≡ Err r → r ≡ NO_ACTOR
actor_err actors None r e = cc
actor_err actors (Some n) r e = one (ltb n actors) n r e where
  one : (b : Bool) (n r : ℕ) → cond b (Ok n) (Err NO_ACTOR) ≡ Err r → r ≡ NO_ACTOR
  one true n r e = absurd cc
  one false n r e = cc

moment_err : (o : Option ℕ) (r : ℕ) → or_reason NO_MOMENT o ≡ Err r → r ≡ NO_MOMENT
moment_err None r e = cc
moment_err (Some n) r e = absurd cc

letter_err : (a b c d : Bool) (w x y z : Class) (r : ℕ) → cond a (Ok w) (cond b (Ok x) (cond c (Ok y) (cond d (Ok z) (Err NO_VERB)))) ≡ Err r → r ≡ NO_VERB
letter_err true b c d w x y z r e = absurd cc
letter_err false true c d w x y z r e = absurd cc
letter_err false false true d w x y z r e = absurd cc
letter_err false false false true w x y z r e = absurd cc
letter_err false false false false w x y z r e = cc

class_err : (text : List ℕ) (r : ℕ) → class_at text ≡ Err r → r ≡ NO_VERB
class_err [] r e = cc
class_err (letter ∷ []) r e = letter_err (eqb letter 97) (eqb letter 114) (eqb letter 118) (eqb letter 102) _ _ _ _ r e
class_err (a ∷ b ∷ more) r e = cc

decoded_err : (d : Result (List ℕ) FromHexError) (r : ℕ) → decoded d ≡ Err r → r ≡ NO_HEX
decoded_err (Ok octets) r e = absurd cc
decoded_err (Err d) r e = cc

hex_err : (text : List ℕ) (r : ℕ) → hex_at text ≡ Err r → r ≡ NO_HEX
hex_err [] r e = cc
hex_err (b ∷ text) r e = decoded_err (decode_of (b ∷ text)) r e

-- reading a field gives a value exactly where it is a good one, else its one reason
abbrev Tells : {A : Type 0} → ℕ → Kind → List ℕ → Result A ℕ → Type 0
Tells {A} actors kind text read =
    (IsGood actors kind text × (x : A) × (read ≡ Ok x))
    ⊎ ((¬ IsGood actors kind text) × (r : ℕ) × (read ≡ Err r) × IsReason kind text r × ((s : ℕ) → IsReason kind text s → r ≡ s))

told : {A : Type 0} (actors : ℕ) (kind : Kind) (text : List ℕ) (read seen : Result A ℕ) → read ≡ seen
    → ((x : A) → read ≡ Ok x → IsGood actors kind text) → (IsGood actors kind text → (x : A) × (read ≡ Ok x)) → ((r : ℕ) → read ≡ Err r → IsReason kind text r)
    → ((r s : ℕ) → IsReason kind text r → IsReason kind text s → r ≡ s) → Tells actors kind text read
told actors kind text read (Ok x) is found again err one = inl (found x is, x, is)
told actors kind text read (Err r) is found again err one = inr ((λ good. let a = again good in let wrong = sym is ∙ a.1 in cc), r, is, err r is, (λ s why. one r s (err r is) why))

actor_tells : (actors : ℕ) (text : List ℕ) → actors ≤ 2 ^ 32 → Tells actors actor text (actor_at actors text)
actor_tells actors text few =
    told actors actor text (actor_at actors text) (actor_at actors text) refl
    (λ n e. let f = actor_found actors text n e in (n, f.1, f.0))
    (λ good. (good.0, ap (actor_at actors) good.2 ∙ actor_again actors good.0 good.1 (omega (arith, good.1))))
    (λ r e. actor_err actors (number_of text) r e)
    (λ r s one other. cc)

moment_tells : (actors : ℕ) (text : List ℕ) → Tells actors moment text (moment_at text)
moment_tells actors text =
    told actors moment text (moment_at text) (moment_at text) refl
    (λ n e. let f = moment_found text n e in (n, f.1, f.0))
    (λ good. (good.0, ap moment_at good.2 ∙ moment_again good.0 good.1))
    (λ r e. moment_err (number_of text) r e)
    (λ r s one other. cc)

class_tells : (actors : ℕ) (text : List ℕ) → Tells actors class text (class_at text)
class_tells actors text =
    told actors class text (class_at text) (class_at text) refl
    (λ c e. (c, class_found text c e))
    (λ good. (good.0, ap class_at good.1 ∙ class_again good.0))
    (λ r e. class_err text r e)
    (λ r s one other. cc)

hex_tells : (actors : ℕ) (text : List ℕ) → Tells actors hex text (hex_at text)
hex_tells actors text =
    told actors hex text (hex_at text) (hex_at text) refl
    (λ w e. (w.items, (hex_found text w e).0))
    (λ good. (bare good.0, hex_again text good.0 good.1))
    (λ r e. hex_err text r e)
    (λ r s one other. cc)

json_tells : (actors : ℕ) (text : List ℕ) → Tells actors json text (json_at text)
json_tells actors text =
    told actors json text (json_at text) (json_at text) refl
    (λ change e. (change, (json_found text change e).0))
    (λ good. (settled_change good.0, json_again text good.0 good.1))
    (λ r e. json_err text r e)
    (λ r s one other. no_change_one text r s one other)

-- reading fails with a reason exactly where this holds of it
pub record FailsWhere (read : Result Line ℕ) (P : ℕ → Type 0) : Type 0 where
  pub found : (r : ℕ) → read ≡ Err r → P r
  pub again : (r : ℕ) → P r → read ≡ Err r

last : {A : Type 0} (actors : ℕ) (kind : Kind) (text : List ℕ) (read : Result A ℕ) (rest : A → Result Line ℕ) → Tells actors kind text read → ((x : A) → (line : Line) × (rest x ≡ Ok line))
    → FailsWhere (read >>= rest) (IsFirstBad actors (kind ∷ []) text)
last actors kind text read rest (inl good) ends =
    let is : (read >>= rest) ≡ Ok (ends good.1).0 = ap (λ r. r >>= rest) good.2 ∙ (ends good.1).1 in
    record {
      found = λ r e. let wrong = sym is ∙ e in absurd cc;
      again = λ r bad. absurd (bad.0 good.0);
    }
last actors kind text read rest (inr bad) ends =
    let is : (read >>= rest) ≡ Err bad.1 = ap (λ r. r >>= rest) bad.2 in
    record {
      found = λ r e. (bad.0, subst (λ (q : ℕ). IsReason kind text q) {x = bad.1} (let both = sym is ∙ e in cc) bad.3);
      again = λ r first. is ∙ ap (λ q. Err q) (bad.4 r first.1);
    }

more : {A : Type 0} (actors : ℕ) (kind next : Kind) (kinds : List Kind) (text : List ℕ) (read : Result A ℕ) (rest : A → Result Line ℕ) → Tells actors kind (field text) read
    → ((x : A) → FailsWhere (rest x) (IsFirstBad actors (next ∷ kinds) (behind text))) → FailsWhere (read >>= rest) (IsFirstBad actors (kind ∷ next ∷ kinds) text)
more actors kind next kinds text read rest (inl good) others =
    let is : (read >>= rest) ≡ rest good.1 = ap (λ r. r >>= rest) good.2 in
    record {
      found = λ r e. inr (good.0, (others good.1).found r (sym is ∙ e));
      again = λ r bad. elim bad [ inl first ↦ absurd (first.0 good.0) | inr later ↦ is ∙ (others good.1).again r later.1 ];
    }
more actors kind next kinds text read rest (inr bad) others =
    let is : (read >>= rest) ≡ Err bad.1 = ap (λ r. r >>= rest) bad.2 in
    record {
      found = λ r e. inl (bad.0, subst (λ (q : ℕ). IsReason kind (field text) q) {x = bad.1} (let both = sym is ∙ e in cc) bad.3);
      again = λ r either. elim either [ inl first ↦ is ∙ ap (λ q. Err q) (bad.4 r first.1) | inr later ↦ absurd (bad.0 later.0) ];
    }

enqueue_fails : (actors : ℕ) (rest : List ℕ) → actors ≤ 2 ^ 32 → FailsWhere (enqueue_at actors rest) (IsFirstBad actors (actor ∷ moment ∷ class ∷ hex ∷ []) rest)
unfolding enqueue_at
enqueue_fails actors rest few =
    more actors actor moment (class ∷ hex ∷ []) rest _ _ (actor_tells actors (field rest) few)
    (λ a. more actors moment class (hex ∷ []) (behind rest) _ _ (moment_tells actors (field (behind rest)))
    (λ at. more actors class hex [] (behind (behind rest)) _ _ (class_tells actors (field (behind (behind rest))))
    (λ c. last actors hex (behind (behind (behind rest))) _ _ (hex_tells actors (behind (behind (behind rest)))) (λ wire. (record { actor = a; action = Ask (Enqueue at c wire) }, refl)))))

pace_fails : (actors : ℕ) (rest : List ℕ) → actors ≤ 2 ^ 32 → FailsWhere (pace_at actors rest) (IsFirstBad actors (actor ∷ moment ∷ []) rest)
unfolding pace_at
pace_fails actors rest few =
    more actors actor moment [] rest _ _ (actor_tells actors (field rest) few)
    (λ a. last actors moment (behind rest) _ _ (moment_tells actors (behind rest)) (λ at. (record { actor = a; action = Ask (Pace at) }, refl)))

report_fails : (actors : ℕ) (rest : List ℕ) → actors ≤ 2 ^ 32 → FailsWhere (report_at actors rest) (IsFirstBad actors (actor ∷ moment ∷ hex ∷ []) rest)
unfolding report_at
report_fails actors rest few =
    more actors actor moment (hex ∷ []) rest _ _ (actor_tells actors (field rest) few)
    (λ a. more actors moment hex [] (behind rest) _ _ (moment_tells actors (field (behind rest)))
    (λ at. last actors hex (behind (behind rest)) _ _ (hex_tells actors (behind (behind rest))) (λ octets. (record { actor = a; action = Ask (Report at octets) }, refl))))

configure_fails : (actors : ℕ) (rest : List ℕ) → actors ≤ 2 ^ 32 → FailsWhere (configure_at actors rest) (IsFirstBad actors (actor ∷ moment ∷ json ∷ []) rest)
unfolding configure_at
configure_fails actors rest few =
    more actors actor moment (json ∷ []) rest _ _ (actor_tells actors (field rest) few)
    (λ a. more actors moment json [] (behind rest) _ _ (moment_tells actors (field (behind rest)))
    (λ at. last actors json (behind (behind rest)) _ _ (json_tells actors (behind (behind rest))) (λ change. (record { actor = a; action = Ask (Configure at change) }, refl))))

glance_fails : (actors : ℕ) (rest : List ℕ) → actors ≤ 2 ^ 32 → FailsWhere (glance_at actors rest) (IsFirstBad actors (actor ∷ []) rest)
unfolding glance_at
glance_fails actors rest few = last actors actor rest _ _ (actor_tells actors rest few) (λ a. (record { actor = a; action = Look }, refl))

no_verb : (text : List ℕ) (actors : ℕ) → FailsWhere (Err NO_VERB) (IsBadOf actors None text)
no_verb text actors = record { found = λ r e. cc; again = λ r is. ap (λ q. Err q) (sym is) }

chosen : (b : Bool) (x y : Result Line ℕ) (actors : ℕ) (k : List Kind) (l : Option (List Kind)) (text : List ℕ) → FailsWhere x (IsBadOf actors (Some k) text) → FailsWhere y (IsBadOf actors l text)
    → FailsWhere (cond b x y) (IsBadOf actors (cond b (Some k) l) text)
chosen true x y actors k l text one other = one
chosen false x y actors k l text one other = other

fields_fail : (actors : ℕ) (verb rest : List ℕ) → actors ≤ 2 ^ 32 → FailsWhere (fields_at actors verb rest) (IsBadOf actors (kinds_of verb) rest)
fields_fail actors [] rest few = no_verb rest actors
fields_fail actors (letter ∷ []) rest few =
    rw (and-true (eqb letter 69), and-true (eqb letter 80), and-true (eqb letter 82), and-true (eqb letter 67), and-true (eqb letter 71))
    (chosen (eqb letter 69) _ _ actors _ _ rest (enqueue_fails actors rest few)
    (chosen (eqb letter 80) _ _ actors _ _ rest (pace_fails actors rest few)
    (chosen (eqb letter 82) _ _ actors _ _ rest (report_fails actors rest few)
    (chosen (eqb letter 67) _ _ actors _ _ rest (configure_fails actors rest few)
    (chosen (eqb letter 71) _ _ actors _ _ rest (glance_fails actors rest few) (no_verb rest actors))))))
fields_fail actors (a ∷ b ∷ more) rest few =
    rw (and-false (eqb a 69), and-false (eqb a 80), and-false (eqb a 82), and-false (eqb a 67), and-false (eqb a 71)) (no_verb rest actors)

pub action_fails : (actors : ℕ) (line : List ℕ) → actors ≤ 2 ^ 32 → FailsWhere (action_at actors line) (IsBadLine actors line)
unfolding action_at
action_fails actors line few = fields_fail actors (field line) (behind line) few
