-- One more line of a text is served, or it is a bad one.
use Rattle.std.proofs.Common.{◌≡◌, ℕ, suc, zero, ◌+◌, ◌<◌, ◌≤◌, ◌^◌, List, [], ◌∷◌, ◌++◌, length, take, drop, get_or, set, slice_get, Some, None, refl, sym, ◌∙◌, ap, subst, arith, append_assoc, length-append, length-set, replicate, get_or-set_same, get_or-set_other, inl, inr}
use Rattle.std.specs.Prelude.{◌≢◌}
use Rattle.std.proofs.lemmas.Bool.{cases_eq, cases_lt}
use Rattle.std.proofs.lemmas.Grind.{flat_map-append}
use Rattle.std.proofs.lemmas.List.{append-nil, append_cancel_left, take-append-drop, take-append-le, take_all}
use Rattle.std.proofs.lemmas.Option.{same_Some, slice_get_read}
use Rattle.gcc_units.specs.declared.limits.TheConstants.{MOST_ACTORS}
use Rattle.send_core.specs.declared.call.Call.{Call}
use Rattle.send_core.specs.declared.call.Entry.{Entry}
use Rattle.send_core.specs.History.{entry}
use Rattle.send_core.specs.Reply.{reply, target}
use Rattle.call_trace.specs.declared.trace.Line.{Line}
use Rattle.call_trace.specs.Fields.{field, number_of}
use Rattle.call_trace.specs.Merge.{call_in, asked, calls_of, calls_by}
use Rattle.reply_text.specs.Text.{line_of}
use Rattle.reply_text.specs.Verdict.{calls, IsNext, IsStep, HasGoodLine, Begins}
use Rattle.reply_text.specs.Walking.{IsPlaced, ArePlaced, IsServed}
use Rattle.reply_text.specs.Looking.{AreTargets}
use Rattle.reply_text.proofs.OneMore.{flat_map-next}
use Rattle.reply_text.proofs.Steps.{caller_told, next_one, same_entry}
use Rattle.reply_text.proofs.Lefts.{made_own, made_other}

-- one more line has the calls of its action
pub calls_more : (lines : List Line) (i : ℕ) (x : Line) → i < length lines → x ≡ get_or lines i x → length (calls (take (i + 1) lines)) ≡ length (calls (take i lines)) + length (call_in x.action)
calls_more lines i x low is =
    ap length (flat_map-next (λ (l : Line). call_in l.action) lines i x (slice_get_read lines (length lines) i x refl low is))
    ∙ length-append (calls (take i lines)) (call_in x.action)

pub asked_more : (a : ℕ) (lines : List Line) (i : ℕ) (x : Line) → i < length lines → x ≡ get_or lines i x → calls_of a (take (i + 1) lines) ≡ calls_of a (take i lines) ++ asked a x
asked_more a lines i x low is = flat_map-next (asked a) lines i x (slice_get_read lines (length lines) i x refl low is)

module _ (lines : List Line) (actors : ℕ) (h : List Entry) (rest : List ℕ) (few : actors ≤ MOST_ACTORS) where
  told : (e : Entry) (more : List ℕ) → IsStep lines actors h rest e more → number_of (field rest) ≡ Some e.caller
  told e more step = ap (λ xs. number_of (field xs)) step.printed ∙ caller_told e more (omega (arith, step.actor))

  pub no_number : number_of (field rest) ≡ None → ¬ HasGoodLine lines actors h rest
  no_number none good = let some = told good.0 good.1 good.2 in absurd (let wrong = sym none ∙ some in cc)

  pub no_actor : (caller : ℕ) → number_of (field rest) ≡ Some caller → actors ≤ caller → ¬ HasGoodLine lines actors h rest
  no_actor caller is high good =
      let same = same_Some caller good.0.caller (sym is ∙ told good.0 good.1 good.2) in
      absurd (omega (arith, good.2.actor))

  pub no_next : (caller cursor : ℕ) → number_of (field rest) ≡ Some caller → IsPlaced lines h caller cursor → calls_of caller lines ≡ calls_of caller (take cursor lines) → ¬ HasGoodLine lines actors h rest
  no_next caller cursor is placed none good =
      let same = same_Some caller good.0.caller (sym is ∙ told good.0 good.1 good.2) in
      let next : IsNext lines h caller good.0.call = subst (λ a. IsNext lines h a good.0.call) (sym same) good.2.next in
      let all : calls_by caller h ++ good.0.call ∷ next.0 ≡ calls_by caller h ++ [] = sym next.1 ∙ (none ∙ (placed.made ∙ sym (append-nil (calls_by caller h)))) in
      absurd (let wrong = append_cancel_left (calls_by caller h) (good.0.call ∷ next.0) [] all in cc)

  pub next_is : (caller cursor place : ℕ) (call : Call) → IsPlaced lines h caller cursor → calls_of caller (take (place + 1) lines) ≡ calls_of caller (take cursor lines) ++ call ∷ [] → IsNext lines h caller call
  next_is caller cursor place call placed some = (
    calls_of caller (drop (place + 1) lines),
    ap (calls_of caller) (sym (take-append-drop (place + 1) lines))
        ∙ (flat_map-append (asked caller) (take (place + 1) lines) (drop (place + 1) lines)
        ∙ (ap (λ (cs : List Call). cs ++ calls_of caller (drop (place + 1) lines)) (some ∙ ap (λ (cs : List Call). cs ++ call ∷ []) placed.made)
        ∙ append_assoc (calls_by caller h) (call ∷ []) (calls_of caller (drop (place + 1) lines)))),
  )

  pub no_line : (caller : ℕ) (call : Call) → number_of (field rest) ≡ Some caller → IsNext lines h caller call
      → ((more : List ℕ) → rest ≢ line_of (entry caller call (reply h call)) ++ more) → ¬ HasGoodLine lines actors h rest
  no_line caller call is next other good =
      let e = good.0 in
      let same = same_Some caller e.caller (sym is ∙ told e good.1 good.2) in
      let moved : IsNext lines h caller e.call = subst (λ a. IsNext lines h a e.call) (sym same) good.2.next in
      let asks : call ≡ e.call = next_one lines h caller call e.call next moved in
      let whole : e ≡ entry caller call (reply h call) = same_entry e (entry caller call (reply h call)) (sym same) (sym asks) (good.2.served ∙ ap (reply h) (sym asks)) in
      other good.1 (good.2.printed ∙ ap (λ (x : Entry). line_of x ++ good.1) whole)

  pub served_is : (caller : ℕ) (call : Call) (after : List Entry) (more : List ℕ) → caller < actors → IsNext lines h caller call → after ≡ h ++ entry caller call (reply h call) ∷ []
      → rest ≡ line_of (entry caller call (reply h call)) ++ more → IsServed lines actors h after rest more
  served_is caller call after more low next grown is = record {
    served = entry caller call (reply h call);
    step = record { actor = low; next = next; served = refl; printed = is };
    grown = grown;
  }

-- the cursors behind one more call
pub placed_more : (lines : List Line) (actors : ℕ) (h after : List Entry) (cursors : List ℕ) (caller place : ℕ) (e : Entry) → actors ≤ MOST_ACTORS → ArePlaced lines actors h cursors → caller < actors → place < length lines
    → calls_of caller (take (place + 1) lines) ≡ calls_of caller (take (get_or cursors caller 0) lines) ++ e.call ∷ [] → e.caller ≡ caller → after ≡ h ++ e ∷ []
    → ArePlaced lines actors after (set cursors caller (place + 1))
placed_more lines actors h after cursors caller place e few placed low within some own grown = record {
  room = length-set cursors caller (place + 1) ∙ placed.room;
  each = λ a below. elim (cases_eq caller a) [
    | inl same ↦
        let here : get_or (set cursors caller (place + 1)) a 0 ≡ place + 1 = ap (λ i. get_or (set cursors caller (place + 1)) i 0) (sym same) ∙ get_or-set_same cursors caller (place + 1) 0 (omega (arith, placed.room)) in
        let made : calls_of a (take (place + 1) lines) ≡ calls_by a after
        = subst (λ b. calls_of b (take (place + 1) lines) ≡ calls_by b after) same
        (some ∙ (ap (λ (cs : List Call). cs ++ e.call ∷ []) (placed.each caller low).made ∙ (sym (made_own caller h e own) ∙ ap (calls_by caller) (sym grown)))) in
        subst (λ cursor. IsPlaced lines after a cursor) (sym here) (record { within = omega arith; made = made })
    | inr other ↦
        let there : get_or (set cursors caller (place + 1)) a 0 ≡ get_or cursors a 0 = get_or-set_other cursors caller a (place + 1) 0 (λ same. other (sym same)) in
        let made : calls_of a (take (get_or cursors a 0) lines) ≡ calls_by a after
        = (placed.each a below).made ∙ (sym (made_other a h e (λ same. other (sym own ∙ same))) ∙ ap (calls_by a) (sym grown)) in
        subst (λ cursor. IsPlaced lines after a cursor) (sym there) (record { within = (placed.each a below).within; made = made })
  ];
}

slice_get-left : (xs : List ℕ) (y : ℕ) (k : ℕ) → k < length xs → slice_get (xs ++ y ∷ []) k ≡ slice_get xs k
slice_get-left [] y k low = absurd (omega arith)
slice_get-left (x ∷ xs) y zero low = refl
slice_get-left (x ∷ xs) y (suc k) low = slice_get-left xs y k (omega arith)

slice_get-last : (xs : List ℕ) (y : ℕ) → slice_get (xs ++ y ∷ []) (length xs) ≡ Some y
slice_get-last [] y = refl
slice_get-last (x ∷ xs) y = slice_get-last xs y

pub targets_first : (t : ℕ) → t ≡ target [] → t < 2 ^ 64 → AreTargets [] (t ∷ [])
targets_first t is low = record {
  count = refl;
  each = λ c none. let zeroth : 0 ≡ c = omega arith in subst (λ k. slice_get (t ∷ []) k ≡ Some (target (take k []))) zeroth (ap (λ x. Some x) is);
  small = λ c none. let zeroth : 0 ≡ c = omega arith in subst (λ k. target (take k []) < 2 ^ 64) zeroth (subst (λ n. n < 2 ^ 64) is low);
}

pub targets_more : (h : List Entry) (e : Entry) (ts : List ℕ) (t : ℕ) → AreTargets h ts → t ≡ target (h ++ e ∷ []) → t < 2 ^ 64 → AreTargets (h ++ e ∷ []) (ts ++ t ∷ [])
targets_more h e ts t are is bound = record {
  count = length-append ts (t ∷ []) ∙ (ap (λ n. n + 1) are.count ∙ ap (λ n. n + 1) (sym (length-append h (e ∷ []))));
  each = λ c low. elim (cases_lt (length h) c) [
    | inl past ↦
        let here : length ts ≡ c = omega (arith, are.count, length-append h (e ∷ [])) in
        ap (slice_get (ts ++ t ∷ [])) (sym here) ∙ (slice_get-last ts t ∙ ap (λ x. Some x) (is ∙ ap target (sym (all c past))))
    | inr before ↦
        slice_get-left ts t c (omega (arith, are.count))
        ∙ (are.each c before ∙ ap (λ (x : List Entry). Some (target x)) (sym (take-append-le c h (e ∷ []) before)))
  ];
  small = λ c low. elim (cases_lt (length h) c) [
    | inl past ↦ subst (λ n. n < 2 ^ 64) (is ∙ ap target (sym (all c past))) bound
    | inr before ↦ subst (λ (x : List Entry). target x < 2 ^ 64) (sym (take-append-le c h (e ∷ []) before)) (are.small c before)
  ];
} where
  all : (c : ℕ) → length h < c → take c (h ++ e ∷ []) ≡ h ++ e ∷ []
  all c past = take_all c (h ++ e ∷ []) (omega (arith, length-append h (e ∷ [])))

pub targets_on : (h after : List Entry) (e : Entry) (ts us : List ℕ) (t : ℕ) → AreTargets h ts → after ≡ h ++ e ∷ [] → t ≡ target after → t < 2 ^ 64 → us ≡ ts ++ t ∷ [] → AreTargets after us
targets_on h after e ts us t are grown is low kept =
    subst (λ (x : List Entry). AreTargets x us) (sym grown) (subst (λ xs. AreTargets (h ++ e ∷ []) xs) (sym kept) (targets_more h e ts t are (is ∙ ap target grown) low))

pub begins_more : (lines : List Line) (actors : ℕ) (text : List ℕ) (k : ℕ) (h after : List Entry) (rest more : List ℕ) → Begins lines actors text k h rest → IsServed lines actors h after rest more
    → Begins lines actors text (k + 1) after more
begins_more lines actors text k h after rest more b s =
    let next : suc k ≡ k + 1 = omega arith in
    subst (λ i. Begins lines actors text i after more) next (h, rest, s.served, b, s.step, s.grown)

zero_at : (n i : ℕ) → (let z : ℕ = get_or (replicate n 0) i 0 in z ≡ 0)
zero_at zero i = refl
zero_at (suc n) zero = refl
zero_at (suc n) (suc i) = zero_at n i

pub placed_first : (lines : List Line) (actors : ℕ) (h : List Entry) → h ≡ [] → ArePlaced lines actors h (replicate MOST_ACTORS 0)
placed_first lines actors h none = record {
  room = refl;
  each = λ a low. subst (λ cursor. IsPlaced lines h a cursor) (sym (zero_at MOST_ACTORS a)) (record { within = omega arith; made = ap (calls_by a) (sym none) });
}
