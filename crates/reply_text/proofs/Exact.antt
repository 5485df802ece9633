-- A text is legal exactly where each of its lines is good and its ending is right.
use Rattle.std.proofs.Common.{◌≡◌, ℕ, suc, zero, ◌<◌, ◌≤◌, List, [], ◌∷◌, ◌++◌, length, take, slice_get, Some, refl, sym, ◌∙◌, ap, subst, arith, append_assoc, length-append}
use Rattle.std.specs.List.{flat_map, All}
use Rattle.std.proofs.lemmas.Bool.{eq-eqb}
use Rattle.std.proofs.lemmas.Grind.{flat_map-append}
use Rattle.std.proofs.lemmas.List.{append-nil, take_at}
use Rattle.std.proofs.lemmas.List.Elements.{recursion_from_All}
use Rattle.gcc_units.proofs.Walk.{flat_map-push}
use Rattle.gcc_units.specs.declared.limits.TheConstants.{MOST_ACTORS, MOST_LINES, MOST_ENTRIES}
use Rattle.send_core.specs.declared.call.Call.{Call}
use Rattle.send_core.specs.declared.call.Entry.{Entry}
use Rattle.send_core.specs.Reply.{reply, IsLegal}
use Rattle.send_core.proofs.Legality.{IsLegal-push, IsLegal-first}
use Rattle.call_trace.specs.declared.trace.Action.{Action}
use Rattle.call_trace.specs.declared.trace.Action.TheVariants.{Ask, Look}
use Rattle.call_trace.specs.declared.trace.Line.{Line}
use Rattle.call_trace.specs.Merge.{call_in, made, calls_of, calls_by, Merges}
use Rattle.reply_text.specs.declared.seen.Seen.{Seen}
use Rattle.reply_text.specs.Text.{line_of, glance_lines, tail_line, text as printed}
use Rattle.reply_text.specs.Legal.{IsLegalText}
use Rattle.reply_text.specs.Verdict.{calls, IsStep, title, Begins, IsEnding, DiffersAt}
use Rattle.reply_text.proofs.Steps.{begins_one, never_differs}
use Rattle.reply_text.proofs.Lefts.{left_begins, begins_merges, merges_count, caller_below}

-- no more calls than lines
pub one_call : (action : Action) → length (call_in action) ≤ 1
one_call (Ask call) = omega arith
one_call Look = omega arith

pub few_calls : (lines : List Line) → length (calls lines) ≤ length lines
few_calls [] = omega arith
few_calls (line ∷ lines) = omega (arith, length-append (call_in line.action) (calls lines), one_call line.action, few_calls lines)

text_parts : (h : List Entry) (g : List Seen) → printed h g ≡ title ++ (flat_map line_of h ++ (glance_lines [] g ++ tail_line h))
text_parts h g =
    append_assoc (title ++ flat_map line_of h) (glance_lines [] g) (tail_line h) ∙ append_assoc title (flat_map line_of h) (glance_lines [] g ++ tail_line h)

module _ (lines : List Line) (actors : ℕ) (text : List ℕ) where
  -- ---- good lines are those of a legal history

  pub begins_legal : (k : ℕ) (h : List Entry) (r : List ℕ) → Begins lines actors text k h r → k ≤ MOST_ENTRIES → IsLegal h
  begins_legal zero h r b short = subst (λ (x : List Entry). IsLegal x) (sym b.0) IsLegal-first
  begins_legal (suc k) h r b short =
      let before = begins_legal k b.0 b.1 b.3 (omega arith) in
      let long = left_begins lines actors text k b.0 b.1 b.3 in
      subst (λ (x : List Entry). IsLegal x) (sym b.5) (IsLegal-push b.0 b.2.caller b.2.call b.2.reply before (omega (arith, long.1)) b.4.served)

  pub begins_text : (k : ℕ) (h : List Entry) (r : List ℕ) → Begins lines actors text k h r → text ≡ title ++ (flat_map line_of h ++ r)
  begins_text zero h r b = b.1 ∙ rw b.0 refl
  begins_text (suc k) h r b =
      let here : flat_map line_of b.0 ++ b.1 ≡ flat_map line_of h ++ r
      = ap (λ xs. flat_map line_of b.0 ++ xs) b.4.printed ∙ (sym (append_assoc (flat_map line_of b.0) (line_of b.2) r)
      ∙ (ap (λ xs. xs ++ r) (sym (flat_map-push line_of b.0 b.2)) ∙ ap (λ (x : List Entry). flat_map line_of x ++ r) (sym b.5))) in
      begins_text k b.0 b.1 b.3 ∙ ap (λ xs. title ++ xs) here

  pub legal_from : (h : List Entry) (r : List ℕ) → length lines ≤ MOST_LINES → Begins lines actors text (length (calls lines)) h r → IsEnding lines actors h r → IsLegalText lines actors text
  legal_from h r few b right = record {
    history = h;
    glances = right.0;
    legal = begins_legal (length (calls lines)) h r b (omega (arith, few_calls lines));
    merges = begins_merges lines actors text h r b;
    seen = right.1;
    spelled = begins_text (length (calls lines)) h r b ∙ (ap (λ xs. title ++ (flat_map line_of h ++ xs)) right.2 ∙ sym (text_parts h right.0));
  }

  -- ---- the lines of a legal text are good

  -- the entry behind others of a legal history is a good line
  step_of : (h before behind : List Entry) (e : Entry) (end : List ℕ) → All (λ (line : Line). line.actor < actors) lines → IsLegal h → Merges lines h → h ≡ before ++ e ∷ behind
      → IsStep lines actors before (flat_map line_of (e ∷ behind) ++ end) e (flat_map line_of behind ++ end)
  step_of h before behind e end below legal merges split =
      let there : slice_get h (length before) ≡ Some e = rw split (get_there before e behind) in
      let front : take (length before) h ≡ before = rw split (take_at before (e ∷ behind) (length before) refl) in
      let next : calls_of e.caller lines ≡ calls_by e.caller before ++ e.call ∷ calls_by e.caller behind
      = sym (merges e.caller) ∙ (ap (calls_by e.caller) split ∙ (flat_map-append (made e.caller) before (e ∷ behind) ∙ ap (λ (cs : List Call). calls_by e.caller before ++ cs) (made_first e.caller e behind refl))) in
      record {
        actor = caller_below actors lines (recursion_from_All (λ (line : Line). line.actor < actors) lines below) e.caller (rw next (omega (arith, length-append (calls_by e.caller before) (e.call ∷ calls_by e.caller behind))));
        next = (calls_by e.caller behind, next);
        served = legal.each (length before) e there ∙ ap (λ (x : List Entry). reply x e.call) front;
        printed = append_assoc (line_of e) (flat_map line_of behind) end;
      } where
        get_there : (xs : List Entry) (x : Entry) (ys : List Entry) → slice_get (xs ++ x ∷ ys) (length xs) ≡ Some x
        get_there [] x ys = refl
        get_there (z ∷ xs) x ys = get_there xs x ys

        made_first : (a : ℕ) (x : Entry) (xs : List Entry) → x.caller ≡ a → calls_by a (x ∷ xs) ≡ x.call ∷ calls_by a xs
        made_first a x xs own = rw (eq-eqb x.caller a own) refl

  goes_on : (h before behind : List Entry) (end : List ℕ) → All (λ (line : Line). line.actor < actors) lines → IsLegal h → Merges lines h → h ≡ before ++ behind
      → Begins lines actors text (length before) before (flat_map line_of behind ++ end) → Begins lines actors text (length h) h end
  goes_on h before [] end below legal merges split b =
      let whole : before ≡ h = sym (split ∙ append-nil before) in
      subst (λ (x : List Entry). Begins lines actors text (length x) x end) whole b
  goes_on h before (e ∷ behind) end below legal merges split b =
      let longer : suc (length before) ≡ length (before ++ e ∷ []) = omega (arith, length-append before (e ∷ [])) in
      let more : Begins lines actors text (suc (length before)) (before ++ e ∷ []) (flat_map line_of behind ++ end)
      = (before, flat_map line_of (e ∷ behind) ++ end, e, b, step_of h before behind e end below legal merges split, refl) in
      goes_on h (before ++ e ∷ []) behind end below legal merges (split ∙ sym (append_assoc before (e ∷ []) behind))
      (subst (λ k. Begins lines actors text k (before ++ e ∷ []) (flat_map line_of behind ++ end)) longer more)

  pub legal_begins : All (λ (line : Line). line.actor < actors) lines → (t : IsLegalText lines actors text)
      → Begins lines actors text (length (calls lines)) t.history (glance_lines [] t.glances ++ tail_line t.history)
  legal_begins below t =
      let end = glance_lines [] t.glances ++ tail_line t.history in
      let spelled : text ≡ title ++ (flat_map line_of t.history ++ end) = t.spelled ∙ text_parts t.history t.glances in
      let b : Begins lines actors text (length t.history) t.history end = goes_on t.history [] t.history end below t.legal t.merges refl (refl, spelled) in
      subst (λ k. Begins lines actors text k t.history end) (merges_count lines actors text (length t.history) t.history end b t.merges) b

  -- a legal text differs nowhere
  pub legal_differs : actors ≤ MOST_ACTORS → All (λ (line : Line). line.actor < actors) lines → IsLegalText lines actors text → (k : ℕ) → DiffersAt lines actors text k → ⊥
  legal_differs few below t k d =
      never_differs lines actors text few t.history (glance_lines [] t.glances ++ tail_line t.history) (legal_begins below t) (t.glances, t.seen, refl) k d

-- a text is that of one legal history
pub legal_one : (lines : List Line) (actors : ℕ) (text : List ℕ) → actors ≤ MOST_ACTORS → All (λ (line : Line). line.actor < actors) lines → (a b : IsLegalText lines actors text) → a.history ≡ b.history
legal_one lines actors text few below a b =
    (begins_one lines actors text few (length (calls lines)) a.history b.history (glance_lines [] a.glances ++ tail_line a.history) (glance_lines [] b.glances ++ tail_line b.history)
    (legal_begins lines actors text below a) (legal_begins lines actors text below b)).0
