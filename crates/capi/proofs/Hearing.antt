-- Reports that were served one after the other, and one more.
use Rattle.std.proofs.Common.{◌≡◌, inl, ℕ, zero, suc, ◌≤◌, Option, None, Some, List, [], ◌∷◌, ◌++◌, length, take, drop, refl, sym, ◌∙◌, ap, subst, arith, length-drop}
use Rattle.std.proofs.Math.ListN.{drop_of_length-le}
use Rattle.std.proofs.lemmas.List.{append_assoc, append-nil}
use Rattle.std.proofs.lemmas.List.Sums.{fold-append}
use Rattle.std.proofs.lemmas.Option.{none-some}
use Rattle.gcc_units.specs.Listed.{bare}
use Rattle.sent_history.specs.declared.finding.Finding.{Finding}
use Rattle.send_core.specs.declared.call.Call.TheVariants.{Report}
use Rattle.send_core.specs.declared.call.Cause.{Cause}
use Rattle.send_core.specs.declared.call.Entry.{Entry}
use Rattle.send_core.specs.Reply.{reply}
use Rattle.steered_sender.specs.Standing.{Kept, StandsFor, IsBehind, began_at, served, with_asked}
use Rattle.steered_sender.proofs.Behind.{IsReady, behind-ready, behind-stays}
use Rattle.capi.specs.declared.fault.Fault.{Fault}
use Rattle.capi.specs.declared.feedback.Heard.{Heard}
use Rattle.capi.specs.Serving.{Serving, Stays, with_call}
use Rattle.capi.specs.Hearing.{refusal_of, first_of, findings_told, Course, with_report, course_of, AreHeard}

pub drop_all : (n : ℕ) (xs : List ℕ) → length xs ≤ n → [] ≡ drop n xs
drop_all n xs h = sym (drop_of_length-le xs h)

pub take_all : (n : ℕ) (xs : List ℕ) → length xs ≤ n → xs ≡ take n xs
take_all zero [] h = refl
take_all zero (x ∷ xs) h = absurd (omega (arith, h))
take_all (suc n) [] h = refl
take_all (suc n) (x ∷ xs) h = ap (λ (ys : List ℕ). x ∷ ys) (take_all n xs (omega (arith, h)))

take_within : (n : ℕ) (xs : List ℕ) → length (take n xs) ≤ length xs
take_within zero xs = omega arith
take_within (suc n) [] = omega arith
take_within (suc n) (x ∷ xs) = omega (arith, take_within n xs)

pub part_within : (n m : ℕ) (xs : List ℕ) → length (take n (drop m xs)) ≤ length xs
part_within n m xs = omega (arith, take_within n (drop m xs), length-drop m xs)

-- before the first
pub heard-none : (now : Kept) (at : ℕ) (found : List Finding) → found ≡ [] → AreHeard now now found at (record { refused = None; stopped = None }) []
heard-none now at found none = record {
  served = [];
  rest = [];
  whole = refl;
  all = λ _. refl;
  control = refl;
  stands = λ history caller stands. inl stands;
  refused = λ history caller stands. refl;
  findings = λ history caller stands. none;
}

-- one more is the last of the course
pub course-push : (control : Option ℕ) (history : List Entry) (caller at : ℕ) (reports : List (List ℕ)) (report : List ℕ)
    → course_of control history caller at (reports ++ report ∷ []) ≡ with_report control caller at (course_of control history caller at reports) report
course-push control history caller at reports report = fold-append (with_report control caller at) (record { history = history; refused = None; findings = [] }) reports (report ∷ [])

-- where one was not served, no later one is
pub heard-stopped : (first now : Kept) (found : List Finding) (at : ℕ) (heard : Heard) (fault : Fault) (reports : List (List ℕ)) (report : List ℕ) → heard.stopped ≡ Some fault
    → AreHeard first now found at heard reports → AreHeard first now found at heard (reports ++ report ∷ [])
heard-stopped first now found at heard fault reports report is h = record {
  served = h.served;
  rest = h.rest ++ report ∷ [];
  whole = ap (λ (xs : List (List ℕ)). xs ++ report ∷ []) h.whole ∙ append_assoc h.served h.rest (report ∷ []);
  all = λ none. absurd (none-some fault (sym none ∙ is));
  control = h.control;
  stands = h.stands;
  refused = h.refused;
  findings = h.findings;
}

pub heard-fault : (first : Kept) (now next : Serving) (at : ℕ) (heard : Heard) (fault : Fault) (reports : List (List ℕ)) (report : List ℕ)
    → began_at next.steered.steering ≡ began_at now.steered.steering → Stays now next
    → AreHeard first now.steered now.findings at heard reports → AreHeard first next.steered next.findings at (record heard { stopped = Some fault }) (reports ++ report ∷ [])
heard-fault first now next at heard fault reports report same stays h = record {
  served = h.served;
  rest = h.rest ++ report ∷ [];
  whole = ap (λ (xs : List (List ℕ)). xs ++ report ∷ []) h.whole ∙ append_assoc h.served h.rest (report ∷ []);
  all = λ none. absurd (none-some fault (sym none));
  control = same ∙ h.control;
  stands = λ history caller stands. behind-stays now.steered next.steered (course_of (began_at first.steering) history caller at h.served).history same stays.stands (h.stands history caller stands);
  refused = h.refused;
  findings = λ history caller stands. stays.findings ∙ h.findings history caller stands;
}

pub heard-served : (first now next : Kept) (found more : List Finding) (at : ℕ) (heard : Heard) (refusal : Option Cause) (reports : List (List ℕ)) (report : List ℕ) → heard.stopped ≡ None
    → began_at next.steering ≡ began_at now.steering
    → ((history : List Entry) → StandsFor now history → refusal ≡ refusal_of (reply (served now history) (Report at (bare report))))
    → ((history : List Entry) (caller : ℕ) → StandsFor now history → IsBehind next (with_call (served now history) caller (Report at (bare report))))
    → ((history : List Entry) → StandsFor now history → more ≡ found ++ findings_told (served now history) report (reply (served now history) (Report at (bare report))))
    → AreHeard first now found at heard reports → AreHeard first next more at (record heard { refused = first_of heard.refused refusal }) (reports ++ report ∷ [])
heard-served first now next found more at heard refusal reports report none same told serves finds h =
    let whole : reports ≡ h.served = h.whole ∙ (ap (λ (xs : List (List ℕ)). h.served ++ xs) (h.all none) ∙ append-nil h.served) in
    record {
      served = h.served ++ report ∷ [];
      rest = [];
      whole = ap (λ (xs : List (List ℕ)). xs ++ report ∷ []) whole ∙ sym (append-nil (h.served ++ report ∷ []));
      all = λ _. refl;
      control = same ∙ h.control;
      stands = λ history caller stands.
          let r : IsReady control now (course history caller).history = ready history caller stands in
          subst (λ (c : Course). IsBehind next c.history) (sym (course-push control history caller at h.served report))
          (subst (λ (k : List Entry). IsBehind next (with_call k caller (Report at (bare report)))) r.ready (serves r.before caller r.stands));
      refused = λ history caller stands.
          let r : IsReady control now (course history caller).history = ready history caller stands in
          let is : refusal ≡ refusal_of (reply (with_asked control (course history caller).history) (Report at (bare report))) =
          subst (λ (k : List Entry). refusal ≡ refusal_of (reply k (Report at (bare report)))) r.ready (told r.before r.stands) in
          (λ i. first_of (h.refused history caller stands i) (is i)) ∙ ap (λ (c : Course). c.refused) (sym (course-push control history caller at h.served report));
      findings = λ history caller stands.
          let r : IsReady control now (course history caller).history = ready history caller stands in
          let k : List Entry = with_asked control (course history caller).history in
          let is : more ≡ found ++ findings_told k report (reply k (Report at (bare report))) =
          subst (λ (k : List Entry). more ≡ found ++ findings_told k report (reply k (Report at (bare report)))) r.ready (finds r.before r.stands) in
          is ∙ ap (λ (xs : List Finding). xs ++ findings_told k report (reply k (Report at (bare report)))) (h.findings history caller stands)
          ∙ ap (λ (c : Course). c.findings) (sym (course-push control history caller at h.served report));
    }
  where
    control : Option ℕ
    control = began_at first.steering

    course : List Entry → ℕ → Course
    course history caller = course_of control history caller at h.served

    ready : (history : List Entry) (caller : ℕ) → StandsFor first history → IsReady control now (course history caller).history
    ready history caller stands = behind-ready control now (course history caller).history h.control (h.stands history caller stands)
