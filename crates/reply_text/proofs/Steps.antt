-- The lines of a text lead to one history, and a text differs at one place.
use Rattle.std.proofs.Common.{◌≡◌, ℕ, suc, zero, ◌<◌, ◌≤◌, ◌^◌, List, [], ◌∷◌, ◌++◌, length, Some, sym, ◌∙◌, ap, subst, arith, append_assoc, inl, inr}
use Rattle.std.specs.Fmt.{decimal}
use Rattle.std.proofs.lemmas.Bool.{cases_lt}
use Rattle.std.proofs.lemmas.List.{append_cancel_left}
use Rattle.std.proofs.lemmas.Option.{same_Some}
use Rattle.gcc_units.specs.declared.limits.TheConstants.{MOST_ACTORS}
use Rattle.send_core.specs.declared.call.Call.{Call}
use Rattle.send_core.specs.declared.call.Entry.{Entry}
use Rattle.send_core.specs.History.{entry}
use Rattle.send_core.specs.Reply.{reply}
use Rattle.call_trace.specs.declared.trace.Line.{Line}
use Rattle.call_trace.specs.Fields.{field, number_of}
use Rattle.call_trace.specs.Merge.{calls_by}
use Rattle.call_trace.proofs.Numbers.{number_of-decimal, Lacks-decimal}
use Rattle.call_trace.proofs.Parts.{field_of}
use Rattle.reply_text.specs.Text.{reply_text, line_of}
use Rattle.reply_text.specs.Verdict.{calls, IsNext, IsStep, HasGoodLine, title, Begins, IsEnding, DiffersAt, first, line, ending}

-- a line tells its caller
pub caller_told : (e : Entry) (more : List ℕ) → e.caller < 2 ^ 64 → number_of (field (line_of e ++ more)) ≡ Some e.caller
caller_told e more small =
    let parted : line_of e ++ more ≡ decimal e.caller ++ 32 ∷ (reply_text e.reply ++ 10 ∷ more) = simp append_assoc in
    ap (λ xs. number_of (field xs)) parted
    ∙ (ap number_of (field_of (decimal e.caller) (reply_text e.reply ++ 10 ∷ more) (Lacks-decimal 32 e.caller (omega arith) small))
    ∙ number_of-decimal e.caller small)

-- an actor has one next call
pub next_one : (lines : List Line) (h : List Entry) (a : ℕ) (c d : Call) → IsNext lines h a c → IsNext lines h a d → c ≡ d
next_one lines h a c d one other =
    let same : c ∷ one.0 ≡ d ∷ other.0 = append_cancel_left (calls_by a h) (c ∷ one.0) (d ∷ other.0) (sym one.1 ∙ other.1) in
    cc

pub same_entry : (e f : Entry) → e.caller ≡ f.caller → e.call ≡ f.call → e.reply ≡ f.reply → e ≡ f
same_entry e f a b c = ap (λ x. entry x e.call e.reply) a ∙ (ap (λ x. entry f.caller x e.reply) b ∙ ap (λ x. entry f.caller f.call x) c)

module _ (lines : List Line) (actors : ℕ) where
  -- what is left begins with the line of one entry
  pub step_one : (h g : List Entry) (r s : List ℕ) (e f : Entry) (m n : List ℕ) → actors ≤ MOST_ACTORS → h ≡ g → r ≡ s
      → IsStep lines actors h r e m → IsStep lines actors g s f n → (e ≡ f) × (m ≡ n)
  step_one h g r s e f m n few same-h same-r one other =
      let told-e : number_of (field r) ≡ Some e.caller = ap (λ xs. number_of (field xs)) one.printed ∙ caller_told e m (omega (arith, one.actor)) in
      let told-f : number_of (field s) ≡ Some f.caller = ap (λ xs. number_of (field xs)) other.printed ∙ caller_told f n (omega (arith, other.actor)) in
      let caller : e.caller ≡ f.caller = same_Some e.caller f.caller (sym told-e ∙ (ap (λ xs. number_of (field xs)) same-r ∙ told-f)) in
      let moved : IsNext lines h e.caller f.call = subst (λ a. IsNext lines h a f.call) (sym caller) (subst (λ (x : List Entry). IsNext lines x f.caller f.call) (sym same-h) other.next) in
      let call : e.call ≡ f.call = next_one lines h e.caller e.call f.call one.next moved in
      let given : e.reply ≡ f.reply = one.served ∙ (ap (λ (x : List Entry). reply x e.call) same-h ∙ (ap (reply g) call ∙ sym other.served)) in
      let same : e ≡ f = same_entry e f caller call given in
      let left : line_of e ++ m ≡ line_of e ++ n = sym one.printed ∙ (same-r ∙ (other.printed ∙ ap (λ (x : Entry). line_of x ++ n) (sym same))) in
      (same, append_cancel_left (line_of e) m n left)

module _ (lines : List Line) (actors : ℕ) (text : List ℕ) (few : actors ≤ MOST_ACTORS) where
  pub begins_one : (k : ℕ) (h g : List Entry) (r s : List ℕ) → Begins lines actors text k h r → Begins lines actors text k g s → (h ≡ g) × (r ≡ s)
  begins_one zero h g r s one other = (one.0 ∙ sym other.0, append_cancel_left title r s (sym one.1 ∙ other.1))
  begins_one (suc k) h g r s one other =
      let before = begins_one k one.0 other.0 one.1 other.1 one.3 other.3 in
      let now = step_one lines actors one.0 other.0 one.1 other.1 one.2 other.2 r s few before.0 before.1 one.4 other.4 in
      let joined : one.0 ++ one.2 ∷ [] ≡ other.0 ++ other.2 ∷ [] = ap (λ (x : List Entry). x ++ one.2 ∷ []) before.0 ∙ ap (λ (e : Entry). other.0 ++ e ∷ []) now.0 in
      (one.5 ∙ (joined ∙ sym other.5), now.1)

  pub begins_title : (k : ℕ) (h : List Entry) (r : List ℕ) → Begins lines actors text k h r → (rest : List ℕ) × (text ≡ title ++ rest)
  begins_title zero h r b = (r, b.1)
  begins_title (suc k) h r b = begins_title k b.0 b.1 b.3

  -- each line before a place is a good one
  good_before : (j k : ℕ) (h : List Entry) (r : List ℕ) → j < k → Begins lines actors text k h r
      → (g : List Entry) × (s : List ℕ) × Begins lines actors text j g s × HasGoodLine lines actors g s
  good_before j zero h r low b = absurd (omega arith)
  good_before j (suc k) h r low b =
      elim (cases_lt j k) [
        | inl lower ↦ good_before j k b.0 b.1 lower b.3
        | inr here ↦
            let same : k ≡ j = omega arith in
            (b.0, b.1, subst (λ i. Begins lines actors text i b.0 b.1) same b.3, (b.2, r, b.4))
      ]

  apart : (j k : ℕ) (h g : List Entry) (r s : List ℕ) → j < k → Begins lines actors text j h r → ¬ HasGoodLine lines actors h r → Begins lines actors text k g s → ⊥
  apart j k h g r s low bad-begins bad good =
      let there = good_before j k g s low good in
      let same = begins_one j there.0 h there.1 r there.2 bad-begins in
      bad (subst (λ (x : List Entry). HasGoodLine lines actors x r) same.0 (subst (λ xs. HasGoodLine lines actors there.0 xs) same.1 there.3))

  pub differs_one : (j k : ℕ) → DiffersAt lines actors text j → DiffersAt lines actors text k → j ≡ k
  differs_one j k (first a p) (first b q) = a ∙ sym b
  differs_one j k (first a p) (line g s b q bad) = absurd (let t = begins_title k g s q in p t.0 t.1)
  differs_one j k (first a p) (ending g s b q bad) = absurd (let t = begins_title k g s q in p t.0 t.1)
  differs_one j k (line h r a p bad) (first b q) = absurd (let t = begins_title j h r p in q t.0 t.1)
  differs_one j k (ending h r a p bad) (first b q) = absurd (let t = begins_title j h r p in q t.0 t.1)
  differs_one j k (line h r a p bad) (line g s b q ill) =
      elim (cases_lt j k) [
        | inl lower ↦ absurd (apart j k h g r s lower p bad q)
        | inr higher ↦ elim (cases_lt k j) [ inl lower ↦ absurd (apart k j g h s r lower q ill p) | inr rest ↦ omega arith ]
      ]
  differs_one j k (line h r a p bad) (ending g s b q ill) = absurd (apart j k h g r s (omega arith) p bad q)
  differs_one j k (ending h r a p bad) (line g s b q ill) = absurd (apart k j g h s r (omega arith) q ill p)
  differs_one j k (ending h r a p bad) (ending g s b q ill) = a ∙ sym b

  -- where each line is good and the ending is right, the text differs nowhere
  pub never_differs : (h : List Entry) (r : List ℕ) → Begins lines actors text (length (calls lines)) h r → IsEnding lines actors h r → (k : ℕ) → DiffersAt lines actors text k → ⊥
  never_differs h r b right k (first at p) = let t = begins_title (length (calls lines)) h r b in p t.0 t.1
  never_differs h r b right k (line g s low q bad) = apart k (length (calls lines)) g h s r low q bad b
  never_differs h r b right k (ending g s at q bad) =
      let same = begins_one (length (calls lines)) h g r s b (subst (λ i. Begins lines actors text i g s) at q) in
      bad (subst (λ xs. IsEnding lines actors g xs) same.1 (subst (λ (x : List Entry). IsEnding lines actors x r) same.0 right))
