-- What a verdict says, and that it says no more.
use Rattle.std.proofs.Common.{◌≡◌, ℕ, ◌≤◌, ◌<◌, List, length, refl, sym, ◌∙◌, ap, subst, Bor}
use Rattle.std.specs.Prelude.{◌↔◌}
use Rattle.std.specs.List.{All as EachOf}
use Rattle.gcc_units.specs.declared.limits.TheConstants.{MOST_ACTORS, MOST_LINES}
use Rattle.call_trace.specs.declared.trace.Line.{Line}
use Rattle.reply_text.specs.declared.check.Verdict.{Verdict}
use Rattle.reply_text.specs.declared.check.Verdict.TheVariants as verdict
use Rattle.reply_text.specs.Legal.{IsLegalText}
use Rattle.reply_text.specs.declared.serving.Served.{Served}
use Rattle.reply_text.specs.declared.serving.Walked.{Walked}
use Rattle.reply_text.specs.declared.serving.Walked.TheVariants.{All}
use Rattle.reply_text.specs.Verdict.{calls, Begins, IsEnding, DiffersAt, ending}
use Rattle.reply_text.specs.Walking.{IsWalked}
use Rattle.reply_text.proofs.Steps.{differs_one}
use Rattle.reply_text.proofs.Exact.{legal_from, legal_differs}

differs : ℕ → Verdict
differs k = verdict.Differs k

module _ (lines : List Line) (actors : ℕ) (text : List ℕ) (few : actors ≤ MOST_ACTORS) (below : EachOf (λ (line : Line). line.actor < actors) lines) where
  pub differs_legal : (k : ℕ) → DiffersAt lines actors text k → (verdict.Differs k ≡ verdict.Legal) ↔ IsLegalText lines actors text
  differs_legal k d = (λ wrong. absurd cc, λ t. absurd (legal_differs lines actors text few below t k d))

  pub differs_differs : (k : ℕ) → DiffersAt lines actors text k → (j : ℕ) → (verdict.Differs k ≡ verdict.Differs j) ↔ DiffersAt lines actors text j
  unfolding differs
  differs_differs k d j = (
    λ is. (let same : k ≡ j = cc in subst (λ i. DiffersAt lines actors text i) same d),
    λ other. ap differs (differs_one lines actors text few k j d other),
  )

  pub legal_legal : IsLegalText lines actors text → (verdict.Legal ≡ verdict.Legal) ↔ IsLegalText lines actors text
  legal_legal t = (λ same. t, λ u. refl)

  pub legal_nowhere : IsLegalText lines actors text → (j : ℕ) → (verdict.Legal ≡ verdict.Differs j) ↔ DiffersAt lines actors text j
  legal_nowhere t j = (λ wrong. absurd cc, λ d. absurd (legal_differs lines actors text few below t j d))

-- ---- behind a good line for each call

module _ (ls lines : List Line) (actors : ℕ) (text : List ℕ) (served : Served) (rest : Bor (List ℕ)) (whole : Walked) (same : ls ≡ lines) where
  begins_of : whole ≡ All served rest → IsWalked ls actors text whole → Begins lines actors text (length (calls lines)) served.sender rest.now
  begins_of is walked =
      let there : IsWalked ls actors text (All served rest) = subst (λ (w : Walked). IsWalked ls actors text w) is walked in
      subst (λ (l : List Line). Begins l actors text (length (calls l)) served.sender rest.now) same there.0

  pub all_right : whole ≡ All served rest → IsWalked ls actors text whole → length lines ≤ MOST_LINES → IsEnding ls actors served.sender rest.now → IsLegalText lines actors text
  all_right is walked few right =
      legal_from lines actors text served.sender rest.now few (begins_of is walked) (subst (λ (l : List Line). IsEnding l actors served.sender rest.now) same right)

  pub all_wrong : whole ≡ All served rest → IsWalked ls actors text whole → (IsEnding ls actors served.sender rest.now → ⊥) → (k : ℕ) → k ≡ length (calls ls) → DiffersAt lines actors text k
  all_wrong is walked wrong k count =
      let at : k ≡ length (calls lines) = count ∙ ap (λ (l : List Line). length (calls l)) same in
      ending served.sender rest.now at (subst (λ i. Begins lines actors text i served.sender rest.now) (sym at) (begins_of is walked))
      (λ right. wrong (subst (λ (l : List Line). IsEnding l actors served.sender rest.now) (sym same) right))
