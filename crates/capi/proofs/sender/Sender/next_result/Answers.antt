use Rattle.std.proofs.Common.{◌≡◌, ℕ, ◌+◌, suc, Option, None, List, ◌∷◌, drop, refl, sym, ◌∙◌, ap, subst, arith}
use Rattle.std.proofs.lemmas.Option.{none-some}
use Rattle.sent_history.specs.declared.finding.Finding.{Finding}
use Rattle.capi.specs.Outcomes.{Finds}
use Rattle.capi.specs.Serving.{Serving}
use Rattle.capi.proofs.Findings.{found-next, found-past, found-end}
use Rattle.capi.proofs.sender.Sender.next_result.Goals as goal

pub returns-then-self-len : goal.returns-then-self-len
returns-then-self-len c =
    subst (λ (s : Serving). Finds s s None) c.self.view_is (record {
      steered = refl;
      kept = refl;
      findings = refl;
      none = λ _. found-end c.self.inside.told c.self.inside.findings.items (omega (arith, c.len.ensures, c.if-self-len.true));
    })

pub returns-in_err-finding : goal.returns-in_err-finding
returns-in_err-finding c =
    subst (λ (o : Option Finding). Finds c.args.self.now c.args.self.now o) (sym c.from_residual.ensures)
    (subst (λ (s : Serving). Finds s s None) c.self.view_is (record {
      steered = refl;
      kept = refl;
      findings = refl;
      none = λ _. found-past c.self.inside.told c.self.inside.findings.items (sym c.in_err-finding.ensures);
    }))

pub returns : goal.returns
returns c =
    let told : ℕ = c.self.inside.told in
    let items : List Finding = c.self.inside.findings.items in
    let f : Finding = c.in_ok-finding.field-0.now in
    let next : suc told ≡ told + 1 = omega arith in
    let is : drop told items ≡ f ∷ drop (told + 1) items = found-next told items f (sym c.in_ok-finding.ensures) ∙ ap (λ (n : ℕ). f ∷ drop n items) next in
    record {
      steered = ap (λ (s : Serving). s.steered) c.self.view_is;
      kept = ap (λ (s : Serving). s.kept) c.self.view_is;
      findings = sym (ap (λ (s : Serving). s.findings) c.self.view_is) ∙ is;
      none = λ no. absurd (none-some f (sym no));
    }
