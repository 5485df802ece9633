use Rattle.std.proofs.Common.{◌≡◌, ℕ, None, Some, List, Option, replicate, refl, ap, sym, subst, ◌∙◌, get_or}
use Rattle.std.proofs.lemmas.List.{get_or-replicate}
use Rattle.circular_buffer.specs.Buffer.{Buffer}
use Rattle.nack_rtx.specs.Keeping.{Keeps}
use Rattle.nack_rtx.proofs.Kept.{account-none}
use Rattle.nack_rtx.proofs.resender.Resender.new.Goals as goal

only_none : (P : Option ℕ → Type 0) → ((x : ℕ) → P (Some x) → ⊥) → (y : Option ℕ) → P y → y ≡ None
only_none P other None p = refl
only_none P other (Some x) p = absurd (other x p)

pub returns-clause-stands : goal.returns-clause-stands
returns-clause-stands c =
    let places : c.in_ok-vec.field-0.items ≡ replicate 65536 None = c.in_ok-vec.ensures.items_if_clones_equal (only_none _ (λ x e. e)) in
    subst (Keeps _) (sym (account-none c.args.settings))
    (record {
      packets = ap (λ (b : Buffer (List ℕ)). b.items) c.in_ok-with_capacity.ensures;
      counts = c.in_ok-new.ensures;
      each = refl;
      places = λ seq lt. ap (λ (xs : List (Option ℕ)). get_or xs seq None) places ∙ get_or-replicate 65536 seq None None lt;
      kept = refl;
      resends = refl;
    })
