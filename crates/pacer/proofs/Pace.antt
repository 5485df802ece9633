-- The sends of a pace, unfolded by one.
use Rattle.std.specs.Prelude.{◌≡◌, ℕ, suc, [], refl}
use Rattle.pacer.specs.declared.course.Terms.{Terms}
use Rattle.pacer.specs.Pace.{Standing, rule, after, then_on, paced}

pub paced-zero : (terms : Terms) (s : Standing) → paced 0 terms s ≡ []
unfolding paced
paced-zero terms s = refl

pub paced-suc : (most : ℕ) (terms : Terms) (s : Standing) → paced (suc most) terms s ≡ then_on (rule terms s) (λ r. paced most terms (after terms s r))
unfolding paced
paced-suc most terms s = refl
