-- Steps that did not fail.
use Rattle.std.proofs.Common.{◌≡◌, ℕ, Bool, true, false, cond, Option, Some, None, Result, Ok, Err, refl, ap, inl, inr}
use Rattle.std.specs.Prelude.{◌⊎◌}
use Rattle.call_trace.specs.Steps.{◌>>=◌, or_reason}

pub bind_ok : {A B E : Type 0} (r : Result A E) (f : A → Result B E) (y : B) → (r >>= f) ≡ Ok y → (x : A) × (r ≡ Ok x) × (f x ≡ Ok y)
bind_ok (Ok x) f y e = (x, refl, e)
bind_ok (Err d) f y e = absurd cc

abbrev pub done : {A E : Type 0} → A → Result A E
done x = Ok x

pub ok_is : {A E : Type 0} (x y : A) → done {A = A} {E = E} x ≡ done y → x ≡ y
ok_is x y e = cc

pub or_reason_ok : {A : Type 0} (r : ℕ) (o : Option A) (x : A) → or_reason r o ≡ Ok x → o ≡ Some x
or_reason_ok r (Some y) x e = ap (λ z. Some z) (ok_is y x e)
or_reason_ok r None x e = absurd cc

pub guard_ok : {A E : Type 0} (b : Bool) (x y : A) (d : E) → cond b (Ok x) (Err d) ≡ Ok y → (b ≡ true) × (x ≡ y)
guard_ok true x y d e = (refl, ok_is x y e)
guard_ok false x y d e = absurd cc

pub pick : {A E : Type 0} (b : Bool) (r s : Result A E) (y : A) → cond b r s ≡ Ok y → ((b ≡ true) × (r ≡ Ok y)) ⊎ (s ≡ Ok y)
pick true r s y e = inl (refl, e)
pick false r s y e = inr e
