-- What a push leaves.
use Rattle.std.proofs.Common.{◌≡◌, ◌-◌, [], ◌∷◌, ◌++◌, false, Result, Ok, Err, sym, ap, ◌∙◌}
use Rattle.std.specs.Prelude.{OnOk}
use Rattle.std.specs.Result.{is_err}
use Rattle.gcc_units.specs.Listed.{Listed, bare}

-- what a push that did not fail promised
pub pushed : {A E : Type 0} (r : Result A E) (P : Type 0) → OnOk r P → is_err r ≡ false → P
pushed (Ok x) P p ok = p
pushed (Err e) P p ok = absurd cc

pub still_bare : {T : Type 0} (new old : Listed T) (first : T) → new ≡ record { items = old.items ++ first ∷ []; spare = old.spare - 1 } → old ≡ bare old.items → new ≡ bare new.items
still_bare new old first grown was =
    let none : old.spare ≡ 0 = ap (λ l. l.spare) was in
    let made : new ≡ bare (old.items ++ first ∷ []) = rw none at grown in
    made ∙ ap bare (sym (ap (λ l. l.items) grown))
