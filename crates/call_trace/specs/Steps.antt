-- Steps of reading, each of which may fail for a reason.
use Rattle.std.specs.Prelude.{◌≡◌, ℕ, Option, Some, None, Result, Ok, Err}
use Rattle.call_trace.specs.declared.fault.Bad.{Bad}
use Rattle.call_trace.specs.declared.fault.Bad.TheVariants as bad

infixl 10 ◌>>=◌
abbrev pub ◌>>=◌ : {A B E : Type 0} → Result A E → (A → Result B E) → Result B E
(Ok x) >>= f = f x
(Err e) >>= f = Err e

-- what a function answered is what reading gives, unless memory ran out
abbrev pub Fails : {X : Type 0} → Bad → Result X ℕ → Type 0
Fails bad.Memory read = Unit {0}
Fails (bad.Reason r) read = read ≡ Err r

abbrev pub Gives : {X : Type 0} → Result X Bad → Result X ℕ → Type 0
Gives (Ok x) read = read ≡ Ok x
Gives (Err e) read = Fails e read

abbrev pub or_reason : {A : Type 0} → ℕ → Option A → Result A ℕ
or_reason r (Some x) = Ok x
or_reason r None = Err r
