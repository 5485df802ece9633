-- One more entry keeps a history legal.
use Rattle.std.proofs.Common.{◌≡◌, ℕ, suc, zero, ◌<◌, Some, List, [], ◌∷◌, ◌++◌, length, take, slice_get, subst, arith, length-append}
use Rattle.gcc_units.specs.declared.limits.TheConstants.{MOST_ENTRIES}
use Rattle.send_core.specs.declared.call.Call.{Call}
use Rattle.send_core.specs.declared.call.Reply.{Reply}
use Rattle.send_core.specs.declared.call.Entry.{Entry}
use Rattle.send_core.specs.History.{entry}
use Rattle.send_core.specs.Reply.{reply, IsLegal}

-- what holds of each element after those before it holds so with one more
pub each-push : {A : Type 0} (P : List A → A → Type 0) (xs : List A) (x : A)
    → ((n : ℕ) (y : A) → slice_get xs n ≡ Some y → P (take n xs) y) → P xs x
    → (n : ℕ) (y : A) → slice_get (xs ++ x ∷ []) n ≡ Some y → P (take n (xs ++ x ∷ [])) y
each-push P [] x each last zero y is = let same : x ≡ y = cc in subst (P []) same last
each-push P [] x each last (suc n) y is = absurd cc
each-push P (z ∷ zs) x each last zero y is = each zero y is
each-push P (z ∷ zs) x each last (suc n) y is = each-push (λ ys. P (z ∷ ys)) zs x (λ k v. each (suc k) v) last n y is

pub IsLegal-push : (h : List Entry) (caller : ℕ) (call : Call) (given : Reply)
    → IsLegal h → length h < MOST_ENTRIES → given ≡ reply h call → IsLegal (h ++ entry caller call given ∷ [])
IsLegal-push h caller call given legal short is = record {
  short = rw (length-append h (entry caller call given ∷ [])) (omega arith);
  each = each-push (λ before (e : Entry). e.reply ≡ reply before e.call) h (entry caller call given) legal.each is;
}

pub IsLegal-first : IsLegal []
IsLegal-first = record { short = omega arith; each = λ n e is. absurd cc }
