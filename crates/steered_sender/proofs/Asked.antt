-- The entry of what is wanted.
use Rattle.std.proofs.Common.{◌≡◌, ℕ, ◌==◌, true, Option, Some, None, List, [], ◌∷◌, ◌++◌, refl, sym}
use Rattle.std.proofs.lemmas.List.{append-nil}
use Rattle.std.proofs.lemmas.Bool.{eq-eqb}
use Rattle.send_core.specs.declared.call.Call.TheVariants as call_kind
use Rattle.send_core.specs.declared.call.Change.{Change}
use Rattle.send_core.specs.declared.call.Entry.{Entry}
use Rattle.send_core.specs.declared.call.Reply.{Reply}
use Rattle.send_core.specs.History.{entry, now}
use Rattle.send_core.specs.Reply.{reply}
use Rattle.steered_sender.specs.declared.steering.Wanted.{Wanted}
use Rattle.steered_sender.specs.declared.steering.TheConstants.{CONTROL_CALLER}
use Rattle.steered_sender.specs.Steered.{change_for, with_wanted}

pub asked-is : (h : List Entry) (w : Wanted) (o : Option Wanted) (moment : ℕ) (change : Change) (given : Reply) → o ≡ Some w → moment ≡ now h → change ≡ change_for w
    → given ≡ reply h (call_kind.Configure moment change) → h ++ entry CONTROL_CALLER (call_kind.Configure moment change) given ∷ [] ≡ with_wanted h o
asked-is h w o moment change given a b c d = rw (d, b, c, a) refl

pub asked-none : (h : List Entry) (o : Option Wanted) → o ≡ None → h ≡ with_wanted h o
asked-none h o a = rw a (sym (append-nil h))

pub control-is : (CONTROL_CALLER == CONTROL_CALLER) ≡ true
control-is = eq-eqb CONTROL_CALLER CONTROL_CALLER refl
