-- A packet that was sent waits no more.
use Rattle.std.proofs.Common.{◌≡◌, ℕ, Bool, false, Option, None, Some, is_some, List, [], ◌∷◌, refl, sym, ◌∙◌}
use Rattle.pace_queues.specs.declared.ticket.Ticket.{Ticket}
use Rattle.pace_queues.specs.Waiting.{next, rest, without_one}
use Rattle.pacer.specs.declared.sent.Sent.{Sent}
use Rattle.pacer.specs.Pace.{index_of, unsent}
use Rattle.pacer.proofs.Records.{unsent-one, unsent-no_index}

taken_one : (r : Sent) (o : Option Ticket) (ts : List Ticket) → r.index ≡ index_of o → without_one o ts ≡ unsent (r ∷ []) ts
taken_one r None ts is = sym (unsent-no_index r is ts)
taken_one r (Some t) ts is = sym (unsent-one r t.index is ts)

-- the rest behind the next one is what its record leaves unsent
pub taken : (r : Sent) (ts new : List Ticket) → r.index ≡ index_of (next ts) → new ≡ rest ts → new ≡ unsent (r ∷ []) ts
taken r ts new is left = left ∙ taken_one r (next ts) ts is

-- where the test fails there is none
pub none-of : (o : Option ℕ) (b : Bool) → b ≡ is_some o → b ≡ false → o ≡ None
none-of None b is e = refl
none-of (Some k) b is e = absurd cc
