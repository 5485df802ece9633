use Rattle.std.proofs.Common.{◌≡◌, ℕ, zero, suc, List, [], ◌∷◌, refl, sym, subst, arith, rules}
use Rattle.send_core.specs.declared.call.Call.{Call}
use Rattle.send_core.specs.declared.call.Answer.{Answer}
use Rattle.turn_lock.specs.Seats.{SeatIs, HasEvery}
use Rattle.sender_tests.proofs.shared.closed.Goals as goal

every_of_two : (first second : SeatIs Call Answer) → first.number ≡ 0 → second.number ≡ 1 → HasEvery 2 (first ∷ second ∷ [])
every_of_two first second a b zero below = (first, (0, omega arith, refl), a)
every_of_two first second a b (suc zero) below = (second, (1, omega arith, refl), b)
every_of_two first second a b (suc (suc k)) below = absurd (omega arith)

every_in : (n : ℕ) (seats : List (SeatIs Call Answer)) (first second : SeatIs Call Answer) → n ≡ 2 → seats ≡ first ∷ second ∷ []
    → first.number ≡ 0 → second.number ≡ 1 → HasEvery n seats
every_in n seats first second two are a b =
    subst (λ m. HasEvery m seats) (sym two) (subst (HasEvery 2) (sym are) (every_of_two first second a b))

pub close-requires-clause-every : goal.close-requires-clause-every
close-requires-clause-every c =
    every_in c.args.opened.shared.seats c.put-2.new.self.items c.args.opened.first c.args.opened.second c.requires.count (search rules) c.requires.first.1 c.requires.second.1
