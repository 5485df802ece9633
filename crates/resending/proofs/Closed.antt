-- After the one seat was handed in: it was alone.
use Rattle.std.proofs.Common.{◌≡◌, ℕ, zero, suc, ◌≤◌, ◌==◌, Bool, true, false, cond, List, [], ◌∷◌, ◌++◌, refl, sym, ◌∙◌, ap, subst, arith, eq-eqb}
use Rattle.std.specs.List.{Contains}
use Rattle.std.proofs.Common.{length, length-append, All, slice_get, Some}
use Rattle.send_core.specs.declared.call.Call.{Call}
use Rattle.send_core.specs.declared.call.Answer.{Answer}
use Rattle.send_core.specs.declared.call.Entry.{Entry}
use Rattle.turn_lock.specs.Rule.{by, BeginsWith}
use Rattle.turn_lock.specs.Seats.{TableId, SeatIs, HasEvery, new_seat, new_seats}
use Rattle.shared_sender.specs.Served.{Answered, answers_of, journal_of}
use Rattle.shared_sender.proofs.Served.{journal_of-answers}
use Rattle.nack_rtx.specs.declared.resender.RtxSettings.{RtxSettings}
use Rattle.resending.specs.declared.server.Server.{Server}
use Rattle.resending.specs.Serving.{Serving}
use Rattle.resending.specs.Alone.{IsAlone}
use Rattle.resending.specs.Standing.{IsAt, Stands}
use Rattle.resending.proofs.Lone.{begins_own}
use Rattle.resending.proofs.Lines.{all_at}

not_none : {A : Type 0} (x : A) (xs : List A) → x ∷ xs ≡ [] → ⊥
not_none x xs e = cc

-- an entry of another caller is among that one's
others_first : (e : Answered) (es : List Answered) → ((k : ℕ) → 1 ≤ k → by k (e ∷ es) ≡ []) → (e.caller == 0) ≡ true
others_first e es others = of e.caller refl
  where
    of : (n : ℕ) → e.caller ≡ n → (n == 0) ≡ true
    of zero is = refl
    of (suc n) is =
        let mine : (e.caller == suc n) ≡ true = ap (λ k. k == suc n) is ∙ eq-eqb (suc n) (suc n) refl in
        let none : cond (e.caller == suc n) (e ∷ by (suc n) es) (by (suc n) es) ≡ [] = others (suc n) (omega arith) in
        absurd (not_none e (by (suc n) es) (sym (ap (λ b. cond b (e ∷ by (suc n) es) (by (suc n) es)) mine) ∙ none))

rest_none : (k : ℕ) (e : Answered) (es : List Answered) → by k (e ∷ es) ≡ [] → by k es ≡ []
rest_none k e es none = of (e.caller == k) refl
  where
    of : (b : Bool) → (e.caller == k) ≡ b → by k es ≡ []
    of true is = absurd (not_none e (by k es) (sym (ap (λ b. cond b (e ∷ by k es) (by k es)) is) ∙ none))
    of false is = sym (ap (λ b. cond b (e ∷ by k es) (by k es)) is) ∙ none

-- where no other has an entry, all entries are those of the first seat
all_own : (h : List Answered) → ((k : ℕ) → 1 ≤ k → by k h ≡ []) → by 0 h ≡ h
all_own [] others = refl
all_own (e ∷ es) others =
    let first = others_first e es others in
    ap (λ b. cond b (e ∷ by 0 es) (by 0 es)) first ∙ ap (λ l. e ∷ l) (all_own es (λ k le. rest_none k e es (others k le)))

-- so the seat was alone, and what it has seen is the whole journal
pub record IsWhole (journal : List Entry) (seat : SeatIs Call Answer) : Type 0 where
  pub alone : IsAlone seat
  pub seen : journal_of seat.seen ≡ journal

pub whole : (journal : List Entry) (seat : SeatIs Call Answer) → seat.number ≡ 0 → by 0 seat.seen ≡ seat.mine → BeginsWith (answers_of journal) seat.seen
    → by seat.number (answers_of journal) ≡ seat.mine → ((k : ℕ) → 1 ≤ k → by k (answers_of journal) ≡ []) → IsWhole journal seat
whole journal seat first own begins mine others =
    let H : List Answered = answers_of journal in
    let is : H ≡ seat.mine = sym (all_own H others) ∙ (ap (λ n. by n H) (sym first) ∙ mine) in
    let alone : IsAlone seat = begins_own seat.seen seat.mine own (subst (λ l. BeginsWith l seat.seen) is begins) in
    record { alone = alone; seen = ap journal_of (alone ∙ sym is) ∙ journal_of-answers journal }

-- ---- the one seat

-- what is taken out of the list of one seat
pub only_seat : (of : TableId) (rest : List (SeatIs Call Answer)) (seat : SeatIs Call Answer) → new_seats of 0 1 ≡ rest ++ seat ∷ [] → (rest ≡ []) × (seat ≡ new_seat of 0)
only_seat of [] seat e = (refl, cc)
only_seat of (x ∷ rest) seat e = let n = ap length e in let m = length-append rest (seat ∷ []) in absurd (omega (arith, n, m))

-- the list of it has every seat of a turn with one seat
pub has_one : (n : ℕ) (seats : List (SeatIs Call Answer)) (seat : SeatIs Call Answer) → n ≡ 1 → seats ≡ seat ∷ [] → seat.number ≡ 0 → HasEvery n seats
has_one n seats seat one is first k below =
    let z : 0 ≡ k = omega (arith, one, below) in
    (seat, subst (λ l. Contains l seat) (sym is) (0, omega arith, refl), first ∙ z)

-- what closing tells of it
pub whole_of : (n : ℕ) (journal : List Entry) (seats : List (SeatIs Call Answer)) (seat : SeatIs Call Answer) → n ≡ 1 → seats ≡ seat ∷ [] → seat.number ≡ 0 → by 0 seat.seen ≡ seat.mine
    → All (λ s. BeginsWith (answers_of journal) s.seen) seats → All (λ s. by s.number (answers_of journal) ≡ s.mine) seats → ((k : ℕ) → n ≤ k → by k (answers_of journal) ≡ [])
    → IsWhole journal seat
whole_of n journal seats seat one is first own begins mine others =
    let at : slice_get seats 0 ≡ Some seat = ap (λ l. slice_get l 0) is in
    whole journal seat first own (all_at (λ (s : SeatIs Call Answer). BeginsWith (answers_of journal) s.seen) seats 0 seat begins at)
    (all_at (λ (s : SeatIs Call Answer). by s.number (answers_of journal) ≡ s.mine) seats 0 seat mine at)
    (λ k le. others k (omega (arith, one, le)))

-- ---- what was served

pub served_all : (s : RtxSettings) (v : Serving) (server : Server) (journal : List Entry) → IsWhole journal server.seat → Stands s v server → IsAt s v server
served_all s v server journal is stands = stands is.alone

pub journal_is : (s : RtxSettings) (v : Serving) (server : Server) (journal : List Entry) → IsWhole journal server.seat → Stands s v server → journal ≡ v.history
journal_is s v server journal is stands = sym is.seen ∙ (stands is.alone).history
