-- The journal and the history with packets, and a call more in both.
use Rattle.std.proofs.Common.{◌≡◌, ℕ, suc, zero, ◌↔◌, ◌≤◌, List, [], ◌∷◌, ◌++◌, length, take, Some, slice_get, Result, Ok, Err, IfOk, IfErr, refl, sym, ◌∙◌, ap, subst, arith, append_assoc, append-nil}
use Rattle.std.proofs.lemmas.List.{map-append}
use Rattle.gcc_units.specs.Walk.{each_by}
use Rattle.gcc_units.proofs.Walk.{each_by-push, each_by-length}
use Rattle.gcc_units.specs.declared.limits.TheConstants.{MOST_ENTRIES}
use Rattle.rtp_wire.specs.Wires.{bare_wires}
use Rattle.send_core.specs.declared.call.Call.{Call}
use Rattle.send_core.specs.declared.call.Answer.{Answer}
use Rattle.send_core.specs.declared.call.Entry.{Entry}
use Rattle.send_core.specs.declared.call.ApplyFault.{ApplyFault}
use Rattle.send_core.specs.declared.call.ApplyFault.TheVariants.{JournalFull, NoMemory}
use Rattle.send_core.specs.History.{entry}
use Rattle.send_core.specs.Reply.{reply, IsLegal}
use Rattle.send_core.specs.Wires.{wires}
use Rattle.turn_lock.specs.Seats.{SeatIs, Adds}
use Rattle.shared_sender.specs.Served.{Answered, answered, answers_of, entry_of, journal_of, HasWires, Refuses, Answers}

pub length-answers : (journal : List Entry) → length (answers_of journal) ≡ length journal
length-answers journal = each_by-length answered [] journal

wires_from : (before xs : List Entry) (n : ℕ) (e : Answered) → slice_get (each_by answered before xs) n ≡ Some e
    → e.reply.wires ≡ bare_wires (wires (before ++ journal_of (take n (each_by answered before xs))) e.reply.reply)
wires_from before [] n e at = absurd cc
wires_from before (x ∷ xs) zero e at =
    let same : answered before x ≡ e = cc in
    subst (λ (a : Answered). a.reply.wires ≡ bare_wires (wires (before ++ []) a.reply.reply)) same (ap (λ ys. bare_wires (wires ys x.reply)) (sym (append-nil before)))
wires_from before (x ∷ xs) (suc n) e at =
    wires_from (before ++ x ∷ []) xs n e at
    ∙ ap (λ ys. bare_wires (wires ys e.reply.reply)) (append_assoc before (x ∷ []) (journal_of (take n (each_by answered (before ++ x ∷ []) xs))))

pub answers_have_wires : (journal : List Entry) → HasWires (answers_of journal)
answers_have_wires journal n e at = wires_from [] journal n e at

-- ---- a call more

pub answers_grow : (h new : List Entry) (caller : ℕ) (call : Call) (result : Result Answer (ApplyFault × Call))
    → IfOk result (λ a. a.wires ≡ bare_wires (wires h a.reply)) → IfOk result (λ a. new ≡ h ++ entry caller call a.reply ∷ [])
    → IfOk result (λ a. answers_of new ≡ answers_of h ++ record { caller = caller; call = call; reply = a } ∷ [])
answers_grow h new caller call (Err e) packets grows = tt
answers_grow h new caller call (Ok a) packets grows =
    ap answers_of grows
    ∙ (each_by-push answered [] h (entry caller call a.reply)
    ∙ ap (λ w. answers_of h ++ record { caller = caller; call = call; reply = record { reply = a.reply; wires = w } } ∷ []) (sym packets))

other_fault : NoMemory ≡ JournalFull → ⊥
other_fault is = cc

refused_at : (h : List Entry) (call : Call) (fault : ApplyFault) → length h ≤ MOST_ENTRIES → (fault ≡ JournalFull) ↔ (length h ≡ MOST_ENTRIES)
    → Refuses (answers_of h) call fault
refused_at h call JournalFull short full = length-answers h ∙ full.0 refl
refused_at h call NoMemory short full =
    let open_still : (length h ≡ MOST_ENTRIES) → ⊥ = λ is. other_fault (full.1 is) in
    omega (arith, length-answers h, short, open_still)

pub refused : (h : List Entry) (call : Call) (result : Result Answer (ApplyFault × Call)) → length h ≤ MOST_ENTRIES
    → IfErr result (λ e. (e.0 ≡ JournalFull) ↔ (length h ≡ MOST_ENTRIES)) → IfErr result (λ e. Refuses (answers_of h) call e.0)
refused h call (Ok a) short full = tt
refused h call (Err e) short full = refused_at h call e.0 short full

-- ---- what the last entry says

each-last : {A : Type 0} (P : List A → A → Type 0) (xs : List A) (x : A)
    → ((n : ℕ) (y : A) → slice_get (xs ++ x ∷ []) n ≡ Some y → P (take n (xs ++ x ∷ [])) y) → P xs x
each-last P [] x each = each 0 x refl
each-last P (z ∷ zs) x each = each-last (λ ys. P (z ∷ ys)) zs x (λ n y at. each (suc n) y at)

last_reply : (before : List Answered) (e : Answered) → IsLegal (journal_of (before ++ e ∷ [])) → e.reply.reply ≡ reply (journal_of before) e.call
last_reply before e legal =
    let split : journal_of (before ++ e ∷ []) ≡ journal_of before ++ entry_of e ∷ [] = map-append entry_of before (e ∷ []) in
    each-last (λ ys (y : Entry). y.reply ≡ reply ys y.call) (journal_of before) (entry_of e) (subst IsLegal split legal).each

last_wires : (before : List Answered) (e : Answered) → HasWires (before ++ e ∷ []) → e.reply.wires ≡ bare_wires (wires (journal_of before) e.reply.reply)
last_wires before e all = each-last (λ ys (y : Answered). y.reply.wires ≡ bare_wires (wires (journal_of ys) y.reply.reply)) before e all

pub answered_by : (old new : SeatIs Call Answer) (call : Call) (result : Result Answer (ApplyFault × Call))
    → IsLegal (journal_of new.seen) → HasWires new.seen → IfOk result (λ a. Adds old call a new) → IfOk result (λ a. Answers old call a new)
answered_by old new call (Err e) legal packets adds = tt
answered_by old new call (Ok a) legal packets adds =
    let before : List Answered = old.seen ++ adds.0 in
    let last : Answered = record { caller = old.number; call = call; reply = a } in
    record {
      before = before;
      begins = (adds.0, refl);
      seen = adds.1;
      mine = adds.2;
      replies = last_reply before last (subst (λ h. IsLegal (journal_of h)) adds.1 legal);
      packets = last_wires before last (subst HasWires adds.1 packets);
    }
