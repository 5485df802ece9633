-- A seat that is alone was alone before.
use Rattle.std.proofs.Common.{◌≡◌, ◌+◌, ◌≤◌, ◌<◌, ◌==◌, List, [], ◌∷◌, ◌++◌, length, refl, sym, ◌∙◌, ap, subst, arith, append-nil, length-append}
use Rattle.std.proofs.lemmas.List.{append_cancel_right, map-append, length-map}
use Rattle.std.proofs.lemmas.List.Sums.{length-filter, count_by-le-length}
use Rattle.gcc_units.specs.declared.limits.TheConstants.{MOST_ENTRIES}
use Rattle.send_core.specs.declared.call.Call.{Call}
use Rattle.send_core.specs.declared.call.Answer.{Answer}
use Rattle.send_core.specs.declared.call.ApplyFault.TheVariants as fault
use Rattle.send_core.specs.History.{entry, sent_by, accepted}
use Rattle.send_core.specs.Reply.{reply, extension_id, IsLegal}
use Rattle.send_core.specs.Wires.{wires, wire_of}
use Rattle.rtp_wire.specs.Wires.{Wires, bare_wires}
use Rattle.turn_lock.specs.Rule.{by, BeginsWith}
use Rattle.turn_lock.specs.Seats.{SeatIs}
use Rattle.shared_sender.specs.Served.{Answered, entry_of, journal_of, Answers, Refuses}
use Rattle.resending.specs.Alone.{IsAlone, IsAnswered}

none_left : {A : Type 0} (xs : List A) → length xs ≤ 0 → xs ≡ []
none_left [] le = refl
none_left (x ∷ xs) le = absurd (omega (arith, le))

-- what begins its own entries are its own entries
pub begins_own : (seen mine : List Answered) → by 0 seen ≡ mine → BeginsWith mine seen → seen ≡ mine
begins_own seen mine own b =
    let few : length mine ≤ length seen = let n = ap length (sym own) ∙ length-filter (λ (e : Answered). e.caller == 0) seen in
    let m = count_by-le-length (λ (e : Answered). e.caller == 0) seen in omega (arith, n, m) in
    let longer = ap length b.1 ∙ length-append seen b.0 in
    let none : b.0 ≡ [] = none_left b.0 (omega (arith, few, longer)) in
    sym (b.1 ∙ (ap (λ xs. seen ++ xs) none ∙ append-nil seen))

-- a seat that has seen more of the others' calls, and has made none
pub alone_before : (old new : SeatIs Call Answer) → by 0 old.seen ≡ old.mine → new.mine ≡ old.mine → BeginsWith new.seen old.seen → IsAlone new → IsAlone old
alone_before old new own same begins alone =
    begins_own old.seen old.mine own (subst (λ xs. BeginsWith xs old.seen) (alone ∙ same) begins)

pub nothing_seen : (old new : SeatIs Call Answer) → by 0 old.seen ≡ old.mine → new.mine ≡ old.mine → BeginsWith new.seen old.seen → IsAlone new → new.seen ≡ old.seen
nothing_seen old new own same begins alone = alone ∙ (same ∙ sym (alone_before old new own same begins alone))

pub answered_alone : (old new : SeatIs Call Answer) (call : Call) (answer : Answer) → old.number ≡ 0 → by 0 old.seen ≡ old.mine → IsLegal (journal_of new.seen)
    → Answers old call answer new → IsAlone new → IsAnswered old call answer new
answered_alone old new call answer first own legal is alone =
    let e : Answered = record { caller = old.number; call = call; reply = answer } in
    let before : is.before ≡ old.mine = append_cancel_right is.before old.mine (e ∷ []) (sym is.seen ∙ (alone ∙ is.mine)) in
    let was : IsAlone old = begins_own old.seen old.mine own (subst (λ xs. BeginsWith xs old.seen) before is.begins) in
    let same : is.before ≡ old.seen = before ∙ sym was in
    let replies : answer.reply ≡ reply (journal_of old.seen) call = is.replies ∙ ap (λ xs. reply (journal_of xs) call) same in
    record {
      before = was;
      replies = replies;
      packets = is.packets ∙ ap (λ xs. bare_wires (wires (journal_of xs) answer.reply)) same;
      grows =
          ap journal_of is.seen ∙ (map-append entry_of is.before (e ∷ [])
          ∙ (ap (λ xs. journal_of xs ++ entry old.number call answer.reply ∷ []) same
          ∙ (ap (λ n. journal_of old.seen ++ entry n call answer.reply ∷ []) first
          ∙ ap (λ r. journal_of old.seen ++ entry 0 call r ∷ []) replies)));
      legal = legal;
    }

-- at a full journal
pub full_alone : (old new : SeatIs Call Answer) (call : Call) → by 0 old.seen ≡ old.mine → new.mine ≡ old.mine → BeginsWith new.seen old.seen
    → Refuses new.seen call fault.JournalFull → IsAlone new → MOST_ENTRIES < length (journal_of old.seen) + 1
full_alone old new call own same begins full alone =
    let seen = ap length (nothing_seen old new own same begins alone) in
    let count = length-map old.seen entry_of in
    omega (arith, full, seen, count)

-- each packet that left has its record
pub as_many : (old new : SeatIs Call Answer) (call : Call) (answer : Answer) → Answers old call answer new → length answer.wires.items ≡ length (sent_by answer.reply)
as_many old new call answer is =
    ap (λ (w : Wires). length w.items) is.packets ∙ length-map (sent_by answer.reply) (wire_of (extension_id (journal_of is.before)) (accepted (journal_of is.before)))
