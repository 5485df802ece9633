-- One line more, one glance more, one actor more.
use Rattle.std.proofs.Common.{◌≡◌, ℕ, suc, zero, ◌+◌, ◌≤◌, List, [], ◌∷◌, ◌++◌, length, refl, sym, ◌∙◌, ap, arith, append_assoc, append-nil, length-append}
use Rattle.std.specs.List.{flat_map, range_with_len}
use Rattle.send_core.specs.declared.call.Call.{Call}
use Rattle.send_core.specs.declared.call.Reply.{Reply}
use Rattle.send_core.specs.declared.call.Entry.{Entry}
use Rattle.send_core.specs.History.{entry}
use Rattle.send_core.specs.Reply.{reply}
use Rattle.call_trace.specs.declared.trace.Line.{Line}
use Rattle.call_trace.specs.declared.trace.Action.{Action}
use Rattle.call_trace.specs.declared.trace.Action.TheVariants.{Ask, Look}
use Rattle.call_trace.specs.Ordered.{served_by, served, ordered, added}
use Rattle.call_trace.proofs.Ordered.{ordered-push}
use Rattle.reply_text.specs.declared.seen.Seen.{Seen}
use Rattle.run_top.specs.Replay.{looked, seen_from}

pub served-one : (history : List Entry) (line : Line) → served history (line ∷ []) ≡ history ++ added history line
unfolding served
served-one history line = refl

-- a line served behind others
pub ordered-more : (lines : List Line) (line : Line) → served (ordered lines) (line ∷ []) ≡ ordered (lines ++ line ∷ [])
ordered-more lines line = served-one (ordered lines) line ∙ sym (ordered-push lines line)

pub seen_from-push : (before lines : List Line) (line : Line)
    → seen_from before (lines ++ line ∷ []) ≡ seen_from before lines ++ looked (ordered (before ++ lines)) line.actor line.action
seen_from-push before [] line =
    append-nil (looked (ordered before) line.actor line.action) ∙ ap (λ ls. looked (ordered ls) line.actor line.action) (sym (append-nil before))
seen_from-push before (first ∷ lines) line =
    let front : List Seen = looked (ordered before) first.actor first.action in
    ap (λ gs. front ++ gs) (seen_from-push (before ++ first ∷ []) lines line)
    ∙ (ap (λ ls. front ++ (seen_from (before ++ first ∷ []) lines ++ looked (ordered ls) line.actor line.action)) (append_assoc before (first ∷ []) lines)
    ∙ sym (append_assoc front (seen_from (before ++ first ∷ []) lines) (looked (ordered (before ++ first ∷ lines)) line.actor line.action)))

flat_map-range_from : {A : Type 0} (f : ℕ → List A) (a n : ℕ) → flat_map f (range_with_len a (n + 1)) ≡ flat_map f (range_with_len a n) ++ f (a + n)
flat_map-range_from f a zero =
    let z : a + zero ≡ a = omega arith in
    append-nil (f a) ∙ ap f (sym z)
flat_map-range_from f a (suc n) =
    let one : suc n + 1 ≡ suc (n + 1) = omega arith in
    let there : a + suc n ≡ a + 1 + n = omega arith in
    rw (one, there) (ap (λ ys. f a ++ ys) (flat_map-range_from f (a + 1) n) ∙ sym (append_assoc (f a) (flat_map f (range_with_len (a + 1) n)) (f (a + 1 + n))))

pub flat_map-range : {A : Type 0} (f : ℕ → List A) (n : ℕ) → flat_map f (range_with_len 0 (n + 1)) ≡ flat_map f (range_with_len 0 n) ++ f n
flat_map-range f n =
    let z : 0 + n ≡ n = omega arith in
    flat_map-range_from f 0 n ∙ ap (λ k. flat_map f (range_with_len 0 n) ++ f k) z

-- ---- one line

pub served-ask : (h : List Entry) (line : Line) (call : Call) (given : Reply) (new : List Entry)
    → line.action ≡ Ask call → given ≡ reply h call → new ≡ h ++ entry line.actor call given ∷ [] → new ≡ served h (line ∷ [])
served-ask h line call given new asks replies grows =
    grows
    ∙ (ap (λ r. h ++ entry line.actor call r ∷ []) replies
    ∙ (ap (λ a. h ++ served_by h line.actor a) (sym asks)
    ∙ sym (served-one h line)))

pub served-look : (h : List Entry) (line : Line) → line.action ≡ Look → h ≡ served h (line ∷ [])
served-look h line looks = sym (append-nil h) ∙ (ap (λ a. h ++ served_by h line.actor a) (sym looks) ∙ sym (served-one h line))

served_by-few : (h : List Entry) (actor : ℕ) (action : Action) → length (served_by h actor action) ≤ 1
served_by-few h actor (Ask call) = omega arith
served_by-few h actor Look = omega arith

pub served-few : (h : List Entry) (line : Line) → length (served h (line ∷ [])) ≤ length h + 1
served-few h line =
    let one : length (served_by h line.actor line.action) ≤ 1 = served_by-few h line.actor line.action in
    rw (served-one h line, length-append h (added h line)) (omega arith)
