-- Serving the lines in their order merges them, and gives a legal history.
use Rattle.std.proofs.Common.{◌≡◌, ℕ, Bool, true, false, cond, eqb, List, [], ◌∷◌, ◌++◌, ◌+◌, ◌≤◌, suc, length, length-append, arith, subst, refl, sym, ap, ◌∙◌, append_assoc}
use Rattle.std.proofs.lemmas.List.{append-nil}
use Rattle.gcc_units.specs.declared.limits.TheConstants.{MOST_ENTRIES}
use Rattle.send_core.specs.Reply.{reply, IsLegal}
use Rattle.send_core.proofs.Legality.{IsLegal-push, IsLegal-first}
use Rattle.std.proofs.lemmas.Grind.{flat_map-append}
use Rattle.send_core.specs.declared.call.Call.{Call}
use Rattle.send_core.specs.declared.call.Entry.{Entry}
use Rattle.call_trace.specs.declared.trace.Action.{Action}
use Rattle.call_trace.specs.declared.trace.Action.TheVariants.{Ask, Look}
use Rattle.call_trace.specs.declared.trace.Line.{Line}
use Rattle.call_trace.specs.Merge.{call_in, asked, calls_of, made, calls_by, Merges}
use Rattle.call_trace.specs.Ordered.{served_by, added, served, ordered}

none_either : (b : Bool) → [] ≡ cond b [] (let none : List Call = [] in none)
none_either true = refl
none_either false = refl

made_by : (history : List Entry) (a actor : ℕ) (action : Action) → calls_by a (served_by history actor action) ≡ cond (eqb actor a) (call_in action) []
made_by history a actor (Ask call) = append-nil (cond (eqb actor a) (call ∷ []) [])
made_by history a actor Look = none_either (eqb actor a)

served_merges : (a : ℕ) (history : List Entry) (lines : List Line) → calls_by a (served history lines) ≡ calls_by a history ++ calls_of a lines
unfolding served
served_merges a history [] = sym (append-nil (calls_by a history))
served_merges a history (line ∷ lines) =
    served_merges a (history ++ added history line) lines
    ∙ ap (λ (cs : List Call). cs ++ calls_of a lines) (flat_map-append (made a) history (added history line) ∙ ap (λ (cs : List Call). calls_by a history ++ cs) (made_by history a line.actor line.action))
    ∙ append_assoc (calls_by a history) (asked a line) (calls_of a lines)

pub ordered_merges : (lines : List Line) → Merges lines (ordered lines)
unfolding ordered
ordered_merges lines a = served_merges a [] lines

added_legal : (history : List Entry) (actor : ℕ) (action : Action) → IsLegal history → suc (length history) ≤ MOST_ENTRIES → IsLegal (history ++ served_by history actor action)
added_legal history actor (Ask call) legal room = IsLegal-push history actor call (reply history call) legal room refl
added_legal history actor Look legal room = subst (λ (h : List Entry). IsLegal h) {x = history} (sym (append-nil history)) legal

added_few : (history : List Entry) (actor : ℕ) (action : Action) → length (history ++ served_by history actor action) ≤ suc (length history)
added_few history actor (Ask call) = simp length-append (omega arith)
added_few history actor Look = rw (append-nil history) (omega arith)

served_legal : (history : List Entry) (lines : List Line) → IsLegal history → length history + length lines ≤ MOST_ENTRIES → IsLegal (served history lines)
unfolding served
served_legal history [] legal room = legal
served_legal history (line ∷ lines) legal room =
    served_legal (history ++ added history line) lines (added_legal history line.actor line.action legal (omega arith)) (omega (arith, added_few history line.actor line.action))

pub ordered_legal : (lines : List Line) → length lines ≤ MOST_ENTRIES → IsLegal (ordered lines)
unfolding ordered
ordered_legal lines few = served_legal [] lines IsLegal-first (omega arith)
