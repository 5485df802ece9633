-- The reports of a trace's calls are lists of bytes, and so the laws of credit hold of them.
use Rattle.std.proofs.Common.{◌≡◌, ◌≢◌, ℕ, ◌+◌, ◌≤◌, ◌<◌, ◌==◌, cond, Bool, true, false, List, [], ◌∷◌, ◌++◌, length, All, refl, sym, subst, arith}
use Rattle.std.specs.List.{AllZip, flat_map}
use Rattle.std.proofs.lemmas.List.Elements.{All-nil, All-cons, All-head, All-tail, All-append, All-from_get_or}
use Rattle.hex.proofs.HexLemmas.{decode_of-ok}
use Rattle.gcc_units.specs.declared.limits.TheConstants.{MOST_ENTRIES}
use Rattle.send_core.specs.declared.call.Call.{Call}
use Rattle.send_core.specs.declared.call.Call.TheVariants as call
use Rattle.send_core.specs.declared.call.Entry.{Entry}
use Rattle.send_core.specs.Reply.{IsLegal}
use Rattle.send_laws.specs.Credits.{IsByte, BringsBytes, HasBytes, AreByteReports}
use Rattle.send_laws.proofs.Remaining.{told-once, told-balanced}
use Rattle.call_trace.specs.declared.trace.Action.{Action}
use Rattle.call_trace.specs.declared.trace.Action.TheVariants.{Ask, Look}
use Rattle.call_trace.specs.declared.trace.Line.{Line}
use Rattle.call_trace.specs.Grammar.{IsTrace, IsLine, IsAction}
use Rattle.call_trace.specs.Merge.{call_in, asked, calls_of, made, calls_by, Merges}
use Rattle.call_trace.specs.Ordered.{ordered}
use Rattle.call_trace.specs.Plain.{Plain}
use Rattle.call_trace.proofs.Merging.{ordered_merges, ordered_legal}
use Rattle.reply_text.specs.Legal.{IsLegalText}
use Rattle.trace_laws.specs.Exact.{HasExactCredits, PrintsExactCredits}

-- ---- from lines to calls

abbrev pub AsksBytes : Action → Type 0
AsksBytes (Ask c) = BringsBytes c
AsksBytes Look = Unit {0}

abbrev pub HasByteCall : Line → Type 0
HasByteCall line = AsksBytes line.action

action-bytes : (text : List ℕ) (actor : ℕ) (action : Action) → IsAction text actor action → AsksBytes action
action-bytes text actor (Ask (call.Enqueue at class wire)) is = tt
action-bytes text actor (Ask (call.Pace at)) is = tt
action-bytes text actor (Ask (call.Report at bytes)) is = All-from_get_or IsByte bytes.items 0 (λ i below. (decode_of-ok is.0 bytes.items is.1.1).3 i)
action-bytes text actor (Ask (call.Configure at change)) is = tt
action-bytes text actor Look is = tt

lines-bytes : (actors : ℕ) (texts : List (List ℕ)) (lines : List Line) → AllZip (IsLine actors) texts lines → All HasByteCall lines
lines-bytes actors [] [] zip = All-nil HasByteCall
lines-bytes actors [] (line ∷ lines) zip = absurd zip
lines-bytes actors (text ∷ texts) [] zip = absurd zip
lines-bytes actors (text ∷ texts) (line ∷ lines) zip =
    All-cons HasByteCall line lines (action-bytes text line.actor line.action zip.0.1) (lines-bytes actors texts lines zip.1)

asked-bytes : (a : ℕ) (line : Line) → HasByteCall line → All BringsBytes (asked a line)
asked-bytes a line has = by (line.actor == a) line.action has
  where
    by : (own : Bool) (action : Action) → AsksBytes action → All BringsBytes (cond own (call_in action) [])
    by true (Ask c) has = All-cons BringsBytes c [] has (All-nil BringsBytes)
    by true Look has = All-nil BringsBytes
    by false action has = All-nil BringsBytes

calls-bytes : (a : ℕ) (lines : List Line) → All HasByteCall lines → All BringsBytes (calls_of a lines)
calls-bytes a [] all = All-nil BringsBytes
calls-bytes a (line ∷ lines) all =
    All-append BringsBytes (asked a line) (calls_of a lines) (asked-bytes a line (All-head HasByteCall line lines all)) (calls-bytes a lines (All-tail HasByteCall line lines all))

-- ---- from calls to entries

back : (P : Call → Type 0) (xs ys : List Call) → All P (xs ++ ys) → All P ys
back P [] ys all = all
back P (x ∷ xs) ys all = back P xs ys (All-tail P x (xs ++ ys) all)

own-made : (e : Entry) → made e.caller e ≡ e.call ∷ []
own-made e = rw (same e.caller) refl
  where
    same : (n : ℕ) → (n == n) ≡ true
    same n = grind (arith)

entries-bytes : (history : List Entry) → ((a : ℕ) → All BringsBytes (calls_by a history)) → AreByteReports history
entries-bytes [] all = All-nil HasBytes
entries-bytes (e ∷ rest) all =
    All-cons HasBytes e rest
    (All-head BringsBytes e.call (calls_by e.caller rest) (subst (λ cs. All BringsBytes (cs ++ calls_by e.caller rest)) (own-made e) (all e.caller)))
    (entries-bytes rest (λ a. back BringsBytes (made a e) (calls_by a rest) (all a)))

pub reports-bytes : (bytes : List ℕ) (trace : Plain) (history : List Entry) → IsTrace bytes trace → Merges trace.lines history → AreByteReports history
reports-bytes bytes trace history is merges =
    entries-bytes history (λ a. subst (λ cs. All BringsBytes cs) (sym (merges a)) (calls-bytes a trace.lines (lines-bytes trace.actors is.texts trace.lines is.actions)))

-- ---- exact credits

exact : (history : List Entry) → IsLegal history → AreByteReports history → HasExactCredits history
exact history legal bytes = record { once = told-once history legal.each bytes; balance = told-balanced history legal.each bytes }

pub replayed-exact : (bytes : List ℕ) (trace : Plain) → IsTrace bytes trace → length trace.lines ≤ MOST_ENTRIES → HasExactCredits (ordered trace.lines)
replayed-exact bytes trace is few =
    exact (ordered trace.lines) (ordered_legal trace.lines few) (reports-bytes bytes trace (ordered trace.lines) is (ordered_merges trace.lines))

pub printed-exact : (bytes text : List ℕ) (trace : Plain) → IsTrace bytes trace → IsLegalText trace.lines trace.actors text → PrintsExactCredits trace text
printed-exact bytes text trace is legal = record {
  history = legal.history;
  glances = legal.glances;
  legal = legal.legal;
  merges = legal.merges;
  spelled = legal.spelled;
  credits = exact legal.history legal.legal (reports-bytes bytes trace legal.history is legal.merges);
}
