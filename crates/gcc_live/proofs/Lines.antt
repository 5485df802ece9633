-- One line more.
use Rattle.std.proofs.Common.{◌≡◌, ℕ, ◌+◌, List, [], ◌∷◌, ◌++◌, length, codes, sym, ◌∙◌, ap, subst, append_assoc, length-append}
use Rattle.std.specs.List.{flat_map, sum_by}
use Rattle.std.specs.String.{string_bytes}
use Rattle.std.proofs.lemmas.List.{append-nil}
use Rattle.std.proofs.lemmas.List.Sums.{sum_by-append}
use Rattle.gcc_units.proofs.Walk.{flat_map-push}
use Rattle.send_core.specs.declared.call.Call.{Call}
use Rattle.send_core.specs.declared.call.Reply.{Reply}
use Rattle.send_core.specs.declared.call.Entry.{Entry}
use Rattle.send_core.specs.Estimates.{target}
use Rattle.send_core.specs.History.{entry, sent, sent_by}
use Rattle.send_core.specs.Reply.{reply}
use Rattle.call_trace.specs.declared.trace.Line.{Line}
use Rattle.call_trace.specs.declared.trace.Action.TheVariants.{Ask, Look}
use Rattle.call_trace.specs.Ordered.{served_by, ordered}
use Rattle.call_trace.proofs.Ordered.{ordered-push, ordered-nil}
use Rattle.reply_text.specs.declared.seen.Seen.{Seen}
use Rattle.reply_text.specs.Text.{line_of}
use Rattle.live_sender.specs.Live.{Live, StandsFor}
use Rattle.run_top.specs.Replay.{looked, seen_from}
use Rattle.run_top.proofs.Serving.{seen_from-push}
use Rattle.gcc_live.specs.declared.telling.Told.{Told}
use Rattle.gcc_live.specs.Summing.{size_of, bytes_of}
use Rattle.gcc_live.specs.Telling.{AreTold}

pub asked-more : (lines : List Line) (line : Line) (call : Call) (given : Reply) → line.action ≡ Ask call → given ≡ reply (ordered lines) call
    → ordered (lines ++ line ∷ []) ≡ ordered lines ++ entry line.actor call given ∷ []
asked-more lines line call given asks replies =
    ordered-push lines line
    ∙ (ap (λ a. ordered lines ++ served_by (ordered lines) line.actor a) asks
    ∙ ap (λ r. ordered lines ++ entry line.actor call r ∷ []) (sym replies))

pub looked-more : (lines : List Line) (line : Line) → line.action ≡ Look → ordered (lines ++ line ∷ []) ≡ ordered lines
looked-more lines line looks =
    ordered-push lines line
    ∙ (ap (λ a. ordered lines ++ served_by (ordered lines) line.actor a) looks
    ∙ append-nil (ordered lines))

-- ---- what is told

pub told-first : (sender : Live) (told : Told) → StandsFor sender [] → string_bytes told.text ≡ codes "gcc-history 1\n" → told.calls ≡ 0 → told.glances.items ≡ []
    → AreTold sender told []
told-first sender told stands text calls glances = record {
  stands = subst (StandsFor sender) (sym ordered-nil) stands;
  text = text ∙ (sym (append-nil (codes "gcc-history 1\n")) ∙ ap (λ h. codes "gcc-history 1\n" ++ flat_map line_of h) (sym ordered-nil));
  calls = calls ∙ ap length (sym ordered-nil);
  glances = glances;
}

pub told-ask : (before after : Live) (told new : Told) (lines : List Line) (line : Line) (call : Call) (given : Reply)
    → AreTold before told lines → line.action ≡ Ask call
    → given ≡ reply (ordered lines) call
    → StandsFor after (ordered lines ++ entry line.actor call given ∷ [])
    → string_bytes new.text ≡ string_bytes told.text ++ line_of (entry line.actor call given)
    → new.calls ≡ told.calls + 1
    → new.glances.items ≡ told.glances.items
    → AreTold after new (lines ++ line ∷ [])
told-ask before after told new lines line call given are asks replies stands texts calls glances =
    let e : Entry = entry line.actor call given in
    let grown : ordered (lines ++ line ∷ []) ≡ ordered lines ++ e ∷ [] = asked-more lines line call given asks replies in
    let title : List ℕ = codes "gcc-history 1\n" in
    record {
      stands = subst (StandsFor after) (sym grown) stands;
      text = texts
          ∙ (ap (λ t. t ++ line_of e) are.text
          ∙ (append_assoc title (flat_map line_of (ordered lines)) (line_of e)
          ∙ ap (λ ys. title ++ ys) (sym (ap (flat_map line_of) grown ∙ flat_map-push line_of (ordered lines) e))));
      calls = calls ∙ (ap (λ n. n + 1) are.calls ∙ sym (ap length grown ∙ length-append (ordered lines) (e ∷ [])));
      glances = glances
          ∙ (are.glances
          ∙ sym (seen_from-push [] lines line ∙ (ap (λ a. seen_from [] lines ++ looked (ordered lines) line.actor a) asks ∙ append-nil (seen_from [] lines))));
    }

pub told-look : (before : Live) (told new : Told) (lines : List Line) (line : Line) (rate : ℕ)
    → AreTold before told lines → line.action ≡ Look
    → rate ≡ target (ordered lines)
    → string_bytes new.text ≡ string_bytes told.text
    → new.calls ≡ told.calls
    → new.glances.items ≡ told.glances.items ++ (record { actor = line.actor; calls = told.calls; target = rate }) ∷ []
    → AreTold before new (lines ++ line ∷ [])
told-look before told new lines line rate are looks rates texts calls glances =
    let same : ordered (lines ++ line ∷ []) ≡ ordered lines = looked-more lines line looks in
    let seen : ℕ → ℕ → Seen = λ n r. record { actor = line.actor; calls = n; target = r } in
    record {
      stands = subst (StandsFor before) (sym same) are.stands;
      text = texts ∙ (are.text ∙ sym (ap (λ h. codes "gcc-history 1\n" ++ flat_map line_of h) same));
      calls = calls ∙ (are.calls ∙ sym (ap length same));
      glances = glances
          ∙ (ap (λ gs. gs ++ seen told.calls rate ∷ []) are.glances
          ∙ (ap (λ n. seen_from [] lines ++ seen n rate ∷ []) are.calls
          ∙ (ap (λ r. seen_from [] lines ++ seen (length (ordered lines)) r ∷ []) rates
          ∙ sym (seen_from-push [] lines line ∙ ap (λ a. seen_from [] lines ++ looked (ordered lines) line.actor a) looks))));
    }

-- ---- bytes that left

pub bytes-more : (history : List Entry) (e : Entry) → bytes_of (history ++ e ∷ []) ≡ bytes_of history + sum_by size_of (sent_by e.reply)
bytes-more history e =
    ap (sum_by size_of) (flat_map-push (λ (e : Entry). sent_by e.reply) history e) ∙ sum_by-append size_of (sent history) (sent_by e.reply)
