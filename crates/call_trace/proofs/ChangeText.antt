-- The JSON text of a change spells it.
use Rattle.std.proofs.Common.{◌≡◌, ℕ, ◌≤◌, false, List, Some, arith, ap, ◌∙◌}
use Rattle.std.specs.Prelude.{IsUtf8, ◌≢◌}
use Rattle.std.proofs.lemmas.List.Elements.{All-from_recursion}
use Rattle.serde_json.specs.Data.{Data, depth}
use Rattle.serde_json.specs.Read.{read, max_depth}
use Rattle.serde_json.specs.Written.{has_float, compact_text}
use Rattle.send_core.specs.declared.call.Change.{Change}
use Rattle.call_trace.specs.Fields.{IsLineText}
use Rattle.call_trace.specs.Settings.{IsChange, SpellsChange}
use Rattle.call_trace.specs.Written.{present, settings_of, change_json}
use Rattle.call_trace.proofs.Cutting.{All-from_Lacks}
use Rattle.call_trace.proofs.Json.{json_is}
use Rattle.call_trace.proofs.Compact.{tidy_change}

pub text_is : (change : Change) (d : Data) (text : List ℕ) → d ≡ change_json change → (has_float d ≡ false → text ≡ compact_text d) → text ≡ compact_text (change_json change)
text_is change d text is written = written (ap has_float is ∙ (tidy_change change).whole) ∙ ap compact_text is

pub spells : (change : Change) (d : Data) (text : List ℕ) → d ≡ change_json change → text ≡ compact_text (change_json change) → IsUtf8 text → (depth d ≤ max_depth → read text ≡ Some d) → IsChange (present (settings_of change)) change
    → SpellsChange (compact_text (change_json change)) change
unfolding change_json
spells change d text is written utf8 back change-is =
    let shallow : depth d ≤ max_depth = omega (arith, ap depth is, (tidy_change change).shallow) in
    let reads : read text ≡ Some (change_json change) = back shallow ∙ ap (λ x. Some x) is in
    rw (← written) (present (settings_of change), json_is text (change_json change) utf8 reads, change-is)

pub text_feedless : (change : Change) → IsLineText (compact_text (change_json change))
text_feedless change = All-from_recursion (λ b. b ≢ 10) (compact_text (change_json change)) (All-from_Lacks (compact_text (change_json change)) (tidy_change change).feedless)
