-- What the bytes of a JSON text are read as.
use Rattle.std.proofs.Common.{◌≡◌, Bool, true, false, cond, ℕ, List, Some, None, refl, sym, ◌∙◌, inl, inr, arith, length, ◌<◌, [], ◌∷◌}
use Rattle.std.specs.Prelude.{IsUtf8}
use Rattle.std.specs.Str.{is_utf8}
use Rattle.std.proofs.lemmas.Bool.{cases_Bool}
use Rattle.std.proofs.lemmas.Str.{is_utf8-from_IsUtf8, IsUtf8-from_is_utf8}
use Rattle.serde_json.specs.Data.{Data}
use Rattle.serde_json.specs.Read.{read}
use Rattle.serde_json.proofs.OnLiterals.{serde_json_on_literals}
use Rattle.send_core.specs.declared.call.Change.{Change}
use Rattle.call_trace.specs.Settings.{json_of, SpellsChange}

pub json_is : (text : List ℕ) (d : Data) → IsUtf8 text → read text ≡ Some d → json_of text ≡ Some d
unfolding json_of
json_is text d utf8 is = rw (is_utf8-from_IsUtf8 text utf8) is

pub json_is_none : (text : List ℕ) → (IsUtf8 text → read text ≡ None) → json_of text ≡ None
unfolding json_of
json_is_none text none =
    elim (cases_Bool (is_utf8 text)) [
      | inl is ↦ rw is (none (IsUtf8-from_is_utf8 text is))
      | inr other ↦ rw other refl
    ]

-- no bytes spell nothing
empty_either : (b : Bool) → cond b (read []) None ≡ None
unfolding serde_json_on_literals
empty_either true = refl
empty_either false = refl

empty_none : json_of [] ≡ None
unfolding json_of
empty_none = empty_either (is_utf8 [])

pub json_some : (text : List ℕ) (change : Change) → SpellsChange text change → 0 < length text
json_some [] change is = absurd (let wrong = sym empty_none ∙ is.1 in cc)
json_some (b ∷ text) change is = omega arith
