-- Lists of JSON values, written one after the other.
use Rattle.std.proofs.Common.{◌≡◌, ℕ, ◌+◌, ◌<◌, ◌≤◌, List, [], ◌∷◌, ◌++◌, length, map, take, get_or, Some, refl, sym, ap, ◌∙◌, ◌^◌, Fits, w8, w32, arith}
use Rattle.std.specs.List.{All}
use Rattle.hex.specs.Hex.{IsBytes}
use Rattle.std.proofs.lemmas.List.{map-append, take_all, take_more, get_or_default}
use Rattle.serde_json.specs.Data.{Data, array}
use Rattle.serde_json.specs.View.{view, items_of}
use Rattle.serde_json.specs.declared.value.Value.{Value}
use Rattle.call_trace.specs.Written.{list_json}

pub same_list : {A : Type 0} (json : A → Data) (vs : List Value) (xs : List A) → map view vs ≡ map json xs → list_json view vs ≡ list_json json xs
same_list json [] [] is = refl
same_list json [] (x ∷ xs) is = absurd cc
same_list json (v ∷ vs) [] is = absurd cc
same_list json (v ∷ vs) (x ∷ xs) is = ap (λ (ds : List Data). Some (array (items_of ds))) is

pub one_pushed : {A : Type 0} (json : A → Data) (old new : List Value) (v : Value) (xs : List A) (i : ℕ) (d : A) → map view old ≡ map json (take i xs) → new ≡ old ++ v ∷ [] → view v ≡ json (get_or xs i d) → i < length xs
    → map view new ≡ map json (take (i + 1) xs)
one_pushed {A} json old new v xs i d was grown is low =
    let x = get_or xs i d in
    ap (map view) grown ∙ map-append view old (v ∷ []) ∙ ap (λ (ds : List Data). ds ++ view v ∷ []) was ∙ ap (λ (e : Data). map json (take i xs) ++ e ∷ []) is ∙ sym (map-append json (take i xs) (x ∷ []))
    ∙ ap (map json) (sym (take_more xs i d low))

pub all_pushed : {A : Type 0} (json : A → Data) (vs : List Value) (xs : List A) (i : ℕ) → map view vs ≡ map json (take i xs) → length xs ≤ i → map view vs ≡ map json xs
all_pushed json vs xs i was high = was ∙ ap (map json) (take_all i xs high)

pub each_small : (ns : List ℕ) → ((i : ℕ) → Fits w32 (get_or ns i 0)) → All (λ n. n < 2 ^ 32) ns
each_small ns fits = λ k d low. (let small = fits k in omega (arith, get_or_default ns k d 0 low))

pub each_byte : (bs : List ℕ) → ((i : ℕ) → Fits w8 (get_or bs i 0)) → IsBytes bs
each_byte bs fits = λ k. (let small = fits k in omega arith)
