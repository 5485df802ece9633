-- The tallies of a history's beginnings.
use Rattle.std.proofs.Common.{◌≡◌, ℕ, suc, zero, ◌<◌, ◌≤◌, Some, List, [], ◌∷◌, ◌++◌, length, take, slice_get, refl, sym, ◌∙◌, ap, subst, arith, append_assoc, Option, None, IsNone, ◌↔◌}
use Rattle.std.proofs.lemmas.Option.{slice_get_past}
use Rattle.std.proofs.lemmas.List.{append-nil}
use Rattle.pacer.specs.declared.pacing.Tally.{Tally}
use Rattle.send_core.specs.declared.call.Entry.{Entry}
use Rattle.send_core.specs.Levels.{tally_of}
use Rattle.send_core.specs.Places.{tallies_from}

-- one more entry has one more tally
pub tallies-push : (before es : List Entry) (e : Entry) → tallies_from before (es ++ e ∷ []) ≡ tallies_from before es ++ tally_of (before ++ (es ++ e ∷ [])) ∷ []
tallies-push before [] e = refl
tallies-push before (x ∷ es) e =
    ap (λ ts. tally_of before ∷ ts) (tallies-push (before ++ x ∷ []) es e
    ∙ ap (λ h. tallies_from (before ++ x ∷ []) es ++ tally_of h ∷ []) (append_assoc before (x ∷ []) (es ++ e ∷ [])))

-- the tally of each beginning
pub tallies-at : (before es : List Entry) (n : ℕ) → n ≤ length es → slice_get (tallies_from before es) n ≡ Some (tally_of (before ++ take n es))
tallies-at before [] zero le = ap (λ h. Some (tally_of h)) (sym (append-nil before))
tallies-at before [] (suc n) le = absurd (omega arith)
tallies-at before (x ∷ es) zero le = ap (λ h. Some (tally_of h)) (sym (append-nil before))
tallies-at before (x ∷ es) (suc n) le =
    tallies-at (before ++ x ∷ []) es n (omega arith) ∙ ap (λ h. Some (tally_of h)) (append_assoc before (x ∷ []) (take n es))

pub tallies-length : (before es : List Entry) → length (tallies_from before es) ≡ suc (length es)
tallies-length before [] = refl
tallies-length before (x ∷ es) = ap suc (tallies-length (before ++ x ∷ []) es)

-- where there is none, the list has ended
none-past : (ts : List Tally) (k : ℕ) → None ≡ slice_get ts k → length ts ≤ k
none-past [] k e = omega arith
none-past (t ∷ ts) zero e = absurd cc
none-past (t ∷ ts) (suc k) e = let h : length ts ≤ k = none-past ts k e in omega arith

-- ---- as the journal has them

pub tally_some : (kept now : List Entry) (tallies : List Tally) (n : ℕ) (found : Option Tally) → tallies ≡ tallies_from [] kept → kept ≡ now → found ≡ slice_get tallies n
    → n ≤ length now → found ≡ Some (tally_of (take n now))
tally_some kept now tallies n found are same is le =
    is ∙ (ap (λ ts. slice_get ts n) (are ∙ ap (tallies_from []) same) ∙ tallies-at [] now n le)

pub tally_none : (kept now : List Entry) (tallies : List Tally) (n : ℕ) (found : Option Tally) → tallies ≡ tallies_from [] kept → kept ≡ now → found ≡ slice_get tallies n
    → IsNone found ↔ (length now < n)
tally_none kept now tallies n found are same is =
    let all : tallies ≡ tallies_from [] now = are ∙ ap (tallies_from []) same in
    let many : length tallies ≡ suc (length now) = ap length all ∙ tallies-length [] now in
    (λ none. by_none found is none many, λ past. subst IsNone (sym (is ∙ slice_get_past tallies n (omega arith))) refl)
  where
    by_none : (o : Option Tally) → o ≡ slice_get tallies n → IsNone o → length tallies ≡ suc (length now) → length now < n
    by_none None at none many = let h : length tallies ≤ n = none-past tallies n at in omega arith
    by_none (Some t) at none many = absurd cc
