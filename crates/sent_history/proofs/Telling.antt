-- The answer that tells verdicts, one verdict more.
use Rattle.std.proofs.Common.{◌≡◌, ℕ, ◌+◌, ◌≤◌, cond, List, [], ◌∷◌, ◌++◌, length, refl, ap, ◌∙◌, arith, length-append, append-nil}
use Rattle.std.specs.List.{flat_map, count_by}
use Rattle.std.proofs.lemmas.List.Sums.{sum_by-append, count_by-le-length}
use Rattle.std.proofs.lemmas.Grind.{flat_map-append}
use Rattle.gcc_units.specs.Listed.{bare}
use Rattle.gcc_units.specs.declared.shared_types.Credit.{Credit}
use Rattle.gcc_units.specs.declared.shared_types.Judged.{Judged}
use Rattle.sent_history.specs.declared.slot.Verdict.{Verdict}
use Rattle.sent_history.specs.Laws.{verdicts_counted}
use Rattle.sent_history.specs.Crediting.{credit_in, missing_in, is_unknown, is_repeated, credits_in, told}

-- the answer with one verdict more
abbrev pub with_verdict : Judged → Verdict → Judged
with_verdict j v =
    record {
      received = bare (j.received.items ++ credit_in v);
      missing = j.missing + length (missing_in v);
      unknown = j.unknown + cond (is_unknown v) 1 0;
      repeated = j.repeated + cond (is_repeated v) 1 0;
    }

pub told_more : (vs : List Verdict) (v : Verdict) → told (vs ++ v ∷ []) ≡ with_verdict (told vs) v
told_more vs v =
    let credits : credits_in (vs ++ v ∷ []) ≡ credits_in vs ++ credit_in v =
    flat_map-append credit_in vs (v ∷ []) ∙ ap (λ (xs : List Credit). credits_in vs ++ xs) (append-nil (credit_in v)) in
    let missing : length (flat_map missing_in (vs ++ v ∷ [])) ≡ length (flat_map missing_in vs) + length (missing_in v) =
    ap length (flat_map-append missing_in vs (v ∷ [])) ∙ ap (λ (xs : List ℕ). length (flat_map missing_in vs ++ xs)) (append-nil (missing_in v))
    ∙ length-append (flat_map missing_in vs) (missing_in v) in
    let unknown : count_by is_unknown (vs ++ v ∷ []) ≡ count_by is_unknown vs + cond (is_unknown v) 1 0 =
    sum_by-append (λ (x : Verdict). cond (is_unknown x) 1 0) vs (v ∷ []) ∙ omega arith in
    let repeated : count_by is_repeated (vs ++ v ∷ []) ≡ count_by is_repeated vs + cond (is_repeated v) 1 0 =
    sum_by-append (λ (x : Verdict). cond (is_repeated x) 1 0) vs (v ∷ []) ∙ omega arith in
    rw (credits, missing, unknown, repeated) refl

-- no more than one for each verdict
pub record IsFew (j : Judged) (n : ℕ) : Type 0 where
  pub missing : j.missing ≤ n
  pub unknown : j.unknown ≤ n
  pub repeated : j.repeated ≤ n

pub told_few : (j : Judged) (vs : List Verdict) → j ≡ told vs → IsFew j (length vs)
told_few j vs e =
    rw e (record { missing = omega (arith, verdicts_counted vs); unknown = count_by-le-length is_unknown vs; repeated = count_by-le-length is_repeated vs })

-- ---- all together

abbrev pub total : Judged → ℕ
total j = length j.received.items + j.missing + j.unknown + j.repeated

-- each verdict is counted once
pub told_total : (vs : List Verdict) → total (told vs) ≡ length vs
told_total vs = verdicts_counted vs
