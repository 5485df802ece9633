-- What is kept of a pace, when one is fetched and when one is served.
use Rattle.std.specs.Prelude.{Result, Ok, Err, OnOk}
use Rattle.steered_sender.specs.Standing.{Kept, StandsFor, served}
use Rattle.capi.specs.declared.fault.Fault.{Fault}
use Rattle.std.proofs.Common.{◌≡◌, ℕ, zero, suc, ◌+◌, ◌≤◌, true, false, Option, None, Some, List, [], ◌∷◌, length, drop, refl, sym, ap, subst}
use Rattle.std.proofs.lemmas.List.{drop-drop}
use Rattle.std.proofs.lemmas.Option.{none-some, slice_get_past}
use Rattle.std.specs.List.{slice_get, zip}
use Rattle.pacer.specs.declared.sent.Sent.{Sent}
use Rattle.send_core.specs.declared.call.Call.TheVariants.{Pace}
use Rattle.send_core.specs.declared.call.Entry.{Entry}
use Rattle.capi.specs.Serving.{IsUser, Leaving, kept_from, has_any, filled, popped, leaving, with_call, Serves}

-- past the records
pub kept-none : (n : ℕ) (sent : List Sent) (packets : List (List ℕ)) → slice_get sent n ≡ None → kept_from n sent packets ≡ []
kept-none zero [] packets h = refl
kept-none (suc n) [] packets h = refl
kept-none zero (s ∷ sent) packets h = absurd (none-some s (sym h))
kept-none (suc n) (s ∷ sent) [] h = refl
kept-none (suc n) (s ∷ sent) (p ∷ packets) h = kept-none n sent packets h

-- past the packets
pub kept-short : (n : ℕ) (sent : List Sent) (packets : List (List ℕ)) → slice_get packets n ≡ None → kept_from n sent packets ≡ []
kept-short zero [] packets h = refl
kept-short (suc n) [] packets h = refl
kept-short zero (s ∷ sent) [] h = refl
kept-short (suc n) (s ∷ sent) [] h = refl
kept-short zero (s ∷ sent) (p ∷ packets) h = absurd (none-some p (sym h))
kept-short (suc n) (s ∷ sent) (p ∷ packets) h = kept-short n sent packets h

abbrev or_else : {X : Type 0} → X → Option X → X
or_else d None = d
or_else d (Some x) = x

-- the first one
pub kept-first : (n : ℕ) (sent : List Sent) (packets : List (List ℕ)) (s : Sent) (p : List ℕ) → slice_get sent n ≡ Some s → slice_get packets n ≡ Some p
    → (rest : List Leaving) × (kept_from n sent packets ≡ (s, p) ∷ rest)
kept-first zero [] packets s p hs hp = absurd (none-some s hs)
kept-first (suc n) [] packets s p hs hp = absurd (none-some s hs)
kept-first zero (x ∷ sent) [] s p hs hp = absurd (none-some p hp)
kept-first (suc n) (x ∷ sent) [] s p hs hp = absurd (none-some p hp)
kept-first zero (x ∷ sent) (y ∷ packets) s p hs hp = (zip sent packets, ap (λ (q : Leaving). q ∷ zip sent packets) (λ i. (ap (or_else x) hs i, ap (or_else y) hp i)))
kept-first (suc n) (x ∷ sent) (y ∷ packets) s p hs hp = kept-first n sent packets s p hs hp

-- all but the first
pub kept-next : (n : ℕ) (sent : List Sent) (packets : List (List ℕ)) → kept_from (n + 1) sent packets ≡ drop 1 (kept_from n sent packets)
kept-next n sent packets = sym (drop-drop 1 n (zip sent packets))

pub kept-past : (n : ℕ) (sent : List Sent) (packets : List (List ℕ)) → length sent ≤ n → kept_from n sent packets ≡ drop 1 (kept_from n sent packets)
kept-past n sent packets h =
    let none : kept_from n sent packets ≡ [] = kept-none n sent packets (slice_get_past sent n h) in
    subst (λ (k : List Leaving). k ≡ drop 1 k) (sym none) refl

-- where something was kept, no pace is served
pub filled_kept : (now : Kept) (history : List Entry) (at : ℕ) (kept : List Leaving) → has_any kept ≡ true → filled now history at kept ≡ kept
filled_kept now history at [] h = absurd (let e : false ≡ true = h in cc)
filled_kept now history at (p ∷ ps) h = refl

pub popped_kept : (now : Kept) (history : List Entry) (caller at : ℕ) (kept : List Leaving) → has_any kept ≡ true → popped now history caller at kept ≡ history
popped_kept now history caller at [] h = absurd (let e : false ≡ true = h in cc)
popped_kept now history caller at (p ∷ ps) h = refl

-- else one is
pub filled_none : (now : Kept) (history : List Entry) (at : ℕ) (kept : List Leaving) → has_any kept ≡ false → filled now history at kept ≡ leaving (served now history) at
filled_none now history at [] h = refl
filled_none now history at (p ∷ ps) h = absurd (let e : true ≡ false = h in cc)

pub popped_none : (now : Kept) (history : List Entry) (caller at : ℕ) (kept : List Leaving) → has_any kept ≡ false
    → popped now history caller at kept ≡ with_call (served now history) caller (Pace at)
popped_none now history caller at [] h = refl
popped_none now history caller at (p ∷ ps) h = absurd (let e : true ≡ false = h in cc)

pub stands-popped : {X : Type 0} (r : Result X Fault) (before after : Kept) (at : ℕ) (kept : List Leaving) → has_any kept ≡ false → OnOk r (Serves before after (Pace at))
    → OnOk r ((history : List Entry) (caller : ℕ) → IsUser caller → StandsFor before history → StandsFor after (popped before history caller at kept))
stands-popped (Ok x) before after at kept none s =
    λ history caller user stands. subst (λ (h : List Entry). StandsFor after h) (sym (popped_none before history caller at kept none)) (s history caller user stands)
stands-popped (Err e) before after at kept none s = tt
