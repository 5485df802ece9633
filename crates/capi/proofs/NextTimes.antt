-- When to pop next: where something was kept, and where a pace is to send it.
use Rattle.std.proofs.Common.{◌≡◌, ◌≢◌, ℕ, ◌<◌, ◌≤◌, ◌||◌, Bool, true, false, Option, None, Some, IfSome, IfNone, List, [], ◌∷◌, map, refl, sym, ◌∙◌, arith, subst}
use Rattle.std.specs.List.{zip}
use Rattle.gcc_units.specs.declared.limits.TheConstants.{GREATEST_MOMENT}
use Rattle.send_core.specs.declared.call.Call.TheVariants.{Pace}
use Rattle.send_core.specs.declared.call.Entry.{Entry}
use Rattle.send_core.specs.History.{now, sent_by}
use Rattle.send_core.specs.Reply.{reply}
use Rattle.live_sender.specs.Live.{Live}
use Rattle.live_sender.specs.Live as live
use Rattle.steered_sender.specs.Standing.{Kept, StandsFor, served, wanted_of}
use Rattle.steered_sender.proofs.Asked.{asked-none}
use Rattle.send_core.specs.Settings.{is_some}
use Rattle.steered_sender.specs.declared.steering.Wanted.{Wanted}
use Rattle.capi.specs.Looking.{IsNextTime}
use Rattle.capi.specs.Serving.{Serving, Leaving, has_any, filled}
use Rattle.capi.proofs.Kept.{filled_kept, filled_none}

-- ---- what is kept leaves at once

pub some-kept : (kept : List Leaving) → has_any kept ≡ true → kept ≢ []
some-kept [] h e = absurd (let wrong : false ≡ true = h in cc)
some-kept (p ∷ ps) h e = absurd cc

pub next_kept : (serving : Serving) (m : ℕ) → has_any serving.kept ≡ true → ((history : List Entry) → StandsFor serving.steered history → m ≡ now history) → IsNextTime serving (Some m)
next_kept serving m has is = record {
  from_on = λ h s. omega (arith, is h s);
  in_time = λ h s. let early : now h ≤ GREATEST_MOMENT = s.sender.parts.laws.in_time in omega (arith, is h s, early);
  sends = λ nothing h s e. some-kept serving.kept has (sym (filled_kept serving.steered h m serving.kept has) ∙ e);
  none_before = λ h t s late before. absurd (omega (arith, is h s, late, before));
  none = tt;
}

-- ---- what the control asked for is served at once

some-asked : (o : Option Wanted) → is_some o ≡ true → o ≢ None
some-asked None h e = absurd (let wrong : false ≡ true = h in cc)
some-asked (Some w) h e = absurd cc

pub next_asked : (serving : Serving) (m : ℕ) → is_some (wanted_of serving.steered.steering) ≡ true → ((history : List Entry) → StandsFor serving.steered history → m ≡ now history)
    → IsNextTime serving (Some m)
next_asked serving m has is = record {
  from_on = λ h s. omega (arith, is h s);
  in_time = λ h s. let early : now h ≤ GREATEST_MOMENT = s.sender.parts.laws.in_time in omega (arith, is h s, early);
  sends = λ nothing. absurd (some-asked (wanted_of serving.steered.steering) has nothing);
  none_before = λ h t s late before. absurd (omega (arith, is h s, late, before));
  none = tt;
}

pub next_at_once : (serving : Serving) (m : ℕ) → (has_any serving.kept || is_some (wanted_of serving.steered.steering)) ≡ true
    → ((history : List Entry) → StandsFor serving.steered history → m ≡ now history) → IsNextTime serving (Some m)
next_at_once serving m has is = by_kept (has_any serving.kept) refl
  where
    by_kept : (b : Bool) → has_any serving.kept ≡ b → IsNextTime serving (Some m)
    by_kept true kept = next_kept serving m kept is
    by_kept false kept = next_asked serving m (subst (λ b. (b || is_some (wanted_of serving.steered.steering)) ≡ true) kept has) is

-- ---- a pace sends as many packets as records

zip-some : {X Y : Type 0} (f : X → Y) (xs : List X) → xs ≢ [] → zip xs (map f xs) ≢ []
zip-some f [] some e = some refl
zip-some f (x ∷ xs) some e = absurd cc

zip-none : {X Y : Type 0} (f : X → Y) (xs : List X) → xs ≡ [] → zip xs (map f xs) ≡ []
zip-none f [] none = refl
zip-none f (x ∷ xs) none = absurd cc

is_none : (o : Option Wanted) → is_some o ≡ false → o ≡ None
is_none None h = refl
is_none (Some w) h = absurd (let wrong : true ≡ false = h in cc)

-- where the control asked for nothing
same : (now : Kept) (h : List Entry) → is_some (wanted_of now.steering) ≡ false → h ≡ served now h
same now h nothing = asked-none h (wanted_of now.steering) (is_none (wanted_of now.steering) nothing)

leaves : (s : Kept) (h : List Entry) (kept : List Leaving) (t : ℕ) → has_any kept ≡ false → is_some (wanted_of s.steering) ≡ false → sent_by (reply h (Pace t)) ≢ [] → filled s h t kept ≢ []
leaves s h kept t absent nothing some e =
    let here : sent_by (reply (served s h) (Pace t)) ≢ [] = subst (λ (k : List Entry). sent_by (reply k (Pace t)) ≢ []) (same s h nothing) some in
    zip-some _ (sent_by (reply (served s h) (Pace t))) here (sym (filled_none s h t kept absent) ∙ e)

stays : (s : Kept) (h : List Entry) (kept : List Leaving) (t : ℕ) → has_any kept ≡ false → is_some (wanted_of s.steering) ≡ false → sent_by (reply h (Pace t)) ≡ [] → filled s h t kept ≡ []
stays s h kept t absent nothing none =
    let here : sent_by (reply (served s h) (Pace t)) ≡ [] = subst (λ (k : List Entry). sent_by (reply k (Pace t)) ≡ []) (same s h nothing) none in
    filled_none s h t kept absent ∙ zip-none _ (sent_by (reply (served s h) (Pace t))) here

pub next_paced : (serving : Serving) (l : Live) (told : Option ℕ) → ((h : List Entry) → StandsFor serving.steered h → live.StandsFor l h) → has_any serving.kept ≡ false → is_some (wanted_of serving.steered.steering) ≡ false
    → IfSome told (λ m. (h : List Entry) → live.StandsFor l h → now h ≤ m)
    → IfSome told (λ m. m ≤ GREATEST_MOMENT)
    → IfSome told (λ m. (h : List Entry) → live.StandsFor l h → sent_by (reply h (Pace m)) ≢ [])
    → IfSome told (λ m. (h : List Entry) (t : ℕ) → live.StandsFor l h → now h ≤ t → t < m → sent_by (reply h (Pace t)) ≡ [])
    → IfNone told ((h : List Entry) (t : ℕ) → live.StandsFor l h → sent_by (reply h (Pace t)) ≡ [])
    → IsNextTime serving told
next_paced serving l None stand absent nothing from_on in_time sends none_before none = record {
  from_on = tt;
  in_time = tt;
  sends = tt;
  none_before = tt;
  none = λ h t s. stays serving.steered h serving.kept t absent nothing (none h t (stand h s));
}
next_paced serving l (Some m) stand absent nothing from_on in_time sends none_before none = record {
  from_on = λ h s. from_on h (stand h s);
  in_time = λ h s. in_time;
  sends = λ _ h s. leaves serving.steered h serving.kept m absent nothing (sends h (stand h s));
  none_before = λ h t s late before. stays serving.steered h serving.kept t absent nothing (none_before h t (stand h s) late before);
  none = tt;
}
