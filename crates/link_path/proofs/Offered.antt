-- What one more offer or question makes of a link, and of the definitions over all of them.
use Rattle.std.proofs.Common.{◌≡◌, ℕ, ◌+◌, ◌-◌, ◌*◌, ◌/◌, ◌^◌, ◌<◌, ◌≤◌, max, true, false, nat_lt, if◌then◌else◌, List, [], ◌∷◌, ◌++◌, length, take, drop, refl, sym, ◌∙◌, ap, subst, append-nil, arith, le_refl, length-drop}
use Rattle.std.specs.List.{filter, prefix_len}
use Rattle.std.proofs.lemmas.Bool.Decides.{nat_tests}
use Rattle.std.proofs.lemmas.List.{drop_all}
use Rattle.std.proofs.lemmas.List.Sums.{fold-append}
use Rattle.std.proofs.lemmas.Nat.{mul-le}
use Rattle.gcc_units.proofs.Walk.{walk-push, flat_map-push, flat_each-push}
use Rattle.gcc_units.specs.declared.limits.TheConstants.{BYTE, GREATEST_MOMENT, LEAST_RATE}
use Rattle.link_path.specs.declared.link.LinkSettings.{LinkSettings}
use Rattle.link_path.specs.declared.link.Arrival.{Arrival}
use Rattle.link_path.specs.Link.{Offer, Event, offered, asked, offer_in, offers, is_full, sent_by, line_time, free_with, free_after, arrival_of, arrivals, held_with, held, given, delivered, has_arrived, is_on_its_way}
use Rattle.link_path.specs.KeptLink.{KeptLink, IsLink, IsKeptLink, StandsFor}
use Rattle.link_path.proofs.Rising.{cut, rises-drop}

pub offers-push : (events : List Event) (e : Event) → offers (events ++ e ∷ []) ≡ offers events ++ offer_in e
offers-push events e = flat_map-push offer_in events e

pub held-push : (s : LinkSettings) (events : List Event) (e : Event) → held s (events ++ e ∷ []) ≡ held_with s events (held s events) e
held-push s events e = walk-push (held_with s) [] events e

pub free-push : (s : LinkSettings) (os : List Offer) (o : Offer) → free_after s (os ++ o ∷ []) ≡ free_with s (free_after s os) o
free-push s os o = fold-append (free_with s) 0 os (o ∷ [])

pub arrivals-push : (s : LinkSettings) (os : List Offer) (o : Offer) → arrivals s (os ++ o ∷ []) ≡ arrivals s os ++ arrival_of s os o
arrivals-push s os o = flat_each-push (arrival_of s) os o

pub delivered-push : (s : LinkSettings) (events : List Event) (e : Event) → delivered s (events ++ e ∷ []) ≡ delivered s events ++ given s events e
delivered-push s events e = flat_each-push (given s) events e

-- ---- an offer

abbrev with_offer : KeptLink → Offer → KeptLink
with_offer now o =
    record {
      settings = now.settings;
      free = free_with now.settings now.free o;
      inside = now.inside ++ (if is_full now.settings now.free o then [] else record { number = o.number; at = sent_by now.settings now.free o + now.settings.delay } ∷ []);
    }

stands-offered : (now : KeptLink) (s : LinkSettings) (events : List Event) (o : Offer) → StandsFor now s events
    → StandsFor (with_offer now o) s (events ++ offered o ∷ [])
stands-offered now s events o h =
    record {
      settings = h.settings;
      free = rw (h.settings, h.free) (sym (ap (free_after s) (offers-push events (offered o)) ∙ free-push s (offers events) o));
      inside = rw (h.settings, h.free, h.inside) (sym (held-push s events (offered o)));
    }

dropped-stays : (now : KeptLink) (o : Offer) → is_full now.settings now.free o ≡ true → with_offer now o ≡ now
dropped-stays now o full = rw full (ap (λ (xs : List Arrival). record { settings = now.settings; free = now.free; inside = xs }) (append-nil now.inside))

kept-goes-in : (now : KeptLink) (o : Offer) → is_full now.settings now.free o ≡ false
    → with_offer now o ≡ record { settings = now.settings; free = sent_by now.settings now.free o; inside = now.inside ++ record { number = o.number; at = sent_by now.settings now.free o + now.settings.delay } ∷ [] }
kept-goes-in now o goes = rw goes refl

pub stands-dropped : (now : KeptLink) (settings : LinkSettings) (free : ℕ) (before : List Arrival) (s : LinkSettings) (events : List Event) (o : Offer)
    → record { settings = settings; free = free; inside = before } ≡ now → StandsFor now s events → is_full settings free o ≡ true
    → StandsFor now s (events ++ offered o ∷ [])
stands-dropped now settings free before s events o view h full =
    let P : KeptLink → Type 0 = λ k. is_full k.settings k.free o ≡ true in
    let Q : KeptLink → Type 0 = λ k. StandsFor k s (events ++ offered o ∷ []) in
    subst Q (dropped-stays now o (subst P view full)) (stands-offered now s events o h)

pub stands-kept : (now : KeptLink) (settings : LinkSettings) (free begin time : ℕ) (before inside : List Arrival) (s : LinkSettings) (events : List Event) (o : Offer)
    → record { settings = settings; free = free; inside = before } ≡ now → StandsFor now s events → is_full settings free o ≡ false
    → begin ≡ max free o.moment → time ≡ line_time settings o
    → inside ≡ before ++ record { number = o.number; at = begin + time + settings.delay } ∷ []
    → StandsFor (record { settings = settings; free = begin + time; inside = inside }) s (events ++ offered o ∷ [])
stands-kept now settings free begin time before inside s events o view h goes begin_is time_is inside_is =
    let here : KeptLink = record { settings = settings; free = free; inside = before } in
    let P : KeptLink → Type 0 = λ k. StandsFor k s events in
    let Q : KeptLink → Type 0 = λ k. StandsFor k s (events ++ offered o ∷ []) in
    rw (inside_is, begin_is, time_is) (subst Q (kept-goes-in here o goes) (stands-offered here s events o (subst P (subst (λ (k : KeptLink). k ≡ here) view refl) h)))

not-lt : (a b : ℕ) → nat_lt a b ≡ false → b ≤ a
not-lt a b e = grind (arith, nat_tests)

soon-by : (bits wait now begin time : ℕ) → bits / 8000000 ≤ 1000000000 → 1000 * wait ≤ bits → begin ≤ now + wait → now ≤ 1125899906842624 → time < 2 ^ 24 → begin + time < 2 ^ 51
soon-by bits wait now begin time few least far moment short = omega arith

-- the line is never taken for long
pub soon : (s : LinkSettings) (now begin size time : ℕ) → IsLink s → now ≤ GREATEST_MOMENT → nat_lt s.queue (s.rate * (begin - now) / BYTE + size) ≡ false → time < 2 ^ 24 → begin + time < 2 ^ 51
soon s now begin size time link moment goes short =
    let few : s.rate * (begin - now) / BYTE + size ≤ s.queue = not-lt s.queue _ goes in
    soon-by (s.rate * (begin - now)) (begin - now) now begin time (omega (arith, few, link.greatest_queue)) (mul-le LEAST_RATE (begin - now) s.rate (begin - now) link.least_rate (le_refl (begin - now))) (omega arith) moment short

-- ---- a question

pub keeps-asked : (s : LinkSettings) (free n : ℕ) (before inside : List Arrival) → IsKeptLink s free before → inside ≡ drop n before → IsKeptLink s free inside
keeps-asked s free n before inside kept inside_is = rw inside_is (record { link = kept.link; soon = kept.soon; order = rises-drop n 0 before (free + s.delay) kept.order; few = omega (arith, kept.few, length-drop n before) })

pub given-is : (now : KeptLink) (settings : LinkSettings) (free count moment : ℕ) (before : List Arrival) (s : LinkSettings) (events : List Event)
    → record { settings = settings; free = free; inside = before } ≡ now → StandsFor now s events → IsKeptLink settings free before
    → count ≡ prefix_len (has_arrived moment) before
    → take count before ≡ filter (has_arrived moment) (held s events)
given-is now settings free count moment before s events view h kept count_is =
    let same : before ≡ held s events = ap (λ (k : KeptLink). k.inside) view ∙ h.inside in
    rw (count_is, ← (cut moment 0 before (free + settings.delay) kept.order).arrived, same) refl

pub stands-asked : (now : KeptLink) (settings : LinkSettings) (free count moment : ℕ) (before inside : List Arrival) (s : LinkSettings) (events : List Event)
    → record { settings = settings; free = free; inside = before } ≡ now → StandsFor now s events → IsKeptLink settings free before
    → count ≡ prefix_len (has_arrived moment) before → inside ≡ drop count before
    → StandsFor (record { settings = settings; free = free; inside = inside }) s (events ++ asked moment ∷ [])
stands-asked now settings free count moment before inside s events view h kept count_is inside_is =
    let same : before ≡ held s events = ap (λ (k : KeptLink). k.inside) view ∙ h.inside in
    let left : inside ≡ filter (is_on_its_way moment) before = inside_is ∙ ap (λ n. drop n before) count_is ∙ sym (cut moment 0 before (free + settings.delay) kept.order).left in
    record {
      settings = ap (λ (k : KeptLink). k.settings) view ∙ h.settings;
      free = ap (λ (k : KeptLink). k.free) view ∙ h.free ∙ ap (free_after s) (sym (offers-push events (asked moment) ∙ append-nil (offers events)));
      inside = left ∙ ap (filter (is_on_its_way moment)) same ∙ sym (held-push s events (asked moment));
    }

-- ---- all at once

pub none-behind : (now : KeptLink) (settings : LinkSettings) (free count : ℕ) (before inside : List Arrival) → record { settings = settings; free = free; inside = before } ≡ now
    → length before ≤ count → inside ≡ drop count before → record { settings = settings; free = free; inside = inside } ≡ record now { inside = [] }
none-behind now settings free count before inside view all inside_is =
    ap (λ (xs : List Arrival). record { settings = settings; free = free; inside = xs }) (inside_is ∙ drop_all count before all)
    ∙ ap (λ (k : KeptLink). record k { inside = [] }) view
