-- What an offer, and what arrives, make of what a loop stands for.
use Rattle.std.proofs.Common.{◌≡◌, ℕ, ◌+◌, ◌<◌, ◌≤◌, Bool, true, false, nat_le, if◌then◌else◌, List, [], ◌∷◌, ◌++◌, length, take, get_or, map, refl, sym, ◌∙◌, ap, subst, append-nil, append_assoc, arith}
use Rattle.std.specs.List.{filter}
use Rattle.std.proofs.lemmas.Bool.Decides.{nat_tests}
use Rattle.std.proofs.lemmas.List.{map-append}
use Rattle.gcc_units.specs.Listed.{Listed, bare}
use Rattle.gcc_units.proofs.Walk.{flat_each-push}
use Rattle.pacer.specs.declared.sent.Sent.{Sent}
use Rattle.send_core.specs.History.{sent}
use Rattle.call_trace.specs.Making.{moment}
use Rattle.link_path.specs.declared.TheConstants.{GREATEST_TAKEN}
use Rattle.link_path.specs.declared.link.LinkSettings.{LinkSettings}
use Rattle.link_path.specs.declared.link.Arrival.{Arrival}
use Rattle.link_path.specs.declared.link.Fate.{Fate}
use Rattle.link_path.specs.declared.link.Fate.TheVariants as of
use Rattle.link_path.specs.Link.{Offer, Event, offered, offers, is_dropped, fate, dropped_of, dropped, given, delivered, held, has_arrived}
use Rattle.link_path.specs.Link as link
use Rattle.link_path.specs.KeptLink.{KeptLink, StandsFor}
use Rattle.link_path.specs.Receiver.{KeptReceiver, IsNext, NumbersRise, next_from}
use Rattle.link_path.proofs.Offered.{offers-push, delivered-push}
use Rattle.link_path.proofs.Heard.{rise-at}
use Rattle.link_loop.specs.declared.looper.Looper.{Looper}
use Rattle.link_loop.specs.Looping.{Looping, offer_of, offered_at, with_offers, with_arrivals}
use Rattle.link_loop.specs.Kept.{IsAt, RiseWithin, IsInOrder, IsReady}

-- ---- offers

one-dropped : (b : Bool) (at n : ℕ) (f : Fate) → f ≡ (if b then of.Dropped else of.Arrives at) → f ≡ of.Dropped → (if b then n ∷ [] else []) ≡ n ∷ []
one-dropped true at n f is e = refl
one-dropped false at n f is e = absurd cc

one-arrives : (b : Bool) (at n then_ : ℕ) (f : Fate) → f ≡ (if b then of.Dropped else of.Arrives at) → f ≡ of.Arrives then_ → (if b then n ∷ [] else []) ≡ []
one-arrives true at n then_ f is e = absurd cc
one-arrives false at n then_ f is e = refl

pub is-dropped : (s : LinkSettings) (os : List Offer) (o : Offer) (f : Fate) → f ≡ fate s os o → f ≡ of.Dropped → dropped_of s os o ≡ o.number ∷ []
is-dropped s os o f is e = one-dropped (is_dropped s os o) (link.arrival_at s os o) o.number f is e

pub is-kept : (s : LinkSettings) (os : List Offer) (o : Offer) (then_ : ℕ) (f : Fate) → f ≡ fate s os o → f ≡ of.Arrives then_ → dropped_of s os o ≡ []
is-kept s os o then_ f is e = one-arrives (is_dropped s os o) (link.arrival_at s os o) o.number then_ f is e

pub dropped-push : (s : LinkSettings) (os : List Offer) (o : Offer) → dropped s (os ++ o ∷ []) ≡ dropped s os ++ dropped_of s os o
dropped-push s os o = flat_each-push (dropped_of s) os o

pub offer-at : (l : Looper) (there : KeptLink) (numbers : Listed ℕ) (r : Sent) (now : ℕ) (s : LinkSettings) (m : Looping)
    → StandsFor there s (m.events ++ offered (offer_of now r) ∷ [])
    → numbers.items ≡ l.dropped.items ++ dropped_of s (offers m.events) (offer_of now r)
    → IsAt l s m → IsAt (record l { link = there; dropped = numbers }) s (with_offers now (r ∷ []) m)
offer-at l there numbers r now s m stands numbers_are h =
    let o : Offer = offer_of now r in
    record {
      history = h.history;
      link = stands;
      receiver = h.receiver;
      delivered = h.delivered ∙ sym (delivered-push s m.events (offered o) ∙ append-nil (delivered s m.events));
      dropped =
          numbers_are ∙ ap (λ (ns : List ℕ). ns ++ dropped_of s (offers m.events) o) h.dropped
          ∙ sym (ap (dropped s) (offers-push m.events (offered o)) ∙ dropped-push s (offers m.events) o);
      reports = h.reports;
      over = h.over;
      read = h.read;
    }

pub offers-more : (now : ℕ) (rs : List Sent) (r : Sent) (m : Looping) → with_offers now (rs ++ r ∷ []) m ≡ with_offers now (r ∷ []) (with_offers now rs m)
offers-more now rs r m =
    ap (λ (es : List Event). record m { events = es })
    (ap (λ (es : List Event). m.events ++ es) (map-append (offered_at now) rs (r ∷ [])) ∙ sym (append_assoc m.events (map (offered_at now) rs) (offered_at now r ∷ [])))

pub offers-none : (now : ℕ) (l : Looper) (s : LinkSettings) (m : Looping) → IsAt l s m → IsAt l s (with_offers now [] m)
offers-none now l s m h =
    let same : m ≡ with_offers now [] m = ap (λ (es : List Event). record m { events = es }) (sym (append-nil m.events)) in
    subst (IsAt l s) same h

-- ---- arrivals

pub next-append : (from : ℕ) (xs ys : List Arrival) → next_from from (xs ++ ys) ≡ next_from (next_from from xs) ys
next-append from [] ys = refl
next-append from (x ∷ xs) ys = next-append (x.number + 1) xs ys

pub next-of : (first now : KeptReceiver) (arrived : List Arrival) (i : ℕ) (d : Arrival) → now ≡ record first { taken = first.taken ++ take i arrived }
    → NumbersRise (next_from first.from first.taken) arrived → i < length arrived → IsNext now (get_or arrived i d)
next-of first now arrived i d is rise inside =
    let place = rise-at (next_from first.from first.taken) arrived i d rise inside in
    let after : next_from now.from now.taken ≡ next_from (next_from first.from first.taken) (take i arrived) =
    ap (λ (k : KeptReceiver). next_from k.from k.taken) is ∙ next-append first.from first.taken (take i arrived) in
    record { after = omega (arith, place.after, after); range = place.range }

pub taken-more : (first now after : KeptReceiver) (front more : List Arrival) (a : Arrival) → now ≡ record first { taken = first.taken ++ front } → more ≡ front ++ a ∷ []
    → after ≡ record now { taken = now.taken ++ a ∷ [] } → after ≡ record first { taken = first.taken ++ more }
taken-more first now after front more a is more_is after_is =
    after_is ∙ ap (λ (k : KeptReceiver). record k { taken = k.taken ++ a ∷ [] }) is
    ∙ ap (λ (xs : List Arrival). record first { taken = xs }) (append_assoc first.taken front (a ∷ []) ∙ ap (λ (xs : List Arrival). first.taken ++ xs) (sym more_is))

rise-lower : (low high : ℕ) (xs : List Arrival) → low ≤ high → NumbersRise high xs → NumbersRise low xs
rise-lower low high [] h r = tt
rise-lower low high (a ∷ later) h r = (omega (arith, r.0), r.1, r.2)

arrived-by : (at moment : ℕ) → nat_le at moment ≡ true → at ≤ moment
arrived-by at moment e = grind (arith, nat_tests)

pub rise-given : (at low : ℕ) (xs : List Arrival) (high : ℕ) → at ≤ GREATEST_TAKEN → RiseWithin low xs high → NumbersRise low (filter (has_arrived at) xs)
rise-given at low [] high early rise = tt
rise-given at low (a ∷ later) high early rise = by_test (nat_le a.at at) refl (rise-given at (a.number + 1) later high early rise.1)
  where
    by_test : (b : Bool) → nat_le a.at at ≡ b → NumbersRise (a.number + 1) (filter (has_arrived at) later) → NumbersRise low (filter (has_arrived at) (a ∷ later))
    by_test true e more = rw e ((rise.0, omega (arith, arrived-by a.at at e), more))
    by_test false e more = rw e (rise-lower low (a.number + 1) (filter (has_arrived at) later) (omega (arith, rise.0)) more)

pub may-take : (l : Looper) (at : ℕ) (arrived : Listed Arrival) (ready : IsReady l) → at ≤ GREATEST_TAKEN
    → arrived ≡ bare (filter (has_arrived at) (held ready.settings ready.so_far.events)) → NumbersRise (next_from l.receiver.from l.receiver.taken) arrived.items
may-take l at arrived ready early is =
    let order : IsInOrder ready.settings ready.so_far = ready.order in
    let rise : NumbersRise (next_from ready.so_far.receiver.from ready.so_far.receiver.taken) (filter (has_arrived at) (held ready.settings ready.so_far.events)) =
    rise-given at (next_from ready.so_far.receiver.from ready.so_far.receiver.taken) (held ready.settings ready.so_far.events) (length (sent ready.so_far.history)) early order.rise in
    let P : KeptReceiver → Type 0 = λ k. NumbersRise (next_from k.from k.taken) (filter (has_arrived at) (held ready.settings ready.so_far.events)) in
    let Q : List Arrival → Type 0 = λ xs. NumbersRise (next_from l.receiver.from l.receiver.taken) xs in
    subst Q (sym (ap (λ (x : Listed Arrival). x.items) is)) (subst P (sym ready.at.receiver) rise)

pub arrivals-at : (l : Looper) (there : KeptLink) (receiver : KeptReceiver) (list arrived : Listed Arrival) (t at : ℕ) (xs : List Arrival) (s : LinkSettings) (m : Looping)
    → at ≡ moment t → StandsFor there s (m.events ++ link.asked at ∷ []) → arrived ≡ bare (filter (has_arrived at) (held s m.events)) → xs ≡ arrived.items
    → receiver ≡ record l.receiver { taken = l.receiver.taken ++ xs } → list.items ≡ l.delivered.items ++ arrived.items
    → IsAt l s m → IsAt (record l { link = there; receiver = receiver; delivered = list }) s (with_arrivals s t m)
unfolding with_arrivals
arrivals-at l there receiver list arrived t at xs s m at_is stands arrived_are xs_are receiver_is list_is h =
    let items : arrived.items ≡ given s m.events (link.asked at) = ap (λ (x : Listed Arrival). x.items) arrived_are in
    let done : IsAt (record l { link = there; receiver = receiver; delivered = list }) s
    (record m { events = m.events ++ link.asked at ∷ []; receiver = record m.receiver { taken = m.receiver.taken ++ given s m.events (link.asked at) } }) =
    record {
      history = h.history;
      link = stands;
      receiver =
          receiver_is ∙ ap (λ (ys : List Arrival). record l.receiver { taken = l.receiver.taken ++ ys }) (xs_are ∙ items)
          ∙ ap (λ (k : KeptReceiver). record k { taken = k.taken ++ given s m.events (link.asked at) }) h.receiver;
      delivered =
          list_is ∙ ap (λ (ys : List Arrival). l.delivered.items ++ ys) items ∙ ap (λ (ys : List Arrival). ys ++ given s m.events (link.asked at)) h.delivered
          ∙ sym (delivered-push s m.events (link.asked at));
      dropped = h.dropped ∙ ap (dropped s) (sym (offers-push m.events (link.asked at) ∙ append-nil (offers m.events)));
      reports = h.reports;
      over = h.over;
      read = h.read;
    } in
    let P : ℕ → Type 0 = λ n. IsAt (record l { link = there; receiver = receiver; delivered = list }) s
    (record m { events = m.events ++ link.asked n ∷ []; receiver = record m.receiver { taken = m.receiver.taken ++ given s m.events (link.asked n) } }) in
    subst P at_is done
