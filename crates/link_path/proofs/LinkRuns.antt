-- Over all offers and questions: arrivals rise, and what was taken out and what is inside are all of them.
use Rattle.std.proofs.Common.{◌≡◌, ℕ, suc, zero, ◌+◌, ◌*◌, ◌≤◌, Bool, true, false, if◌then◌else◌, List, [], ◌∷◌, ◌++◌, drop, All, refl, sym, ◌∙◌, ap, subst, append-nil, append_assoc, arith}
use Rattle.std.specs.Int.{div_ceil}
use Rattle.std.specs.List.{filter, prefix_len}
use Rattle.std.proofs.lemmas.Grind.{div_ceil_times}
use Rattle.std.proofs.lemmas.List.{take-append-drop}
use Rattle.std.proofs.lemmas.List.Elements.{All-head, All-tail}
use Rattle.gcc_units.specs.declared.limits.TheConstants.{BYTE}
use Rattle.link_path.specs.declared.link.LinkSettings.{LinkSettings}
use Rattle.link_path.specs.declared.link.Arrival.{Arrival}
use Rattle.link_path.specs.Link.{Offer, Event, offered, asked, offers, is_full, sent_by, line_time, free_after, is_dropped, arrival_of, arrivals, held, delivered, has_arrived, is_on_its_way}
use Rattle.link_path.specs.KeptLink.{IsLink, HasBytes, RisesBetween}
use Rattle.link_path.proofs.Rising.{cut, rises-push, rises-drop}
use Rattle.link_path.proofs.Offered.{offers-push, held-push, free-push, arrivals-push, delivered-push}

zero-times : (bytes b rate : ℕ) → bytes ≤ b * rate → 1 ≤ bytes → 1 ≤ b
zero-times bytes zero rate h l = absurd (omega arith)
zero-times bytes (suc b) rate h l = omega arith

-- a packet with a byte takes time
pub takes-time : (s : LinkSettings) (o : Offer) → IsLink s → HasBytes o → 1 ≤ line_time s o
takes-time s o link some =
    zero-times (BYTE * o.size) (div_ceil (BYTE * o.size) s.rate) s.rate (div_ceil_times (BYTE * o.size) s.rate (omega (arith, link.least_rate))).0 (omega arith)

-- ---- arrivals rise

rises-one : (s : LinkSettings) (free : ℕ) (o : Offer) (xs : List Arrival) (b : Bool) → is_full s free o ≡ b → 1 ≤ line_time s o → RisesBetween 0 xs (free + s.delay)
    → RisesBetween 0 (xs ++ (if b then [] else record { number = o.number; at = sent_by s free o + s.delay } ∷ [])) ((if b then free else sent_by s free o) + s.delay)
rises-one s free o xs true e time r = rw append-nil r
rises-one s free o xs false e time r = rises-push 0 xs (free + s.delay) (record { number = o.number; at = sent_by s free o + s.delay }) r (omega arith)

rises-offer : (s : LinkSettings) (before : List Offer) (o : Offer) (xs : List Arrival) → IsLink s → HasBytes o → RisesBetween 0 xs (free_after s before + s.delay)
    → RisesBetween 0 (xs ++ arrival_of s before o) (free_after s (before ++ o ∷ []) + s.delay)
rises-offer s before o xs link some r =
    let P : ℕ → Type 0 = λ n. RisesBetween 0 (xs ++ arrival_of s before o) (n + s.delay) in
    subst P (sym (free-push s before o)) (rises-one s (free_after s before) o xs (is_dropped s before o) refl (takes-time s o link some) r)

arrivals-from : (s : LinkSettings) (before os : List Offer) → IsLink s → All HasBytes os → RisesBetween 0 (arrivals s before) (free_after s before + s.delay)
    → RisesBetween 0 (arrivals s (before ++ os)) (free_after s (before ++ os) + s.delay)
arrivals-from s before [] link some r = rw append-nil r
arrivals-from s before (o ∷ os) link some r =
    let P : List Arrival → Type 0 = λ xs. RisesBetween 0 xs (free_after s (before ++ o ∷ []) + s.delay) in
    let Q : List Offer → Type 0 = λ xs. RisesBetween 0 (arrivals s xs) (free_after s xs + s.delay) in
    subst Q (append_assoc before (o ∷ []) os)
    (arrivals-from s (before ++ o ∷ []) os link (All-tail HasBytes o os some)
    (subst P (sym (arrivals-push s before o)) (rises-offer s before o (arrivals s before) link (All-head HasBytes o os some) r)))

pub arrivals-rise : (s : LinkSettings) (os : List Offer) → IsLink s → All HasBytes os → RisesBetween 0 (arrivals s os) (free_after s os + s.delay)
arrivals-rise s os link some = arrivals-from s [] os link some (omega arith)

-- ---- what was taken out, and what is inside

record IsWhole (s : LinkSettings) (events : List Event) : Type 0 where
  rises : RisesBetween 0 (held s events) (free_after s (offers events) + s.delay)
  whole : delivered s events ++ held s events ≡ arrivals s (offers events)

joined : (d h a all bs : List Arrival) → d ++ h ≡ all → bs ≡ all ++ a → (d ++ []) ++ (h ++ a) ≡ bs
joined d h a all bs e f = ap (λ (xs : List Arrival). xs ++ (h ++ a)) (append-nil d) ∙ sym (append_assoc d h a) ∙ ap (λ (xs : List Arrival). xs ++ a) e ∙ sym f

whole-offered : (s : LinkSettings) (events : List Event) (o : Offer) → IsLink s → HasBytes o → IsWhole s events → IsWhole s (events ++ offered o ∷ [])
whole-offered s events o link some w =
    record {
      rises = rw (held-push s events (offered o), offers-push events (offered o)) (rises-offer s (offers events) o (held s events) link some w.rises);
      whole = rw (delivered-push s events (offered o), held-push s events (offered o), offers-push events (offered o))
          (joined (delivered s events) (held s events) (arrival_of s (offers events) o) _ _ w.whole (arrivals-push s (offers events) o));
    }

parted : (d g l h all : List Arrival) → g ++ l ≡ h → d ++ h ≡ all → (d ++ g) ++ l ≡ all
parted d g l h all e f = append_assoc d g l ∙ ap (λ (xs : List Arrival). d ++ xs) e ∙ f

parts : (moment : ℕ) (xs : List Arrival) (high : ℕ) → RisesBetween 0 xs high → filter (has_arrived moment) xs ++ filter (is_on_its_way moment) xs ≡ xs
parts moment xs high r =
    let c = cut moment 0 xs high r in
    rw (c.arrived, c.left) (take-append-drop (prefix_len (has_arrived moment) xs) xs)

whole-asked : (s : LinkSettings) (events : List Event) (moment : ℕ) → IsWhole s events → IsWhole s (events ++ asked moment ∷ [])
whole-asked s events moment w =
    let left : filter (is_on_its_way moment) (held s events) ≡ drop (prefix_len (has_arrived moment) (held s events)) (held s events) =
    (cut moment 0 (held s events) (free_after s (offers events) + s.delay) w.rises).left in
    let same : offers (events ++ asked moment ∷ []) ≡ offers events = offers-push events (asked moment) ∙ append-nil (offers events) in
    record {
      rises = rw (held-push s events (asked moment), same, left) (rises-drop (prefix_len (has_arrived moment) (held s events)) 0 (held s events) (free_after s (offers events) + s.delay) w.rises);
      whole = rw (delivered-push s events (asked moment), held-push s events (asked moment), same)
          (parted (delivered s events) (filter (has_arrived moment) (held s events)) (filter (is_on_its_way moment) (held s events)) (held s events) _
          (parts moment (held s events) (free_after s (offers events) + s.delay) w.rises) w.whole);
    }

whole-from : (s : LinkSettings) (before events : List Event) → IsLink s → All HasBytes (offers events) → IsWhole s before → IsWhole s (before ++ events)
whole-from s before [] link some w = rw append-nil w
whole-from s before (offered o ∷ events) link some w =
    subst (IsWhole s) (append_assoc before (offered o ∷ []) events)
    (whole-from s (before ++ offered o ∷ []) events link (All-tail HasBytes o (offers events) some) (whole-offered s before o link (All-head HasBytes o (offers events) some) w))
whole-from s before (asked moment ∷ events) link some w =
    subst (IsWhole s) (append_assoc before (asked moment ∷ []) events) (whole-from s (before ++ asked moment ∷ []) events link some (whole-asked s before moment w))

pub whole : (s : LinkSettings) (events : List Event) → IsLink s → All HasBytes (offers events) → delivered s events ++ held s events ≡ arrivals s (offers events)
whole s events link some = (whole-from s [] events link some (record { rises = omega arith; whole = refl })).whole

pub held-rises : (s : LinkSettings) (events : List Event) → IsLink s → All HasBytes (offers events) → RisesBetween 0 (held s events) (free_after s (offers events) + s.delay)
held-rises s events link some = (whole-from s [] events link some (record { rises = omega arith; whole = refl })).rises
