-- What leaves with a pace is kept, and leaves as the history says.
use Rattle.std.proofs.Common.{◌≡◌, ℕ, suc, zero, ◌<◌, ◌==◌, ◌||◌, ◌%◌, Bool, true, false, not, cond, nat_lt, Option, None, Some, IfSome, List, [], ◌∷◌, length, map, slice_get, All, get_or, refl, sym, ◌∙◌, ap, subst, arith}
use Rattle.std.proofs.lemmas.Bool.{eq-eqb}
use Rattle.std.proofs.lemmas.List.Elements.{All-nil, All-cons, All-head, All-tail, All-weaker, All-filter}
use Rattle.gcc_units.specs.declared.limits.TheConstants.{GREATEST_MOMENT, MOST_SENDS}
use Rattle.pace_queues.specs.declared.ticket.Ticket.{Ticket}
use Rattle.pace_queues.specs.Waiting.{next}
use Rattle.pace_queues.proofs.Waiting.{next-is_one}
use Rattle.pacer.specs.declared.sent.Sent.{Sent}
use Rattle.pacer.specs.declared.course.Terms.{Terms}
use Rattle.pacer.specs.Pace.{Standing, names, IsBelow, NamesBelow, index_of, paced}
use Rattle.pacer.proofs.Ruled.{rule-is}
use Rattle.pacer.proofs.Sends.{sends-have}
use Rattle.rtp_wire.specs.Wires.{bare_wires}
use Rattle.send_core.specs.declared.call.Call.TheVariants as call_kind
use Rattle.send_core.specs.declared.call.Cause.TheVariants as cause_kind
use Rattle.send_core.specs.declared.call.Reply.{Reply}
use Rattle.send_core.specs.declared.call.Reply.TheVariants as reply_kind
use Rattle.send_core.specs.declared.call.Entry.{Entry}
use Rattle.send_core.specs.declared.settings.Settings.{Settings}
use Rattle.send_core.specs.History.{AcceptedPacket, wire_in, now, later, accepted, sent_by, waiting}
use Rattle.send_core.specs.Reply.{terms_at, standing_at, reply_in_time, reply}
use Rattle.send_core.specs.Stands.{IsReadable}
use Rattle.send_core.specs.Wires.{stamped_packet, wire_under, wire_of, wires}
use Rattle.send_core.proofs.LawsKept.{adds}
use Rattle.live_sender.specs.Held.{Held, under, stamped_held, wire_by, wire_from, AreStampable, IsReady, CanLeave}
use Rattle.live_sender.specs.Live.{is_among, bytes_among, Live, StandsFor}

-- ---- each record is of a packet that waits, or of none

abbrev pub IsOneOf : List Ticket → Option ℕ → Type 0
IsOneOf ts None = Unit {0}
IsOneOf ts (Some index) = is_among ts index ≡ true

among-each : (ts : List Ticket) → All (λ (t : Ticket). is_among ts t.index ≡ true) ts
among-each [] = All-nil (λ (t : Ticket). is_among [] t.index ≡ true)
among-each (t ∷ ts) =
    All-cons (λ (u : Ticket). is_among (t ∷ ts) u.index ≡ true) t ts (first (t.index == t.index) (eq-eqb t.index t.index refl))
    (All-weaker (λ (u : Ticket). is_among ts u.index ≡ true) (λ (u : Ticket). is_among (t ∷ ts) u.index ≡ true) (λ u h. more (t.index == u.index) (is_among ts u.index) h) ts (among-each ts))
  where
    first : (b : Bool) → b ≡ true → (b || is_among ts t.index) ≡ true
    first true e = refl
    first false e = absurd cc

    more : (b w : Bool) → w ≡ true → (b || w) ≡ true
    more true w h = refl
    more false w h = h

paced-among : (most : ℕ) (ts : List Ticket) (terms : Terms) (s : Standing) → All (λ (t : Ticket). is_among ts t.index ≡ true) s.waiting → All (λ (r : Sent). IsOneOf ts r.index) (paced most terms s)
paced-among most ts terms s all =
    sends-have (λ (r : Sent). IsOneOf ts r.index) (λ t. All (λ (u : Ticket). is_among ts u.index ≡ true) t.waiting) terms
    (λ t r may e. one t r may (rule-is terms t r e).index)
    (λ t r may e. All-filter (λ (u : Ticket). not (names u.index (r ∷ []))) (λ (u : Ticket). is_among ts u.index ≡ true) t.waiting may)
    most s all
  where
    one : (t : Standing) (r : Sent) → All (λ (u : Ticket). is_among ts u.index ≡ true) t.waiting → r.index ≡ index_of (next t.waiting) → IsOneOf ts r.index
    one t r may is = by_next (next t.waiting) (next-is_one (λ (u : Ticket). is_among ts u.index ≡ true) t.waiting may) is
      where
        by_next : (o : Option Ticket) → IfSome o (λ (u : Ticket). is_among ts u.index ≡ true) → r.index ≡ index_of o → IsOneOf ts r.index
        by_next None h is = subst (IsOneOf ts) (sym is) tt
        by_next (Some u) h is = subst (IsOneOf ts) (sym is) h

pub sends-among : (h : List Entry) (at : ℕ) (given : Reply) → given ≡ reply h (call_kind.Pace at) → All (λ (r : Sent). IsOneOf (waiting h) r.index) (sent_by given)
sends-among h at given is = subst (λ (r : Reply). All (λ (x : Sent). IsOneOf (waiting h) x.index) (sent_by r)) (sym is) (by_time (nat_lt GREATEST_MOMENT at))
  where
    moment : ℕ
    moment = later (now h) (call_kind.Pace at)

    by_time : (b : Bool) → All (λ (x : Sent). IsOneOf (waiting h) x.index) (sent_by (cond b (reply_kind.Refused (now h) cause_kind.MomentTooLarge) (reply_in_time h moment (call_kind.Pace at))))
    by_time true = All-nil (λ (x : Sent). IsOneOf (waiting h) x.index)
    by_time false = paced-among MOST_SENDS (waiting h) (terms_at h moment) (standing_at h moment) (among-each (waiting h))

-- ---- it is kept

record Leaves (id : ℕ) (ps : List AcceptedPacket) (k : ℕ) (o : Option (List ℕ)) : Type 0 where
  ready : AreStampable id o
  same : (low : ℕ) → stamped_held id low o ≡ stamped_packet id low (slice_get ps k)

leaves : (id : ℕ) (ps : List AcceptedPacket) (k : ℕ) → k < length ps → All (IsReadable id) ps → Leaves id ps k (slice_get (map wire_in ps) k)
leaves id [] k lt all = absurd (omega arith)
leaves id (p ∷ ps) zero lt all =
    let readable : IsReadable id p = All-head (IsReadable id) p ps all in
    record { ready = record { place = readable.place; is_place = readable.is_place; small = readable.small }; same = λ low. refl }
leaves id (p ∷ ps) (suc k) lt all =
    let more : Leaves id ps k (slice_get (map wire_in ps) k) = leaves id ps k (omega arith) (All-tail (IsReadable id) p ps all) in
    record { ready = more.ready; same = more.same }

-- what a record's packet makes
record Leaving (id : ℕ) (held : Held) (ps : List AcceptedPacket) (r : Sent) : Type 0 where
  can : CanLeave id held r
  same : wire_from id held r ≡ wire_of id ps r

leaving : (id : ℕ) (held : Held) (ts : List Ticket) (ps : List AcceptedPacket) (r : Sent) → ((k : ℕ) → under held k ≡ bytes_among ts ps k)
    → All (IsReadable id) ps → IsOneOf ts r.index → NamesBelow (length ps) r → Leaving id held ps r
leaving id held ts ps r keeps all waits below = record { can = can r.index waits below; same = same (r.number % 65536) r.index waits below }
  where
    there : (k : ℕ) → is_among ts k ≡ true → under held k ≡ slice_get (map wire_in ps) k
    there k is = keeps k ∙ ap (λ b. cond b (slice_get (map wire_in ps) k) None) is

    can : (o : Option ℕ) → IsOneOf ts o → IsBelow (length ps) o → IsReady id held o
    can None w b = tt
    can (Some k) w b = subst (AreStampable id) (sym (there k w)) (leaves id ps k b all).ready

    same : (low : ℕ) (o : Option ℕ) → IsOneOf ts o → IsBelow (length ps) o → wire_by id held low o ≡ wire_under id ps low o
    same low None w b = refl
    same low (Some k) w b = ap (stamped_held id low) (there k w) ∙ (leaves id ps k b all).same low

leaving-all : (id : ℕ) (held : Held) (ts : List Ticket) (ps : List AcceptedPacket) (rs : List Sent) → ((k : ℕ) → under held k ≡ bytes_among ts ps k)
    → All (IsReadable id) ps → All (λ (r : Sent). IsOneOf ts r.index) rs → All (NamesBelow (length ps)) rs → All (Leaving id held ps) rs
leaving-all id held ts ps rs keeps all waits below = λ k d l. leaving id held ts ps (get_or rs k d) keeps all (waits k d l) (below k d l)

map-leaving : (id : ℕ) (held : Held) (ps : List AcceptedPacket) (rs : List Sent) → All (Leaving id held ps) rs → map (wire_from id held) rs ≡ map (wire_of id ps) rs
map-leaving id held ps [] all = refl
map-leaving id held ps (r ∷ rs) all =
    let first : wire_from id held r ≡ wire_of id ps r = (All-head (Leaving id held ps) r rs all).same in
    ap (λ w. w ∷ map (wire_from id held) rs) first ∙ ap (λ ws. wire_of id ps r ∷ ws) (map-leaving id held ps rs (All-tail (Leaving id held ps) r rs all))

leaving-history : (h : List Entry) (live : Live) (at : ℕ) (given : Reply) → StandsFor live h → given ≡ reply h (call_kind.Pace at)
    → All (Leaving live.parts.settings.extension_id live.packets (accepted h)) (sent_by given)
leaving-history h live at given s is =
    leaving-all live.parts.settings.extension_id live.packets (waiting h) (accepted h) (sent_by given) s.packets
    (subst (λ (t : Settings). All (IsReadable t.extension_id) (accepted h)) (sym s.parts.set) s.parts.laws.readable)
    (sends-among h at given is) (adds h (call_kind.Pace at) given s.parts.laws is).known

pub can-leave : (h : List Entry) (live : Live) (at id : ℕ) (given : Reply) → StandsFor live h → given ≡ reply h (call_kind.Pace at) → id ≡ live.parts.settings.extension_id
    → All (CanLeave id live.packets) (sent_by given)
can-leave h live at id given s is id_is =
    subst (λ n. All (CanLeave n live.packets) (sent_by given)) (sym id_is)
    (λ k d l. (leaving-history h live at given s is k d l).can)

pub wires-leave : (h : List Entry) (live : Live) (at id : ℕ) (given : Reply) → StandsFor live h → given ≡ reply h (call_kind.Pace at) → id ≡ live.parts.settings.extension_id
    → bare_wires (map (wire_from id live.packets) (sent_by given)) ≡ bare_wires (wires h given)
wires-leave h live at id given s is id_is =
    ap (λ n. bare_wires (map (wire_from n live.packets) (sent_by given))) id_is
    ∙ (ap bare_wires (map-leaving live.parts.settings.extension_id live.packets (accepted h) (sent_by given) (leaving-history h live at given s is))
    ∙ ap (λ (t : Settings). bare_wires (map (wire_of t.extension_id (accepted h)) (sent_by given))) s.parts.set)
