-- What is inside the link stays in order, and what was offered has bytes.
use Rattle.std.proofs.Common.{◌≡◌, ℕ, suc, zero, ◌+◌, ◌-◌, ◌*◌, ◌/◌, ◌%◌, ◌<◌, ◌≤◌, ◌⊎◌, inl, inr, max, ◌&&◌, Bool, true, false, not, nat_lt, if◌then◌else◌, List, [], ◌∷◌, ◌++◌, length, take, drop, map, All, refl, sym, ◌∙◌, ap, subst, append-nil, append_assoc, arith, le_refl, length-append}
use Rattle.std.specs.Prelude.{◌==◌}
use Rattle.std.specs.Int.{div_ceil}
use Rattle.std.specs.List.{prefix_len}
use Rattle.std.proofs.lemmas.Bool.{cases_lt}
use Rattle.std.proofs.lemmas.Grind.{div_ceil_times}
use Rattle.std.proofs.lemmas.Nat.{mul-le}
use Rattle.std.proofs.lemmas.List.{length-replicate}
use Rattle.std.proofs.lemmas.Bool.Decides.{nat_tests}
use Rattle.std.proofs.lemmas.List.Elements.{All-nil, All-push}
use Rattle.gcc_units.specs.declared.limits.TheConstants.{MOST_ENTRIES, GREATEST_PACKET}
use Rattle.gcc_units.specs.declared.class.Class.TheVariants.{Audio, Video}
use Rattle.gcc_units.specs.Listed.{bare}
use Rattle.gcc_units.proofs.Walk.{flat_map-push}
use Rattle.twcc_report.specs.Spelling.{Feedback}
use Rattle.twcc_report.specs.Canonical.{canonical}
use Rattle.pacer.specs.declared.sent.Sent.{Sent}
use Rattle.send_core.specs.declared.call.Call.{Call}
use Rattle.send_core.specs.declared.call.Call.TheVariants as call
use Rattle.send_core.specs.declared.call.Entry.{Entry}
use Rattle.send_core.specs.History.{entry, sent, sent_by}
use Rattle.send_core.specs.Estimates.{target}
use Rattle.send_core.specs.Reply.{reply}
use Rattle.send_core.proofs.Legality.{IsLegal-push, IsLegal-first}
use Rattle.call_trace.specs.MadePackets.{audio_packet, video_packet, frame_packets, packet_bytes}
use Rattle.call_trace.specs.Making.{is_audio, is_video, count_of, moment, opening, is_frame_due}
use Rattle.link_path.specs.declared.link.LinkSettings.{LinkSettings}
use Rattle.link_path.specs.declared.link.Arrival.{Arrival}
use Rattle.link_path.specs.Link.{Offer, Event, offered, offers, is_dropped, arrival_at, arrival_of, given, held, has_arrived, is_on_its_way, free_after}
use Rattle.link_path.specs.Link as link
use Rattle.link_path.specs.KeptLink.{IsLink, HasBytes}
use Rattle.link_path.specs.Receiver.{next_from, next_reports, told_all}
use Rattle.link_path.proofs.Offered.{offers-push, held-push}
use Rattle.link_path.proofs.Rising.{cut}
use Rattle.link_path.proofs.LinkRuns.{held-rises}
use Rattle.link_loop.specs.declared.TheConstants.{SOURCES, PACER, REPORTER, OPENER}
use Rattle.link_loop.specs.Looping.{Looping, is_open, grown, ended, asked, with_opening, with_arrivals, served, all_served, with_reports, with_audio, with_video, with_packets, with_frame, offer_of, offered_at, with_offers, paced, with_pace, all_due, millisecond, looping}
use Rattle.link_loop.specs.Kept.{IsFit, HasFitCall, RiseWithin, IsInOrder}
use Rattle.link_loop.proofs.Offering.{next-append}
use Rattle.link_loop.proofs.Sends.{AreFrom, sends-from}

-- ---- numbers that rise

rise-higher : (low : ℕ) (xs : List Arrival) (high more : ℕ) → high ≤ more → RiseWithin low xs high → RiseWithin low xs more
rise-higher low [] high more h r = omega (arith, r)
rise-higher low (a ∷ later) high more h r = (r.0, rise-higher (a.number + 1) later high more h r.1)

rise-push : (low : ℕ) (xs : List Arrival) (n : ℕ) (a : Arrival) → a.number ≡ n → RiseWithin low xs n → RiseWithin low (xs ++ a ∷ []) (n + 1)
rise-push low [] n a is r = (omega (arith, is, r), omega (arith, is))
rise-push low (b ∷ later) n a is r = (r.0, rise-push (b.number + 1) later n a is r.1)

-- behind the first ones
rise-behind : (k low : ℕ) (xs : List Arrival) (high : ℕ) → RiseWithin low xs high → RiseWithin (next_from low (take k xs)) (drop k xs) high
rise-behind zero low xs high r = r
rise-behind (suc k) low [] high r = r
rise-behind (suc k) low (a ∷ later) high r = rise-behind k (a.number + 1) later high r.1

-- ---- what a pace offers

one-more : (s : LinkSettings) (b : Bool) (at low n : ℕ) (xs : List Arrival) (r : Sent) → r.number ≡ n → RiseWithin low xs n
    → RiseWithin low (xs ++ (if b then [] else record { number = r.number; at = at } ∷ [])) (n + 1)
one-more s true at low n xs r is rise = rw append-nil (rise-higher low xs n (n + 1) (omega arith) rise)
one-more s false at low n xs r is rise = rise-push low xs n (record { number = r.number; at = at }) is rise

rise-offers : (s : LinkSettings) (now low : ℕ) (events : List Event) (n : ℕ) (rs : List Sent) → RiseWithin low (held s events) n → AreFrom n rs
    → RiseWithin low (held s (events ++ map (offered_at now) rs)) (n + length rs)
rise-offers s now low events n [] rise are =
    let P : List Event → Type 0 = λ es. RiseWithin low (held s es) (n + 0) in
    subst P (sym (append-nil events)) (rise-higher low (held s events) n (n + 0) (omega arith) rise)
rise-offers s now low events n (r ∷ rs) rise are =
    let e : Event = offered_at now r in
    let P : List Arrival → Type 0 = λ xs. RiseWithin low xs (n + 1) in
    let Q : List Event → Type 0 = λ es. RiseWithin low (held s es) (n + 1 + length rs) in
    let one : RiseWithin low (held s (events ++ e ∷ [])) (n + 1) =
    subst P (sym (held-push s events e)) (one-more s (is_dropped s (offers events) (offer_of now r)) (arrival_at s (offers events) (offer_of now r)) low n (held s events) r are.0.number rise) in
    rise-higher low (held s (events ++ map (offered_at now) (r ∷ rs))) (n + 1 + length rs) (n + length (r ∷ rs)) (omega arith)
    (subst Q (append_assoc events (e ∷ []) (map (offered_at now) rs)) (rise-offers s now low (events ++ e ∷ []) (n + 1) rs one are.1))

bytes-offers : (now : ℕ) (events : List Event) (n : ℕ) (rs : List Sent) → All HasBytes (offers events) → AreFrom n rs → All HasBytes (offers (events ++ map (offered_at now) rs))
bytes-offers now events n [] bytes are =
    let P : List Event → Type 0 = λ es. All HasBytes (offers es) in
    subst P (sym (append-nil events)) bytes
bytes-offers now events n (r ∷ rs) bytes are =
    let P : List Event → Type 0 = λ es. All HasBytes (offers es) in
    let one : All HasBytes (offers (events ++ offered_at now r ∷ [])) =
    subst (All HasBytes) (sym (offers-push events (offered_at now r))) (All-push HasBytes (offers events) (offer_of now r) bytes are.0.sendable.some) in
    subst P (append_assoc events (offered_at now r ∷ []) (map (offered_at now) rs)) (bytes-offers now (events ++ offered_at now r ∷ []) (n + 1) rs one are.1)

-- ---- calls

short-by : (b : Bool) (n : ℕ) → (not b && nat_lt n MOST_ENTRIES) ≡ true → n < MOST_ENTRIES
short-by true n e = absurd cc
short-by false n e = grind (arith, nat_tests)

pub sent-push : (h : List Entry) (caller : ℕ) (c : Call) → length (sent (h ++ entry caller c (reply h c) ∷ [])) ≡ length (sent h) + length (sent_by (reply h c))
sent-push h caller c = ap length (flat_map-push (λ (e : Entry). sent_by e.reply) h (entry caller c (reply h c))) ∙ length-append (sent h) (sent_by (reply h c))

order-grown : (s : LinkSettings) (caller : ℕ) (c : Call) (m : Looping) → is_open m ≡ true → IsFit c → IsInOrder s m → IsInOrder s (grown caller c m)
order-grown s caller c m opened fit order =
    record {
      link = order.link;
      legal = IsLegal-push m.history caller c (reply m.history c) order.legal (short-by m.over (length m.history) opened) refl;
      fit = All-push HasFitCall m.history (entry caller c (reply m.history c)) order.fit fit;
      rise =
          rise-higher (next_from m.receiver.from m.receiver.taken) (held s m.events) (length (sent m.history)) (length (sent (m.history ++ entry caller c (reply m.history c) ∷ [])))
          (omega (arith, sent-push m.history caller c)) order.rise;
      bytes = order.bytes;
    }

order-ended : (s : LinkSettings) (m : Looping) → IsInOrder s m → IsInOrder s (ended m)
order-ended s m order = record { link = order.link; legal = order.legal; fit = order.fit; rise = order.rise; bytes = order.bytes }

pub order-asked : (s : LinkSettings) (caller : ℕ) (c : Call) (m : Looping) → IsFit c → IsInOrder s m → IsInOrder s (asked caller c m)
unfolding asked
order-asked s caller c m fit order = by_open (is_open m) refl
  where
    by_open : (b : Bool) → is_open m ≡ b → IsInOrder s (if b then grown caller c m else ended m)
    by_open true e = order-grown s caller c m e fit order
    by_open false e = order-ended s m order

-- ---- what is due in a millisecond

pub order-opening : (s : LinkSettings) (t : ℕ) (m : Looping) → IsInOrder s m → IsInOrder s (with_opening t m)
unfolding with_opening
order-opening s t m order = by_due (t == 0)
  where
    by_due : (b : Bool) → IsInOrder s (if b then asked OPENER (call.Configure (moment t) opening) m else m)
    by_due true = order-asked s OPENER (call.Configure (moment t) opening) m tt order
    by_due false = order

pub order-arrivals : (s : LinkSettings) (t : ℕ) (m : Looping) → IsInOrder s m → IsInOrder s (with_arrivals s t m)
unfolding with_arrivals
order-arrivals s t m order =
    let xs : List Arrival = held s m.events in
    let k : ℕ = prefix_len (has_arrived (moment t)) xs in
    let parts = cut (moment t) 0 xs (free_after s (offers m.events) + s.delay) (held-rises s m.events order.link order.bytes) in
    let low : ℕ = next_from m.receiver.from m.receiver.taken in
    let behind : RiseWithin (next_from low (take k xs)) (drop k xs) (length (sent m.history)) = rise-behind k low xs (length (sent m.history)) order.rise in
    let next : next_from m.receiver.from (m.receiver.taken ++ given s m.events (link.asked (moment t))) ≡ next_from low (take k xs) =
    next-append m.receiver.from m.receiver.taken (given s m.events (link.asked (moment t))) ∙ ap (next_from low) parts.arrived in
    let left : held s (m.events ++ link.asked (moment t) ∷ []) ≡ drop k xs = held-push s m.events (link.asked (moment t)) ∙ parts.left in
    let P : ℕ → Type 0 = λ n. RiseWithin n (held s (m.events ++ link.asked (moment t) ∷ [])) (length (sent m.history)) in
    let Q : List Arrival → Type 0 = λ ys. RiseWithin (next_from low (take k xs)) ys (length (sent m.history)) in
    record {
      link = order.link;
      legal = order.legal;
      fit = order.fit;
      rise = subst P (sym next) (subst Q (sym left) behind);
      bytes = subst (All HasBytes) (sym (offers-push m.events (link.asked (moment t)) ∙ append-nil (offers m.events))) order.bytes;
    }

with-reported : (s : LinkSettings) (fs : List Feedback) (m : Looping) → IsInOrder s m → IsInOrder s (record m { reports = fs })
with-reported s fs m order = record { link = order.link; legal = order.legal; fit = order.fit; rise = order.rise; bytes = order.bytes }

order-served : (s : LinkSettings) (t : ℕ) (f : Feedback) (m : Looping) → IsInOrder s m → IsInOrder s (served t f m)
unfolding served
order-served s t f m order = by_open (is_open m) refl
  where
    c : Call
    c = call.Report (moment t) (bare (canonical f))

    by_open : (b : Bool) → is_open m ≡ b → IsInOrder s (if b then record (grown REPORTER c m) { reports = m.reports ++ f ∷ [] } else ended m)
    by_open true e = with-reported s (m.reports ++ f ∷ []) (grown REPORTER c m) (order-grown s REPORTER c m e tt order)
    by_open false e = order-ended s m order

order-all_served : (s : LinkSettings) (t : ℕ) (fs : List Feedback) (m : Looping) → IsInOrder s m → IsInOrder s (all_served t fs m)
order-all_served s t [] m order = order
order-all_served s t (f ∷ fs) m order = order-all_served s t fs (served t f m) (order-served s t f m order)

pub order-reports : (s : LinkSettings) (t : ℕ) (m : Looping) → IsInOrder s m → IsInOrder s (with_reports t m)
unfolding with_reports
order-reports s t m order = by_due (t % 50 == 40)
  where
    told : IsInOrder s (record m { receiver = told_all m.receiver })
    told = record { link = order.link; legal = order.legal; fit = order.fit; rise = order.rise; bytes = order.bytes }

    by_due : (b : Bool) → IsInOrder s (if b then all_served t (next_reports m.receiver) (record m { receiver = told_all m.receiver }) else m)
    by_due true = order-all_served s t (next_reports m.receiver) (record m { receiver = told_all m.receiver }) told
    by_due false = order

pub order-audio : (s : LinkSettings) (t : ℕ) (m : Looping) → IsInOrder s m → IsInOrder s (with_audio t m)
unfolding with_audio
order-audio s t m order = by_due (t % 20 == 0)
  where
    c : Call
    c = call.Enqueue (moment t) Audio (bare (audio_packet (count_of is_audio m.history) t))

    by_due : (b : Bool) → IsInOrder s (if b then asked SOURCES c m else m)
    by_due true = order-asked s SOURCES c m (omega arith, omega arith) order
    by_due false = order

order-packets : (s : LinkSettings) (t size n : ℕ) (m : Looping) → size ≤ GREATEST_PACKET → IsInOrder s m → IsInOrder s (with_packets t size n m)
unfolding with_packets with_video
order-packets s t size zero m small order = order
order-packets s t size (suc n) m small order =
    let before : Looping = with_packets t size n m in
    order-asked s SOURCES (call.Enqueue (moment t) Video (bare (video_packet (count_of is_video before.history) t size))) before (omega arith, omega (arith, small, length-replicate {A = ℕ} (size - 20) 0)) (order-packets s t size n m small order)

order-paced : (s : LinkSettings) (t : ℕ) (m : Looping) → IsInOrder s m → IsInOrder s (paced t m)
unfolding paced
order-paced s t m order = by_open (is_open m) refl
  where
    c : Call
    c = call.Pace (moment t)

    all : IsInOrder s (grown PACER c m) → IsInOrder s (with_offers (moment t) (sent_by (reply m.history c)) (grown PACER c m))
    all after =
        let rs : List Sent = sent_by (reply m.history c) in
        let are : AreFrom (length (sent m.history)) rs = sends-from m.history (moment t) order.fit in
        let low : ℕ = next_from m.receiver.from m.receiver.taken in
        let P : ℕ → Type 0 = λ n. RiseWithin low (held s (m.events ++ map (offered_at (moment t)) rs)) n in
        record {
          link = order.link;
          legal = after.legal;
          fit = after.fit;
          rise = subst P (sym (sent-push m.history PACER c)) (rise-offers s (moment t) low m.events (length (sent m.history)) rs order.rise are);
          bytes = bytes-offers (moment t) m.events (length (sent m.history)) rs order.bytes are;
        }

    by_open : (b : Bool) → is_open m ≡ b → IsInOrder s (if b then with_offers (moment t) (sent_by (reply m.history c)) (grown PACER c m) else ended m)
    by_open true e = all (order-grown s PACER c m e tt order)
    by_open false e = order-ended s m order

pub order-pace : (s : LinkSettings) (t : ℕ) (m : Looping) → IsInOrder s m → IsInOrder s (with_pace t m)
unfolding with_pace
order-pace s t m order = by_due (t % 5 == 0)
  where
    by_due : (b : Bool) → IsInOrder s (if b then paced t m else m)
    by_due true = order-paced s t m order
    by_due false = order

-- ---- frames

short-parts : (b p q : ℕ) → b ≤ p * 1200 → q * p < b + p → q ≤ 1200
short-parts b p q few most = by_size (cases_lt 1200 q)
  where
    by_size : ((1200 < q) ⊎ (q ≤ 1200)) → q ≤ 1200
    by_size (inr small) = small
    by_size (inl large) = absurd (omega (arith, mul-le 1201 p q p large (le_refl p)))

pub packets-short : (rate : ℕ) → packet_bytes rate ≤ GREATEST_PACKET
packets-short rate =
    let b : ℕ = rate / 240 in
    let n : ℕ = div_ceil b 1200 in
    let p : ℕ = max 1 n in
    let enough : b ≤ n * 1200 = (div_ceil_times b 1200 (omega arith)).0 in
    let few : b ≤ p * 1200 = omega (arith, enough) in
    let last : div_ceil b p ≤ 1200 = short-parts b p (div_ceil b p) few (div_ceil_times b p (omega arith)).1 in
    omega (arith, last)

pub order-frame : (s : LinkSettings) (t : ℕ) (m : Looping) → IsInOrder s m → IsInOrder s (with_frame t m)
unfolding with_frame
order-frame s t m order = by_due (is_frame_due t)
  where
    by_due : (b : Bool) → IsInOrder s (if b then with_packets t (packet_bytes (target m.history)) (frame_packets (target m.history)) m else m)
    by_due true = order-packets s t (packet_bytes (target m.history)) (frame_packets (target m.history)) m (packets-short (target m.history)) order
    by_due false = order

-- ---- all milliseconds

order-millisecond : (s : LinkSettings) (t : ℕ) (m : Looping) → IsInOrder s m → IsInOrder s (millisecond s t m)
unfolding millisecond
order-millisecond s t m order = by_over m.over
  where
    by_over : (b : Bool) → IsInOrder s (if b then m else all_due s t m)
    by_over true = order
    by_over false =
        order-pace s t (with_frame t (with_audio t (with_reports t (with_arrivals s t (with_opening t m)))))
        (order-frame s t (with_audio t (with_reports t (with_arrivals s t (with_opening t m))))
        (order-audio s t (with_reports t (with_arrivals s t (with_opening t m)))
        (order-reports s t (with_arrivals s t (with_opening t m))
        (order-arrivals s t (with_opening t m) (order-opening s t m order)))))

pub order-looping : (s : LinkSettings) (n : ℕ) → IsLink s → IsInOrder s (looping s n)
unfolding looping
order-looping s zero link = record { link = link; legal = IsLegal-first; fit = All-nil HasFitCall; rise = omega arith; bytes = All-nil HasBytes }
order-looping s (suc n) link = order-millisecond s n (looping s n) (order-looping s n link)
