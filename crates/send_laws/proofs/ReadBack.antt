-- Each packet that is accepted or sent is read with the ID in force.
use Rattle.std.proofs.Common.{◌≡◌, ℕ, zero, suc, ◌+◌, ◌*◌, ◌%◌, ◌<◌, ◌≤◌, ◌==◌, ◌&&◌, ◌||◌, not, nat_le, nat_lt, unwrap_or, Bool, true, false, cond, Option, None, Some, IfSome, List, [], ◌∷◌, ◌++◌, length, map, slice_get, All, Result, Ok, Err, refl, sym, ◌∙◌, ap, subst, append_assoc, arith}
use Rattle.std.specs.Int.{w16, to_be_bytes}
use Rattle.std.proofs.lemmas.List.{append-nil}
use Rattle.std.proofs.lemmas.List.Elements.{All-nil, All-cons, All-append, All-head, All-tail}
use Rattle.std.proofs.lemmas.List.Sums.{fold-append}
use Rattle.std.proofs.lemmas.Bool.{leb-true, eqb-true, lt-ltb}
use Rattle.gcc_units.specs.declared.limits.TheConstants.{GREATEST_MOMENT, MOST_WAITING}
use Rattle.gcc_units.specs.declared.class.Class.{Class}
use Rattle.gcc_units.specs.Listed.{Listed}
use Rattle.gcc_units.proofs.Walk.{flat_map-push}
use Rattle.pace_queues.specs.declared.ticket.Ticket.{Ticket}
use Rattle.pace_queues.specs.Waiting.{next}
use Rattle.pace_queues.proofs.Waiting.{next-is_one}
use Rattle.pacer.specs.declared.sent.Sent.{Sent}
use Rattle.pacer.specs.Pace.{names, unsent, index_of}
use Rattle.rtp_wire.specs.declared.packet.WireFault.{WireFault}
use Rattle.rtp_wire.specs.Place.{place_of}
use Rattle.rtp_wire.specs.Stamp.{padding_packet}
use Rattle.rtp_wire.proofs.ByChecks.{place_bounds}
use Rattle.rtp_wire.proofs.Walking.{is_there}
use Rattle.twcc_report.specs.declared.fault.ReportFault.{ReportFault}
use Rattle.twcc_report.specs.Spelling.{Feedback}
use Rattle.twcc_report.specs.Reading.{read_of}
use Rattle.send_core.specs.declared.call.Call.{Call}
use Rattle.send_core.specs.declared.call.Call.TheVariants.{Enqueue, Pace, Report, Configure}
use Rattle.send_core.specs.declared.call.Change.{Change}
use Rattle.send_core.specs.declared.call.Reply.{Reply}
use Rattle.send_core.specs.declared.call.Reply.TheVariants.{Accepted, Refused}
use Rattle.send_core.specs.declared.call.Cause.{Cause}
use Rattle.send_core.specs.declared.call.Cause.TheVariants as cause
use Rattle.send_core.specs.declared.call.Entry.{Entry}
use Rattle.send_core.specs.declared.settings.Settings.{Settings}
use Rattle.send_core.specs.History.{AcceptedPacket, at_of, later, now, accepted, accepted_by, ticket_of, tickets_from, tickets, sent, sent_by, waiting, has_packets}
use Rattle.send_core.specs.Settings.{fault_of, may_be, has_extension, has_rates, has_bounds, has_pacing, settings, settings_by, start_settings}
use Rattle.send_core.specs.Reply.{extension_id, enqueued, reported, configured, standing, reply_in_time, reply, IsAnswered}
use Rattle.send_core.specs.Wires.{stamped_at, stamped_packet, wire_under, wire_of, wires}
use Rattle.send_laws.specs.Order.{AreInOrder}
use Rattle.send_laws.specs.Reading.{IsRead, IsReadPacket, AreRead}
use Rattle.send_laws.proofs.Sending.{answered-reply}
use Rattle.send_laws.proofs.Ordering.{in-order}
use Rattle.send_laws.proofs.Stamped.{stamped_is_read}

-- ---- accepted packets

-- what holds after a call with its reply
record ReadAfter (h : List Entry) (call : Call) (given : Reply) : Type 0 where
  low : 1 ≤ (settings_by (settings h) call given).extension_id
  high : (settings_by (settings h) call given).extension_id ≤ 14
  each : All (IsReadPacket (settings_by (settings h) call given).extension_id) (accepted h ++ accepted_by call given)

same_packets : (id : ℕ) (ps : List AcceptedPacket) → All (IsReadPacket id) ps → All (IsReadPacket id) (ps ++ [])
same_packets id ps all = subst (All (IsReadPacket id)) (sym (append-nil ps)) all

refused-read : (h : List Entry) (call : Call) (moment : ℕ) (why : Cause) → AreRead h → ReadAfter h call (Refused moment why)
refused-read h (Enqueue at class wire) moment why read = record { low = read.low; high = read.high; each = same_packets (extension_id h) (accepted h) read.each }
refused-read h (Pace at) moment why read = record { low = read.low; high = read.high; each = same_packets (extension_id h) (accepted h) read.each }
refused-read h (Report at bytes) moment why read = record { low = read.low; high = read.high; each = same_packets (extension_id h) (accepted h) read.each }
refused-read h (Configure at change) moment why read = record { low = read.low; high = read.high; each = same_packets (extension_id h) (accepted h) read.each }

-- check 4 passes where no check fails
fourth : (a b c d : Bool) (rest : Option ℕ) → cond (not a) (Some 1) (cond (not b) (Some 2) (cond (not c) (Some 3) (cond (not d) (Some 4) rest))) ≡ None → d ≡ true
fourth false b c d rest is = absurd cc
fourth true false c d rest is = absurd cc
fourth true true false d rest is = absurd cc
fourth true true true false rest is = absurd cc
fourth true true true true rest is = refl

both : (a b : Bool) → (a && b) ≡ true → (a ≡ true) × (b ≡ true)
both true true e = (refl, refl)
both true false e = absurd cc
both false b e = absurd cc

same_fixed : (fixed b : Bool) → fixed ≡ true → (not fixed || b) ≡ true → b ≡ true
same_fixed true b f e = e
same_fixed false b f e = absurd cc

-- an ID that a change gives
record MayBe (fixed : Bool) (in_force n : ℕ) : Type 0 where
  low : 1 ≤ n
  high : n ≤ 14
  same : fixed ≡ true → n ≡ in_force

may : (fixed : Bool) (in_force n : ℕ) → may_be fixed in_force n ≡ true → MayBe fixed in_force n
may fixed in_force n e =
    let p = both (nat_le 1 n && nat_le n 14) (not fixed || (n == in_force)) e in
    let q = both (nat_le 1 n) (nat_le n 14) p.0 in
    record { low = leb-true 1 n q.0; high = leb-true n 14 q.1; same = λ f. eqb-true n in_force (same_fixed fixed (n == in_force) f p.1) }

chosen : (fixed : Bool) (s : Settings) (change : Change) → has_extension fixed s change ≡ true → 1 ≤ s.extension_id → s.extension_id ≤ 14
    → MayBe fixed s.extension_id (unwrap_or change.extension_id s.extension_id)
chosen fixed s change e low high = of_option change.extension_id e
  where
    of_option : (o : Option ℕ) → has_extension fixed s (record change { extension_id = o }) ≡ true → MayBe fixed s.extension_id (unwrap_or o s.extension_id)
    of_option None is = record { low = low; high = high; same = λ f. refl }
    of_option (Some n) is = may fixed s.extension_id n is

none_first : (p : AcceptedPacket) (ps : List AcceptedPacket) (n : ℕ) → nat_lt 0 (length (p ∷ ps) + n) ≡ true
none_first p ps n = lt-ltb 0 (length (p ∷ ps) + n) (omega arith)

-- an ID that is the same wherever there is a packet reads the packets
for_packets : (old new : ℕ) (ps : List AcceptedPacket) (n : ℕ) → (nat_lt 0 (length ps + n) ≡ true → new ≡ old) → All (IsReadPacket old) ps → All (IsReadPacket new) ps
for_packets old new [] n same all = All-nil (IsReadPacket new)
for_packets old new (p ∷ ps) n same all = subst (λ id. All (IsReadPacket id) (p ∷ ps)) (sym (same (none_first p ps n))) all

configured-read : (h : List Entry) (at moment : ℕ) (change : Change) (o : Option ℕ) → fault_of (standing h) change ≡ o → AreRead h → ReadAfter h (Configure at change) (configured h moment change o)
configured-read h at moment change (Some check) is read = refused-read h (Configure at change) moment (cause.Config check) read
configured-read h at moment change None is read =
    let m = chosen (has_packets h) (settings h) change
    (fourth (has_rates change) (has_bounds (settings h) change) (has_pacing change) (has_extension (has_packets h) (settings h) change) _ is) read.low read.high in
    record {
      low = m.low;
      high = m.high;
      each = same_packets (unwrap_or change.extension_id (extension_id h)) (accepted h)
          (for_packets (extension_id h) (unwrap_or change.extension_id (extension_id h)) (accepted h) (length (sent h)) m.same read.each);
    }

enqueued-read : (h : List Entry) (at moment : ℕ) (class : Class) (wire : Listed ℕ) (o : Result ℕ WireFault) → place_of (extension_id h) wire.items ≡ o → AreRead h
    → ReadAfter h (Enqueue at class wire) (enqueued h moment o)
enqueued-read h at moment class wire (Err fault) is read = refused-read h (Enqueue at class wire) moment (cause.Wire fault) read
enqueued-read h at moment class wire (Ok place) is read = by_room (nat_lt (length (waiting h)) MOST_WAITING)
  where
    by_room : (b : Bool) → ReadAfter h (Enqueue at class wire) (cond b (Accepted moment (length (accepted h))) (Refused moment (cause.QueueFull MOST_WAITING)))
    by_room false = refused-read h (Enqueue at class wire) moment (cause.QueueFull MOST_WAITING) read
    by_room true = record {
      low = read.low;
      high = read.high;
      each = All-append (IsReadPacket (extension_id h)) (accepted h) _ read.each
          (All-cons (IsReadPacket (extension_id h)) (record { class = class; wire = wire.items; moment = moment }) [] (place, is) (All-nil (IsReadPacket (extension_id h))));
    }

reported-read : (h : List Entry) (at moment : ℕ) (bytes : Listed ℕ) (o : Result Feedback ReportFault) → AreRead h → ReadAfter h (Report at bytes) (reported h moment o)
reported-read h at moment bytes (Err fault) read = refused-read h (Report at bytes) moment (cause.Report fault) read
reported-read h at moment bytes (Ok report) read = record { low = read.low; high = read.high; each = same_packets (extension_id h) (accepted h) read.each }

read-in_time : (h : List Entry) (moment : ℕ) (call : Call) → AreRead h → ReadAfter h call (reply_in_time h moment call)
read-in_time h moment (Enqueue at class wire) read = enqueued-read h at moment class wire (place_of (extension_id h) wire.items) refl read
read-in_time h moment (Pace at) read = record { low = read.low; high = read.high; each = same_packets (extension_id h) (accepted h) read.each }
read-in_time h moment (Report at bytes) read = reported-read h at moment bytes (read_of bytes.items) read
read-in_time h moment (Configure at change) read = configured-read h at moment change (fault_of (standing h) change) refl read

read-after : (h : List Entry) (call : Call) → AreRead h → ReadAfter h call (reply h call)
read-after h call read = by_time (nat_lt GREATEST_MOMENT (at_of call))
  where
    by_time : (b : Bool) → ReadAfter h call (cond b (Refused (now h) cause.MomentTooLarge) (reply_in_time h (later (now h) call) call))
    by_time true = refused-read h call (now h) cause.MomentTooLarge read
    by_time false = read-in_time h (later (now h) call) call read

read-push : (h : List Entry) (e : Entry) → e.reply ≡ reply h e.call → AreRead h → AreRead (h ++ e ∷ [])
read-push h e is read =
    let after : ReadAfter h e.call e.reply = subst (ReadAfter h e.call) (sym is) (read-after h e.call read) in
    let set : settings (h ++ e ∷ []) ≡ settings_by (settings h) e.call e.reply = fold-append (λ (s : Settings) (x : Entry). settings_by s x.call x.reply) start_settings h (e ∷ []) in
    let id : extension_id (h ++ e ∷ []) ≡ (settings_by (settings h) e.call e.reply).extension_id = ap (λ (s : Settings). s.extension_id) set in
    let all : accepted (h ++ e ∷ []) ≡ accepted h ++ accepted_by e.call e.reply = flat_map-push (λ (x : Entry). accepted_by x.call x.reply) h e in
    record {
      low = subst (λ k. 1 ≤ k) (sym id) after.low;
      high = subst (λ k. k ≤ 14) (sym id) after.high;
      each = subst (λ k. All (IsReadPacket k) (accepted (h ++ e ∷ []))) (sym id) (subst (All (IsReadPacket (settings_by (settings h) e.call e.reply).extension_id)) (sym all) after.each);
    }

read-rest : (before rest more : List Entry) → AreRead before → IsAnswered (before ++ (rest ++ more)) → AreRead (before ++ rest)
read-rest before [] more read legal = subst AreRead (sym (append-nil before)) read
read-rest before (e ∷ rest) more read legal =
    subst AreRead (append_assoc before (e ∷ []) rest)
    (read-rest (before ++ e ∷ []) rest more (read-push before e (answered-reply before (rest ++ more) e legal) read)
    (subst IsAnswered (sym (append_assoc before (e ∷ []) (rest ++ more))) legal))

read-first : AreRead []
read-first = record { low = omega arith; high = omega arith; each = All-nil (IsReadPacket (extension_id [])) }

read-before : (before rest : List Entry) → IsAnswered (before ++ rest) → AreRead before
read-before before rest legal = read-rest [] before rest read-first legal

pub all-read : (history : List Entry) → IsAnswered history → AreRead history
all-read history legal = read-before history [] (subst IsAnswered (sym (append-nil history)) legal)

-- ---- sent packets

-- the index is that of an accepted packet
abbrev IsIndex : ℕ → Option ℕ → Type 0
IsIndex count None = Unit {0}
IsIndex count (Some index) = index < count

abbrev IsBelow : ℕ → Ticket → Type 0
IsBelow count t = t.index < count

tickets-below : (k count : ℕ) (ps : List AcceptedPacket) → k + length ps ≤ count → All (IsBelow count) (tickets_from k ps)
tickets-below k count [] le = All-nil (IsBelow count)
tickets-below k count (p ∷ ps) le = All-cons (IsBelow count) (ticket_of k p) (tickets_from (k + 1) ps) (omega (arith, le)) (tickets-below (k + 1) count ps (omega (arith, le)))

unsent-all : (P : Ticket → Type 0) (records : List Sent) (ts : List Ticket) → All P ts → All P (unsent records ts)
unsent-all P records [] all = All-nil P
unsent-all P records (t ∷ ts) all = by_name (names t.index records) (All-head P t ts all) (unsent-all P records ts (All-tail P t ts all))
  where
    by_name : (b : Bool) → P t → All P (unsent records ts) → All P (cond (not b) (t ∷ unsent records ts) (unsent records ts))
    by_name true p more = more
    by_name false p more = All-cons P t (unsent records ts) p more

index-below : (count : ℕ) (o : Option Ticket) → IfSome o (IsBelow count) → IsIndex count (index_of o)
index-below count None h = tt
index-below count (Some t) h = h

order-below : (count : ℕ) (ts : List Ticket) (so_far rs : List Sent) → All (IsBelow count) ts → AreInOrder ts so_far rs → All (λ (r : Sent). IsIndex count r.index) rs
order-below count ts so_far [] all order = All-nil (λ (r : Sent). IsIndex count r.index)
order-below count ts so_far (r ∷ rs) all order =
    All-cons (λ (s : Sent). IsIndex count s.index) r rs
    (subst (IsIndex count) (sym order.0) (index-below count (next (unsent so_far ts)) (next-is_one (IsBelow count) (unsent so_far ts) (unsent-all (IsBelow count) so_far ts all))))
    (order-below count ts (so_far ++ r ∷ []) rs all order.1)

stamped-read : (id low : ℕ) (p : AcceptedPacket) → 1 ≤ id → id ≤ 14 → IsReadPacket id p → IsRead id (stamped_at p.wire low (place_of id p.wire))
stamped-read id low p some few read = (read.0, ap (λ o. place_of id (stamped_at p.wire low o)) read.1 ∙ stamped_is_read id p.wire read.0 low (place_bounds id p.wire read.0 some few read.1).1 read.1)

packet-read : (id low : ℕ) (ps : List AcceptedPacket) (index : ℕ) → 1 ≤ id → id ≤ 14 → index < length ps → All (IsReadPacket id) ps → IsRead id (stamped_packet id low (slice_get ps index))
packet-read id low [] index some few lt all = absurd (omega (arith, lt))
packet-read id low (p ∷ ps) zero some few lt all = stamped-read id low p some few (All-head (IsReadPacket id) p ps all)
packet-read id low (p ∷ ps) (suc index) some few lt all = packet-read id low ps index some few (omega (arith, lt)) (All-tail (IsReadPacket id) p ps all)

padding-read : (low id : ℕ) → 1 ≤ id → id ≤ 14 → IsRead id (padding_packet low id)
unfolding place_of
padding-read low id some few = (17, is_there id 16 ((16 * id + 1) ∷ (to_be_bytes w16 low ++ 0 ∷ [])) (omega arith) (omega arith) (omega arith) (omega arith) refl)

wire-read : (id low : ℕ) (ps : List AcceptedPacket) (o : Option ℕ) → 1 ≤ id → id ≤ 14 → IsIndex (length ps) o → All (IsReadPacket id) ps → IsRead id (wire_under id ps low o)
wire-read id low ps None some few is all = padding-read low id some few
wire-read id low ps (Some index) some few is all = packet-read id low ps index some few is all

wires-read : (id : ℕ) (ps : List AcceptedPacket) (rs : List Sent) → 1 ≤ id → id ≤ 14 → All (λ (r : Sent). IsIndex (length ps) r.index) rs → All (IsReadPacket id) ps
    → All (IsRead id) (map (wire_of id ps) rs)
wires-read id ps [] some few is all = All-nil (IsRead id)
wires-read id ps (r ∷ rs) some few is all =
    All-cons (IsRead id) (wire_of id ps r) (map (wire_of id ps) rs) (wire-read id (r.number % 65536) ps r.index some few (All-head (λ (s : Sent). IsIndex (length ps) s.index) r rs is) all)
    (wires-read id ps rs some few (All-tail (λ (s : Sent). IsIndex (length ps) s.index) r rs is) all)

pub sent-read : (before rest : List Entry) (e : Entry) → IsAnswered (before ++ e ∷ rest) → All (IsRead (extension_id before)) (wires before e.reply)
sent-read before rest e legal =
    let read : AreRead before = read-before before (e ∷ rest) legal in
    let all : 0 + length (accepted before) ≤ length (accepted before) = omega arith in
    wires-read (extension_id before) (accepted before) (sent_by e.reply) read.low read.high
    (order-below (length (accepted before)) (tickets before) (sent before) (sent_by e.reply) (tickets-below 0 (length (accepted before)) (accepted before) all) (in-order before rest e legal)) read.each
