-- There are few entries: each packet that is kept is another accepted packet of the media, and these come from lines alone.
use Rattle.std.proofs.Common.{◌≡◌, ◌≢◌, ℕ, ◌+◌, ◌*◌, ◌^◌, ◌<◌, ◌≤◌, ◌==◌, Bool, true, false, List, [], ◌∷◌, ◌++◌, length, map, fold, sum, All, Result, Ok, Err, refl, sym, ◌∙◌, ap, subst, arith, length-append, ne_eqb}
use Rattle.std.specs.List.{flat_map}
use Rattle.std.proofs.Math.Nat.{mul-le-mul_right}
use Rattle.std.proofs.lemmas.List.{length-map}
use Rattle.std.proofs.lemmas.List.Elements.{All-nil, All-head, All-tail}
use Rattle.gcc_units.specs.Listed.{Listed}
use Rattle.gcc_units.proofs.Walk.{flat_map-push}
use Rattle.gcc_units.specs.declared.limits.TheConstants.{MOST_ENTRIES}
use Rattle.rtp_wire.specs.Place.{field32}
use Rattle.send_core.specs.declared.call.Call.{Call}
use Rattle.send_core.specs.declared.call.Call.TheVariants.{Enqueue, Pace, Report, Configure}
use Rattle.send_core.specs.declared.call.Reply.{Reply}
use Rattle.send_core.specs.declared.call.Reply.TheVariants.{Accepted, Paced, Credited, Configured, Refused}
use Rattle.send_core.specs.declared.call.Entry.{Entry}
use Rattle.send_core.specs.History.{AcceptedPacket, entry, accepted, accepted_by, sent, sent_by}
use Rattle.send_core.specs.Reply.{reply, extension_id, IsLegal}
use Rattle.send_core.proofs.Legality.{IsLegal-push, IsLegal-first}
use Rattle.send_laws.proofs.Ordering.{all-fresh}
use Rattle.send_laws.proofs.ReadBack.{all-read, sent-read}
use Rattle.nack_rtx.specs.declared.fault.NackFault.{NackFault}
use Rattle.nack_rtx.specs.declared.resender.RtxSettings.{RtxSettings}
use Rattle.nack_rtx.specs.declared.resender.Resend.{Resend}
use Rattle.nack_rtx.specs.Spelling.{Asked}
use Rattle.nack_rtx.specs.Reading.{nack_of}
use Rattle.nack_rtx.specs.Resending.{Event, asked, Account, account, left, verdicts, resend_in}
use Rattle.nack_rtx.proofs.Repeats.{sound, sum_few, resends_count}
use Rattle.nack_rtx.proofs.Kept.{account-push, account-none}
use Rattle.call_trace.specs.declared.trace.Action.{Action}
use Rattle.call_trace.specs.declared.trace.Action.TheVariants.{Ask, Look}
use Rattle.call_trace.specs.declared.trace.Line.{Line}
use Rattle.resending.specs.declared.stop.Stop.{Stop}
use Rattle.resending.specs.declared.stop.Stop.TheVariants as stop
use Rattle.resending.specs.Alone.{IsCause}
use Rattle.resending.specs.Serving.{Serving, nothing, called, served_call, resend_call, served_nack, served_report, served_action, served_line, serving}
use Rattle.resending.proofs.Distinct.{tally, tally-append, those, those-append, is_at, indices, indices-append, few_places, more_elements, named_once}
use Rattle.resending.proofs.MediaPackets.{is_media, IsLong, grown_all, IsOfRtx, resends_are_of_rtx, left_packets}
use Rattle.resending.proofs.Nacks.{length-called}

-- ---- what is accepted

-- how many packets of the media are accepted
abbrev media_in : RtxSettings → List Entry → ℕ
media_in s h = those (is_media s) (accepted h)

-- how many of them left
abbrev left_in : RtxSettings → List Entry → ℕ
left_in s h = tally (is_at (is_media s) (accepted h)) (indices (sent h))

-- each packet leaves once
left_few : (s : RtxSettings) (h : List Entry) → IsLegal h → left_in s h ≤ media_in s h
left_few s h legal = few_places (is_media s) (accepted h) (indices (sent h)) (named_once [] (sent h) (all-fresh h legal.each))

accepted-push : (h : List Entry) (call : Call) → accepted (called h call) ≡ accepted h ++ accepted_by call (reply h call)
accepted-push h call = flat_map-push (λ (e : Entry). accepted_by e.call e.reply) h (entry 0 call (reply h call))

sent-push : (h : List Entry) (call : Call) → sent (called h call) ≡ sent h ++ sent_by (reply h call)
sent-push h call = flat_map-push (λ (e : Entry). sent_by e.reply) h (entry 0 call (reply h call))

media-push : (s : RtxSettings) (h : List Entry) (call : Call) → media_in s (called h call) ≡ media_in s h + those (is_media s) (accepted_by call (reply h call))
media-push s h call = ap (those (is_media s)) (accepted-push h call) ∙ those-append (is_media s) (accepted h) (accepted_by call (reply h call))

one_of : (p : AcceptedPacket → Bool) (x : AcceptedPacket) → those p (x ∷ []) ≤ 1
one_of p x = of (p x) refl
  where
    of : (b : Bool) → p x ≡ b → those p (x ∷ []) ≤ 1
    of true is = rw is (omega arith)
    of false is = rw is (omega arith)

one_at_most : (s : RtxSettings) (call : Call) (given : Reply) → those (is_media s) (accepted_by call given) ≤ 1
one_at_most s (Enqueue at class wire) (Accepted moment index) = one_of (is_media s) (record { class = class; wire = wire.items; moment = moment })
one_at_most s (Enqueue at class wire) (Paced moment records) = omega arith
one_at_most s (Enqueue at class wire) (Credited moment judged signal m acked rates shares) = omega arith
one_at_most s (Enqueue at class wire) (Configured moment rates shares) = omega arith
one_at_most s (Enqueue at class wire) (Refused moment cause) = omega arith
one_at_most s (Pace at) given = omega arith
one_at_most s (Report at bytes) given = omega arith
one_at_most s (Configure at change) given = omega arith

-- no packet that is sent again is of the media
none_of : (s : RtxSettings) (at : ℕ) (r : Resend) (given : Reply) → s.media ≢ s.rtx → IsOfRtx s r → those (is_media s) (accepted_by (resend_call at r) given) ≡ 0
none_of s at r (Accepted moment index) differ is =
    let no : (field32 8 r.packet.items == s.media) ≡ false = ne_eqb (field32 8 r.packet.items) s.media (λ e. differ (sym e ∙ is)) in
    rw no refl
none_of s at r (Paced moment records) differ is = refl
none_of s at r (Credited moment judged signal m acked rates shares) differ is = refl
none_of s at r (Configured moment rates shares) differ is = refl
none_of s at r (Refused moment cause) differ is = refl

media-resends : (s : RtxSettings) (h : List Entry) (at : ℕ) (rs : List Resend) → s.media ≢ s.rtx → All (IsOfRtx s) rs
    → media_in s (fold called h (map (resend_call at) rs)) ≡ media_in s h
media-resends s h at [] differ all = refl
media-resends s h at (r ∷ rs) differ all =
    let rest = media-resends s (called h (resend_call at r)) at rs differ (All-tail (IsOfRtx s) r rs all) in
    let none = none_of s at r (reply h (resend_call at r)) differ (All-head (IsOfRtx s) r rs all) in
    let one = media-push s h (resend_call at r) in
    omega (arith, rest, none, one)

-- ---- what left grows

left-push : (s : RtxSettings) (h : List Entry) (call : Call)
    → left_in s h + tally (is_at (is_media s) (accepted h)) (indices (sent_by (reply h call))) ≤ left_in s (called h call)
left-push s h call =
    let r : Reply = reply h call in
    let f : ℕ → Bool = is_at (is_media s) (accepted h) in
    let both = tally-append f (indices (sent h)) (indices (sent_by r)) in
    let apart = ap (tally f) (indices-append (sent h) (sent_by r)) in
    let all = ap (λ rs. tally f (indices rs)) (sent-push h call) in
    let more = more_elements (is_media s) (accepted h) (accepted_by call r) (indices (sent (called h call))) in
    let grows = ap (λ ps. tally (is_at (is_media s) ps) (indices (sent (called h call)))) (accepted-push h call) in
    omega (arith, both, apart, all, more, grows)

left-calls : (s : RtxSettings) (h : List Entry) (calls : List Call) → left_in s h ≤ left_in s (fold called h calls)
left-calls s h [] = omega arith
left-calls s h (c ∷ cs) = let one = left-push s h c in let rest = left-calls s (called h c) cs in omega (arith, one, rest)

-- ---- histories stay legal

legal-called : (h : List Entry) (call : Call) → IsLegal h → length h < MOST_ENTRIES → IsLegal (called h call)
legal-called h call legal short = IsLegal-push h 0 call (reply h call) legal short refl

legal-calls : (h : List Entry) (calls : List Call) → IsLegal h → length h + length calls ≤ MOST_ENTRIES → IsLegal (fold called h calls)
legal-calls h [] legal short = legal
legal-calls h (c ∷ cs) legal short =
    let one = length-append h (entry 0 c (reply h c) ∷ []) in
    legal-calls (called h c) cs (legal-called h c legal (omega (arith, short))) (omega (arith, one, short))

-- ---- after some lines

pub record IsFew (s : RtxSettings) (n : ℕ) (v : Serving) : Type 0 where
  pub short : length v.history ≤ n + sum (account s v.events).resent
  pub legal : IsLegal v.history
  pub kept : length (account s v.events).packets ≤ left_in s v.history
  pub media : media_in s v.history ≤ n
  pub long : All IsLong (account s v.events).packets

-- what settings may be
pub record Sound (s : RtxSettings) : Type 0 where
  pub few : s.repeats ≤ 8
  pub differ : s.media ≢ s.rtx
  pub small : s.rtx < 2 ^ 32

few_resends : (s : RtxSettings) (events : List Event) (n : ℕ) → s.repeats ≤ 8 → length (account s events).packets ≤ n → sum (account s events).resent ≤ 8 * n
few_resends s events n few packets =
    let ok = sound s events in
    let all = sum_few (account s events).resent s.repeats ok.few in
    let each = ok.each in
    let a : s.repeats * length (account s events).resent ≤ 8 * length (account s events).resent = mul-le-mul_right (length (account s events).resent) few in
    omega (arith, all, a, each, packets)

few_packets : (s : RtxSettings) (n : ℕ) (v : Serving) → IsFew s n v → length (account s v.events).packets ≤ n
few_packets s n v is = let l = left_few s v.history is.legal in omega (arith, l, is.kept, is.media)

pub few_entries : (s : RtxSettings) (n : ℕ) (v : Serving) → Sound s → IsFew s n v → length v.history ≤ 9 * n
few_entries s n v so is = let r = few_resends s v.events n so.few (few_packets s n v is) in omega (arith, r, is.short)

few-call : (s : RtxSettings) (n : ℕ) (v : Serving) (call : Call) → Sound s → 9 * n < MOST_ENTRIES → IsFew s n v → IsFew s (n + 1) (served_call v call)
few-call s n v call so room is =
    let h : List Entry = v.history in
    let entries = few_entries s n v so is in
    let legal = legal-called h call is.legal (omega (arith, entries, room)) in
    let read = all-read h is.legal.each in
    let grown = grown_all s v.events (accepted h) (extension_id h) (sent_by (reply h call)) read.low read.high (sent-read h [] (entry 0 call (reply h call)) legal.each) in
    let one = length-append h (entry 0 call (reply h call) ∷ []) in
    let left = left-push s h call in
    let media = media-push s h call in
    let most = one_at_most s call (reply h call) in
    record {
      short = omega (arith, one, grown.resent, is.short);
      legal = legal;
      kept = omega (arith, grown.packets, is.kept, left);
      media = omega (arith, media, most, is.media);
      long = grown.long is.long;
    }

few-nack : (s : RtxSettings) (n : ℕ) (v : Serving) (at : ℕ) (nack : Asked) → Sound s → 9 * n + 9 ≤ MOST_ENTRIES → IsFew s n v → IsFew s (n + 1) (served_nack s v at nack)
unfolding served_nack
few-nack s n v at nack so room is =
    let h : List Entry = v.history in
    let a : Account = account s v.events in
    let rs : List Resend = flat_map resend_in (verdicts s nack.media a nack.lost) in
    let calls : List Call = map (resend_call at) rs in
    let b : Account = account s (v.events ++ asked nack.media nack.lost ∷ []) in
    let after : b ≡ left s nack.media a nack.lost = account-push s v.events (asked nack.media nack.lost) in
    let same : b.packets ≡ a.packets = ap (λ (c : Account). c.packets) after ∙ left_packets s nack.media a nack.lost in
    let count = ap (λ (c : Account). sum c.resent) after ∙ resends_count s nack.media a nack.lost (sound s v.events).each in
    let many = length-called h calls in
    let as_many = length-map rs (resend_call at) in
    let packets = few_packets s n v is in
    let fewer = ap length same in
    let all = few_resends s (v.events ++ asked nack.media nack.lost ∷ []) n so.few (omega (arith, fewer, packets)) in
    let left = left-calls s h calls in
    let media = media-resends s h at rs so.differ (resends_are_of_rtx s nack.media a nack.lost so.small is.long) in
    record {
      short = omega (arith, many, as_many, count, is.short);
      legal = legal-calls h calls is.legal (omega (arith, as_many, count, is.short, all, room));
      kept = omega (arith, fewer, left, is.kept);
      media = omega (arith, media, is.media);
      long = subst (All IsLong) (sym same) is.long;
    }

few-report : (s : RtxSettings) (n : ℕ) (v : Serving) (at : ℕ) (bytes : Listed ℕ) (r : Result Asked NackFault) → Sound s → 9 * n + 9 ≤ MOST_ENTRIES → IsFew s n v
    → IsFew s (n + 1) (served_report s v at bytes r)
few-report s n v at bytes (Ok nack) so room is = few-nack s n v at nack so room is
few-report s n v at bytes (Err fault) so room is = few-call s n v (Report at bytes) so (omega (arith, room)) is

few-action : (s : RtxSettings) (n : ℕ) (v : Serving) (action : Action) → Sound s → 9 * n + 9 ≤ MOST_ENTRIES → IsFew s n v → IsFew s (n + 1) (served_action s v action)
few-action s n v (Ask (Enqueue at class wire)) so room is = few-call s n v (Enqueue at class wire) so (omega (arith, room)) is
few-action s n v (Ask (Pace at)) so room is = few-call s n v (Pace at) so (omega (arith, room)) is
few-action s n v (Ask (Report at bytes)) so room is = few-report s n v at bytes (nack_of bytes.items) so room is
few-action s n v (Ask (Configure at change)) so room is = few-call s n v (Configure at change) so (omega (arith, room)) is
few-action s n v Look so room is =
    record { short = omega (arith, is.short); legal = is.legal; kept = is.kept; media = omega (arith, is.media); long = is.long }

few-lines : (s : RtxSettings) (n : ℕ) (v : Serving) (lines : List Line) → Sound s → 9 * (n + length lines) ≤ MOST_ENTRIES → IsFew s n v
    → IsFew s (n + length lines) (fold (served_line s) v lines)
few-lines s n v [] so room is = let z : n + 0 ≡ n = omega arith in subst (λ k. IsFew s k v) (sym z) is
few-lines s n v (line ∷ lines) so room is =
    let e : n + 1 + length lines ≡ n + length (line ∷ lines) = omega arith in
    subst (λ k. IsFew s k (fold (served_line s) (served_line s v line) lines)) e
    (few-lines s (n + 1) (served_line s v line) lines so (omega (arith, room)) (few-action s n v line.action so (omega (arith, room)) is))

few-none : (s : RtxSettings) → IsFew s 0 nothing
few-none s =
    let a : account s [] ≡ record { packets = []; resent = [] } = account-none s in
    record {
      short = omega arith;
      legal = IsLegal-first;
      kept = let z = ap (λ (b : Account). length b.packets) a in omega (arith, z);
      media = omega arith;
      long = subst (λ (b : Account). All IsLong b.packets) (sym a) (All-nil IsLong);
    }

pub all_few : (s : RtxSettings) (lines : List Line) → Sound s → 9 * length lines ≤ MOST_ENTRIES → IsFew s (length lines) (serving s lines)
unfolding serving
all_few s lines so room =
    let z : 0 + length lines ≡ length lines = omega arith in
    subst (λ n. IsFew s n (fold (served_line s) nothing lines)) z (few-lines s 0 nothing lines so (omega (arith, room)) (few-none s))

-- at most nine entries a line
pub short_history : (s : RtxSettings) (lines : List Line) → Sound s → 9 * length lines ≤ MOST_ENTRIES → length (serving s lines).history ≤ 9 * length lines
short_history s lines so room = few_entries s (length lines) (serving s lines) so (all_few s lines so room)

-- so no call finds the journal full
pub never_full : (s : RtxSettings) (lines front : List Line) → Sound s → length lines ≤ 100000 → length front ≤ length lines
    → MOST_ENTRIES < length (serving s front).history → ⊥
never_full s lines front so few within full =
    let short = short_history s front so (omega (arith, few, within)) in
    absurd (omega (arith, short, few, within, full))

-- where no one else called, serving stops for memory alone
pub memory_alone : (s : RtxSettings) (lines front : List Line) (why : Stop) → Sound s → length lines ≤ 100000 → length front ≤ length lines
    → IsCause why (length (serving s front).history) → why ≡ stop.NoMemory
memory_alone s lines front stop.NoMemory so few within cause = refl
memory_alone s lines front stop.Full so few within cause = absurd (never_full s lines front so few within cause)
memory_alone s lines front stop.Unread so few within cause = absurd cause
