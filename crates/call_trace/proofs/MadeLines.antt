-- The lines of a made trace: of these actors, settled, not empty, and no more than asked for.
use Rattle.std.proofs.Common.{◌≡◌, ℕ, suc, zero, ◌+◌, ◌*◌, ◌%◌, ◌<◌, ◌≤◌, min, Bool, true, false, if◌then◌else◌, List, [], ◌∷◌, length, map, refl, sym, ◌∙◌, ap, subst, ◌⊎◌, inl, inr, arith, length-append}
use Rattle.std.specs.Prelude.{◌==◌}
use Rattle.std.specs.List.{All}
use Rattle.std.proofs.lemmas.List.{length-map}
use Rattle.std.proofs.lemmas.List.Elements.{All-nil, All-head, All-tail, All-push, All-weaker, All-map}
use Rattle.std.proofs.lemmas.Bool.{cases_lt}
use Rattle.std.proofs.lemmas.Bool.Decides.{nat_tests}
use Rattle.gcc_units.specs.Listed.{Listed, bare}
use Rattle.gcc_units.specs.declared.limits.TheConstants.{MOST_ACTORS, MOST_LINES}
use Rattle.gcc_units.specs.declared.class.Class.TheVariants.{Audio, Video}
use Rattle.send_core.specs.declared.call.Call.{Call}
use Rattle.send_core.specs.declared.call.Call.TheVariants.{Enqueue, Pace, Report, Configure}
use Rattle.send_core.specs.declared.call.Entry.{Entry}
use Rattle.send_core.specs.History.{entry}
use Rattle.send_core.specs.Estimates.{target}
use Rattle.send_core.specs.Reply.{reply}
use Rattle.call_trace.specs.declared.trace.Action.TheVariants.{Ask}
use Rattle.call_trace.specs.declared.trace.Line.{Line}
use Rattle.call_trace.specs.declared.trace.Trace.{Trace}
use Rattle.call_trace.specs.declared.making.Maker.{Maker}
use Rattle.call_trace.specs.Plain.{settled_call, settled_line, IsSettled, HasBytes, FitsLine, Fits}
use Rattle.call_trace.specs.MadePackets.{audio_packet, video_packet, frame_packets, packet_bytes}
use Rattle.call_trace.specs.Making.{is_audio, is_video, count_of, moment, opening, Making, asked, with_opening, with_audio, with_packets, with_video, is_frame_due, with_frame, with_pace, report_bytes, told, is_report_due, with_report, millisecond, milliseconds, actor_of, line_of, made}
use Rattle.call_trace.specs.Makers.{making}
use Rattle.call_trace.proofs.Asking.{asked-full, asked-more}

-- a call that is made: its lists are settled, and its bytes not empty
pub record IsMade (call : Call) : Type 0 where
  pub settled : settled_call call ≡ call
  pub bytes : HasBytes (Ask call)

-- ---- what each call that is made keeps, and each report that is told

opening-keeps : (P : Making → Type 0) → ((call : Call) (m : Making) → IsMade call → P m → P (asked call m)) → (t : ℕ) (m : Making) → P m → P (with_opening t m)
unfolding with_opening
opening-keeps P asks t m here = by_due (t == 0)
  where
    by_due : (due : Bool) → P (if due then asked (Configure (moment t) opening) m else m)
    by_due true = asks (Configure (moment t) opening) m (record { settled = refl; bytes = tt }) here
    by_due false = here

audio-keeps : (P : Making → Type 0) → ((call : Call) (m : Making) → IsMade call → P m → P (asked call m)) → (t : ℕ) (m : Making) → P m → P (with_audio t m)
unfolding with_audio
audio-keeps P asks t m here = by_due (t % 20 == 0)
  where
    by_due : (due : Bool) → P (if due then asked (Enqueue (moment t) Audio (bare (audio_packet (count_of is_audio m.history) t))) m else m)
    by_due true = asks (Enqueue (moment t) Audio (bare (audio_packet (count_of is_audio m.history) t))) m (record { settled = refl; bytes = omega arith }) here
    by_due false = here

packets-keep : (P : Making → Type 0) → ((call : Call) (m : Making) → IsMade call → P m → P (asked call m)) → (t size n : ℕ) (m : Making) → P m → P (with_packets t size n m)
unfolding with_packets with_video
packets-keep P asks t size zero m here = here
packets-keep P asks t size (suc n) m here =
    let before : Making = with_packets t size n m in
    asks (Enqueue (moment t) Video (bare (video_packet (count_of is_video before.history) t size))) before (record { settled = refl; bytes = omega arith }) (packets-keep P asks t size n m here)

frame-keeps : (P : Making → Type 0) → ((call : Call) (m : Making) → IsMade call → P m → P (asked call m)) → (t : ℕ) (m : Making) → P m → P (with_frame t m)
unfolding with_frame
frame-keeps P asks t m here = by_due (is_frame_due t)
  where
    by_due : (due : Bool) → P (if due then with_packets t (packet_bytes (target m.history)) (frame_packets (target m.history)) m else m)
    by_due true = packets-keep P asks t (packet_bytes (target m.history)) (frame_packets (target m.history)) m here
    by_due false = here

pace-keeps : (P : Making → Type 0) → ((call : Call) (m : Making) → IsMade call → P m → P (asked call m)) → (t : ℕ) (m : Making) → P m → P (with_pace t m)
unfolding with_pace
pace-keeps P asks t m here = by_due (t % 5 == 0)
  where
    by_due : (due : Bool) → P (if due then asked (Pace (moment t)) m else m)
    by_due true = asks (Pace (moment t)) m (record { settled = refl; bytes = tt }) here
    by_due false = here

report-keeps : (P : Making → Type 0) → ((call : Call) (m : Making) → IsMade call → P m → P (asked call m)) → ((m : Making) → P m → P (told m)) → (t : ℕ) (m : Making) → P m → P (with_report t m)
unfolding with_report
report-keeps P asks tells t m here = by_due (is_report_due t m)
  where
    by_due : (due : Bool) → P (if due then asked (Report (moment t) (bare (report_bytes m))) (told m) else m)
    by_due true = asks (Report (moment t) (bare (report_bytes m))) (told m) (record { settled = refl; bytes = omega arith }) (tells m here)
    by_due false = here

millisecond-keeps : (P : Making → Type 0) → ((call : Call) (m : Making) → IsMade call → P m → P (asked call m)) → ((m : Making) → P m → P (told m)) → (t : ℕ) (m : Making) → P m → P (millisecond t m)
millisecond-keeps P asks tells t m here =
    report-keeps P asks tells t (with_pace t (with_frame t (with_audio t (with_opening t m))))
    (pace-keeps P asks t (with_frame t (with_audio t (with_opening t m)))
    (frame-keeps P asks t (with_audio t (with_opening t m)) (audio-keeps P asks t (with_opening t m) (opening-keeps P asks t m here))))

-- ---- what is made

pub record IsFine (calls : ℕ) (m : Making) : Type 0 where
  pub asked_for : m.calls ≡ calls
  pub few : length m.history ≤ calls
  pub each : All (λ (e : Entry). IsMade e.call) m.history

fine-asked : (calls : ℕ) (call : Call) (m : Making) → IsMade call → IsFine calls m → IsFine calls (asked call m)
fine-asked calls call m is fine = by_room (cases_lt (length m.history) m.calls)
  where
    by_room : ((length m.history < m.calls) ⊎ (m.calls ≤ length m.history)) → IsFine calls (asked call m)
    by_room (inr full) = subst (IsFine calls) (sym (asked-full call m full)) fine
    by_room (inl room) =
        subst (IsFine calls) (sym (asked-more call m room)) (record {
          asked_for = fine.asked_for;
          few = omega (arith, length-append m.history (entry 0 call (reply m.history call) ∷ []), room, fine.asked_for);
          each = All-push (λ (e : Entry). IsMade e.call) m.history (entry 0 call (reply m.history call)) fine.each is;
        })

fine-told : (calls : ℕ) (m : Making) → IsFine calls m → IsFine calls (told m)
fine-told calls m fine = record { asked_for = fine.asked_for; few = fine.few; each = fine.each }

pub milliseconds-fine : (seed calls n : ℕ) → IsFine calls (milliseconds seed calls n)
unfolding milliseconds
milliseconds-fine seed calls zero = record { asked_for = refl; few = omega arith; each = All-nil (λ (e : Entry). IsMade e.call) }
milliseconds-fine seed calls (suc n) = millisecond-keeps (IsFine calls) (fine-asked calls) (fine-told calls) n (milliseconds seed calls n) (milliseconds-fine seed calls n)

-- ---- once there are as many calls as asked for

record IsFull (h : List Entry) (m : Making) : Type 0 where
  same : m.history ≡ h
  full : m.calls ≤ length h

full-asked : (h : List Entry) (call : Call) (m : Making) → IsMade call → IsFull h m → IsFull h (asked call m)
full-asked h call m is full = subst (IsFull h) (sym (asked-full call m (omega (arith, full.full, ap length full.same)))) full

full-told : (h : List Entry) (m : Making) → IsFull h m → IsFull h (told m)
full-told h m full = record { same = full.same; full = full.full }

full-until : (seed calls n k : ℕ) → n ≤ k → calls ≤ length (milliseconds seed calls n).history → IsFull (milliseconds seed calls n).history (milliseconds seed calls k)
unfolding milliseconds
full-until seed calls n zero low full =
    let is : n ≡ 0 = omega arith in
    record { same = ap (λ i. (milliseconds seed calls i).history) (sym is); full = full }
full-until seed calls n (suc k) low full = by_place (λ more. full-until seed calls n k more full) (cases_lt k n)
  where
    by_place : (n ≤ k → IsFull (milliseconds seed calls n).history (milliseconds seed calls k)) → ((k < n) ⊎ (n ≤ k)) → IsFull (milliseconds seed calls n).history (milliseconds seed calls (suc k))
    by_place before (inl last) =
        let is : n ≡ suc k = omega arith in
        record { same = ap (λ i. (milliseconds seed calls i).history) (sym is); full = omega (arith, (milliseconds-fine seed calls (suc k)).asked_for, full) }
    by_place before (inr more) =
        let h : List Entry = (milliseconds seed calls n).history in
        millisecond-keeps (IsFull h) (full-asked h) (full-told h) k (milliseconds seed calls k) (before more)

-- what a maker has made that is done, or that made as many milliseconds as are enough
pub all-made : (seed calls n : ℕ) (maker : Maker) → n ≤ 5 * calls → making maker ≡ milliseconds seed calls n → ((5 * calls ≤ n) ⊎ (maker.calls ≤ length maker.sender)) → maker.sender ≡ (milliseconds seed calls (5 * calls)).history
all-made seed calls n maker low is (inl all) =
    let last : n ≡ 5 * calls = omega arith in
    ap (λ (m : Making). m.history) is ∙ ap (λ i. (milliseconds seed calls i).history) last
all-made seed calls n maker low is (inr done) =
    let asked_for : maker.calls ≡ calls = ap (λ (m : Making). m.calls) is ∙ (milliseconds-fine seed calls n).asked_for in
    let made : maker.sender ≡ (milliseconds seed calls n).history = ap (λ (m : Making). m.history) is in
    made ∙ sym (full-until seed calls n (5 * calls) low (omega (arith, ap length made))).same

-- ---- lines

line-fits : (actors : ℕ) → 1 ≤ actors → (e : Entry) → IsMade e.call → FitsLine actors (line_of actors e)
line-fits actors some e is = record { actor = omega arith; bytes = is.bytes }

pub lines-fit : (actors calls : ℕ) (m : Making) → 1 ≤ actors → actors ≤ MOST_ACTORS → calls ≤ MOST_LINES → IsFine calls m → Fits (record { actors = actors; lines = map (line_of actors) m.history })
lines-fit actors calls m some few short fine = record {
  some_actor = omega arith;
  few_actors = few;
  few_lines = omega (arith, length-map m.history (line_of actors), fine.few);
  each = All-map (FitsLine actors) (line_of actors) m.history (All-weaker (λ (e : Entry). IsMade e.call) (λ (e : Entry). FitsLine actors (line_of actors e)) (line-fits actors some) m.history fine.each);
}

lines-settled : (actors : ℕ) (h : List Entry) → All (λ (e : Entry). IsMade e.call) h → map (line_of actors) h ≡ map settled_line (map (line_of actors) h)
lines-settled actors [] each = refl
lines-settled actors (e ∷ h) each =
    let first : IsMade e.call = All-head (λ (x : Entry). IsMade x.call) e h each in
    ap (λ (c : Call). let line : Line = record { actor = actor_of e.call % actors; action = Ask c } in line ∷ map (line_of actors) h) (sym first.settled)
    ∙ ap (λ ls. settled_line (line_of actors e) ∷ ls) (lines-settled actors h (All-tail (λ (x : Entry). IsMade x.call) e h each))

pub trace-settled : (trace : Trace) (calls : ℕ) (m : Making) → IsFine calls m → trace.lines ≡ bare (map (line_of trace.actors) m.history) → IsSettled trace
trace-settled trace calls m fine are =
    let items : trace.lines.items ≡ map (line_of trace.actors) m.history = ap (λ (l : Listed Line). l.items) are in
    record {
      lines = are ∙ ap bare (sym items);
      each = ap (λ ls. record { actors = trace.actors; lines = ls }) (items ∙ (lines-settled trace.actors m.history fine.each ∙ ap (map settled_line) (sym items)));
    }

-- ---- there are as many as asked for

-- not fewer than there were
record IsLonger (calls least : ℕ) (m : Making) : Type 0 where
  asked_for : m.calls ≡ calls
  many : least ≤ length m.history

longer-asked : (calls least : ℕ) (call : Call) (m : Making) → IsMade call → IsLonger calls least m → IsLonger calls least (asked call m)
longer-asked calls least call m is longer = by_room (cases_lt (length m.history) m.calls)
  where
    by_room : ((length m.history < m.calls) ⊎ (m.calls ≤ length m.history)) → IsLonger calls least (asked call m)
    by_room (inr full) = subst (IsLonger calls least) (sym (asked-full call m full)) longer
    by_room (inl room) =
        subst (IsLonger calls least) (sym (asked-more call m room)) (record {
          asked_for = longer.asked_for;
          many = omega (arith, length-append m.history (entry 0 call (reply m.history call) ∷ []), longer.many);
        })

longer-told : (calls least : ℕ) (m : Making) → IsLonger calls least m → IsLonger calls least (told m)
longer-told calls least m longer = record { asked_for = longer.asked_for; many = longer.many }

-- one more by a pace, unless there are enough
pace-more : (calls least t : ℕ) (m : Making) → t % 5 ≡ 0 → IsLonger calls least m → IsLonger calls (min calls (least + 1)) (with_pace t m)
unfolding with_pace
pace-more calls least t m fifth longer = by_due (t % 5 == 0) (grind (arith, nat_tests)) (cases_lt (length m.history) m.calls)
  where
    by_due : (due : Bool) → due ≡ true → ((length m.history < m.calls) ⊎ (m.calls ≤ length m.history)) → IsLonger calls (min calls (least + 1)) (if due then asked (Pace (moment t)) m else m)
    by_due false not_due room = cc
    by_due true due (inr full) = subst (IsLonger calls (min calls (least + 1))) (sym (asked-full (Pace (moment t)) m full)) (record { asked_for = longer.asked_for; many = omega (arith, longer.asked_for, full) })
    by_due true due (inl room) =
        subst (IsLonger calls (min calls (least + 1))) (sym (asked-more (Pace (moment t)) m room)) (record {
          asked_for = longer.asked_for;
          many = omega (arith, length-append m.history (entry 0 (Pace (moment t)) (reply m.history (Pace (moment t))) ∷ []), longer.many);
        })

-- as many as there were paces, unless there are enough
record IsOnTime (calls n : ℕ) (m : Making) : Type 0 where
  asked_for : m.calls ≡ calls
  many : min (5 * calls) n ≤ 5 * length m.history

on_time-next : (calls n : ℕ) (m : Making) → IsOnTime calls n m → IsOnTime calls (suc n) (millisecond n m)
on_time-next calls n m before = by_fifth (cases_lt 0 (n % 5))
  where
    least : ℕ
    least = length m.history

    by_fifth : ((0 < n % 5) ⊎ (n % 5 ≤ 0)) → IsOnTime calls (suc n) (millisecond n m)
    by_fifth (inl between) =
        let after : IsLonger calls least (millisecond n m) =
        millisecond-keeps (IsLonger calls least) (longer-asked calls least) (longer-told calls least) n m (record { asked_for = before.asked_for; many = omega arith }) in
        record { asked_for = after.asked_for; many = omega (arith, before.many, after.many, between) }
    by_fifth (inr fifth) =
        let sent : Making = with_frame n (with_audio n (with_opening n m)) in
        let sent_longer : IsLonger calls least sent =
        frame-keeps (IsLonger calls least) (longer-asked calls least) n (with_audio n (with_opening n m))
        (audio-keeps (IsLonger calls least) (longer-asked calls least) n (with_opening n m) (opening-keeps (IsLonger calls least) (longer-asked calls least) n m (record { asked_for = before.asked_for; many = omega arith }))) in
        let more : ℕ = min calls (least + 1) in
        let after : IsLonger calls more (millisecond n m) =
        report-keeps (IsLonger calls more) (longer-asked calls more) (longer-told calls more) n (with_pace n sent) (pace-more calls least n sent (omega (arith, fifth)) sent_longer) in
        record { asked_for = after.asked_for; many = omega (arith, before.many, after.many, fifth) }

milliseconds-on_time : (seed calls n : ℕ) → IsOnTime calls n (milliseconds seed calls n)
unfolding milliseconds
milliseconds-on_time seed calls zero = record { asked_for = refl; many = omega arith }
milliseconds-on_time seed calls (suc n) = on_time-next calls n (milliseconds seed calls n) (milliseconds-on_time seed calls n)

pub made-length : (seed calls actors : ℕ) → length (made seed calls actors).lines ≡ calls
unfolding made
made-length seed calls actors =
    let m : Making = milliseconds seed calls (5 * calls) in
    omega (arith, length-map m.history (line_of actors), (milliseconds-fine seed calls (5 * calls)).few, (milliseconds-on_time seed calls (5 * calls)).many)
