-- What no report told of is never old, millisecond after millisecond.
use Rattle.std.proofs.Common.{◌≡◌, ℕ, suc, zero, ◌+◌, ◌*◌, ◌%◌, ◌<◌, ◌≤◌, Bool, true, false, nat_lt, if◌then◌else◌, List, [], ◌∷◌, ◌++◌, length, drop, refl, sym, ◌∙◌, ap, subst, ◌⊎◌, inl, inr, arith, length-append, length-drop}
use Rattle.std.specs.Prelude.{◌==◌, ◌&&◌}
use Rattle.std.specs.List.{All}
use Rattle.std.proofs.lemmas.List.{drop-append-le, drop_all, length-take}
use Rattle.std.proofs.lemmas.List.Elements.{All-nil, All-head, All-append, All-weaker, All-take}
use Rattle.std.proofs.lemmas.Bool.{cases_lt}
use Rattle.std.proofs.lemmas.Bool.Decides.{nat_tests}
use Rattle.gcc_units.specs.Listed.{bare}
use Rattle.gcc_units.specs.declared.limits.TheConstants.{MOST_LINES, MOST_SENDS}
use Rattle.gcc_units.specs.declared.class.Class.TheVariants.{Audio, Video}
use Rattle.send_core.specs.declared.call.Call.{Call}
use Rattle.send_core.specs.declared.call.Call.TheVariants.{Enqueue, Pace, Report, Configure}
use Rattle.send_core.specs.History.{entry, at_of, now}
use Rattle.send_core.specs.Estimates.{target}
use Rattle.send_core.specs.Reply.{reply}
use Rattle.call_trace.specs.MadePackets.{audio_packet, video_packet, frame_packets, packet_bytes}
use Rattle.call_trace.specs.MadeReports.{IsNear, AreNear}
use Rattle.call_trace.specs.Making.{is_audio, is_video, count_of, moments, moments_by, moment, opening, Making, asked, with_opening, with_audio, with_video, with_packets, is_frame_due, with_frame, with_pace, untold, uncovered, report_bytes, told, with_report, millisecond, milliseconds}
use Rattle.call_trace.specs.Makers.{since, IsSteady}
use Rattle.call_trace.proofs.Asking.{asked-full, asked-more, moments-push}
use Rattle.call_trace.proofs.Framing.{report-due, report-not_due}
use Rattle.call_trace.proofs.MadeSends.{is_pace, quiet-sends, IsAt, pace-sends, now-after}

-- not above the moment of t, nor further below it than this
abbrev pub IsRecent : ℕ → ℕ → ℕ → Type 0
IsRecent distance t sent_at = (moment t ≤ sent_at + distance) × (sent_at ≤ moment t)

-- in the millisecond t: what no report told of was sent not longer ago than this, and is at most so much
pub record IsWindow (distance t most : ℕ) (m : Making) : Type 0 where
  pub time : now m.history ≤ moment t
  pub within : m.covered ≤ length (moments m.history)
  pub few : length (untold m) ≤ most
  pub recent : All (IsRecent distance t) (untold m)

-- ---- calls

window-asked : (distance t most more all : ℕ) (call : Call) (m : Making) → at_of call ≡ moment t → IsAt (moment t) more (moments_by (reply m.history call)) → most + more ≤ all → IsWindow distance t most m
    → IsWindow distance t all (asked call m)
window-asked distance t most more all call m at sends enough w = by_room (cases_lt (length m.history) m.calls)
  where
    by_room : ((length m.history < m.calls) ⊎ (m.calls ≤ length m.history)) → IsWindow distance t all (asked call m)
    by_room (inr full) = subst (IsWindow distance t all) (sym (asked-full call m full)) (record { time = w.time; within = w.within; few = omega (arith, w.few); recent = w.recent })
    by_room (inl room) =
        let new : List ℕ = moments_by (reply m.history call) in
        let grown : moments (m.history ++ entry 0 call (reply m.history call) ∷ []) ≡ moments m.history ++ new = moments-push m.history call (reply m.history call) in
        let left : drop m.covered (moments (m.history ++ entry 0 call (reply m.history call) ∷ [])) ≡ untold m ++ new = ap (drop m.covered) grown ∙ drop-append-le m.covered (moments m.history) new w.within in
        subst (IsWindow distance t all) (sym (asked-more call m room)) (record {
          time = now-after m.history call (reply m.history call) (moment t) w.time (omega (arith, at));
          within = omega (arith, ap length grown, length-append (moments m.history) new, w.within);
          few = omega (arith, ap length left, length-append (untold m) new, w.few, sends.few);
          recent = subst (All (IsRecent distance t)) (sym left) (All-append (IsRecent distance t) (untold m) new w.recent (All-weaker (λ sent_at. sent_at ≡ moment t) (IsRecent distance t) (λ sent_at is. (omega arith, omega arith)) new sends.each));
        })

window-quiet : (distance t most : ℕ) (call : Call) (m : Making) → at_of call ≡ moment t → is_pace call ≡ false → IsWindow distance t most m → IsWindow distance t most (asked call m)
window-quiet distance t most call m at quiet w =
    let none : moments_by (reply m.history call) ≡ [] = quiet-sends m.history call quiet in
    window-asked distance t most 0 most call m at (subst (IsAt (moment t) 0) (sym none) (record { few = omega arith; each = All-nil (λ sent_at. sent_at ≡ moment t) })) (omega arith) w

-- ---- what is due

window-opening : (distance t most : ℕ) (m : Making) → IsWindow distance t most m → IsWindow distance t most (with_opening t m)
unfolding with_opening
window-opening distance t most m w = by_due (t == 0)
  where
    by_due : (b : Bool) → IsWindow distance t most (if b then asked (Configure (moment t) opening) m else m)
    by_due true = window-quiet distance t most (Configure (moment t) opening) m refl refl w
    by_due false = w

window-audio : (distance t most : ℕ) (m : Making) → IsWindow distance t most m → IsWindow distance t most (with_audio t m)
unfolding with_audio
window-audio distance t most m w = by_due (t % 20 == 0)
  where
    by_due : (b : Bool) → IsWindow distance t most (if b then asked (Enqueue (moment t) Audio (bare (audio_packet (count_of is_audio m.history) t))) m else m)
    by_due true = window-quiet distance t most (Enqueue (moment t) Audio (bare (audio_packet (count_of is_audio m.history) t))) m refl refl w
    by_due false = w

window-packets : (distance t most size n : ℕ) (m : Making) → IsWindow distance t most m → IsWindow distance t most (with_packets t size n m)
unfolding with_packets with_video
window-packets distance t most size zero m w = w
window-packets distance t most size (suc n) m w =
    let before : Making = with_packets t size n m in
    window-quiet distance t most (Enqueue (moment t) Video (bare (video_packet (count_of is_video before.history) t size))) before refl refl (window-packets distance t most size n m w)

window-frame : (distance t most : ℕ) (m : Making) → IsWindow distance t most m → IsWindow distance t most (with_frame t m)
unfolding with_frame
window-frame distance t most m w = by_due (is_frame_due t)
  where
    by_due : (b : Bool) → IsWindow distance t most (if b then with_packets t (packet_bytes (target m.history)) (frame_packets (target m.history)) m else m)
    by_due true = window-packets distance t most (packet_bytes (target m.history)) (frame_packets (target m.history)) m w
    by_due false = w

window-pace : (distance t most : ℕ) (m : Making) → IsWindow distance t most m → IsWindow distance t (most + MOST_SENDS) (with_pace t m)
unfolding with_pace
window-pace distance t most m w = by_due (t % 5 == 0)
  where
    by_due : (b : Bool) → IsWindow distance t (most + MOST_SENDS) (if b then asked (Pace (moment t)) m else m)
    by_due true = window-asked distance t most MOST_SENDS (most + MOST_SENDS) (Pace (moment t)) m refl (pace-sends m.history (moment t) w.time) (omega arith) w
    by_due false = record { time = w.time; within = w.within; few = omega (arith, w.few); recent = w.recent }

-- all that is due before a report
pub sent-window : (t : ℕ) (m : Making) → IsSteady t m → IsWindow (moment (since t)) t (MOST_SENDS * since t + MOST_SENDS) (with_pace t (with_frame t (with_audio t (with_opening t m))))
sent-window t m steady =
    let d : ℕ = moment (since t) in
    let most : ℕ = MOST_SENDS * since t in
    window-pace d t most (with_frame t (with_audio t (with_opening t m)))
    (window-frame d t most (with_audio t (with_opening t m))
    (window-audio d t most (with_opening t m)
    (window-opening d t most m (record { time = steady.time; within = steady.within; few = steady.few; recent = steady.recent }))))

-- ---- reports

all-near : (t : ℕ) (ms : List ℕ) → t ≤ 5 * MOST_LINES → All (IsRecent (moment (since t)) t) ms → AreNear ms
all-near t [] early recent = record { each = All-nil (IsNear 50000 0); early = omega arith }
all-near t (x ∷ xs) early recent =
    let first : IsRecent (moment (since t)) t x = All-head (IsRecent (moment (since t)) t) x xs recent in
    record {
      each = All-weaker (IsRecent (moment (since t)) t) (IsNear 50000 x) (λ sent_at here. record { above = omega (arith, first.0, first.1, here.0, here.1); below = omega (arith, first.0, first.1, here.0, here.1) }) (x ∷ xs) recent;
      early = omega (arith, first.1);
    }

pub window-near : (t most : ℕ) (m : Making) → t ≤ 5 * MOST_LINES → IsWindow (moment (since t)) t most m → AreNear (uncovered m)
window-near t most m early w = all-near t (uncovered m) early (All-take (IsRecent (moment (since t)) t) 65535 (untold m) w.recent)

-- ---- the next millisecond

steady-empty : (t : ℕ) (m : Making) → now m.history ≤ moment t → m.covered ≤ length (moments m.history) → untold m ≡ [] → IsSteady (suc t) m
steady-empty t m time within none = record {
  time = omega (arith, time);
  within = within;
  few = omega (arith, ap length none);
  recent = subst (All (IsRecent (moment (since (suc t))) (suc t))) (sym none) (All-nil (IsRecent (moment (since (suc t))) (suc t)));
}

steady-grown : (t : ℕ) (m : Making) → (t % 50 ≡ 40 → ⊥) → IsWindow (moment (since t)) t (MOST_SENDS * since t + MOST_SENDS) m → IsSteady (suc t) m
steady-grown t m other w =
    let next : since (suc t) ≡ since t + 1 = omega (arith, other) in
    record {
      time = omega (arith, w.time);
      within = w.within;
      few = omega (arith, w.few, next);
      recent = All-weaker (IsRecent (moment (since t)) t) (IsRecent (moment (since (suc t))) (suc t)) (λ sent_at here. (omega (arith, here.0, next), omega (arith, here.1))) (untold m) w.recent;
    }

told-none : (m : Making) → length (untold m) ≤ 65535 → untold (told m) ≡ []
told-none m few = drop_all (m.covered + length (uncovered m)) (moments m.history) (omega (arith, length-take 65535 (untold m), length-drop m.covered (moments m.history), few))

told-window : (t : ℕ) (m : Making) → now m.history ≤ moment t → m.covered ≤ length (moments m.history) → length (untold m) ≤ 65535 → IsWindow 0 t 0 (told m)
told-window t m time within few =
    let none : untold (told m) ≡ [] = told-none m few in
    record {
      time = time;
      within = omega (arith, within, length-take 65535 (untold m), length-drop m.covered (moments m.history));
      few = omega (arith, ap length none);
      recent = subst (All (IsRecent 0 t)) (sym none) (All-nil (IsRecent 0 t));
    }

none-left : (xs : List ℕ) → length xs ≤ 0 → xs ≡ []
none-left [] few = refl
none-left (x ∷ xs) few = absurd (omega arith)

pub steady-reported : (t : ℕ) (m : Making) → IsWindow (moment (since t)) t (MOST_SENDS * since t + MOST_SENDS) m → IsSteady (suc t) (with_report t m)
steady-reported t m w = by_time (t % 50 == 40) refl
  where
    reported : IsWindow 0 t 0 (told m) → IsSteady (suc t) (asked (Report (moment t) (bare (report_bytes m))) (told m))
    reported window =
        let after : IsWindow 0 t 0 (asked (Report (moment t) (bare (report_bytes m))) (told m)) = window-quiet 0 t 0 (Report (moment t) (bare (report_bytes m))) (told m) refl refl window in
        steady-empty t (asked (Report (moment t) (bare (report_bytes m))) (told m)) after.time after.within (none-left (untold (asked (Report (moment t) (bare (report_bytes m))) (told m))) after.few)

    by_left : (left : Bool) → t % 50 ≡ 40 → (t % 50 == 40) ≡ true → nat_lt m.covered (length (moments m.history)) ≡ left → IsSteady (suc t) (with_report t m)
    by_left true forty due is =
        let few : length (untold m) ≤ 65535 = omega (arith, w.few, forty) in
        subst (IsSteady (suc t)) (sym (report-due t m (ap (λ (b : Bool). b && nat_lt m.covered (length (moments m.history))) due ∙ is))) (reported (told-window t m w.time w.within few))
    by_left false forty due is =
        let none : untold m ≡ [] = drop_all m.covered (moments m.history) (grind (arith, nat_tests)) in
        subst (IsSteady (suc t)) (sym (report-not_due t m (ap (λ (b : Bool). b && nat_lt m.covered (length (moments m.history))) due ∙ is))) (steady-empty t m w.time w.within none)

    by_time : (forty : Bool) → (t % 50 == 40) ≡ forty → IsSteady (suc t) (with_report t m)
    by_time true is = by_left (nat_lt m.covered (length (moments m.history))) (grind (arith, nat_tests)) is refl
    by_time false is =
        subst (IsSteady (suc t)) (sym (report-not_due t m (ap (λ (b : Bool). b && nat_lt m.covered (length (moments m.history))) is)))
        (steady-grown t m (grind (arith, nat_tests)) w)

pub steady-next : (t : ℕ) (m : Making) → IsSteady t m → IsSteady (suc t) (millisecond t m)
steady-next t m steady = steady-reported t (with_pace t (with_frame t (with_audio t (with_opening t m)))) (sent-window t m steady)

pub milliseconds-steady : (seed calls n : ℕ) → IsSteady n (milliseconds seed calls n)
unfolding milliseconds
milliseconds-steady seed calls zero = record { time = omega arith; within = omega arith; few = omega arith; recent = All-nil (IsRecent (moment (since 0)) 0) }
milliseconds-steady seed calls (suc n) = steady-next n (milliseconds seed calls n) (milliseconds-steady seed calls n)
