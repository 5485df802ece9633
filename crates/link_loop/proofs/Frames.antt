-- What the sources enqueue, and when it is due.
use Rattle.std.proofs.Common.{◌≡◌, ℕ, suc, ◌+◌, ◌%◌, Bool, true, false, if◌then◌else◌, refl, sym, ◌∙◌, ap, arith}
use Rattle.std.specs.Prelude.{◌==◌}
use Rattle.std.proofs.lemmas.Bool.Decides.{nat_tests}
use Rattle.gcc_units.specs.Listed.{Listed, bare}
use Rattle.gcc_units.specs.declared.class.Class.TheVariants.{Audio, Video}
use Rattle.send_core.specs.declared.call.Call.TheVariants as call
use Rattle.send_core.specs.Estimates.{target}
use Rattle.call_trace.specs.MadePackets.{made_packet, frame_packets, packet_bytes}
use Rattle.call_trace.specs.Making.{is_audio, is_video, count_of, moment, is_frame_due}
use Rattle.link_path.specs.declared.link.LinkSettings.{LinkSettings}
use Rattle.link_path.specs.Receiver.{KeptReceiver, next_reports, told_all}
use Rattle.link_loop.specs.declared.TheConstants.{SOURCES}
use Rattle.link_loop.specs.declared.looper.Looper.{Looper}
use Rattle.link_loop.specs.Looping.{Looping, asked, all_served, with_reports, with_audio, with_video, with_packets, with_frame, all_due, millisecond, unused, looping}
use Rattle.link_loop.specs.Kept.{IsAt}

pub audio-is : (t at count t_ : ℕ) (wire : Listed ℕ) (l : Looper) (s : LinkSettings) (m : Looping) → IsAt l s m → t % 20 ≡ 0 → at ≡ moment t
    → wire ≡ bare (made_packet Audio count t_ 100) → t_ ≡ t → count ≡ l.audio → l.audio ≡ count_of is_audio l.sender
    → asked SOURCES (call.Enqueue at Audio wire) m ≡ with_audio t m
unfolding with_audio
audio-is t at count t_ wire l s m h due at_is wire_is t_is count_is counted =
    let e : (t % 20 == 0) ≡ true = grind (arith, nat_tests, due) in
    let before : count ≡ count_of is_audio m.history = count_is ∙ counted ∙ ap (count_of is_audio) h.history in
    rw (e, at_is, wire_is, t_is, before) refl

pub video-is : (t at count t_ size : ℕ) (wire : Listed ℕ) (l : Looper) (s : LinkSettings) (m : Looping) → IsAt l s m → at ≡ moment t
    → wire ≡ bare (made_packet Video count t_ size) → t_ ≡ t → count ≡ l.video → l.video ≡ count_of is_video l.sender
    → asked SOURCES (call.Enqueue at Video wire) m ≡ with_video t size m
unfolding with_video
video-is t at count t_ size wire l s m h at_is wire_is t_is count_is counted =
    let before : count ≡ count_of is_video m.history = count_is ∙ counted ∙ ap (count_of is_video) h.history in
    rw (at_is, wire_is, t_is, before) refl

pub packets-none : (t size : ℕ) (m : Looping) → with_packets t size 0 m ≡ m
unfolding with_packets
packets-none t size m = refl

pub packets-more : (t size n : ℕ) (m : Looping) → with_packets t size (n + 1) m ≡ with_video t size (with_packets t size n m)
unfolding with_packets
packets-more t size n m = let more : n + 1 ≡ suc n = omega arith in ap (λ k. with_packets t size k m) more

pub frame-due : (t : ℕ) (m : Looping) → is_frame_due t ≡ true → with_frame t m ≡ with_packets t (packet_bytes (target m.history)) (frame_packets (target m.history)) m
unfolding with_frame
frame-due t m due = ap (λ (b : Bool). if b then with_packets t (packet_bytes (target m.history)) (frame_packets (target m.history)) m else m) due

pub frame-not_due : (t : ℕ) (m : Looping) → is_frame_due t ≡ false → with_frame t m ≡ m
unfolding with_frame
frame-not_due t m not_due = ap (λ (b : Bool). if b then with_packets t (packet_bytes (target m.history)) (frame_packets (target m.history)) m else m) not_due

pub reports-due : (t : ℕ) (m : Looping) → t % 50 ≡ 40 → with_reports t m ≡ all_served t (next_reports m.receiver) (record m { receiver = told_all m.receiver })
unfolding with_reports
reports-due t m due =
    let e : (t % 50 == 40) ≡ true = grind (arith, nat_tests, due) in
    ap (λ (b : Bool). if b then all_served t (next_reports m.receiver) (record m { receiver = told_all m.receiver }) else m) e

pub at-told : (l : Looper) (receiver : KeptReceiver) (s : LinkSettings) (m : Looping) → receiver ≡ told_all l.receiver → IsAt l s m
    → IsAt (record l { receiver = receiver }) s (record m { receiver = told_all m.receiver })
at-told l receiver s m is h =
    record { history = h.history; link = h.link; receiver = is ∙ ap told_all h.receiver; delivered = h.delivered; dropped = h.dropped; reports = h.reports; over = h.over; read = h.read }

pub all-due : (l : Looper) (s : LinkSettings) (t : ℕ) (m : Looping) → IsAt l s m → l.over ≡ false → all_due s t m ≡ millisecond s t m
unfolding millisecond
all-due l s t m h is = let e : m.over ≡ false = sym h.over ∙ is in rw e refl

pub looping-none : (s : LinkSettings) → unused ≡ looping s 0
unfolding looping
looping-none s = refl

pub looping-more : (s : LinkSettings) (n : ℕ) → looping s (n + 1) ≡ millisecond s n (looping s n)
unfolding looping
looping-more s n = let more : n + 1 ≡ suc n = omega arith in ap (looping s) more
