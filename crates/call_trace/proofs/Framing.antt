-- What frames, reports and milliseconds are, case by case.
use Rattle.std.proofs.Common.{◌≡◌, ℕ, suc, ◌+◌, ◌-◌, ◌<◌, ◌≤◌, min, Bool, true, false, Some, List, [], ◌∷◌, ◌++◌, length, take, drop, map, slice_get, refl, sym, ◌∙◌, ap, ◌⊎◌, inl, inr, arith, length-drop, if◌then◌else◌}
use Rattle.std.proofs.lemmas.List.{take_more, take_all, length-take, map-append}
use Rattle.std.proofs.lemmas.Bool.{cases_lt}
use Rattle.std.proofs.lemmas.Option.{slice_get_within, get_or_from_slice_get}
use Rattle.gcc_units.specs.Listed.{Listed, bare}
use Rattle.rand_core.specs.Stream.{Stream}
use Rattle.twcc_report.specs.Canonical.{canonical}
use Rattle.send_core.specs.declared.call.Call.TheVariants.{Report}
use Rattle.send_core.specs.declared.call.Entry.{Entry}
use Rattle.send_core.specs.Estimates.{target}
use Rattle.call_trace.specs.declared.trace.Line.{Line}
use Rattle.call_trace.specs.declared.making.Maker.{Maker}
use Rattle.call_trace.specs.MadeReports.{words_at, words_after, report}
use Rattle.call_trace.specs.Makers.{making}
use Rattle.call_trace.specs.MadePackets.{frame_packets, packet_bytes}
use Rattle.call_trace.specs.Making.{Making, asked, moment, with_video, with_packets, is_frame_due, with_frame, uncovered, told, report_bytes, is_report, count_of, is_report_due, with_report, millisecond, unmade, milliseconds, line_of}

pub packets-none : (t size : ℕ) (m : Making) → m ≡ with_packets t size 0 m
unfolding with_packets
packets-none t size m = refl

pub packets-more : (t size n : ℕ) (m : Making) → with_packets t size (n + 1) m ≡ with_video t size (with_packets t size n m)
unfolding with_packets
packets-more t size n m = let more : n + 1 ≡ suc n = omega arith in ap (λ k. with_packets t size k m) more

pub frame-due : (t : ℕ) (m : Making) → is_frame_due t ≡ true → with_frame t m ≡ with_packets t (packet_bytes (target m.history)) (frame_packets (target m.history)) m
unfolding with_frame
frame-due t m due = ap (λ (b : Bool). if b then with_packets t (packet_bytes (target m.history)) (frame_packets (target m.history)) m else m) due

pub frame-not_due : (t : ℕ) (m : Making) → is_frame_due t ≡ false → with_frame t m ≡ m
unfolding with_frame
frame-not_due t m not_due = ap (λ (b : Bool). if b then with_packets t (packet_bytes (target m.history)) (frame_packets (target m.history)) m else m) not_due

pub report-due : (t : ℕ) (m : Making) → is_report_due t m ≡ true → with_report t m ≡ asked (Report (moment t) (bare (report_bytes m))) (told m)
unfolding with_report
report-due t m due = ap (λ (b : Bool). if b then asked (Report (moment t) (bare (report_bytes m))) (told m) else m) due

pub report-not_due : (t : ℕ) (m : Making) → is_report_due t m ≡ false → with_report t m ≡ m
unfolding with_report
report-not_due t m not_due = ap (λ (b : Bool). if b then asked (Report (moment t) (bare (report_bytes m))) (told m) else m) not_due

-- the lines of one entry more
pub lines-more : (actors : ℕ) (h : List Entry) (k : ℕ) (e : Entry) (line : Line) (lines : List Line) → slice_get h k ≡ Some e → line ≡ line_of actors e → lines ≡ map (line_of actors) (take k h)
    → lines ++ line ∷ [] ≡ map (line_of actors) (take (k + 1) h)
lines-more actors h k e line lines found is made =
    let inside : k < length h = slice_get_within h k e found in
    let more : take (k + 1) h ≡ take k h ++ e ∷ [] = take_more h k e inside ∙ ap (λ x. take k h ++ x ∷ []) (get_or_from_slice_get h k e e found) in
    ap (λ l. lines ++ l ∷ []) is ∙ (ap (λ ls. ls ++ line_of actors e ∷ []) made ∙ (sym (map-append (line_of actors) (take k h) (e ∷ [])) ∙ ap (map (line_of actors)) (sym more)))

-- ---- reports

-- what a maker looks at, up to this number
pub uncovered-is : (ms : List ℕ) (covered len end : ℕ) → len ≡ length ms → end ≡ min len (covered + 65535) → take (end - covered) (drop covered ms) ≡ take 65535 (drop covered ms)
uncovered-is ms covered len end is to = by_end (cases_lt len (covered + 65535))
  where
    by_end : ((len < covered + 65535) ⊎ (covered + 65535 ≤ len)) → take (end - covered) (drop covered ms) ≡ take 65535 (drop covered ms)
    by_end (inr far) = let n : end - covered ≡ 65535 = omega arith in ap (λ k. take k (drop covered ms)) n
    by_end (inl near) =
        let few : length (drop covered ms) ≤ end - covered = omega (arith, length-drop covered ms) in
        let short : length (drop covered ms) ≤ 65535 = omega (arith, length-drop covered ms) in
        take_all (end - covered) (drop covered ms) few ∙ sym (take_all 65535 (drop covered ms) short)

pub uncovered-length : (ms : List ℕ) (covered len end : ℕ) → len ≡ length ms → covered ≤ length ms → end ≡ min len (covered + 65535) → end ≡ covered + length (take 65535 (drop covered ms))
uncovered-length ms covered len end is within to = omega (arith, length-take 65535 (drop covered ms), length-drop covered ms)

-- the call of a report, from what a maker hands in
pub report-asked : (k : Maker) (t at covered : ℕ) (words seen : List ℕ) (bytes : Listed ℕ) → seen ≡ uncovered (making k) → k.reports ≡ count_of is_report k.sender → covered ≡ k.covered + length seen
    → words_at words ≡ words_after (length seen) (words_at k.words) → at ≡ moment t → bytes ≡ bare (canonical (report (words_at k.words) k.reports k.covered seen))
    → asked (Report at bytes) (making (record k { covered = covered; words = words })) ≡ asked (Report (moment t) (bare (report_bytes (making k)))) (told (making k))
report-asked k t at covered words seen bytes is counted covered_is words_is at_is bytes_is =
    let m : Making = making k in
    let with_both : Stream → ℕ → Making = λ w n. record m { words = w; covered = n } in
    let bytes_is' : bytes ≡ bare (report_bytes m) = bytes_is ∙ (ap (λ n. bare (canonical (report (words_at k.words) n k.covered seen))) counted ∙ ap (λ ms. bare (canonical (report (words_at k.words) (count_of is_report k.sender) k.covered ms))) is) in
    let words_is' : words_at words ≡ words_after (length (uncovered m)) m.words = words_is ∙ ap (λ (ms : List ℕ). words_after (length ms) (words_at k.words)) is in
    let covered_is' : covered ≡ m.covered + length (uncovered m) = covered_is ∙ ap (λ (ms : List ℕ). k.covered + length ms) is in
    ap (λ n. asked (Report n bytes) (with_both (words_at words) covered)) at_is
    ∙ (ap (λ bs. asked (Report (moment t) bs) (with_both (words_at words) covered)) bytes_is'
    ∙ (ap (λ w. asked (Report (moment t) (bare (report_bytes m))) (with_both w covered)) words_is' ∙ ap (λ n. asked (Report (moment t) (bare (report_bytes m))) (with_both (words_after (length (uncovered m)) m.words) n)) covered_is'))

-- ---- milliseconds

pub milliseconds-none : (seed calls : ℕ) → unmade seed calls ≡ milliseconds seed calls 0
unfolding milliseconds
milliseconds-none seed calls = refl

pub milliseconds-more : (seed calls n : ℕ) → milliseconds seed calls (n + 1) ≡ millisecond n (milliseconds seed calls n)
unfolding milliseconds
milliseconds-more seed calls n = let more : n + 1 ≡ suc n = omega arith in ap (milliseconds seed calls) more
