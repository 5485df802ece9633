-- What a call, and the reports, make of what a loop stands for.
use Rattle.std.proofs.Common.{◌≡◌, ℕ, ◌&&◌, Bool, true, false, not, nat_lt, List, [], ◌∷◌, ◌++◌, length, map, All, refl, sym, ◌∙◌, ap, subst}
use Rattle.std.proofs.lemmas.List.{map-append}
use Rattle.std.proofs.lemmas.List.Sums.{fold-append}
use Rattle.std.specs.Prelude.{Ok}
use Rattle.std.proofs.lemmas.List.Elements.{All-nil, All-cons, All-head, All-tail, All-push}
use Rattle.gcc_units.specs.Listed.{Listed, bare}
use Rattle.gcc_units.specs.declared.limits.TheConstants.{MOST_ENTRIES}
use Rattle.twcc_report.specs.Spelling.{Feedback, view}
use Rattle.twcc_report.specs.Reading.{read_of}
use Rattle.twcc_report.specs.Canonical.{canonical}
use Rattle.twcc_report.specs.declared.report.Report.{Report}
use Rattle.send_core.specs.declared.call.Call.{Call}
use Rattle.send_core.specs.declared.call.Call.TheVariants as call
use Rattle.send_core.specs.declared.call.Entry.{Entry}
use Rattle.send_core.specs.History.{entry}
use Rattle.send_core.specs.Reply.{reply}
use Rattle.call_trace.specs.Making.{moment}
use Rattle.link_path.specs.declared.link.LinkSettings.{LinkSettings}
use Rattle.link_path.specs.Receiver.{IsWritable}
use Rattle.link_loop.specs.declared.TheConstants.{REPORTER}
use Rattle.link_loop.specs.declared.looper.Looper.{Looper}
use Rattle.link_loop.specs.Looping.{Looping, is_open, grown, ended, asked, served, all_served}
use Rattle.link_loop.specs.Kept.{IsRead, IsAt, HasSpelling}

open-is : (l : Looper) (s : LinkSettings) (m : Looping) → IsAt l s m → (not l.over && nat_lt (length l.sender) MOST_ENTRIES) ≡ is_open m
open-is l s m h = ap (λ b. not b && nat_lt (length l.sender) MOST_ENTRIES) h.over ∙ ap (λ (es : List Entry). not m.over && nat_lt (length es) MOST_ENTRIES) h.history

pub open-by : (l : Looper) (b c : Bool) (s : LinkSettings) (m : Looping) → b ≡ (not l.over && nat_lt (length l.sender) MOST_ENTRIES) → b ≡ c → IsAt l s m → is_open m ≡ c
open-by l b c s m value is h = sym (open-is l s m h) ∙ sym value ∙ is

pub at-over : (l new : Looper) (s : LinkSettings) (m : Looping) → new ≡ record l { over = true } → IsAt l s m → IsAt new s (ended m)
at-over l new s m is h =
    rw is (record { history = h.history; link = h.link; receiver = h.receiver; delivered = h.delivered; dropped = h.dropped; reports = h.reports; over = refl; read = h.read })

pub at-grown : (l mid new : Looper) (audio video caller : ℕ) (c : Call) (s : LinkSettings) (m : Looping) → mid ≡ l
    → new ≡ record mid { sender = mid.sender ++ entry caller c (reply mid.sender c) ∷ []; audio = audio; video = video }
    → IsAt l s m → IsAt new s (grown caller c m)
at-grown l mid new audio video caller c s m mid_is is before =
    let h : IsAt mid s m = subst (λ (k : Looper). IsAt k s m) (sym mid_is) before in
    rw is (record {
      history = ap (λ (es : List Entry). es ++ entry caller c (reply es c) ∷ []) h.history;
      link = h.link;
      receiver = h.receiver;
      delivered = h.delivered;
      dropped = h.dropped;
      reports = h.reports;
      over = h.over;
      read = h.read;
    })

pub ask-over : (l new : Looper) (b : Bool) (caller : ℕ) (c : Call) (s : LinkSettings) (m : Looping) → b ≡ (not l.over && nat_lt (length l.sender) MOST_ENTRIES) → b ≡ false
    → new ≡ record l { over = true } → IsAt l s m → IsAt new s (asked caller c m)
unfolding asked
ask-over l new b caller c s m value closed is h = let e : is_open m ≡ false = open-by l b false s m value closed h in rw e (at-over l new s m is h)

pub ask-open : (l mid new : Looper) (b : Bool) (audio video caller : ℕ) (c : Call) (s : LinkSettings) (m : Looping)
    → b ≡ (not l.over && nat_lt (length l.sender) MOST_ENTRIES) → b ≡ true → mid ≡ l
    → new ≡ record mid { sender = mid.sender ++ entry caller c (reply mid.sender c) ∷ []; audio = audio; video = video }
    → IsAt l s m → IsAt new s (asked caller c m)
unfolding asked
ask-open l mid new b audio video caller c s m value opened mid_is is h =
    let e : is_open m ≡ true = open-by l b true s m value opened h in rw e (at-grown l mid new audio video caller c s m mid_is is h)

-- ---- reports

pub served-over : (l new : Looper) (b : Bool) (t : ℕ) (f : Feedback) (s : LinkSettings) (m : Looping) → b ≡ (not l.over && nat_lt (length l.sender) MOST_ENTRIES) → b ≡ false
    → new ≡ record l { over = true } → IsAt l s m → IsAt new s (served t f m)
unfolding served
served-over l new b t f s m value closed is h = let e : is_open m ≡ false = open-by l b false s m value closed h in rw e (at-over l new s m is h)

with-report : (new : Looper) (reports : Listed Report) (copy : Report) (fs : List Feedback) (s : LinkSettings) (m : Looping)
    → reports.items ≡ new.reports.items ++ copy ∷ [] → fs ≡ m.reports ++ view copy ∷ [] → All IsRead fs → IsAt new s m → IsAt (record new { reports = reports }) s (record m { reports = fs })
with-report new reports copy fs s m reports_is fs_is read h =
    record {
      history = h.history;
      link = h.link;
      receiver = h.receiver;
      delivered = h.delivered;
      dropped = h.dropped;
      reports =
          ap (λ (rs : List Report). map view rs) reports_is ∙ map-append view new.reports.items (copy ∷ []) ∙ ap (λ (gs : List Feedback). gs ++ view copy ∷ []) h.reports
          ∙ sym fs_is;
      over = h.over;
      read = read;
    }

pub served-open : (l mid new : Looper) (b : Bool) (audio video t at : ℕ) (bytes : Listed ℕ) (report copy : Report) (reports : Listed Report) (s : LinkSettings) (m : Looping)
    → b ≡ (not l.over && nat_lt (length l.sender) MOST_ENTRIES) → b ≡ true → mid ≡ l → at ≡ moment t → bytes ≡ bare bytes.items → bytes.items ≡ canonical (view report)
    → read_of bytes.items ≡ Ok (view report) → HasSpelling report
    → new ≡ record mid { sender = mid.sender ++ entry REPORTER (call.Report at bytes) (reply mid.sender (call.Report at bytes)) ∷ []; audio = audio; video = video }
    → copy ≡ report → reports.items ≡ new.reports.items ++ copy ∷ []
    → IsAt l s m → IsAt (record new { reports = reports }) s (served t (view report) m)
unfolding served
served-open l mid new b audio video t at bytes report copy reports s m value opened mid_is at_is settled bytes_are reads writable is copy_is reports_is h =
    let e : is_open m ≡ true = open-by l b true s m value opened h in
    let c : call.Report at bytes ≡ call.Report (moment t) (bare (canonical (view report))) =
    ap (λ n. call.Report n bytes) at_is ∙ ap (λ (bs : Listed ℕ). call.Report (moment t) bs) (settled ∙ ap bare bytes_are) in
    let P : Call → Type 0 = λ x. IsAt new s (grown REPORTER x m) in
    let after : IsAt new s (grown REPORTER (call.Report (moment t) (bare (canonical (view report)))) m) = subst P c (at-grown l mid new audio video REPORTER (call.Report at bytes) s m mid_is is h) in
    let one : IsRead (view report) = record { reads = ap read_of (sym bytes_are) ∙ reads; high = writable.high } in
    rw e (with-report new reports copy (m.reports ++ view report ∷ []) s (grown REPORTER (call.Report (moment t) (bare (canonical (view report)))) m) reports_is
    (ap (λ (r : Report). m.reports ++ view r ∷ []) (sym copy_is)) (All-push IsRead m.reports (view report) h.read one) after)

pub all_served-push : (t : ℕ) (rs : List Report) (r : Report) (m : Looping) → all_served t (map view (rs ++ r ∷ [])) m ≡ served t (view r) (all_served t (map view rs) m)
all_served-push t rs r m =
    ap (λ (fs : List Feedback). all_served t fs m) (map-append view rs (r ∷ [])) ∙ fold-append (λ m f. served t f m) m (map view rs) (view r ∷ [])

pub have-spellings : (rs : List Report) → All IsWritable (map view rs) → All HasSpelling rs
have-spellings [] all = All-nil HasSpelling
have-spellings (r ∷ rs) all = All-cons HasSpelling r rs (All-head IsWritable (view r) (map view rs) all) (have-spellings rs (All-tail IsWritable (view r) (map view rs) all))
