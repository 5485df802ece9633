-- What records of sent packets add to the events of a history.
use Rattle.std.proofs.Common.{◌≡◌, ℕ, suc, ◌+◌, ◌<◌, ◌≤◌, List, [], ◌∷◌, ◌++◌, length, map, take, get_or, fold, append_assoc, refl, sym, ◌∙◌, ap, subst, arith, length-append}
use Rattle.std.proofs.lemmas.List.{append-nil, take_more}
use Rattle.std.proofs.lemmas.List.Sums.{fold-append}
use Rattle.std.proofs.lemmas.Grind.{flat_map-append}
use Rattle.gcc_units.specs.declared.limits.TheConstants.{MOST_PACKETS, MOST_REPORTS}
use Rattle.sent_history.specs.declared.slot.Outgoing.{Outgoing}
use Rattle.sent_history.specs.Events.{Event, added, packet_in, report_in, packets, reports, last_sent_at}
use Rattle.sent_history.specs.Kept.{Kept, StandsFor, TakesPacket, IsSentBy}
use Rattle.pacer.specs.declared.sent.Sent.{Sent}
use Rattle.send_core.specs.Reports.{outgoing_of, added_of}
use Rattle.send_core.specs.Recording.{TakesSent}

pub packets-added : (moment : ℕ) (rs : List Sent) → packets (map (added_of moment) rs) ≡ map (outgoing_of moment) rs
packets-added moment [] = refl
packets-added moment (r ∷ rs) = ap (λ ps. outgoing_of moment r ∷ ps) (packets-added moment rs)

pub reports-added : (moment : ℕ) (rs : List Sent) → reports (map (added_of moment) rs) ≡ []
reports-added moment [] = refl
reports-added moment (r ∷ rs) = reports-added moment rs

pub packets-append : (es ds : List Event) → packets (es ++ ds) ≡ packets es ++ packets ds
packets-append es ds = flat_map-append packet_in es ds

pub reports-append : (es ds : List Event) → reports (es ++ ds) ≡ reports es ++ reports ds
reports-append es ds = flat_map-append report_in es ds

last-of : (moment start : ℕ) (rs : List Sent) → start ≤ moment → fold (λ (m : ℕ) (p : Outgoing). p.sent_at) start (map (outgoing_of moment) rs) ≤ moment
last-of moment start [] early = early
last-of moment start (r ∷ rs) early = last-of moment moment rs (omega arith)

-- the last packet was sent by now
pub last-added : (moment : ℕ) (es : List Event) (rs : List Sent) → last_sent_at es ≤ moment → last_sent_at (es ++ map (added_of moment) rs) ≤ moment
last-added moment es rs early =
    let all : packets (es ++ map (added_of moment) rs) ≡ packets es ++ map (outgoing_of moment) rs =
    packets-append es (map (added_of moment) rs) ∙ ap (λ ps. packets es ++ ps) (packets-added moment rs) in
    subst (λ n. n ≤ moment)
    (sym (ap (λ ps. fold (λ (m : ℕ) (p : Outgoing). p.sent_at) 0 ps) all ∙ fold-append (λ (m : ℕ) (p : Outgoing). p.sent_at) 0 (packets es) (map (outgoing_of moment) rs)))
    (last-of moment (last_sent_at es) rs early)

length-map : {A B : Type 0} (f : A → B) (xs : List A) → length (map f xs) ≡ length xs
length-map f [] = refl
length-map f (x ∷ xs) = ap suc (length-map f xs)

pub many-added : (moment : ℕ) (es : List Event) (rs : List Sent) → length (packets (es ++ map (added_of moment) rs)) ≡ length (packets es) + length rs
many-added moment es rs =
    ap length (packets-append es (map (added_of moment) rs))
    ∙ (length-append (packets es) (packets (map (added_of moment) rs))
    ∙ ap (λ n. length (packets es) + n) (ap length (packets-added moment rs) ∙ length-map (outgoing_of moment) rs))

pub reports-same : (moment : ℕ) (es : List Event) (rs : List Sent) → reports (es ++ map (added_of moment) rs) ≡ reports es
reports-same moment es rs = reports-append es (map (added_of moment) rs) ∙ (ap (λ ys. reports es ++ ys) (reports-added moment rs) ∙ append-nil (reports es))

-- ---- as the loop has them

pub takes-packet : (first now : Kept) (moment : ℕ) (more : ℕ) (done : List Sent) → TakesSent first moment more → length done < more
    → ((es : List Event) → StandsFor first es → StandsFor now (es ++ map (added_of moment) done)) → TakesPacket now
takes-packet first now moment more done t below stands =
    let es : List Event = t.events in
    let few : length (packets es) + more ≤ MOST_PACKETS = t.few in
    let reports_few : length (reports es) ≤ MOST_REPORTS = t.few_reports in
    let many : length (packets (es ++ map (added_of moment) done)) ≡ length (packets es) + length done = many-added moment es done in
    let same : length (reports (es ++ map (added_of moment) done)) ≡ length (reports es) = ap length (reports-same moment es done) in
    (es ++ map (added_of moment) done, stands es t.stands, omega arith, omega arith)

pub sent-by : (first now : Kept) (moment : ℕ) (more : ℕ) (done : List Sent) → TakesSent first moment more
    → ((es : List Event) → StandsFor first es → StandsFor now (es ++ map (added_of moment) done)) → IsSentBy now moment
sent-by first now moment more done t stands =
    (t.events ++ map (added_of moment) done, stands t.events t.stands, last-added moment t.events done t.order)

map-append : {A B : Type 0} (f : A → B) (xs ys : List A) → map f (xs ++ ys) ≡ map f xs ++ map f ys
map-append f [] ys = refl
map-append f (x ∷ xs) ys = ap (λ zs. f x ∷ zs) (map-append f xs ys)

pub recorded-more : (moment : ℕ) (first now next : Kept) (records : List Sent) (i : ℕ) (d : Sent) (kept : Outgoing) → i < length records → kept ≡ outgoing_of moment (get_or records i d)
    → ((es : List Event) → StandsFor first es → StandsFor now (es ++ map (added_of moment) (take i records)))
    → ((es : List Event) → StandsFor now es → StandsFor next (es ++ added kept ∷ []))
    → (es : List Event) → StandsFor first es → StandsFor next (es ++ map (added_of moment) (take (i + 1) records))
recorded-more moment first now next records i d kept below is before add es s =
    let grown : map (added_of moment) (take (i + 1) records) ≡ map (added_of moment) (take i records) ++ added_of moment (get_or records i d) ∷ [] =
    ap (map (added_of moment)) (take_more records i d below) ∙ map-append (added_of moment) (take i records) (get_or records i d ∷ []) in
    subst (StandsFor next)
    (append_assoc es (map (added_of moment) (take i records)) (added kept ∷ [])
    ∙ (ap (λ p. es ++ (map (added_of moment) (take i records) ++ added p ∷ [])) is ∙ ap (λ ds. es ++ ds) (sym grown)))
    (add (es ++ map (added_of moment) (take i records)) (before es s))
