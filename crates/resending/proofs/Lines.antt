-- One call more, one NACK more, one line more.
use Rattle.std.proofs.Common.{◌≡◌, ℕ, zero, suc, ◌+◌, ◌≤◌, ◌<◌, Some, List, [], ◌∷◌, ◌++◌, length, take, get_or, slice_get, All, refl, sym, ◌∙◌, ap, subst, arith, append_assoc, append-nil, Result, Ok, Err, OnOk, IfErr}
use Rattle.std.proofs.lemmas.List.{length-map, take-append-le, take_all}
use Rattle.std.proofs.lemmas.List.Sums.{fold-append}
use Rattle.std.proofs.lemmas.Option.{slice_get_within, get_or_from_slice_get}
use Rattle.rtp_wire.specs.Wires.{Wires}
use Rattle.pacer.specs.declared.sent.Sent.{Sent}
use Rattle.send_core.specs.declared.call.Call.{Call}
use Rattle.send_core.specs.declared.call.Call.TheVariants.{Enqueue, Pace, Report, Configure}
use Rattle.send_core.specs.declared.call.Reply.{Reply}
use Rattle.send_core.specs.declared.call.Reply.TheVariants.{Accepted, Paced, Credited, Configured, Refused}
use Rattle.send_core.specs.declared.call.Answer.{Answer}
use Rattle.send_core.specs.declared.call.Entry.{Entry}
use Rattle.send_core.specs.History.{entry, sent_by, accepted}
use Rattle.send_core.specs.Settings.{settings, settings_by, start_settings}
use Rattle.send_core.specs.Reply.{reply, target, extension_id, IsLegal}
use Rattle.send_core.specs.Wires.{wires, wire_of}
use Rattle.send_laws.proofs.ReadBack.{all-read, sent-read}
use Rattle.send_laws.proofs.Spanning.{legal-take}
use Rattle.nack_rtx.specs.declared.resender.RtxSettings.{RtxSettings}
use Rattle.nack_rtx.specs.Resending.{Event}
use Rattle.nack_rtx.specs.Keeping.{StandsFor}
use Rattle.shared_sender.specs.Served.{Answered, entry_of, journal_of}
use Rattle.call_trace.specs.declared.trace.Line.{Line}
use Rattle.resending.specs.declared.stop.Stop.{Stop}
use Rattle.resending.specs.declared.stop.Stop.TheVariants.{NoMemory, Full, Unread}
use Rattle.resending.specs.declared.server.Server.{Server}
use Rattle.resending.specs.Serving.{Serving, nothing, seen_at, called, kept_as, kept_among, served_call, served_line, serving}
use Rattle.resending.specs.Alone.{IsAnswered, IsCause}
use Rattle.resending.specs.Standing.{named_by, id_after, CanRead, IsAt}

-- ---- lists

pub all_at : {A : Type 0} (P : A → Type 0) (xs : List A) (k : ℕ) (x : A) → All P xs → slice_get xs k ≡ Some x → P x
all_at P xs k x all at = subst P (get_or_from_slice_get xs k x x at) (all k x (slice_get_within xs k x at))

pub on_both : {A E P Q R : Type 0} (r : Result A E) → (P → Q → R) → OnOk r P → OnOk r Q → OnOk r R
on_both (Ok x) f p q = f p q
on_both (Err e) f p q = tt

pub on_one : {A E P R : Type 0} (r : Result A E) → (P → R) → OnOk r P → OnOk r R
on_one (Ok x) f p = f p
on_one (Err e) f p = tt

pub if_err : {A E : Type 0} {P Q : E → Type 0} (r : Result A E) → ((e : E) → P e → Q e) → IfErr r P → IfErr r Q
if_err (Ok x) f p = tt
if_err (Err e) f p = f e p

pub serving-push : (s : RtxSettings) (lines : List Line) (line : Line) → serving s (lines ++ line ∷ []) ≡ served_line s (serving s lines) line
unfolding serving
serving-push s lines line = fold-append (served_line s) nothing lines (line ∷ [])

kept-step : (ws : List (List ℕ)) (rs : List Sent) (k : ℕ) (w : List ℕ) (r : Sent) → slice_get ws k ≡ Some w → slice_get rs k ≡ Some r
    → kept_among (take (suc k) ws) (take (suc k) rs) ≡ kept_among (take k ws) (take k rs) ++ kept_as w r.index
kept-step [] rs k w r at_w at_r = absurd cc
kept-step (x ∷ ws) [] k w r at_w at_r = absurd cc
kept-step (x ∷ ws) (y ∷ rs) zero w r at_w at_r =
    let same_w : x ≡ w = cc in
    let same_r : y ≡ r = cc in
    append-nil (kept_as x y.index) ∙ (ap (λ v. kept_as v y.index) same_w ∙ ap (λ (z : Sent). kept_as w z.index) same_r)
kept-step (x ∷ ws) (y ∷ rs) (suc k) w r at_w at_r =
    ap (λ es. kept_as x y.index ++ es) (kept-step ws rs k w r at_w at_r) ∙ sym (append_assoc (kept_as x y.index) (kept_among (take k ws) (take k rs)) (kept_as w r.index))

pub kept-next : (ws : List (List ℕ)) (rs : List Sent) (k : ℕ) (w : List ℕ) (r : Sent) → slice_get ws k ≡ Some w → slice_get rs k ≡ Some r
    → kept_among (take (k + 1) ws) (take (k + 1) rs) ≡ kept_among (take k ws) (take k rs) ++ kept_as w r.index
kept-next ws rs k w r at_w at_r = let one : k + 1 ≡ suc k = omega arith in rw one (kept-step ws rs k w r at_w at_r)

there : {A : Type 0} (xs : List A) (k : ℕ) (d : A) → k < length xs → slice_get xs k ≡ Some (get_or xs k d)
there [] k d below = absurd (omega (arith, below))
there (x ∷ xs) zero d below = refl
there (x ∷ xs) (suc k) d below = there xs k d (omega (arith, below))

pub kept-at : (ws : List (List ℕ)) (rs : List Sent) (k : ℕ) (w : List ℕ) (d : Sent) → slice_get ws k ≡ Some w → k < length rs
    → kept_among (take (k + 1) ws) (take (k + 1) rs) ≡ kept_among (take k ws) (take k rs) ++ kept_as w (get_or rs k d).index
kept-at ws rs k w d at_w below = kept-next ws rs k w (get_or rs k d) at_w (there rs k d below)

pub serving-none : (s : RtxSettings) → serving s [] ≡ nothing
unfolding serving
serving-none s = refl

pub kept-none : (ws : List (List ℕ)) → kept_among ws [] ≡ []
kept-none [] = refl
kept-none (w ∷ ws) = refl

-- ---- the ID in force

id-by : (h : List Entry) (call : Call) (given : Reply) → (settings_by (settings h) call given).extension_id ≡ id_after (extension_id h) (named_by call) given
id-by h (Configure at change) (Accepted moment index) = refl
id-by h (Configure at change) (Paced moment records) = refl
id-by h (Configure at change) (Credited moment judged signal m acked rates shares) = refl
id-by h (Configure at change) (Configured moment rates shares) = refl
id-by h (Configure at change) (Refused moment cause) = refl
id-by h (Enqueue at class wire) (Accepted moment index) = refl
id-by h (Enqueue at class wire) (Paced moment records) = refl
id-by h (Enqueue at class wire) (Credited moment judged signal m acked rates shares) = refl
id-by h (Enqueue at class wire) (Configured moment rates shares) = refl
id-by h (Enqueue at class wire) (Refused moment cause) = refl
id-by h (Pace at) (Accepted moment index) = refl
id-by h (Pace at) (Paced moment records) = refl
id-by h (Pace at) (Credited moment judged signal m acked rates shares) = refl
id-by h (Pace at) (Configured moment rates shares) = refl
id-by h (Pace at) (Refused moment cause) = refl
id-by h (Report at bytes) (Accepted moment index) = refl
id-by h (Report at bytes) (Paced moment records) = refl
id-by h (Report at bytes) (Credited moment judged signal m acked rates shares) = refl
id-by h (Report at bytes) (Configured moment rates shares) = refl
id-by h (Report at bytes) (Refused moment cause) = refl

pub id-push : (h : List Entry) (call : Call) → extension_id (called h call) ≡ id_after (extension_id h) (named_by call) (reply h call)
id-push h call =
    ap (λ s. s.extension_id) (fold-append (λ s (e : Entry). settings_by s e.call e.reply) start_settings h (entry 0 call (reply h call) ∷ []))
    ∙ id-by h call (reply h call)

-- ---- packets that left are read

pub legal-before : (h more : List Entry) → IsLegal (h ++ more) → IsLegal h
legal-before h more legal =
    subst IsLegal (take-append-le (length h) h more (omega arith) ∙ take_all (length h) h (omega arith)) (legal-take (length h) (h ++ more) legal)

pub can-read : (h : List Entry) (call : Call) → IsLegal (called h call) → All (CanRead (extension_id h)) (wires h (reply h call))
can-read h call legal =
    let e : Entry = entry 0 call (reply h call) in
    let read = all-read h (legal-before h (e ∷ []) legal).each in
    let each = sent-read h [] e legal.each in
    λ k d below. record { low = read.low; high = read.high; is_read = each k d below }

pub wire-count : (h : List Entry) (given : Reply) → length (wires h given) ≡ length (sent_by given)
wire-count h given = length-map (sent_by given) (wire_of (extension_id h) (accepted h))

-- ---- causes

pub cause-later : (why : Stop) (n : ℕ) → IsCause why 0 → IsCause why n
cause-later NoMemory n cause = tt
cause-later Full n cause = absurd (omega (arith, cause))
cause-later Unread n cause = cause

-- ---- a call

pub call-served : (s : RtxSettings) (v : Serving) (old new : Server) (call : Call) (answer : Answer) → IsAt s v old → IsAnswered old.seat call answer new.seat
    → new.nacks ≡ old.nacks → new.glances ≡ old.glances → new.resender.settings ≡ old.resender.settings
    → ((events : List Event) → StandsFor old.resender events → StandsFor new.resender (events ++ kept_among answer.wires.items (sent_by answer.reply)))
    → new.extension_id ≡ id_after old.extension_id (named_by call) answer.reply → IsAt s (served_call v call) new
call-served s v old new call answer is answered nacks glances settings kept id =
    let replies : answer.reply ≡ reply v.history call = answered.replies ∙ ap (λ h. reply h call) is.history in
    let packets : answer.wires.items ≡ wires v.history (reply v.history call) =
    ap (λ (w : Wires). w.items) answered.packets ∙ (ap (λ h. wires h answer.reply) is.history ∙ ap (λ r. wires v.history r) replies) in
    record {
      history = answered.grows ∙ ap (λ h. called h call) is.history;
      settings = settings ∙ is.settings;
      events = subst (λ es. StandsFor new.resender (v.events ++ es)) (ap (λ ws. kept_among ws (sent_by answer.reply)) packets ∙ ap (λ r. kept_among (wires v.history (reply v.history call)) (sent_by r)) replies) (kept v.events is.events);
      id = id ∙ (ap (λ n. id_after n (named_by call) answer.reply) is.id ∙ (ap (λ r. id_after (extension_id v.history) (named_by call) r) replies ∙ sym (id-push v.history call)));
      nacks = ap (λ l. l.items) nacks ∙ is.nacks;
      glances = ap (λ l. l.items) glances ∙ is.glances;
    }

-- what is noted of an answer is not refused for a packet that is not read
pub call-stopped : (s : RtxSettings) (v : Serving) (old new : Server) (call : Call) (answer : Answer) (why : Stop) (n : ℕ) → IsAt s v old → IsAnswered old.seat call answer new.seat
    → (All (CanRead old.extension_id) answer.wires.items → IsCause why 0) → IsCause why n
call-stopped s v old new call answer why n is answered stopped =
    let replies : answer.reply ≡ reply v.history call = answered.replies ∙ ap (λ h. reply h call) is.history in
    let packets : answer.wires.items ≡ wires v.history (reply v.history call) =
    ap (λ (w : Wires). w.items) answered.packets ∙ (ap (λ h. wires h answer.reply) is.history ∙ ap (λ r. wires v.history r) replies) in
    let legal : IsLegal (called v.history call) = subst IsLegal (answered.grows ∙ ap (λ h. called h call) is.history) answered.legal in
    cause-later why n (stopped (subst (All (CanRead old.extension_id)) (sym packets) (subst (λ id. All (CanRead id) (wires v.history (reply v.history call))) (sym is.id) (can-read v.history call legal))))

-- ---- a glance

pub glance-is : (seen : List Answered) (h : List Entry) (calls rate : ℕ) → calls ≡ length seen → rate ≡ target (journal_of seen) → journal_of seen ≡ h
    → record { actor = 0; calls = calls; target = rate } ≡ seen_at h
glance-is seen h calls rate count is same =
    ap (λ n. record { actor = 0; calls = n; target = rate }) (count ∙ (sym (length-map seen entry_of) ∙ ap length same))
    ∙ ap (λ t. record { actor = 0; calls = length h; target = t }) (is ∙ ap target same)

pub cause-more : (why : Stop) (m n : ℕ) → IsCause why m → m ≤ n → IsCause why n
cause-more NoMemory m n cause le = tt
cause-more Full m n cause le = omega (arith, cause, le)
cause-more Unread m n cause le = cause
