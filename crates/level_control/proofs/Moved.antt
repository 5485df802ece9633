-- A control that was given all arrivals moved differs from one that was not in its delays alone.
use Rattle.std.proofs.Common.{ℕ, ℤ, ◌≡◌, ◌+◌, ◌+ℤ◌, ◌-ℤ◌, Bool, true, false, ◌&&◌, ◌||◌, ◌==◌, nat_lt, nat_le, int_lt, unsigned_abs, is_some, is_none, unwrap_or, if◌then◌else◌, Option, Some, None, option_map, List, [], ◌∷◌, ◌++◌, map, refl, ap, ◌∙◌, arith}
use Rattle.std.specs.Int.{int_min, int_max}
use Rattle.std.proofs.lemmas.Int.{ints, clamps}
use Rattle.gcc_units.specs.declared.shared_types.Bounds.{Bounds}
use Rattle.level_control.specs.declared.state.Report.{Report}
use Rattle.level_control.specs.declared.state.Probed.{Probed}
use Rattle.level_control.specs.declared.state.Delays.{Delays}
use Rattle.level_control.specs.declared.state.Drain.{Drain}
use Rattle.level_control.specs.declared.state.Shown.{Shown}
use Rattle.level_control.specs.declared.state.State.{State}
use Rattle.level_control.specs.declared.losses.Heard.{Heard}
use Rattle.level_control.specs.declared.report.Measured.{Measured}
use Rattle.level_control.specs.declared.probing.Asked.{Asked}
use Rattle.level_control.specs.declared.probing.Taken.{Taken}
use Rattle.level_control.specs.declared.Answer.{Answer}
use Rattle.level_control.specs.declared.drains.TheConstants.{FALL}
use Rattle.level_control.specs.declared.losses.TheConstants.{HIGH_MILLE}
use Rattle.level_control.specs.Delays.{above, changed, delays_after, least_of_spell, earlier_of, lesser_of, floor_of, level, spell_of}
use Rattle.level_control.specs.Drains.{asks_cut, cut, capacity_at, before_of, ended, followed, with_low, deepened, fallen, increased, has_settled, left_most, settled, stepped_by, risen}
use Rattle.level_control.specs.Losses.{after_losses, gathered, judged, judged_by, counted, share, tries, is_due}
use Rattle.level_control.specs.Rule.{started, put_in, with_shown, with_delay, shown, shown_by, after_report, measured_by, begun_at}
use Rattle.level_control.specs.Probing.{probed, results_of, wanted, planned, asked_at, asked_by}
use Rattle.level_control.specs.Steps.{asked, answer_by}
use Rattle.level_control.specs.Given.{Given, reported, setting, given_to, answer_to, answers_from}
use Rattle.level_control.specs.Moving.{moved_report, moved_given, MovingChangesNoAnswer}

if-moved : {A B : Type 0} (f : A → B) (b : Bool) (p q : A) (r s : B) → r ≡ f p → s ≡ f q → (if b then r else s) ≡ f (if b then p else q)
if-moved f true p q r s e g = e
if-moved f false p q r s e g = g

some-moved : {A B : Type 0} (f : A → B) (o : Option A) → is_some (option_map f o) ≡ is_some o
some-moved f None = refl
some-moved f (Some a) = refl

none-moved : {A B : Type 0} (f : A → B) (o : Option A) → is_none (option_map f o) ≡ is_none o
none-moved f None = refl
none-moved f (Some a) = refl

-- ---- delays

above-moved : (time a b : ℤ) → above (a +ℤ time) (b +ℤ time) ≡ above a b
above-moved time a b =
    let test : int_lt (b +ℤ time) (a +ℤ time) ≡ int_lt b a = grind (arith, ints) in
    let far : (a +ℤ time) -ℤ (b +ℤ time) ≡ a -ℤ b = omega (arith, ints) in
    ap (λ (t : Bool). if t then unsigned_abs ((a +ℤ time) -ℤ (b +ℤ time)) else 0) test ∙ ap (λ (z : ℤ). if int_lt b a then unsigned_abs z else 0) far

min-moved : (time a b : ℤ) → int_min (a +ℤ time) (b +ℤ time) ≡ int_min a b +ℤ time
min-moved time a b = omega (arith, ints, clamps)

max-moved : (time a b : ℤ) → int_max (a +ℤ time) (b +ℤ time) ≡ int_max a b +ℤ time
max-moved time a b = omega (arith, ints, clamps)

abbrev moved_delays : ℤ → Delays → Delays
moved_delays time k =
    record k {
      base = k.base +ℤ time;
      last = k.last +ℤ time;
      least = k.least +ℤ time;
      earlier = option_map (λ (z : ℤ). z +ℤ time) k.earlier;
    }

changed-moved : (time : ℤ) (c : ℕ) (a b : ℤ) → changed c (a +ℤ time) (b +ℤ time) ≡ changed c a b
changed-moved time c a b = rw (above-moved time a b, above-moved time b a) refl

least-moved : (time : ℤ) (k : Delays) (delay : ℤ) (spell : ℕ) → least_of_spell (moved_delays time k) (delay +ℤ time) spell ≡ least_of_spell k delay spell +ℤ time
least-moved time k delay spell = if-moved (λ (z : ℤ). z +ℤ time) (spell == k.spell) (int_min k.least delay) delay _ _ (min-moved time k.least delay) refl

earlier-moved : (time : ℤ) (k : Delays) (spell : ℕ) → earlier_of (moved_delays time k) spell ≡ option_map (λ (z : ℤ). z +ℤ time) (earlier_of k spell)
earlier-moved time k spell =
    let f : Option ℤ → Option ℤ = option_map (λ (z : ℤ). z +ℤ time) in
    if-moved f (spell == k.spell) k.earlier (if spell == k.spell + 1 then Some k.least else None) _ _ refl (if-moved f (spell == k.spell + 1) (Some k.least) None _ _ refl refl)

delays-moved : (time : ℤ) (o : Option Delays) (delay : ℤ) (now : ℕ) → delays_after (option_map (moved_delays time) o) (delay +ℤ time) now ≡ moved_delays time (delays_after o delay now)
delays-moved time None delay now = refl
delays-moved time (Some k) delay now =
    rw (min-moved time k.base delay, changed-moved time k.change delay k.last, least-moved time k delay (spell_of now), earlier-moved time k (spell_of now)) refl

lesser-moved : (time one : ℤ) (o : Option ℤ) → lesser_of (one +ℤ time) (option_map (λ (z : ℤ). z +ℤ time) o) ≡ lesser_of one o +ℤ time
lesser-moved time one None = refl
lesser-moved time one (Some other) = min-moved time one other

level-moved : (time : ℤ) (k : Delays) (row : ℕ) → level (moved_delays time k) row ≡ level k row
level-moved time k row = rw (lesser-moved time k.least k.earlier, above-moved time k.base (floor_of k)) refl

abbrev moved_shown : ℤ → Shown → Shown
moved_shown time y = record y { delays = moved_delays time y.delays }

-- ---- drains

abbrev moved_drain : ℤ → Drain → Drain
moved_drain time d = record d { low = d.low +ℤ time; mark = d.mark +ℤ time }

followed-moved : (time : ℤ) (d : Drain) (y : Shown) → followed (moved_drain time d) (moved_shown time y) ≡ moved_drain time (followed d y)
followed-moved time d y =
    let low : with_low (moved_drain time d) (y.delays.last +ℤ time) ≡ moved_drain time (with_low d y.delays.last) = rw (min-moved time d.low y.delays.last) refl in
    let deep : deepened (with_low (moved_drain time d) (y.delays.last +ℤ time)) (moved_shown time y) ≡ moved_drain time (deepened (with_low d y.delays.last) y) =
    rw (min-moved time d.low y.delays.last, max-moved time d.mark y.delays.last) refl in
    let fall : fallen (with_low (moved_drain time d) (y.delays.last +ℤ time)) (moved_shown time y) ≡ moved_drain time (fallen (with_low d y.delays.last) y) = rw (min-moved time d.low y.delays.last) refl in
    let test : nat_le FALL (above (d.mark +ℤ time) (y.delays.last +ℤ time)) ≡ nat_le FALL (above d.mark y.delays.last) = ap (nat_le FALL) (above-moved time d.mark y.delays.last) in
    if-moved (moved_drain time) (nat_lt y.now d.until) (deepened (with_low d y.delays.last) y) (if nat_le FALL (above d.mark y.delays.last) then fallen (with_low d y.delays.last) y else with_low d y.delays.last) _ _ deep
    (rw test (if-moved (moved_drain time) (nat_le FALL (above d.mark y.delays.last)) (fallen (with_low d y.delays.last) y) (with_low d y.delays.last) _ _ fall low))

asks-moved : (time : ℤ) (o : Option Drain) (y : Shown) → asks_cut (option_map (moved_drain time) o) (moved_shown time y) ≡ asks_cut o y
asks-moved time None y = refl
asks-moved time (Some d) y = refl

abbrev moved_state : ℤ → State → State
moved_state time s = record s { drain = option_map (moved_drain time) s.drain; delays = option_map (moved_delays time) s.delays }

capacity-moved : (time : ℤ) (o : Option Drain) (capacity : Option ℕ) (rate most : ℕ) → capacity_at (option_map (moved_drain time) o) capacity rate most ≡ capacity_at o capacity rate most
capacity-moved time None capacity rate most = refl
capacity-moved time (Some d) capacity rate most = refl

before-moved : (time : ℤ) (o : Option Drain) (rate : ℕ) → before_of (option_map (moved_drain time) o) rate ≡ before_of o rate
before-moved time None rate = refl
before-moved time (Some d) rate = refl

cut-moved : (time : ℤ) (s : State) (y : Shown) → cut (moved_state time s) (moved_shown time y) ≡ moved_state time (cut s y)
cut-moved time s y = rw (capacity-moved time s.drain s.capacity s.rate (unwrap_or y.acked s.rate), before-moved time s.drain s.rate) refl

ended-moved : (time : ℤ) (s : State) (d : Drain) (y : Shown) → ended (moved_state time s) (moved_drain time d) (moved_shown time y) ≡ moved_state time (ended s d y)
ended-moved time s d y = rw (above-moved time d.low y.delays.base) (if-moved (moved_state time) (left_most d y) _ _ _ _ refl refl)

settled-moved : (time : ℤ) (s : State) (d : Drain) (y : Shown) → settled (moved_state time s) (moved_drain time d) (moved_shown time y) ≡ moved_state time (settled s d y)
settled-moved time s d y =
    if-moved (moved_state time) (asks_cut (Some d) y) (cut s y) (if has_settled d s.rate y then ended s d y else s) _ _ (cut-moved time s y)
    (if-moved (moved_state time) (has_settled d s.rate y) (ended s d y) s _ _ (ended-moved time s d y) refl)

stepped-moved : (time : ℤ) (o : Option Drain) (s : State) (y : Shown) → s.drain ≡ o → stepped_by (option_map (moved_drain time) o) (moved_state time s) (moved_shown time y) ≡ moved_state time (stepped_by o s y)
stepped-moved time None s y none = if-moved (moved_state time) (asks_cut None y) (cut s y) (increased s y) _ _ (cut-moved time s y) refl
stepped-moved time (Some d) s y drains =
    let t : State = record s { capacity = risen s.capacity y.acked (followed d y).before; drain = Some (followed d y) } in
    rw (followed-moved time d y) (settled-moved time t (followed d y) y)

-- ---- losses

abbrev moved_heard : ℤ → Heard → Heard
moved_heard time h = record h { state = moved_state time h.state }

judged_by-moved : (time : ℤ) (s : State) (x : Report) (part : ℕ) (lossy : Bool) → judged_by (moved_state time s) (moved_report time x) part lossy ≡ moved_heard time (judged_by s x part lossy)
judged_by-moved time s x part lossy = if-moved (moved_heard time) (lossy || nat_le part HIGH_MILLE) _ _ _ _ refl refl

judged-moved : (time : ℤ) (s : State) (x : Report) → judged (moved_state time s) (moved_report time x) ≡ moved_heard time (judged s x)
judged-moved time s x =
    rw (none-moved (moved_drain time) s.drain, some-moved (λ (z : ℤ). z +ℤ time) x.delay)
    (judged_by-moved time s x (share s.losses.received s.losses.missing) (tries s.losses (share s.losses.received s.losses.missing) (is_none s.drain && is_some x.delay)))

gathered-moved : (time : ℤ) (s : State) (x : Report) (since : ℕ) → gathered (moved_state time s) (moved_report time x) since ≡ moved_heard time (gathered s x since)
gathered-moved time s x since = if-moved (moved_heard time) (is_due s.losses since x.now) (judged s x) (record { state = s; lossy = false }) _ _ (judged-moved time s x) refl

losses-moved : (time : ℤ) (s : State) (x : Report) → after_losses (moved_state time s) (moved_report time x) ≡ moved_heard time (after_losses s x)
losses-moved time s x =
    let since : ℕ = unwrap_or s.losses.since x.now in
    if-moved (moved_heard time) (nat_lt x.now since) (record { state = s; lossy = false }) (gathered (record s { losses = counted s.losses x since }) x since) _ _ refl
    (gathered-moved time (record s { losses = counted s.losses x since }) x since)

-- ---- a report

abbrev moved_measured : ℤ → Measured → Measured
moved_measured time m = record m { state = moved_state time m.state }

shown-moved : (time : ℤ) (s : State) (lossy : Bool) (delay : ℤ) (x : Report) → shown (moved_state time s) lossy (delay +ℤ time) (moved_report time x) ≡ moved_shown time (shown s lossy delay x)
shown-moved time s lossy delay x =
    let k : Delays = delays_after s.delays delay x.now in
    let one : shown_by (moved_state time s) lossy (delay +ℤ time) (moved_report time x) (moved_delays time k) ≡ moved_shown time (shown_by s lossy delay x k) =
    rw (above-moved time delay k.base, level-moved time k s.row) refl in
    ap (shown_by (moved_state time s) lossy (delay +ℤ time) (moved_report time x)) (delays-moved time s.delays delay x.now) ∙ one

with_shown-moved : (time : ℤ) (s : State) (y : Shown) → with_shown (moved_state time s) (moved_shown time y) ≡ moved_state time (with_shown s y)
with_shown-moved time s y = stepped-moved time s.drain (record s { delays = Some y.delays; last = Some y.now }) y refl

delay-moved : (time : ℤ) (s : State) (lossy : Bool) (o : Option ℤ) (x : Report) → with_delay (moved_state time s) lossy (option_map (λ (z : ℤ). z +ℤ time) o) (moved_report time x) ≡ moved_measured time (with_delay s lossy o x)
delay-moved time s lossy None x = refl
delay-moved time s lossy (Some delay) x =
    let y : Shown = shown s lossy delay x in
    ap (λ (z : Shown). record { state = with_shown (moved_state time s) z; cut = asks_cut (moved_state time s).drain z }) (shown-moved time s lossy delay x)
    ∙ ap (λ (t : State). record { state = t; cut = asks_cut (moved_state time s).drain (moved_shown time y) }) (with_shown-moved time s y)
    ∙ ap (λ (b : Bool). record { state = moved_state time (with_shown s y); cut = b }) (asks-moved time s.drain y)

report-moved : (time : ℤ) (s : State) (x : Report) (bounds : Bounds) → after_report (moved_state time s) (moved_report time x) bounds ≡ moved_measured time (after_report s x bounds)
report-moved time s x bounds =
    let h : Heard = after_losses s x in
    ap (λ (g : Heard). measured_by g (moved_report time x) bounds) (losses-moved time s x)
    ∙ ap (λ (m : Measured). record { state = begun_at x.now (put_in bounds m.state); cut = m.cut }) (delay-moved time h.state h.lossy x.delay x)

-- ---- probes

abbrev moved_asked : ℤ → Asked → Asked
moved_asked time a = record a { state = moved_state time a.state }

results-moved : (time : ℤ) (s : State) (results : List Probed) (bounds : Bounds) → results_of (moved_state time s) results bounds ≡ results_of s results bounds
results-moved time s results bounds = rw (some-moved (moved_drain time) s.drain) refl

planned-moved : (time : ℤ) (s : State) (o : Option ℕ) (waits : Bool) (bounds : Bounds) → planned (moved_state time s) o waits bounds ≡ planned s o waits bounds
planned-moved time s None waits bounds = refl
planned-moved time s (Some rate) waits bounds = rw (none-moved (moved_drain time) s.drain) refl

probed-moved : (time : ℤ) (s : State) (results : List Probed) (waits : Bool) (now : ℕ) (bounds : Bounds) → probed (moved_state time s) results waits now bounds ≡ moved_asked time (probed s results waits now bounds)
probed-moved time s results waits now bounds =
    let t : Taken = results_of s results bounds in
    let u : State = record s { rate = t.rate } in
    ap (λ (z : Taken). asked_at (record (moved_state time s) { rate = z.rate }) z.next waits now bounds) (results-moved time s results bounds)
    ∙ ap (λ (o : Option ℕ). asked_by (moved_state time u) o now) (planned-moved time u (wanted u t.next now) waits bounds)

asked-moved : (time : ℤ) (s : State) (x : Report) (results : List Probed) (waits : Bool) (bounds : Bounds)
    → asked (moved_state time s) (moved_report time x) results waits bounds ≡ moved_asked time (asked s x results waits bounds)
asked-moved time s x results waits bounds =
    ap (λ (m : Measured). probed m.state results waits x.now bounds) (report-moved time s x bounds) ∙ probed-moved time (after_report s x bounds).state results waits x.now bounds

-- ---- the whole list

given-moved : (time : ℤ) (s : State) (g : Given) → given_to (moved_state time s) (moved_given time g) ≡ moved_state time (given_to s g)
given-moved time s (reported x results waits bounds) = ap (λ (a : Asked). a.state) (asked-moved time s x results waits bounds)
given-moved time s (setting None bounds) = refl
given-moved time s (setting (Some rate) bounds) = refl

answer-moved : (time : ℤ) (s : State) (g : Given) → answer_to (moved_state time s) (moved_given time g) ≡ answer_to s g
answer-moved time s (reported x results waits bounds) =
    ap (λ (m : Measured). answer_by m (asked (moved_state time s) (moved_report time x) results waits bounds) ∷ []) (report-moved time s x bounds)
    ∙ ap (λ (a : Asked). answer_by (moved_measured time (after_report s x bounds)) a ∷ []) (asked-moved time s x results waits bounds)
    ∙ rw (some-moved (moved_drain time) (after_report s x bounds).state.drain) refl
answer-moved time s (setting start bounds) = refl

answers-moved : (time : ℤ) (s : State) (given : List Given) → answers_from (moved_state time s) (map (moved_given time) given) ≡ answers_from s given
answers-moved time s [] = refl
answers-moved time s (g ∷ given) =
    ap (λ (one : List Answer). one ++ answers_from (given_to (moved_state time s) (moved_given time g)) (map (moved_given time) given)) (answer-moved time s g)
    ∙ ap (λ (t : State). answer_to s g ++ answers_from t (map (moved_given time) given)) (given-moved time s g)
    ∙ ap (λ (more : List Answer). answer_to s g ++ more) (answers-moved time (given_to s g) given)

pub no_answer-moved : MovingChangesNoAnswer
no_answer-moved start given time = answers-moved time (started start) given
