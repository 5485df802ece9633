-- What a report makes of delays and drain: cut, growth, a drain that goes on, or its end.
use Rattle.std.proofs.Common.{ℕ, ℤ, ◌≡◌, ◌≤◌, ◌+◌, Bool, true≢false, true, false, ◌&&◌, ◌||◌, unwrap_or, nat_lt, nat_le, if◌then◌else◌, is_some, is_none, Option, Some, None, List, All, [], ◌∷◌, ◌++◌, fold, append_assoc, append-nil, refl, sym, ap, subst, ◌∙◌, arith}
use Rattle.std.specs.Int.{int_min}
use Rattle.std.proofs.lemmas.Option.{same_Some}
use Rattle.std.proofs.lemmas.List.Elements.{All-head, All-tail}
use Rattle.level_control.specs.Promises.{KeepsStart}
use Rattle.gcc_units.specs.declared.shared_types.Bounds.{Bounds}
use Rattle.level_control.specs.declared.state.Report.{Report}
use Rattle.level_control.specs.declared.state.Probed.{Probed}
use Rattle.level_control.specs.declared.state.Delays.{Delays}
use Rattle.level_control.specs.declared.state.Drain.{Drain}
use Rattle.level_control.specs.declared.state.Shown.{Shown}
use Rattle.level_control.specs.declared.state.State.{State}
use Rattle.level_control.specs.declared.losses.Heard.{Heard}
use Rattle.level_control.specs.Given.{Given, reported, setting, given_to, after_all, Seen, seen_by, seen_in, seen_from, seen}
use Rattle.level_control.specs.declared.drains.TheConstants.{FALL}
use Rattle.level_control.specs.declared.losses.TheConstants.{HIGH_MILLE}
use Rattle.level_control.specs.Delays.{above, delays_after}
use Rattle.level_control.specs.Drains.{asks_cut, begun, cut, ended, followed, with_low, deepened, fallen, increased, has_settled, left_most, stepped_by, risen, rate_before}
use Rattle.level_control.specs.Losses.{after_losses, gathered, judged, judged_by, renewed, lowered, counted, share, tries, is_due}
use Rattle.level_control.specs.Rule.{started, with_shown, with_delay, shown, after_report}
use Rattle.level_control.specs.Steps.{after}

pub data Turns (drain : Option Drain) (y : Shown) (delays : Option Delays) (next : Option Drain) (is_cut : Bool) : Type 0 where
  cuts : (before : ℕ) → ((d : Drain) → drain ≡ Some d → d.until ≤ y.now) → is_cut ≡ true → delays ≡ Some y.delays → next ≡ Some (begun y before) → Turns drain y delays next is_cut
  grows : drain ≡ None → is_cut ≡ false → delays ≡ Some y.delays → next ≡ None → Turns drain y delays next is_cut
  goes_on : (d : Drain) (rate : ℕ) → has_settled (followed d y) rate y ≡ false → drain ≡ Some d → is_cut ≡ false → delays ≡ Some y.delays → next ≡ Some (followed d y) → Turns drain y delays next is_cut
  ends : (d : Drain) (rate : ℕ) → has_settled (followed d y) rate y ≡ true → drain ≡ Some d → is_cut ≡ false → delays ≡ Some (record y.delays { base = int_min d.low y.delays.last }) → next ≡ None → Turns drain y delays next is_cut

-- what holds of both holds of the one that a test takes
pub either : {A : Type 0} (P : A → Type 0) (b : Bool) (one other : A) → P one → P other → P (if b then one else other)
either P true one other p q = p
either P false one other p q = q

-- ---- the parts of a drain that goes on

pub followed_low : (d : Drain) (y : Shown) → (followed d y).low ≡ int_min d.low y.delays.last
followed_low d y = by (nat_lt y.now d.until) (nat_le FALL (above d.mark y.delays.last))
  where
    by : (a b : Bool) → (if a then deepened (with_low d y.delays.last) y else (if b then fallen (with_low d y.delays.last) y else with_low d y.delays.last)).low ≡ int_min d.low y.delays.last
    by true b = refl
    by false true = refl
    by false false = refl

pub followed_asks : (d : Drain) (y : Shown) → asks_cut (Some (followed d y)) y ≡ asks_cut (Some d) y
followed_asks d y = by (nat_lt y.now d.until) (nat_le FALL (above d.mark y.delays.last)) refl
  where
    by : (a b : Bool) → nat_lt y.now d.until ≡ a → asks_cut (Some (if a then deepened (with_low d y.delays.last) y else (if b then fallen (with_low d y.delays.last) y else with_low d y.delays.last))) y ≡ asks_cut (Some d) y
    by true b e = let late : nat_le d.until y.now ≡ false = grind arith in rw late refl
    by false true e = refl
    by false false e = refl

-- ---- a report

ended_delays : (t : State) (d : Drain) (y : Shown) → (ended t d y).delays ≡ Some (record y.delays { base = d.low })
ended_delays t d y = either (λ (u : State). u.delays ≡ Some (record y.delays { base = d.low })) (left_most d y) _ _ refl refl

pub ended_drain : (t : State) (d : Drain) (y : Shown) → (ended t d y).drain ≡ None
ended_drain t d y = either (λ (u : State). u.drain ≡ None) (left_most d y) _ _ refl refl

no_some : (d : Drain) → None ≡ Some d → ⊥
no_some d h = cc

asked_late : (d : Drain) (y : Shown) → asks_cut (Some d) y ≡ true → d.until ≤ y.now
asked_late d y asks = by (nat_le d.until y.now) (nat_lt (d.deepest + y.level) y.above) refl asks
  where
    by : (a b : Bool) → nat_le d.until y.now ≡ a → (a && b) ≡ true → d.until ≤ y.now
    by true b e h = grind arith
    by false b e h = absurd (true≢false (sym h))

settled_turn : (old : Drain) (t : State) (d : Drain) (y : Shown) (b e : Bool) → asks_cut (Some old) y ≡ b → has_settled d t.rate y ≡ e → t.delays ≡ Some y.delays → d ≡ followed old y → t.drain ≡ Some d
    → Turns (Some old) y (if b then cut t y else (if e then ended t d y else t)).delays (if b then cut t y else (if e then ended t d y else t)).drain b
settled_turn old t d y true e asks late has same drains = cuts (rate_before t) (λ z is. subst (λ (w : Drain). w.until ≤ y.now) (same_Some old z is) (asked_late old y asks)) refl has refl
settled_turn old t d y false true asks late has same drains =
    let low : d.low ≡ int_min old.low y.delays.last = ap (λ (x : Drain). x.low) same ∙ followed_low old y in
    ends old t.rate (ap (λ (z : Drain). has_settled z t.rate y) (sym same) ∙ late) refl refl (ended_delays t d y ∙ ap (λ (z : ℤ). Some (record y.delays { base = z })) low) (ended_drain t d y)
settled_turn old t d y false false asks late has same drains = goes_on old t.rate (ap (λ (z : Drain). has_settled z t.rate y) (sym same) ∙ late) refl refl has (drains ∙ ap Some same)

stepped_turn : (o : Option Drain) (t : State) (y : Shown) → t.delays ≡ Some y.delays → t.drain ≡ o → Turns o y (stepped_by o t y).delays (stepped_by o t y).drain (asks_cut o y)
stepped_turn None t y has none = by (asks_cut None y)
  where
    by : (b : Bool) → Turns None y (if b then cut t y else increased t y).delays (if b then cut t y else increased t y).drain b
    by true = cuts (rate_before t) (λ z is. absurd (no_some z is)) refl has refl
    by false = grows refl refl has none
stepped_turn (Some d) t y has drains =
    let f : Drain = followed d y in
    let u : State = record t { capacity = risen t.capacity y.acked f.before; drain = Some f } in
    let P : Bool → Type 0 = λ b. Turns (Some d) y (if b then cut u y else (if has_settled f u.rate y then ended u f y else u)).delays
    (if b then cut u y else (if has_settled f u.rate y then ended u f y else u)).drain (asks_cut (Some d) y) in
    subst P (sym (followed_asks d y)) (settled_turn d u f y (asks_cut (Some d) y) (has_settled f u.rate y) refl refl has refl refl)

-- ---- losses touch neither

pub record Keeps (s t : State) : Type 0 where
  pub delays : t.delays ≡ s.delays
  pub drain : t.drain ≡ s.drain
  pub last : t.last ≡ s.last
  pub row : t.row ≡ s.row

keeps_all : (s : State) → Keeps s s
keeps_all s = record { delays = refl; drain = refl; last = refl; row = refl }

judged_keeps : (s : State) (x : Report) (part : ℕ) (lossy : Bool) → Keeps s (judged_by s x part lossy).state
judged_keeps s x part lossy =
    either (λ (h : Heard). Keeps s h.state) (lossy || nat_le part HIGH_MILLE) (record { state = record s { losses = renewed s.losses part lossy x }; lossy = lossy })
    (record {
      state =
          record s {
            rate = lowered s.rate s.losses.received s.losses.missing;
            capacity = Some (lowered s.rate s.losses.received s.losses.missing);
            losses = renewed s.losses part lossy x;
          };
      lossy = lossy;
    })
    (record { delays = refl; drain = refl; last = refl; row = refl })
    (record { delays = refl; drain = refl; last = refl; row = refl })

gathered_keeps : (s : State) (x : Report) (since : ℕ) → Keeps s (gathered s x since).state
gathered_keeps s x since =
    either (λ (h : Heard). Keeps s h.state) (is_due s.losses since x.now) (judged s x) (record { state = s; lossy = false })
    (judged_keeps s x (share s.losses.received s.losses.missing) (tries s.losses (share s.losses.received s.losses.missing) (is_none s.drain && is_some x.delay))) (keeps_all s)

pub heard_keeps : (s : State) (x : Report) → Keeps s (after_losses s x).state
heard_keeps s x =
    let since : ℕ = unwrap_or s.losses.since x.now in
    let t : State = record s { losses = counted s.losses x since } in
    let k : Keeps t (gathered t x since).state = gathered_keeps t x since in
    either (λ (h : Heard). Keeps s h.state) (nat_lt x.now since) (record { state = s; lossy = false }) (gathered t x since) (keeps_all s) (record { delays = k.delays; drain = k.drain; last = k.last; row = k.row })

-- ---- a report

-- what a report that credited something shows and does, beside losses and rates
pub record ReportTurn (s : State) (x : Report) (delay : ℤ) (next : State) (is_cut : Bool) : Type 0 where
  pub y : Shown
  pub delays : y.delays ≡ delays_after s.delays delay x.now
  pub height : y.above ≡ above delay (delays_after s.delays delay x.now).base
  pub now : y.now ≡ x.now
  pub rtt : y.rtt ≡ x.rtt
  pub turn : Turns s.drain y next.delays next.drain is_cut

pub report_turn : (s : State) (x : Report) (results : List Probed) (waits : Bool) (bounds : Bounds) (delay : ℤ) → x.delay ≡ Some delay
    → ReportTurn s x delay (after s x results waits bounds) (after_report s x bounds).cut
report_turn s x results waits bounds delay e =
    let h : Heard = after_losses s x in
    let y : Shown = shown h.state h.lossy delay x in
    let k : Keeps s h.state = heard_keeps s x in
    let turn : Turns h.state.drain y (with_shown h.state y).delays (with_shown h.state y).drain (asks_cut h.state.drain y) =
    stepped_turn h.state.drain (record h.state { delays = Some y.delays; last = Some y.now }) y refl refl in
    let P : Option ℤ → Type 0 = λ o. Turns h.state.drain y (with_delay h.state h.lossy o x).state.delays (with_delay h.state h.lossy o x).state.drain (with_delay h.state h.lossy o x).cut in
    record {
      y = y;
      delays = ap (λ (o : Option Delays). delays_after o delay x.now) k.delays;
      height = ap (λ (o : Option Delays). above delay (delays_after o delay x.now).base) k.delays;
      now = refl;
      rtt = refl;
      turn = subst (λ (o : Option Drain). Turns o y (after s x results waits bounds).delays (after s x results waits bounds).drain (after_report s x bounds).cut) k.drain (subst P (sym e) turn);
    }

-- a report that credits nothing
pub idle_keeps : (s : State) (x : Report) (results : List Probed) (waits : Bool) (bounds : Bounds) → x.delay ≡ None
    → ((after s x results waits bounds).delays ≡ s.delays) × ((after s x results waits bounds).drain ≡ s.drain)
idle_keeps s x results waits bounds e =
    let h : Heard = after_losses s x in
    let k : Keeps s h.state = heard_keeps s x in
    let P : Option ℤ → Type 0 = λ o. ((with_delay h.state h.lossy o x).state.delays ≡ s.delays) × ((with_delay h.state h.lossy o x).state.drain ≡ s.drain) in
    subst P (sym e) (k.delays, k.drain)

-- ---- the whole list

-- what a report that credited something is in the list
pub record IsSeen (x : Seen) (y : Shown) (known : Option Delays) : Type 0 where
  pub delays : y.delays ≡ delays_after known x.delay x.now
  pub height : y.above ≡ x.height
  pub now : y.now ≡ x.now
  pub rtt : y.rtt ≡ x.rtt

-- what holds of delays, a drain and the list, whatever is reported next
abbrev pub Turning : (Option Delays → Option Drain → List Seen → Type 0) → Type 0
Turning P = (known next : Option Delays) (drain after_it : Option Drain) (all : List Seen) (x : Seen) (y : Shown) → P known drain all → IsSeen x y known → Turns drain y next after_it x.cut
    → x.ended ≡ (is_some drain && is_none after_it) → P next after_it (all ++ x ∷ [])

-- and whatever is given
pub record Lasts (P : Option Delays → Option Drain → List Seen → Type 0) : Type 0 where
  pub first : P None None []
  pub turn : Turning P
  pub start : (known : Option Delays) (drain : Option Drain) (all : List Seen) → P known drain all → P known None all

reported_lasts : (P : Option Delays → Option Drain → List Seen → Type 0) → Turning P → (s : State) (x : Report) (results : List Probed) (waits : Bool) (bounds : Bounds) (all : List Seen) (o : Option ℤ)
    → x.delay ≡ o → P s.delays s.drain all → P (after s x results waits bounds).delays (after s x results waits bounds).drain (all ++ seen_by s x o bounds)
reported_lasts P turn s x results waits bounds all None e p =
    let k : ((after s x results waits bounds).delays ≡ s.delays) × ((after s x results waits bounds).drain ≡ s.drain) = idle_keeps s x results waits bounds e in
    rw (k.0, k.1, append-nil all) p
reported_lasts P turn s x results waits bounds all (Some delay) e p =
    let r : ReportTurn s x delay (after s x results waits bounds) (after_report s x bounds).cut = report_turn s x results waits bounds delay e in
    turn s.delays _ s.drain _ all _ r.y p (record { delays = r.delays; height = r.height; now = r.now; rtt = r.rtt }) r.turn refl

given_lasts : (P : Option Delays → Option Drain → List Seen → Type 0) → Lasts P → (s : State) (g : Given) (all : List Seen)
    → P s.delays s.drain all → P (given_to s g).delays (given_to s g).drain (all ++ seen_in s g)
given_lasts P lasts s (reported x results waits bounds) all p = reported_lasts P lasts.turn s x results waits bounds all x.delay refl p
given_lasts P lasts s (setting None bounds) all p = rw (append-nil all) p
given_lasts P lasts s (setting (Some rate) bounds) all p = rw (append-nil all) (lasts.start s.delays s.drain all p)

walk_lasts : (P : Option Delays → Option Drain → List Seen → Type 0) → Lasts P → (s : State) (all : List Seen) (given : List Given)
    → P s.delays s.drain all → P (fold given_to s given).delays (fold given_to s given).drain (all ++ seen_from s given)
walk_lasts P lasts s all [] p = rw (append-nil all) p
walk_lasts P lasts s all (g ∷ given) p =
    rw (← append_assoc all (seen_in s g) (seen_from (given_to s g) given)) (walk_lasts P lasts (given_to s g) (all ++ seen_in s g) given (given_lasts P lasts s g all p))

pub all_lasts : (P : Option Delays → Option Drain → List Seen → Type 0) → Lasts P → (start : ℕ) (given : List Given)
    → P (after_all start given).delays (after_all start given).drain (seen start given)
all_lasts P lasts start given = walk_lasts P lasts (started start) [] given lasts.first

given_turning : (P : Option Delays → Option Drain → List Seen → Type 0) → Turning P → (s : State) (g : Given) (all : List Seen) → KeepsStart g
    → P s.delays s.drain all → P (given_to s g).delays (given_to s g).drain (all ++ seen_in s g)
given_turning P turn s (reported x results waits bounds) all keeps p = reported_lasts P turn s x results waits bounds all x.delay refl p
given_turning P turn s (setting None bounds) all keeps p = rw (append-nil all) p
given_turning P turn s (setting (Some rate) bounds) all keeps p = absurd keeps

-- without a start, from any state on
pub walk_turning : (P : Option Delays → Option Drain → List Seen → Type 0) → Turning P → (s : State) (all : List Seen) (given : List Given) → All KeepsStart given
    → P s.delays s.drain all → P (fold given_to s given).delays (fold given_to s given).drain (all ++ seen_from s given)
walk_turning P turn s all [] keeps p = rw (append-nil all) p
walk_turning P turn s all (g ∷ given) keeps p =
    rw (← append_assoc all (seen_in s g) (seen_from (given_to s g) given))
    (walk_turning P turn (given_to s g) (all ++ seen_in s g) given (All-tail KeepsStart g given keeps) (given_turning P turn s g all (All-head KeepsStart g given keeps) p))
