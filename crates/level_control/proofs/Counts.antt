-- The loss window and its counts are those of the list of reports.
use Rattle.std.proofs.Common.{ℕ, ℤ, ◌≡◌, ◌+◌, ◌-◌, Bool, true≢false, true, false, cond, ◌&&◌, ◌||◌, unwrap_or, nat_lt, nat_le, if◌then◌else◌, is_some, is_none, Option, Some, None, List, [], ◌∷◌, ◌++◌, fold, append_assoc, append-nil, refl, sym, ap, subst, ◌∙◌, arith}
use Rattle.std.specs.Prelude.{sum_by}
use Rattle.std.proofs.lemmas.List.Sums.{fold-append}
use Rattle.std.proofs.lemmas.List.Elements.{filter-append}
use Rattle.gcc_units.specs.declared.shared_types.Bounds.{Bounds}
use Rattle.level_control.specs.declared.state.Report.{Report}
use Rattle.level_control.specs.declared.state.Probed.{Probed}
use Rattle.level_control.specs.declared.state.Drain.{Drain}
use Rattle.level_control.specs.declared.state.Shown.{Shown}
use Rattle.level_control.specs.declared.state.Losses.{Losses}
use Rattle.level_control.specs.declared.state.State.{State}
use Rattle.level_control.specs.declared.losses.Heard.{Heard}
use Rattle.level_control.specs.declared.losses.TheConstants.{LOSS_PERIOD, FEWEST_PACKETS, HIGH_MILLE}
use Rattle.level_control.specs.Drains.{asks_cut, cut, ended, followed, increased, has_settled, left_most, stepped_by, risen}
use Rattle.level_control.specs.Losses.{after_losses, gathered, judged, judged_by, renewed, lowered, counted, share, tries}
use Rattle.level_control.specs.Rule.{started, shown, with_delay}
use Rattle.level_control.specs.Steps.{after}
use Rattle.level_control.specs.Given.{Given, reported, setting, given_to}
use Rattle.level_control.specs.LossLists.{Told, told_in, told_from, counting, received_in, missing_in, Fills, next_since, Window, AreWindows, since_after, LossesAreThoseOfTheList}
use Rattle.level_control.proofs.Turns.{either}
use Rattle.level_control.proofs.Windows.{push-current, push-full, since-push}

-- ---- counts, with one more report

sum-push : (f : Told → ℕ) (xs : List Told) (x : Told) → sum_by f (xs ++ x ∷ []) ≡ sum_by f xs + f x
sum-push f xs x = fold-append (λ (n : ℕ) (z : Told). n + f z) 0 xs (x ∷ [])

counting-push : (f : Told → ℕ) (since : ℕ) (xs : List Told) (x : Told) → nat_le since x.report.now ≡ true → sum_by f (counting since (xs ++ x ∷ [])) ≡ sum_by f (counting since xs) + f x
counting-push f since xs x late =
    ap (sum_by f) (filter-append (λ (z : Told). nat_le since z.report.now) xs (x ∷ []) ∙ ap (λ (b : Bool). counting since xs ++ cond b (x ∷ []) []) late) ∙ sum-push f (counting since xs) x

counting-skip : (f : Told → ℕ) (since : ℕ) (xs : List Told) (x : Told) → nat_le since x.report.now ≡ false → sum_by f (counting since (xs ++ x ∷ [])) ≡ sum_by f (counting since xs)
counting-skip f since xs x early =
    ap (sum_by f) (filter-append (λ (z : Told). nat_le since z.report.now) xs (x ∷ []) ∙ ap (λ (b : Bool). counting since xs ++ cond b (x ∷ []) []) early ∙ append-nil (counting since xs))

-- ---- what a report makes of the window

-- gathering begins anew
record Renews (x : Report) (h : Heard) : Type 0 where
  since : h.state.losses.since ≡ Some (next_since (record { report = x; lossy = h.lossy }))
  received : h.state.losses.received ≡ 0
  missing : h.state.losses.missing ≡ 0

judged-renews : (t : State) (x : Report) (part : ℕ) (lossy : Bool) → Renews x (judged_by t x part lossy)
judged-renews t x part lossy =
    either (Renews x) (lossy || nat_le part HIGH_MILLE) (record { state = record t { losses = renewed t.losses part lossy x }; lossy = lossy })
    (record {
      state =
          record t {
            rate = lowered t.rate t.losses.received t.losses.missing;
            capacity = Some (lowered t.rate t.losses.received t.losses.missing);
            losses = renewed t.losses part lossy x;
          };
      lossy = lossy;
    })
    (record { since = refl; received = refl; missing = refl })
    (record { since = refl; received = refl; missing = refl })

-- a division of reports into windows, and the counts of the open one
record Gathered (base : ℕ) (all : List Told) (begun got lost : ℕ) : Type 0 where
  windows : List Window
  current : List Told
  division : AreWindows base windows current all
  since : begun ≡ since_after base windows
  received : got ≡ received_in begun current
  missing : lost ≡ missing_in begun current

record GatheredIn (base : ℕ) (all : List Told) (l : Losses) : Type 0 where
  begun : ℕ
  since : l.since ≡ Some begun
  gathered : Gathered base all begun l.received l.missing

-- it came before the window begins
skips : (base : ℕ) (all : List Told) (since received missing : ℕ) (x : Told) → nat_le since x.report.now ≡ false → Gathered base all since received missing
    → Gathered base (all ++ x ∷ []) since received missing
skips base all since received missing x early g =
    let stays : Fills (since_after base g.windows) g.current x → ⊥ = λ fills. absurd (true≢false (sym (grind (arith, g.since, fills.period)) ∙ early)) in
    record {
      windows = g.windows;
      current = g.current ++ x ∷ [];
      division = push-current base g.windows g.current all x g.division stays;
      since = g.since;
      received = g.received ∙ sym (counting-skip (λ (z : Told). z.report.received) since g.current x early);
      missing = g.missing ∙ sym (counting-skip (λ (z : Told). z.report.missing) since g.current x early);
    }

-- it is counted, and fills no window
joins : (base : ℕ) (all : List Told) (since received missing : ℕ) (x : Told) → nat_le since x.report.now ≡ true
    → (nat_le LOSS_PERIOD (x.report.now - since) && nat_le FEWEST_PACKETS (received + x.report.received + (missing + x.report.missing))) ≡ false → Gathered base all since received missing
    → Gathered base (all ++ x ∷ []) since (received + x.report.received) (missing + x.report.missing)
joins base all since received missing x late due g =
    let more_received : received_in since (g.current ++ x ∷ []) ≡ received + x.report.received =
    counting-push (λ (z : Told). z.report.received) since g.current x late ∙ ap (λ (n : ℕ). n + x.report.received) (sym g.received) in
    let more_missing : missing_in since (g.current ++ x ∷ []) ≡ missing + x.report.missing =
    counting-push (λ (z : Told). z.report.missing) since g.current x late ∙ ap (λ (n : ℕ). n + x.report.missing) (sym g.missing) in
    let stays : Fills since g.current x → ⊥ = λ fills.
    let period : nat_le LOSS_PERIOD (x.report.now - since) ≡ true = grind (arith, fills.period) in
    let packets : nat_le FEWEST_PACKETS (received + x.report.received + (missing + x.report.missing)) ≡ true = grind (arith, fills.packets, more_received, more_missing) in
    absurd (true≢false (sym (ap (λ (b : Bool). b && nat_le FEWEST_PACKETS (received + x.report.received + (missing + x.report.missing))) period ∙ packets) ∙ due)) in
    record {
      windows = g.windows;
      current = g.current ++ x ∷ [];
      division = push-current base g.windows g.current all x g.division (subst (λ (n : ℕ). Fills n g.current x → ⊥) g.since stays);
      since = g.since;
      received = sym more_received;
      missing = sym more_missing;
    }

-- it fills the window
fills : (base : ℕ) (all : List Told) (since received missing : ℕ) (x : Told) → nat_le since x.report.now ≡ true
    → nat_le LOSS_PERIOD (x.report.now - since) ≡ true → nat_le FEWEST_PACKETS (received + x.report.received + (missing + x.report.missing)) ≡ true → Gathered base all since received missing
    → Gathered base (all ++ x ∷ []) (next_since x) 0 0
fills base all since received missing x late period packets g =
    let more_received : received_in since (g.current ++ x ∷ []) ≡ received + x.report.received =
    counting-push (λ (z : Told). z.report.received) since g.current x late ∙ ap (λ (n : ℕ). n + x.report.received) (sym g.received) in
    let more_missing : missing_in since (g.current ++ x ∷ []) ≡ missing + x.report.missing =
    counting-push (λ (z : Told). z.report.missing) since g.current x late ∙ ap (λ (n : ℕ). n + x.report.missing) (sym g.missing) in
    let full : Fills since g.current x = record { period = grind (arith, period, late); packets = grind (arith, packets, more_received, more_missing) } in
    record {
      windows = g.windows ++ record { before = g.current; end = x } ∷ [];
      current = [];
      division = push-full base g.windows g.current all x g.division (subst (λ (n : ℕ). Fills n g.current x) g.since full);
      since = sym (since-push base g.windows (record { before = g.current; end = x }));
      received = refl;
      missing = refl;
    }

-- what it is in the list
abbrev told_by : State → Report → Told
told_by s x = record { report = x; lossy = (after_losses s x).lossy }

gathered-turn : (base : ℕ) (all : List Told) (s : State) (x : Report) (since : ℕ) (a b : Bool) → nat_le since x.now ≡ true → nat_le LOSS_PERIOD (x.now - since) ≡ a
    → nat_le FEWEST_PACKETS (s.losses.received + x.received + (s.losses.missing + x.missing)) ≡ b → Gathered base all since s.losses.received s.losses.missing
    → (h : Heard) → h ≡ (if a && b then judged (record s { losses = counted s.losses x since }) x else record { state = record s { losses = counted s.losses x since }; lossy = false })
    → GatheredIn base (all ++ record { report = x; lossy = h.lossy } ∷ []) h.state.losses
gathered-turn base all s x since true true late period packets g h is =
    let t : State = record s { losses = counted s.losses x since } in
    let part : ℕ = share t.losses.received t.losses.missing in
    let r : Renews x h = subst (Renews x) (sym is) (judged-renews t x part (tries t.losses part (is_none t.drain && is_some x.delay))) in
    let y : Told = record { report = x; lossy = h.lossy } in
    let next : Gathered base (all ++ y ∷ []) (next_since y) 0 0 = fills base all since s.losses.received s.losses.missing y late period packets g in
    record { begun = next_since y; since = r.since; gathered = rw (r.received, r.missing) next }
gathered-turn base all s x since true false late period packets g h is =
    let y : Told = record { report = x; lossy = h.lossy } in
    let due : (nat_le LOSS_PERIOD (x.now - since) && nat_le FEWEST_PACKETS (s.losses.received + x.received + (s.losses.missing + x.missing))) ≡ false = rw (period, packets) refl in
    subst (λ (k : Heard). GatheredIn base (all ++ y ∷ []) k.state.losses) (sym is) (record { begun = since; since = refl; gathered = joins base all since s.losses.received s.losses.missing y late due g })
gathered-turn base all s x since false b late period packets g h is =
    let y : Told = record { report = x; lossy = h.lossy } in
    let due : (nat_le LOSS_PERIOD (x.now - since) && nat_le FEWEST_PACKETS (s.losses.received + x.received + (s.losses.missing + x.missing))) ≡ false = rw period refl in
    subst (λ (k : Heard). GatheredIn base (all ++ y ∷ []) k.state.losses) (sym is) (record { begun = since; since = refl; gathered = joins base all since s.losses.received s.losses.missing y late due g })

losses-turn : (base : ℕ) (all : List Told) (s : State) (x : Report) (since : ℕ) (a : Bool) → unwrap_or s.losses.since x.now ≡ since → (nat_lt x.now since ≡ true → s.losses.since ≡ Some since)
    → nat_lt x.now since ≡ a → Gathered base all since s.losses.received s.losses.missing → GatheredIn base (all ++ told_by s x ∷ []) (after_losses s x).state.losses
losses-turn base all s x since true is was before g =
    let early : nat_le since x.now ≡ false = grind (arith, before) in
    let shape : after_losses s x ≡ record { state = s; lossy = false } =
    ap (λ (n : ℕ). if nat_lt x.now n then record { state = s; lossy = false } else gathered (record s { losses = counted s.losses x n }) x n) is
    ∙ ap (λ (b : Bool). if b then record { state = s; lossy = false } else gathered (record s { losses = counted s.losses x since }) x since) before in
    subst (λ (h : Heard). GatheredIn base (all ++ record { report = x; lossy = (after_losses s x).lossy } ∷ []) h.state.losses) (sym shape)
    (record { begun = since; since = was before; gathered = skips base all since s.losses.received s.losses.missing (told_by s x) early g })
losses-turn base all s x since false is was before g =
    let late : nat_le since x.now ≡ true = grind (arith, before) in
    let shape : after_losses s x ≡ gathered (record s { losses = counted s.losses x since }) x since =
    ap (λ (n : ℕ). if nat_lt x.now n then record { state = s; lossy = false } else gathered (record s { losses = counted s.losses x n }) x n) is
    ∙ ap (λ (b : Bool). if b then record { state = s; lossy = false } else gathered (record s { losses = counted s.losses x since }) x since) before in
    gathered-turn base all s x since _ _ late refl refl g (after_losses s x) shape

-- ---- delays, rates and probes touch no losses

ended-losses : (t : State) (d : Drain) (y : Shown) → (ended t d y).losses ≡ t.losses
ended-losses t d y = either (λ (u : State). u.losses ≡ t.losses) (left_most d y) _ _ refl refl

settled-losses : (t : State) (d : Drain) (y : Shown) (asks late : Bool) → (if asks then cut t y else (if late then ended t d y else t)).losses ≡ t.losses
settled-losses t d y true late = refl
settled-losses t d y false true = ended-losses t d y
settled-losses t d y false false = refl

stepped-losses : (o : Option Drain) (t : State) (y : Shown) → (stepped_by o t y).losses ≡ t.losses
stepped-losses None t y = either (λ (u : State). u.losses ≡ t.losses) (asks_cut None y) (cut t y) (increased t y) refl refl
stepped-losses (Some d) t y =
    let f : Drain = followed d y in
    let u : State = record t { capacity = risen t.capacity y.acked f.before; drain = Some f } in
    settled-losses u f y (asks_cut (Some f) y) (has_settled f u.rate y)

delay-losses : (s : State) (lossy : Bool) (o : Option ℤ) (x : Report) → (with_delay s lossy o x).state.losses ≡ s.losses
delay-losses s lossy None x = refl
delay-losses s lossy (Some delay) x =
    let y : Shown = shown s lossy delay x in
    stepped-losses s.drain (record s { delays = Some y.delays; last = Some y.now }) y

report-losses : (s : State) (x : Report) (results : List Probed) (waits : Bool) (bounds : Bounds) → (after s x results waits bounds).losses ≡ (after_losses s x).state.losses
report-losses s x results waits bounds = delay-losses (after_losses s x).state (after_losses s x).lossy x.delay x

-- ---- the whole list

-- nothing is gathered before the first report
record Begins (l : Losses) : Type 0 where
  since : l.since ≡ None
  received : l.received ≡ 0
  missing : l.missing ≡ 0

abbrev HasCounts : Losses → List Told → Type 0
HasCounts l [] = Begins l
HasCounts l (first ∷ more) = GatheredIn first.report.now (first ∷ more) l

counts-turn : (s : State) (x : Report) (all : List Told) → HasCounts s.losses all → HasCounts (after_losses s x).state.losses (all ++ told_by s x ∷ [])
counts-turn s x [] b =
    let since : unwrap_or s.losses.since x.now ≡ x.now = ap (λ (o : Option ℕ). unwrap_or o x.now) b.since in
    let none : Gathered x.now [] x.now s.losses.received s.losses.missing = record { windows = []; current = []; division = (refl, tt); since = refl; received = b.received; missing = b.missing } in
    losses-turn x.now [] s x x.now (nat_lt x.now x.now) since (λ e. absurd (grind (arith, e))) refl none
counts-turn s x (first ∷ more) k =
    losses-turn first.report.now (first ∷ more) s x k.begun (nat_lt x.now k.begun) (ap (λ (o : Option ℕ). unwrap_or o x.now) k.since) (λ e. k.since) refl k.gathered

given-counts : (s : State) (g : Given) (all : List Told) → HasCounts s.losses all → HasCounts (given_to s g).losses (all ++ told_in s g)
given-counts s (reported x results waits bounds) all k =
    subst (λ (l : Losses). HasCounts l (all ++ told_by s x ∷ [])) (sym (report-losses s x results waits bounds)) (counts-turn s x all k)
given-counts s (setting None bounds) all k = rw (append-nil all) k
given-counts s (setting (Some rate) bounds) all k = rw (append-nil all) k

walk-counts : (s : State) (all : List Told) (given : List Given) → HasCounts s.losses all → HasCounts (fold given_to s given).losses (all ++ told_from s given)
walk-counts s all [] k = rw (append-nil all) k
walk-counts s all (g ∷ given) k =
    rw (← append_assoc all (told_in s g) (told_from (given_to s g) given)) (walk-counts (given_to s g) (all ++ told_in s g) given (given-counts s g all k))

pub losses-of-list : LossesAreThoseOfTheList
losses-of-list start given first more is =
    let l : Losses = (fold given_to (started start) given).losses in
    let k : GatheredIn first.report.now (first ∷ more) l = subst (HasCounts l) is (walk-counts (started start) [] given (record { since = refl; received = refl; missing = refl })) in
    let g : Gathered first.report.now (first ∷ more) k.begun l.received l.missing = k.gathered in
    record {
      windows = g.windows;
      current = g.current;
      division = g.division;
      since = k.since ∙ ap (λ (n : ℕ). Some n) g.since;
      received = g.received ∙ ap (λ (n : ℕ). received_in n g.current) g.since;
      missing = g.missing ∙ ap (λ (n : ℕ). missing_in n g.current) g.since;
    }
