-- The credits of one report, one after another.
use Rattle.std.proofs.Common.{ℕ, ◌≡◌, ◌+◌, ◌<◌, List, [], ◌∷◌, ◌++◌, length, length-append, get_or, take, drop, fold, Option, None, refl, ap, ◌∙◌, sym, subst, arith, append_assoc, append-nil}
use Rattle.std.proofs.Math.Seq.{drop-append_seam}
use Rattle.std.proofs.lemmas.List.{take_more, length-take-le}
use Rattle.std.proofs.lemmas.List.Elements.{All-append, All-cons, All-nil, All-take}
use Rattle.std.proofs.lemmas.List.Sums.{fold-append}
use Rattle.gcc_units.specs.declared.shared_types.Credit.{Credit}
use Rattle.gcc_units.specs.declared.shared_types.Signal.{Signal}
use Rattle.packet_groups.specs.declared.step.State as groups_state
use Rattle.arrival_filter.specs.Filter as filter
use Rattle.overuse.specs.Detector as detector
use Rattle.estimator.specs.Signals.{signals, heard, heard_next, report_signal, listed, Follow, TakesCredits, IsSentBy}

-- these credits of a report were heard
pub record Hears (before received : List Credit) (g : groups_state.State) (f : filter.State) (d : detector.State) (found : Option Signal) : Type 0 where
  pub follow : Follow (before ++ received) g f d
  pub fresh : List Signal
  pub signals_are : signals (before ++ received) ≡ signals before ++ fresh
  pub found_is : found ≡ heard fresh

pub hears_none : (before : List Credit) (g : groups_state.State) (f : filter.State) (d : detector.State) → Follow before g f d → Hears before [] g f d None
hears_none before g f d follow =
    let P : List Credit → Type 0 = λ cs. Follow cs g f d in
    record {
      follow = subst P (sym (append-nil before)) follow;
      fresh = [];
      signals_are = ap signals (append-nil before) ∙ sym (append-nil (signals before));
      found_is = refl;
    }

-- the credit at a place was heard too
pub hears_more : (before xs : List Credit) (i : ℕ) (none : Credit) (g : groups_state.State) (f : filter.State) (d : detector.State) (found : Option Signal)
    → i < length xs → Hears before (take i xs) g f d found
    → (g' : groups_state.State) (f' : filter.State) (d' : detector.State) (signal : Option Signal)
    → ((cs : List Credit) → Follow cs g f d → Follow (cs ++ get_or xs i none ∷ []) g' f' d')
    → ((cs : List Credit) → Follow cs g f d → signals (cs ++ get_or xs i none ∷ []) ≡ signals cs ++ listed signal)
    → (found' : Option Signal) → found' ≡ fold heard_next found (listed signal)
    → Hears before (take (i + 1) xs) g' f' d' found'
hears_more before xs i none g f d found inside h g' f' d' signal follows says found' e =
    let c : Credit = get_or xs i none in
    let whole : (before ++ take i xs) ++ c ∷ [] ≡ before ++ take (i + 1) xs =
    append_assoc before (take i xs) (c ∷ []) ∙ ap (λ (cs : List Credit). before ++ cs) (sym (take_more xs i none inside)) in
    let P : List Credit → Type 0 = λ cs. Follow cs g' f' d' in
    record {
      follow = subst P whole (follows (before ++ take i xs) h.follow);
      fresh = h.fresh ++ listed signal;
      signals_are =
          ap signals (sym whole) ∙ says (before ++ take i xs) h.follow ∙ ap (λ (ss : List Signal). ss ++ listed signal) h.signals_are
          ∙ append_assoc (signals before) h.fresh (listed signal);
      found_is = e ∙ ap (λ (o : Option Signal). fold heard_next o (listed signal)) h.found_is ∙ sym (fold-append heard_next None h.fresh (listed signal));
    }

pub hears_all : (before received : List Credit) (g : groups_state.State) (f : filter.State) (d : detector.State) (found : Option Signal)
    → Hears before received g f d found → found ≡ report_signal before received
hears_all before received g f d found h =
    h.found_is ∙ ap heard (sym (ap (drop (length (signals before))) h.signals_are ∙ drop-append_seam (signals before) h.fresh))

-- the credit at a place may be given next
pub takes_next : (xs : List Credit) (i : ℕ) (none : Credit) (g g' : groups_state.State) (f f' : filter.State) (d d' : detector.State)
    → i < length xs → (r : TakesCredits xs g f d) → Follow (r.before ++ take i xs) g' f' d' → TakesCredits (get_or xs i none ∷ []) g' f' d'
takes_next xs i none g g' f f' d d' inside r follow = record {
  before = r.before ++ take i xs;
  follow = follow;
  few = omega (arith, r.few, length-append r.before (take i xs), length-take-le i xs (omega arith));
  moment = r.moment;
  greatest = r.greatest;
  earlier = All-append (IsSentBy r.moment) r.before (take i xs) r.earlier (All-take (IsSentBy r.moment) i xs r.sent);
  sent = All-cons (IsSentBy r.moment) (get_or xs i none) [] (r.sent i none inside) (All-nil (IsSentBy r.moment));
}
