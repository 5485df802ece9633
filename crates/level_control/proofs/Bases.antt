-- The base is the least delay since the last cut whose drain has ended.
use Rattle.std.proofs.Common.{ℕ, ℤ, ◌≡◌, Bool, true, false, ◌&&◌, is_some, is_none, Option, Some, None, List, [], ◌∷◌, ◌++◌, All, append_assoc, refl, sym, ap, ◌∙◌, arith}
use Rattle.std.specs.Int.{int_min}
use Rattle.std.proofs.lemmas.Int.{ints, clamps}
use Rattle.std.proofs.lemmas.Option.{same_Some}
use Rattle.std.proofs.lemmas.List.{map-append}
use Rattle.std.proofs.lemmas.List.Elements.{All-nil, All-push}
use Rattle.level_control.specs.declared.state.Delays.{Delays}
use Rattle.level_control.specs.declared.state.Drain.{Drain}
use Rattle.level_control.specs.declared.state.Shown.{Shown}
use Rattle.level_control.specs.Delays.{delays_after}
use Rattle.level_control.specs.Drains.{begun, followed}
use Rattle.level_control.specs.Given.{Seen}
use Rattle.level_control.specs.AsLists.{lesser, least, delays_of, IsNoTurn, AreSinceCut, none_ended, one_ended, IsBaseOf}
use Rattle.level_control.proofs.Turns.{Turns, cuts, grows, goes_on, ends, IsSeen, Lasts, followed_low}

-- ---- the least of a longer list

lesser-assoc : (a b c : Option ℤ) → lesser (lesser a b) c ≡ lesser a (lesser b c)
lesser-assoc None b c = refl
lesser-assoc (Some a) None None = refl
lesser-assoc (Some a) None (Some c) = refl
lesser-assoc (Some a) (Some b) None = refl
lesser-assoc (Some a) (Some b) (Some c) = ap Some (omega (arith, ints, clamps))

lesser-none : (a : Option ℤ) → lesser a None ≡ a
lesser-none None = refl
lesser-none (Some a) = refl

pub least-append : (xs ys : List ℤ) → least (xs ++ ys) ≡ lesser (least xs) (least ys)
least-append [] ys = refl
least-append (x ∷ xs) ys = ap (lesser (Some x)) (least-append xs ys) ∙ sym (lesser-assoc (Some x) (least xs) (least ys))

pub least-push : (xs : List Seen) (x : Seen) → least (delays_of (xs ++ x ∷ [])) ≡ lesser (least (delays_of xs)) (Some x.delay)
least-push xs x = ap least (map-append (λ (y : Seen). y.delay) xs (x ∷ [])) ∙ least-append (delays_of xs) (x.delay ∷ [])

-- ---- the base

abbrev pub base_of : Option Delays → Option ℤ
base_of None = None
base_of (Some k) = Some k.base

base-after : (known : Option Delays) (delay : ℤ) (now : ℕ) → Some (delays_after known delay now).base ≡ lesser (base_of known) (Some delay)
base-after None delay now = refl
base-after (Some k) delay now = refl

pub last-after : (known : Option Delays) (delay : ℤ) (now : ℕ) → (delays_after known delay now).last ≡ delay
last-after None delay now = refl
last-after (Some k) delay now = refl

-- a report at which no drain ends
since-more : (all since : List Seen) (x : Seen) → x.ended ≡ false → AreSinceCut all since → AreSinceCut (all ++ x ∷ []) (since ++ x ∷ [])
since-more all since x e (none_ended none same) = none_ended (All-push (λ (z : Seen). z.ended ≡ false) all x none e) (ap (λ (xs : List Seen). xs ++ x ∷ []) same)
since-more all since x e (one_ended front inside rest cut end split shape is_cut quiet is_end none) =
    one_ended front inside (rest ++ x ∷ []) cut end (ap (λ (xs : List Seen). xs ++ x ∷ []) split ∙ append_assoc front since (x ∷ []))
    (ap (λ (xs : List Seen). xs ++ x ∷ []) shape ∙ ap (λ (xs : List Seen). cut ∷ xs) (append_assoc inside (end ∷ rest) (x ∷ []))) is_cut quiet is_end (All-push (λ (z : Seen). z.ended ≡ false) rest x none e)

base-more : (all : List Seen) (base : Option ℤ) (x : Seen) → x.ended ≡ false → IsBaseOf all base → IsBaseOf (all ++ x ∷ []) (lesser base (Some x.delay))
base-more all base x e b = record {
  since = b.since ++ x ∷ [];
  are_since = since-more all b.since x e b.are_since;
  least = ap (λ (o : Option ℤ). lesser o (Some x.delay)) b.least ∙ sym (least-push b.since x);
}

-- the reports of a drain, from its last cut on
pub record HasDrained (all : List Seen) (d : Drain) : Type 0 where
  pub front : List Seen
  pub cut : Seen
  pub inside : List Seen
  pub split : all ≡ front ++ cut ∷ inside
  pub is_cut : cut.cut ≡ true
  pub quiet : All IsNoTurn inside
  pub low : Some d.low ≡ least (delays_of (cut ∷ inside))

pub record HasBase (known : Option Delays) (current : Option Drain) (all : List Seen) : Type 0 where
  pub base : IsBaseOf all (base_of known)
  pub drain : (d : Drain) → current ≡ Some d → HasDrained all d

no-and : (b : Bool) → (b && false) ≡ false
no-and true = refl
no-and false = refl

no_some : (e : Drain) → None ≡ Some e → ⊥
no_some e h = cc

drained-more : (all : List Seen) (x : Seen) (y : Shown) (old d : Drain) → HasDrained all old → y.delays.last ≡ x.delay → x.cut ≡ false → x.ended ≡ false → followed old y ≡ d → HasDrained (all ++ x ∷ []) d
drained-more all x y old d h last no_cut no_end same = record {
  front = h.front;
  cut = h.cut;
  inside = h.inside ++ x ∷ [];
  split = ap (λ (xs : List Seen). xs ++ x ∷ []) h.split ∙ append_assoc h.front (h.cut ∷ h.inside) (x ∷ []);
  is_cut = h.is_cut;
  quiet = All-push IsNoTurn h.inside x h.quiet (record { cut = no_cut; ended = no_end });
  low =
      ap (λ (z : Drain). Some z.low) (sym same) ∙ ap Some (followed_low old y ∙ ap (int_min old.low) last)
      ∙ ap (λ (o : Option ℤ). lesser o (Some x.delay)) h.low ∙ sym (least-push (h.cut ∷ h.inside) x);
}

base-ended : (all : List Seen) (x : Seen) (y : Shown) (old : Drain) (next : Option Delays) → HasDrained all old → y.delays.last ≡ x.delay → x.ended ≡ true
    → next ≡ Some (record y.delays { base = int_min old.low y.delays.last }) → IsBaseOf (all ++ x ∷ []) (base_of next)
base-ended all x y old next h last ended n = record {
  since = h.cut ∷ (h.inside ++ x ∷ []);
  are_since =
      one_ended h.front h.inside [] h.cut x (ap (λ (xs : List Seen). xs ++ x ∷ []) h.split ∙ append_assoc h.front (h.cut ∷ h.inside) (x ∷ [])) refl h.is_cut h.quiet ended (All-nil (λ (z : Seen). z.ended ≡ false));
  least = ap base_of n ∙ ap (λ (z : ℤ). Some (int_min old.low z)) last ∙ ap (λ (o : Option ℤ). lesser o (Some x.delay)) h.low ∙ sym (least-push (h.cut ∷ h.inside) x);
}

pub base-turn : (known next : Option Delays) (drain after_it : Option Drain) (all : List Seen) (x : Seen) (y : Shown) → HasBase known drain all → IsSeen x y known
    → Turns drain y next after_it x.cut → x.ended ≡ (is_some drain && is_none after_it) → HasBase next after_it (all ++ x ∷ [])
base-turn known next drain after_it all x y has sees turn ended =
    let last : y.delays.last ≡ x.delay = ap (λ (k : Delays). k.last) sees.delays ∙ last-after known x.delay x.now in
    let base : Some y.delays.base ≡ lesser (base_of known) (Some x.delay) = ap (λ (k : Delays). Some k.base) sees.delays ∙ base-after known x.delay x.now in
    let more : x.ended ≡ false → next ≡ Some y.delays → IsBaseOf (all ++ x ∷ []) (base_of next) = λ e n. rw (n, base) (base-more all (base_of known) x e has.base) in
    elim turn as (λ _. HasBase next after_it (all ++ x ∷ [])) [
      | cuts before late is_cut n d ↦ record {
        base = more (ended ∙ ap (λ (o : Option Drain). is_some drain && is_none o) d ∙ no-and (is_some drain)) n;
        drain = λ e is. record {
          front = all;
          cut = x;
          inside = [];
          split = refl;
          is_cut = is_cut;
          quiet = All-nil IsNoTurn;
          low = let same : begun y before ≡ e = same_Some (begun y before) e (sym d ∙ is) in ap (λ (z : Drain). Some z.low) (sym same) ∙ ap Some last;
        };
      }
      | grows none is_cut n d ↦ record {
        base = more (ended ∙ ap (λ (o : Option Drain). is_some o && is_none after_it) none) n;
        drain = λ e is. absurd (no_some e (sym d ∙ is));
      }
      | goes_on old rate more_falls was is_cut n d ↦ record {
        base = more (ended ∙ ap (λ (o : Option Drain). is_some o && is_none after_it) was ∙ ap (λ (o : Option Drain). is_some (Some old) && is_none o) d) n;
        drain = λ e is. drained-more all x y old e (has.drain old was) last is_cut (ended ∙ ap (λ (o : Option Drain). is_some o && is_none after_it) was ∙ ap (λ (o : Option Drain). is_some (Some old) && is_none o) d) (same_Some (followed old y) e (sym d ∙ is));
      }
      | ends old rate no_fall was is_cut n d ↦ record {
        base = base-ended all x y old next (has.drain old was) last (ended ∙ ap (λ (o : Option Drain). is_some o && is_none after_it) was ∙ ap (λ (o : Option Drain). is_some (Some old) && is_none o) d) n;
        drain = λ e is. absurd (no_some e (sym d ∙ is));
      }
    ]

pub base-lasts : Lasts HasBase
base-lasts = record {
  first = record {
    base = record { since = []; are_since = none_ended (All-nil (λ (z : Seen). z.ended ≡ false)) refl; least = refl };
    drain = λ d is. absurd (no_some d is);
  };
  turn = base-turn;
  start = λ known drain all has. record { base = has.base; drain = λ d is. absurd (no_some d is) };
}
