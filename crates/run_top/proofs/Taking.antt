-- Options read one behind the other.
use Rattle.std.proofs.Common.{◌≡◌, ℕ, suc, ◌+◌, ◌<◌, ◌≤◌, ◌-◌, List, [], ◌∷◌, ◌++◌, length, take, drop, set, get_or, append_assoc, length-append, Option, None, Some, refl, sym, ap, ◌∙◌, arith}
use Rattle.std.proofs.lemmas.List.{drop_more, set_split, take_at, length-take, length-set}
use Rattle.gcc_units.specs.Listed.{Listed}
use Rattle.run_top.specs.declared.options.Name.{Name}
use Rattle.run_top.specs.declared.options.Given.{Given}
use Rattle.run_top.specs.Words.{◌>>=◌, Taken, or_else, option_of, option_among, option_at, options_at}

-- these options, and those behind them
abbrev pub joined : List Given → Option (List Given) → Option (List Given)
joined front None = None
joined front (Some more) = Some (front ++ more)

join_one : (front : List Given) (taken : Given) (o : Option (List Given)) → joined front (o >>= (λ others. Some (taken ∷ others))) ≡ joined (front ++ taken ∷ []) o
join_one front taken None = refl
join_one front taken (Some more) = ap (λ xs. Some xs) (sym (append_assoc front (taken ∷ []) more))

pub take_more : (n k : ℕ) (words rest : List (Listed ℕ)) (taken : Given) (front : List Given) (all : Option (List Given)) → n ≡ suc k
    → option_at words ≡ Some (taken, rest) → all ≡ joined front (options_at n words) → all ≡ joined (front ++ taken ∷ []) (options_at k rest)
take_more n k words rest taken front all more e is =
    is ∙ (ap (λ m. joined front (options_at m words)) more
    ∙ (ap (λ o. joined front (o >>= (λ taken. options_at k taken.1 >>= (λ others. Some (taken.0 ∷ others))))) e ∙ join_one front taken (options_at k rest)))

-- ---- the option of a name among others

among_next : (ns : List Name) (words : List (Listed ℕ)) (i : ℕ) (none : Name) → i < length ns
    → option_among (drop i ns) words ≡ or_else (option_of (get_or ns i none) words) (option_among (drop (i + 1) ns) words)
among_next ns words i none lt = ap (λ ms. option_among ms words) (drop_more ns i none lt)

pub found_here : (ns : List Name) (words : List (Listed ℕ)) (i : ℕ) (none : Name) (all : Option Taken) (taken : Taken) → i < length ns
    → option_among (drop i ns) words ≡ all → option_of (get_or ns i none) words ≡ Some taken → all ≡ Some taken
found_here ns words i none all taken lt so_far is =
    sym so_far ∙ (among_next ns words i none lt ∙ ap (λ o. or_else o (option_among (drop (i + 1) ns) words)) is)

pub found_later : (ns : List Name) (words : List (Listed ℕ)) (i : ℕ) (none : Name) (all : Option Taken) → i < length ns
    → option_among (drop i ns) words ≡ all → option_of (get_or ns i none) words ≡ None → option_among (drop (i + 1) ns) words ≡ all
found_later ns words i none all lt so_far is =
    sym (ap (λ o. or_else o (option_among (drop (i + 1) ns) words)) is) ∙ (sym (among_next ns words i none lt) ∙ so_far)

-- ---- so many options

-- so many of the options stand in their places, and the others are those of the words that are left
pub record AreTaken (count place : ℕ) (words : List (Listed ℕ)) (options : List Given) (rest : List (Listed ℕ)) : Type 0 where
  pub room : length options ≡ count
  pub within : place ≤ count
  pub all : options_at count words ≡ joined (take place options) (options_at (count - place) rest)

take_set : (options : List Given) (place : ℕ) (taken : Given) → place < length options → take (place + 1) (set options place taken) ≡ take place options ++ taken ∷ []
take_set options place taken lt =
    ap (take (place + 1)) (set_split options place taken lt ∙ sym (append_assoc (take place options) (taken ∷ []) (drop (suc place) options)))
    ∙ take_at (take place options ++ taken ∷ []) (drop (suc place) options) (place + 1)
    (omega (arith, length-append (take place options) (taken ∷ []), length-take place options))

pub taken_next : (count place : ℕ) (words : List (Listed ℕ)) (options : List Given) (rest behind : List (Listed ℕ)) (taken : Given) → place < count
    → AreTaken count place words options rest → option_at rest ≡ Some (taken, behind) → AreTaken count (place + 1) words (set options place taken) behind
taken_next count place words options rest behind taken lt are is = record {
  room = length-set options place taken ∙ are.room;
  within = omega (arith, lt);
  all =
      take_more (count - place) (count - (place + 1)) rest behind taken (take place options) (options_at count words) (omega (arith, lt)) is are.all
      ∙ ap (λ front. joined front (options_at (count - (place + 1)) behind)) (sym (take_set options place taken (omega (arith, lt, are.room))));
}
