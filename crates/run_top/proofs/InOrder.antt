-- Options in any order, and the number of each among them.
use Rattle.std.proofs.Common.{◌≡◌, ℕ, ◌+◌, Bool, true, false, true≢false, cond, List, [], ◌∷◌, ◌++◌, length, length-append, Option, None, Some, inl, inr, ◌⊎◌, refl, sym, ap, subst, ◌∙◌, arith}
use Rattle.std.specs.Str.{bytes_eq}
use Rattle.std.proofs.lemmas.Bool.{false_from_ne_true}
use Rattle.std.proofs.lemmas.List.{nil_from_length}
use Rattle.std.proofs.lemmas.Slice.Eq.{bytes_eq-Decides}
use Rattle.run_top.specs.declared.options.Name.{Name}
use Rattle.run_top.specs.declared.options.Name.TheVariants as name
use Rattle.run_top.specs.declared.options.Given.{Given}
use Rattle.run_top.specs.Words.{names, name_text, same_name, given, number_for}
use Rattle.run_top.specs.Asking.{AreInAnyOrder}

pub cond_some : {A : Type 0} (b : Bool) (x y : Option A) (v : A) → cond b x y ≡ Some v → ((b ≡ true) × (x ≡ Some v)) ⊎ ((b ≡ false) × (y ≡ Some v))
cond_some true x y v e = inl (refl, e)
cond_some false x y v e = inr (refl, e)

cond_none : {A : Type 0} (b : Bool) (v : A) (y : Option A) → cond b (Some v) y ≡ None → (b ≡ false) × (y ≡ None)
cond_none true v y e = absurd cc
cond_none false v y e = (refl, e)

-- the first of these names that has the text
named : List Name → List ℕ → Option Name
named [] text = None
named (n ∷ ns) text = cond (bytes_eq (name_text n) text) (Some n) (named ns text)

-- each name stands in the table, and no other has its text
is_named : (n : Name) → named names (name_text n) ≡ Some n
unfolding named
is_named name.Seed = refl
is_named name.Calls = refl
is_named name.Actors = refl
is_named name.Rate = refl
is_named name.Queue = refl
is_named name.Delay = refl
is_named name.Millis = refl
is_named name.Media = refl
is_named name.Rtx = refl
is_named name.Payload = refl
is_named name.Repeats = refl

pub same_name_is : (a b : Name) → same_name a b ≡ true → a ≡ b
same_name_is a b e =
    let both : Some a ≡ Some b = sym (is_named a) ∙ (ap (named names) ((bytes_eq-Decides (name_text a) (name_text b)).0 e) ∙ is_named b) in cc

pub name_is_same : (a : Name) → same_name a a ≡ true
name_is_same a = (bytes_eq-Decides (name_text a) (name_text a)).1 refl

other_way : (a b : Name) → same_name a b ≡ false → same_name b a ≡ false
other_way a b apart =
    false_from_ne_true (same_name b a) (λ same. true≢false (sym (name_is_same a) ∙ (ap (same_name a) (sym (same_name_is b a same)) ∙ apart)))

number_is_some : (a b : ℕ) → Some a ≡ Some b → a ≡ b
number_is_some a b e = cc

-- an option whose number is found stands among them
found : (n : Name) (m : ℕ) (gs : List Given) → number_for n gs ≡ Some m → (front : List Given) × (back : List Given) × (gs ≡ front ++ given n m ∷ back)
found n m [] e = absurd cc
found n m (g ∷ gs) e =
    elim (cond_some (same_name g.name n) (Some g.number) (number_for n gs) m e) [
      | inl here ↦
          let one : given g.name g.number ≡ given n m = ap (λ a. given a g.number) (same_name_is g.name n here.0) ∙ ap (given n) (number_is_some g.number m here.1) in
          ([], gs, ap (λ (o : Given). o ∷ gs) one)
      | inr later ↦ let more = found n m gs later.1 in (g ∷ more.0, more.1, ap (λ os. g ∷ os) more.2)
    ]

-- one of another name is passed over
without : (n : Name) (g : Given) (front back : List Given) → same_name g.name n ≡ false → number_for n (front ++ g ∷ back) ≡ number_for n (front ++ back)
without n g [] back other = ap (λ b. cond b (Some g.number) (number_for n back)) other
without n g (f ∷ front) back other = ap (λ (o : Option ℕ). cond (same_name f.name n) (Some f.number) o) (without n g front back other)

-- and the only one of its name is found
inserted : (n : Name) (m : ℕ) (front back : List Given) → number_for n (front ++ back) ≡ None → number_for n (front ++ given n m ∷ back) ≡ Some m
inserted n m [] back none = ap (λ b. cond b (Some m) (number_for n back)) (name_is_same n)
inserted n m (f ∷ front) back none =
    let apart = cond_none (same_name f.name n) f.number (number_for n (front ++ back)) none in
    ap (λ b. cond b (Some f.number) (number_for n (front ++ given n m ∷ back))) apart.0 ∙ inserted n m front back apart.1

abbrev pub AreOther : Name → List Given → Type 0
AreOther n [] = Unit {0}
AreOther n (g ∷ gs) = (same_name g.name n ≡ false) × AreOther n gs

lacking : (n : Name) (gs options : List Given) → AreInAnyOrder gs options → AreOther n gs → number_for n options ≡ None
lacking n [] options is others = ap (number_for n) is
lacking n (g ∷ gs) options is others = ap (number_for n) is.2 ∙ (without n g is.0 is.1 others.0 ∙ lacking n gs (is.0 ++ is.1) is.3 others.1)

first_number : (g : Given) (gs options : List Given) → AreInAnyOrder (g ∷ gs) options → AreOther g.name gs → number_for g.name options ≡ Some g.number
first_number g gs options is others = ap (number_for g.name) is.2 ∙ inserted g.name g.number is.0 is.1 (lacking g.name gs (is.0 ++ is.1) is.3 others)

between : (g : Given) (front back : List Given) → length (front ++ g ∷ back) ≡ 1 + length (front ++ back)
between g front back = omega (arith, length-append front (g ∷ back), length-append front back)

pub as_many : (gs options : List Given) → AreInAnyOrder gs options → length options ≡ length gs
as_many [] options is = ap length is
as_many (g ∷ gs) options is =
    let all : length options ≡ 1 + length (is.0 ++ is.1) = ap length is.2 ∙ between g is.0 is.1 in
    omega (arith, all, as_many gs (is.0 ++ is.1) is.3)

-- no two of them have the same name
abbrev pub AreApart : List Given → Type 0
AreApart [] = Unit {0}
AreApart (g ∷ gs) = AreOther g.name gs × AreApart gs

-- the number of each is found among these options
abbrev pub AreFound : List Given → List Given → Type 0
AreFound [] options = Unit {0}
AreFound (g ∷ gs) options = (number_for g.name options ≡ Some g.number) × AreFound gs options

-- an option of another name hides no number
more : (g : Given) (front back gs : List Given) → AreOther g.name gs → AreFound gs (front ++ back) → AreFound gs (front ++ g ∷ back)
more g front back [] others are = tt
more g front back (h ∷ gs) others are =
    (without h.name g front back (other_way h.name g.name others.0) ∙ are.0, more g front back gs others.1 are.1)

fewer : (g : Given) (front back gs : List Given) → AreOther g.name gs → AreFound gs (front ++ g ∷ back) → AreFound gs (front ++ back)
fewer g front back [] others are = tt
fewer g front back (h ∷ gs) others are =
    (sym (without h.name g front back (other_way h.name g.name others.0)) ∙ are.0, fewer g front back gs others.1 are.1)

pub find_all : (wanted options : List Given) → AreApart wanted → AreInAnyOrder wanted options → AreFound wanted options
find_all [] options apart is = tt
find_all (g ∷ gs) options apart is = (
  first_number g gs options is apart.0,
  subst (AreFound gs) (sym is.2) (more g is.0 is.1 gs apart.0 (find_all gs (is.0 ++ is.1) apart.1 is.3)),
)

-- where each number is found, and there are no more options
pub in_order : (wanted options : List Given) → AreApart wanted → AreFound wanted options → length options ≡ length wanted → AreInAnyOrder wanted options
in_order [] options apart are long = nil_from_length options long
in_order (g ∷ gs) options apart are long =
    let at = found g.name g.number options are.0 in
    let all : length options ≡ 1 + length (at.0 ++ at.1) = ap length at.2 ∙ between g at.0 at.1 in
    (at.0, at.1, at.2, in_order gs (at.0 ++ at.1) apart.1 (fewer g at.0 at.1 gs apart.0 (subst (AreFound gs) at.2 are.1)) (omega (arith, all, long)))
