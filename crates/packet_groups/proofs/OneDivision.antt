-- The division of credits divides them, and no other does.
use Rattle.std.proofs.Common.{◌≡◌, Bool, true, false, if◌then◌else◌, List, [], ◌∷◌, ◌++◌, append_assoc, append-nil, fold, flat_map, refl, ap, ◌∙◌, sym}
use Rattle.std.proofs.lemmas.List.Sums.{fold-append}
use Rattle.gcc_units.specs.declared.shared_types.Credit.{Credit}
use Rattle.packet_groups.specs.Groups.{Run, joins, summary, alone, longer, placed, division}
use Rattle.packet_groups.specs.Division.{StaysFrom, IsGroup, IsDivision, credits_of, IsTheOne}

-- ---- nothing else divides them

-- what a credit makes of the last run
abbrev placed_at : Run → Credit → List Run
placed_at r c = if joins (summary r) c then longer r c ∷ [] else r ∷ alone c ∷ []

placed-last : (before : List Run) (r : Run) (c : Credit) → placed (before ++ r ∷ []) c ≡ before ++ placed_at r c
placed-last [] r c = refl
placed-last (q ∷ []) r c = refl
placed-last (q ∷ p ∷ before) r c = ap (λ (runs : List Run). q ∷ runs) (placed-last (p ∷ before) r c)

-- a run with more credits behind its own
abbrev extended : Run → List Credit → Run
extended r cs = record { first = r.first; more = r.more ++ cs }

grown : (before : List Run) (r : Run) (cs : List Credit) → StaysFrom r cs → fold placed (before ++ r ∷ []) cs ≡ before ++ extended r cs ∷ []
grown before r [] h = ap (λ (cs : List Credit). before ++ (record { first = r.first; more = cs }) ∷ []) (sym (append-nil r.more))
grown before r (c ∷ cs) h =
    ap (λ (runs : List Run). fold placed runs cs) (placed-last before r c ∙ ap (λ b. before ++ (if b then longer r c ∷ [] else r ∷ alone c ∷ [])) h.0)
    ∙ grown before (longer r c) cs h.1
    ∙ ap (λ (ds : List Credit). before ++ (record { first = r.first; more = ds }) ∷ []) (append_assoc r.more (c ∷ []) cs)

first-group : (r : Run) (runs : List Run) → IsDivision (r ∷ runs) → IsGroup r
first-group r [] h = h
first-group r (s ∷ runs) h = h.0

begun-by : (before : List Run) (r s : Run) → joins (summary r) s.first ≡ false → IsGroup s
    → fold placed (before ++ r ∷ []) (credits_of s) ≡ (before ++ r ∷ []) ++ s ∷ []
begun-by before r s parts h =
    ap (λ (runs : List Run). fold placed runs s.more)
    (placed-last before r s.first
    ∙ ap (λ b. before ++ (if b then longer r s.first ∷ [] else r ∷ alone s.first ∷ [])) parts
    ∙ sym (append_assoc before (r ∷ []) (alone s.first ∷ [])))
    ∙ grown (before ++ r ∷ []) (alone s.first) s.more h

built : (before : List Run) (r : Run) (runs : List Run) → IsDivision (r ∷ runs) → fold placed (before ++ r ∷ []) (flat_map credits_of runs) ≡ before ++ r ∷ runs
built before r [] h = refl
built before r (s ∷ runs) h =
    fold-append placed (before ++ r ∷ []) (credits_of s) (flat_map credits_of runs)
    ∙ ap (λ (rs : List Run). fold placed rs (flat_map credits_of runs)) (begun-by before r s h.1 (first-group s runs h.2))
    ∙ built (before ++ r ∷ []) s runs h.2
    ∙ append_assoc before (r ∷ []) (s ∷ runs)

division-only : (runs : List Run) → IsDivision runs → runs ≡ division (flat_map credits_of runs)
division-only [] h = refl
division-only (r ∷ runs) h =
    sym (fold-append placed (alone r.first ∷ []) r.more (flat_map credits_of runs)
    ∙ ap (λ (rs : List Run). fold placed rs (flat_map credits_of runs)) (grown [] (alone r.first) r.more (first-group r runs h))
    ∙ built [] r runs h)

-- ---- the division divides them

stays-push : (r : Run) (cs : List Credit) (c : Credit) → StaysFrom r cs → joins (summary (extended r cs)) c ≡ true → StaysFrom r (cs ++ c ∷ [])
stays-push r [] c h e = (ap (λ (ds : List Credit). joins (summary (record { first = r.first; more = ds })) c) (sym (append-nil r.more)) ∙ e, tt)
stays-push r (d ∷ cs) c h e =
    (h.0, stays-push (longer r d) cs c h.1 (ap (λ (ds : List Credit). joins (summary (record { first = r.first; more = ds })) c) (append_assoc r.more (d ∷ []) cs) ∙ e))

divides-one : (r : Run) (c : Credit) → IsGroup r → (b : Bool) → joins (summary r) c ≡ b → IsDivision (if b then longer r c ∷ [] else r ∷ alone c ∷ [])
divides-one r c h true e = stays-push (alone r.first) r.more c h e
divides-one r c h false e = (h, e, tt)

-- what is placed begins as before
record BeginsWith (runs : List Run) (c : Credit) : Type 0 where
  first : Run
  others : List Run
  is : runs ≡ first ∷ others
  same : first.first ≡ c

begins-one : (r : Run) (c : Credit) (b : Bool) → BeginsWith (if b then longer r c ∷ [] else r ∷ alone c ∷ []) r.first
begins-one r c true = record { first = longer r c; others = []; is = refl; same = refl }
begins-one r c false = record { first = r; others = alone c ∷ []; is = refl; same = refl }

begins : (r : Run) (runs : List Run) (c : Credit) → BeginsWith (placed (r ∷ runs) c) r.first
begins r [] c = begins-one r c (joins (summary r) c)
begins r (s ∷ runs) c = record { first = r; others = placed (s ∷ runs) c; is = refl; same = refl }

divides-more : (r : Run) (c : Credit) (runs : List Run) → BeginsWith runs c → IsGroup r → joins (summary r) c ≡ false → IsDivision runs → IsDivision (r ∷ runs)
divides-more r c runs b h parts rest =
    rw b.is (h, ap (λ (d : Credit). joins (summary r) d) b.same ∙ parts, rw b.is at rest)

divides-placed : (runs : List Run) (c : Credit) → IsDivision runs → IsDivision (placed runs c)
divides-placed [] c h = tt
divides-placed (r ∷ []) c h = divides-one r c h (joins (summary r) c) refl
divides-placed (r ∷ s ∷ runs) c h = divides-more r s.first (placed (s ∷ runs) c) (begins s runs c) h.0 h.1 (divides-placed (s ∷ runs) c h.2)

divides-fold : (runs : List Run) (cs : List Credit) → IsDivision runs → IsDivision (fold placed runs cs)
divides-fold runs [] h = h
divides-fold runs (c ∷ cs) h = divides-fold (placed runs c) cs (divides-placed runs c h)

whole-one : (r : Run) (c : Credit) (b : Bool) → flat_map credits_of (if b then longer r c ∷ [] else r ∷ alone c ∷ []) ≡ credits_of r ++ c ∷ []
whole-one r c true = append-nil (r.first ∷ (r.more ++ c ∷ []))
whole-one r c false = refl

whole-placed : (runs : List Run) (c : Credit) → flat_map credits_of (placed runs c) ≡ flat_map credits_of runs ++ c ∷ []
whole-placed [] c = refl
whole-placed (r ∷ []) c = whole-one r c (joins (summary r) c) ∙ ap (λ (cs : List Credit). cs ++ c ∷ []) (sym (append-nil (credits_of r)))
whole-placed (r ∷ s ∷ runs) c =
    ap (λ (cs : List Credit). credits_of r ++ cs) (whole-placed (s ∷ runs) c) ∙ sym (append_assoc (credits_of r) (flat_map credits_of (s ∷ runs)) (c ∷ []))

whole-fold : (runs : List Run) (cs : List Credit) → flat_map credits_of (fold placed runs cs) ≡ flat_map credits_of runs ++ cs
whole-fold runs [] = sym (append-nil (flat_map credits_of runs))
whole-fold runs (c ∷ cs) =
    whole-fold (placed runs c) cs ∙ ap (λ (ds : List Credit). ds ++ cs) (whole-placed runs c) ∙ append_assoc (flat_map credits_of runs) (c ∷ []) cs

pub the_one : (credits : List Credit) → IsTheOne credits
the_one credits =
    record {
      divides = record { divided = divides-fold [] credits tt; whole = whole-fold [] credits };
      only = λ runs h. division-only runs h.divided ∙ ap (λ (cs : List Credit). division cs) h.whole;
    }
