-- Numbers are divided into reports in one way.
use Rattle.std.proofs.Common.{◌≡◌, ℕ, ◌-◌, Bool, true, false, nat_lt, Option, Some, None, List, [], ◌∷◌, ◌++◌, fold, refl, sym, ◌∙◌, ap, subst, append-nil, append_assoc, arith}
use Rattle.std.proofs.lemmas.Bool.Decides.{nat_tests}
use Rattle.std.proofs.lemmas.List.Sums.{fold-append}
use Rattle.link_path.specs.declared.TheConstants.{GREATEST_DELTA}
use Rattle.link_path.specs.Division.{Run, Division, begins, placed, divided, runs_with, runs_of, numbers_in}
use Rattle.link_path.specs.OneDivision.{GoOn, IsRun, EndsBefore, IsDivision, IsTheOne}
use Rattle.link_path.proofs.Heard.{all-numbers}

none-far : (time : ℕ) → nat_lt GREATEST_DELTA (time - time) ≡ false
none-far time = grind (arith, nat_tests)

-- a number begins the first run as it goes on in an empty one
empty-goes-on : (there : Option ℕ) → begins [] there ≡ false
empty-goes-on None = refl
empty-goes-on (Some time) = none-far time

-- ---- a division of numbers is the one that is made

go-on : (ended : List Run) (run : Run) (more : List (Option ℕ)) → GoOn run more
    → fold placed (record { ended = ended; last = run }) more ≡ record { ended = ended; last = run ++ more }
go-on ended run [] goes = ap (λ (r : Run). record { ended = ended; last = r }) (sym (append-nil run))
go-on ended run (there ∷ more) goes =
    let e : begins run there ≡ false = goes.0 in
    let one : placed (record { ended = ended; last = run }) there ≡ record { ended = ended; last = run ++ there ∷ [] } = rw e refl in
    ap (λ (d : Division). fold placed d more) one ∙ go-on ended (run ++ there ∷ []) more goes.1
    ∙ ap (λ (r : Run). record { ended = ended; last = r }) (append_assoc run (there ∷ []) more)

abbrev runs_in : Division → List Run
runs_in d = runs_with d.ended d.last

first-run : (q : Run) (runs : List Run) → IsDivision (q ∷ runs) → IsRun q
first-run q [] d = d
first-run q (r ∷ runs) d = d.0

made-from : (ended : List Run) (run : Run) (runs : List Run) → IsDivision (run ∷ runs) → runs_in (fold placed (record { ended = ended; last = run }) (numbers_in runs)) ≡ ended ++ run ∷ runs
made-from ended [] [] is = absurd is
made-from ended (here ∷ run) [] is = refl
made-from ended run ([] ∷ runs) is = absurd is.1
made-from ended run ((there ∷ more) ∷ runs) is =
    let q : Run = there ∷ more in
    let e : begins run there ≡ true = is.1 in
    let one : placed (record { ended = ended; last = run }) there ≡ record { ended = ended ++ run ∷ []; last = there ∷ [] } = rw e refl in
    let walked : fold placed (record { ended = ended; last = run }) (numbers_in (q ∷ runs)) ≡ fold placed (record { ended = ended ++ run ∷ []; last = q }) (numbers_in runs) =
    ap (λ (d : Division). fold placed d (more ++ numbers_in runs)) one
    ∙ fold-append placed (record { ended = ended ++ run ∷ []; last = there ∷ [] }) more (numbers_in runs)
    ∙ ap (λ (d : Division). fold placed d (numbers_in runs)) (go-on (ended ++ run ∷ []) (there ∷ []) more (first-run q runs is.2)) in
    ap runs_in walked ∙ made-from (ended ++ run ∷ []) q runs is.2 ∙ append_assoc ended (run ∷ []) (q ∷ runs)

made-again : (runs : List Run) → IsDivision runs → runs_of (numbers_in runs) ≡ runs
made-again [] is = refl
made-again ([] ∷ runs) is = absurd (first-run [] runs is)
made-again ((there ∷ more) ∷ runs) is =
    let q : Run = there ∷ more in
    let e : begins [] there ≡ false = empty-goes-on there in
    let one : placed (record { ended = []; last = [] }) there ≡ record { ended = []; last = there ∷ [] } = rw e refl in
    let walked : divided (numbers_in (q ∷ runs)) ≡ fold placed (record { ended = []; last = q }) (numbers_in runs) =
    ap (λ (d : Division). fold placed d (more ++ numbers_in runs)) one
    ∙ fold-append placed (record { ended = []; last = there ∷ [] }) more (numbers_in runs)
    ∙ ap (λ (d : Division). fold placed d (numbers_in runs)) (go-on [] (there ∷ []) more (first-run q runs is)) in
    ap runs_in walked ∙ made-from [] q runs is

-- ---- what is made is a division

goes-push : (run : Run) (xs : List (Option ℕ)) (there : Option ℕ) → GoOn run xs → begins (run ++ xs) there ≡ false → GoOn run (xs ++ there ∷ [])
goes-push run [] there goes e = (subst (λ (r : Run). begins r there ≡ false) (append-nil run) e, tt)
goes-push run (x ∷ xs) there goes e = (goes.0, goes-push (run ++ x ∷ []) xs there goes.1 (subst (λ (r : Run). begins r there ≡ false) (sym (append_assoc run (x ∷ []) xs)) e))

run-push : (run : Run) (there : Option ℕ) → IsRun run → begins run there ≡ false → IsRun (run ++ there ∷ [])
run-push [] there is e = absurd is
run-push (here ∷ run) there is e = goes-push (here ∷ []) run there is e

ends-push : (before run : Run) (there : Option ℕ) → EndsBefore before run → EndsBefore before (run ++ there ∷ [])
ends-push before [] there is = absurd is
ends-push before (here ∷ run) there is = is

longer : (ended : List Run) (run : Run) (there : Option ℕ) → IsDivision (ended ++ run ∷ []) → begins run there ≡ false → IsDivision (ended ++ (run ++ there ∷ []) ∷ [])
longer [] run there is e = run-push run there is e
longer (a ∷ []) run there is e = (is.0, ends-push a run there is.1, run-push run there is.2 e)
longer (a ∷ b ∷ ended) run there is e = (is.0, is.1, longer (b ∷ ended) run there is.2 e)

one-run-more : (ended : List Run) (run : Run) (there : Option ℕ) → IsDivision (ended ++ run ∷ []) → begins run there ≡ true → IsDivision ((ended ++ run ∷ []) ++ (there ∷ []) ∷ [])
one-run-more [] run there is e = (is, e, tt)
one-run-more (a ∷ []) run there is e = (is.0, is.1, (is.2, e, tt))
one-run-more (a ∷ b ∷ ended) run there is e = (is.0, is.1, one-run-more (b ∷ ended) run there is.2 e)

begun-placed : (d : Division) (there : Option ℕ) (b : Bool) → begins d.last there ≡ b → IsDivision (d.ended ++ d.last ∷ []) → IsDivision ((placed d there).ended ++ (placed d there).last ∷ [])
begun-placed d there true e is = rw e (one-run-more d.ended d.last there is e)
begun-placed d there false e is = rw e (longer d.ended d.last there is e)

begun-all : (d : Division) (numbers : List (Option ℕ)) → IsDivision (d.ended ++ d.last ∷ []) → IsDivision ((fold placed d numbers).ended ++ (fold placed d numbers).last ∷ [])
begun-all d [] is = is
begun-all d (there ∷ numbers) is = begun-all (placed d there) numbers (begun-placed d there (begins d.last there) refl is)

last-run : (ended : List Run) (run : Run) → IsDivision (ended ++ run ∷ []) → IsRun run
last-run [] run is = is
last-run (a ∷ []) run is = is.2
last-run (a ∷ b ∷ ended) run is = last-run (b ∷ ended) run is.2

with-last : (ended : List Run) (run : Run) → IsDivision (ended ++ run ∷ []) → IsDivision (runs_with ended run)
with-last ended [] is = absurd (last-run ended [] is)
with-last ended (here ∷ run) is = is

made-divides : (numbers : List (Option ℕ)) → IsDivision (runs_of numbers)
made-divides [] = tt
made-divides (there ∷ numbers) =
    let e : begins [] there ≡ false = empty-goes-on there in
    let d : Division = record { ended = []; last = there ∷ [] } in
    let one : placed (record { ended = []; last = [] }) there ≡ d = rw e refl in
    let all : IsDivision (runs_in (fold placed d numbers)) = with-last (fold placed d numbers).ended (fold placed d numbers).last (begun-all d numbers tt) in
    subst (λ (x : Division). IsDivision (runs_in (fold placed x numbers))) (sym one) all

pub the-one : (numbers : List (Option ℕ)) → IsTheOne numbers
the-one numbers =
    record {
      divides = record { divided = made-divides numbers; whole = all-numbers numbers };
      only = λ runs d. sym (made-again runs d.divided) ∙ ap runs_of d.whole;
    }
