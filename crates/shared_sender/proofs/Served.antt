-- A journal without its packets is the journal again.
use Rattle.std.proofs.Common.{◌≡◌, List, [], ◌∷◌, ◌++◌, refl, ap}
use Rattle.gcc_units.specs.Walk.{each_by}
use Rattle.send_core.specs.declared.call.Entry.{Entry}
use Rattle.shared_sender.specs.Served.{answered, answers_of, journal_of}

journal_from : (before xs : List Entry) → journal_of (each_by answered before xs) ≡ xs
journal_from before [] = refl
journal_from before (x ∷ xs) = ap (λ ys. x ∷ ys) (journal_from (before ++ x ∷ []) xs)

-- without the packets it is the journal again
pub journal_of-answers : (journal : List Entry) → journal_of (answers_of journal) ≡ journal
journal_of-answers journal = journal_from [] journal
