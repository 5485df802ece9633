-- The number behind a packet that a receiver takes, and reports that have a spelling.
use Rattle.std.proofs.Common.{◌≡◌, refl, ℕ, ◌+◌, List, [], ◌∷◌, ◌++◌, All, map}
use Rattle.std.proofs.lemmas.List.Elements.{All-nil, All-cons, All-head, All-tail}
use Rattle.twcc_report.specs.declared.report.Report.{Report}
use Rattle.twcc_report.specs.Spelling.{view}
use Rattle.link_path.specs.declared.link.Arrival.{Arrival}
use Rattle.link_path.specs.Receiver.{IsWritable, next_from}
use Rattle.live_loop.specs.Hearings.{HasSpelling}

pub next-push : (from : ℕ) (xs : List Arrival) (a : Arrival) → next_from from (xs ++ a ∷ []) ≡ a.number + 1
next-push from [] a = refl
next-push from (b ∷ later) a = next-push (b.number + 1) later a

pub have-spellings : (rs : List Report) → All IsWritable (map view rs) → All HasSpelling rs
have-spellings [] all = All-nil HasSpelling
have-spellings (r ∷ rs) all = All-cons HasSpelling r rs (All-head IsWritable (view r) (map view rs) all) (have-spellings rs (All-tail IsWritable (view r) (map view rs) all))
