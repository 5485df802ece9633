-- Bytes are cut at their line feeds in one way.
use Rattle.std.proofs.Common.{◌≡◌, ℕ, Bool, true, false, cond, List, [], ◌∷◌, ◌++◌, refl, sym, ap, ◌∙◌, append_assoc}
use Rattle.std.specs.Prelude.{◌≢◌}
use Rattle.std.specs.List.{flat_map, All, AllByRecursion}
use Rattle.std.proofs.lemmas.Bool.{eqb-true, eqb-false, ne_eqb}
use Rattle.std.proofs.lemmas.List.Elements.{All-from_recursion, recursion_from_All}
use Rattle.call_trace.specs.Fields.{is_feed, Cut, begun, lines_of, fed, IsCut}
use Rattle.call_trace.proofs.Lines.{Lacks, line_first, no_line}

-- ---- the bytes joined again

joined_begun : (b : ℕ) (lines : List (List ℕ)) (rest : List ℕ) → b ∷ (flat_map fed lines ++ rest) ≡ flat_map fed (begun b lines rest).whole ++ (begun b lines rest).rest
joined_begun b [] rest = refl
joined_begun b (line ∷ lines) rest = refl

joined_cut : (b : ℕ) (feed : Bool) (cut : Cut) → is_feed b ≡ feed
    → b ∷ (flat_map fed cut.whole ++ cut.rest)
    ≡ flat_map fed (cond feed (record { whole = [] ∷ cut.whole; rest = cut.rest }) (begun b cut.whole cut.rest)).whole ++ (cond feed (record { whole = [] ∷ cut.whole; rest = cut.rest }) (begun b cut.whole cut.rest)).rest
joined_cut b true cut is = ap (λ (x : ℕ). x ∷ (flat_map fed cut.whole ++ cut.rest)) (eqb-true b 10 is)
joined_cut b false cut is = joined_begun b cut.whole cut.rest

-- the lines with their line feeds, and the rest, are the bytes
pub lines_join : (bytes : List ℕ) → bytes ≡ flat_map fed (lines_of bytes).whole ++ (lines_of bytes).rest
unfolding lines_of
lines_join [] = refl
lines_join (b ∷ bytes) = ap (λ (t : List ℕ). b ∷ t) (lines_join bytes) ∙ joined_cut b (is_feed b) (lines_of bytes) refl

-- ---- no line feed in a line

abbrev AreFeedless : List (List ℕ) → Type 0
AreFeedless lines = AllByRecursion (λ line. All (λ b. b ≢ 10) line) lines

pub All-from_Lacks : (xs : List ℕ) → Lacks 10 xs → AllByRecursion (λ b. b ≢ 10) xs
All-from_Lacks [] lacks = tt
All-from_Lacks (x ∷ xs) lacks = (eqb-false x 10 lacks.0, All-from_Lacks xs lacks.1)

pub Lacks-from_All : (xs : List ℕ) → AllByRecursion (λ b. b ≢ 10) xs → Lacks 10 xs
Lacks-from_All [] all = tt
Lacks-from_All (x ∷ xs) all = (ne_eqb x 10 all.0, Lacks-from_All xs all.1)

-- each line and the rest lack a line feed
abbrev LackFeeds : Cut → Type 0
LackFeeds cut = AllByRecursion (λ line. Lacks 10 line) cut.whole × Lacks 10 cut.rest

begun_lacks : (b : ℕ) (lines : List (List ℕ)) (rest : List ℕ) → is_feed b ≡ false → LackFeeds (record { whole = lines; rest = rest }) → LackFeeds (begun b lines rest)
begun_lacks b [] rest other lacks = (tt, (other, lacks.1))
begun_lacks b (line ∷ lines) rest other lacks = (((other, lacks.0.0), lacks.0.1), lacks.1)

cut_lacks : (b : ℕ) (feed : Bool) (cut : Cut) → is_feed b ≡ feed → LackFeeds cut → LackFeeds (cond feed (record { whole = [] ∷ cut.whole; rest = cut.rest }) (begun b cut.whole cut.rest))
cut_lacks b true cut is lacks = ((tt, lacks.0), lacks.1)
cut_lacks b false cut is lacks = begun_lacks b cut.whole cut.rest is lacks

lines_lack : (bytes : List ℕ) → LackFeeds (lines_of bytes)
unfolding lines_of
lines_lack [] = (tt, tt)
lines_lack (b ∷ bytes) = cut_lacks b (is_feed b) (lines_of bytes) refl (lines_lack bytes)

feedless : (lines : List (List ℕ)) → AllByRecursion (λ line. Lacks 10 line) lines → AreFeedless lines
feedless [] all = tt
feedless (line ∷ lines) all = (All-from_recursion (λ b. b ≢ 10) line (All-from_Lacks line all.0), feedless lines all.1)

pub lines_cut : (bytes : List ℕ) → IsCut bytes (lines_of bytes)
lines_cut bytes =
    let lacks = lines_lack bytes in
    record {
      joined = lines_join bytes;
      whole = All-from_recursion (λ line. All (λ b. b ≢ 10) line) (lines_of bytes).whole (feedless (lines_of bytes).whole lacks.0);
      rest = All-from_recursion (λ b. b ≢ 10) (lines_of bytes).rest (All-from_Lacks (lines_of bytes).rest lacks.1);
    }

cut_back : (lines : List (List ℕ)) (rest : List ℕ) → AreFeedless lines → Lacks 10 rest → lines_of (flat_map fed lines ++ rest) ≡ record { whole = lines; rest = rest }
cut_back [] rest all lacks = no_line rest lacks
cut_back (line ∷ lines) rest all lacks =
    ap lines_of (append_assoc (fed line) (flat_map fed lines) rest ∙ append_assoc line (10 ∷ []) (flat_map fed lines ++ rest))
    ∙ line_first line (flat_map fed lines ++ rest) (Lacks-from_All line (recursion_from_All (λ b. b ≢ 10) line all.0))
    ∙ rw (cut_back lines rest all.1 lacks) refl

pub lines_one : (bytes : List ℕ) (cut : Cut) → IsCut bytes cut → cut ≡ lines_of bytes
lines_one bytes cut is =
    let whole = recursion_from_All (λ line. All (λ b. b ≢ 10) line) cut.whole is.whole in
    let rest = Lacks-from_All cut.rest (recursion_from_All (λ b. b ≢ 10) cut.rest is.rest) in
    sym (ap lines_of is.joined ∙ cut_back cut.whole cut.rest whole rest)
