-- The canonical spelling is one.
use Rattle.std.proofs.Common.{◌≡◌, ℕ, zero, suc, ◌+◌, ◌-◌, ◌*◌, ◌/◌, ◌%◌, ◌<◌, ◌≤◌, ◌==◌, true, false, min, inl, inr, List, [], ◌∷◌, ◌++◌, length, take, drop, map, replicate, Ok, refl, sym, ap, subst, ◌∙◌, arith, append_assoc, append-nil, w16, length-append, length-drop}
use Rattle.std.specs.List.{flat_map}
use Rattle.std.specs.Int.{to_be_bytes}
use Rattle.std.proofs.lemmas.Bool.{eqb-true}
use Rattle.std.proofs.lemmas.List.{length-map, length-replicate, take-append-drop, drop_min}
use Rattle.std.proofs.lemmas.List.FromFn.{length-map-range_with_len}
use Rattle.twcc_report.specs.declared.report.Status.{Status}
use Rattle.twcc_report.specs.declared.report.Status.TheVariants.{NotReceived, Small, Large}
use Rattle.twcc_report.specs.Chunks.{symbol_count, symbol_at, symbols_of, chunk_bytes, AreChunks}
use Rattle.twcc_report.specs.Spelling.{Feedback, Fits, Spells, symbol, delta, header}
use Rattle.twcc_report.specs.Reading.{read_of}
use Rattle.twcc_report.specs.Canonical.{next_chunk, chunks_behind, chunks_for, body, canonical}
use Rattle.twcc_report.proofs.Chunking.{take_both}
use Rattle.twcc_report.proofs.Chosen.{AreSymbols, IsNext, chosen}
use Rattle.twcc_report.proofs.Outcomes.{spelled_is_read}

-- ---- the chunks one by one

behind_none : (symbols : List ℕ) (n : ℕ) → chunks_behind n symbols ≡ chunks_for (drop n symbols)
unfolding chunks_behind
behind_none [] zero = refl
behind_none [] (suc n) = refl
behind_none (s ∷ symbols) zero = refl
behind_none (s ∷ symbols) (suc n) = behind_none symbols n

one_less : (n s : ℕ) (symbols : List ℕ) → 1 ≤ n → drop (n - 1) symbols ≡ drop n (s ∷ symbols)
one_less zero s symbols some = absurd (omega arith)
one_less (suc n) s symbols some = let e : suc n - 1 ≡ n = omega arith in ap (λ k. drop k symbols) e

pub all_drop : (n : ℕ) (symbols : List ℕ) → AreSymbols symbols → AreSymbols (drop n symbols)
all_drop zero symbols all = all
all_drop (suc n) [] all = tt
all_drop (suc n) (s ∷ symbols) all = all_drop n symbols all.1

pub chunks_for-none : chunks_for [] ≡ []
unfolding chunks_behind
chunks_for-none = refl

pub chunks_for-next : (symbols : List ℕ) → 0 < length symbols → AreSymbols symbols
    → chunks_for symbols ≡ next_chunk symbols ∷ chunks_for (drop (symbol_count (next_chunk symbols)) symbols)
unfolding chunks_behind
chunks_for-next [] some all = absurd (omega arith)
chunks_for-next (s ∷ symbols) some all =
    let n : ℕ = symbol_count (next_chunk (s ∷ symbols)) in
    let next = chosen (s ∷ symbols) some all in
    ap (λ (ws : List ℕ). next_chunk (s ∷ symbols) ∷ ws) (behind_none symbols (n - 1) ∙ ap chunks_for (one_less n s symbols next.some))

-- ---- the chunks together

pub record AreFor (symbols chunks : List ℕ) : Type 0 where
  pub are_chunks : AreChunks (length symbols) chunks
  pub says : take (length symbols) (flat_map symbols_of chunks) ≡ symbols
  pub few : 7 * length chunks ≤ length symbols + 6

length-symbols_of : (word : ℕ) → length (symbols_of word) ≡ symbol_count word
unfolding symbols_of
length-symbols_of word = length-map-range_with_len (symbol_at word) 0 (symbol_count word)

are_for_none : AreFor [] []
are_for_none = record { are_chunks = record { fit = tt; enough = omega arith; no_more = λ k lt. absurd (omega arith) }; says = refl; few = omega arith }

no_more_with : (count n w : ℕ) (ws : List ℕ) → 0 < count → n ≡ length (symbols_of w)
    → ((k : ℕ) → k < length ws → length (flat_map symbols_of (take k ws)) < count - n)
    → (k : ℕ) → k < length (w ∷ ws) → length (flat_map symbols_of (take k (w ∷ ws))) < count
no_more_with count n w ws some e h zero lt = omega arith
no_more_with count n w ws some e h (suc k) lt = omega (arith, e, h k (omega arith), length-append (symbols_of w) (flat_map symbols_of (take k ws)))

one_more : (symbols : List ℕ) (w : ℕ) (ws : List ℕ) → 0 < length symbols → IsNext symbols w → AreFor (drop (symbol_count w) symbols) ws → AreFor symbols (w ∷ ws)
one_more symbols w ws some next others =
    let n : ℕ = symbol_count w in
    let len = length-symbols_of w in
    let left : length (drop n symbols) ≡ length symbols - n = length-drop n symbols in
    let all = length-append (symbols_of w) (flat_map symbols_of ws) in
    record {
      are_chunks = record {
        fit = (next.fits, others.are_chunks.fit);
        enough = omega (arith, len, left, all, others.are_chunks.enough);
        no_more = no_more_with (length symbols) n w ws some (sym len) (λ k lt. omega (arith, left, others.are_chunks.no_more k lt));
      };
      says = take_both (length symbols) (symbols_of w) (flat_map symbols_of ws)
          ∙ ap (λ k. take (length symbols) (symbols_of w) ++ take k (flat_map symbols_of ws)) (ap (λ m. length symbols - m) len ∙ sym left)
          ∙ ap (λ (xs : List ℕ). take (length symbols) (symbols_of w) ++ xs) others.says
          ∙ ap (λ (xs : List ℕ). xs ++ drop n symbols) next.says ∙ take-append-drop n symbols;
      few = elim next.many [
        | inl many ↦ omega (arith, left, many, others.few)
        | inr last ↦ omega (arith, left, last, others.few)
      ];
    }

are_for_up_to : (most : ℕ) (symbols : List ℕ) → length symbols ≤ most → AreSymbols symbols → AreFor symbols (chunks_for symbols)
are_for_up_to most [] le all = subst (AreFor []) (sym chunks_for-none) are_for_none
are_for_up_to zero (s ∷ symbols) le all = absurd (omega arith)
are_for_up_to (suc most) (s ∷ symbols) le all =
    let w : ℕ = next_chunk (s ∷ symbols) in
    let some : 0 < length (s ∷ symbols) = omega arith in
    let next : IsNext (s ∷ symbols) w = chosen (s ∷ symbols) some all in
    let left : List ℕ = drop (symbol_count w) (s ∷ symbols) in
    let shorter : length left ≤ most = omega (arith, length-drop (symbol_count w) (s ∷ symbols), next.some) in
    subst (AreFor (s ∷ symbols)) (sym (chunks_for-next (s ∷ symbols) some all))
    (one_more (s ∷ symbols) w (chunks_for left) some next (are_for_up_to most left shorter (all_drop (symbol_count w) (s ∷ symbols) all)))

pub are_for : (symbols : List ℕ) → AreSymbols symbols → AreFor symbols (chunks_for symbols)
are_for symbols all = are_for_up_to (length symbols) symbols (omega arith) all

-- ---- the bytes

pub statuses_symbols : (statuses : List Status) → AreSymbols (map symbol statuses)
statuses_symbols [] = tt
statuses_symbols (NotReceived ∷ statuses) = (omega arith, statuses_symbols statuses)
statuses_symbols (Small d ∷ statuses) = (omega arith, statuses_symbols statuses)
statuses_symbols (Large d ∷ statuses) = (omega arith, statuses_symbols statuses)

length-deltas : (statuses : List Status) → length (flat_map delta statuses) ≤ 2 * length statuses
length-deltas [] = omega arith
length-deltas (NotReceived ∷ statuses) = omega (arith, length-deltas statuses)
length-deltas (Small d ∷ statuses) = omega (arith, length-deltas statuses)
length-deltas (Large d ∷ statuses) = omega (arith, length-deltas statuses)

length-chunk_bytes : (chunks : List ℕ) → length (chunk_bytes chunks) ≡ 2 * length chunks
length-chunk_bytes [] = refl
length-chunk_bytes (w ∷ ws) = omega (arith, length-chunk_bytes ws)

-- the bytes are whole words, and the length field can tell how many
pub body-length : (f : Feedback) → length f.statuses < 65536 → (length (body f) ≤ 262124) × (length (body f) % 4 ≡ 0)
body-length f few =
    let symbols : List ℕ = map symbol f.statuses in
    let chunks : List ℕ = chunks_for symbols in
    let deltas : List ℕ = flat_map delta f.statuses in
    let start : ℕ = length (chunk_bytes chunks ++ deltas) in
    let both : start ≡ length (chunk_bytes chunks) + length deltas = length-append (chunk_bytes chunks) deltas in
    let n : length symbols ≡ length f.statuses = length-map f.statuses symbol in
    let are = are_for symbols (statuses_symbols f.statuses) in
    let short : start ≤ 200000 = omega (arith, few, both, n, are.few, length-chunk_bytes chunks, length-deltas f.statuses) in
    let zeros : List ℕ = replicate ((4 - start % 4) % 4) 0 in
    let rest : length zeros ≡ (4 - start % 4) % 4 = length-replicate {A = ℕ} ((4 - start % 4) % 4) 0 in
    let len : length (body f) ≡ start + (4 - start % 4) % 4 = length-append (chunk_bytes chunks ++ deltas) zeros ∙ ap (λ k. start + k) rest in
    (omega (arith, short, len), omega (arith, len))

pub length-canonical : (f : Feedback) → length (canonical f) ≡ 20 + length (body f)
length-canonical f = omega arith

pub canonical_spells : (f : Feedback) → length f.statuses < 65536 → Spells f (canonical f)
canonical_spells f few =
    let symbols : List ℕ = map symbol f.statuses in
    let chunks : List ℕ = chunks_for symbols in
    let deltas : List ℕ = flat_map delta f.statuses in
    let rest : List ℕ = replicate ((4 - length (chunk_bytes chunks ++ deltas) % 4) % 4) 0 in
    let n : length symbols ≡ length f.statuses = length-map f.statuses symbol in
    let are = are_for symbols (statuses_symbols f.statuses) in
    let len = length-canonical f in
    let bound = body-length f few in
    record {
      bit = 0;
      chunks = chunks;
      rest = rest;
      bit_fits = omega arith;
      parts = ap (λ k. header 0 (k / 4 - 1) f ++ body f) (sym len)
          ∙ ap (λ (xs : List ℕ). header 0 (length (canonical f) / 4 - 1) f ++ xs) (append_assoc (chunk_bytes chunks) deltas rest);
      whole = omega (arith, len, bound.1);
      short = omega (arith, len, bound.0);
      are_chunks = subst (λ k. AreChunks k chunks) n are.are_chunks;
      symbols = ap (λ k. take k (flat_map symbols_of chunks)) (sym n) ∙ are.says;
      ends = (λ _. omega (arith, length-replicate {A = ℕ} ((4 - length (chunk_bytes chunks ++ deltas) % 4) % 4) 0), λ set. absurd (omega (arith, set)));
    }

pub canonical_is_read : (f : Feedback) → Fits f → read_of (canonical f) ≡ Ok f
canonical_is_read f fits = spelled_is_read (canonical f) f fits (canonical_spells f fits.few)

-- ---- the loop that puts the chunks

pub some_of : (symbols : List ℕ) → (length symbols == 0) ≡ false → 0 < length symbols
some_of [] h = absurd (cc h)
some_of (s ∷ symbols) h = omega arith

-- what is left behind a chunk
pub record IsBehind (rest : List ℕ) (word : ℕ) (left : List ℕ) : Type 0 where
  pub some : 0 < length rest
  pub symbols : AreSymbols rest
  pub chunk : word ≡ next_chunk rest
  pub left_is : left ≡ drop (min (symbol_count word) (length rest)) rest

behind_is : (rest : List ℕ) (word : ℕ) (left : List ℕ) → IsBehind rest word left → left ≡ drop (symbol_count (next_chunk rest)) rest
behind_is rest word left b = b.left_is ∙ drop_min (symbol_count word) rest ∙ ap (λ w. drop (symbol_count w) rest) b.chunk

pub behind_symbols : (rest : List ℕ) (word : ℕ) (left : List ℕ) → IsBehind rest word left → AreSymbols left
behind_symbols rest word left b = subst AreSymbols (sym (behind_is rest word left b)) (all_drop (symbol_count (next_chunk rest)) rest b.symbols)

pub behind_smaller : (rest : List ℕ) (word : ℕ) (left : List ℕ) → IsBehind rest word left → length left < length rest
behind_smaller rest word left b =
    let next = chosen rest b.some b.symbols in
    omega (arith, b.some, next.some, ap length (behind_is rest word left b), length-drop (symbol_count (next_chunk rest)) rest)

pub behind_bytes : (rest : List ℕ) (word : ℕ) (left bytes more put : List ℕ) → IsBehind rest word left → more ≡ bytes ++ put → put ≡ to_be_bytes w16 word
    → more ++ chunk_bytes (chunks_for left) ≡ bytes ++ chunk_bytes (chunks_for rest)
behind_bytes rest word left bytes more put b e is =
    let behind : List ℕ = chunk_bytes (chunks_for left) in
    ap (λ (xs : List ℕ). xs ++ behind) e ∙ append_assoc bytes put behind
    ∙ ap (λ (xs : List ℕ). bytes ++ (xs ++ behind)) (is ∙ ap (to_be_bytes w16) b.chunk)
    ∙ ap (λ (xs : List ℕ). bytes ++ (to_be_bytes w16 (next_chunk rest) ++ chunk_bytes (chunks_for xs))) (behind_is rest word left b)
    ∙ ap (λ (ws : List ℕ). bytes ++ chunk_bytes ws) (sym (chunks_for-next rest b.some b.symbols))

pub all_put : (rest bytes total : List ℕ) → (length rest == 0) ≡ true → bytes ++ chunk_bytes (chunks_for rest) ≡ total → bytes ≡ total
all_put [] bytes total h e = sym (append-nil bytes) ∙ ap (λ (ws : List ℕ). bytes ++ chunk_bytes ws) (sym chunks_for-none) ∙ e
all_put (s ∷ rest) bytes total h e = absurd (omega (arith, eqb-true (length (s ∷ rest)) 0 h))

-- ---- the pieces of the header

pub then : (old front bytes more put is : List ℕ) → bytes ≡ old ++ front → more ≡ bytes ++ put → put ≡ is → more ≡ old ++ (front ++ is)
then old front bytes more put is a b c = b ∙ ap (λ (xs : List ℕ). bytes ++ xs) c ∙ ap (λ (xs : List ℕ). xs ++ is) a ∙ append_assoc old front is

pub written : (f : Feedback) (n : ℕ) (start bytes put more : List ℕ) → n ≡ length (body f) → start ≡ [] → bytes ≡ start ++ header 0 ((20 + n) / 4 - 1) f
    → put ≡ body f → more ≡ bytes ++ put → more ≡ canonical f
written f n start bytes put more len none front is e =
    e ∙ ap (λ (xs : List ℕ). xs ++ put) (front ∙ ap (λ (xs : List ℕ). xs ++ header 0 ((20 + n) / 4 - 1) f) none)
    ∙ ap (λ (xs : List ℕ). header 0 ((20 + n) / 4 - 1) f ++ xs) is ∙ ap (λ k. header 0 ((20 + k) / 4 - 1) f ++ body f) len

-- ---- what a call that gives the canonical spelling tells

pub length_from : (f : Feedback) (bytes : List ℕ) → length f.statuses < 65536 → bytes ≡ canonical f → length bytes ≤ 262144
length_from f bytes few e =
    let bound = body-length f few in
    omega (arith, ap length e, length-canonical f, bound.0)
