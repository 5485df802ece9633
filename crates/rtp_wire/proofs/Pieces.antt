-- Packets one behind the other: one more at the end, and the one at a place.
use Rattle.std.proofs.Common.{◌≡◌, ℕ, zero, suc, ◌+◌, ◌-◌, ◌<◌, ◌≤◌, List, [], ◌∷◌, ◌++◌, length, take, drop, get_or, Some, refl, ap, ◌∙◌, arith, length-append, length-drop}
use Rattle.std.proofs.lemmas.List.{take-append-le, drop-append-le}
use Rattle.std.proofs.Math.Seq.{drop-append_seam, take-length}
use Rattle.std.specs.List.{slice_get}
use Rattle.rtp_wire.specs.Cutting.{pieces, AreEnds}
use Rattle.rtp_wire.specs.Starts.{start_at}
use Rattle.rtp_wire.specs.Wires.{Wires}

pub length-pieces : (start : ℕ) (ends bytes : List ℕ) → length (pieces start ends bytes) ≡ length ends
length-pieces start [] bytes = refl
length-pieces start (end ∷ ends) bytes = ap suc (length-pieces end ends bytes)

-- no end is past the end of all
pub start_fits : (start : ℕ) (ends : List ℕ) (total : ℕ) → AreEnds start ends total → start ≤ total
start_fits start [] total h = omega (arith, h)
start_fits start (end ∷ ends) total h = omega (arith, h.0, start_fits end ends total h.1)

pub AreEnds-push : (start : ℕ) (ends : List ℕ) (total end : ℕ) → AreEnds start ends total → total ≤ end → AreEnds start (ends ++ end ∷ []) end
AreEnds-push start [] total end h more = (omega (arith, h), refl)
AreEnds-push start (e ∷ ends) total end h more = (h.0, AreEnds-push e ends total end h.1 more)

-- a part is the same in front of more bytes
pub part_before : (start len : ℕ) (bytes more : List ℕ) → start + len ≤ length bytes
    → take len (drop start (bytes ++ more)) ≡ take len (drop start bytes)
part_before start len bytes more fits =
    let inside : start ≤ length bytes = omega arith in
    let rest : len ≤ length (drop start bytes) = omega (arith, length-drop start bytes) in
    ap (take len) (drop-append-le start bytes more inside) ∙ take-append-le len (drop start bytes) more rest

-- what is put at the end is the last part
pub part_at_end : (bytes more : List ℕ) (end : ℕ) → end ≡ length bytes + length more
    → take (end - length bytes) (drop (length bytes) (bytes ++ more)) ≡ more
part_at_end bytes more end e =
    let n : end - length bytes ≡ length more = omega arith in
    ap (take (end - length bytes)) (drop-append_seam bytes more) ∙ ap (λ k. take k more) n ∙ take-length more

pub pieces-push : (start : ℕ) (ends bytes more : List ℕ) (end : ℕ) → AreEnds start ends (length bytes) → end ≡ length bytes + length more
    → pieces start (ends ++ end ∷ []) (bytes ++ more) ≡ pieces start ends bytes ++ more ∷ []
pieces-push start [] bytes more end h e =
    ap (λ (xs : List ℕ). xs ∷ []) (ap (λ s. take (end - s) (drop s (bytes ++ more))) h ∙ part_at_end bytes more end e)
pieces-push start (first ∷ ends) bytes more end h e =
    let fits : start + (first - start) ≤ length bytes = omega (arith, h.0, start_fits first ends (length bytes) h.1) in
    ap (λ (xs : List ℕ). xs ∷ pieces first (ends ++ end ∷ []) (bytes ++ more)) (part_before start (first - start) bytes more fits)
    ∙ ap (λ (ws : List (List ℕ)). take (first - start) (drop start bytes) ∷ ws) (pieces-push first ends bytes more end h.1 e)

pub slice_get-pieces : (start : ℕ) (ends bytes : List ℕ) (k : ℕ) → k < length ends
    → slice_get (pieces start ends bytes) k ≡ Some (take (get_or ends k 0 - start_at start ends k) (drop (start_at start ends k) bytes))
slice_get-pieces start [] bytes k h = absurd (omega arith)
slice_get-pieces start (end ∷ ends) bytes zero h = refl
slice_get-pieces start (end ∷ ends) bytes (suc zero) h = slice_get-pieces end ends bytes zero (omega arith)
slice_get-pieces start (end ∷ ends) bytes (suc (suc k)) h = slice_get-pieces end ends bytes (suc k) (omega arith)

-- its ends lie in order within the bytes
pub in_order : (start : ℕ) (ends : List ℕ) (total k : ℕ) → AreEnds start ends total → k < length ends
    → (start_at start ends k ≤ get_or ends k 0) × (get_or ends k 0 ≤ total)
in_order start [] total k h lt = absurd (omega arith)
in_order start (end ∷ ends) total zero h lt = (h.0, start_fits end ends total h.1)
in_order start (end ∷ ends) total (suc zero) h lt = in_order end ends total zero h.1 (omega arith)
in_order start (end ∷ ends) total (suc (suc k)) h lt = in_order end ends total (suc k) h.1 (omega arith)

-- a packet more, and its end
pub pushed_ends : (ends bytes more ends' bytes' : List ℕ) → AreEnds 0 ends (length bytes) → bytes' ≡ bytes ++ more
    → ends' ≡ ends ++ length bytes' ∷ [] → AreEnds 0 ends' (length bytes')
pushed_ends ends bytes more ends' bytes' h eb ee =
    let longer : length bytes ≤ length bytes' = omega (arith, ap length eb, length-append bytes more) in
    rw ee (AreEnds-push 0 ends (length bytes) (length bytes') h longer)

pub pushed_pieces : (ends bytes more ends' bytes' : List ℕ) (room byte_room : ℕ) → AreEnds 0 ends (length bytes) → bytes' ≡ bytes ++ more
    → ends' ≡ ends ++ length bytes' ∷ []
    → (let w : Wires = record { items = pieces 0 ends' bytes'; room = room; byte_room = byte_room } in w)
    ≡ record { items = pieces 0 ends bytes ++ more ∷ []; room = room; byte_room = byte_room }
pushed_pieces ends bytes more ends' bytes' room byte_room h eb ee =
    let e : length bytes' ≡ length bytes + length more = ap length eb ∙ length-append bytes more in
    let same : pieces 0 ends' bytes' ≡ pieces 0 ends bytes ++ more ∷ [] =
    ap (λ (es : List ℕ). pieces 0 es bytes') ee ∙ ap (λ (bs : List ℕ). pieces 0 (ends ++ length bytes' ∷ []) bs) eb
    ∙ pieces-push 0 ends bytes more (length bytes') h e in
    ap (λ (ws : List (List ℕ)). let w : Wires = record { items = ws; room = room; byte_room = byte_room } in w) same

pub start_at-suc : (start : ℕ) (ends : List ℕ) (k : ℕ) → 0 < k → start_at start ends k ≡ get_or ends (k - 1) 0
start_at-suc start ends zero some = absurd (omega arith)
start_at-suc start ends (suc k) some = let e : k ≡ suc k - 1 = omega arith in ap (λ i. get_or ends i 0) e
