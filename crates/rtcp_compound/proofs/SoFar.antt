-- Bytes that were cut into packets of RTCP up to a place.
use Rattle.std.proofs.Common.{◌≡◌, ℕ, ◌+◌, ◌-◌, ◌<◌, Bool, true, false, List, [], ◌∷◌, ◌++◌, length, take, drop, map, filter, if◌then◌else◌, All, refl, ap, sym, subst, ◌∙◌, arith, append_assoc, length-append}
use Rattle.std.proofs.lemmas.List.{map-append, append-nil}
use Rattle.std.proofs.lemmas.List.Elements.{All-nil, All-push, filter-append}
use Rattle.std.proofs.lemmas.Grind.{flat_map-append}
use Rattle.std.proofs.Math.Seq.{drop-append_seam, take-append_seam}
use Rattle.rtcp_compound.specs.declared.cutting.Part.{Part}
use Rattle.rtcp_compound.specs.Compound.{IsPacket, joined, ArePackets, is_feedback, part_of, BeginsWithNone, FailsAt}

-- these parts were told of the packets in front of the rest
pub record IsSoFar (bytes : List ℕ) (parts : List Part) (rest : List ℕ) : Type 0 where
  pub packets : List (List ℕ)
  pub each : All IsPacket packets
  pub front : bytes ≡ joined packets ++ rest
  pub told : map (part_of bytes) parts ≡ filter is_feedback packets

pub none_yet : (bytes : List ℕ) → IsSoFar bytes [] bytes
none_yet bytes = record { packets = []; each = All-nil IsPacket; front = refl; told = refl }

joined-push : (packets : List (List ℕ)) (packet : List ℕ) → joined (packets ++ packet ∷ []) ≡ joined packets ++ packet
joined-push packets packet =
    flat_map-append (λ (p : List ℕ). p) packets (packet ∷ []) ∙ ap (λ (xs : List ℕ). joined packets ++ xs) (append-nil packet)

front-push : (bytes rest packet behind : List ℕ) (packets : List (List ℕ)) → bytes ≡ joined packets ++ rest → rest ≡ packet ++ behind
    → bytes ≡ joined (packets ++ packet ∷ []) ++ behind
front-push bytes rest packet behind packets front cut =
    front ∙ ap (λ (xs : List ℕ). joined packets ++ xs) cut ∙ sym (append_assoc (joined packets) packet behind)
    ∙ ap (λ (xs : List ℕ). xs ++ behind) (sym (joined-push packets packet))

filter-one : (packet : List ℕ) (b : Bool) → is_feedback packet ≡ b → filter is_feedback (packet ∷ []) ≡ (if b then packet ∷ [] else [])
filter-one packet true is = rw is refl
filter-one packet false is = rw is refl

-- one packet more, which is none of feedback
pub passed_over : (bytes rest packet behind : List ℕ) (parts : List Part) → IsSoFar bytes parts rest → rest ≡ packet ++ behind → IsPacket packet
    → is_feedback packet ≡ false → IsSoFar bytes parts behind
passed_over bytes rest packet behind parts s cut is other = record {
  packets = s.packets ++ packet ∷ [];
  each = All-push IsPacket s.packets packet s.each is;
  front = front-push bytes rest packet behind s.packets s.front cut;
  told = s.told ∙ sym (filter-append is_feedback s.packets (packet ∷ []) ∙ ap (λ (xs : List (List ℕ)). filter is_feedback s.packets ++ xs) (filter-one packet false other) ∙ append-nil (filter is_feedback s.packets));
}

-- where it stands
place : (bytes rest : List ℕ) (packets : List (List ℕ)) (start : ℕ) → bytes ≡ joined packets ++ rest → start ≡ length bytes - length rest → start ≡ length (joined packets)
place bytes rest packets start front is =
    let n : length bytes ≡ length (joined packets) + length rest = ap length front ∙ length-append (joined packets) rest in
    omega arith

part-here : (bytes rest packet behind : List ℕ) (packets : List (List ℕ)) (start len : ℕ) → bytes ≡ joined packets ++ rest → rest ≡ packet ++ behind
    → start ≡ length (joined packets) → len ≡ length packet → take len (drop start bytes) ≡ packet
part-here bytes rest packet behind packets start len front cut at size =
    ap (λ (xs : List ℕ). take len (drop start xs)) front
    ∙ ap (λ (n : ℕ). take len (drop n (joined packets ++ rest))) at
    ∙ ap (take len) (drop-append_seam (joined packets) rest ∙ cut)
    ∙ ap (λ (n : ℕ). take n (packet ++ behind)) size
    ∙ take-append_seam packet behind

-- one packet of feedback more
pub found : (bytes rest packet behind : List ℕ) (parts : List Part) (start len : ℕ) → IsSoFar bytes parts rest → rest ≡ packet ++ behind → IsPacket packet
    → is_feedback packet ≡ true → start ≡ length bytes - length rest → len ≡ length packet
    → IsSoFar bytes (parts ++ record { start = start; len = len } ∷ []) behind
found bytes rest packet behind parts start len s cut is here at size =
    let spot : start ≡ length (joined s.packets) = place bytes rest s.packets start s.front at in
    record {
      packets = s.packets ++ packet ∷ [];
      each = All-push IsPacket s.packets packet s.each is;
      front = front-push bytes rest packet behind s.packets s.front cut;
      told = map-append (part_of bytes) parts (record { start = start; len = len } ∷ [])
          ∙ ap (λ (xs : List (List ℕ)). xs ++ take len (drop start bytes) ∷ []) s.told
          ∙ ap (λ (x : List ℕ). filter is_feedback s.packets ++ x ∷ []) (part-here bytes rest packet behind s.packets start len s.front cut spot size)
          ∙ sym (filter-append is_feedback s.packets (packet ∷ []) ∙ ap (λ (xs : List (List ℕ)). filter is_feedback s.packets ++ xs) (filter-one packet true here));
    }

-- nothing is left
pub whole : (bytes rest : List ℕ) (parts : List Part) → IsSoFar bytes parts rest → rest ≡ []
    → (packets : List (List ℕ)) × ArePackets packets bytes × (map (part_of bytes) parts ≡ filter is_feedback packets)
whole bytes rest parts s none = (
  s.packets,
  record { each = s.each; whole = sym (s.front ∙ ap (λ (xs : List ℕ). joined s.packets ++ xs) none ∙ append-nil (joined s.packets)) },
  s.told,
)

-- what is left begins with no packet
pub stopped : (bytes rest : List ℕ) (parts : List Part) (start : ℕ) → IsSoFar bytes parts rest → start ≡ length bytes - length rest → 0 < length rest
    → BeginsWithNone rest → FailsAt bytes start
stopped bytes rest parts start s at some none =
    let spot : start ≡ length (joined s.packets) = place bytes rest s.packets start s.front at in
    let n : length bytes ≡ length (joined s.packets) + length rest = ap length s.front ∙ length-append (joined s.packets) rest in
    let behind : drop start bytes ≡ rest =
    ap (drop start) s.front ∙ ap (λ (k : ℕ). drop k (joined s.packets ++ rest)) spot ∙ drop-append_seam (joined s.packets) rest in
    record {
      packets = s.packets;
      each = s.each;
      place_is = spot;
      front = s.front ∙ ap (λ (xs : List ℕ). joined s.packets ++ xs) (sym behind);
      some = omega arith;
      none = subst BeginsWithNone (sym behind) none;
    }
