-- Packets of the media: those that are kept were accepted as such, and none is that is sent again.
use Rattle.std.proofs.Common.{◌≡◌, ℕ, ◌+◌, ◌%◌, ◌^◌, ◌<◌, ◌≤◌, ◌==◌, ◌&&◌, inl, inr, Bool, true, false, cond, nat_le, Option, None, Some, List, [], ◌∷◌, ◌++◌, length, length-take, map, take, drop, get_or, get_or-drop, slice_get, sum, All, Result, Ok, Err, refl, sym, ◌∙◌, ap, subst, arith, append_assoc, append-nil, length-append, ne_eqb, eq-eqb}
use Rattle.std.specs.Int.{w16, to_be_bytes}
use Rattle.std.specs.List.{flat_map}
use Rattle.std.proofs.lemmas.Bool.{cases_lt, cases_eq, lt-ltb, le-ltb}
use Rattle.std.proofs.lemmas.List.{get_or-take, get_or_append_left}
use Rattle.std.proofs.lemmas.List.Sums.{sum_by-append}
use Rattle.std.proofs.lemmas.List.Elements.{All-nil, All-cons, All-append, All-head, All-tail}
use Rattle.gcc_units.specs.Walk.{each_by}
use Rattle.rtp_wire.specs.declared.packet.WireFault.{WireFault}
use Rattle.rtp_wire.specs.Place.{field32, place_of}
use Rattle.rtp_wire.specs.Stamp.{stamped}
use Rattle.rtp_wire.proofs.ByChecks.{place_bounds}
use Rattle.pacer.specs.declared.sent.Sent.{Sent}
use Rattle.send_core.specs.History.{AcceptedPacket}
use Rattle.send_core.specs.Wires.{stamped_at, stamped_packet, wire_under, wire_of}
use Rattle.send_laws.specs.Reading.{IsRead}
use Rattle.nack_rtx.specs.declared.TheConstants.{MOST_KEPT_BYTES}
use Rattle.nack_rtx.specs.declared.resender.RtxSettings.{RtxSettings}
use Rattle.nack_rtx.specs.declared.resender.Resend.{Resend}
use Rattle.nack_rtx.specs.Packets.{resent_packet}
use Rattle.nack_rtx.specs.Resending.{Event, kept, Account, keeping, is_kept, account, stored, resend_of, verdict_on, verdict, after, left, verdicts, resend_in}
use Rattle.nack_rtx.proofs.Account.{IsStored, stored_is}
use Rattle.nack_rtx.proofs.Kept.{account-push}
use Rattle.resending.specs.Serving.{kept_as, kept_among}
use Rattle.resending.proofs.Distinct.{ones, tally, tally-append, holds, is_at, index_in, indices}

-- ---- the SSRC of a packet that is stamped

same_byte : (bytes : List ℕ) (place low i : ℕ) → place ≤ length bytes → i < place → get_or (stamped bytes place low) i 0 ≡ get_or bytes i 0
same_byte bytes place low i le lt =
    let len : i < length (take place bytes) = omega (arith, length-take place bytes, lt) in
    get_or_append_left (take place bytes) (to_be_bytes w16 low ++ drop (place + 2) bytes) 0 i len ∙ get_or-take place bytes i 0 lt

dropped_byte : (bytes : List ℕ) (place low i : ℕ) → place ≤ length bytes → 8 + i < place → get_or (drop 8 (stamped bytes place low)) i 0 ≡ get_or (drop 8 bytes) i 0
dropped_byte bytes place low i le lt = get_or-drop 8 (stamped bytes place low) i 0 ∙ (same_byte bytes place low (8 + i) le lt ∙ sym (get_or-drop 8 bytes i 0))

ssrc_stamped : (bytes : List ℕ) (place low : ℕ) → 12 ≤ place → place ≤ length bytes → field32 8 (stamped bytes place low) ≡ field32 8 bytes
ssrc_stamped bytes place low far inside =
    let a = dropped_byte bytes place low 0 inside (omega (arith, far)) in
    let b = dropped_byte bytes place low 1 inside (omega (arith, far)) in
    let c = dropped_byte bytes place low 2 inside (omega (arith, far)) in
    let d = dropped_byte bytes place low 3 inside (omega (arith, far)) in
    omega (arith, a, b, c, d)

-- ---- packets that are kept

abbrev pub is_media : RtxSettings → AcceptedPacket → Bool
is_media s p = field32 8 p.wire == s.media

abbrev pub IsLong : List ℕ → Type 0
IsLong wire = 12 ≤ length wire

first_of_two : (a b : Bool) → (a && b) ≡ true → a ≡ true
first_of_two true b e = refl
first_of_two false b e = absurd cc

stamped_media : (s : RtxSettings) (id low : ℕ) (wire : List ℕ) (r : Result ℕ WireFault) → place_of id wire ≡ r → 1 ≤ id → id ≤ 14
    → is_kept s (stamped_at wire low r) ≡ true → (field32 8 wire == s.media) ≡ true
stamped_media s id low wire (Ok place) is some few keep =
    let bounds = place_bounds id wire place some few is in
    let same = ssrc_stamped wire place low (omega (arith, bounds.0)) (omega (arith, bounds.1)) in
    ap (λ n. n == s.media) (sym same) ∙ first_of_two (field32 8 (stamped wire place low) == s.media) (nat_le (length (stamped wire place low)) MOST_KEPT_BYTES) keep
stamped_media s id low wire (Err fault) is some few keep = first_of_two (field32 8 wire == s.media) (nat_le (length wire) MOST_KEPT_BYTES) keep

pub read_long : (id : ℕ) (wire : List ℕ) → IsRead id wire → 1 ≤ id → id ≤ 14 → IsLong wire
read_long id wire read some few = let b = place_bounds id wire read.0 some few read.1 in omega (arith, b.0, b.1)

kept_media : (s : RtxSettings) (id low : ℕ) (o : Option AcceptedPacket) → IsRead id (stamped_packet id low o) → 1 ≤ id → id ≤ 14
    → is_kept s (stamped_packet id low o) ≡ true → holds (is_media s) o ≡ true
kept_media s id low None read some few keep = let long = read_long id [] read some few in absurd (omega (arith, long))
kept_media s id low (Some p) read some few keep = stamped_media s id low p.wire (place_of id p.wire) refl some few keep

-- ---- the account of packets that left

-- no more packets than so many, and no resend
pub record Grown (a b : Account) (n : ℕ) : Type 0 where
  pub packets : length b.packets ≤ length a.packets + n
  pub resent : sum b.resent ≡ sum a.resent
  pub long : All IsLong a.packets → All IsLong b.packets

pub grown_same : (a : Account) (n : ℕ) → Grown a a n
grown_same a n = record { packets = omega arith; resent = refl; long = λ all. all }

grown_more : (a b c : Account) (m n : ℕ) → Grown a b m → Grown b c n → Grown a c (m + n)
grown_more a b c m n one two = record { packets = omega (arith, one.packets, two.packets); resent = two.resent ∙ one.resent; long = λ all. two.long (one.long all) }

grown_keeping : (a : Account) (wire : List ℕ) (n : ℕ) → IsLong wire → 1 ≤ n → Grown a (keeping a wire) n
grown_keeping a wire n long some = record {
  packets = omega (arith, length-append a.packets (wire ∷ []), some);
  resent = omega (arith, sum_by-append (λ (k : ℕ). k) a.resent (0 ∷ []));
  long = λ all. All-append IsLong a.packets (wire ∷ []) all (All-cons IsLong wire [] long (All-nil IsLong));
}

grown_if : (a : Account) (wire : List ℕ) (b c : Bool) → IsLong wire → (b ≡ true → c ≡ true) → Grown a (cond b (keeping a wire) a) (ones c + 0)
grown_if a wire true c long so = let one : ones c ≡ 1 = ap ones (so refl) in grown_keeping a wire (ones c + 0) long (omega (arith, one))
grown_if a wire false c long so = grown_same a (ones c + 0)

grown_one : (s : RtxSettings) (events : List Event) (packets : List AcceptedPacket) (id low : ℕ) (o : Option ℕ) → 1 ≤ id → id ≤ 14 → IsRead id (wire_under id packets low o)
    → Grown (account s events) (account s (events ++ kept_as (wire_under id packets low o) o)) (tally (is_at (is_media s) packets) (index_in o))
grown_one s events packets id low None some few read = subst (λ es. Grown (account s events) (account s es) 0) (sym (append-nil events)) (grown_same (account s events) 0)
grown_one s events packets id low (Some k) some few read =
    let wire : List ℕ = stamped_packet id low (slice_get packets k) in
    subst (λ b. Grown (account s events) b (ones (is_at (is_media s) packets k) + 0)) (sym (account-push s events (kept wire)))
    (grown_if (account s events) wire (is_kept s wire) (is_at (is_media s) packets k) (read_long id wire read some few) (kept_media s id low (slice_get packets k) read some few))

pub grown_all : (s : RtxSettings) (events : List Event) (packets : List AcceptedPacket) (id : ℕ) (rs : List Sent) → 1 ≤ id → id ≤ 14 → All (IsRead id) (map (wire_of id packets) rs)
    → Grown (account s events) (account s (events ++ kept_among (map (wire_of id packets) rs) rs)) (tally (is_at (is_media s) packets) (indices rs))
grown_all s events packets id [] some few all = subst (λ es. Grown (account s events) (account s es) 0) (sym (append-nil events)) (grown_same (account s events) 0)
grown_all s events packets id (r ∷ rs) some few all =
    let f : ℕ → Bool = is_at (is_media s) packets in
    let wire : List ℕ = wire_of id packets r in
    let rest : List Event = kept_among (map (wire_of id packets) rs) rs in
    let one = grown_one s events packets id (r.number % 65536) r.index some few (All-head (IsRead id) wire (map (wire_of id packets) rs) all) in
    let more = grown_all s (events ++ kept_as wire r.index) packets id rs some few (All-tail (IsRead id) wire (map (wire_of id packets) rs) all) in
    subst (λ n. Grown (account s events) (account s (events ++ (kept_as wire r.index ++ rest))) n) (sym (tally-append f (index_in r.index) (indices rs)))
    (subst (λ es. Grown (account s events) (account s es) (tally f (index_in r.index) + tally f (indices rs))) (append_assoc events (kept_as wire r.index) rest)
    (grown_more (account s events) (account s (events ++ kept_as wire r.index)) (account s ((events ++ kept_as wire r.index) ++ rest)) (tally f (index_in r.index)) (tally f (indices rs)) one more))

-- ---- packets that are sent again

ssrc_resent : (payload seq ssrc : ℕ) (packet : List ℕ) → 12 ≤ length packet → ssrc < 2 ^ 32 → field32 8 (resent_packet payload seq ssrc packet) ≡ ssrc
ssrc_resent payload seq ssrc [] le small = absurd (omega (arith, le))
ssrc_resent payload seq ssrc (a ∷ []) le small = absurd (omega (arith, le))
ssrc_resent payload seq ssrc (a ∷ b ∷ []) le small = absurd (omega (arith, le))
ssrc_resent payload seq ssrc (a ∷ b ∷ c ∷ []) le small = absurd (omega (arith, le))
ssrc_resent payload seq ssrc (a ∷ b ∷ c ∷ d ∷ []) le small = absurd (omega (arith, le))
ssrc_resent payload seq ssrc (a ∷ b ∷ c ∷ d ∷ e ∷ []) le small = absurd (omega (arith, le))
ssrc_resent payload seq ssrc (a ∷ b ∷ c ∷ d ∷ e ∷ f ∷ []) le small = absurd (omega (arith, le))
ssrc_resent payload seq ssrc (a ∷ b ∷ c ∷ d ∷ e ∷ f ∷ g ∷ []) le small = absurd (omega (arith, le))
ssrc_resent payload seq ssrc (a ∷ b ∷ c ∷ d ∷ e ∷ f ∷ g ∷ h ∷ []) le small = absurd (omega (arith, le))
ssrc_resent payload seq ssrc (a ∷ b ∷ c ∷ d ∷ e ∷ f ∷ g ∷ h ∷ i ∷ []) le small = absurd (omega (arith, le))
ssrc_resent payload seq ssrc (a ∷ b ∷ c ∷ d ∷ e ∷ f ∷ g ∷ h ∷ i ∷ j ∷ []) le small = absurd (omega (arith, le))
ssrc_resent payload seq ssrc (a ∷ b ∷ c ∷ d ∷ e ∷ f ∷ g ∷ h ∷ i ∷ j ∷ k ∷ []) le small = absurd (omega (arith, le))
ssrc_resent payload seq ssrc (a ∷ b ∷ c ∷ d ∷ e ∷ f ∷ g ∷ h ∷ i ∷ j ∷ k ∷ l ∷ rest) le small = omega (arith, small)

abbrev pub IsOfRtx : RtxSettings → Resend → Type 0
IsOfRtx s r = field32 8 r.packet.items ≡ s.rtx

resends_on : (s : RtxSettings) (a : Account) (seq : ℕ) (o : Option ℕ) → s.rtx < 2 ^ 32 → All IsLong a.packets → IsStored (length a.packets) o
    → All (IsOfRtx s) (resend_in (verdict_on s a seq o))
resends_on s a seq None small long is = All-nil (IsOfRtx s)
resends_on s a seq (Some place) small long is = elim (cases_lt (get_or a.resent place 0) s.repeats) [
  | inl lt ↦
      rw (lt-ltb (get_or a.resent place 0) s.repeats lt)
      (All-cons (IsOfRtx s) (resend_of s a seq place) [] (ssrc_resent s.payload (sum a.resent % 65536) s.rtx (get_or a.packets place []) (long place [] is.0) small) (All-nil (IsOfRtx s)))
  | inr le ↦ rw (le-ltb (get_or a.resent place 0) s.repeats le) (All-nil (IsOfRtx s))
]

resends_of : (s : RtxSettings) (media : ℕ) (a : Account) (seq : ℕ) → s.rtx < 2 ^ 32 → All IsLong a.packets → All (IsOfRtx s) (resend_in (verdict s media a seq))
resends_of s media a seq small long = elim (cases_eq media s.media) [
  | inl same ↦ rw (eq-eqb media s.media same) (resends_on s a seq (stored a.packets seq) small long (stored_is a.packets seq))
  | inr other ↦ rw (ne_eqb media s.media other) (All-nil (IsOfRtx s))
]

packets_on : (s : RtxSettings) (a : Account) (seq : ℕ) (o : Option ℕ) → (after a (verdict_on s a seq o)).packets ≡ a.packets
packets_on s a seq None = refl
packets_on s a seq (Some place) = elim (cases_lt (get_or a.resent place 0) s.repeats) [
  | inl lt ↦ rw (lt-ltb (get_or a.resent place 0) s.repeats lt) refl
  | inr le ↦ rw (le-ltb (get_or a.resent place 0) s.repeats le) refl
]

same_packets : (s : RtxSettings) (media : ℕ) (a : Account) (seq : ℕ) → (after a (verdict s media a seq)).packets ≡ a.packets
same_packets s media a seq = elim (cases_eq media s.media) [
  | inl same ↦ rw (eq-eqb media s.media same) (packets_on s a seq (stored a.packets seq))
  | inr other ↦ rw (ne_eqb media s.media other) refl
]

pub left_packets : (s : RtxSettings) (media : ℕ) (a : Account) (seqs : List ℕ) → (left s media a seqs).packets ≡ a.packets
left_packets s media a [] = refl
left_packets s media a (seq ∷ seqs) = left_packets s media (after a (verdict s media a seq)) seqs ∙ same_packets s media a seq

resends_behind : (s : RtxSettings) (media : ℕ) (a : Account) (before seqs : List ℕ) → s.rtx < 2 ^ 32 → All IsLong a.packets
    → All (IsOfRtx s) (flat_map resend_in (each_by (λ xs seq. verdict s media (left s media a xs) seq) before seqs))
resends_behind s media a before [] small long = All-nil (IsOfRtx s)
resends_behind s media a before (seq ∷ seqs) small long =
    All-append (IsOfRtx s) (resend_in (verdict s media (left s media a before) seq)) (flat_map resend_in (each_by (λ xs k. verdict s media (left s media a xs) k) (before ++ seq ∷ []) seqs))
    (resends_of s media (left s media a before) seq small (subst (All IsLong) (sym (left_packets s media a before)) long))
    (resends_behind s media a (before ++ seq ∷ []) seqs small long)

pub resends_are_of_rtx : (s : RtxSettings) (media : ℕ) (a : Account) (seqs : List ℕ) → s.rtx < 2 ^ 32 → All IsLong a.packets
    → All (IsOfRtx s) (flat_map resend_in (verdicts s media a seqs))
resends_are_of_rtx s media a seqs small long = resends_behind s media a [] seqs small long
