-- Where an accepted packet stands, its entry is that of its enqueue.
use Rattle.std.proofs.Common.{◌≡◌, ℕ, suc, zero, ◌+◌, ◌-◌, ◌<◌, ◌≤◌, None, Some, List, [], ◌∷◌, ◌++◌, length, map, slice_get, refl, sym, ◌∙◌, ap, arith, length-append, append_assoc, ◌==◌, true, false}
use Rattle.std.proofs.lemmas.List.{append-nil, length-map}
use Rattle.send_core.specs.declared.call.Call.TheVariants.{Enqueue, Pace, Report, Configure}
use Rattle.send_core.specs.declared.call.Change.{Change}
use Rattle.send_core.specs.declared.call.Reply.{Reply}
use Rattle.send_core.specs.declared.call.Reply.TheVariants.{Accepted, Paced, Credited, Configured, Refused}
use Rattle.send_core.specs.declared.call.Entry.{Entry}
use Rattle.send_core.specs.History.{AcceptedPacket, accepted_by, accepted, wire_in}
use Rattle.send_core.specs.Places.{places_from}
use Rattle.send_core.proofs.Pushes.{accepted_by-few}
use Rattle.gcc_units.specs.declared.class.Class.{Class}
use Rattle.gcc_units.specs.Listed.{Listed}

pub places-push : (n : ℕ) (h : List Entry) (e : Entry)
    → places_from n (h ++ e ∷ []) ≡ places_from n h ++ map (λ (p : AcceptedPacket). n + length h) (accepted_by e.call e.reply)
places-push n [] e = let z : n + 0 ≡ n = omega arith in rw z (append-nil (map (λ (p : AcceptedPacket). n) (accepted_by e.call e.reply)))
places-push n (x ∷ xs) e =
    let z : n + suc (length xs) ≡ n + 1 + length xs = omega arith in
    rw z (ap (λ ys. map (λ (p : AcceptedPacket). n) (accepted_by x.call x.reply) ++ ys) (places-push (n + 1) xs e)
    ∙ sym (append_assoc (map (λ (p : AcceptedPacket). n) (accepted_by x.call x.reply)) (places_from (n + 1) xs) (map (λ (p : AcceptedPacket). n + 1 + length xs) (accepted_by e.call e.reply))))

pub record IsFound (h : List Entry) (n k place : ℕ) : Type 0 where
  pub e : Entry
  pub packet : AcceptedPacket
  pub late : n ≤ place
  pub stands : slice_get h (place - n) ≡ Some e
  pub accepts : accepted_by e.call e.reply ≡ packet ∷ []
  pub is_packet : slice_get (accepted h) k ≡ Some packet

-- behind an entry, or at it
found_behind : (e : Entry) (es : List Entry) (n k j place : ℕ) → slice_get (accepted (e ∷ es)) k ≡ slice_get (accepted es) j
    → IsFound es (n + 1) j place → IsFound (e ∷ es) n k place
found_behind e es n k j place same f =
    let late : n + 1 ≤ place = f.late in
    let back : place - n ≡ suc (place - (n + 1)) = omega arith in
    record {
      e = f.e;
      packet = f.packet;
      late = omega arith;
      stands = rw back f.stands;
      accepts = f.accepts;
      is_packet = same ∙ f.is_packet;
    }

found_here : (e : Entry) (es : List Entry) (n k place : ℕ) (ps : List AcceptedPacket) → accepted_by e.call e.reply ≡ ps → length ps ≤ 1
    → slice_get (map (λ (p : AcceptedPacket). n) ps ++ places_from (n + 1) es) k ≡ Some place
    → ((j : ℕ) → slice_get (places_from (n + 1) es) j ≡ Some place → IsFound es (n + 1) j place)
    → IsFound (e ∷ es) n k place
found_here e es n k place [] accepts few is more =
    found_behind e es n k k place (ap (λ ps. slice_get (ps ++ accepted es) k) accepts) (more k is)
found_here e es n zero place (p ∷ []) accepts few is more =
    let same : n ≡ place = cc in
    let none : place - n ≡ 0 = omega arith in
    record {
      e = e;
      packet = p;
      late = omega arith;
      stands = rw none refl;
      accepts = accepts;
      is_packet = ap (λ ps. slice_get (ps ++ accepted es) 0) accepts;
    }
found_here e es n (suc k) place (p ∷ []) accepts few is more =
    found_behind e es n (suc k) k place (ap (λ ps. slice_get (ps ++ accepted es) (suc k)) accepts) (more k is)
found_here e es n k place (p ∷ q ∷ ps) accepts few is more = absurd (omega arith)

pub found : (h : List Entry) (n k place : ℕ) → slice_get (places_from n h) k ≡ Some place → IsFound h n k place
found [] n k place is = absurd cc
found (e ∷ es) n k place is =
    found_here e es n k place (accepted_by e.call e.reply) refl (accepted_by-few e.call e.reply) is (λ j at. found es (n + 1) j place at)

pub length-places : (n : ℕ) (h : List Entry) → length (places_from n h) ≡ length (accepted h)
length-places n [] = refl
length-places n (e ∷ es) =
    length-append (map (λ (p : AcceptedPacket). n) (accepted_by e.call e.reply)) (places_from (n + 1) es)
    ∙ (ap (λ k. k + length (places_from (n + 1) es)) (length-map (accepted_by e.call e.reply) (λ (p : AcceptedPacket). n))
    ∙ (ap (λ k. length (accepted_by e.call e.reply) + k) (length-places (n + 1) es)
    ∙ sym (length-append (accepted_by e.call e.reply) (accepted es))))

get-none : {X : Type 0} (xs : List X) (k : ℕ) → None ≡ slice_get xs k → k < length xs → ⊥
get-none [] k is below = omega arith
get-none (x ∷ xs) zero is below = cc
get-none (x ∷ xs) (suc k) is below = get-none xs k is (omega arith)

-- each accepted packet has a place
pub has_place : (h : List Entry) (places : List ℕ) (k : ℕ) → places ≡ places_from 0 h → k < length (accepted h) → None ≡ slice_get places k → ⊥
has_place h places k are below none =
    let many : length places ≡ length (accepted h) = ap length are ∙ length-places 0 h in
    get-none places k none (omega arith)

-- the place of an accepted packet is that of its entry
pub record IsPlaced (h : List Entry) (k : ℕ) (e : Entry) : Type 0 where
  pub packet : AcceptedPacket
  pub accepts : accepted_by e.call e.reply ≡ packet ∷ []
  pub wire : slice_get (map wire_in (accepted h)) k ≡ Some packet.wire

get-map : {X Y : Type 0} (f : X → Y) (xs : List X) (k : ℕ) (x : X) → slice_get xs k ≡ Some x → slice_get (map f xs) k ≡ Some (f x)
get-map f [] k x is = absurd cc
get-map f (y ∷ ys) zero x is = let same : y ≡ x = cc in ap (λ z. Some (f z)) same
get-map f (y ∷ ys) (suc k) x is = get-map f ys k x is

pub no_entry : (h : List Entry) (places : List ℕ) (k place : ℕ) → places ≡ places_from 0 h → Some place ≡ slice_get places k → None ≡ slice_get h place → ⊥
no_entry h places k place are is none =
    let f : IsFound h 0 k place = found h 0 k place (sym (is ∙ ap (λ ps. slice_get ps k) are)) in
    let z : place - 0 ≡ place = omega arith in
    let there : slice_get h place ≡ Some f.e = ap (slice_get h) (sym z) ∙ f.stands in
    let both : None ≡ Some f.e = none ∙ there in
    absurd cc

pub placed : (h : List Entry) (places : List ℕ) (k place : ℕ) (e : Entry) → places ≡ places_from 0 h → Some place ≡ slice_get places k
    → Some e ≡ slice_get h place → IsPlaced h k e
placed h places k place e are is there =
    let f : IsFound h 0 k place = found h 0 k place (sym (is ∙ ap (λ ps. slice_get ps k) are)) in
    let z : place - 0 ≡ place = omega arith in
    let both : Some e ≡ Some f.e = there ∙ (ap (slice_get h) (sym z) ∙ f.stands) in
    let same : e ≡ f.e = cc in
    record {
      packet = f.packet;
      accepts = ap (λ (x : Entry). accepted_by x.call x.reply) same ∙ f.accepts;
      wire = get-map wire_in (accepted h) k f.packet f.is_packet;
    }

-- only an enqueue accepts, and what it was handed
pub no_pace : (h : List Entry) (k : ℕ) (e : Entry) (at : ℕ) → IsPlaced h k e → e.call ≡ Pace at → ⊥
no_pace h k e at p is =
    let none : [] ≡ p.packet ∷ [] = sym (ap (λ c. accepted_by c e.reply) is) ∙ p.accepts in
    absurd cc

pub no_report : (h : List Entry) (k : ℕ) (e : Entry) (at : ℕ) (bytes : Listed ℕ) → IsPlaced h k e → e.call ≡ Report at bytes → ⊥
no_report h k e at bytes p is =
    let none : [] ≡ p.packet ∷ [] = sym (ap (λ c. accepted_by c e.reply) is) ∙ p.accepts in
    absurd cc

pub no_configure : (h : List Entry) (k : ℕ) (e : Entry) (at : ℕ) (change : Change) → IsPlaced h k e → e.call ≡ Configure at change → ⊥
no_configure h k e at change p is =
    let none : [] ≡ p.packet ∷ [] = sym (ap (λ c. accepted_by c e.reply) is) ∙ p.accepts in
    absurd cc

enqueue_wire : (at : ℕ) (class : Class) (wire : Listed ℕ) (given : Reply) (p : AcceptedPacket) → accepted_by (Enqueue at class wire) given ≡ p ∷ [] → p.wire ≡ wire.items
enqueue_wire at class wire (Accepted moment index) p is =
    let same : p ≡ record { class = class; wire = wire.items; moment = moment } = cc in ap (λ (q : AcceptedPacket). q.wire) same
enqueue_wire at class wire (Paced moment records) p is = absurd cc
enqueue_wire at class wire (Credited moment judged signal m rate_in rates shares) p is = absurd cc
enqueue_wire at class wire (Configured moment rates shares) p is = absurd cc
enqueue_wire at class wire (Refused moment cause) p is = absurd cc

pub enqueued_wire : (h : List Entry) (k : ℕ) (e : Entry) (at : ℕ) (class : Class) (wire : Listed ℕ) → IsPlaced h k e → e.call ≡ Enqueue at class wire
    → slice_get (map wire_in (accepted h)) k ≡ Some wire.items
enqueued_wire h k e at class wire p is =
    p.wire ∙ ap Some (enqueue_wire at class wire e.reply p.packet (sym (ap (λ c. accepted_by c e.reply) is) ∙ p.accepts))

-- ---- one more entry

pub one-place : (n : ℕ) (ps : List AcceptedPacket) → length ps ≤ 1 → (length ps == 1) ≡ true → n ∷ [] ≡ map (λ (p : AcceptedPacket). n) ps
one-place n [] few test = absurd cc
one-place n (p ∷ []) few test = refl
one-place n (p ∷ q ∷ ps) few test = absurd (omega arith)

pub no-place : (n : ℕ) (ps : List AcceptedPacket) → length ps ≤ 1 → (length ps == 1) ≡ false → [] ≡ map (λ (p : AcceptedPacket). n) ps
no-place n [] few test = refl
no-place n (p ∷ []) few test = absurd cc
no-place n (p ∷ q ∷ ps) few test = absurd (omega arith)

pub places-more : (h : List Entry) (e : Entry) (places : List ℕ) (number : ℕ) → places ≡ places_from 0 h → number ≡ length h
    → places ++ map (λ (p : AcceptedPacket). number) (accepted_by e.call e.reply) ≡ places_from 0 (h ++ e ∷ [])
places-more h e places number are is =
    let z : number ≡ 0 + length h = omega (arith, is) in
    ap (λ ps. ps ++ map (λ (p : AcceptedPacket). number) (accepted_by e.call e.reply)) are
    ∙ (ap (λ n. places_from 0 h ++ map (λ (p : AcceptedPacket). n) (accepted_by e.call e.reply)) z ∙ sym (places-push 0 h e))
