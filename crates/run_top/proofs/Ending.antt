-- After a race: what all workers did, put together.
use Rattle.std.proofs.Common.{◌≡◌, ℕ, zero, suc, ◌+◌, ◌<◌, ◌≤◌, cond, ne_eqb, List, [], ◌∷◌, ◌++◌, length, map, All, Some, slice_get, ◌⊎◌, inl, inr, refl, sym, ◌∙◌, ap, subst, arith, length-append}
use Rattle.std.specs.List.{flat_map, range_with_len}
use Rattle.std.proofs.lemmas.List.{length-map, map-append}
use Rattle.gcc_units.proofs.Walk.{flat_map-push}
use Rattle.std.proofs.lemmas.List.Elements.{All-nil, All-cons, All-append}
use Rattle.std.proofs.lemmas.Option.{slice_get_within, get_or_from_slice_get}
use Rattle.std.proofs.lemmas.Bool.{cases_lt}
use Rattle.gcc_units.specs.declared.limits.TheConstants.{MOST_LINES}
use Rattle.send_core.specs.declared.call.Call.{Call}
use Rattle.send_core.specs.declared.call.Answer.{Answer}
use Rattle.send_core.specs.declared.call.Entry.{Entry}
use Rattle.turn_lock.specs.Rule.{by, BeginsWith}
use Rattle.turn_lock.specs.Seats.{TableId, SeatIs, new_seat, new_seats}
use Rattle.turn_lock.specs.Names.{names, all_names}
use Rattle.turn_lock.proofs.Names.{names_made, count_of_turn}
use Rattle.shared_sender.specs.Served.{Answered, answers_of, journal_of}
use Rattle.shared_sender.proofs.Served.{journal_of-answers}
use Rattle.call_trace.specs.declared.trace.Line.{Line}
use Rattle.call_trace.specs.Plain.{FitsLine}
use Rattle.call_trace.specs.Merge.{call_in, asked, calls_of, calls_by, Merges}
use Rattle.reply_text.specs.declared.seen.Seen.{Seen}
use Rattle.reply_text.specs.Legal.{AreLegalGlances, AreGlancesOf}
use Rattle.run_top.specs.declared.workers.Stop.TheVariants as stop
use Rattle.run_top.specs.declared.workers.Worker.{Worker}
use Rattle.run_top.specs.Racing.{Worked, AreWorked, IsReady, IsFresh, IsDone, AnyFull, key, keys, seat_of, actor_of, taken_by}
use Rattle.run_top.proofs.Growing.{at_left, at_last, calls_by-by}
use Rattle.run_top.proofs.Working.{glances_later}
use Rattle.run_top.proofs.Counting.{sum_lt, entries_counted, lines_counted}

-- ---- elements by their places

pub all_at : {A : Type 0} (P : A → Type 0) (xs : List A) (k : ℕ) (x : A) → All P xs → slice_get xs k ≡ Some x → P x
all_at P xs k x all at =
    subst P (get_or_from_slice_get xs k x x at) (all k x (slice_get_within xs k x at))

pub at_below : {A : Type 0} (xs : List A) (k : ℕ) → k < length xs → (x : A) × (slice_get xs k ≡ Some x)
at_below [] k below = absurd (omega arith)
at_below (x ∷ xs) zero below = (x, refl)
at_below (x ∷ xs) (suc k) below = at_below xs k (omega arith)

at_mapped : {A B : Type 0} (f : A → B) (xs : List A) (k : ℕ) (y : B) → slice_get (map f xs) k ≡ Some y → (x : A) × (slice_get xs k ≡ Some x) × (f x ≡ y)
at_mapped f [] k y at = absurd cc
at_mapped f (x ∷ xs) zero y at = (x, refl, cc)
at_mapped f (x ∷ xs) (suc k) y at = at_mapped f xs k y at

mapped_at : {A B : Type 0} (f : A → B) (xs : List A) (k : ℕ) (x : A) → slice_get xs k ≡ Some x → slice_get (map f xs) k ≡ Some (f x)
mapped_at f [] k x at = absurd cc
mapped_at f (y ∷ xs) zero x at = let same : y ≡ x = cc in ap (λ z. Some (f z)) same
mapped_at f (y ∷ xs) (suc k) x at = mapped_at f xs k x at

-- ---- the workers and their seats

pub keys_of_seats : (workers : List Worker) → names (map seat_of workers) ≡ keys workers
keys_of_seats [] = refl
keys_of_seats (w ∷ workers) = ap (λ ks. key w ∷ ks) (keys_of_seats workers)

-- the workers of new seats have all names
pub keys_made : (of : TableId) (n : ℕ) (workers : List Worker) → map seat_of workers ≡ new_seats of 0 n → keys workers ≡ all_names of n
keys_made of n workers seats = sym (keys_of_seats workers) ∙ (ap names seats ∙ names_made Call Answer of n)

ready_from : (of : TableId) (a n : ℕ) (workers : List Worker) → map seat_of workers ≡ map (new_seat of) (range_with_len a n)
    → map actor_of workers ≡ range_with_len a n → All IsFresh workers → All (IsReady of) workers
ready_from of a n [] seats actors fresh = All-nil (IsReady of)
ready_from of a zero (w ∷ workers) seats actors fresh = absurd cc
ready_from of a (suc n) (w ∷ workers) seats actors fresh =
    let seat : w.seat ≡ new_seat of a = cc in
    let rest : map seat_of workers ≡ map (new_seat of) (range_with_len (a + 1) n) = cc in
    let actor : w.actor ≡ a = cc in
    let others : map actor_of workers ≡ range_with_len (a + 1) n = cc in
    let own : IsFresh w = fresh 0 w (omega arith) in
    All-cons (IsReady of) w workers
    (record {
      of = ap (λ (s : SeatIs Call Answer). s.of) seat;
      actor = ap (λ (s : SeatIs Call Answer). s.number) seat ∙ sym actor;
      seen = ap (λ (s : SeatIs Call Answer). s.seen) seat;
      mine = ap (λ (s : SeatIs Call Answer). s.mine) seat;
      glances = own.0;
      running = own.1;
    })
    (ready_from of (a + 1) n workers rest others (λ k d below. fresh (suc k) d (omega arith)))

pub all_ready : (of : TableId) (n : ℕ) (workers : List Worker) → map seat_of workers ≡ new_seats of 0 n
    → map actor_of workers ≡ range_with_len 0 n → All IsFresh workers → All (IsReady of) workers
all_ready of n workers seats actors fresh = ready_from of 0 n workers seats actors fresh

numbered_from : (of : TableId) (a n : ℕ) (workers : List Worker) → keys workers ≡ map (λ k. (of, k)) (range_with_len a n)
    → (k : ℕ) (w : Worker) → slice_get workers k ≡ Some w → w.seat.number ≡ a + k
numbered_from of a n [] e k w at = absurd cc
numbered_from of a zero (x ∷ workers) e k w at = absurd cc
numbered_from of a (suc n) (x ∷ workers) e zero w at =
    let h : ◌≡◌ {A = TableId × ℕ} (x.seat.of, x.seat.number) (of, a) = cc in
    let same : x ≡ w = cc in
    let z : a + zero ≡ a = omega arith in
    ap (λ (v : Worker). v.seat.number) (sym same) ∙ (ap (λ (p : TableId × ℕ). p.1) h ∙ sym z)
numbered_from of a (suc n) (x ∷ workers) e (suc k) w at =
    let r : keys workers ≡ map (λ k. (of, k)) (range_with_len (a + 1) n) = cc in
    let s : a + 1 + k ≡ a + suc k = omega arith in
    numbered_from of (a + 1) n workers r k w at ∙ s

-- the k-th worker has the number k
pub numbered : (of : TableId) (n : ℕ) (workers : List Worker) → keys workers ≡ all_names of n → (k : ℕ) (w : Worker) → slice_get workers k ≡ Some w → w.seat.number ≡ k
numbered of n workers e k w at = let r = numbered_from of 0 n workers e k w at in omega (arith, r)

pub as_many : (of : TableId) (n : ℕ) (workers : List Worker) → keys workers ≡ all_names of n → length workers ≡ n
as_many of n workers e = sym (length-map workers seat_of) ∙ count_of_turn of n (map seat_of workers) (keys_of_seats workers ∙ e)

-- ---- what is known when all seats are handed in

-- the workers have worked the lines, and the journal closed with their seats
pub record IsClosed (lines : List Line) (n : ℕ) (workers : List Worker) (journal : List Entry) : Type 0 where
  pub count : length workers ≡ n
  pub number : (k : ℕ) (w : Worker) → slice_get workers k ≡ Some w → w.seat.number ≡ k
  pub worked : All (Worked lines) workers
  pub seen : (k : ℕ) (w : Worker) → slice_get workers k ≡ Some w → BeginsWith (answers_of journal) w.seat.seen
  pub mine : (k : ℕ) (w : Worker) → slice_get workers k ≡ Some w → by k (answers_of journal) ≡ w.seat.mine
  pub others : (k : ℕ) → n ≤ k → by k (answers_of journal) ≡ []
  pub known : All (FitsLine n) lines

pub closing : (of : TableId) (lines : List Line) (n : ℕ) (workers : List Worker) (seats : List (SeatIs Call Answer)) (journal : List Entry)
    → keys workers ≡ all_names of n → All (Worked lines) workers → seats ≡ map seat_of workers
    → All (λ s. BeginsWith (answers_of journal) s.seen) seats → All (λ s. by s.number (answers_of journal) ≡ s.mine) seats
    → ((k : ℕ) → n ≤ k → by k (answers_of journal) ≡ []) → All (FitsLine n) lines → IsClosed lines n workers journal
closing of lines n workers seats journal e worked are seen mine others known =
    let H : List Answered = answers_of journal in
    record {
      count = as_many of n workers e;
      number = numbered of n workers e;
      worked = worked;
      seen = λ k w at.
          all_at (λ (s : SeatIs Call Answer). BeginsWith H s.seen) seats k w.seat seen (subst (λ ss. slice_get ss k ≡ Some w.seat) (sym are) (mapped_at seat_of workers k w at));
      mine = λ k w at.
          let own = all_at (λ (s : SeatIs Call Answer). by s.number H ≡ s.mine) seats k w.seat mine (subst (λ ss. slice_get ss k ≡ Some w.seat) (sym are) (mapped_at seat_of workers k w at)) in
          ap (λ i. by i H) (sym (numbered of n workers e k w at)) ∙ own;
      others = others;
      known = known;
    }

-- no actor from n on has a line
no_line : (n a : ℕ) (lines : List Line) → n ≤ a → All (FitsLine n) lines → calls_of a lines ≡ []
no_line n a [] past known = refl
no_line n a (line ∷ lines) past known =
    let own : FitsLine n line = known 0 line (omega arith) in
    let apart = ne_eqb line.actor a (λ p. absurd (let f = own.actor in omega (arith, p))) in
    let none : asked a line ≡ [] = ap {B = List Call} (λ b. cond b (call_in line.action) []) apart in
    ap (λ cs. cs ++ calls_of a lines) none ∙ no_line n a lines past (λ k d below. known (suc k) d (omega arith))

pub merged : (lines : List Line) (n : ℕ) (workers : List Worker) (journal : List Entry) → IsClosed lines n workers journal → All IsDone workers → Merges lines journal
merged lines n workers journal c done a =
    let H : List Answered = answers_of journal in
    let all : calls_by a journal ≡ map (λ (e : Answered). e.call) (by a H) = ap (calls_by a) (sym (journal_of-answers journal)) ∙ calls_by-by a H in
    elim (cases_lt a n) [
      | inl below ↦
          (let w = at_below workers a (subst (λ m. a < m) (sym c.count) below) in
          let works = all_at (Worked lines) workers a w.0 c.worked w.1 in
          let runs : w.0.stop ≡ stop.No = all_at IsDone workers a w.0 done w.1 in
          let number : w.0.seat.number ≡ a = c.number a w.0 w.1 in
          let own : by a w.0.seat.seen ≡ w.0.seat.mine = ap (λ i. by i w.0.seat.seen) (sym number) ∙ works.own in
          let calls : calls_by a (journal_of w.0.seat.seen) ≡ calls_of a lines = subst (λ i. calls_by i (journal_of w.0.seat.seen) ≡ calls_of i lines) number (works.calls runs) in
          all ∙ (ap (map (λ (e : Answered). e.call)) (c.mine a w.0 w.1 ∙ sym own) ∙ (sym (calls_by-by a w.0.seat.seen) ∙ calls)))
      | inr past ↦ all ∙ (ap (map (λ (e : Answered). e.call)) (c.others a past) ∙ sym (no_line n a lines past c.known))
    ]

flat_taken : (workers : List Worker) → flat_map (λ (own : List Seen). own) (map taken_by workers) ≡ flat_map taken_by workers
flat_taken [] = refl
flat_taken (w ∷ workers) = ap (λ gs. w.glances.items ++ gs) (flat_taken workers)

pub all_glances : (lines : List Line) (n : ℕ) (workers : List Worker) (journal : List Entry) (glances : List Seen) → IsClosed lines n workers journal → All IsDone workers
    → glances ≡ flat_map taken_by workers → AreGlancesOf journal lines n glances
all_glances lines n workers journal glances c done are = record {
  given = map taken_by workers;
  count = length-map workers taken_by ∙ c.count;
  whole = are ∙ sym (flat_taken workers);
  each = λ actor own at.
      let m = at_mapped taken_by workers actor own at in
      let works = all_at (Worked lines) workers actor m.0 c.worked m.1 in
      let legal = works.glances (all_at IsDone workers actor m.0 done m.1) in
      let later = glances_later (answers_of journal) m.0.seat.seen lines m.0.seat.number m.0.glances.items (c.seen actor m.0 m.1) legal in
      subst (λ gs. AreLegalGlances journal lines actor gs) m.2
      (subst (λ i. AreLegalGlances journal lines i m.0.glances.items) (c.number actor m.0 m.1)
      (subst (λ h. AreLegalGlances h lines m.0.seat.number m.0.glances.items) (journal_of-answers journal) later));
}

-- no actor stopped at a full journal: there are fewer entries than lines
pub never_full : (lines : List Line) (n : ℕ) (workers : List Worker) (journal : List Entry) → IsClosed lines n workers journal → length lines ≤ MOST_LINES → AnyFull workers → ⊥
never_full lines n workers journal c few (k, w, at, is) =
    let H : List Answered = answers_of journal in
    let own_le : (a : ℕ) → a < n → length (by a H) ≤ length (calls_of a lines) = λ a below.
    (let v = at_below workers a (subst (λ m. a < m) (sym c.count) below) in
    let works = all_at (Worked lines) workers a v.0 c.worked v.1 in
    let l : length (by a H) ≡ length v.0.seat.mine = ap length (c.mine a v.0 v.1) in
    let r : length (calls_of v.0.seat.number lines) ≡ length (calls_of a lines) = ap (λ i. length (calls_of i lines)) (c.number a v.0 v.1) in
    omega (arith, works.few, l, r)) in
    let works = all_at (Worked lines) workers k w c.worked at in
    let unmade = works.unmade is in
    let full = works.full is in
    let within : k < n = let i = slice_get_within workers k w at in let m = c.count in omega (arith, i, m) in
    let l : length (by k H) ≡ length w.seat.mine = ap length (c.mine k w at) in
    let r : length (calls_of w.seat.number lines) ≡ length (calls_of k lines) = ap (λ i. length (calls_of i lines)) (c.number k w at) in
    let less : length (by k H) < length (calls_of k lines) = omega (arith, unmade, l, r) in
    let sums = sum_lt n (λ a. length (by a H)) (λ a. length (calls_of a lines)) k own_le within less in
    let entries = entries_counted n H c.others in
    let asks = lines_counted n lines in
    let begins = c.seen k w at in
    let longer = ap length begins.1 ∙ length-append w.seat.seen begins.0 in
    omega (arith, sums, entries, asks, full, longer, few)

-- ---- one worker more

pub seats_more : (workers : List Worker) (w : Worker) (seats : List (SeatIs Call Answer)) → map seat_of workers ≡ seats
    → map seat_of (workers ++ w ∷ []) ≡ seats ++ w.seat ∷ []
seats_more workers w seats are = map-append seat_of workers (w ∷ []) ∙ ap (λ ss. ss ++ w.seat ∷ []) are

range_more : (a n : ℕ) → range_with_len a n ++ (a + n) ∷ [] ≡ range_with_len a (n + 1)
range_more a zero = let z : a + zero ≡ a = omega arith in ap (λ k. k ∷ []) z
range_more a (suc n) =
    let there : a + suc n ≡ a + 1 + n = omega arith in
    let one : suc n + 1 ≡ suc (n + 1) = omega arith in
    rw (there, one) (ap (λ ks. a ∷ ks) (range_more (a + 1) n))

pub actors_more : (workers : List Worker) (w : Worker) (n m : ℕ) → map actor_of workers ≡ range_with_len 0 n → w.actor ≡ n → m ≡ n + 1
    → map actor_of (workers ++ w ∷ []) ≡ range_with_len 0 m
actors_more workers w n m are own one =
    map-append actor_of workers (w ∷ [])
    ∙ (ap (λ ks. ks ++ w.actor ∷ []) are
    ∙ (ap (λ k. range_with_len 0 n ++ k ∷ []) own
    ∙ ((let z : 0 + n ≡ n = omega arith in ap (λ k. range_with_len 0 n ++ k ∷ []) (sym z))
    ∙ (range_more 0 n ∙ ap (range_with_len 0) (sym one)))))

pub fresh_more : (workers : List Worker) (w : Worker) → All IsFresh workers → IsFresh w → All IsFresh (workers ++ w ∷ [])
fresh_more workers w all one = All-append IsFresh workers (w ∷ []) all (All-cons IsFresh w [] one (All-nil IsFresh))

pub done_more : (workers : List Worker) (w : Worker) → All IsDone workers → IsDone w → All IsDone (workers ++ w ∷ [])
done_more workers w all one = All-append IsDone workers (w ∷ []) all (All-cons IsDone w [] one (All-nil IsDone))

pub full_more : (workers : List Worker) (w : Worker) → AnyFull workers ⊎ (w.stop ≡ stop.Full) → AnyFull (workers ++ w ∷ [])
full_more workers w (inl any) = (any.0, any.1, at_left workers (w ∷ []) any.0 any.1 any.2, any.3)
full_more workers w (inr is) = (length workers, w, at_last workers w, is)

pub glances_more : (workers : List Worker) (w : Worker) → flat_map taken_by (workers ++ w ∷ []) ≡ flat_map taken_by workers ++ w.glances.items
glances_more workers w = flat_map-push taken_by workers w

-- what two halves worked, all worked
pub all_worked : (lines : List Line) (front back : List Worker) → AreWorked lines front → AreWorked lines back → AreWorked lines (front ++ back)
all_worked lines front back one two = record { each = All-append (Worked lines) front back one.each two.each }
