-- A walk over the credits of a history.
use Rattle.std.proofs.Common.{◌≡◌, ℕ, ◌+◌, ◌*◌, ◌^◌, ◌<◌, ◌≤◌, cond, nat_le, Some, List, [], ◌∷◌, ◌++◌, length, map, take, count_by, All, slice_get, refl, sym, ◌∙◌, ap, subst, arith, length-append}
use Rattle.std.proofs.lemmas.List.{length-map}
use Rattle.std.proofs.lemmas.List.Elements.{All-push}
use Rattle.std.proofs.lemmas.List.Sums.{sum_by-append, sum_by-cons, count_by-le-length}
use Rattle.gcc_units.proofs.Walk.{flat_map-push}
use Rattle.gcc_units.specs.declared.shared_types.Credit.{Credit}
use Rattle.send_core.specs.declared.call.Entry.{Entry}
use Rattle.send_core.specs.History.{sent, sent_by}
use Rattle.send_laws.specs.Credits.{credits, number_of, credited_numbers, is_from, HasBytes}
use Rattle.send_laws.proofs.Spanning.{take-next}

-- what was found before entry k
pub record IsWalked (h : List Entry) (first k all kept : ℕ) : Type 0 where
  pub all_are : all ≡ length (credited_numbers (take k h))
  pub kept_are : kept ≡ count_by (nat_le first) (credited_numbers (take k h))
  pub few : all ≤ 2 ^ 32 * k
  pub fewer : kept ≤ all

count-map : (first : ℕ) (cs : List Credit) → count_by (nat_le first) (map number_of cs) ≡ count_by (is_from first) cs
count-map first [] = refl
count-map first (c ∷ cs) =
    sum_by-cons (λ (n : ℕ). cond (nat_le first n) 1 0) c.number (map number_of cs)
    ∙ (ap (λ n. cond (nat_le first c.number) 1 0 + n) (count-map first cs) ∙ sym (sum_by-cons (λ (d : Credit). cond (is_from first d) 1 0) c cs))

pub walked-none : (h : List Entry) (first : ℕ) → IsWalked h first 0 0 0
walked-none h first = record { all_are = refl; kept_are = refl; few = omega arith; fewer = omega arith }

pub walked-more : (h : List Entry) (first k all kept more last : ℕ) (e : Entry) → slice_get h k ≡ Some e → IsWalked h first k all kept
    → more ≡ all + length (credits e.reply) → last ≡ kept + count_by (is_from first) (credits e.reply)
    → length (credits e.reply) < 2 ^ 32 → IsWalked h first (k + 1) more last
walked-more h first k all kept more last e is so_far adds keeps few =
    let entries : take (k + 1) h ≡ take k h ++ e ∷ [] = take-next h k e is in
    let numbers : credited_numbers (take (k + 1) h) ≡ credited_numbers (take k h) ++ map number_of (credits e.reply) =
    ap credited_numbers entries ∙ flat_map-push (λ (x : Entry). map number_of (credits x.reply)) (take k h) e in
    record {
      all_are = omega (
        arith,
        adds,
        so_far.all_are,
        ap length numbers,
        length-append (credited_numbers (take k h)) (map number_of (credits e.reply)),
        length-map (credits e.reply) number_of,
      );
      kept_are = omega (
        arith,
        keeps,
        so_far.kept_are,
        ap (count_by (nat_le first)) numbers,
        sum_by-append (λ (n : ℕ). cond (nat_le first n) 1 0) (credited_numbers (take k h)) (map number_of (credits e.reply)),
        count-map first (credits e.reply),
      );
      few = omega (arith, so_far.few, adds, few);
      fewer = omega (arith, so_far.fewer, adds, keeps, count_by-le-length (is_from first) (credits e.reply));
    }

-- ---- sent packets

pub sent-next : (h : List Entry) (k : ℕ) (e : Entry) → slice_get h k ≡ Some e → length (sent (take (k + 1) h)) ≡ length (sent (take k h)) + length (sent_by e.reply)
sent-next h k e is =
    ap (λ es. length (sent es)) (take-next h k e is)
    ∙ (ap length (flat_map-push (λ (x : Entry). sent_by x.reply) (take k h) e) ∙ length-append (sent (take k h)) (sent_by e.reply))

-- ---- bytes

pub bytes-next : (h : List Entry) (k : ℕ) (e : Entry) → slice_get h k ≡ Some e → HasBytes e → All HasBytes (take k h) → All HasBytes (take (k + 1) h)
bytes-next h k e is bytes all = subst (All HasBytes) (sym (take-next h k e is)) (All-push HasBytes (take k h) e all bytes)
