-- Records counted one by one are counted whole.
use Rattle.std.proofs.Common.{◌≡◌, ℕ, zero, suc, ◌+◌, ◌^◌, ◌<◌, ◌≤◌, Bool, true, false, cond, Some, slice_get, slice_index_or, take, drop, List, [], ◌∷◌, ◌++◌, length, refl, sym, ◌∙◌, ap, arith, append_assoc, append-nil, length-append}
use Rattle.std.specs.Prelude.{fold, sum_by}
use Rattle.std.proofs.lemmas.List.Sums.{sum_by-append}
use Rattle.gcc_units.proofs.Walk.{flat_map-push}
use Rattle.pacer.specs.declared.sent.Sent.{Sent}
use Rattle.pacer.specs.declared.sent.Kind.{Kind}
use Rattle.send_core.specs.declared.call.Entry.{Entry}
use Rattle.send_core.specs.History.{sent, sent_by}
use Rattle.run_top.specs.declared.totals.Totals.{Totals}
use Rattle.run_top.specs.Totals.{totals_of, counted, IsSmall, count_kind, size_of, is_audio, is_media, is_probe, is_padding}

count-push : (is : Kind → Bool) (xs : List Sent) (r : Sent) → count_kind is (xs ++ r ∷ []) ≡ count_kind is xs + cond (is r.kind) 1 0
count-push is xs r = let s = sum_by-append (λ (x : Sent). cond (is x.kind) 1 0) xs (r ∷ []) in omega (arith, s)

totals-push : (xs : List Sent) (r : Sent) → totals_of (xs ++ r ∷ []) ≡ counted (totals_of xs) r
totals-push xs r =
    let long : length (xs ++ r ∷ []) ≡ length xs + 1 = length-append xs (r ∷ []) in
    let large : sum_by size_of (xs ++ r ∷ []) ≡ sum_by size_of xs + r.size = let s = sum_by-append size_of xs (r ∷ []) in omega (arith, s) in
    rw (long, large, count-push is_audio xs r, count-push is_media xs r, count-push is_probe xs r, count-push is_padding xs r) refl

pub counted-all : (xs ys : List Sent) → fold counted (totals_of xs) ys ≡ totals_of (xs ++ ys)
counted-all xs [] = ap totals_of (sym (append-nil xs))
counted-all xs (y ∷ ys) =
    ap (λ t. fold counted t ys) (sym (totals-push xs y))
    ∙ (counted-all (xs ++ y ∷ []) ys ∙ ap totals_of (append_assoc xs (y ∷ []) ys))

one_most : (b : Bool) → cond b 1 0 ≤ 1
one_most true = omega arith
one_most false = omega arith

-- a packet more can be counted where the counts are small, and they stay so
pub counted_small : (t : Totals) (r : Sent) → IsSmall t → t.packets < 2 ^ 60 → r.size < 2 ^ 32 → IsSmall (counted t r)
counted_small t r small few size = record {
  packets = omega (arith, few);
  bytes = omega (arith, small.bytes, size);
  audio = omega (arith, small.audio, one_most (is_audio r.kind));
  media = omega (arith, small.media, one_most (is_media r.kind));
  probe = omega (arith, small.probe, one_most (is_probe r.kind));
  padding = omega (arith, small.padding, one_most (is_padding r.kind));
}

-- ---- over a list, and over entries

drop-at : (xs : List Sent) (i : ℕ) (d : Sent) → i < length xs → drop i xs ≡ slice_index_or xs i d ∷ drop (i + 1) xs
drop-at [] i d below = absurd (omega arith)
drop-at (x ∷ xs) zero d below = refl
drop-at (x ∷ xs) (suc i) d below = let e : suc i + 1 ≡ suc (i + 1) = omega arith in rw e (drop-at xs i d (omega arith))

-- the next packet of a list is counted
pub counted_next : (t next all : Totals) (xs : List Sent) (i : ℕ) (d : Sent) → i < length xs → next ≡ counted t (slice_index_or xs i d)
    → fold counted t (drop i xs) ≡ all → fold counted next (drop (i + 1) xs) ≡ all
counted_next t next all xs i d below is before =
    ap (λ (u : Totals). fold counted u (drop (i + 1) xs)) is ∙ (ap (fold counted t) (sym (drop-at xs i d below)) ∙ before)

take-next : (xs : List Entry) (k : ℕ) (x : Entry) → slice_get xs k ≡ Some x → take (k + 1) xs ≡ take k xs ++ x ∷ []
take-next [] k x is = absurd cc
take-next (y ∷ ys) zero x is = let same : y ≡ x = cc in ap (λ z. z ∷ []) same
take-next (y ∷ ys) (suc k) x is = let e : suc k + 1 ≡ suc (k + 1) = omega arith in rw e (ap (λ zs. y ∷ zs) (take-next ys k x is))

-- what an entry sent is counted behind all before it
pub entry_counted : (t next : Totals) (history : List Entry) (k : ℕ) (e : Entry) → slice_get history k ≡ Some e
    → t ≡ totals_of (sent (take k history)) → next ≡ fold counted t (sent_by e.reply) → next ≡ totals_of (sent (take (k + 1) history))
entry_counted t next history k e at before is =
    is
    ∙ (ap (λ u. fold counted u (sent_by e.reply)) before
    ∙ (counted-all (sent (take k history)) (sent_by e.reply)
    ∙ ap totals_of (sym (ap sent (take-next history k e at) ∙ flat_map-push (λ (x : Entry). sent_by x.reply) (take k history) e))))
