-- Totals with one record more, and how great they are at the most.
use Rattle.std.proofs.Common.{◌≡◌, ℕ, ◌+◌, ◌*◌, ◌<◌, ◌≤◌, Bool, true, false, cond, List, [], ◌∷◌, ◌++◌, length, take, sum_by, All, get_or, sym, ◌∙◌, ap, subst, arith, length-append, append_assoc}
use Rattle.std.proofs.lemmas.List.{length-take, take_all, take_more}
use Rattle.std.proofs.lemmas.List.Elements.{All-nil, All-cons, All-head, All-tail, All-append, All-take}
use Rattle.std.proofs.lemmas.List.Sums.{sum_by-cons}
use Rattle.gcc_units.specs.declared.limits.TheConstants.{GREATEST_PACKET}
use Rattle.pacer.specs.declared.sent.Sent.{Sent}
use Rattle.pacer.specs.declared.sent.Kind.{Kind}
use Rattle.pacer.specs.Course.{IsSmallRecord}
use Rattle.live_sender.specs.declared.sums.Total.{Total}
use Rattle.live_sender.specs.declared.sums.SentTotals.{SentTotals}
use Rattle.send_core.specs.declared.counts.TheConstants.{MOST_SENT}
use Rattle.live_sender.specs.Sums.{is_audio, is_media, is_probe, is_padding, sent_as, size_in, total_of, totals_of, MayCount}

-- ---- at the most

-- so many records of one kind, of so many bytes, are no more than all of them
pub record IsWithin (total : Total) (count : ℕ) : Type 0 where
  pub packets : total.packets ≤ count
  pub bytes : total.bytes ≤ GREATEST_PACKET * count

pub within-as : (test : Kind → Bool) (rs : List Sent) → All IsSmallRecord rs → IsWithin (total_of (sent_as test rs)) (length rs)
within-as test [] all = record { packets = omega arith; bytes = omega arith }
within-as test (r ∷ rs) all = one-more (test r.kind) (sent_as test rs) (within-as test rs (All-tail IsSmallRecord r rs all))
  where
    small : r.size ≤ GREATEST_PACKET
    small = All-head IsSmallRecord r rs all

    one-more : (b : Bool) (us : List Sent) → IsWithin (total_of us) (length rs) → IsWithin (total_of (cond b (r ∷ us) us)) (length (r ∷ rs))
    one-more true us w =
        let p : length us ≤ length rs = w.packets in
        let q : sum_by size_in us ≤ GREATEST_PACKET * length rs = w.bytes in
        record { packets = omega (arith, p); bytes = omega (arith, q, small, sum_by-cons size_in r us) }
    one-more false us w =
        let p : length us ≤ length rs = w.packets in
        let q : sum_by size_in us ≤ GREATEST_PACKET * length rs = w.bytes in
        record { packets = omega (arith, p); bytes = omega (arith, q) }

-- each total of records that may be counted
pub record AreWithin (totals : SentTotals) (count : ℕ) : Type 0 where
  pub audio : IsWithin totals.audio count
  pub media : IsWithin totals.media count
  pub probes : IsWithin totals.probes count
  pub padding : IsWithin totals.padding count

within-most : (t : Total) (count : ℕ) → count ≤ MOST_SENT → IsWithin t count → IsWithin t MOST_SENT
within-most t count few w =
    let p : t.packets ≤ count = w.packets in
    let q : t.bytes ≤ GREATEST_PACKET * count = w.bytes in
    record { packets = omega (arith, p, few); bytes = omega (arith, q, few) }

pub are-within : (totals : SentTotals) (records : List Sent) → MayCount totals records → AreWithin totals MOST_SENT
are-within totals records m =
    let few : length m.before ≤ MOST_SENT = omega (arith, m.few) in
    subst (λ (t : SentTotals). AreWithin t MOST_SENT) (sym m.are) (record {
      audio = within-most _ (length m.before) few (within-as is_audio m.before m.small_before);
      media = within-most _ (length m.before) few (within-as is_media m.before m.small_before);
      probes = within-most _ (length m.before) few (within-as is_probe m.before m.small_before);
      padding = within-most _ (length m.before) few (within-as is_padding m.before m.small_before);
    })

-- ---- records one after another

pub may-count : (totals now : SentTotals) (records : List Sent) (i : ℕ) (d : Sent) → (m : MayCount totals records) → i < length records
    → now ≡ totals_of (m.before ++ take i records) → MayCount now (get_or records i d ∷ [])
may-count totals now records i d m below are = record {
  before = m.before ++ take i records;
  are = are;
  small_before = All-append IsSmallRecord m.before (take i records) m.small_before (All-take IsSmallRecord i records m.small);
  small = All-cons IsSmallRecord (get_or records i d) [] (m.small i d below) (All-nil IsSmallRecord);
  few = omega (arith, m.few, length-append m.before (take i records), length-take i records);
}

pub totals-next : (start now new : SentTotals) (records : List Sent) (i : ℕ) (d : Sent) → i < length records
    → ((before : List Sent) → start ≡ totals_of before → now ≡ totals_of (before ++ take i records))
    → ((before : List Sent) → now ≡ totals_of before → new ≡ totals_of (before ++ get_or records i d ∷ []))
    → (before : List Sent) → start ≡ totals_of before → new ≡ totals_of (before ++ take (i + 1) records)
totals-next start now new records i d below so_far adds before is =
    adds (before ++ take i records) (so_far before is)
    ∙ ap totals_of (append_assoc before (take i records) (get_or records i d ∷ []) ∙ ap (λ rs. before ++ rs) (sym (take_more records i d below)))

pub totals-all : (start now : SentTotals) (records : List Sent) (i : ℕ) → length records ≤ i
    → ((before : List Sent) → start ≡ totals_of before → now ≡ totals_of (before ++ take i records))
    → (before : List Sent) → start ≡ totals_of before → now ≡ totals_of (before ++ records)
totals-all start now records i past so_far before is = so_far before is ∙ ap (λ rs. totals_of (before ++ rs)) (take_all i records past)
