-- What one record more adds to what was counted of a budget.
use Rattle.std.proofs.Common.{◌≡◌, ℕ, ◌+◌, List, [], ◌∷◌, ◌++◌, refl, ◌∙◌, ap, sym, arith}
use Rattle.std.specs.Prelude.{Option}
use Rattle.std.proofs.lemmas.List.Sums.{fold-append, sum_by-append}
use Rattle.pacer.specs.declared.sent.Sent.{Sent}
use Rattle.pacer.specs.declared.sent.Kind.{Kind}
use Rattle.pacer.specs.declared.sent.Kind.TheVariants as kind
use Rattle.send_laws.specs.Spans.{spent_size, padding_size}
use Rattle.send_laws.specs.Budgets.{last_by, last_from, IsCount}
use Rattle.send_laws.specs.declared.budget.Budget.{Budget}
use Rattle.send_laws.specs.declared.budget.Budget.TheVariants.{Media, Padding}
use Rattle.send_laws.specs.declared.budget.Counted.{Counted}
use Rattle.send_laws.proofs.Spent.{spent-front, spent-all}

pub count-none : (b : Budget) → IsCount b [] (record { bytes = 0; since = 0; last = 0 })
count-none Media = record { bytes = refl; taken = refl; last = refl }
count-none Padding = record { bytes = refl; taken = refl; last = refl }

-- a packet for which the budget had to be open, and a probe
abbrev pub sized : Counted → ℕ → Counted
sized c size = record { bytes = c.bytes + c.since + size; since = 0; last = size }

abbrev pub probed : Counted → ℕ → Counted
probed c size = record { bytes = c.bytes; since = c.since + size; last = c.last }

abbrev pub counted_by : Budget → Kind → ℕ → Counted → Counted
counted_by Media kind.Audio size c = c
counted_by Media kind.Media size c = sized c size
counted_by Media (kind.Probe id) size c = probed c size
counted_by Media kind.Padding size c = c
counted_by Padding kind.Audio size c = c
counted_by Padding kind.Media size c = c
counted_by Padding (kind.Probe id) size c = c
counted_by Padding kind.Padding size c = sized c size

abbrev sent_as : ℕ → Option ℕ → ℕ → Kind → Sent
sent_as number index size k = record { number = number; index = index; kind = k; size = size }

last-more : (b : Budget) (records : List Sent) (r : Sent) (c : Counted) → IsCount b records c → last_from b 0 (records ++ r ∷ []) ≡ last_by b c.last r
last-more b records r c h = fold-append (last_by b) 0 records (r ∷ []) ∙ ap (λ l. last_by b l r) (sym h.last)

media-more : (records : List Sent) (number : ℕ) (index : Option ℕ) (k : Kind) (size : ℕ) (c : Counted) → IsCount Media records c
    → IsCount Media (records ++ sent_as number index size k ∷ []) (counted_by Media k size c)
media-more records number index k size c h = by_kind k
  where
    by_kind : (k : Kind) → IsCount Media (records ++ sent_as number index size k ∷ []) (counted_by Media k size c)
    by_kind kind.Audio = record {
      bytes = omega (arith, h.bytes, spent-front records (sent_as number index size kind.Audio ∷ []) refl);
      taken = omega (arith, h.taken, sum_by-append spent_size records (sent_as number index size kind.Audio ∷ []));
      last = sym (last-more Media records (sent_as number index size kind.Audio) c h);
    }
    by_kind kind.Media = record {
      bytes = omega (arith, h.taken, spent-all records (sent_as number index size kind.Media ∷ []) refl);
      taken = omega (arith, h.taken, sum_by-append spent_size records (sent_as number index size kind.Media ∷ []));
      last = sym (last-more Media records (sent_as number index size kind.Media) c h);
    }
    by_kind (kind.Probe id) = record {
      bytes = omega (arith, h.bytes, spent-front records (sent_as number index size (kind.Probe id) ∷ []) refl);
      taken = omega (arith, h.taken, sum_by-append spent_size records (sent_as number index size (kind.Probe id) ∷ []));
      last = sym (last-more Media records (sent_as number index size (kind.Probe id)) c h);
    }
    by_kind kind.Padding = record {
      bytes = omega (arith, h.bytes, spent-front records (sent_as number index size kind.Padding ∷ []) refl);
      taken = omega (arith, h.taken, sum_by-append spent_size records (sent_as number index size kind.Padding ∷ []));
      last = sym (last-more Media records (sent_as number index size kind.Padding) c h);
    }

padding-more : (records : List Sent) (number : ℕ) (index : Option ℕ) (k : Kind) (size : ℕ) (c : Counted) → IsCount Padding records c
    → IsCount Padding (records ++ sent_as number index size k ∷ []) (counted_by Padding k size c)
padding-more records number index k size c h = by_kind k
  where
    by_kind : (k : Kind) → IsCount Padding (records ++ sent_as number index size k ∷ []) (counted_by Padding k size c)
    by_kind kind.Audio = record {
      bytes = omega (arith, h.bytes, sum_by-append padding_size records (sent_as number index size kind.Audio ∷ []));
      taken = omega (arith, h.taken, sum_by-append padding_size records (sent_as number index size kind.Audio ∷ []));
      last = sym (last-more Padding records (sent_as number index size kind.Audio) c h);
    }
    by_kind kind.Media = record {
      bytes = omega (arith, h.bytes, sum_by-append padding_size records (sent_as number index size kind.Media ∷ []));
      taken = omega (arith, h.taken, sum_by-append padding_size records (sent_as number index size kind.Media ∷ []));
      last = sym (last-more Padding records (sent_as number index size kind.Media) c h);
    }
    by_kind (kind.Probe id) = record {
      bytes = omega (arith, h.bytes, sum_by-append padding_size records (sent_as number index size (kind.Probe id) ∷ []));
      taken = omega (arith, h.taken, sum_by-append padding_size records (sent_as number index size (kind.Probe id) ∷ []));
      last = sym (last-more Padding records (sent_as number index size (kind.Probe id)) c h);
    }
    by_kind kind.Padding = record {
      bytes = omega (arith, h.taken, sum_by-append padding_size records (sent_as number index size kind.Padding ∷ []));
      taken = omega (arith, h.taken, sum_by-append padding_size records (sent_as number index size kind.Padding ∷ []));
      last = sym (last-more Padding records (sent_as number index size kind.Padding) c h);
    }

pub count-more : (b : Budget) (records : List Sent) (r : Sent) (c : Counted) → IsCount b records c → IsCount b (records ++ r ∷ []) (counted_by b r.kind r.size c)
count-more Media records r c h = media-more records r.number r.index r.kind r.size c h
count-more Padding records r c h = padding-more records r.number r.index r.kind r.size c h
