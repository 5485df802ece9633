-- How a pace stands after its sends, part by part.
use Rattle.std.proofs.Common.{◌≡◌, ℕ, ℤ, ◌+◌, ◌||◌, Bool, true, false, List, [], ◌∷◌, length, fold, refl, sym, ◌∙◌, arith}
use Rattle.std.proofs.lemmas.List.Sums.{fold-append}
use Rattle.pace_budget.specs.Steps.{step}
use Rattle.pace_queues.specs.declared.ticket.Ticket.{Ticket}
use Rattle.probe_clusters.specs.declared.cluster.Cluster.{Cluster}
use Rattle.pacer.specs.declared.sent.Sent.{Sent}
use Rattle.pacer.specs.declared.course.Terms.{Terms}
use Rattle.pacer.specs.Pace.{Standing, unsent, deed_of, padding_after, clusters_after, is_media, after, after_all}
use Rattle.pacer.proofs.Records.{unsent-then, unsent-none}
use Rattle.pacer.specs.LeftByRecords.{spending, has_media}

-- all parts, each by what the records do to it
abbrev pub after_each : Terms → Standing → List Sent → Standing
after_each terms s records = record {
  waiting = unsent records s.waiting;
  media = fold step s.media (spending records);
  padding = fold (padding_after terms.floor) s.padding records;
  clusters = fold (clusters_after terms.moment) s.clusters records;
  began = s.began || has_media records;
  number = s.number + length records;
}

or-assoc : (a b c : Bool) → ((a || b) || c) ≡ (a || (b || c))
or-assoc true b c = refl
or-assoc false b c = refl

or-nil : (a : Bool) → (a || false) ≡ a
or-nil true = refl
or-nil false = refl

parts : (w x : List Ticket) (m n p q : ℤ) (c d : List Cluster) (a b : Bool) (k l : ℕ) → w ≡ x → m ≡ n → p ≡ q → c ≡ d → a ≡ b → k ≡ l
    → ◌≡◌ {A = Standing} (record { waiting = w; media = m; padding = p; clusters = c; began = a; number = k })
    (record { waiting = x; media = n; padding = q; clusters = d; began = b; number = l })
parts w x m n p q c d a b k l e f g h i j = cc

pub after_all-is : (terms : Terms) (s : Standing) (records : List Sent) → after_all terms s records ≡ after_each terms s records
after_all-is terms s [] =
    parts s.waiting (unsent [] s.waiting) s.media s.media s.padding s.padding s.clusters s.clusters s.began (s.began || false) s.number (s.number + 0)
    (sym (unsent-none s.waiting)) refl refl refl (sym (or-nil s.began)) (omega arith)
after_all-is terms s (r ∷ rs) =
    after_all-is terms (after terms s r) rs
    ∙ parts _ _ _ _ _ _ _ _ _ _ _ _
    (sym (unsent-then (r ∷ []) rs s.waiting))
    (sym (fold-append step s.media (deed_of r) (spending rs)))
    refl refl
    (or-assoc s.began (is_media r.kind) (has_media rs))
    (omega arith)
