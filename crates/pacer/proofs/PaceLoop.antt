-- The loop of a pace: what was sent so far, and what is still to be sent, are the whole.
use Rattle.std.proofs.Common.{◌≡◌, ℕ, suc, zero, ◌+◌, ◌-◌, ◌<◌, ◌≤◌, None, Some, List, [], ◌∷◌, ◌++◌, length, refl, sym, ◌∙◌, ap, subst, arith, append_assoc, length-append}
use Rattle.std.proofs.lemmas.List.{append-nil}
use Rattle.std.proofs.lemmas.List.Sums.{fold_push}
use Rattle.gcc_units.specs.declared.limits.TheConstants.{MOST_SENDS, MOST_PACKETS}
use Rattle.gcc_units.proofs.Walk.{flat_map-push}
use Rattle.probe_clusters.specs.Deeds.{Deed, StandsFor, ReachedBy}
use Rattle.pacer.specs.declared.sent.Sent.{Sent}
use Rattle.pacer.specs.declared.course.Terms.{Terms}
use Rattle.pacer.specs.Course.{HasRoom, IsLowered, MayLower, probe_by, probes_of}
use Rattle.pacer.proofs.LeftByRecords.{after_all-is}
use Rattle.pacer.specs.Pace.{Standing, unsent, rule, after, after_all, then_on, paced}
use Rattle.pacer.proofs.Pace.{paced-zero, paced-suc}

-- ---- the loop

pub record IsUnderWay (terms : Terms) (begun : Standing) (now : Standing) (done : List Sent) : Type 0 where
  pub records : done ++ paced (MOST_SENDS - length done) terms now ≡ paced MOST_SENDS terms begun
  pub reached : now ≡ after_all terms begun done
  pub few : length done ≤ MOST_SENDS
  pub stands : (ds : List Deed) → StandsFor begun.clusters ds → StandsFor now.clusters (ds ++ probes_of terms.moment done)
  pub room : (sends : ℕ) → ReachedBy sends MOST_PACKETS begun.clusters → ReachedBy (sends + length done) MOST_PACKETS now.clusters
  pub lowered : (sends : ℕ) → IsLowered sends begun.media → IsLowered (sends + length done) now.media

pub under_way-first : (terms : Terms) (begun : Standing) → IsUnderWay terms begun begun []
under_way-first terms begun = record {
  records = refl;
  reached = refl;
  few = omega arith;
  stands = λ ds s. rw append-nil s;
  room = λ sends h. let same : sends + 0 ≡ sends = omega arith in rw same h;
  lowered = λ sends h. let same : sends + 0 ≡ sends = omega arith in rw same h;
}

paced-next : (most : ℕ) (terms : Terms) (s : Standing) (r : Sent) → rule terms s ≡ Some r → paced (suc most) terms s ≡ r ∷ paced most terms (after terms s r)
paced-next most terms s r e = paced-suc most terms s ∙ ap (λ o. then_on o (λ x. paced most terms (after terms s x))) e

paced-stop : (most : ℕ) (terms : Terms) (s : Standing) → rule terms s ≡ None → paced most terms s ≡ []
paced-stop zero terms s e = paced-zero terms s
paced-stop (suc most) terms s e = paced-suc most terms s ∙ ap (λ o. then_on o (λ x. paced most terms (after terms s x))) e

pub under_way-more : (terms : Terms) (begun now : Standing) (done : List Sent) (r : Sent) (next : Standing)
    → IsUnderWay terms begun now done → length done < MOST_SENDS → rule terms now ≡ Some r → next ≡ after terms now r
    → ((ds : List Deed) → StandsFor now.clusters ds → StandsFor next.clusters (ds ++ probe_by terms.moment r))
    → ((sends : ℕ) → ReachedBy sends MOST_PACKETS now.clusters → ReachedBy (sends + 1) MOST_PACKETS next.clusters)
    → ((sends : ℕ) → IsLowered sends now.media → IsLowered (sends + 1) next.media)
    → IsUnderWay terms begun next (done ++ r ∷ [])
under_way-more terms begun now done r next h below e is stands reached lowered =
    let longer : length (done ++ r ∷ []) ≡ length done + 1 = length-append done (r ∷ []) in
    let steps : MOST_SENDS - length done ≡ suc (MOST_SENDS - (length done + 1)) = omega arith in
    let sends : paced (MOST_SENDS - length done) terms now ≡ r ∷ paced (MOST_SENDS - (length done + 1)) terms (after terms now r) =
    ap (λ n. paced n terms now) steps ∙ paced-next (MOST_SENDS - (length done + 1)) terms now r e in
    record {
      records = rw (longer, is) (append_assoc done (r ∷ []) (paced (MOST_SENDS - (length done + 1)) terms (after terms now r))
          ∙ (ap (λ rs. done ++ rs) (sym sends) ∙ h.records));
      reached = is ∙ (ap (λ s. after terms s r) h.reached ∙ sym (fold_push (after terms) begun done r));
      few = rw longer (omega arith);
      stands = λ ds s. subst (λ es. StandsFor next.clusters es)
          (append_assoc ds (probes_of terms.moment done) (probe_by terms.moment r) ∙ ap (λ es. ds ++ es) (sym (flat_map-push (probe_by terms.moment) done r)))
          (stands (ds ++ probes_of terms.moment done) (h.stands ds s));
      room = λ sends b.
          let sum : sends + length (done ++ r ∷ []) ≡ sends + length done + 1 = omega (arith, longer) in
          rw sum (reached (sends + length done) (h.room sends b));
      lowered = λ sends b.
          let sum : sends + length (done ++ r ∷ []) ≡ sends + length done + 1 = omega (arith, longer) in
          rw sum (lowered (sends + length done) (h.lowered sends b));
    }

-- there is room for one more packet of a cluster
pub room-now : (terms : Terms) (begun now : Standing) (done : List Sent) → IsUnderWay terms begun now done → length done < MOST_SENDS
    → HasRoom MOST_SENDS begun.clusters → HasRoom 1 now.clusters
room-now terms begun now done h below room =
    let most : room.sends + MOST_SENDS ≤ MOST_PACKETS = room.room in
    record { sends = room.sends + length done; reached = h.room room.sends room.reached; room = omega arith }

-- and one more packet may lower the level
pub lower-now : (terms : Terms) (begun now : Standing) (done : List Sent) → IsUnderWay terms begun now done → length done < MOST_SENDS
    → MayLower MOST_SENDS begun.media → MayLower 1 now.media
lower-now terms begun now done h below may =
    let most : may.sends + MOST_SENDS ≤ MOST_PACKETS = may.room in
    record { sends = may.sends + length done; lowered = h.lowered may.sends may.lowered; room = omega arith }

pub record HasPaced (terms : Terms) (begun now : Standing) (done : List Sent) : Type 0 where
  pub queue : now.waiting ≡ unsent done begun.waiting
  pub records : done ≡ paced MOST_SENDS terms begun
  pub reached : now ≡ after_all terms begun done
  pub stands : (ds : List Deed) → StandsFor begun.clusters ds → StandsFor now.clusters (ds ++ probes_of terms.moment done)
  pub lowered : (sends : ℕ) → IsLowered sends begun.media → IsLowered (sends + length done) now.media

ended : (terms : Terms) (begun now : Standing) (done : List Sent) → IsUnderWay terms begun now done → paced (MOST_SENDS - length done) terms now ≡ [] → HasPaced terms begun now done
ended terms begun now done h none = record {
  queue = ap (λ (s : Standing). s.waiting) (h.reached ∙ after_all-is terms begun done);
  records = sym (append-nil done) ∙ (ap (λ rs. done ++ rs) (sym none) ∙ h.records);
  reached = h.reached;
  stands = h.stands;
  lowered = h.lowered;
}

pub under_way-stopped : (terms : Terms) (begun now : Standing) (done : List Sent) → IsUnderWay terms begun now done → rule terms now ≡ None → HasPaced terms begun now done
under_way-stopped terms begun now done h e = ended terms begun now done h (paced-stop (MOST_SENDS - length done) terms now e)

pub under_way-ended : (terms : Terms) (begun now : Standing) (done : List Sent) → IsUnderWay terms begun now done → MOST_SENDS ≤ length done → HasPaced terms begun now done
under_way-ended terms begun now done h past =
    let none : MOST_SENDS - length done ≡ 0 = omega arith in
    ended terms begun now done h (ap (λ n. paced n terms now) none ∙ paced-zero terms now)
