-- One more report to a division into loss windows: it joins the one that is not full, or fills it.
use Rattle.std.proofs.Common.{ℕ, ◌≡◌, List, [], ◌∷◌, ◌++◌, append_assoc, append-nil, refl, sym, ap, subst, ◌∙◌}
use Rattle.level_control.specs.LossLists.{Told, Fills, next_since, StaysOpen, Window, AreWindows, since_after}

stays-push : (since : ℕ) (before xs : List Told) (x : Told) → StaysOpen since before xs → (Fills since (before ++ xs) x → ⊥) → StaysOpen since before (xs ++ x ∷ [])
stays-push since before [] x h stays = (subst (λ (ys : List Told). Fills since ys x → ⊥) (append-nil before) stays, tt)
stays-push since before (y ∷ xs) x h stays = (h.0, stays-push since (before ++ y ∷ []) xs x h.1 (subst (λ (ys : List Told). Fills since ys x → ⊥) (sym (append_assoc before (y ∷ []) xs)) stays))

pub push-current : (since : ℕ) (ws : List Window) (current xs : List Told) (x : Told) → AreWindows since ws current xs → (Fills (since_after since ws) current x → ⊥) → AreWindows since ws (current ++ x ∷ []) (xs ++ x ∷ [])
push-current since [] current xs x h stays = (ap (λ (ys : List Told). ys ++ x ∷ []) h.0, stays-push since [] current x h.1 stays)
push-current since (w ∷ ws) current xs x h stays =
    (h.0 ++ x ∷ [], ap (λ (ys : List Told). ys ++ x ∷ []) h.1 ∙ append_assoc w.before (w.end ∷ h.0) (x ∷ []), h.2, h.3, push-current (next_since w.end) ws current h.0 x h.4 stays)

pub push-full : (since : ℕ) (ws : List Window) (current xs : List Told) (x : Told) → AreWindows since ws current xs → Fills (since_after since ws) current x
    → AreWindows since (ws ++ record { before = current; end = x } ∷ []) [] (xs ++ x ∷ [])
push-full since [] current xs x h fills = ([], ap (λ (ys : List Told). ys ++ x ∷ []) h.0, h.1, fills, (refl, tt))
push-full since (w ∷ ws) current xs x h fills =
    (h.0 ++ x ∷ [], ap (λ (ys : List Told). ys ++ x ∷ []) h.1 ∙ append_assoc w.before (w.end ∷ h.0) (x ∷ []), h.2, h.3, push-full (next_since w.end) ws current h.0 x h.4 fills)

pub since-push : (since : ℕ) (ws : List Window) (w : Window) → since_after since (ws ++ w ∷ []) ≡ next_since w.end
since-push since [] w = refl
since-push since (v ∷ ws) w = since-push (next_since v.end) ws w
