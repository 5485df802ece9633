-- What a pace makes of what a loop stands for.
use Rattle.std.proofs.Common.{◌≡◌, ℕ, ◌&&◌, Bool, true, not, nat_lt, List, [], ◌∷◌, ◌++◌, length, All, sym, ◌∙◌, ap, subst}
use Rattle.gcc_units.specs.Listed.{Listed}
use Rattle.gcc_units.specs.declared.limits.TheConstants.{MOST_ENTRIES}
use Rattle.pacer.specs.declared.sent.Sent.{Sent}
use Rattle.send_core.specs.declared.call.Call.TheVariants as call
use Rattle.send_core.specs.declared.call.Reply.{Reply}
use Rattle.send_core.specs.declared.call.Reply.TheVariants as given
use Rattle.send_core.specs.declared.call.Entry.{Entry}
use Rattle.send_core.specs.History.{entry, sent, sent_by}
use Rattle.send_core.specs.Reply.{reply}
use Rattle.call_trace.specs.Making.{moment}
use Rattle.link_path.specs.declared.link.LinkSettings.{LinkSettings}
use Rattle.link_loop.specs.declared.TheConstants.{PACER}
use Rattle.link_loop.specs.declared.looper.Looper.{Looper}
use Rattle.link_loop.specs.Looping.{Looping, is_open, grown, with_offers, paced}
use Rattle.link_loop.specs.Kept.{IsAt, IsSound, IsSendable, HasFitCall}
use Rattle.link_loop.proofs.Steps.{open-by, at-grown}
use Rattle.link_loop.proofs.Sends.{sends-from, all-sendable}

-- the records of a reply to a pace
records-are : (h : List Entry) (at moment_ : ℕ) (r : Reply) (records : Listed Sent) (rs : List Sent) → r ≡ reply h (call.Pace at) → r ≡ given.Paced moment_ records → rs ≡ records.items
    → rs ≡ sent_by (reply h (call.Pace at))
records-are h at moment_ r records rs is paced_is rs_are = rs_are ∙ ap sent_by (sym paced_is ∙ is)

pub records-sendable : (l mid : Looper) (at moment_ : ℕ) (r : Reply) (records : Listed Sent) (rs : List Sent) → IsSound l → mid ≡ l → r ≡ reply mid.sender (call.Pace at)
    → r ≡ given.Paced moment_ records → rs ≡ records.items → All IsSendable rs
records-sendable l mid at moment_ r records rs sound mid_is is paced_is rs_are =
    let fit : All HasFitCall mid.sender = subst (λ (k : Looper). All HasFitCall k.sender) (sym mid_is) sound.fit in
    subst (All IsSendable) (sym (records-are mid.sender at moment_ r records rs is paced_is rs_are))
    (all-sendable (length (sent mid.sender)) (sent_by (reply mid.sender (call.Pace at))) (sends-from mid.sender at fit))

pub pace-open : (l mid new last : Looper) (b : Bool) (audio video t at moment_ : ℕ) (r : Reply) (records : Listed Sent) (rs : List Sent) (s : LinkSettings) (m : Looping)
    → b ≡ (not l.over && nat_lt (length l.sender) MOST_ENTRIES) → b ≡ true → mid ≡ l → at ≡ moment t
    → new ≡ record mid { sender = mid.sender ++ entry PACER (call.Pace at) (reply mid.sender (call.Pace at)) ∷ []; audio = audio; video = video }
    → r ≡ reply mid.sender (call.Pace at) → r ≡ given.Paced moment_ records → rs ≡ records.items
    → ((s : LinkSettings) (m : Looping) → IsAt new s m → IsAt last s (with_offers at rs m)) → IsAt l s m → IsAt last s (paced t m)
unfolding paced
pace-open l mid new last b audio video t at moment_ r records rs s m value opened mid_is at_is is reply_is paced_is rs_are all h =
    let e : is_open m ≡ true = open-by l b true s m value opened h in
    let after : IsAt new s (grown PACER (call.Pace at) m) = at-grown l mid new audio video PACER (call.Pace at) s m mid_is is h in
    let same : mid.sender ≡ m.history = ap (λ (k : Looper). k.sender) mid_is ∙ h.history in
    let are : rs ≡ sent_by (reply m.history (call.Pace at)) =
    records-are mid.sender at moment_ r records rs reply_is paced_is rs_are ∙ ap (λ (es : List Entry). sent_by (reply es (call.Pace at))) same in
    let P : List Sent → Type 0 = λ xs. IsAt last s (with_offers at xs (grown PACER (call.Pace at) m)) in
    let Q : ℕ → Type 0 = λ n. IsAt last s (with_offers n (sent_by (reply m.history (call.Pace n))) (grown PACER (call.Pace n) m)) in
    rw e (subst Q at_is (subst P are (all s (grown PACER (call.Pace at) m) after)))
