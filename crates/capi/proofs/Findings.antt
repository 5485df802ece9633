-- What the last feedback told: with one report more, and with one packet less.
use Rattle.std.proofs.Common.{◌≡◌, ℕ, zero, suc, ◌≤◌, if◌then◌else◌, None, Some, List, [], ◌∷◌, ◌++◌, length, drop, refl, sym, ◌∙◌, ap}
use Rattle.std.specs.List.{slice_get}
use Rattle.std.proofs.Math.ListN.{drop_of_length-le}
use Rattle.std.proofs.lemmas.Option.{none-some}
use Rattle.std.proofs.lemmas.List.{append-nil, drop-append-le}
use Rattle.sent_history.specs.declared.finding.Finding.{Finding}
use Rattle.send_core.specs.declared.call.Entry.{Entry}
use Rattle.send_core.specs.declared.call.Reply.{Reply}
use Rattle.send_core.specs.declared.call.Reply.TheVariants.{Accepted, Paced, Credited, Configured, Refused}
use Rattle.send_core.specs.Reports.{findings_by}
use Rattle.live_sender.specs.Replies.{is_judged}
use Rattle.capi.specs.Hearing.{findings_told}

pub findings-more : (told : ℕ) (old more new : List Finding) → told ≤ length old → new ≡ old ++ more → drop told new ≡ drop told old ++ more
findings-more told old more new few is = ap (λ (xs : List Finding). drop told xs) is ∙ drop-append-le told old more few

-- only a report that was judged tells anything
pub told-if : (old : List Finding) (h : List Entry) (report : List ℕ) (r : Reply) → (if is_judged r then old ++ findings_by h report else old) ≡ old ++ findings_told h report r
told-if old h report (Accepted moment index) = sym (append-nil old)
told-if old h report (Paced moment records) = sym (append-nil old)
told-if old h report (Credited moment judged signal m acked rates shares) = refl
told-if old h report (Configured moment rates shares) = sym (append-nil old)
told-if old h report (Refused moment cause) = sym (append-nil old)

pub found-next : (told : ℕ) (items : List Finding) (f : Finding) → slice_get items told ≡ Some f → drop told items ≡ f ∷ drop (suc told) items
found-next zero [] f is = absurd (none-some f is)
found-next zero (x ∷ xs) f is = let same : x ≡ f = cc in ap (λ (y : Finding). y ∷ xs) same
found-next (suc told) [] f is = absurd (none-some f is)
found-next (suc told) (x ∷ xs) f is = found-next told xs f is

pub found-past : (told : ℕ) (items : List Finding) → slice_get items told ≡ None → drop told items ≡ []
found-past zero [] is = refl
found-past zero (x ∷ xs) is = absurd (none-some x (sym is))
found-past (suc told) [] is = refl
found-past (suc told) (x ∷ xs) is = found-past told xs is

pub found-end : (told : ℕ) (items : List Finding) → length items ≤ told → drop told items ≡ []
found-end told items over = drop_of_length-le items over
