-- One NACK more.
use Rattle.std.proofs.Common.{◌≡◌, ℕ, None, ◌+◌, List, [], ◌∷◌, ◌++◌, length, map, fold, refl, sym, ◌∙◌, ap, arith, length-append}
use Rattle.std.proofs.lemmas.List.{length-map}
use Rattle.send_core.specs.declared.call.Call.{Call}
use Rattle.send_core.specs.declared.call.Entry.{Entry}
use Rattle.send_core.specs.declared.call.Reply.{Reply}
use Rattle.send_core.specs.declared.call.Reply.TheVariants.{Accepted, Paced, Credited, Configured, Refused}
use Rattle.send_core.specs.Reply.{extension_id}
use Rattle.send_core.specs.History.{entry}
use Rattle.send_core.specs.Reply.{reply}
use Rattle.nack_rtx.specs.declared.resender.RtxSettings.{RtxSettings}
use Rattle.nack_rtx.specs.declared.resender.Resend.{Resend}
use Rattle.nack_rtx.specs.declared.resender.Answered.{Answered}
use Rattle.nack_rtx.specs.Spelling.{Asked}
use Rattle.nack_rtx.specs.Resending.{Event, asked, account, verdicts, told}
use Rattle.nack_rtx.specs.Keeping.{StandsFor}
use Rattle.shared_sender.specs.Served.{journal_of}
use Rattle.resending.specs.declared.server.Server.{Server}
use Rattle.resending.specs.Serving.{Serving, called, answer_to, resend_call, nack_line, served_nack}
use Rattle.resending.specs.Standing.{IsAt, id_after}
use Rattle.resending.proofs.Lines.{id-push}

-- packets that are handed in name no ID
id-resends : (h : List Entry) (at : ℕ) (rs : List Resend) → extension_id (fold called h (map (resend_call at) rs)) ≡ extension_id h
id-resends h at [] = refl
id-resends h at (r ∷ rs) = id-resends (called h (resend_call at r)) at rs ∙ (id-push h (resend_call at r) ∙ no_id (extension_id h) (reply h (resend_call at r)))
  where
    no_id : (id : ℕ) (given : Reply) → id_after id None given ≡ id
    no_id id (Accepted moment index) = refl
    no_id id (Paced moment records) = refl
    no_id id (Credited moment judged signal m acked rates shares) = refl
    no_id id (Configured moment rates shares) = refl
    no_id id (Refused moment cause) = refl

-- so many entries more
pub length-called : (h : List Entry) (calls : List Call) → length (fold called h calls) ≡ length h + length calls
length-called h [] = omega arith
length-called h (c ∷ cs) = let rest = length-called (called h c) cs in let one = length-append h (entry 0 c (reply h c) ∷ []) in omega (arith, rest, one)

-- what the resender answers is what the NACK's numbers come to
pub answered-is : (s : RtxSettings) (v : Serving) (old : Server) (nack : Asked) (answered : Answered) → IsAt s v old
    → ((events : List Event) → StandsFor old.resender events → answered ≡ told (verdicts old.resender.settings nack.media (account old.resender.settings events) nack.lost))
    → answered ≡ answer_to s v.events nack
answered-is s v old nack answered is tells = tells v.events is.events ∙ ap (λ t. told (verdicts t nack.media (account t v.events) nack.lost)) is.settings

pub nack-served : (s : RtxSettings) (v : Serving) (old new : Server) (at : ℕ) (nack : Asked) (answered : Answered) → IsAt s v old
    → answered ≡ answer_to s v.events nack
    → journal_of new.seat.seen ≡ fold called (journal_of old.seat.seen) (map (resend_call at) answered.resends.items)
    → new.resender.settings ≡ old.resender.settings
    → ((events : List Event) → StandsFor old.resender events → StandsFor new.resender (events ++ asked nack.media nack.lost ∷ []))
    → new.extension_id ≡ old.extension_id
    → new.nacks.items ≡ old.nacks.items ++ nack_line nack.lost answered ∷ []
    → new.glances.items ≡ old.glances.items → IsAt s (served_nack s v at nack) new
unfolding served_nack
nack-served s v old new at nack answered is told_so grows settings kept id nacks glances = record {
  history = grows ∙ (ap (λ h. fold called h (map (resend_call at) answered.resends.items)) is.history
      ∙ ap (λ (a : Answered). fold called v.history (map (resend_call at) a.resends.items)) told_so);
  settings = settings ∙ is.settings;
  events = kept v.events is.events;
  id = id ∙ (is.id ∙ sym (id-resends v.history at (answer_to s v.events nack).resends.items));
  nacks = nacks ∙ (ap (λ ls. ls ++ nack_line nack.lost answered ∷ []) is.nacks ∙ ap (λ a. v.nacks ++ nack_line nack.lost a ∷ []) told_so);
  glances = glances ∙ is.glances;
}

-- how many entries there are after a NACK
pub length-nack : (s : RtxSettings) (v : Serving) (at : ℕ) (nack : Asked) → length (served_nack s v at nack).history ≡ length v.history + length (answer_to s v.events nack).resends.items
unfolding served_nack
length-nack s v at nack =
    let rs : List Resend = (answer_to s v.events nack).resends.items in
    let n = length-called v.history (map (resend_call at) rs) in
    let m = length-map rs (resend_call at) in
    omega (arith, n, m)

-- one packet more that is handed in
pub resends-push : (h : List Entry) (at : ℕ) (rs : List Resend) (r : Resend)
    → called (fold called h (map (resend_call at) rs)) (resend_call at r) ≡ fold called h (map (resend_call at) (rs ++ r ∷ []))
resends-push h at [] r = refl
resends-push h at (x ∷ rs) r = resends-push (called h (resend_call at x)) at rs r
