-- What a call more makes of what a maker keeps.
use Rattle.std.proofs.Common.{◌≡◌, ℕ, ◌+◌, ◌-◌, ◌<◌, ◌≤◌, Bool, true, false, List, [], ◌∷◌, ◌++◌, length, take, replicate, map, nat_lt, Vec, Global, if◌then◌else◌, refl, sym, ◌∙◌, ap, arith, length-append}
use Rattle.std.proofs.lemmas.Bool.Decides.{nat_tests}
use Rattle.std.proofs.lemmas.List.Sums.{sum_by_push}
use Rattle.std.proofs.lemmas.List.{take_all}
use Rattle.std.proofs.lemmas.Simd.{splat_is_map}
use Rattle.gcc_units.proofs.Walk.{flat_map-push}
use Rattle.rand_core.specs.Stream.{Stream}
use Rattle.send_core.specs.declared.call.Call.{Call}
use Rattle.send_core.specs.declared.call.Reply.{Reply}
use Rattle.send_core.specs.declared.call.Entry.{Entry}
use Rattle.send_core.specs.History.{entry}
use Rattle.send_core.specs.Reply.{reply}
use Rattle.call_trace.specs.declared.making.Maker.{Maker}
use Rattle.call_trace.specs.MadeReports.{words_at}
use Rattle.call_trace.specs.Making.{is_audio, is_video, is_report, count_of, moments_by, moments, Making, asked}
use Rattle.call_trace.specs.Makers.{making, IsCounted}

pub asked-full : (call : Call) (m : Making) → m.calls ≤ length m.history → asked call m ≡ m
unfolding asked
asked-full call m full = by_room (nat_lt (length m.history) m.calls) (grind (arith, nat_tests))
  where
    by_room : (room : Bool) → room ≡ false → (if room then record m { history = m.history ++ entry 0 call (reply m.history call) ∷ [] } else m) ≡ m
    by_room true not_full = cc
    by_room false not_full = refl

pub asked-more : (call : Call) (m : Making) → length m.history < m.calls → asked call m ≡ record m { history = m.history ++ entry 0 call (reply m.history call) ∷ [] }
unfolding asked
asked-more call m room = by_room (nat_lt (length m.history) m.calls) (grind (arith, nat_tests))
  where
    by_room : (room : Bool) → room ≡ true → (if room then record m { history = m.history ++ entry 0 call (reply m.history call) ∷ [] } else m) ≡ record m { history = m.history ++ entry 0 call (reply m.history call) ∷ [] }
    by_room true not_full = refl
    by_room false not_full = cc

pub count_of-push : (test : Call → Bool) (h : List Entry) (call : Call) (given : Reply) → count_of test (h ++ entry 0 call given ∷ []) ≡ count_of test h + (if test call then 1 else 0)
count_of-push test h call given = sum_by_push (λ (e : Entry). if test e.call then 1 else 0) h (entry 0 call given)

pub moments-push : (h : List Entry) (call : Call) (given : Reply) → moments (h ++ entry 0 call given ∷ []) ≡ moments h ++ moments_by given
moments-push h call given = flat_map-push (λ (e : Entry). moments_by e.reply) h (entry 0 call given)

-- the counts after a call, in the fields that a maker has then
pub record IsServed (k after : Maker) (call : Call) (given : Reply) : Type 0 where
  pub sender : after.sender ≡ k.sender ++ entry 0 call given ∷ []
  pub calls : after.calls ≡ k.calls
  pub audio : after.audio ≡ k.audio + (if is_audio call then 1 else 0)
  pub video : after.video ≡ k.video + (if is_video call then 1 else 0)
  pub reports : after.reports ≡ k.reports + (if is_report call then 1 else 0)
  pub sends : after.moments.items ≡ k.moments.items ++ moments_by given
  pub covered : after.covered ≡ k.covered
  pub words : after.words ≡ k.words

pub served : (k counted : Maker) (sender : List Entry) (sends : Vec ℕ Global) (call : Call) (given : Reply)
    → counted ≡ record k { audio = k.audio + (if is_audio call then 1 else 0); video = k.video + (if is_video call then 1 else 0); reports = k.reports + (if is_report call then 1 else 0) }
    → sender ≡ counted.sender ++ entry 0 call given ∷ [] → sends.items ≡ counted.moments.items ++ moments_by given → IsServed k (record counted { sender = sender; moments = sends }) call given
served k counted sender sends call given is grows more = record {
  sender = grows ∙ ap (λ (x : Maker). x.sender ++ entry 0 call given ∷ []) is;
  calls = ap (λ (x : Maker). x.calls) is;
  audio = ap (λ (x : Maker). x.audio) is;
  video = ap (λ (x : Maker). x.video) is;
  reports = ap (λ (x : Maker). x.reports) is;
  sends = more ∙ ap (λ (x : Maker). x.moments.items ++ moments_by given) is;
  covered = ap (λ (x : Maker). x.covered) is;
  words = ap (λ (x : Maker). x.words) is;
}

pub counted-push : (k after : Maker) (call : Call) (given : Reply) → IsServed k after call given → IsCounted k → IsCounted after
counted-push k after call given served counted = record {
  audio = served.audio ∙ (ap (λ n. n + (if is_audio call then 1 else 0)) counted.audio ∙ (sym (count_of-push is_audio k.sender call given) ∙ ap (count_of is_audio) (sym served.sender)));
  video = served.video ∙ (ap (λ n. n + (if is_video call then 1 else 0)) counted.video ∙ (sym (count_of-push is_video k.sender call given) ∙ ap (count_of is_video) (sym served.sender)));
  reports = served.reports ∙ (ap (λ n. n + (if is_report call then 1 else 0)) counted.reports ∙ (sym (count_of-push is_report k.sender call given) ∙ ap (count_of is_report) (sym served.sender)));
  sends = served.sends ∙ (ap (λ ms. ms ++ moments_by given) counted.sends ∙ (sym (moments-push k.sender call given) ∙ ap moments (sym served.sender)));
  within = within k after call given served counted;
  few = omega (arith, served.calls, counted.few);
}
  where
    within : (k after : Maker) (call : Call) (given : Reply) → IsServed k after call given → IsCounted k → after.covered ≤ length (moments after.sender)
    within k after call given served counted =
        let longer : length (moments after.sender) ≡ length (moments k.sender) + length (moments_by given) =
        ap (λ h. length (moments h)) served.sender ∙ (ap length (moments-push k.sender call given) ∙ length-append (moments k.sender) (moments_by given)) in
        omega (arith, longer, served.covered, counted.within)

pub making-push : (k after : Maker) (call : Call) (given : Reply) → IsServed k after call given → given ≡ reply k.sender call → length k.sender < k.calls → making after ≡ asked call (making k)
making-push k after call given served is room =
    let with_all : List Entry → Stream → ℕ → ℕ → Making = λ h w n c. record { history = h; words = w; covered = n; calls = c } in
    ap (λ h. with_all h (words_at after.words) after.covered after.calls) (served.sender ∙ ap (λ (r : Reply). k.sender ++ entry 0 call r ∷ []) is)
    ∙ (ap (λ w. with_all (k.sender ++ entry 0 call (reply k.sender call) ∷ []) (words_at w) after.covered after.calls) served.words
    ∙ (ap (λ n. with_all (k.sender ++ entry 0 call (reply k.sender call) ∷ []) (words_at k.words) n after.calls) served.covered
    ∙ (ap (λ n. with_all (k.sender ++ entry 0 call (reply k.sender call) ∷ []) (words_at k.words) k.covered n) served.calls ∙ sym (asked-more call (making k) room))))

-- ---- moments put at the end

pub resized : {X : Type 0} (old : List ℕ) (sends : List X) (len n at : ℕ) → len ≡ length old → n ≡ len + length sends → take n old ++ replicate (n - len) at ≡ old ++ map (λ (x : X). at) sends
resized old sends len n at is long =
    let rest : n - len ≡ length sends = omega arith in
    let front : take n old ≡ old = take_all n old (omega arith) in
    ap (λ xs. xs ++ replicate (n - len) at) front ∙ (ap (λ k. old ++ replicate k at) rest ∙ ap (λ xs. old ++ xs) (splat_is_map sends (length sends) at refl))
