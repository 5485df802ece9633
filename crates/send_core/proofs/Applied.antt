-- What a sender's own facts say while a call is served.
use Rattle.std.proofs.Common.{◌≡◌, ℕ, List, length, map, All, sym, ◌∙◌, ap, subst}
use Rattle.rtp_wire.specs.Wires.{bare_wires}
use Rattle.pacer.specs.declared.pacing.Pacing.{Pacing}
use Rattle.pacer.specs.declared.pacing.Tally.{Tally}
use Rattle.pacer.specs.Pace.{NamesBelow}
use Rattle.pacer.specs.State.{tally}
use Rattle.send_core.specs.declared.call.Call.{Call}
use Rattle.send_core.specs.declared.call.Reply.{Reply}
use Rattle.send_core.specs.declared.call.Entry.{Entry}
use Rattle.send_core.specs.declared.parts.Parts.{Parts}
use Rattle.send_core.specs.declared.settings.Settings.{Settings}
use Rattle.send_core.specs.History.{accepted, sent_by}
use Rattle.send_core.specs.Levels.{tally_of, rate}
use Rattle.send_core.specs.Reply.{reply}
use Rattle.send_core.specs.Stands.{IsReadable, StandsFor}
use Rattle.send_core.specs.Wires.{wire_of, wires}
use Rattle.send_core.proofs.LawsKept.{adds}

pub readable-all : (h kept : List Entry) (p : Parts) → StandsFor p h → kept ≡ h → All (IsReadable p.settings.extension_id) (accepted kept)
readable-all h kept p s same =
    subst (λ es. All (IsReadable p.settings.extension_id) (accepted es)) (sym same)
    (subst (λ (t : Settings). All (IsReadable t.extension_id) (accepted h)) (sym s.set) s.laws.readable)

pub known-all : (h kept : List Entry) (p : Parts) (call : Call) (given : Reply) → StandsFor p h → kept ≡ h → given ≡ reply h call → All (NamesBelow (length (accepted kept))) (sent_by given)
known-all h kept p call given s same is =
    subst (λ es. All (NamesBelow (length (accepted es))) (sent_by given)) (sym same) (adds h call given s.laws is).known

same-tally : (a b c d e f : ℕ) → a ≡ b → c ≡ d → e ≡ f → ◌≡◌ {A = Tally} (record { rate = a; window = c; padding_rate = e }) (record { rate = b; window = d; padding_rate = f })
same-tally a b c d e f g h i = cc

pub tally-is : (h : List Entry) (p : Parts) → StandsFor p h → tally p.pacer ≡ tally_of h
tally-is h p s =
    same-tally p.pacer.rate (rate h) p.pacer.pacing.window _ p.pacer.pacing.padding_rate _ s.in_force (ap (λ (x : Pacing). x.window) s.pacing) (ap (λ (x : Pacing). x.padding_rate) s.pacing)

pub wires-are : (h kept : List Entry) (p : Parts) (given told : Reply) → StandsFor p h → kept ≡ h → told ≡ given
    → bare_wires (map (wire_of p.settings.extension_id (accepted kept)) (sent_by given)) ≡ bare_wires (wires h told)
wires-are h kept p given told s same is =
    ap (λ es. bare_wires (map (wire_of p.settings.extension_id (accepted es)) (sent_by given))) same
    ∙ (ap (λ (t : Settings). bare_wires (map (wire_of t.extension_id (accepted h)) (sent_by given))) s.set
    ∙ ap (λ r. bare_wires (wires h r)) (sym is))
